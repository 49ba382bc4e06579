-- Each term is written by its tokens.
use Rattle.std.proofs.Common.{◌≡◌, ℕ, ◌≤◌, List, [], ◌∷◌, ◌++◌, Bool, true, false, Some, refl, arith, lit≤}
use Rattle.std.specs.Prelude.{nat_le, cond}
use Rattle.std.proofs.lemmas.Bool.{leb-true}
use Rattle.prop_terms.specs.declared.operators.Prefix.{Prefix}
use Rattle.prop_terms.specs.declared.operators.Infix.{Infix}
use Rattle.prop_terms.specs.declared.operators.Prefix.TheVariants as before
use Rattle.prop_terms.specs.declared.operators.Infix.TheVariants as between
use Rattle.prop_terms.specs.declared.tokens.Shape.TheVariants.{Round, Curly}
use Rattle.prop_terms.specs.Levels.{level_of, strength_of, leaf_level, bracket_level, left_at, right_at}
use Rattle.prop_terms.specs.Terms.{Term, Number, Name, One, Two, Braces}
use Rattle.prop_terms.specs.Tokens.{Token, Open, Close}
use Rattle.prop_terms.specs.Writing.{Writes, numeral, word, enclosed, leading, joining, ahead}
use Rattle.prop_terms.specs.Printing.{mark_of, printed, AreWritten}

in_brackets : (p level : ℕ) (ts : List Token) (t : Term) → p ≤ bracket_level
    → ((q : ℕ) → q ≤ level → Writes q ts t) → (b : Bool) → nat_le p level ≡ b
    → Writes p (cond b ts (Open Round ∷ (ts ++ Close Round ∷ []))) t
in_brackets p level ts t low w true e = w p (leb-true p level e)
in_brackets p level ts t low w false e = enclosed p Round ts t low (w 0 (omega arith))

left_low : (op : Infix) → left_at (level_of op) ≤ bracket_level
left_low between.Semicolon = lit≤ tt
left_low op = lit≤ tt

right_low : (op : Infix) → right_at (level_of op) ≤ bracket_level
right_low between.Semicolon = lit≤ tt
right_low op = lit≤ tt

behind_low : (op : Prefix) → right_at (strength_of op) ≤ bracket_level
behind_low before.Negated = lit≤ tt
behind_low op = lit≤ tt

ahead_mark : (op : Prefix) → ahead (mark_of op) ≡ Some op
ahead_mark before.Negated = refl
ahead_mark op = refl

prints : (t : Term) (p : ℕ) → p ≤ bracket_level → Writes p (printed p t) t
prints (Number n) p low = in_brackets p leaf_level _ (Number n) low (λ q l. numeral q n l) (nat_le p leaf_level) refl
prints (Name w) p low = in_brackets p leaf_level _ (Name w) low (λ q l. word q w l) (nat_le p leaf_level) refl
prints (One op t) p low =
    let s = strength_of op in
    in_brackets p s _ (One op t) low (λ q l. leading q (mark_of op) op (printed (right_at s) t) t (ahead_mark op) l
    (prints t (right_at s) (behind_low op))) (nat_le p s) refl
prints (Two op t u) p low =
    let s = level_of op in
    in_brackets p s _ (Two op t u) low (λ q l. joining q op (printed (left_at s) t) (printed (right_at s) u) t u l
    (prints t (left_at s) (left_low op)) (prints u (right_at s) (right_low op))) (nat_le p s) refl
prints (Braces t) p low = enclosed p Curly (printed 0 t) t low (prints t 0 (omega arith))

pub are_written : AreWritten
are_written t = prints t 0 (omega arith)
