-- What is written so is found by the reader.
use Rattle.std.proofs.Common.{◌≡◌, ◌≢◌, ℕ, ◌≤◌, ◌<◌, zero, suc, List, [], ◌∷◌, ◌++◌, true, cond, Some, None}
use Rattle.std.proofs.Common.{refl, sym, ap, ◌∙◌, arith, append_assoc, append-nil, lit<}
use Rattle.std.specs.Option.{option_and_then}
use Rattle.std.proofs.lemmas.Option.{same_Some, none-some}
use Rattle.std.proofs.lemmas.Bool.{le-leb, lt-leb}
use Rattle.prop_terms.specs.declared.operators.Prefix.{Prefix}
use Rattle.prop_terms.specs.declared.operators.Infix.{Infix}
use Rattle.prop_terms.specs.declared.operators.Infix.TheVariants as between
use Rattle.prop_terms.specs.declared.tokens.Shape.{Shape}
use Rattle.prop_terms.specs.declared.tokens.Shape.TheVariants.{Round, Curly}
use Rattle.prop_terms.specs.Levels.{Side, OnTheLeft, OnTheRight, OnNeither, level_of, strength_of, leaf_level}
use Rattle.prop_terms.specs.Levels.{bracket_level, side_at, left_by, right_by, left_at, right_at}
use Rattle.prop_terms.specs.Terms.{Term, Number, Name}
use Rattle.prop_terms.specs.Tokens.{Token, Numeral, Word, Before, Between, Close}
use Rattle.prop_terms.specs.Writing.{Writes, numeral, word, enclosed, leading, joining, ahead, inside}
use Rattle.prop_terms.specs.inner.Machine.{Frame, Bracket, Ahead, Behind, Held, Want, Have, asks, demand}
use Rattle.prop_terms.specs.inner.Machine.{joined, rank, shut, shut_in, leaf, lead, begin, join, is_same}
use Rattle.prop_terms.specs.inner.Machine.{close, run, whole, end, parsed}
use Rattle.prop_terms.specs.Writing.{HaveOneReading}

-- ---- levels

-- what comes with level c makes whatever stands at p or higher
abbrev Closes : ℕ → ℕ → Type 0
Closes c p = (l : ℕ) → p ≤ l → c < right_at l

at_least : (s : Side) (l : ℕ) → l ≤ right_by s l
at_least OnTheLeft l = omega arith
at_least OnTheRight l = omega arith
at_least OnNeither l = omega arith

left_least : (s : Side) (l : ℕ) → l ≤ left_by s l
left_least OnTheLeft l = omega arith
left_least OnTheRight l = omega arith
left_least OnNeither l = omega arith

left_not_right : OnTheLeft ≡ OnTheRight → ⊥
left_not_right e = cc

-- one level has one side
apart : (s u : Side) (l k : ℕ) → (l ≡ k → s ≡ u) → left_by s l ≤ k → l < right_by u k
apart OnTheLeft OnTheLeft l k same q = omega arith
apart OnTheLeft OnTheRight l k same q = let ne : l ≢ k = λ e. left_not_right (same e) in omega arith
apart OnTheLeft OnNeither l k same q = omega arith
apart OnTheRight u l k same q = omega (arith, at_least u k)
apart OnNeither u l k same q = omega (arith, at_least u k)

closes_left : (l : ℕ) → Closes l (left_at l)
closes_left l k q = apart (side_at l) (side_at k) l k (λ e. ap side_at e) q

closes_all : (p : ℕ) → Closes 0 p
closes_all p zero q = lit< tt
closes_all p (suc l) q = omega (arith, at_least (side_at (suc l)) (suc l))

-- what makes a level makes what is inside it
closes_inside : (c p l : ℕ) → p ≤ l → Closes c p → Closes c (right_at l)
closes_inside c p l le h k q = h k (omega (arith, at_least (side_at l) l))

same_itself : (shape : Shape) → is_same shape shape ≡ true
same_itself Round = refl
same_itself Curly = refl

-- ---- what the reader comes to

-- The reader comes from where a term is to come to behind the tokens, and holds there what makes
-- the term.
record Reaches (p : ℕ) (vs : List Token) (t : Term) (fs : List Frame) (more : List Token) : Type 0 where
  held : Held
  level : ℕ
  above : p ≤ level
  goes : run (vs ++ more) (Want fs) ≡ run more (Have held)
  makes : (c : ℕ) → Closes c p → shut_in c held ≡ shut c fs t level

stays : (c : ℕ) (fs : List Frame) (t : Term) (l : ℕ) → demand fs ≤ c
    → shut c fs t l ≡ record { frames = fs; term = t; level = l }
stays c [] t l le = refl
stays c (f ∷ fs) t l le = ap (λ b. cond b (record { frames = f ∷ fs; term = t; level = l })
    (shut c fs (joined f t) (rank f))) (le-leb (asks f) c le)

makes_one : (c : ℕ) (f : Frame) (fs : List Frame) (t : Term) (l : ℕ) → c < asks f
    → shut c (f ∷ fs) t l ≡ shut c fs (joined f t) (rank f)
makes_one c f fs t l lt = ap (λ b. cond b (record { frames = f ∷ fs; term = t; level = l })
    (shut c fs (joined f t) (rank f))) (lt-leb (asks f) c lt)

leaf_goes : (token : Token) (t : Term) (fs : List Frame) (more : List Token) → begin token fs ≡ leaf t fs
    → demand fs ≤ leaf_level
    → run (token ∷ more) (Want fs) ≡ run more (Have (record { frames = fs; term = t; level = leaf_level }))
leaf_goes token t fs more e le =
    ap (option_and_then (run more)) (e
    ∙ ap (λ b. cond b (Some (Have (record { frames = fs; term = t; level = leaf_level }))) None)
    (le-leb (demand fs) leaf_level le))

begins_ahead : (token : Token) (op : Prefix) (fs : List Frame) → ahead token ≡ Some op → begin token fs ≡ lead op fs
begins_ahead (Before q) op fs m = ap (λ o. lead o fs) (same_Some _ _ m)
begins_ahead (Between between.Minus) op fs m = ap (λ o. lead o fs) (same_Some _ _ m)
begins_ahead token op fs m = absurd (none-some _ m)

lead_goes : (token : Token) (op : Prefix) (fs : List Frame) (more : List Token) → ahead token ≡ Some op
    → demand fs ≤ strength_of op → run (token ∷ more) (Want fs) ≡ run more (Want (Ahead op ∷ fs))
lead_goes token op fs more m le =
    ap (option_and_then (run more)) (begins_ahead token op fs m
    ∙ ap (λ b. cond b (Some (Want (Ahead op ∷ fs))) None) (le-leb (demand fs) (strength_of op) le))

close_goes : (shape : Shape) (held : Held) (fs : List Frame) (t : Term) (l : ℕ) (more : List Token)
    → shut_in 0 held ≡ shut 0 (Bracket shape ∷ fs) t l → run (Close shape ∷ more) (Have held)
    ≡ run more (Have (record { frames = fs; term = inside shape t; level = bracket_level }))
close_goes shape held fs t l more e =
    ap (λ h. option_and_then (run more) (close shape h)) (e ∙ stays 0 (Bracket shape ∷ fs) t l (omega arith))
    ∙ ap (λ b. option_and_then (run more)
    (cond b (Some (Have (record { frames = fs; term = inside shape t; level = bracket_level }))) None))
    (same_itself shape)

join_goes : (op : Infix) (held : Held) (fs : List Frame) (t : Term) (l : ℕ) (more : List Token)
    → shut_in (level_of op) held ≡ shut (level_of op) fs t l → demand fs ≤ level_of op
    → left_at (level_of op) ≤ l
    → run (Between op ∷ more) (Have held) ≡ run more (Want (Behind t op ∷ fs))
join_goes op held fs t l more e le above =
    ap (λ h. option_and_then (run more) (join op h)) (e ∙ stays (level_of op) fs t l le)
    ∙ ap (λ b. option_and_then (run more) (cond b (Some (Want (Behind t op ∷ fs))) None))
    (le-leb (left_at (level_of op)) l above)

reaches : (p : ℕ) (vs : List Token) (t : Term) → Writes p vs t → (fs : List Frame) (more : List Token)
    → demand fs ≤ p → Reaches p vs t fs more
reaches p vs t (numeral _ n l) fs more le = record {
  held = record { frames = fs; term = Number n; level = leaf_level };
  level = leaf_level;
  above = l;
  goes = leaf_goes (Numeral n) (Number n) fs more refl (omega arith);
  makes = λ c h. refl;
}
reaches p vs t (word _ w l) fs more le = record {
  held = record { frames = fs; term = Name w; level = leaf_level };
  level = leaf_level;
  above = l;
  goes = leaf_goes (Word w) (Name w) fs more refl (omega arith);
  makes = λ c h. refl;
}
reaches p vs t (enclosed _ shape ts u l w) fs more le =
    let r = reaches 0 ts u w (Bracket shape ∷ fs) (Close shape ∷ more) (omega arith) in
    record {
      held = record { frames = fs; term = inside shape u; level = bracket_level };
      level = bracket_level;
      above = l;
      goes = ap (λ l. run l (Want (Bracket shape ∷ fs))) (append_assoc ts (Close shape ∷ []) more) ∙ r.goes
          ∙ close_goes shape r.held fs u r.level more (r.makes 0 (closes_all 0));
      makes = λ c h. refl;
    }
reaches p vs t (leading _ token op ts u m l w) fs more le =
    let s = strength_of op in
    let r = reaches (right_at s) ts u w (Ahead op ∷ fs) more (omega arith) in
    record {
      held = r.held;
      level = s;
      above = l;
      goes = lead_goes token op fs (ts ++ more) m (omega arith) ∙ r.goes;
      makes = λ c h. r.makes c (closes_inside c p s l h) ∙ makes_one c (Ahead op) fs u r.level (h s l);
    }
reaches p vs t (joining _ op ts us a u l wa w) fs more le =
    let s = level_of op in
    let q = reaches (left_at s) ts a wa fs (Between op ∷ (us ++ more))
    (omega (arith, left_least (side_at s) s)) in
    let r = reaches (right_at s) us u w (Behind a op ∷ fs) more (omega arith) in
    record {
      held = r.held;
      level = s;
      above = l;
      goes = ap (λ l. run l (Want fs)) (append_assoc ts (Between op ∷ us) more) ∙ q.goes
          ∙ join_goes op q.held fs a q.level (us ++ more) (q.makes s (closes_left s)) (omega arith) q.above
          ∙ r.goes;
      makes = λ c h. r.makes c (closes_inside c p s l h) ∙ makes_one c (Behind a op) fs u r.level (h s l);
    }

-- what is written so is found by the reader
pub complete : (ts : List Token) (t : Term) → Writes 0 ts t → parsed ts ≡ Some t
complete ts t w =
    let r = reaches 0 ts t w [] [] (omega arith) in
    ap (option_and_then end) (ap (λ l. run l (Want [])) (sym (append-nil ts)) ∙ r.goes)
    ∙ ap (λ h. whole h.frames h.term) (r.makes 0 (closes_all 0))

pub have_one_reading : HaveOneReading
have_one_reading sort text t u v w = same_Some _ _ (sym (complete _ t v.0) ∙ complete _ u w.0)
