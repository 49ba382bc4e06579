-- Statements that are still there, or whose premises are gone.
use Rattle.std.proofs.Common.{◌≡◌, ℕ, Bool, true, false, ◌||◌, List, Option, subst, refl, IsTrue, All, Contains}
use Rattle.std.proofs.Common.{◌⊎◌, inl, inr, ◌+◌, ◌<◌, ◌≤◌, ◌==◌, ◌&&◌, [], ◌∷◌, length, take, get_or, sym, arith}
use Rattle.std.proofs.Common.{eq-eqb}
use Rattle.std.proofs.lemmas.Bool.{eqb-true}
use Rattle.std.proofs.lemmas.List.{get_or-take, length-take}
use Rattle.std.proofs.lemmas.List.Elements.{All-more, All-weaker}
use Rattle.prop_numbers.specs.Sets.{IsPart, IsSame, Members, is_within, set_of, union}
use Rattle.prop_premises.specs.ChoiceLists.{is_hypothetical}
use Rattle.prop_premises.specs.declared.choice.Choice.{Choice}
use Rattle.prop_cells.specs.Points.{Attached}
use Rattle.prop_cells.specs.Problems.{is_member}
use Rattle.prop_cells.specs.declared.instance.Statement.{Statement}
use Rattle.prop_refuting.proofs.MeetLemmas.{or_first, or_second}
use Rattle.prop_lessons.specs.Lessons.{PastOf}
use Rattle.prop_lessons.specs.inner.Standing.{AreSidesOut, Begin, IsThere, IsThereOrGone}

or_cases : (a b : Bool) → IsTrue (a || b) → IsTrue a ⊎ IsTrue b
or_cases true b h = inl refl
or_cases false b h = inr h

first_of_both : (a b : Bool) → IsTrue (a && b) → IsTrue a
first_of_both true b h = refl
first_of_both false b h = h

second_of_both : (a b : Bool) → IsTrue (a && b) → IsTrue b
second_of_both true b h = h
second_of_both false b h = let no : ⊥ = cc in absurd no

-- where no premise of the set is gone, and no side, the statements under them are there
there_but_gone : (statements : List Statement) (choices : List Choice) (s gone : Members) (x : Statement)
    → ((p : ℕ) → IsTrue (s p) → gone p ≡ false) → AreSidesOut choices gone → IsThereOrGone statements gone x
    → IsTrue (is_member (union s (is_hypothetical choices)) x.premise) → Contains statements x
there_but_gone statements choices s gone x stay out (inl there) member = there
there_but_gone statements choices s gone x stay out (inr g) member =
    let P : Option ℕ → Type 0 = λ o. IsTrue (is_member (union s (is_hypothetical choices)) o) in
    elim (or_cases (s g.0) (is_hypothetical choices g.0) (subst P g.1 member)) [
      | inl own ↦ (let e = stay g.0 own in let h = g.2 in let no : ⊥ = cc in absurd no)
      | inr side ↦ (let e = out g.0 side in let h = g.2 in let no : ⊥ = cc in absurd no)
    ]

pub is_there : (past : PastOf) (n : Attached) (choices : List Choice) (s gone : Members)
    → Begin past.attached.kinds n.kinds → Begin past.attached.instances n.instances → Begin past.choices choices
    → All (IsThereOrGone n.statements gone) past.attached.statements → AreSidesOut past.choices gone
    → ((p : ℕ) → IsTrue (s p) → gone p ≡ false) → IsThere past n choices s
is_there past n choices s gone kinds instances begun there out stay = record {
  kinds = kinds;
  instances = instances;
  sides = begun;
  statements = All-weaker (IsThereOrGone n.statements gone)
      (λ (x : Statement). IsTrue (is_member (union s (is_hypothetical past.choices)) x.premise)
      → Contains n.statements x)
      (λ x h. there_but_gone n.statements past.choices s gone x stay out h) past.attached.statements there;
}

-- what is gone stays so
pub gone_grows : (statements : List Statement) (gone more : Members) → IsPart gone more → (x : Statement)
    → IsThereOrGone statements gone x → IsThereOrGone statements more x
gone_grows statements gone more part x (inl there) = inl there
gone_grows statements gone more part x (inr g) = inr (g.0, g.1, part g.0 g.2)

pub there_more : (statements xs : List Statement) (i : ℕ) (x : Statement) (gone more : Members) → i < length xs
    → x ≡ get_or xs i x → IsPart gone more → IsThereOrGone statements more x
    → All (IsThereOrGone statements gone) (take i xs) → All (IsThereOrGone statements more) (take (i + 1) xs)
there_more statements xs i x gone more l e part here h =
    let P : Statement → Type 0 = IsThereOrGone statements more in
    All-more P xs i x l
    (All-weaker (IsThereOrGone statements gone) P (gone_grows statements gone more part) (take i xs) h) (subst P e here)

pub there_all : (P : Statement → Type 0) (xs : List Statement) (n : ℕ) → length xs ≤ n → All P (take n xs) → All P xs
there_all P xs n l h k d m =
    subst P (get_or-take n xs k d (omega (arith, m, l))) (h k d (rw length-take (omega (arith, m, l))))

-- one more premise
pub more_part : (s t : Members) (p : ℕ) → IsSame t (union s (set_of (p ∷ []))) → IsPart s t
more_part s t p same q h = let P : Bool → Type 0 = IsTrue in
    subst P (sym (same q)) (or_first (s q) (set_of (p ∷ []) q) h)

pub more_has : (s t : Members) (p : ℕ) → IsSame t (union s (set_of (p ∷ []))) → IsTrue (t p)
more_has s t p same = let P : Bool → Type 0 = IsTrue in
    subst P (sym (same p)) (or_second (s p) (set_of (p ∷ []) p)
    (or_first (p == p) false (eq-eqb p p refl)))

-- a set that has each of these numbers
pub within_part : (s : Members) (ps : List ℕ) → IsTrue (is_within s ps) → IsPart (set_of ps) s
within_part s [] h p k = let no : ⊥ = cc in absurd no
within_part s (q ∷ ps) h p k = elim (or_cases (q == p) (set_of ps p) k) [
  | inl here ↦ (let P : ℕ → Type 0 = λ r. IsTrue (s r) in
      subst P (eqb-true q p here) (first_of_both (s q) (is_within s ps) h))
  | inr there ↦ within_part s ps (second_of_both (s q) (is_within s ps) h) p there
]
