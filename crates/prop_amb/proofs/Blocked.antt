-- Every list before the one that stands has a listed part.
use Rattle.std.proofs.Common.{◌≡◌, ℕ, IsTrue, Bool, true, false, Some, List, refl, inl, inr, ◌⊎◌, ◌||◌}
use Rattle.std.proofs.lemmas.Bool.{cases_eq}
use Rattle.prop_numbers.specs.Sets.{Members, union, set_of}
use Rattle.prop_premises.specs.declared.choice.Choice.{Choice}
use Rattle.prop_premises.specs.ChoiceLists.{hypothetical, hypotheticals_of, worldview}
use Rattle.prop_cells.specs.Problems.{Problem}
use Rattle.prop_nogoods.proofs.StoreLaws.{has_part-more}
use Rattle.prop_amb.specs.Search.{Stand, IsStand, users_of, choices_in, reason_at, IsKept, AreKept, AllBeforeBlocked}
use Rattle.prop_amb.proofs.StandLaws.{has_reason}
use Rattle.prop_amb.proofs.SearchLaws.{Differs, differ, or_true_left, or_true_right}

pub kept_block : (problem : Problem) (s : Stand) → IsStand s → AreKept problem s → AllBeforeBlocked s
kept_block problem s stand are earlier is_earlier lt =
    let d : Differs choices earlier s.list = differ choices earlier s.list is_earlier stand.is_list lt in
    let r : (reason : List ℕ) × (reason_at s d.j d.side ≡ Some reason) =
    has_reason s stand d.j d.side d.stands d.stands_at d.from_one d.before in
    let k : IsKept problem s d.j d.choice d.side (set_of r.0) =
    are.kept d.j d.choice d.side r.0 d.choice_at d.from_one r.1 in
    has_part-more s.listed (union (set_of r.0) (hypotheticals_of choices earlier)) (worldview believed choices earlier)
    (λ p t. absorb (set_of r.0 p) (hypotheticals_of choices earlier p) (believed p)
    (λ in_reason. within d (set_of r.0) k p in_reason (cases_eq p (hypothetical d.choice d.side))) t)
    (k.covered earlier is_earlier)
  where
    choices : List Choice
    choices = choices_in s

    believed : Members
    believed = users_of s

    absorb : (x y z : Bool) → (x ≡ true → (z || y) ≡ true) → (x || y) ≡ true → (z || y) ≡ true
    absorb true y z f t = f refl
    absorb false y z f t = or_true_right z y t

    within : (d : Differs choices earlier s.list) (reason : Members) → IsKept problem s d.j d.choice d.side reason
        → (p : ℕ) → IsTrue (reason p) →
        (p ≡ hypothetical d.choice d.side) ⊎ (p ≡ hypothetical d.choice d.side → ⊥)
        → IsTrue (worldview believed choices earlier p)
    within d reason k p in_reason (inl e) =
        or_true_right (believed p) (hypotheticals_of choices earlier p) (rw e d.takes_side)
    within d reason k p in_reason (inr f) = elim (k.beside p in_reason f) [
      | inl b ↦ or_true_left (believed p) (hypotheticals_of choices earlier p) b
      | inr t ↦ or_true_right (believed p) (hypotheticals_of choices earlier p) (d.takes_rest p t)
    ]
