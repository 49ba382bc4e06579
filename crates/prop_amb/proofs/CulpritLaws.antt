-- What a nogood speaks against, while choices are looked at from the last on.
use Rattle.std.proofs.Common.{◌≡◌, ◌∙◌, ℕ, ◌≤◌, IsTrue, false, List, [], length, Some, Contains, not, ◌+◌, ◌<◌, ◌==◌}
use Rattle.std.proofs.Common.{sym, inl, inr, arith, slice_get, slice_index_or}
use Rattle.std.proofs.lemmas.Bool.{or_cases, and_parts}
use Rattle.std.proofs.lemmas.List.Elements.{Contains-get_or}
use Rattle.prop_numbers.specs.Sets.{Members, IsSame, set_of, union, without}
use Rattle.prop_premises.specs.declared.choice.Choice.{Choice}
use Rattle.prop_premises.specs.ChoiceLists.{hypothetical}
use Rattle.prop_amb.specs.inner.Joined.{others_of}
use Rattle.prop_amb.specs.Search.{Stand}
use Rattle.prop_amb.specs.Culprits.{IsCulprit}
use Rattle.prop_amb.specs.Culprits.IsCulprit.{joined}
use Rattle.prop_amb.proofs.ZipLemmas.{index_at}
use Rattle.prop_amb.proofs.LookingLaws.{StandsAt, is_its_side}
use Rattle.prop_amb.proofs.ResolvingLaws.{others_from}

-- culprits, joined with the reasons that are kept of a choice whose last side is one of them, are culprits
pub joined_culprits : (s : Stand) (n : List ℕ) (j : ℕ) (c : Choice) (side : ℕ) (set m : Members) (kept : List (List ℕ))
    → StandsAt s j c side → c.sides ≤ side → slice_get s.reasons j ≡ Some kept → IsTrue (set (hypothetical c side)) →
    IsSame m (union (without set (hypothetical c side)) (others_of c.first kept))
    → ((p : ℕ) → IsTrue (set p) → IsCulprit s n p) → (p : ℕ) → IsTrue (m p) → IsCulprit s n p
joined_culprits s n j c side set m kept here last kept_at holds m_is known p in_m =
    elim (or_cases (without set (hypothetical c side) p) (others_of c.first kept p) (sym (m_is p) ∙ in_m)) [
      | inl e ↦ known p (and_parts (set p) (not (hypothetical c side == p)) e).0
      | inr e ↦ of_kept (others_from c.first kept p e)
    ]
  where
    same : side ≡ c.sides
    same = omega (arith, last, (is_its_side s j c side here).1)

    blamed : IsCulprit s n (hypothetical c c.sides)
    blamed = rw same at (known (hypothetical c side) holds)

    of_kept : (k : ℕ) × (k < length kept) × IsTrue (set_of (slice_index_or kept k []) p) × ((c.first + k == p) ≡ false)
        → IsCulprit s n p
    of_kept x =
        let listed : Contains (slice_index_or s.reasons j []) (slice_index_or kept x.0 []) =
        rw (index_at s.reasons j kept [] kept_at) (Contains-get_or kept x.0 [] x.1) in
        joined j p c (slice_index_or kept x.0 []) here.choice_at blamed listed x.2
