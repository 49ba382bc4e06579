-- The cheapest repairs among those that are known, and what is known of the others.
use Rattle.std.proofs.Common.{◌≡◌, ◌∙◌, ◌≤◌, ◌<◌, ◌⊎◌, ℕ, Bool, true, false, not, ◌&&◌, List, All, Contains}
use Rattle.std.proofs.Common.{arith, get_or, refl, subst, sym, inl, inr}
use Rattle.std.specs.Prelude.{IsTrue}
use Rattle.std.specs.List.Sorted.{IsStrictlyIncreasing}
use Rattle.std.proofs.lemmas.Bool.{and_parts}
use Rattle.std.proofs.lemmas.List.Elements.{All-contains}
use Rattle.prop_numbers.specs.Sets.{Members, IsPart, set_of}
use Rattle.prop_numbers.proofs.WithinLemmas.{within_has}
use Rattle.prop_premises.specs.Origins.{believed_in}
use Rattle.prop_hitting.specs.Cheapest.{AreCheapest}
use Rattle.prop_hitting.specs.Costs.{AreDear, cost, weight}
use Rattle.prop_hitting.specs.Hitting.{HasAllOfOne, HitsAll}
use Rattle.prop_hitting.specs.declared.conflict.Conflict.{Conflict}
use Rattle.prop_hitting.proofs.CostLemmas.{cost_part}
use Rattle.prop_hitting.proofs.HittingLemmas.{any_in}
use Rattle.prop_conflicts.specs.Conflicts.{Fits, Ground, IsConflict, IsRepair, less}
use Rattle.prop_conflicts.specs.Cheapest.{AreCheapestIn, HaveOne}
use Rattle.prop_conflicts.proofs.ExploringLemmas.{all_repairs}
use Rattle.prop_conflicts.proofs.FitLemmas.{and_both, fits_fewer, not_false, within_or_out}

module _ (g : Ground) (cs : List Conflict) (rs : List (List ℕ)) (conflicts : All (IsConflict g) cs)
    (repairs : All (IsRepair g) rs) where
  -- what is given up so that the others can hold hits all conflicts
  given_up_hits : (out : List ℕ) → Fits g (less (believed_in g.premises) (set_of out)) → HitsAll (set_of out) cs
  given_up_hits out fits k d l =
      let c = get_or cs k d in
      let refuted = (conflicts k d l).refuted in
      elim (within_or_out (less (believed_in g.premises) (set_of out)) c.premises) [
        | inl all ↦ absurd (refuted.none (fits_fewer g (set_of c.premises)
            (less (believed_in g.premises) (set_of out))
            (λ p there. within_has (less (believed_in g.premises) (set_of out)) c.premises p all there) fits))
        | inr lost ↦ any_in (set_of out) c.premises lost.0 lost.1
            (lost_of (believed_in g.premises lost.0) (set_of out lost.0) (refuted.believed lost.0 lost.1) lost.2)
      ]
    where
      lost_of : (b c : Bool) → b ≡ true → (b && not c) ≡ false → c ≡ true
      lost_of true true e f = refl
      lost_of true false e f = cc
      lost_of false c e f = cc

  pub are_cheapest_in : (weights : List ℕ) (bound : ℕ) (found : List (List ℕ)) → AreDear cs rs weights bound
      → AreCheapest rs weights bound found → ((r : List ℕ) → Contains rs r → IsStrictlyIncreasing r)
      → AreCheapestIn g weights found
  are_cheapest_in weights bound found dear cheap ordered = record {
    repairs = λ r has. All-contains (IsRepair g) rs r repairs (cheap.among r has);
    cheapest = λ out up fits r has less.
        let most = cheap.cheap r has in
        let q = dear out up (given_up_hits out fits) (omega (arith, less, most, cheap.within)) in
        let part : IsPart (set_of q.0) (set_of out) = λ p there. within_has (set_of out) q.0 p q.2 there in
        let costs = cost_part (weight weights) q.0 out (ordered q.0 q.1) up part in
        (q.0, cheap.all_cheaper q.0 q.1 (omega (arith, costs, less, most)), part);
  }

  pub have_one : (found : List (List ℕ)) → ((h : Members) → HitsAll h cs → HasAllOfOne h rs)
      → ((r : List ℕ) → Contains rs r → Contains found r) → HaveOne g found
  have_one found over all kept fits =
      let r = all_repairs g cs rs conflicts repairs over kept fits in (r.0, all r.0 r.1, r.2)
