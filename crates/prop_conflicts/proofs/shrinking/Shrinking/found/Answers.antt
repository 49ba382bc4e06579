use Rattle.std.proofs.Common.{◌≡◌, ◌∙◌, List, subst, sym, true, ℕ}
use Rattle.prop_numbers.specs.Sets.{set_of, without}
use Rattle.prop_numbers.proofs.WithinLemmas.{within_has}
use Rattle.prop_conflicts.specs.Conflicts.{Fits as CanHold, IsRefuted}
use Rattle.prop_conflicts.proofs.shrinking.Shrinking.found.Goals as goal

pub returns : goal.returns
returns c = λ g h. record {
  refuted = subst (IsRefuted g) (sym c.in_ok-copy.ensures) h.refuted;
  least = λ t p has. subst (λ (l : List ℕ). CanHold g (without (set_of l) p)) (sym c.in_ok-copy.ensures)
      (h.needed p (within_has (set_of c.args.self.now.needed) c.args.self.now.premises p
      (sym c.is_subset.ensures ∙ t) (subst (λ (l : List ℕ). set_of l p ≡ true) c.in_ok-copy.ensures has)));
}
