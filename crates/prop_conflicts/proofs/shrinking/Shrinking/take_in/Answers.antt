use Rattle.std.proofs.Common.{◌∙◌, subst, sym}
use Rattle.prop_numbers.specs.Sets.{set_of, without}
use Rattle.prop_conflicts.specs.inner.Trials.{IsOutcome}
use Rattle.prop_conflicts.proofs.ExploringLemmas.{needed_fewer, needed_more}
use Rattle.prop_conflicts.proofs.FitLemmas.{fits_fewer, on_ok}
use Rattle.prop_conflicts.proofs.shrinking.Shrinking.take_in.Goals as goal

pub returns-in_ok-single-in-Fits : goal.returns-in_ok-single-in-Fits
returns-in_ok-single-in-Fits c =
    let s = c.args.self.now in
    on_ok c.unite-in-Fits.result (λ same g kept h part fits. record {
      refuted = h.refuted;
      needed = needed_more g s.premises s.needed c.unite-in-Fits.new.self c.in_ok-single-in-Fits.field-0
          c.args.premise c.in_ok-single-in-Fits.ensures same h.needed
          (fits_fewer g (without (set_of s.premises) c.args.premise) (set_of kept) part
          (subst (IsOutcome g kept) c.in-Fits.is fits));
    }) c.unite-in-Fits.ensures.ok

pub returns-in-Refuted : goal.returns-in-Refuted
returns-in-Refuted c = λ g kept h part refuted. record {
  refuted = subst (IsOutcome g kept) c.in-Refuted.is refuted;
  needed = needed_fewer g c.args.self.now.premises c.in-Refuted.by c.args.self.now.needed
      (sym c.is_subset.ensures ∙ c.if-is_subset.true) h.needed;
}
