use Rattle.std.proofs.Common.{◌∙◌, inl, inr, ap, subst}
use Rattle.prop_learned.specs.Stores.{IsKeptIn}
use Rattle.prop_solve.specs.Searches.{Search}
use Rattle.prop_solve.proofs.EarlierLemmas.{refuted_yet}
use Rattle.prop_spread.proofs.Refusals.{on_ok_more}
use Rattle.prop_solve.proofs.solver.Solver.recall.Goals as goal

pub returns : goal.returns
returns c =
    let g = c.args.nogood.now in
    let inside = c.self.inside in
    on_ok_more c.recall.result _ _
    (λ kept. record {
      kept = λ h k. let P : Search → Type 0 = λ s. IsKeptIn s.spread.nogoods h in elim (kept h k) [
        | inl a ↦ inl (subst P c.self.view_is a)
        | inr e ↦ inr (e ∙ c.in_ok-copy.ensures)
      ];
      root = c.recall.ensures.root ∙ ap (λ (s : Search). s.spread.root) c.self.view_is;
      refuted = refuted_yet g inside.refuted _ (ap (λ (s : Search). s.refuted) c.self.view_is);
      others = ap (λ (s : Search). record s { spread = c.recall.new.self; refuted = inside.refuted }) c.self.view_is;
    }) c.recall.ensures.kept
