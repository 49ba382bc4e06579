use Rattle.std.proofs.Common.{◌∙◌, List, ℕ, ap, arith, false, subst, sym, take}
use Rattle.prop_conflicts.specs.Conflicts.{IsConflict}
use Rattle.prop_blaming.specs.inner.Blamers.{AreListed}
use Rattle.prop_blaming.proofs.SayLemmas.{listed_more, refuted_listed}
use Rattle.prop_blaming.proofs.texts.listed_conflicts.Goals as goal

pub returns : goal.returns
returns c =
    let e = c.args.explorer.now in
    let first = c.in_ok-found.ensures ∙ ap (take c.args.most) c.conflicts.ensures in
    subst (AreListed e c.args.most) (sym c.in_ok-push.ensures.items)
    (listed_more e c.args.most c.in_ok-found.found.items first _ (omega arith)
    (λ g known. subst (λ (ps : List ℕ). IsConflict g (record { premises = ps; is_least = false }))
    (sym c.in_ok-copy.ensures) (refuted_listed g c.in-Some.premises.now (c.in-Some.ensures g known))))
