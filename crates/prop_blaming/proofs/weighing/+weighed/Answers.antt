use Rattle.std.proofs.Common.{List, ℕ, subst, sym}
use Rattle.std.specs.Prelude.{Result}
use Rattle.prop_refusals.specs.declared.refusal.Refusal.{Refusal}
use Rattle.prop_seeking.specs.inner.Seekers.{Gives}
use Rattle.prop_blaming.proofs.WeighLemmas.{weighed_more}
use Rattle.prop_blaming.proofs.weighing.+weighed.Goals as goal

pub returns-in_ok-weights-in-len2-up : goal.returns-in_ok-weights-in-len2-up
returns-in_ok-weights-in-len2-up t c =
    subst (λ (r : Result (List ℕ) Refusal). Gives (λ v. v.items) c.weighed.result r)
    (sym (weighed_more c.args.premises.now c.args.weights.items c.in_ok-weights-in-len2-up.weights.items
    c.args.listed.now _ _ c.in-len2-up.len_at_least c.in_ok-weights-in-len2-up.ensures)) c.weighed.ensures
