use Rattle.std.proofs.Common.{◌∙◌, ap, subst, sym}
use Rattle.std.specs.String.{string_bytes}
use Rattle.std.proofs.lemmas.Result.{IfOk-weaker}
use Rattle.prop_workbench.specs.Sessions.{library_of, state_of}
use Rattle.prop_blaming.specs.Asking.{Wish}
use Rattle.prop_blaming.specs.Blame.{Says}
use Rattle.prop_blaming.specs.inner.Blamers.{asked_of}
use Rattle.prop_blaming.proofs.blamer.Blamer.text.Goals as goal

pub returns-in-Cheapest : goal.returns-in-Cheapest
returns-in-Cheapest g c =
    let s = c.args.self.now.seeker.teller.session in
    let is = ap (λ ws. Wish.Cheapest c.in-Cheapest.most ws) c.deref.ensures.value
    ∙ sym (ap asked_of c.in-Cheapest.is) in
    IfOk-weaker c.cheapest.result _ _
    (λ t h. subst (λ (w : Wish). Says (library_of g.R.Rule.value_of s) (state_of s) w (string_bytes t)) is h)
    c.cheapest.ensures
