use Rattle.std.proofs.Common.{◌≡◌, ◌∙◌, arith, inl, inr, subst, sym}
use Rattle.prop_seeking.specs.inner.Seekers.{Gives}
use Rattle.prop_blaming.specs.inner.Blamers.{asked_of}
use Rattle.prop_blaming.proofs.WeighLemmas.{asked_cheapest, asked_few, asked_none}
use Rattle.prop_blaming.proofs.asking.asked_by.Goals as goal

pub returns-in_default : goal.returns-in_default
returns-in_default c = inr (asked_few c.args.premises.now c.args.listed.now (omega arith) (λ two. omega (arith, two)))

pub returns-in-Ok : goal.returns-in-Ok
returns-in-Ok c =
    let all = asked_cheapest c.args.premises.now c.args.listed.now c.in-len3-up.len_at_least
    (λ none. grind (arith, none, c.is_empty.ensures, c.if-is_empty.false))
    (sym c.is_by_cost.ensures ∙ c.if-not-is_by_cost.false) c.in-Ok.most (sym c.in-Ok.ensures) in
    subst (Gives asked_of c.cheapest_asked.result) (sym all) c.cheapest_asked.ensures

pub returns-in-Err : goal.returns-in-Err
returns-in-Err c =
    inr (asked_none c.args.premises.now c.args.listed.now c.in-len3-up.len_at_least
    (λ none. grind (arith, none, c.is_empty.ensures, c.if-is_empty.false))
    (sym c.is_by_cost.ensures ∙ c.if-not-is_by_cost.false) c.in-Err.refusal (sym c.in-Err.ensures))
