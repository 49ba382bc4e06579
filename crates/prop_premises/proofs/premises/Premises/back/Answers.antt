use Rattle.std.proofs.Common.{rules, ◌≡◌, ◌∙◌, sym, ap, filter, nat_lt}
use Rattle.std.proofs.lemmas.Fn.{filter_same}
use Rattle.prop_premises.specs.Origins.{choices_of}
use Rattle.prop_premises.proofs.ChoiceLemmas.{choices_of-take}
use Rattle.prop_premises.proofs.premises.Premises.back.Goals as goal

pub invariant_of-self : goal.invariant_of-self
invariant_of-self c =
    let kept : c.retain.new.self.items ≡ filter (λ x. nat_lt x.first c.args.count) c.self.inside.choices.items =
    filter_same _ _ _ (λ x b q k. search rules) _ _ c.retain.ensures.filtered in
    kept ∙ ap (filter (λ x. nat_lt x.first c.args.count)) c.self.invariant
    ∙ sym (ap choices_of c.back.ensures ∙ choices_of-take c.self.inside.table c.args.count)
