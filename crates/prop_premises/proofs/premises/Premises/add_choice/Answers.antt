use Rattle.std.proofs.Common.{◌≤◌, ◌∙◌, ◌++◌, ◌∷◌, [], sym, ap, arith}
use Rattle.prop_premises.specs.Origins.{choices_of}
use Rattle.prop_premises.proofs.ChoiceLemmas.{choices_of-with_choice}
use Rattle.prop_premises.proofs.premises.Premises.add_choice.Goals as goal

pub invariant_of-self-in-Ok : goal.invariant_of-self-in-Ok
invariant_of-self-in-Ok c =
    let os = c.self.inside.table in
    let least : 1 ≤ c.args.sides = omega (arith, c.requires.least) in
    c.in_ok-push.ensures.items
    ∙ ap (λ cs. cs ++ record { first = c.len.result; sides = c.args.sides } ∷ []) c.self.invariant
    ∙ ap (λ n. choices_of os ++ record { first = n; sides = c.args.sides } ∷ []) c.len.ensures.len
    ∙ sym (ap choices_of c.in-Ok.ensures.ok ∙ choices_of-with_choice os c.args.name.now c.args.sides least)

pub returns-in-Ok-clause-choices : goal.returns-in-Ok-clause-choices
returns-in-Ok-clause-choices c =
    let os = c.self.inside.table in
    let least : 1 ≤ c.args.sides = omega (arith, c.requires.least) in
    rw (← c.self.view_is) (ap choices_of c.in-Ok.ensures.ok
    ∙ choices_of-with_choice os c.args.name.now c.args.sides least
    ∙ ap (λ n. choices_of os ++ record { first = n; sides = c.args.sides } ∷ []) (sym c.len.ensures.len))
