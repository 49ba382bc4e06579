use Rattle.std.proofs.Common.{◌∙◌, sym, ap, subst, IfOk, IfSome}
use Rattle.prop_numbers.specs.Sets.{set_of}
use Rattle.prop_tms.specs.Beliefs.{belief_of, IsLean, IsShort}
use Rattle.prop_tms.specs.Values.{entries_of}
use Rattle.prop_tms.proofs.FewLemmas.{last_entry}
use Rattle.prop_tms.proofs.few.few.Goals as goal

pub with_last-requires-clause-value : goal.with_last-requires-clause-value
with_last-requires-clause-value g c =
    let same = ap entries_of c.in-Some.ensures.cases.0
    ∙ last_entry c.in-Some.earlier.now c.in-Some.newest.now c.in-Some-only_told.support.now
    (sym c.deref.ensures ∙ c.in-Some-only_told.ensures.0) in
    c.requires ∙ ap (belief_of g.V.Partial.bottom g.V.Partial.join (set_of c.args.worldview.now)) same

pub returns-in-Some-only_told-clause-lean : goal.returns-in-Some-only_told-clause-lean
returns-in-Some-only_told-clause-lean g c =
    let same = ap entries_of c.in-Some.ensures.cases.0
    ∙ last_entry c.in-Some.earlier.now c.in-Some.newest.now c.in-Some-only_told.support.now
    (sym c.deref.ensures ∙ c.in-Some-only_told.ensures.0) in
    subst (λ es. IfOk c.with_last.result (λ o. IfSome o (λ s. IsLean g.V.Partial.bottom g.V.Partial.join es
    (set_of c.args.worldview.now) c.args.value s))) (sym same) c.with_last.ensures.lean

pub returns-in-Some-only_told-clause-short : goal.returns-in-Some-only_told-clause-short
returns-in-Some-only_told-clause-short g c =
    let same = ap entries_of c.in-Some.ensures.cases.0
    ∙ last_entry c.in-Some.earlier.now c.in-Some.newest.now c.in-Some-only_told.support.now
    (sym c.deref.ensures ∙ c.in-Some-only_told.ensures.0) in
    subst (λ es. IfOk c.with_last.result (λ o. IfSome o (λ s. IsShort es (set_of c.args.worldview.now) c.args.value
    s))) (sym same) c.with_last.ensures.short
