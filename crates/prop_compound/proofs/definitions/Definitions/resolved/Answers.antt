use Rattle.std.proofs.Common.{◌≡◌, ◌∙◌, ℕ, List, [], ◌∷◌, ◌++◌, All, subst, Bor, map, ap, sym, length, take, inl, inr}
use Rattle.std.proofs.Common.{refl}
use Rattle.std.proofs.lemmas.List.{length-map}
use Rattle.prop_procedures.specs.Kept.{stored_of}
use Rattle.prop_language.specs.Said.{words, step_of}
use Rattle.prop_compound.specs.Definitions.{Definitions}
use Rattle.prop_compound.specs.Defining.{definition_of}
use Rattle.prop_compound.specs.Kinds.{IsSized, IsLocalOf}
use Rattle.prop_compound.specs.Kept.{bare, all_bare, IsUseOver}
use Rattle.prop_compound.specs.inner.Kept.{IsCounted, IsKept, AreKept}
use Rattle.prop_compound.specs.declared.definition.KeptDefinition.{KeptDefinition}
use Rattle.prop_compound.proofs.Judging.{IsRightly, said_within, said_first, said_behind, refused_words, refused_uses}
use Rattle.prop_compound.proofs.Judging.{not_refused, rightly, same_uses}
use Rattle.prop_compound.proofs.Resolved.{used_seen, kept_new, same_count, numbered_so, definition_so, steps_over}
use Rattle.prop_compound.proofs.Resolved.{if_ok, on_ok, or_memory}
use Rattle.prop_compound.proofs.definitions.Definitions.resolved.Goals as goal

pub words_refusal-requires-clause-count : goal.words_refusal-requires-clause-count
words_refusal-requires-clause-count g c =
    said_within c.args.said.now.params.now c.args.scope.now (map step_of c.args.said.now.steps.now) c.requires

pub words_refusal-requires-clause-locals : goal.words_refusal-requires-clause-locals
words_refusal-requires-clause-locals g c =
    said_behind c.args.said.now.params.now c.args.scope.now (map step_of c.args.said.now.steps.now) c.requires

pub returns-in-Some-clause-err : goal.returns-in-Some-clause-err
returns-in-Some-clause-err g c =
    let steps = map step_of c.args.said.now.steps.now in
    inl (refused_words (stored_of g.R.Rule.value_of c.args.library.now) c.args.words.now c.args.self.now
    (words c.args.said.now.params.now) steps (take (length c.args.said.now.params.now) c.args.scope.now)
    (said_first c.args.said.now.params.now c.args.scope.now steps c.requires) c.words_refusal.result
    c.words_refusal.ensures c.in-Some.refusal c.in-Some.is)

pub returns-in-Some-uses_refusal-clause-err : goal.returns-in-Some-uses_refusal-clause-err
returns-in-Some-uses_refusal-clause-err g c =
    let steps = map step_of c.args.said.now.steps.now in
    let uses = c.uses_refusal.ensures ∙ same_uses (stored_of g.R.Rule.value_of c.args.library.now) c.args.self.now steps
    c.in-Ok.all.is_unknown c.in-Ok.all.is_count_wrong c.in-Ok.ensures.unknown c.in-Ok.ensures.counts in
    inl (refused_uses (stored_of g.R.Rule.value_of c.args.library.now) c.args.words.now c.args.self.now
    (words c.args.said.now.params.now) steps (take (length c.args.said.now.params.now) c.args.scope.now)
    (said_first c.args.said.now.params.now c.args.scope.now steps c.requires) c.words_refusal.result
    c.words_refusal.ensures c.in_default.is c.uses_refusal.result uses
    c.in-Some-uses_refusal.refusal c.in-Some-uses_refusal.is)

pub counted-requires-clause-kept : goal.counted-requires-clause-kept
counted-requires-clause-kept g c = rw c.deref.ensures.value c.self.invariant.1

pub counted-requires-clause-used : goal.counted-requires-clause-used
counted-requires-clause-used g c =
    let library = stored_of g.R.Rule.value_of c.args.library.now in
    let definitions = c.args.self.now in
    let params = words c.args.said.now.params.now in
    let steps = map step_of c.args.said.now.steps.now in
    let uses = c.uses_refusal.ensures ∙ same_uses library definitions steps
    c.in-Ok.all.is_unknown c.in-Ok.all.is_count_wrong c.in-Ok.ensures.unknown c.in-Ok.ensures.counts in
    let same = same_count c.self.inside.names c.self.inside.definitions.items definitions c.self.view_is
    c.self.invariant in
    let right : IsRightly library c.args.words.now definitions params steps =
    rightly library c.args.words.now definitions params steps
    (take (length c.args.said.now.params.now) c.args.scope.now)
    (said_first c.args.said.now.params.now c.args.scope.now steps c.requires) c.words_refusal.result
    c.words_refusal.ensures c.in_default.is c.uses_refusal.result uses
    c.in_default-uses_refusal.is in
    let items = numbered_so library c.args.words.now definitions params steps same right c.args.scope.now
    c.in-Ok.all.steps.items c.requires c.in-Ok.ensures.steps in
    let seen : definitions.definitions ≡ all_bare c.deref.result.now =
    ap (λ (d : Definitions). d.definitions) (sym c.self.view_is) ∙ ap all_bare (sym c.deref.ensures.value) in
    used_seen library c.args.words.now definitions params steps same right c.deref.result.now
    c.in-Ok.all.steps.items seen items

pub returns-clause-definition : goal.returns-clause-definition
returns-clause-definition g c =
    let library = stored_of g.R.Rule.value_of c.args.library.now in
    let definitions = c.args.self.now in
    let params = words c.args.said.now.params.now in
    let steps = map step_of c.args.said.now.steps.now in
    let uses = c.uses_refusal.ensures ∙ same_uses library definitions steps
    c.in-Ok.all.is_unknown c.in-Ok.all.is_count_wrong c.in-Ok.ensures.unknown c.in-Ok.ensures.counts in
    let same = same_count c.self.inside.names c.self.inside.definitions.items definitions c.self.view_is
    c.self.invariant in
    let right : IsRightly library c.args.words.now definitions params steps =
    rightly library c.args.words.now definitions params steps
    (take (length c.args.said.now.params.now) c.args.scope.now)
    (said_first c.args.said.now.params.now c.args.scope.now steps c.requires) c.words_refusal.result
    c.words_refusal.ensures c.in_default.is c.uses_refusal.result uses
    c.in_default-uses_refusal.is in
    let items = numbered_so library c.args.words.now definitions params steps same right c.args.scope.now
    c.in-Ok.all.steps.items c.requires c.in-Ok.ensures.steps in
    let count : length c.args.said.now.params.now ≡ length params =
    sym (length-map c.args.said.now.params.now (λ (w : Bor (List ℕ)). w.now)) in
    let numbered = c.in-Ok.all.steps.items in
    let Counted = IsCounted c.deref.result.now (length c.args.said.now.params.now) numbered in
    if_ok Counted (λ (k : KeptDefinition). bare k ≡ definition_of library c.args.words.now definitions params steps)
    (λ k h. definition_so library c.args.words.now definitions params steps same right k numbered items
    (h.params ∙ count) h.steps) c.counted.result c.counted.ensures.counted

pub returns-clause-kept : goal.returns-clause-kept
returns-clause-kept g c =
    let library = stored_of g.R.Rule.value_of c.args.library.now in
    let definitions = c.args.self.now in
    let params = words c.args.said.now.params.now in
    let steps = map step_of c.args.said.now.steps.now in
    let uses = c.uses_refusal.ensures ∙ same_uses library definitions steps
    c.in-Ok.all.is_unknown c.in-Ok.all.is_count_wrong c.in-Ok.ensures.unknown c.in-Ok.ensures.counts in
    let same = same_count c.self.inside.names c.self.inside.definitions.items definitions c.self.view_is
    c.self.invariant in
    let right : IsRightly library c.args.words.now definitions params steps =
    rightly library c.args.words.now definitions params steps
    (take (length c.args.said.now.params.now) c.args.scope.now)
    (said_first c.args.said.now.params.now c.args.scope.now steps c.requires) c.words_refusal.result
    c.words_refusal.ensures c.in_default.is c.uses_refusal.result uses
    c.in_default-uses_refusal.is in
    let items = numbered_so library c.args.words.now definitions params steps same right c.args.scope.now
    c.in-Ok.all.steps.items c.requires c.in-Ok.ensures.steps in
    let count : length c.args.said.now.params.now ≡ length params =
    sym (length-map c.args.said.now.params.now (λ (w : Bor (List ℕ)). w.now)) in
    let numbered = c.in-Ok.all.steps.items in
    let Counted = IsCounted c.deref.result.now (length c.args.said.now.params.now) numbered in
    let ks = c.deref.result.now in
    let seen : definitions.definitions ≡ all_bare ks = ap (λ (d : Definitions). d.definitions) (sym c.self.view_is)
    ∙ ap all_bare (sym c.deref.ensures.value) in
    let kept : AreKept ks = rw c.deref.ensures.value c.self.invariant.1 in
    if_ok Counted (λ (k : KeptDefinition).
    IsKept (definitions.definitions ++ bare k ∷ []) (length definitions.definitions) k)
    (λ k h. kept_new library c.args.words.now definitions params steps same right ks numbered k kept seen items
    (subst (λ n. IsCounted ks n numbered k) count h)) c.counted.result c.counted.ensures.counted

pub returns-clause-over : goal.returns-clause-over
returns-clause-over g c =
    let library = stored_of g.R.Rule.value_of c.args.library.now in
    let definitions = c.args.self.now in
    let params = words c.args.said.now.params.now in
    let steps = map step_of c.args.said.now.steps.now in
    let uses = c.uses_refusal.ensures ∙ same_uses library definitions steps
    c.in-Ok.all.is_unknown c.in-Ok.all.is_count_wrong c.in-Ok.ensures.unknown c.in-Ok.ensures.counts in
    let same = same_count c.self.inside.names c.self.inside.definitions.items definitions c.self.view_is
    c.self.invariant in
    let right : IsRightly library c.args.words.now definitions params steps =
    rightly library c.args.words.now definitions params steps
    (take (length c.args.said.now.params.now) c.args.scope.now)
    (said_first c.args.said.now.params.now c.args.scope.now steps c.requires) c.words_refusal.result
    c.words_refusal.ensures c.in_default.is c.uses_refusal.result uses
    c.in_default-uses_refusal.is in
    let items = numbered_so library c.args.words.now definitions params steps same right c.args.scope.now
    c.in-Ok.all.steps.items c.requires c.in-Ok.ensures.steps in
    let count : length c.args.said.now.params.now ≡ length params =
    sym (length-map c.args.said.now.params.now (λ (w : Bor (List ℕ)). w.now)) in
    let numbered = c.in-Ok.all.steps.items in
    let Counted = IsCounted c.deref.result.now (length c.args.said.now.params.now) numbered in
    if_ok Counted (λ (k : KeptDefinition). All (IsUseOver library) k.steps.items)
    (λ k h. steps_over library c.args.words.now definitions params steps same right k numbered items h.steps)
    c.counted.result c.counted.ensures.counted

pub returns-clause-locals : goal.returns-clause-locals
returns-clause-locals g c =
    let locals = All (IsLocalOf (IsSized c.args.words.now)) in
    if_ok (IsCounted c.deref.result.now (length c.args.said.now.params.now) c.in-Ok.all.steps.items)
    (λ (k : KeptDefinition). locals k.steps.items) (λ k h. subst locals (sym h.steps) c.in-Ok.ensures.locals)
    c.counted.result c.counted.ensures.counted

pub returns-clause-fits : goal.returns-clause-fits
returns-clause-fits g c =
    let steps = map step_of c.args.said.now.steps.now in
    let uses = c.uses_refusal.ensures ∙ same_uses (stored_of g.R.Rule.value_of c.args.library.now) c.args.self.now steps
    c.in-Ok.all.is_unknown c.in-Ok.all.is_count_wrong c.in-Ok.ensures.unknown c.in-Ok.ensures.counts in
    on_ok c.counted.result (not_refused (stored_of g.R.Rule.value_of c.args.library.now) c.args.words.now
    c.args.self.now (words c.args.said.now.params.now) steps
    (take (length c.args.said.now.params.now) c.args.scope.now)
    (said_first c.args.said.now.params.now c.args.scope.now steps c.requires) c.words_refusal.result
    c.words_refusal.ensures c.in_default.is c.uses_refusal.result uses
    c.in_default-uses_refusal.is)

pub returns-clause-err : goal.returns-clause-err
returns-clause-err g c =
    or_memory _ c.counted.result c.counted.ensures.err
