use Rattle.std.proofs.Common.{◌≡◌, ◌≢◌, ◌∙◌, ◌++◌, [], ◌∷◌, map, ap, subst, sym}
use Rattle.std.proofs.lemmas.List.Elements.{All-push}
use Rattle.prop_tms.specs.Values.{entries_of}
use Rattle.prop_tms.specs.inner.Values.{NoneBare}
use Rattle.prop_tms.specs.declared.values.Valued.{Valued}
use Rattle.prop_tms.proofs.ValueLemmas.{entries_of-push}
use Rattle.prop_tms.proofs.values.push_apart.Goals as goal

pub returns-clause-ok : goal.returns-clause-ok
returns-clause-ok g c =
    let xs = c.args.values.now.items in
    let x : Valued _ = record { value = c.args.entry.value; supports = c.push.new.self } in
    let one : x.supports.items ≡ c.args.entry.support ∷ [] = c.in_ok-push.ensures.ok
    ∙ ap (λ ss. ss ++ c.args.entry.support ∷ []) c.new-supports.ensures.items in
    ap entries_of c.in_ok-push-2.ensures.ok ∙ entries_of-push xs x
    ∙ ap (λ ss. entries_of xs ++ map (λ s. record { value = c.args.entry.value; support = s }) ss) one

pub returns-clause-bare : goal.returns-clause-bare
returns-clause-bare g c =
    let x : Valued _ = record { value = c.args.entry.value; supports = c.push.new.self } in
    let one : x.supports.items ≡ c.args.entry.support ∷ [] = c.in_ok-push.ensures.ok
    ∙ ap (λ ss. ss ++ c.args.entry.support ∷ []) c.new-supports.ensures.items in
    λ old. subst NoneBare (sym c.in_ok-push-2.ensures.ok)
    (All-push (λ (y : Valued _). y.supports.items ≢ []) c.args.values.now.items x old (λ none. cc (one, none)))
