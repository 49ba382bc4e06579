use Rattle.std.proofs.Common.{◌≡◌, ◌∙◌, ◌++◌, ◌∷◌, [], ap, cond, false}
use Rattle.std.specs.List.{list_any}
use Rattle.std.specs.String.{string_eq}
use Rattle.prop_sets.specs.Names.{names_of}
use Rattle.prop_sets.specs.inner.Names.{is_among}
use Rattle.prop_sets.proofs.NameLemmas.{is_among-names, names_of-push}
use Rattle.prop_sets.proofs.domain.push_name.Goals as goal

pub returns : goal.returns
returns c =
    let keys = c.args.names.now.keys in
    let name = c.in_ok-name.name in
    let absent : list_any (string_eq name) keys ≡ false = is_among-names name keys
    ∙ ap (λ n. is_among n (names_of keys)) c.in_ok-name.ensures.ok ∙ c.requires in
    ap names_of (c.in_ok-insert.ensures.keys ∙ ap (λ b. cond b keys (keys ++ name ∷ [])) absent)
    ∙ names_of-push keys name ∙ ap (λ n. names_of keys ++ n ∷ []) c.in_ok-name.ensures.ok
