use Rattle.std.proofs.Common.{arith, ◌≡◌, ◌∙◌, ◌++◌, ◌∷◌, [], ap, sym, None, append-nil, length, subst}
use Rattle.std.specs.String.{string_eq}
use Rattle.std.specs.Map.{lookup}
use Rattle.indexmap.proofs.CallerLemmas.{insert_entry-new}
use Rattle.prop_premises.specs.inner.Named.{origins_of, origins_of_kind, places_from}
use Rattle.prop_premises.proofs.TableLemmas.{origins_of-append, places_from-append, numbered-both}
use Rattle.prop_premises.proofs.LookupLemmas.{names_it, premise_number-lookup, is_choice-lookup, stands_for_nothing}
use Rattle.prop_premises.proofs.table.push_name.Goals as goal

-- the table has the new entry last
entries_now : (c : goal.In_ok-insert)
    → c.insert.new.self.entries ≡ c.args.names.now.entries ++ (c.in_ok-name.name, c.args.named) ∷ []
entries_now c =
    let es = c.args.names.now.entries in
    let key = c.in_ok-name.name in
    let unique = c.requires.unique in
    let found = stands_for_nothing (lookup (names_it c.args.name.now) es)
    (sym (premise_number-lookup c.args.name.now es c.requires.numbered unique) ∙ c.requires.user)
    (sym (is_choice-lookup c.args.name.now es c.requires.numbered unique) ∙ c.requires.choice) in
    let absent : lookup (string_eq key) es ≡ None =
    subst (λ n. lookup (names_it n) es ≡ None) (sym c.in_ok-name.ensures.ok) found in
    c.in_ok-insert.ensures.entries ∙ insert_entry-new string_eq c.args.names.now key c.args.named absent

pub returns-clause-ok : goal.returns-clause-ok
returns-clause-ok c =
    ap origins_of (entries_now c) ∙ origins_of-append c.args.names.now.entries ((c.in_ok-name.name, c.args.named) ∷ [])
    ∙ ap (λ l. origins_of c.args.names.now.entries ++ l)
    (append-nil _ ∙ ap (λ n. origins_of_kind n c.args.named.kind) c.in_ok-name.ensures.ok)

pub returns-clause-numbered : goal.returns-clause-numbered
returns-clause-numbered c =
    rw (entries_now c) (numbered-both 0 c.args.names.now.entries ((c.in_ok-name.name, c.args.named) ∷ [])
    (length (origins_of c.args.names.now.entries)) (omega arith) c.requires.numbered
    (c.requires.next, c.requires.kind, tt))

pub returns-clause-places : goal.returns-clause-places
returns-clause-places c =
    ap (places_from 0) (entries_now c) ∙ places_from-append 0 c.args.names.now.entries
    ((c.in_ok-name.name, c.args.named) ∷ []) (length c.args.names.now.entries) (omega arith)
    ∙ ap (λ l. places_from 0 c.args.names.now.entries ++ l) (append-nil _)
