use Rattle.std.proofs.Common.{◌≡◌, ◌∙◌, ◌<◌, All, ap, inr, length, map, refl, subst, sym}
use Rattle.std.proofs.lemmas.List.{length-map}
use Rattle.prop_procedures.specs.Fitting.{kind_at}
use Rattle.prop_procedures.specs.Kept.{stored_of}
use Rattle.prop_cells.specs.Data.{Data}
use Rattle.prop_language.specs.Said.{by_of}
use Rattle.prop_compound.specs.Compounds.{given_by}
use Rattle.prop_workbench.proofs.FlatLemmas.{still_fits, still_expanded, still_over, still_refused}
use Rattle.prop_workbench.proofs.session.Session.expanded.Goals as goal

pub kinds_of-requires : goal.kinds_of-requires
kinds_of-requires g c = subst (λ (d : Data). All (λ cell. cell < length d.kinds) c.args.cells.now) (sym
    (c.data.ensures ∙ ap (λ n. n.cells) c.network.ensures))
    c.requires.cells

pub returns-in_default-clause-fits : goal.returns-in_default-clause-fits
returns-in_default-clause-fits g c = tt

pub returns-in_default-clause-ok : goal.returns-in_default-clause-ok
returns-in_default-clause-ok g c = tt

pub returns-in_default-clause-safe : goal.returns-in_default-clause-safe
returns-in_default-clause-safe g c = tt

pub returns-in_default-clause-err : goal.returns-in_default-clause-err
returns-in_default-clause-err g c = inr refl

pub returns-in_default-given-clause-fits : goal.returns-in_default-given-clause-fits
returns-in_default-given-clause-fits g c = tt

pub returns-in_default-given-clause-ok : goal.returns-in_default-given-clause-ok
returns-in_default-given-clause-ok g c = tt

pub returns-in_default-given-clause-safe : goal.returns-in_default-given-clause-safe
returns-in_default-given-clause-safe g c = tt

pub returns-in_default-given-clause-err : goal.returns-in_default-given-clause-err
returns-in_default-given-clause-err g c = inr refl

pub expand-requires : goal.expand-requires
expand-requires g c = record { over = rw (c.library.ensures, c.network-2.ensures) c.requires.sound.defined }

pub returns-clause-fits : goal.returns-clause-fits
returns-clause-fits g c =
    let s = c.args.self.now in
    let cells = c.args.cells.now in
    let kinds : c.in-Ok.kinds.items ≡ map (kind_at s.live.network.cells.kinds) cells = c.in-Ok.ensures
    ∙ ap (λ (d : Data). map (kind_at d.kinds) cells) (c.data.ensures ∙ ap (λ n. n.cells) c.network.ensures) in
    still_fits s.words s.definitions c.args.name.now (stored_of g.R.Rule.value_of c.library.result.now)
    (stored_of g.R.Rule.value_of s.live.network.library) c.in-Ok.kinds.items (map (kind_at s.live.network.cells.kinds)
    cells)
    c.in-Ok-given.given (given_by s.words (by_of c.args.by)) (λ i. stored_of g.R.Rule.value_of ((c.library.ensures ∙
    ap (λ n. n.library) c.network-2.ensures) i))
    kinds c.in-Ok-given.ensures c.expand.result c.expand.ensures.fits

pub returns-clause-ok : goal.returns-clause-ok
returns-clause-ok g c =
    let s = c.args.self.now in
    let cells = c.args.cells.now in
    let kinds : c.in-Ok.kinds.items ≡ map (kind_at s.live.network.cells.kinds) cells = c.in-Ok.ensures
    ∙ ap (λ (d : Data). map (kind_at d.kinds) cells) (c.data.ensures ∙ ap (λ n. n.cells) c.network.ensures) in
    still_expanded s.words s.definitions c.args.name.now (stored_of g.R.Rule.value_of c.library.result.now)
    (stored_of g.R.Rule.value_of s.live.network.library) c.in-Ok.kinds.items (map (kind_at s.live.network.cells.kinds)
    cells)
    c.in-Ok-given.given (given_by s.words (by_of c.args.by)) (λ i. stored_of g.R.Rule.value_of ((c.library.ensures ∙
    ap (λ n. n.library) c.network-2.ensures) i))
    kinds c.in-Ok-given.ensures c.expand.result c.expand.ensures.ok

pub returns-clause-safe : goal.returns-clause-safe
returns-clause-safe g c =
    let s = c.args.self.now in
    let cells = c.args.cells.now in
    let kinds : c.in-Ok.kinds.items ≡ map (kind_at s.live.network.cells.kinds) cells = c.in-Ok.ensures
    ∙ ap (λ (d : Data). map (kind_at d.kinds) cells) (c.data.ensures ∙ ap (λ n. n.cells) c.network.ensures) in
    still_over (stored_of g.R.Rule.value_of c.library.result.now) (stored_of g.R.Rule.value_of s.live.network.library)
    (length c.in-Ok.kinds.items) (length cells) c.expand.result
    (λ i. stored_of g.R.Rule.value_of ((c.library.ensures ∙ ap (λ n. n.library) c.network-2.ensures) i))
    (ap length kinds ∙ length-map cells (kind_at s.live.network.cells.kinds)) c.expand.ensures.safe

pub returns-clause-err : goal.returns-clause-err
returns-clause-err g c =
    let s = c.args.self.now in
    let cells = c.args.cells.now in
    let kinds : c.in-Ok.kinds.items ≡ map (kind_at s.live.network.cells.kinds) cells = c.in-Ok.ensures
    ∙ ap (λ (d : Data). map (kind_at d.kinds) cells) (c.data.ensures ∙ ap (λ n. n.cells) c.network.ensures) in
    still_refused s.words s.definitions c.args.name.now (stored_of g.R.Rule.value_of c.library.result.now)
    (stored_of g.R.Rule.value_of s.live.network.library) c.in-Ok.kinds.items (map (kind_at s.live.network.cells.kinds)
    cells)
    c.in-Ok-given.given (given_by s.words (by_of c.args.by)) (λ i. stored_of g.R.Rule.value_of ((c.library.ensures ∙
    ap (λ n. n.library) c.network-2.ensures) i))
    kinds c.in-Ok-given.ensures c.expand.result c.expand.ensures.err
