use Rattle.std.proofs.Common.{◌≡◌, ◌∙◌, ◌<◌, ◌∷◌, ℕ, length, ap, get_or}
use Rattle.std.proofs.lemmas.List.{get_or_read}
use Rattle.prop_lattice.specs.declared.info.Info.TheVariants.{Nothing}
use Rattle.prop_lattice.specs.Order.{merge_of}
use Rattle.prop_origins.specs.Parts.{made}
use Rattle.prop_origins.specs.inner.Logs.{IsPartWithin, UnitesAt}
use Rattle.prop_origins.proofs.LogLaws.{logged_more}
use Rattle.prop_origins.proofs.log.Log.push.Goals as goal

pub invariant_of-self-2 : goal.invariant_of-self-2
invariant_of-self-2 c =
    let n = c.self.inside in
    let p = c.args.part in
    let at : c.cell-cell.result ≡ p.cell = c.cell-cell.ensures in
    let w : IsPartWithin (length n.known.items) p = rw (← c.self.view_is) at c.requires in
    let l : c.cell-cell.result < length n.known.items = rw at w.cell in
    let read : c.index.result.now ≡ made n.parts.items p.cell =
    get_or_read n.known.items c.cell-cell.result c.index.result.now l c.index.ensures Nothing
    ∙ ap (λ (k : ℕ). get_or n.known.items k Nothing) at ∙ c.self.invariant.says p.cell in
    let value : c.merge.result ≡ merge_of (made n.parts.items p.cell) p.value =
    (let e = c.merge.ensures in let f = c.value.ensures in cc) in
    let parts : c.push_front_reserved.new.self.items ≡ p ∷ n.parts.items = c.push_front_reserved.ensures.items
    ∙ ap (λ xs. p ∷ xs) c.reserve.ensures.items in
    let unites : UnitesAt n.resting.items c.unite_at.new.sets.items p.cell p.support =
    rw (at, c.support.ensures) at c.in_default-unite_at.ensures.ok in
    rw (at, parts) (logged_more n.known.items n.resting.items c.unite_at.new.sets.items n.parts.items p c.merge.result
    c.unite_at.ensures.count unites value w c.self.invariant)
