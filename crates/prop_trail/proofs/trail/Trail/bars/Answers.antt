use Rattle.std.proofs.Common.{◌∙◌, ◌<◌, ◌↔◌, IsTrue, length, ap, sym, subst, arith}
use Rattle.prop_trail.specs.Narrowing.{IsTight}
use Rattle.prop_trail.specs.Trails.{Trailed, place_of}
use Rattle.prop_trail.specs.Windows.{IsOut}
use Rattle.prop_trail.specs.declared.place.Place.{Place}
use Rattle.prop_trail.proofs.SayLaws.{BarsIn}
use Rattle.prop_trail.proofs.TrailLaws.{places_count, place_is, tight_at}
use Rattle.prop_trail.proofs.trail.Trail.bars.Goals as goal

pub index-requires : goal.index-requires
index-requires c =
    let n = c.self.inside in
    let l : c.args.literal.place < length n.roots.items = rw (← c.self.view_is) at c.requires in
    let count = places_count n.roots.items n.places.items n.entries.items n.starts.items c.self.invariant in
    omega (arith, l, count, n.places.ok)

pub bars-requires : goal.bars-requires
bars-requires c =
    let n = c.self.inside in
    let p = c.args.literal.place in
    let l : p < length n.roots.items = rw (← c.self.view_is) at c.requires in
    let here = place_is n.roots.items n.places.items n.entries.items n.starts.items p c.index.result.now
    c.self.invariant l c.index.ensures in
    subst (λ (y : Place). IsTight (IsOut y.window) y.info) (sym here)
    (tight_at n.roots.items n.entries.items c.self.invariant.entries_made p)

pub returns : goal.returns
returns c =
    let n = c.self.inside in
    let p = c.args.literal.place in
    let l : p < length n.roots.items = rw (← c.self.view_is) at c.requires in
    let here = place_is n.roots.items n.places.items n.entries.items n.starts.items p c.index.result.now
    c.self.invariant l c.index.ensures ∙ ap (λ (t : Trailed). place_of t p) c.self.view_is in
    subst (λ (y : Place). IsTrue c.bars.result ↔ BarsIn c.args.literal.fact y) here c.bars.ensures
