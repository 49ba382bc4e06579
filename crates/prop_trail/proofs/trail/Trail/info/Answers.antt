use Rattle.std.proofs.Common.{◌<◌, length, ap, arith}
use Rattle.prop_trail.specs.declared.place.Place.{Place}
use Rattle.prop_trail.proofs.TrailLaws.{places_count, place_is}
use Rattle.prop_trail.proofs.trail.Trail.info.Goals as goal

pub index-requires : goal.index-requires
index-requires c =
    let n = c.self.inside in
    let l : c.args.place < length n.roots.items = rw (← c.self.view_is) at c.requires in
    let count = places_count n.roots.items n.places.items n.entries.items n.starts.items c.self.invariant in
    omega (arith, l, count, n.places.ok)

pub returns : goal.returns
returns c =
    let n = c.self.inside in
    let l : c.args.place < length n.roots.items = rw (← c.self.view_is) at c.requires in
    let here = place_is n.roots.items n.places.items n.entries.items n.starts.items c.args.place c.index.result.now
    c.self.invariant l c.index.ensures in
    rw (← c.self.view_is) (ap (λ (x : Place). x.info) here)
