use Rattle.std.proofs.Common.{◌<◌, ◌↔◌, length, map, subst, arith, IsTrue, SFits, w64}
use Rattle.std.proofs.lemmas.Int.{to_z-of_z}
use Rattle.prop_lattice.specs.Points.{Number}
use Rattle.prop_trail.specs.Places.{root_of, IsLeftIn}
use Rattle.prop_trail.specs.Trails.{place_at, all_after}
use Rattle.prop_trail.specs.declared.place.Place.{Place}
use Rattle.prop_trail.proofs.SayLaws.{denied}
use Rattle.prop_trail.proofs.TrailLaws.{places_count, place_is}
use Rattle.prop_trail.proofs.trail.Trail.is_out.Goals as goal

pub index-requires : goal.index-requires
index-requires c =
    let n = c.self.inside in
    let l : c.args.place < length n.roots.items = rw (← c.self.view_is) at c.requires in
    let count = places_count n.roots.items n.places.items n.entries.items n.starts.items c.self.invariant in
    omega (arith, l, count, n.places.ok)

pub returns : goal.returns
returns c =
    let n = c.self.inside in
    let l : c.args.place < length n.roots.items = rw (← c.self.view_is) at c.requires in
    let here = place_is n.roots.items n.places.items n.entries.items n.starts.items c.args.place c.index.result.now
    c.self.invariant l c.index.ensures in
    let fits : SFits w64 c.args.number = c.ranges.number in
    let tells = simp to_z-of_z at c.leaves.ensures in
    let iff = subst (λ (x : Place). IsTrue c.leaves.result ↔ IsLeftIn x (Number c.args.number)) here tells in
    let y = place_at (all_after 0 (map root_of n.roots.items) n.entries.items) c.args.place in
    rw (← c.self.view_is) (denied c.leaves.result (IsLeftIn y (Number c.args.number)) iff)
