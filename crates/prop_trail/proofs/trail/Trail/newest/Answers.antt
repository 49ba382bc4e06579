use Rattle.std.proofs.Common.{◌≡◌, ◌<◌, length, ap, subst, arith, IfSome}
use Rattle.prop_trail.specs.declared.place.Place.{Place}
use Rattle.prop_trail.proofs.TrailLaws.{places_count, place_is, was_at, newest_below, root_newest}
use Rattle.std.proofs.Common.{◌∙◌, ◌≤◌, List, map, sym}
use Rattle.std.proofs.lemmas.List.{take_all}
use Rattle.prop_trail.specs.Places.{root_of}
use Rattle.prop_trail.specs.Trails.{place_at, all_after}
use Rattle.prop_trail.specs.declared.entry.Entry.{Entry}
use Rattle.prop_trail.proofs.trail.Trail.newest.Goals as goal

pub index-requires : goal.index-requires
index-requires c =
    let n = c.self.inside in
    let l : c.args.place < length n.roots.items = rw (← c.self.view_is) at c.requires in
    let count = places_count n.roots.items n.places.items n.entries.items n.starts.items c.self.invariant in
    omega (arith, l, count, n.places.ok)

pub returns-clause-newest : goal.returns-clause-newest
returns-clause-newest c =
    let n = c.self.inside in
    let l : c.args.place < length n.roots.items = rw (← c.self.view_is) at c.requires in
    let here = place_is n.roots.items n.places.items n.entries.items n.starts.items c.args.place c.index.result.now
    c.self.invariant l c.index.ensures in
    rw (← c.self.view_is) (ap (λ (x : Place). x.newest) here)

pub returns-clause-within : goal.returns-clause-within
returns-clause-within c =
    let n = c.self.inside in
    let es = n.entries.items in
    let l : c.args.place < length n.roots.items = rw (← c.self.view_is) at c.requires in
    let here = place_is n.roots.items n.places.items es n.starts.items c.args.place c.index.result.now
    c.self.invariant l c.index.ensures in
    let all : length es ≤ length es = omega arith in
    let below = newest_below (map root_of n.roots.items) es (length es) c.args.place c.self.invariant.entries_made all
    (root_newest n.roots.items c.args.place) in
    let whole : was_at (map root_of n.roots.items) es (length es) c.args.place ≡ c.index.result.now =
    ap (λ (xs : List Entry). place_at (all_after 0 (map root_of n.roots.items) xs) c.args.place)
    (take_all (length es) es all)
    ∙ sym here in
    rw (← c.self.view_is) (subst (λ (x : Place). IfSome x.newest (λ i. i < length es)) whole below)
