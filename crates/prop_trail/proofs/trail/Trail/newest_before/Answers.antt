use Rattle.std.proofs.Common.{◌≡◌, ◌∙◌, ◌<◌, ◌≤◌, ℕ, Option, Some, None, List, IfSome, length, map, ap, sym}
use Rattle.std.proofs.Common.{subst, arith}
use Rattle.std.proofs.lemmas.List.{take_all}
use Rattle.prop_trail.specs.Places.{root_of}
use Rattle.prop_trail.specs.Trails.{place_at, all_after}
use Rattle.prop_trail.specs.declared.entry.Entry.{Entry}
use Rattle.prop_trail.specs.declared.place.Place.{Place}
use Rattle.prop_trail.proofs.TrailLaws.{was_at, no_entry, found, newest_below, before_is, above, smaller, quiet_since}
use Rattle.prop_trail.proofs.TrailLaws.{root_newest, places_count, place_is}
use Rattle.prop_trail.proofs.trail.Trail.newest_before.Goals as goal

pub index-requires : goal.index-requires
index-requires c =
    let n = c.self.inside in
    let l : c.args.place < length n.roots.items = rw (← c.self.view_is) at c.requires.place in
    let count = places_count n.roots.items n.places.items n.entries.items n.starts.items c.self.invariant in
    omega (arith, l, count, n.places.ok)

pub loop-newest-init : goal.loop-newest-init
loop-newest-init c =
    let n = c.self.inside in
    let es = n.entries.items in
    let ps = map root_of n.roots.items in
    let l : c.args.place < length n.roots.items = rw (← c.self.view_is) at c.requires.place in
    let most : c.args.at ≤ length es = rw (← c.self.view_is) at c.requires.at in
    let all : length es ≤ length es = omega arith in
    let here = place_is n.roots.items n.places.items es n.starts.items c.args.place c.index.result.now
    c.self.invariant l c.index.ensures in (
      length es,
      most,
      all,
      ap (λ (x : Place). x.newest) here
          ∙ ap (λ (xs : List Entry). (place_at (all_after 0 ps xs) c.args.place).newest)
          (sym (take_all (length es) es all)),
    )

pub index-requires-in-Some : goal.index-requires-in-Some
index-requires-in-Some c =
    let n = c.self.inside in
    let es = n.entries.items in
    let ps = map root_of n.roots.items in
    let i = c.in-Some.entry in
    let v = c.loop-newest.invariant in
    let at = found ps es no_entry v.0 c.args.place i c.self.invariant.entries_made v.2
    (root_newest n.roots.items c.args.place) (sym v.3 ∙ c.in-Some.is) in
    let b = at.below in
    let most = v.2 in
    omega (arith, b, most, n.entries.ok)

pub loop-newest-preserved : goal.loop-newest-preserved
loop-newest-preserved c =
    let n = c.self.inside in
    let es = n.entries.items in
    let ps = map root_of n.roots.items in
    let i = c.in-Some.entry in
    let d = c.index-in-Some.result.now in
    let v = c.loop-newest.invariant in
    let at = found ps es d v.0 c.args.place i c.self.invariant.entries_made v.2
    (root_newest n.roots.items c.args.place) (sym v.3 ∙ c.in-Some.is) in
    let b = at.below in
    let most = v.2 in
    let within : i < length es = omega (arith, b, most) in
    let tells = before_is ps es d c.args.place i c.self.invariant.entries_made within at.place in (
      i,
      omega arith,
      omega (arith, within),
      ap (λ (e : Entry). e.before) c.index-in-Some.ensures ∙ tells,
    )

pub loop-newest-smaller : goal.loop-newest-smaller
loop-newest-smaller c =
    let n = c.self.inside in
    let es = n.entries.items in
    let ps = map root_of n.roots.items in
    let i = c.in-Some.entry in
    let d = c.index-in-Some.result.now in
    let v = c.loop-newest.invariant in
    let none = root_newest n.roots.items c.args.place in
    let at = found ps es d v.0 c.args.place i c.self.invariant.entries_made v.2 none (sym v.3 ∙ c.in-Some.is) in
    let b = at.below in
    let most = v.2 in
    let within : i < length es = omega (arith, b, most) in
    let upto : i ≤ length es = omega (arith, within) in
    let tells = before_is ps es d c.args.place i c.self.invariant.entries_made within at.place in
    let is : d.before ≡ (was_at ps es i c.args.place).newest =
    ap (λ (e : Entry). e.before) c.index-in-Some.ensures ∙ tells in
    let below = newest_below ps es i c.args.place c.self.invariant.entries_made upto none in
    let less : above d.before < above (Some i) =
    smaller d.before i (subst (λ (o : Option ℕ). IfSome o (λ j. j < i)) (sym is) below) in
    subst (λ (o : Option ℕ). above d.before < above o) (sym c.in-Some.is) less

pub returns-then-entry-at-clause-newest : goal.returns-then-entry-at-clause-newest
returns-then-entry-at-clause-newest c =
    let n = c.self.inside in
    let es = n.entries.items in
    let ps = map root_of n.roots.items in
    let i = c.in-Some.entry in
    let v = c.loop-newest.invariant in
    let now : (was_at ps es v.0 c.args.place).newest ≡ Some i = sym v.3 ∙ c.in-Some.is in
    let early : i < c.args.at = c.if-entry-at.true in
    let old = subst (λ (o : Option ℕ). IfSome o (λ j. j < c.args.at)) (sym now) early in
    let quiet = quiet_since ps es no_entry c.args.at v.0 c.args.place c.self.invariant.entries_made v.1 v.2 old in
    rw (← c.self.view_is) (sym now ∙ ap (λ (x : Place). x.newest) (sym quiet))

pub returns-in_default-clause-newest : goal.returns-in_default-clause-newest
returns-in_default-clause-newest c =
    let n = c.self.inside in
    let es = n.entries.items in
    let ps = map root_of n.roots.items in
    let v = c.loop-newest.invariant in
    let now : (was_at ps es v.0 c.args.place).newest ≡ None = sym v.3 ∙ c.in_default.is in
    let old = subst (λ (o : Option ℕ). IfSome o (λ j. j < c.args.at)) (sym now) tt in
    let quiet = quiet_since ps es no_entry c.args.at v.0 c.args.place c.self.invariant.entries_made v.1 v.2 old in
    rw (← c.self.view_is) (v.3 ∙ ap (λ (x : Place). x.newest) (sym quiet))
