use Rattle.std.proofs.Common.{◌≡◌, ◌∙◌, ◌<◌, ◌≤◌, ℕ, ℤ, Option, Some, IfSome, length, get_or, map, ap, sym, subst}
use Rattle.std.proofs.Common.{arith, SFits, to_z, of_z, w64}
use Rattle.std.proofs.lemmas.Int.{ints}
use Rattle.std.proofs.lemmas.List.{get_or_read}
use Rattle.std.proofs.lemmas.Option.{slice_get-get_or}
use Rattle.prop_trail.specs.Places.{root_of}
use Rattle.prop_trail.specs.Trails.{place_at, all_after}
use Rattle.prop_trail.specs.Windows.{IsOut}
use Rattle.prop_trail.specs.declared.entry.Entry.{Entry}
use Rattle.prop_trail.specs.declared.place.Place.{Place}
use Rattle.prop_trail.proofs.MakerLaws.{now_is, same_out, other_out, out_earlier, root_clean}
use Rattle.prop_trail.proofs.TrailLaws.{was_at, no_entry, found, untold, newest_below, before_is, above, smaller}
use Rattle.prop_trail.proofs.TrailLaws.{step_same}
use Rattle.prop_trail.proofs.TrailLaws.{root_newest, places_count, place_is}
use Rattle.prop_trail.proofs.trail.Trail.remover.Goals as goal

pub index-requires : goal.index-requires
index-requires c =
    let n = c.self.inside in
    let l : c.args.place < length n.roots.items = rw (← c.self.view_is) at c.requires in
    let count = places_count n.roots.items n.places.items n.entries.items n.starts.items c.self.invariant in
    omega (arith, l, count, n.places.ok)

pub loop-newest-init : goal.loop-newest-init
loop-newest-init c =
    let n = c.self.inside in
    let es = n.entries.items in
    let ps = map root_of n.roots.items in
    let p = c.args.place in
    let m = to_z w64 (of_z w64 c.args.number) in
    let l : p < length n.roots.items = rw (← c.self.view_is) at c.requires in
    let here = place_is n.roots.items n.places.items es n.starts.items p c.index.result.now c.self.invariant l
    c.index.ensures in
    let now = now_is ps es p in (
      length es,
      omega arith,
      ap (λ (x : Place). x.newest) (here ∙ sym now),
      λ out. subst (λ (x : Place). IsOut x.window m) (sym now) out,
    )

pub index-entry-requires : goal.index-entry-requires
index-entry-requires c =
    let n = c.self.inside in
    let es = n.entries.items in
    let ps = map root_of n.roots.items in
    let v = c.loop-newest.invariant in
    let at = found ps es no_entry v.0 c.args.place c.in-Some.at c.self.invariant.entries_made v.1
    (root_newest n.roots.items c.args.place) (sym v.2 ∙ c.in-Some.is) in
    let below = at.below in
    let most = v.1 in
    omega (arith, below, most, n.entries.ok)

pub returns-then-eq-clause-within : goal.returns-then-eq-clause-within
returns-then-eq-clause-within c =
    let n = c.self.inside in
    let es = n.entries.items in
    let ps = map root_of n.roots.items in
    let v = c.loop-newest.invariant in
    let at = found ps es no_entry v.0 c.args.place c.in-Some.at c.self.invariant.entries_made v.1
    (root_newest n.roots.items c.args.place) (sym v.2 ∙ c.in-Some.is) in
    let below = at.below in
    let most = v.1 in
    let within : c.in-Some.at < length es = omega (arith, below, most) in
    rw (← c.self.view_is) within

pub returns-then-eq-clause-some : goal.returns-then-eq-clause-some
returns-then-eq-clause-some c =
    let n = c.self.inside in
    let es = n.entries.items in
    let ps = map root_of n.roots.items in
    let p = c.args.place in
    let i = c.in-Some.at in
    let d = c.index-entry.result.now in
    let v = c.loop-newest.invariant in
    let at = found ps es no_entry v.0 p i c.self.invariant.entries_made v.1
    (root_newest n.roots.items p) (sym v.2 ∙ c.in-Some.is) in
    let below = at.below in
    let most = v.1 in
    let within : i < length es = omega (arith, below, most) in
    let tells : d ≡ get_or es i no_entry = get_or_read es i d within c.index-entry.ensures no_entry in
    let fits : SFits w64 c.args.number = c.ranges.number in
    let m = to_z w64 (of_z w64 c.args.number) in
    let same : m ≡ c.args.number = omega (arith, ints) in
    let out : d.out ≡ Some c.args.number = same_out d.out m c.if-eq.ensures ∙ ap (λ (z : ℤ). Some z) same in
    rw (← c.self.view_is) (subst
    (λ (o : Option Entry). IfSome o (λ (e : Entry). (e.place ≡ p) × (e.out ≡ Some c.args.number)))
    (sym (slice_get-get_or es i no_entry within)) (at.place, ap (λ (e : Entry). e.out) (sym tells) ∙ out))

pub loop-newest-smaller : goal.loop-newest-smaller
loop-newest-smaller c =
    let n = c.self.inside in
    let es = n.entries.items in
    let ps = map root_of n.roots.items in
    let p = c.args.place in
    let i = c.in-Some.at in
    let d = c.index-entry.result.now in
    let v = c.loop-newest.invariant in
    let none = root_newest n.roots.items p in
    let at = found ps es d v.0 p i c.self.invariant.entries_made v.1 none (sym v.2 ∙ c.in-Some.is) in
    let b = at.below in
    let most = v.1 in
    let within : i < length es = omega (arith, b, most) in
    let upto : i ≤ length es = omega (arith, within) in
    let tells = before_is ps es d p i c.self.invariant.entries_made within at.place in
    let is : d.before ≡ (was_at ps es i p).newest = ap (λ (e : Entry). e.before) c.index-entry.ensures ∙ tells in
    let below = newest_below ps es i p c.self.invariant.entries_made upto none in
    let less : above d.before < above (Some i) =
    smaller d.before i (subst (λ (o : Option ℕ). IfSome o (λ j. j < i)) (sym is) below) in
    subst (λ (o : Option ℕ). above d.before < above o) (sym c.in-Some.is) less

pub loop-newest-preserved : goal.loop-newest-preserved
loop-newest-preserved c =
    let n = c.self.inside in
    let es = n.entries.items in
    let ps = map root_of n.roots.items in
    let p = c.args.place in
    let m = to_z w64 (of_z w64 c.args.number) in
    let i = c.in-Some.at in
    let d = c.index-entry.result.now in
    let made = c.self.invariant.entries_made in
    let v = c.loop-newest.invariant in
    let at = found ps es d v.0 p i made v.1 (root_newest n.roots.items p) (sym v.2 ∙ c.in-Some.is) in
    let b = at.below in
    let most = v.1 in
    let within : i < length es = omega (arith, b, most) in
    let tells = before_is ps es d p i made within at.place in
    let since = at.since ∙ step_same ps es i p d made within at.place in
    let other : (get_or es i d).out ≡ Some m → ⊥ =
    λ is. other_out d.out m c.if-eq.ensures (ap (λ (e : Entry). e.out) c.index-entry.ensures ∙ is) in (
      i,
      omega (arith, within),
      ap (λ (e : Entry). e.before) c.index-entry.ensures ∙ tells,
      λ out. out_earlier (was_at ps es i p).window (get_or es i d).out m other
          (subst (λ (x : Place). IsOut x.window m) since (v.3 out)),
    )

pub returns-clause-none : goal.returns-clause-none
returns-clause-none c =
    let n = c.self.inside in
    let es = n.entries.items in
    let ps = map root_of n.roots.items in
    let p = c.args.place in
    let m = to_z w64 (of_z w64 c.args.number) in
    let fits : SFits w64 c.args.number = c.ranges.number in
    let same : m ≡ c.args.number = omega (arith, ints) in
    let v = c.loop-newest.invariant in
    let root = untold ps es v.0 p c.self.invariant.entries_made v.1 (root_newest n.roots.items p)
    (sym v.2 ∙ c.in_default.is) in
    rw (← c.self.view_is) (λ _ out. root_clean n.roots.items p m (subst (λ (x : Place). IsOut x.window m) root
    (v.3 (subst (IsOut (place_at (all_after 0 ps es) p).window) (sym same) out))))
