use Rattle.std.proofs.Common.{◌≡◌, ◌∙◌, ◌⊎◌, ◌<◌, ℤ, Some, length, map, ap, sym, refl, subst, arith, SFits, to_z, of_z}
use Rattle.std.proofs.Common.{w64}
use Rattle.std.proofs.lemmas.Bool.{false≢true}
use Rattle.std.proofs.lemmas.Int.{ints, to_z-of_z}
use Rattle.std.proofs.lemmas.List.{length-map}
use Rattle.prop_lattice.specs.Points.{Number, Holds}
use Rattle.prop_lattice.specs.declared.info.Info.{Info}
use Rattle.prop_lattice.specs.declared.info.Info.TheVariants.{Nothing, Span}
use Rattle.prop_trail.specs.Narrowing.{IsTight, IsNarrowed}
use Rattle.prop_trail.specs.Places.{root_of, IsLeftIn}
use Rattle.prop_trail.specs.Sayings.{AreWithout}
use Rattle.prop_trail.specs.Trails.{Trailed, place_of, all_after, entered}
use Rattle.prop_trail.specs.Windows.{IsOut, CanGo}
use Rattle.prop_trail.specs.declared.place.Place.{Place}
use Rattle.prop_trail.proofs.NarrowingLaws.{one_left}
use Rattle.prop_trail.proofs.TrailLaws.{places_count, place_is, out_made, tight_at, length_after, same_entry}
use Rattle.prop_trail.proofs.trail.Trail.rule_out.Goals as goal

pub index-now-requires : goal.index-now-requires
index-now-requires c =
    let n = c.self.inside in
    let l : c.args.place < length n.roots.items = rw (← c.self.view_is) at c.requires in
    let count = places_count n.roots.items n.places.items n.entries.items n.starts.items c.self.invariant in
    omega (arith, l, count, n.places.ok)

pub returns-then-not-leaves-clause-ok : goal.returns-then-not-leaves-clause-ok
returns-then-not-leaves-clause-ok c =
    let n = c.self.inside in
    let l : c.args.place < length n.roots.items = rw (← c.self.view_is) at c.requires in
    let here = place_is n.roots.items n.places.items n.entries.items n.starts.items c.args.place c.index-now.result.now
    c.self.invariant l c.index-now.ensures ∙ ap (λ (t : Trailed). place_of t c.args.place) c.self.view_is in
    let fits : SFits w64 c.args.number = c.ranges.number in
    let tells = simp to_z-of_z at c.if-not-leaves.ensures in (
      λ left can. false≢true (tells.1 (subst (λ (y : Place). IsLeftIn y (Number c.args.number)) (sym here) left)),
      refl,
    )

pub returns-then-lo-hi-clause-ok : goal.returns-then-lo-hi-clause-ok
returns-then-lo-hi-clause-ok c =
    let n = c.self.inside in
    let s = c.in-Span.span in
    let x = c.index-now.result.now in
    let l : c.args.place < length n.roots.items = rw (← c.self.view_is) at c.requires in
    let here = place_is n.roots.items n.places.items n.entries.items n.starts.items c.args.place x
    c.self.invariant l c.index-now.ensures ∙ ap (λ (t : Trailed). place_of t c.args.place) c.self.view_is in
    let fits : SFits w64 c.args.number = c.ranges.number in
    let tells = simp to_z-of_z at c.if-not-leaves.ensures in
    let left : IsLeftIn x (Number c.args.number) = tells.0 refl in
    let inside : Holds (Span s) (Number c.args.number) =
    subst (λ (i : Info). Holds i (Number c.args.number)) c.in-Span.is left.0 in
    let one : s.lo ≡ s.hi = omega (arith, ints) in
    let now = subst (λ (y : Place). IsLeftIn y (Number c.args.number)) here left in (
      now,
      λ p h. one_left x s c.args.number c.in-Span.is one inside.0 inside.1 p
          (subst (λ (y : Place). IsLeftIn y p) (sym here) h),
      refl,
    )

pub without-requires-clause-tight : goal.without-requires-clause-tight
without-requires-clause-tight c =
    let n = c.self.inside in
    let x = c.index-now.result.now in
    let l : c.args.place < length n.roots.items = rw (← c.self.view_is) at c.requires in
    let here = place_is n.roots.items n.places.items n.entries.items n.starts.items c.args.place x
    c.self.invariant l c.index-now.ensures in
    let all = tight_at n.roots.items n.entries.items c.self.invariant.entries_made c.args.place in
    let own : IsTight (IsOut x.window) x.info =
    subst (λ (y : Place). IsTight (IsOut y.window) y.info) (sym here) all in
    subst (λ (i : Info). IsTight (IsOut x.window) i) c.in-Span.is own

pub returns-in_default-without-clause-ok : goal.returns-in_default-without-clause-ok
returns-in_default-without-clause-ok c =
    let n = c.self.inside in
    let x = c.index-now.result.now in
    let l : c.args.place < length n.roots.items = rw (← c.self.view_is) at c.requires in
    let here = place_is n.roots.items n.places.items n.entries.items n.starts.items c.args.place x
    c.self.invariant l c.index-now.ensures ∙ ap (λ (t : Trailed). place_of t c.args.place) c.self.view_is in
    let fits : SFits w64 c.args.number = c.ranges.number in
    let none = simp to_z-of_z at (c.in_default-without.ensures.none refl) in (
      λ left can. none (subst (λ (i : Info). CanGo i x.window c.args.number) c.in-Span.is
          (subst (λ (y : Place). CanGo y.info y.window c.args.number) (sym here) can)),
      refl,
    )

pub enter-requires : goal.enter-requires
enter-requires c =
    let n = c.self.inside in
    let x = c.index-now.result.now in
    let roots = n.roots.items in
    let es = n.entries.items in
    let m = to_z w64 (of_z w64 c.args.number) in
    let l : c.args.place < length roots = rw (← c.self.view_is) at c.requires in
    let here = place_is roots n.places.items es n.starts.items c.args.place x c.self.invariant l c.index-now.ensures in
    let count = length_after 0 (map root_of roots) es in
    let roots_count = length-map roots root_of in
    let within : c.args.place < length (all_after 0 (map root_of roots) es) = omega (arith, l, count, roots_count) in
    let left : IsLeftIn x (Number m) = c.if-not-leaves.ensures.0 refl in
    let some = c.in-Some.ensures.some in
    let nar = subst (λ (i : Info). IsNarrowed (λ k. IsOut x.window k ⊎ (k ≡ m)) i c.in-Some.is') (sym c.in-Span.is)
    some.1 in
    rw (← c.self.view_is)
    (out_made (all_after 0 (map root_of roots) es) x _ m within here (sym c.in-Span.is) refl refl tt left nar)

pub returns-clause-ok : goal.returns-clause-ok
returns-clause-ok c =
    let n = c.self.inside in
    let x = c.index-now.result.now in
    let s = c.in-Span.span in
    let now = c.args.self.now in
    let number = c.args.number in
    let m = to_z w64 (of_z w64 number) in
    let l : c.args.place < length n.roots.items = rw (← c.self.view_is) at c.requires in
    let here : x ≡ place_of now c.args.place =
    place_is n.roots.items n.places.items n.entries.items n.starts.items c.args.place x
    c.self.invariant l c.index-now.ensures ∙ ap (λ (t : Trailed). place_of t c.args.place) c.self.view_is in
    let fits : SFits w64 number = c.ranges.number in
    let same : m ≡ number = omega (arith, ints) in
    let left : IsLeftIn x (Number number) =
    subst (λ (z : ℤ). IsLeftIn x (Number z)) same (c.if-not-leaves.ensures.0 refl) in
    let some = c.in-Some.ensures.some in
    let nar = subst (λ (z : ℤ). IsNarrowed (λ k. IsOut x.window k ⊎ (k ≡ z)) x.info c.in-Some.is') same
    (subst (λ (i : Info). IsNarrowed (λ k. IsOut x.window k ⊎ (k ≡ m)) i c.in-Some.is') (sym c.in-Span.is) some.1) in
    let was : Span s ≡ (place_of now c.args.place).info = sym c.in-Span.is ∙ ap (λ (y : Place). y.info) here in
    let starts : length n.starts.items ≡ length now.starts = ap (λ (t : Trailed). length t.starts) c.self.view_is in
    let level : c.len.result ≡ length now.starts = omega (arith, starts, n.starts.ok, c.len.ensures) in
    let entry = same_entry c.args.place x.newest (place_of now c.args.place).newest (Span s)
    (place_of now c.args.place).info c.in-Some.is' Nothing (Some m) (Some number) c.args.by c.len.result
    (length now.starts) (ap (λ (y : Place). y.newest) here) was (ap (λ (z : ℤ). Some z) same) level in (
      c.in-Some.is',
      some.0,
      subst (λ (i : Info). AreWithout i c.in-Some.is' c.changes_without.result) was c.changes_without.ensures,
      subst (λ (y : Place). IsLeftIn y (Number number)) here left,
      subst (λ (y : Place). IsNarrowed (λ k. IsOut y.window k ⊎ (k ≡ number)) y.info c.in-Some.is') here nar,
      c.in_ok-enter.ensures.ok ∙ ap (entered now) entry,
    )

pub changes_without-requires : goal.changes_without-requires
changes_without-requires c = c.in-Some.ensures.some.1.above
