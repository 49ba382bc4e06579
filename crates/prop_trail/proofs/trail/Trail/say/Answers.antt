use Rattle.std.proofs.Common.{◌≡◌, ◌∙◌, ◌<◌, None, length, map, ap, refl, subst, arith}
use Rattle.std.proofs.lemmas.Bool.{false≢true}
use Rattle.std.proofs.lemmas.List.{length-map}
use Rattle.prop_lattice.specs.Order.{Below, merge_of}
use Rattle.prop_lattice.specs.declared.info.Info.{Info}
use Rattle.prop_lattice.specs.declared.info.Info.TheVariants.{Contradiction}
use Rattle.prop_facts.specs.Changing.{AreBetween}
use Rattle.prop_trail.specs.Narrowing.{IsNarrowed}
use Rattle.prop_trail.specs.Places.{root_of}
use Rattle.prop_trail.specs.Trails.{Trailed, place_of, all_after, entered}
use Rattle.prop_trail.specs.Windows.{IsOut}
use Rattle.prop_trail.specs.declared.place.Place.{Place}
use Rattle.prop_trail.proofs.TrailLaws.{places_count, place_is, length_after, said_made, same_entry}
use Rattle.prop_trail.proofs.trail.Trail.say.Goals as goal

pub index-now-requires : goal.index-now-requires
index-now-requires c =
    let n = c.self.inside in
    let l : c.args.place < length n.roots.items = rw (← c.self.view_is) at c.requires in
    let count = places_count n.roots.items n.places.items n.entries.items n.starts.items c.self.invariant in
    omega (arith, l, count, n.places.ok)

pub returns-then-implies-clause-ok : goal.returns-then-implies-clause-ok
returns-then-implies-clause-ok c =
    let n = c.self.inside in
    let l : c.args.place < length n.roots.items = rw (← c.self.view_is) at c.requires in
    let here = place_is n.roots.items n.places.items n.entries.items n.starts.items c.args.place c.index-now.result.now
    c.self.invariant l c.index-now.ensures ∙ ap (λ (t : Trailed). place_of t c.args.place) c.self.view_is in
    (subst (λ (y : Place). Below c.args.said y.info) here (c.if-implies.ensures.0 refl), refl)

pub returns-then-is_contradiction-clause-ok : goal.returns-then-is_contradiction-clause-ok
returns-then-is_contradiction-clause-ok c =
    let n = c.self.inside in
    let x = c.index-now.result.now in
    let said = c.args.said in
    let l : c.args.place < length n.roots.items = rw (← c.self.view_is) at c.requires in
    let here = place_is n.roots.items n.places.items n.entries.items n.starts.items c.args.place x
    c.self.invariant l c.index-now.ensures ∙ ap (λ (t : Trailed). place_of t c.args.place) c.self.view_is in
    let none : c.merged-is.result ≡ Contradiction = c.if-is_contradiction.ensures.0 refl in (
      subst (λ (y : Place). IsNarrowed (IsOut y.window) (merge_of y.info said) Contradiction) here
          (subst (λ (i : Info). IsNarrowed (IsOut x.window) (merge_of x.info said) i) none c.merged-is.ensures),
      refl,
    )

pub enter-requires : goal.enter-requires
enter-requires c =
    let n = c.self.inside in
    let x = c.index-now.result.now in
    let roots = n.roots.items in
    let es = n.entries.items in
    let l : c.args.place < length roots = rw (← c.self.view_is) at c.requires in
    let here = place_is roots n.places.items es n.starts.items c.args.place x c.self.invariant l c.index-now.ensures in
    let count = length_after 0 (map root_of roots) es in
    let roots_count = length-map roots root_of in
    let within : c.args.place < length (all_after 0 (map root_of roots) es) = omega (arith, l, count, roots_count) in
    rw (← c.self.view_is)
    (said_made (all_after 0 (map root_of roots) es) x _ c.args.said within here refl refl refl c.merged-is.ensures)

pub returns-clause-ok : goal.returns-clause-ok
returns-clause-ok c =
    let n = c.self.inside in
    let x = c.index-now.result.now in
    let said = c.args.said in
    let is = c.merged-is.result in
    let now = c.args.self.now in
    let l : c.args.place < length n.roots.items = rw (← c.self.view_is) at c.requires in
    let here : x ≡ place_of now c.args.place =
    place_is n.roots.items n.places.items n.entries.items n.starts.items c.args.place x
    c.self.invariant l c.index-now.ensures ∙ ap (λ (t : Trailed). place_of t c.args.place) c.self.view_is in
    let was : x.info ≡ (place_of now c.args.place).info = ap (λ (y : Place). y.info) here in
    let starts : length n.starts.items ≡ length now.starts = ap (λ (t : Trailed). length t.starts) c.self.view_is in
    let level : c.len.result ≡ length now.starts = omega (arith, starts, n.starts.ok, c.len.ensures) in
    let entry = same_entry c.args.place x.newest (place_of now c.args.place).newest x.info
    (place_of now c.args.place).info is said None None c.args.by c.len.result (length now.starts)
    (ap (λ (y : Place). y.newest) here) was refl level in (
      is,
      λ e. false≢true (c.if-is_contradiction.ensures.1 e),
      subst (λ (i : Info). AreBetween i is c.between.result) was c.between.ensures,
      subst (λ (y : Place). IsNarrowed (IsOut y.window) (merge_of y.info said) is) here c.merged-is.ensures,
      c.in_ok-enter.ensures.ok ∙ ap (entered now) entry,
    )
