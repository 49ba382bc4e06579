use Rattle.std.proofs.Common.{◌≡◌, ◌∙◌, ◌+◌, ◌<◌, ◌≤◌, ℤ, Option, Some, IfSome, length, map, ap, sym, refl, subst}
use Rattle.std.proofs.Common.{arith}
use Rattle.std.proofs.Common.{to_z, of_z, w64}
use Rattle.std.proofs.lemmas.Bool.{false≢true}
use Rattle.std.proofs.lemmas.Int.{ints}
use Rattle.std.proofs.lemmas.Option.{slice_get-get_or}
use Rattle.std.specs.List.{slice_get}
use Rattle.prop_facts.specs.declared.fact.Fact.{Fact}
use Rattle.prop_facts.specs.declared.fact.Fact.TheVariants.{Other}
use Rattle.prop_trail.specs.Places.{root_of}
use Rattle.prop_trail.specs.Trails.{place_at, all_after}
use Rattle.prop_trail.specs.Windows.{IsOut}
use Rattle.prop_trail.specs.declared.entry.Entry.{Entry}
use Rattle.prop_trail.specs.declared.place.Place.{Place}
use Rattle.prop_trail.proofs.MakerLaws.{removed_since, not_removed_before}
use Rattle.prop_trail.proofs.SayLaws.{SaysIn, same_other}
use Rattle.prop_trail.proofs.TrailLaws.{was_at, no_entry, places_count, place_is}
use Rattle.prop_trail.proofs.trail.Trail.maker.Goals.{in_default-via-in-Other+else-has, in_default-via-in_default}
use Rattle.prop_trail.proofs.trail.Trail.maker.Goals as goal

pub index-requires : goal.index-requires
index-requires c =
    let n = c.self.inside in
    let l : c.args.literal.place < length n.roots.items = rw (← c.self.view_is) at c.requires.place in
    let count = places_count n.roots.items n.places.items n.entries.items n.starts.items c.self.invariant in
    omega (arith, l, count, n.places.ok)

pub first_saying-requires-clause-apart : goal.first_saying-requires-clause-apart
first_saying-requires-clause-apart c =
    let n = c.self.inside in
    let p = c.args.literal.place in
    let l : p < length n.roots.items = rw (← c.self.view_is) at c.requires.place in
    elim c.in_default.branch [
      | in_default-via-in-Other+else-has w ↦ rw (← c.self.view_is) (λ k is out. (
          let number = w.in-Other.number in
          let m = to_z w64 (of_z w64 number) in
          let same : m ≡ number = omega (arith, ints) in
          let told : number ≡ k = same_other number k (sym w.in-Other.is ∙ is) in
          let x = w.index.result.now in
          let here = place_is n.roots.items n.places.items n.entries.items n.starts.items p x c.self.invariant l
          w.index.ensures in
          let there = subst (λ (y : Place). IsOut y.window k) (sym here) out in
          false≢true (w.if-has.ensures.1 (subst (IsOut x.window) (sym (same ∙ told)) there))))
      | in_default-via-in_default w ↦ λ k is _. absurd (w.in_default.not-Other k is)
    ]

pub returns-in-Some-clause-some : goal.returns-in-Some-clause-some
returns-in-Some-clause-some c =
    let n = c.self.inside in
    let roots = n.roots.items in
    let es = n.entries.items in
    let ps = map root_of roots in
    let p = c.args.literal.place in
    let f = c.args.literal.fact in
    let i = c.in-Some.entry in
    let m = to_z w64 (of_z w64 c.in-Other.number) in
    let same : m ≡ c.in-Other.number = omega (arith, ints) in
    let made = c.self.invariant.entries_made in
    let l : p < length roots = rw (← c.self.view_is) at c.requires.place in
    let here = place_is roots n.places.items es n.starts.items p c.index.result.now c.self.invariant l
    c.index.ensures in
    let out = subst (λ (x : Place). IsOut x.window m) here (c.if-has.ensures.0 refl) in
    let within : i < length es = rw (← c.self.view_is) at c.in-Some.ensures.within in
    let some : IfSome (slice_get es i) (λ (e : Entry). (e.place ≡ p) × (e.out ≡ Some m)) =
    rw (← c.self.view_is) at c.in-Some.ensures.some in
    let read = slice_get-get_or es i no_entry within in
    let tells = subst (λ (o : Option Entry). IfSome o (λ (e : Entry). (e.place ≡ p) × (e.out ≡ Some m))) read some in
    let fact : f ≡ Other m = c.in-Other.is ∙ ap (λ (z : ℤ). Other z) (sym same) in
    let least : i ≤ i = omega arith in
    rw (← c.self.view_is) (record {
      place = subst (λ (o : Option Entry). IfSome o (λ (e : Entry). e.place ≡ p)) (sym read) tells.0;
      before = λ says. not_removed_before roots es no_entry made p m i i within least tells.0 tells.1
          (subst (λ (g : Fact). SaysIn g (was_at ps es i p)) fact says);
      since = subst (λ (g : Fact). SaysIn g (was_at ps es (i + 1) p)) (sym fact)
          (removed_since roots es no_entry made p m i within tells.0 tells.1 out);
    })

pub returns-in_default-remover-clause-none : goal.returns-in_default-remover-clause-none
returns-in_default-remover-clause-none c =
    let n = c.self.inside in
    let roots = n.roots.items in
    let es = n.entries.items in
    let ps = map root_of roots in
    let p = c.args.literal.place in
    let f = c.args.literal.fact in
    let i = c.in-Some.entry in
    let m = to_z w64 (of_z w64 c.in-Other.number) in
    let same : m ≡ c.in-Other.number = omega (arith, ints) in
    let within : i < length es = rw (← c.self.view_is) at c.in-Some.ensures.within in
    let some : IfSome (slice_get es i) (λ (e : Entry). (e.place ≡ p) × (e.out ≡ Some m)) =
    rw (← c.self.view_is) at c.in-Some.ensures.some in
    let read = slice_get-get_or es i no_entry within in
    let tells = subst (λ (o : Option Entry). IfSome o (λ (e : Entry). (e.place ≡ p) × (e.out ≡ Some m))) read some in
    let fact : f ≡ Other m = c.in-Other.is ∙ ap (λ (z : ℤ). Other z) (sym same) in
    rw (← c.self.view_is) (λ _ says. absurd (not_removed_before roots es no_entry c.self.invariant.entries_made p m i
    c.args.before within c.if-entry-before.false tells.0 tells.1
    (subst (λ (g : Fact). SaysIn g (was_at ps es c.args.before p)) fact says)))

pub returns-in_default-remover-2-clause-none : goal.returns-in_default-remover-2-clause-none
returns-in_default-remover-2-clause-none c =
    let n = c.self.inside in
    let roots = n.roots.items in
    let es = n.entries.items in
    let p = c.args.literal.place in
    let m = to_z w64 (of_z w64 c.in-Other.number) in
    let l : p < length roots = rw (← c.self.view_is) at c.requires.place in
    let here = place_is roots n.places.items es n.starts.items p c.index.result.now c.self.invariant l
    c.index.ensures in
    let out = subst (λ (x : Place). IsOut x.window m) here (c.if-has.ensures.0 refl) in
    let none : IsOut (place_at (all_after 0 (map root_of roots) es) p).window m → ⊥ =
    rw (← c.self.view_is) at (c.in_default-remover.ensures.none refl) in
    λ _ _. absurd (none out)
