use Rattle.std.proofs.Common.{◌<◌, ◌≤◌, ℕ, Option, length, get_or, map, sym, subst, arith, IfSome, refl}
use Rattle.std.proofs.lemmas.List.{length-map}
use Rattle.prop_trail.specs.Places.{root_of}
use Rattle.prop_trail.specs.declared.entry.Entry.{Entry}
use Rattle.prop_trail.proofs.TrailLaws.{entries_within, before_is, newest_below, root_newest}
use Rattle.prop_trail.proofs.trail.Trail.entry.Goals as goal

pub returns-clause-place : goal.returns-clause-place
returns-clause-place c =
    let n = c.self.inside in
    let es = n.entries.items in
    let x = c.index.result.now in
    let l : c.args.at < length es = rw (← c.self.view_is) at c.requires in
    let within = entries_within 0 (map root_of n.roots.items) es c.self.invariant.entries_made c.args.at x l in
    let count = length-map n.roots.items root_of in
    let of_place : (get_or es c.args.at x).place < length n.roots.items = omega (arith, within, count) in
    rw (← c.self.view_is) (subst (λ (e : Entry). e.place < length n.roots.items) (sym c.index.ensures) of_place)

pub returns-clause-before : goal.returns-clause-before
returns-clause-before c =
    let n = c.self.inside in
    let es = n.entries.items in
    let ps = map root_of n.roots.items in
    let x = c.index.result.now in
    let at = c.args.at in
    let l : at < length es = rw (← c.self.view_is) at c.requires in
    let upto : at ≤ length es = omega (arith, l) in
    let e = get_or es at x in
    let is = before_is ps es x e.place at c.self.invariant.entries_made l refl in
    let below = newest_below ps es at e.place c.self.invariant.entries_made upto (root_newest n.roots.items e.place) in
    let here : IfSome e.before (λ b. b < at) = subst (λ (o : Option ℕ). IfSome o (λ b. b < at)) (sym is) below in
    subst (λ (y : Entry). IfSome y.before (λ b. b < at)) (sym c.index.ensures) here
