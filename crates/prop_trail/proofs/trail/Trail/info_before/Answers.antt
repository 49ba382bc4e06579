use Rattle.std.proofs.Common.{◌≡◌, ◌∙◌, ◌<◌, ◌≤◌, Some, None, length, map, ap, sym, arith}
use Rattle.prop_trail.specs.Places.{root_of}
use Rattle.prop_trail.specs.declared.entry.Entry.{Entry}
use Rattle.prop_trail.specs.declared.place.Place.{Place}
use Rattle.prop_trail.proofs.TrailLaws.{was_at, found, untold, is_is, root_newest, root_info}
use Rattle.prop_trail.proofs.trail.Trail.info_before.Goals as goal

pub returns-in-Some : goal.returns-in-Some
returns-in-Some c =
    let n = c.self.inside in
    let es = n.entries.items in
    let ps = map root_of n.roots.items in
    let p = c.args.place in
    let i = c.in-Some.entry in
    let d = c.index.result.now in
    let upto : c.args.at ≤ length es = rw (← c.self.view_is) at c.requires.at in
    let newest : Some i ≡ (was_at ps es c.args.at p).newest = rw (← c.self.view_is) at c.in-Some.ensures.newest in
    let at = found ps es d c.args.at p i c.self.invariant.entries_made upto
    (root_newest n.roots.items p) (sym newest) in
    let below = at.below in
    let within : i < length es = omega (arith, below, upto) in
    rw (← c.self.view_is) (ap (λ (e : Entry). e.is) c.index.ensures
    ∙ sym (is_is ps es d p i c.self.invariant.entries_made within at.place)
    ∙ ap (λ (x : Place). x.info) (sym at.since))

pub returns-in-None : goal.returns-in-None
returns-in-None c =
    let n = c.self.inside in
    let es = n.entries.items in
    let ps = map root_of n.roots.items in
    let p = c.args.place in
    let l : p < length n.roots.items = rw (← c.self.view_is) at c.requires.place in
    let upto : c.args.at ≤ length es = rw (← c.self.view_is) at c.requires.at in
    let newest : None ≡ (was_at ps es c.args.at p).newest = rw (← c.self.view_is) at c.in-None.ensures.newest in
    let root = untold ps es c.args.at p c.self.invariant.entries_made upto
    (root_newest n.roots.items p) (sym newest) in
    rw (← c.self.view_is) (c.index-in-None.ensures ∙ sym (root_info n.roots.items p c.index-in-None.result.now l)
    ∙ ap (λ (x : Place). x.info) (sym root))
