use Rattle.std.proofs.Common.{◌≡◌, ◌∙◌, ◌<◌, ℕ, length, get_or, map, take, ap, arith}
use Rattle.std.proofs.lemmas.List.{get_or_read}
use Rattle.prop_trail.specs.Places.{root_of}
use Rattle.prop_trail.specs.Trails.{all_after}
use Rattle.prop_trail.proofs.TrailLaws.{entries_in, cut_trail}
use Rattle.prop_trail.proofs.trail.Trail.back.Goals as goal

pub cut-requires : goal.cut-requires
cut-requires c =
    let n = c.self.inside in
    entries_in n.roots.items n.places.items n.entries.items n.starts.items c.self.invariant

pub invariant_of-self : goal.invariant_of-self
invariant_of-self c =
    let n = c.self.inside in
    let es = n.entries.items in
    let ps = map root_of n.roots.items in
    let level = c.args.level in
    let l : level < length n.starts.items = omega (arith, n.starts.ok) in
    let start : c.index-start.result.now ≡ get_or n.starts.items level 0 =
    get_or_read n.starts.items level c.index-start.result.now l c.index-start.ensures 0 in
    let front : c.cut.new.entries.items ≡ take (get_or n.starts.items level 0) es =
    c.cut.ensures.entries ∙ ap (λ (k : ℕ). take k es) start in
    let placed = c.cut.ensures.now ps c.self.invariant.entries_made c.self.invariant.now ∙ ap (all_after 0 ps) front in
    rw (front, c.truncate.ensures.items)
    (cut_trail n.roots.items n.places.items c.cut.new.places.items es n.starts.items level c.self.invariant l placed)
