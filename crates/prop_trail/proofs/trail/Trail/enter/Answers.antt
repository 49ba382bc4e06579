use Rattle.std.proofs.Common.{◌≡◌, length, map, arith}
use Rattle.prop_trail.specs.Places.{root_of}
use Rattle.prop_trail.specs.Trails.{all_after}
use Rattle.prop_trail.specs.inner.Making.{IsMadeOn}
use Rattle.prop_trail.proofs.TrailLaws.{entered_trail}
use Rattle.prop_trail.proofs.trail.Trail.enter.Goals as goal

pub invariant_of-self-2 : goal.invariant_of-self-2
invariant_of-self-2 c =
    let n = c.self.inside in
    let made : IsMadeOn (all_after 0 (map root_of n.roots.items) n.entries.items) c.args.entry =
    rw (← c.self.view_is) at c.requires in
    let at : c.len-at.result ≡ length n.entries.items = omega (arith, c.len-at.ensures, n.entries.ok) in
    rw (c.make.ensures, c.in_ok-push.ensures.items)
    (entered_trail n.roots.items n.places.items n.entries.items n.starts.items c.args.entry c.len-at.result
    c.self.invariant made at)
