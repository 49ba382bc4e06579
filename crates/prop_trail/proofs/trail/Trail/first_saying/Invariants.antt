use Rattle.std.proofs.Common.{◌≡◌, ◌+◌, ◌<◌, get_or, map}
use Rattle.prop_trail.specs.Places.{root_of}
use Rattle.prop_trail.proofs.SayLaws.{SaysIn}
use Rattle.prop_trail.proofs.TrailLaws.{was_at, no_entry}
use Rattle.prop_trail.proofs.trail.Trail.first_saying.Given as goal

abbrev pub invariant-loop-self : goal.invariant-loop-self
invariant-loop-self l = record {
  within : l.at < l.before;
  place : (get_or l.self-inside.entries.items l.at no_entry).place ≡ l.literal.place;
  says : SaysIn l.literal.fact
      (was_at (map root_of l.self-inside.roots.items) l.self-inside.entries.items (l.at + 1) l.literal.place);
}

abbrev pub decreases-loop-self : goal.decreases-loop-self
decreases-loop-self l = l.at
