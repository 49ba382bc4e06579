use Rattle.std.proofs.Common.{◌≡◌, ◌≤◌, ℕ, length, map}
use Rattle.prop_trail.specs.Places.{root_of}
use Rattle.prop_trail.specs.Trails.{place_at, all_after}
use Rattle.prop_trail.specs.Windows.{IsOut}
use Rattle.prop_trail.proofs.TrailLaws.{was_at, above}
use Rattle.prop_trail.proofs.trail.Trail.remover.Given as goal

abbrev pub invariant-loop-newest : goal.invariant-loop-newest
invariant-loop-newest l =
    (m : ℕ) × (m ≤ length l.self-inside.entries.items)
    × (l.newest ≡ (was_at (map root_of l.self-inside.roots.items) l.self-inside.entries.items m l.place).newest)
    × (IsOut (place_at (all_after 0 (map root_of l.self-inside.roots.items) l.self-inside.entries.items) l.place).window
    l.number
    → IsOut (was_at (map root_of l.self-inside.roots.items) l.self-inside.entries.items m l.place).window l.number)

abbrev pub decreases-loop-newest : goal.decreases-loop-newest
decreases-loop-newest l = above l.newest
