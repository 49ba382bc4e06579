use Rattle.std.proofs.Common.{◌≢◌, ◌<◌, ℕ}
use Rattle.prop_lattice.specs.declared.info.Info.TheVariants.{Contradiction}
use Rattle.prop_numbers.specs.Sets.{set_of}
use Rattle.prop_contents.specs.Contents.{beliefs}
use Rattle.prop_contents.proofs.contents.first_clash.Given as goal

abbrev pub invariant-loop-cell : goal.invariant-loop-cell
invariant-loop-cell l = (k : ℕ) → k < l.cell → beliefs (set_of l.worldview) l.contents k ≢ Contradiction
