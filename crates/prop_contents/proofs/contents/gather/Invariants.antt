use Rattle.std.proofs.Common.{◌≡◌, length, take, map}
use Rattle.std.specs.List.{list_any}
use Rattle.prop_lattice.specs.Order.{is_contradiction}
use Rattle.prop_numbers.specs.Sets.{set_of}
use Rattle.prop_contents.specs.Contents.{beliefs}
use Rattle.prop_contents.specs.Knowing.{AreBeliefs}
use Rattle.prop_contents.proofs.contents.gather.Given as goal

abbrev pub invariant-loop-i : goal.invariant-loop-i
invariant-loop-i l = record {
  places : length l.args ≡ length l.cells;
  args : take l.i l.args ≡ map (beliefs (set_of l.worldview) l.contents) (take l.i l.cells);
  clash : l.clash ≡ list_any is_contradiction (take l.i l.args);
  known : AreBeliefs (set_of l.worldview) l.contents l.known;
}
