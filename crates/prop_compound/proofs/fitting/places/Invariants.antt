use Rattle.std.proofs.Common.{◌≡◌, length, take, map, zip}
use Rattle.prop_procedures.specs.Fitting.{kind_at}
use Rattle.prop_compound.proofs.fitting.places.Given as goal

abbrev pub invariant-loop-i : goal.invariant-loop-i
invariant-loop-i g l = record {
  items : l.places.items ≡ take l.i (zip l.ins (map (kind_at l.kinds) l.instance.inputs.items));
  count : length l.places.items ≡ l.i;
  room : l.places.capacity ≡ g.row.N;
}
