use Rattle.std.proofs.Common.{◌≡◌, map, take}
use Rattle.prop_meaning.specs.Palette.{instance_of, numbered}
use Rattle.prop_meaning.proofs.palette.all_numbered.Given as goal

abbrev pub invariant-loop-act : goal.invariant-loop-act
invariant-loop-act g l =
    map instance_of l.instances.items ≡ map (numbered (g.P.Palette.number_of l.palette)) (take l.act-index l.acts)
