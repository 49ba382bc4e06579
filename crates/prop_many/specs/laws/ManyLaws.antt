-- The laws of the rules of many numbers.
use Rattle.std.specs.Prelude.{List}
use Rattle.prop_procedures.specs.declared.shape.Need.{Need}
use Rattle.prop_procedures.specs.declared.shape.Shape.{Shape}
use Rattle.prop_procedures.specs.Rules.{IsMonotone, IsSound, KeepsKind}
use Rattle.prop_many.specs.Many.{FormOf, Related, value_of}
use Rattle.prop_many.specs.declared.many.Many.{Many}
use Rattle.prop_many.specs.declared.many.Many.TheVariants.{Circuit, Cumulative, Differ, Disjoint}
use Rattle.prop_many.specs.declared.many.Many.TheVariants.{Ending, Starting}
use Rattle.prop_many.specs.laws.CircuitLaws.{circuit_below, circuit_holds, circuit_kind}
use Rattle.prop_many.specs.laws.CumulativeLaws.{cumulative_below, cumulative_holds, cumulative_kind}
use Rattle.prop_many.specs.laws.DifferLaws.{differ_below, differ_holds, differ_kind}
use Rattle.prop_many.specs.laws.DisjointLaws.{disjoint_below, disjoint_holds, disjoint_kind}
use Rattle.prop_many.specs.laws.NumberLaws.{closer, kept}
use Rattle.prop_many.specs.laws.PausingLaws.{ending_below, ending_holds, ending_kind}
use Rattle.prop_many.specs.laws.PausingLaws.{starting_below, starting_holds, starting_kind}

pub many_monotone : (rule : Many) (ins : List Shape) (out : Shape) (need : Need)
    → FormOf rule ins out need → IsMonotone (value_of rule) ins need
many_monotone Cumulative ins out need f any param olds news c d p =
    cumulative_below olds news (closer olds news p d.clear)
many_monotone Disjoint ins out need f any param olds news c d p =
    disjoint_below olds news (closer olds news p d.clear)
many_monotone Differ ins out need f any param olds news c d p =
    differ_below olds news (closer olds news p d.clear)
many_monotone Circuit ins out need f any param olds news c d p =
    circuit_below olds news (closer olds news p d.clear)
many_monotone Ending ins out need f any param olds news c d p =
    ending_below olds news (closer olds news p d.clear)
many_monotone Starting ins out need f any param olds news c d p =
    starting_below olds news (closer olds news p d.clear)

pub many_keeps_kind : (rule : Many) (ins : List Shape) (out : Shape) (need : Need)
    → FormOf rule ins out need → KeepsKind (value_of rule) ins out need
many_keeps_kind Cumulative ins out need f any param args c = rw f.1 (cumulative_kind args)
many_keeps_kind Disjoint ins out need f any param args c = rw f.1 (disjoint_kind args)
many_keeps_kind Differ ins out need f any param args c = rw f.1 (differ_kind args)
many_keeps_kind Circuit ins out need f any param args c = rw f.1 (circuit_kind args)
many_keeps_kind Ending ins out need f any param args c = rw f.1 (ending_kind args)
many_keeps_kind Starting ins out need f any param args c = rw f.1 (starting_kind args)

pub many_sound : (rule : Many) (ins : List Shape) (out : Shape) (need : Need)
    → FormOf rule ins out need → IsSound (value_of rule) (Related rule) ins out need
many_sound Cumulative ins out need f any param args points point c ps p h r =
    cumulative_holds args points point (kept any ins args points f.0.0 ps h) r
many_sound Disjoint ins out need f any param args points point c ps p h r =
    disjoint_holds args points point (kept any ins args points f.0.0 ps h) r
many_sound Differ ins out need f any param args points point c ps p h r =
    differ_holds args points point (kept any ins args points f.0.0 ps h) r
many_sound Circuit ins out need f any param args points point c ps p h r =
    circuit_holds args points point (kept any ins args points f.0.0 ps h) r
many_sound Ending ins out need f any param args points point c ps p h r =
    ending_holds args points point (kept any ins args points f.0.0 ps h) (rw f.1 at p) r
many_sound Starting ins out need f any param args points point c ps p h r =
    starting_holds args points point (kept any ins args points f.0.0 ps h) r
