-- The law of answers to single numbers, of each rule.
use Rattle.prop_lattice.specs.Points.{Number, Element, Symbol}
use Rattle.prop_many.specs.Exact.{EachIsExact}
use Rattle.prop_many.specs.declared.many.Many.TheVariants.{Circuit, Cumulative, Differ, Disjoint}
use Rattle.prop_many.specs.declared.many.Many.TheVariants.{Ending, Starting}
use Rattle.prop_many.specs.laws.CircuitLaws.{circuit_exact}
use Rattle.prop_many.specs.laws.ExactLaws.{cumulative_exact, differ_exact, disjoint_exact}
use Rattle.prop_many.specs.laws.PausingLaws.{ending_exact, starting_exact}

pub each_is_exact : EachIsExact
each_is_exact Cumulative param args points (Number z) some e r h =
    cumulative_exact args points z some e r h
each_is_exact Cumulative param args points (Element i) some e r h = absurd r
each_is_exact Cumulative param args points (Symbol n) some e r h = absurd r
each_is_exact Disjoint param args points (Number z) some e r h =
    disjoint_exact args points z some e r h
each_is_exact Disjoint param args points (Element i) some e r h = absurd r
each_is_exact Disjoint param args points (Symbol n) some e r h = absurd r
each_is_exact Differ param args points (Number z) some e r h =
    differ_exact args points z some e r h
each_is_exact Differ param args points (Element i) some e r h = absurd r
each_is_exact Differ param args points (Symbol n) some e r h = absurd r
each_is_exact Circuit param args points (Number z) some e r h =
    circuit_exact args points z some e r h
each_is_exact Circuit param args points (Element i) some e r h = absurd r
each_is_exact Circuit param args points (Symbol n) some e r h = absurd r
each_is_exact Ending param args points (Number z) some e r h =
    ending_exact args points z some e r h
each_is_exact Ending param args points (Element i) some e r h = absurd r
each_is_exact Ending param args points (Symbol n) some e r h = absurd r
each_is_exact Starting param args points (Number z) some e r h =
    starting_exact args points z some e r h
each_is_exact Starting param args points (Element i) some e r h = absurd r
each_is_exact Starting param args points (Symbol n) some e r h = absurd r
