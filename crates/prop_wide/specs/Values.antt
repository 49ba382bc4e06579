-- What the rules answer.
use Rattle.std.specs.Prelude.{ℤ, List, [], ◌∷◌, if◌then◌else◌}
use Rattle.prop_lattice.specs.declared.info.Info.{Info}
use Rattle.prop_lattice.specs.declared.info.Info.TheVariants.{Nothing}
use Rattle.prop_procedures.specs.declared.shape.Param.{Param}
use Rattle.prop_procedures.specs.declared.shape.Param.TheVariants.{Scale}
use Rattle.prop_procedures.specs.Rules.{is_scale}
use Rattle.prop_arith.specs.laws.Combined.{at_one, at_two, at_three}
use Rattle.prop_wide.specs.Choices.{choose_of, decide_of}
use Rattle.prop_wide.specs.Counts.{count_of, count_back_of}
use Rattle.prop_wide.specs.Distances.{abs_of, abs_back_of}
use Rattle.prop_wide.specs.Extremes.{max_of, max_back_of, min_of, min_back_of}
use Rattle.prop_wide.specs.Quotients.{quotient_of, remainder_of, divisor_of}
use Rattle.prop_wide.specs.Squares.{square_of, root_of}
use Rattle.prop_wide.specs.declared.wide.Wide as wides
use Rattle.prop_wide.specs.declared.wide.Wide.TheVariants.{Max, MaxBack, Min, MinBack, Abs}
use Rattle.prop_wide.specs.declared.wide.Wide.TheVariants.{AbsBack, Choose, Decide, Count}
use Rattle.prop_wide.specs.declared.wide.Wide.TheVariants.{CountBack, Square, Root, Quotient}
use Rattle.prop_wide.specs.declared.wide.Wide.TheVariants.{Remainder, Divisor}

-- the value at a scale, nothing where the parameter is none
abbrev pub at_a_scale : (ℤ → List Info → Info) → Param → List Info → Info
at_a_scale f (Scale k) args = if is_scale k then f k args else Nothing
at_a_scale f param args = Nothing

-- what a rule answers to a parameter and arguments: nothing where these don't fit
abbrev pub value_of : wides.Wide → Param → List Info → Info
value_of Max param args = at_two max_of args
value_of MaxBack param args = at_two max_back_of args
value_of Min param args = at_two min_of args
value_of MinBack param args = at_two min_back_of args
value_of Abs param args = at_one abs_of args
value_of AbsBack param args = at_two abs_back_of args
value_of Choose param args = at_three choose_of args
value_of Decide param args = at_three decide_of args
value_of Count param args = count_of args
value_of CountBack param (n ∷ others) = count_back_of n others
value_of CountBack param [] = Nothing
value_of Square param args = at_a_scale (λ k. at_one (square_of k)) param args
value_of Root param args = at_a_scale (λ k. at_two (root_of k)) param args
value_of Quotient param args = at_two quotient_of args
value_of Remainder param args = at_one remainder_of args
value_of Divisor param args = at_two divisor_of args
