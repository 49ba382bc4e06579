-- A search under way, and what is known of it.
use Rattle.std.specs.Prelude.{ℕ, List, [], Option, IfSome}
use Rattle.prop_numbers.specs.Sets.{set_of, IsPart}
use Rattle.prop_premises.specs.Origins.{Origin, choices_of, believed_in}
use Rattle.prop_procedures.specs.Stored.{Stored}
use Rattle.prop_cells.specs.Data.{Data}
use Rattle.prop_facts.specs.declared.fact.Literal.{Literal}
use Rattle.prop_plans.specs.Held.{attached_of}
use Rattle.prop_refuting.specs.Nogoods.{Nogood}
use Rattle.prop_deriving.specs.Known.{IsKnown, AreKnown}
use Rattle.prop_spread.specs.Proposals.{IsProposed, Proposed}
use Rattle.prop_spread.specs.Spreads.{Spread}
use Rattle.prop_solve.specs.declared.question.Goal.{Goal}

-- A search: its goal and the cells that are named, what is excused by now, what it draws on, the
-- nogood that it learns, the plan that it looks at, and the premises that it has refuted.
pub record Search : Type 0 where
  pub goal : Goal
  pub named : List ℕ
  pub excuses : List (List Literal)
  pub spread : Spread
  pub learning : Option Nogood
  pub proposal : Option Proposed
  pub refuted : Option (List ℕ)

-- the nogood without facts that rests on these premises
abbrev pub bare : List ℕ → Nogood
bare premises = record { literals = []; premises = premises }

-- What every search keeps. What is believed at the root is believed. Each nogood that is kept or
-- learned rests on believed premises, and whatever meets it is excused; so it is with the premises
-- that are refuted. What is known of the plan is so.
pub record IsSearch (library : List Stored) (d : Data) (premises : List Origin) (s : Search)
    : Type 0 where
  pub root : IsPart (set_of s.spread.root) (believed_in premises)
  pub nogoods : AreKnown library (attached_of d) (choices_of premises)
      (believed_in premises) s.excuses s.spread.nogoods
  pub learning : IfSome s.learning (IsKnown library (attached_of d) (choices_of premises)
      (believed_in premises) s.excuses)
  pub proposal : IfSome s.proposal (IsProposed library d premises)
  pub refuted : IfSome s.refuted
      (λ ps. IsKnown library (attached_of d) (choices_of premises)
      (believed_in premises) s.excuses (bare ps))
