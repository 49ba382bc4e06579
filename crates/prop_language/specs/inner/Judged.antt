-- What the parts of a line say of it.
use Rattle.std.specs.Prelude.{List, Bool, cond, not, Option, Some, Result, Ok, Err}
use Rattle.std.specs.List.{list_all}
use Rattle.prop_refusals.specs.declared.refusal.Refusal.{Refusal}
use Rattle.prop_refusals.specs.declared.refusal.Refusal.TheVariants.{NotAName, NotANumber}
use Rattle.prop_language.specs.Commands.{Command}
use Rattle.prop_language.specs.Spelling.{Part}

-- it is a name where it has to be one
abbrev pub is_named : Part → Bool
is_named part = part.is_named

-- it is a number in range where it has to be one
abbrev pub is_ranged : Part → Bool
is_ranged part = part.is_ranged

-- the command that the parts spell, where its names are names and its numbers in range
abbrev pub judged : List Part → Command → Result (Option Command) Refusal
judged ps command = cond (not (list_all is_named ps)) (Err NotAName)
    (cond (not (list_all is_ranged ps)) (Err NotANumber) (Ok (Some command)))
