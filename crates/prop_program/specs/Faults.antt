-- How a program ends before its input does, and with which status.
use Rattle.std.specs.Prelude.{ℕ}
use Rattle.prop_engine.specs.declared.outcome.EngineFault.TheVariants.{Read, Write, Reads}
use Rattle.prop_program.specs.declared.fault.Fault.{Fault}
use Rattle.prop_program.specs.declared.fault.Fault.TheVariants.{Engine, Memory}

abbrev pub status_of : Fault → ℕ
status_of (Engine Read) = 2
status_of (Engine Write) = 2
status_of (Engine Reads) = 3
status_of (Memory e) = 4

-- memory was refused before the session began
abbrev pub IsMemory : Fault → Type 0
IsMemory (Memory e) = Unit {0}
IsMemory (Engine e) = ⊥
