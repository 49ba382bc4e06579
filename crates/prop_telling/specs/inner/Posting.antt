-- What is known of what was posted.
use Rattle.std.specs.Prelude.{Bool, true, false, Result, Ok, Err, ⊤}
use Rattle.prop_refusals.specs.declared.refusal.Refusal.{Refusal}
use Rattle.prop_refusals.specs.declared.refusal.Refusal.TheVariants.{Memory}

-- it was refused before anything was made
abbrev pub is_without_trace : Result ⊤ Refusal → Bool
is_without_trace (Ok done) = false
is_without_trace (Err Memory) = false
is_without_trace (Err refusal) = true
