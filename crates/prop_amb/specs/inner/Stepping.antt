-- A step of settling that is no call.
use Rattle.std.specs.Prelude.{◌≡◌, ℕ, List, length}
use Rattle.prop_numbers.specs.Sets.{set_of}
use Rattle.prop_cells.specs.Problems.{Problem}
use Rattle.prop_cells.specs.Data.{Data}
use Rattle.prop_scheduler.specs.Shifts.{AreShifted}
use Rattle.prop_amb.specs.Search.{Stand, users_of, choices_in, believed_with}
use Rattle.prop_amb.specs.Culprits.{IsBlamed}
use Rattle.prop_amb.specs.Refuted.{IsRuledOut}
use Rattle.prop_amb.specs.Stepping.{HasPassed}
use Rattle.prop_amb.specs.declared.stepping.Step.{Step}
use Rattle.prop_amb.specs.declared.stepping.Step.TheVariants.{Called, Moved, Settled, Contradiction}

-- The step that is told is a move from the old stand to the new one, or a contradiction, which
-- leaves all as it was. It is no call, and doesn't tell that the search has settled.
abbrev pub IsMove : Problem → Stand → Data → List ℕ → Step → Stand → List ℕ → Type 0
IsMove problem s d line (Moved m) new line' =
    HasPassed s new m
    × AreShifted (believed_with s) (believed_with new) d (length d.kinds) line line'
IsMove problem s d line (Contradiction n) new line' =
    (new ≡ s) × (line' ≡ line)
    × IsRuledOut problem (users_of s) (choices_in s) s.listed (set_of n) × IsBlamed s (set_of n)
IsMove problem s d line (Called i) new line' = ⊥
IsMove problem s d line Settled new line' = ⊥
