-- Which lines ask for conflicts or repairs, and what they ask.
use Rattle.std.specs.Prelude.{ℕ, pos, List, [], ◌∷◌, Bool, ◌||◌, ◌&&◌, codes, bytes_eq}
use Rattle.std.specs.Prelude.{if◌then◌else◌}
use Rattle.std.specs.Prelude.{Option, Some, None, Result, Ok, Err, unsigned_abs}
use Rattle.std.specs.Option.{option_map_or}
use Rattle.prop_refusals.specs.declared.refusal.Refusal.{Refusal}
use Rattle.prop_refusals.specs.declared.refusal.Refusal.TheVariants.{WrongForm, NotANumber}
use Rattle.prop_language.specs.Commands.{Command, Value}
use Rattle.prop_language.specs.Names.{number_in}
use Rattle.prop_premises.specs.Origins.{Origin}
use Rattle.prop_seeking.specs.Asking.{begins}
use Rattle.prop_blaming.specs.Weighing.{evenly, weighed}

-- the line asks for conflicts or repairs
abbrev pub is_blame : List ℕ → Bool
is_blame line = begins (codes "conflicts") line || begins (codes "repairs") line

-- what is asked for, and how many at most; for the cheapest repairs also what each premise costs
pub data Wish : Type 0 where
  Conflicts Repairs : ℕ → Wish
  Cheapest : ℕ → List ℕ → Wish

-- how many are asked for at most, as the word writes it
abbrev pub most : List ℕ → Result ℕ Refusal
most number = option_map_or (λ n. Ok (unsigned_abs n))
    (number_in (pos 1) (pos 1_000_000_000) number) (Err NotANumber)

abbrev pub evenly_asked : List ℕ → ℕ → Wish
evenly_asked w n = if bytes_eq w (codes "repairs") then Repairs n else Conflicts n

abbrev pub is_by_cost : List ℕ → List ℕ → Bool
is_by_cost w by = bytes_eq w (codes "repairs") && bytes_eq by (codes "by")

abbrev pub cheapest_asked : ℕ → Result (List ℕ) Refusal → Result Wish Refusal
cheapest_asked n (Ok weights) = Ok (Cheapest n weights)
cheapest_asked n (Err refusal) = Err refusal

-- what a first word asks with the words behind it, where these are the premises
abbrev pub asked_by : List Origin → List (List ℕ) → Result Wish Refusal
asked_by premises (w ∷ number ∷ []) =
    elim (most number) [ Ok n ↦ Ok (evenly_asked w n) | Err refusal ↦ Err refusal ]
asked_by premises (w ∷ number ∷ by ∷ name ∷ prices) = if is_by_cost w by then
    elim (most number) [
      | Ok n ↦ cheapest_asked n (weighed premises (evenly premises) (name ∷ prices))
      | Err refusal ↦ Err refusal
    ] else Err WrongForm
asked_by premises words = Err WrongForm

-- what a line asks, by how it was read
abbrev pub asked : List Origin → Result (Option Command) Refusal → Result Wish Refusal
asked premises (Ok (Some (Command.Fix cell (Value.Braces words)))) = asked_by premises words
asked premises (Ok read) = Err WrongForm
asked premises (Err refusal) = Err refusal
