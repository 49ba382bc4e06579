-- What premises cost, as a line says it.
use Rattle.std.specs.Prelude.{◌≡◌, ℕ, pos, List, [], ◌∷◌, not, Option, Result, Ok, Err, is_none}
use Rattle.std.specs.Prelude.{length, replicate, unsigned_abs, unwrap_or, slice_set}
use Rattle.std.specs.Option.{option_map, option_map_or}
use Rattle.prop_refusals.specs.Refusals.{first_of, when}
use Rattle.prop_refusals.specs.declared.refusal.Refusal.{Refusal}
use Rattle.prop_refusals.specs.declared.refusal.Refusal.TheVariants.{WrongForm, NotAName}
use Rattle.prop_refusals.specs.declared.refusal.Refusal.TheVariants.{NotANumber, IsAChoice}
use Rattle.prop_refusals.specs.declared.refusal.Refusal.TheVariants.{NoSuchPremise}
use Rattle.prop_premises.specs.Origins.{Origin, is_choice, premise_number}
use Rattle.prop_language.specs.Names.{is_name, number_in}

-- what a premise costs, as a word writes it: a whole number from 0 to 10^9
abbrev pub price : List ℕ → Option ℕ
price word = option_map unsigned_abs (number_in (pos 0) (pos 1_000_000_000) word)

-- each premise costs 1 where nothing is said of costs
abbrev pub evenly : List Origin → List ℕ
evenly premises = replicate (length premises) 1

-- why no premise of the user's is found by the name, where none is
abbrev pub unnamed : List Origin → List ℕ → Option Refusal
unnamed premises name = first_of (when NotAName (not (is_name name))
    ∷ when IsAChoice (is_choice premises name)
    ∷ when NoSuchPremise (is_none (premise_number premises name)) ∷ [])

-- the number of the premise with the name, or why there is none
abbrev pub premise_named : List Origin → List ℕ → Result ℕ Refusal
premise_named premises name = option_map_or Err (unnamed premises name)
    (Ok (unwrap_or (premise_number premises name) 0))

-- what each premise costs, by its number, once the one with the name costs what the word writes
abbrev pub priced : List Origin → List ℕ → List ℕ → List ℕ → Result (List ℕ) Refusal
priced premises weights name number = elim (premise_named premises name) [
  | Ok p ↦ option_map_or (λ n. Ok (slice_set weights p n)) (price number) (Err NotANumber)
  | Err refusal ↦ Err refusal
]

-- what each premise costs once these words are read: names, and a number behind each
abbrev pub weighed : List Origin → List ℕ → List (List ℕ) → Result (List ℕ) Refusal
weighed premises weights [] = Ok weights
weighed premises weights (name ∷ number ∷ words) = elim (priced premises weights name number)
    [ Ok more ↦ weighed premises more words | Err refusal ↦ Err refusal ]
weighed premises weights (name ∷ []) = Err WrongForm
