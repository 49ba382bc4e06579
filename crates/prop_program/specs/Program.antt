-- The options of a program, and what the words of a command line say of them.
use Rattle.std.specs.Prelude.{◌≡◌, ◌⊎◌, ℕ, pos, unsigned_abs, List, Option, Some, None, cond, codes}
use Rattle.std.specs.Prelude.{bytes_eq, true}
use Rattle.std.specs.Option.{option_map}
use Rattle.clap.specs.declared.parser.matches.Found.{Found}
use Rattle.clap.specs.Words.{App, Rule, new_app, new_rule, with_rule, HasMatchesOf, first_value}
use Rattle.clap.specs.Words.{found_of, takes, kind_of, IsAmong, fault_of}
use Rattle.clap.specs.declared.builder.ArgAction.TheVariants.{Set}
use Rattle.clap.specs.declared.parser.matches.ArgMatches.{ArgMatches}
use Rattle.clap.specs.declared.error.Error.{Error}
use Rattle.clap.specs.declared.error.kind.ErrorKind.{ErrorKind}
use Rattle.clap.specs.declared.error.kind.ErrorKind.TheVariants.{OutOfMemory, ValueValidation}
use Rattle.prop_language.specs.Names.{number_in}
use Rattle.prop_program.specs.declared.chosen.Options.{Options}
use Rattle.prop_program.specs.declared.chosen.Pick.{Pick}
use Rattle.prop_program.specs.declared.chosen.Pick.TheVariants.{Fifo, Lifo, Mixed}

-- an option of this name, which takes one value
abbrev pub value_rule : List ℕ → Rule
value_rule name = record (new_rule name) { long = Some name; action = Some Set; value_names = 1 }

-- the program's name, and that it has a version, which --version prints
abbrev pub versioned : List ℕ → App
versioned name = let named = new_app name
    in record named { top = record named.top { has_version = true } }

-- the program as the option reader sees it: --limit N, --order ORDER, --seed N
abbrev pub program : List ℕ → App
program name = with_rule (with_rule (with_rule (versioned name) (value_rule (codes "limit")))
    (value_rule (codes "order"))) (value_rule (codes "seed"))

-- the number from 0 to `high` that the word writes, or the program's own where no word is given
abbrev pub number_given : ℕ → ℕ → Option (List ℕ) → Option ℕ
number_given own high None = Some own
number_given own high (Some word) = option_map unsigned_abs (number_in (pos 0) (pos high) word)

-- the order that the word names, or the program's own where no word is given
abbrev pub order_given : Option (List ℕ) → Option Pick
order_given None = Some Fifo
order_given (Some word) = cond (bytes_eq word (codes "fifo")) (Some Fifo)
    (cond (bytes_eq word (codes "lifo")) (Some Lifo)
    (cond (bytes_eq word (codes "mixed")) (Some Mixed) None))

-- what is given for the limit, for the order and for the seed
abbrev pub limit_given : Found → Option ℕ
limit_given found = number_given 1_000_000_000 1_000_000_000_000_000
    (first_value found (codes "limit"))

abbrev pub order_chosen : Found → Option Pick
order_chosen found = order_given (first_value found (codes "order"))

abbrev pub seed_given : Found → Option ℕ
seed_given found = number_given 0 18_446_744_073_709_551_615 (first_value found (codes "seed"))

-- these are the options that are given
pub record AreChosen (found : Found) (options : Options) : Type 0 where
  pub limit : limit_given found ≡ Some options.limit
  pub order : order_chosen found ≡ Some options.order
  pub seed : seed_given found ≡ Some options.seed

-- a value is given to an option that doesn't take it
abbrev pub AreWrong : Found → Type 0
AreWrong found = (limit_given found ≡ None)
    ⊎ ((order_chosen found ≡ None) ⊎ (seed_given found ≡ None))

-- the option reader, for a program of this name, finds these options in the words
pub record AreGiven (name : List ℕ) (words : List (List ℕ)) (options : Options) : Type 0 where
  pub entries : ArgMatches
  pub of_words : HasMatchesOf (program name) words entries
  pub chosen : AreChosen (found_of entries) options

-- the option reader reads the words, but a value is given to an option that doesn't take it
pub record AreOutOfRange (name : List ℕ) (words : List (List ℕ)) : Type 0 where
  pub entries : ArgMatches
  pub of_words : HasMatchesOf (program name) words entries
  pub wrong : AreWrong (found_of entries)

-- the option reader takes the words for a program of this name
pub record AreTaken (name : List ℕ) (words : List (List ℕ)) : Type 0 where
  pub taken : takes (program name) words ≡ true

-- An error of this kind may be the answer to the words: memory was refused, the option reader finds
-- such a fault in the words, or a value is given to an option that doesn't take it.
abbrev pub IsReason : List ℕ → List (List ℕ) → ErrorKind → Type 0
IsReason name words kind = (kind ≡ OutOfMemory) ⊎ (IsAmong kind (fault_of (program name) words)
    ⊎ ((kind ≡ ValueValidation) × AreOutOfRange name words))

-- the error says that the option reader lacked memory
abbrev pub IsWantOfMemory : Error → Type 0
IsWantOfMemory e = kind_of e ≡ OutOfMemory
