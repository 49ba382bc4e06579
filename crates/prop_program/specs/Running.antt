-- What a program does by the words of its command line, and the status with which it ends.
use Rattle.std.specs.Prelude.{◌≡◌, ◌⊎◌, ℕ, List, Option, Some, None, Result, Ok, Err, map}
use Rattle.std.specs.Prelude.{string_bytes}
use Rattle.std.specs.Vec.Iter.{into_iter_items}
use Rattle.std.specs.declared.vec.IntoIter.{IntoIter}
use Rattle.std.specs.declared.string.String.{String}
use Rattle.clap.specs.Words.{IsAmong, fault_of}
use Rattle.clap.specs.declared.error.kind.ErrorKind.{ErrorKind}
use Rattle.clap.specs.declared.error.kind.ErrorKind.TheVariants.{DisplayHelp, DisplayVersion}
use Rattle.prop_engine.specs.declared.outcome.Counts.{Counts}
use Rattle.prop_engine.specs.Calls.{Call, Leads}
use Rattle.prop_engine.specs.Dialogues.{IsSent, IsCut}
use Rattle.prop_program.specs.declared.chosen.Options.{Options}
use Rattle.prop_program.specs.declared.fault.Fault.{Fault}
use Rattle.prop_program.specs.Faults.{status_of}
use Rattle.prop_program.specs.Program.{program, AreGiven, AreOutOfRange}

-- the words of a command line; none where they are no text, or memory is refused for them
abbrev pub given_words : {Y Z E : Type 0} → Result (IntoIter (String Z) Y) E
    → Option (List (List ℕ))
given_words (Ok words) = Some (map string_bytes (into_iter_items words))
given_words (Err e) = None

-- the status of a program whose session ended so
abbrev pub status_after : Result Counts Fault → ℕ
status_after (Ok counts) = 0
status_after (Err fault) = status_of fault

-- An error of this kind of the option reader is no fault: the words ask for help or for the
-- version.
abbrev pub IsForText : ErrorKind → Type 0
IsForText kind = (kind ≡ DisplayHelp) ⊎ (kind ≡ DisplayVersion)

-- the words ask a program of this name for one of these texts
abbrev pub AskForText : List ℕ → List (List ℕ) → Type 0
AskForText name words = (kind : ErrorKind) × IsForText kind
    × IsAmong kind (fault_of (program name) words)

-- the words are no options of the program
abbrev pub AreNoOptions : List ℕ → List (List ℕ) → Type 0
AreNoOptions name words = ((kind : ErrorKind) × (IsForText kind → ⊥)
    × IsAmong kind (fault_of (program name) words)) ⊎ AreOutOfRange name words

-- What a program of this name does by its words. It serves with the options that they give, and
-- ends with the status of that. Or it sends the text that they ask for, with status 0, or 2 where
-- the text is cut. Where the words are no text or no options it calls no device and ends with
-- status 1, and where memory is refused with 4.
pub data Does {D : Type 0} (name : List ℕ) (words : Option (List (List ℕ)))
    (may : D → Call → D → Type 0) (serves : Options → Result Counts Fault → Type 0) (from to : D)
    (status : ℕ) : Type 0 where
  served : (given : List (List ℕ)) (options : Options) (result : Result Counts Fault) →
      words ≡ Some given → AreGiven name given options → serves options result →
      status ≡ status_after result → Does name words may serves from to status
  told : (given : List (List ℕ)) (text : List ℕ) (calls : List Call) →
      words ≡ Some given → AskForText name given → Leads may from calls to → IsSent text calls →
      status ≡ 0 → Does name words may serves from to status
  untold : (given : List (List ℕ)) (text : List ℕ) (calls : List Call) →
      words ≡ Some given → AskForText name given → Leads may from calls to → IsCut text calls →
      status ≡ 2 → Does name words may serves from to status
  refused : (given : List (List ℕ)) → words ≡ Some given → AreNoOptions name given →
      to ≡ from → status ≡ 1 → Does name words may serves from to status
  no_text : words ≡ None → to ≡ from → status ≡ 1 → Does name words may serves from to status
  no_memory : to ≡ from → status ≡ 4 → Does name words may serves from to status

-- what a program does that never serves: it sends a text, or it calls no device
abbrev pub Declines : {D : Type 0} → List ℕ → Option (List (List ℕ)) → (D → Call → D → Type 0) → D
    → D → ℕ → Type 0
Declines name words may from to status =
    Does name words may (λ options result. ⊥) from to status
