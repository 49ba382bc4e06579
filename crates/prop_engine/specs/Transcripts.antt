-- What a machine may answer to the lines of an input, and what is written then.
use Rattle.std.specs.Prelude.{◌≡◌, ℕ, List, [], ◌∷◌, ◌++◌, length, flat_map, count_by}
use Rattle.prop_engine.specs.Lines.{lines_of}
use Rattle.prop_engine.specs.Answers.{Answer, text_written, is_refusal}

-- A machine with states S: from which state a line may be given which answer, and which state
-- follows.
abbrev pub Machine : Type 0 → Type 1
Machine S = S → List ℕ → Answer → S → Type 0

-- From old, the machine may give these answers to these lines, one after another, and go on to new.
abbrev pub Run : {S : Type 0} → Machine S → S → List (List ℕ) → List Answer → S → Type 0
Run machine old [] [] new = new ≡ old
Run {S = S} machine old (line ∷ lines) (answer ∷ answers) new = (mid : S)
    × machine old line answer mid × Run machine mid lines answers new
Run machine old lines answers new = ⊥

-- What an input was answered: the texts of the answers to its lines, and how many were lines and
-- refusals.
pub record IsTranscript {S : Type 0} (machine : Machine S) (old : S) (input output : List ℕ)
    (lines_count refused_count : ℕ) (new : S) : Type 0 where
  pub answers : List Answer
  pub run : Run machine old (lines_of input) answers new
  pub output_is : output ≡ flat_map text_written answers
  pub lines_counted : lines_count ≡ length (lines_of input)
  pub refused_counted : refused_count ≡ count_by is_refusal answers

-- the output is the prefix of what an allowed transcript of the input writes
pub record IsPrefixOfTranscript {S : Type 0} (machine : Machine S) (old : S) (input output : List ℕ)
    : Type 0 where
  pub rest : List ℕ
  pub lines_count : ℕ
  pub refused_count : ℕ
  pub new : S
  pub transcript : IsTranscript machine old input (output ++ rest) lines_count refused_count new
