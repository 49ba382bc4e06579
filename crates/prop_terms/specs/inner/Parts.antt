-- What the parts of the reader answer.
use Rattle.std.specs.Prelude.{◌≡◌, ◌⊎◌, ℕ, List, [], ◌∷◌, Bool, true, false, ◌||◌, ⊤, Option, Some}
use Rattle.std.specs.Prelude.{None, Result, Ok, Err}
use Rattle.std.specs.Borrow.{Bor}
use Rattle.prop_refusals.specs.declared.refusal.Refusal.{Refusal}
use Rattle.prop_refusals.specs.declared.refusal.Refusal.TheVariants.{Memory, WrongForm}
use Rattle.prop_terms.specs.declared.term.Term as made
use Rattle.prop_terms.specs.Terms.{Term, term_of}
use Rattle.prop_terms.specs.Tokens.{Token, Numeral, Word, Before, Between, Open, Close, Unknown}
use Rattle.prop_terms.specs.Tokens.{is_blank, is_mark}
use Rattle.prop_terms.specs.inner.Machine.{Frame, Bracket, Ahead, Behind, Held, State, Want, Have}
use Rattle.prop_terms.specs.declared.tokens.Token as read
use Rattle.prop_terms.specs.declared.tokens.Token.TheVariants as reads
use Rattle.prop_terms.specs.declared.frames.Frame as kept
use Rattle.prop_terms.specs.declared.frames.Frame.TheVariants as keeps
use Rattle.prop_terms.specs.declared.frames.Held as holds
use Rattle.prop_terms.specs.declared.reading.Fault as faults

-- a token without where its word lies in memory
abbrev pub token_said : read.Token → Token
token_said (reads.Numeral n) = Numeral n
token_said (reads.Word w) = Word w.now
token_said (reads.Before op) = Before op
token_said (reads.Between op) = Between op
token_said (reads.Open shape) = Open shape
token_said (reads.Close shape) = Close shape
token_said reads.Unknown = Unknown

abbrev pub entry_said : Bor (List ℕ) × read.Token → List ℕ × Token
entry_said (text, token) = (text.now, token_said token)

-- neither a mark nor a space or tab
abbrev pub IsInWord : ℕ → Type 0
IsInWord b = (is_blank b ≡ false) × (is_mark b ≡ false)

-- the bytes are none, or begin with one that doesn't pass
abbrev pub StartsPast : (ℕ → Bool) → List ℕ → Type 0
StartsPast p [] = ⊤
StartsPast p (b ∷ bytes) = p b ≡ false

-- the bytes are none, or begin with what ends a word
abbrev pub EndsWord : List ℕ → Type 0
EndsWord [] = ⊤
EndsWord (b ∷ bytes) = (is_blank b || is_mark b) ≡ true

abbrev pub frame_of : kept.Frame → Frame
frame_of (keeps.Bracket shape) = Bracket shape
frame_of (keeps.Ahead op) = Ahead op
frame_of (keeps.Behind t op) = Behind (term_of t) op

-- the frames, the last one first, and others behind
abbrev pub stacked : List kept.Frame → List Frame → List Frame
stacked [] fs = fs
stacked (f ∷ frames) fs = stacked frames (frame_of f ∷ fs)

abbrev pub stack_of : List kept.Frame → List Frame
stack_of frames = stacked frames []

-- the frames with what is held
abbrev pub held_in : List kept.Frame → holds.Held → Held
held_in frames held =
    record { frames = stack_of frames; term = term_of held.term; level = held.level }

-- where the reader stands
abbrev pub state_of : List kept.Frame → Option holds.Held → State
state_of frames None = Want (stack_of frames)
state_of frames (Some held) = Have (held_in frames held)

-- the reader moves on, is out of memory, or does not move where no term goes on
abbrev pub Moves : Result (Option holds.Held) Refusal → Option State → List kept.Frame → Type 0
Moves (Ok held) next frames = next ≡ Some (state_of frames held)
Moves (Err refusal) next frames = (refusal ≡ Memory) ⊎ ((refusal ≡ WrongForm) × (next ≡ None))

-- the same of a whole term
abbrev pub Gives : Result made.Term Refusal → Option Term → Type 0
Gives (Ok term) found = found ≡ Some (term_of term)
Gives (Err refusal) found = (refusal ≡ Memory) ⊎ ((refusal ≡ WrongForm) × (found ≡ None))

abbrev pub Finds : Result made.Term faults.Fault → Option Term → Type 0
Finds (Ok term) found = found ≡ Some (term_of term)
Finds (Err fault) found =
    (fault.refusal ≡ Memory) ⊎ ((fault.refusal ≡ WrongForm) × (found ≡ None))
