-- What the engine asks of a machine.
use Rattle.std.specs.Prelude.{ℕ, List}
use Rattle.prop_engine.specs.Lines.{kept_of}
use Rattle.prop_engine.specs.Answers.{Answer}
use Rattle.prop_engine.specs.Transcripts.{Machine}

-- a line may be answered as what is kept of it may
abbrev pub AsksByPrefix : {S : Type 0} → Machine S → Type 0
AsksByPrefix {S = S} machine =
    (old : S) (line : List ℕ) (answer : Answer) (new : S) → machine old (kept_of line) answer new
    → machine old line answer new

-- each line may be given some answer that leaves the state as it was
abbrev pub IsTotal : {S : Type 0} → Machine S → Type 0
IsTotal {S = S} machine = (old : S) (line : List ℕ)
    → (answer : Answer) × machine old line answer old
