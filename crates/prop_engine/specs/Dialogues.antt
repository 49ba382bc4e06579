-- In which order a session over a machine calls its reader and its writer.
use Rattle.std.specs.Prelude.{◌≡◌, ◌≢◌, ◌⊎◌, ℕ, ◌+◌, ◌<◌, ◌≤◌, List, [], ◌∷◌, ◌++◌, length, take}
use Rattle.std.specs.Prelude.{drop, replicate, count_by, Result, Ok, Err}
use Rattle.prop_engine.specs.Answers.{Answer, Silent, text_written, is_refusal}
use Rattle.prop_engine.specs.Calls.{Call, Leads, ReadCall, WriteCall, FlushCall}
use Rattle.prop_engine.specs.Lines.{lines_of, ended_lines}
use Rattle.prop_engine.specs.Transcripts.{Machine, Run}
use Rattle.prop_engine.specs.declared.failure.Failure.{Failure}
use Rattle.prop_engine.specs.declared.failure.Failure.TheVariants.{Interrupted}
use Rattle.prop_engine.specs.declared.outcome.Counts.{Counts}
use Rattle.prop_engine.specs.declared.outcome.EngineFault.{EngineFault}
use Rattle.prop_engine.specs.declared.outcome.EngineFault.TheVariants as faults

-- A call was made with this result, and before it as often as a signal interrupted it: after 65,536
-- tries the interruption is its result.
pub record Patiently {A : Type 0} (call : Result A Failure → Call) (result : Result A Failure)
    (calls : List Call) : Type 0 where
  pub interrupted : ℕ
  pub calls_are : calls ≡ replicate interrupted (call (Err Interrupted)) ++ call result ∷ []
  pub at_most : interrupted < 65_536
  pub given_up : result ≡ Err Interrupted → interrupted + 1 ≡ 65_536

-- A text was written but for what is left of it: each write was asked for all that was left.
pub data IsWritten (text : List ℕ) : List ℕ → List Call → Type 0 where
  none : IsWritten text text []
  more : (left : List ℕ) (count : ℕ) (calls tries : List Call) → IsWritten text left calls →
      0 < count → count ≤ length left → Patiently (WriteCall left) (Ok count) tries →
      IsWritten text (drop count left) (calls ++ tries)

-- a text was written whole, and then passed on
pub record IsSent (text : List ℕ) (calls : List Call) : Type 0 where
  pub writes : List Call
  pub flushes : List Call
  pub written : IsWritten text [] writes
  pub passed_on : Patiently FlushCall (Ok tt) flushes
  pub calls_are : calls ≡ writes ++ flushes

-- What is left of a text could not be written: a write failed or took no byte, or, where nothing is
-- left, the flush failed.
abbrev pub IsStopped : List ℕ → List Call → Type 0
IsStopped [] calls = (failure : Failure) × Patiently FlushCall (Err failure) calls
IsStopped (b ∷ left) calls =
    ((failure : Failure) × Patiently (WriteCall (b ∷ left)) (Err failure) calls)
    ⊎ Patiently (WriteCall (b ∷ left)) (Ok 0) calls

-- sending a text was stopped
pub record IsCut (text : List ℕ) (calls : List Call) : Type 0 where
  pub left : List ℕ
  pub writes : List Call
  pub last : List Call
  pub written : IsWritten text left writes
  pub stopped : IsStopped left last
  pub calls_are : calls ≡ writes ++ last

-- an answer is sent, or is silent
abbrev pub IsGiven : Answer → List Call → Type 0
IsGiven Silent calls = calls ≡ []
IsGiven answer calls = IsSent (text_written answer) calls

-- the answers were sent, one after another
abbrev pub AreGiven : List Answer → List Call → Type 0
AreGiven [] calls = calls ≡ []
AreGiven (answer ∷ answers) calls = (first : List Call) × (rest : List Call) × IsGiven answer first
    × AreGiven answers rest × (calls ≡ first ++ rest)

-- So many reads of 4,096 bytes gave this input, and these answers were sent: behind each read, and
-- before the next, those to the lines that it ended.
pub data Turns : ℕ → List ℕ → List Answer → List Call → Type 0 where
  none : Turns 0 [] [] []
  more : (n : ℕ) (input bytes : List ℕ) (before said : List Answer)
      (calls tries replies : List Call) → Turns n input before calls → 0 < length bytes →
      Patiently (ReadCall 4_096) (Ok bytes) tries → AreGiven said replies →
      length (before ++ said) ≡ length (ended_lines (input ++ bytes)) →
      Turns (n + 1) (input ++ bytes) (before ++ said) (calls ++ (tries ++ replies))

-- behind the last turn a read told the end, and what is left of the input, if anything, was
-- answered as a line
pub record IsEnded (reads : ℕ) (counts : Counts) (input : List ℕ) (answers : List Answer)
    (calls : List Call) : Type 0 where
  pub n : ℕ
  pub before : List Answer
  pub said : List Answer
  pub earlier : List Call
  pub tries : List Call
  pub replies : List Call
  pub turns : Turns n input before earlier
  pub within : n < reads
  pub end : Patiently (ReadCall 4_096) (Ok []) tries
  pub sent : AreGiven said replies
  pub answers_are : answers ≡ before ++ said
  pub calls_are : calls ≡ earlier ++ (tries ++ replies)
  pub all : length answers ≡ length (lines_of input)
  pub lines_counted : counts.lines ≡ length answers
  pub refused_counted : counts.refused ≡ count_by is_refusal answers

-- behind the last turn a read failed: what is left of the input was not carried out
pub record IsUnread (reads : ℕ) (input : List ℕ) (answers : List Answer) (calls : List Call) :
    Type 0 where
  pub n : ℕ
  pub earlier : List Call
  pub tries : List Call
  pub failure : Failure
  pub turns : Turns n input answers earlier
  pub within : n < reads
  pub failed : Patiently (ReadCall 4_096) (Err failure) tries
  pub calls_are : calls ≡ earlier ++ tries

-- how many lines have ended once these bytes came behind the input: all at its end
abbrev pub ended_by : List ℕ → List ℕ → ℕ
ended_by input [] = length (lines_of input)
ended_by input (b ∷ bytes) = length (ended_lines (input ++ b ∷ bytes))

-- behind the last turn a read came, and the last answer, to a line that had ended, was cut
pub record IsUnwritten (reads : ℕ) (input : List ℕ) (answers : List Answer) (calls : List Call) :
    Type 0 where
  pub n : ℕ
  pub first : List ℕ
  pub bytes : List ℕ
  pub before : List Answer
  pub said : List Answer
  pub last : Answer
  pub earlier : List Call
  pub tries : List Call
  pub replies : List Call
  pub cut : List Call
  pub turns : Turns n first before earlier
  pub within : n < reads
  pub read : Patiently (ReadCall 4_096) (Ok bytes) tries
  pub sent : AreGiven said replies
  pub spoken : last ≢ Silent
  pub stopped : IsCut (text_written last) cut
  pub input_is : input ≡ first ++ bytes
  pub answers_are : answers ≡ before ++ (said ++ last ∷ [])
  pub calls_are : calls ≡ earlier ++ (tries ++ (replies ++ cut))
  pub had_ended : length answers ≤ ended_by first bytes

-- how it ends
abbrev pub Ends : ℕ → Result Counts EngineFault → List ℕ → List Answer → List Call → Type 0
Ends reads (Ok counts) = IsEnded reads counts
Ends reads (Err faults.Read) = IsUnread reads
Ends reads (Err faults.Write) = IsUnwritten reads
Ends reads (Err faults.Reads) = Turns reads

-- A session over a machine, of so many reads at most, that ended so: the first lines of what the
-- reads gave, as many as there are answers, were carried out one after another, and each answer was
-- sent in its turn.
pub record IsDialogue {S : Type 0} (machine : Machine S) (reads : ℕ) (old : S)
    (result : Result Counts EngineFault) (calls : List Call) (new : S) : Type 0 where
  pub input : List ℕ
  pub answers : List Answer
  pub run : Run machine old (take (length answers) (lines_of input)) answers new
  pub in_turn : Ends reads result input answers calls

-- such a session led from one state of the devices to another
abbrev pub Speaks : {D S : Type 0} → (D → Call → D → Type 0) → D → D → Machine S → ℕ → S
    → Result Counts EngineFault → S → Type 0
Speaks may from to machine reads old result new =
    (calls : List Call) × Leads may from calls to × IsDialogue machine reads old result calls new
