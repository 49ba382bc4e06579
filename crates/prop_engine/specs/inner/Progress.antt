-- How far a session over a machine has come.
use Rattle.std.specs.Prelude.{◌≡◌, ◌≢◌, ℕ, ◌+◌, ◌≤◌, List, ◌++◌, ◌∷◌, [], length, count_by, cond}
use Rattle.prop_engine.specs.declared.outcome.Counts.{Counts}
use Rattle.prop_engine.specs.Lines.{lines_of, ended_lines, kept_of}
use Rattle.prop_engine.specs.inner.Lines.{IsWithoutFeed}
use Rattle.prop_engine.specs.Answers.{Answer, Silent, text_written, is_refusal}
use Rattle.prop_engine.specs.Calls.{Call}
use Rattle.prop_engine.specs.Dialogues.{AreGiven, IsCut}
use Rattle.prop_engine.specs.Transcripts.{Machine, Run}

-- The lines that have ended were carried out and answered. kept is the prefix of the line that has
-- not ended.
pub record Progress {S : Type 0} (machine : Machine S) (old : S) (input kept : List ℕ)
    (answers : List Answer) (counts : Counts) (now : S) : Type 0 where
  pub lines : List (List ℕ)
  pub part : List ℕ
  pub split : (more : List ℕ) → lines_of (input ++ more) ≡ lines ++ lines_of (part ++ more)
  pub ended : (more : List ℕ) → ended_lines (input ++ more) ≡ lines ++ ended_lines (part ++ more)
  pub plain : IsWithoutFeed part
  pub kept_is : kept ≡ kept_of part
  pub run : Run machine old lines answers now
  pub lines_counted : counts.lines ≡ length lines
  pub refused_counted : counts.refused ≡ count_by is_refusal answers

-- one for a refusal
abbrev pub refusals : Answer → ℕ
refusals answer = cond (is_refusal answer) 1 0

-- one more line was counted, and a refusal where the answer was one
pub record CountsAnswer (old new : Counts) (answer : Answer) : Type 0 where
  pub line : new.lines ≡ old.lines + 1
  pub refusal : new.refused ≡ old.refused + refusals answer

-- the counts grew by at most so much
pub record GrowsAtMost (old new : Counts) (n : ℕ) : Type 0 where
  pub lines : new.lines ≤ old.lines + n
  pub refused : new.refused ≤ old.refused + n

-- what a piece of the input does wherever it comes: its lines are answered so
abbrev pub Advances : {S : Type 0} → Machine S → S → List ℕ → Counts → List ℕ → List Answer → S
    → List ℕ → Counts → Type 0
Advances {S = S} machine now kept counts piece said now' kept' counts' =
    (old : S) (input : List ℕ) (before : List Answer)
    → Progress machine old input kept before counts now
    → Progress machine old (input ++ piece) kept' (before ++ said) counts' now'

-- the first lines that have ended of the input, as many as there are answers, were answered so
pub record HasCarriedOut {S : Type 0} (machine : Machine S) (old : S) (input : List ℕ)
    (answers : List Answer) (new : S) : Type 0 where
  pub lines : List (List ℕ)
  pub rest : List (List ℕ)
  pub run : Run machine old lines answers new
  pub split : ended_lines input ≡ lines ++ rest

-- an answer that is not silent was cut
pub record IsCutAnswer (answer : Answer) (calls : List Call) : Type 0 where
  pub spoken : answer ≢ Silent
  pub cut : IsCut (text_written answer) calls

-- The last of these answers was cut, and the others were sent, which a piece of the input had
-- ended the lines of, wherever it comes.
pub record Stops {S : Type 0} (machine : Machine S) (now : S) (kept : List ℕ) (counts : Counts)
    (piece : List ℕ) (calls : List Call) (now' : S) : Type 0 where
  pub said : List Answer
  pub last : Answer
  pub replies : List Call
  pub cut : List Call
  pub sent : AreGiven said replies
  pub stopped : IsCutAnswer last cut
  pub calls_are : calls ≡ replies ++ cut
  pub lines : (old : S) (input : List ℕ) (before : List Answer)
      → Progress machine old input kept before counts now
      → HasCarriedOut machine old (input ++ piece) (before ++ (said ++ last ∷ [])) now'
