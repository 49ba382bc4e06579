-- What a line is answered, and what is written for it.
use Rattle.std.specs.Prelude.{◌≡◌, ◌⊎◌, ℕ, List, [], ◌∷◌, ◌++◌, codes, Bool, true, false, Result}
use Rattle.std.specs.Prelude.{Ok, Err}
use Rattle.prop_refusals.specs.declared.refusal.Refusal.{Refusal}
use Rattle.prop_refusals.specs.declared.refusal.Refusal.TheVariants.{Memory}
use Rattle.prop_refusals.specs.Refusals.{reply_to}
use Rattle.prop_engine.specs.declared.reply.Reply.{Reply}

-- a reply without where its text lies in memory
pub data Answer : Type 0 where
  Silent : Answer
  Done : Answer
  Text : List ℕ → Answer
  Refused : Refusal → Answer

abbrev pub answer_of : Reply → Answer
answer_of Reply.Silent = Silent
answer_of Reply.Done = Done
answer_of (Reply.Text text) = Text text
answer_of (Reply.Refused refusal) = Refused refusal

-- the answer to a command that is carried out without a word, or refused
abbrev pub answer_done : {A : Type 0} → Result A Refusal → Answer
answer_done (Ok done) = Done
answer_done (Err refusal) = Refused refusal

-- what is written for an answer: its text and a line feed, or nothing
abbrev pub text_written : Answer → List ℕ
text_written Silent = []
text_written Done = codes "ok" ++ 10 ∷ []
text_written (Text text) = text ++ 10 ∷ []
text_written (Refused refusal) = reply_to refusal ++ 10 ∷ []

abbrev pub is_refusal : Answer → Bool
is_refusal (Refused refusal) = true
is_refusal answer = false

-- the answer is this text, or that memory was refused
abbrev pub Says : Answer → List ℕ → Type 0
Says answer text = (answer ≡ Text text) ⊎ (answer ≡ Refused Memory)
