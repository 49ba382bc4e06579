-- The seeker as a machine: a layer around a teller, that answers questions for plans.
use Rattle.std.specs.Prelude.{◌≡◌, ◌⊎◌, ◌&&◌, ℕ, List, [], Option, Some, None, Result, Ok, Err}
use Rattle.std.specs.Prelude.{codes, cond, not, is_some, true, ◌++◌}
use Rattle.prop_lattice.specs.declared.info.Info.{Info}
use Rattle.prop_refusals.specs.declared.refusal.Refusal.{Refusal}
use Rattle.prop_refusals.specs.declared.refusal.Refusal.TheVariants.{Memory}
use Rattle.prop_procedures.specs.Stored.{Stored}
use Rattle.prop_engine.specs.Answers.{Answer, Text, Refused}
use Rattle.prop_engine.specs.Transcripts.{Machine}
use Rattle.prop_language.specs.Reading.{AsRead}
use Rattle.prop_workbench.specs.Questions.{Picks}
use Rattle.prop_telling.specs.Asking.{is_step}
use Rattle.prop_notes.specs.Notes.{is_done}
use Rattle.prop_telling.specs.Telling.{Told, Own, telling, new_told}
use Rattle.prop_seeking.specs.Asking.{Question, asked, as_value, begins, is_question}
use Rattle.prop_seeking.specs.Plans.{Says}

-- Where a seeker stands: where its teller does, and the question that may be gone on with, with the
-- rows that were told to it.
pub record Sought (O : Type 0) : Type 0 where
  pub told : Told O
  pub inquiry : Option (Question × List (List Info))

-- where a seeker of a new session stands
abbrev pub new_sought : {O : Type 0} → ℕ → O → Sought O
new_sought limit order = record { told = new_told limit order; inquiry = None }

-- What follows on a question. The reply is so, and the question may be gone on with: it begins
-- anew, or goes on where the same question was under way. Or the question is refused, and all
-- stays.
abbrev pub Replies : {O : Type 0} → List Stored → Sought O → Result (Question × ℕ) Refusal
    → Answer → Option (Question × List (List Info)) → Type 0
Replies library old (Ok (q, most)) answer inquiry =
    (before after : List (List Info)) × (text : List ℕ)
    × ((before ≡ []) ⊎ (old.inquiry ≡ Some (q, before)))
    × Says library old.told.standing.shown.state q most before after text
    × (answer ≡ Text text) × (inquiry ≡ Some (q, after))
Replies library old (Err reason) answer new = (answer ≡ Refused reason) × (new ≡ old.inquiry)

-- A question is answered by what is read in its line. Or memory was refused, and then the question
-- that could be gone on with is dropped or kept.
abbrev pub Seeks : {O : Type 0} → List Stored → Sought O → List ℕ → Answer
    → Option (Question × List (List Info)) → Type 0
Seeks library old line answer inquiry =
    ((answer ≡ Refused Memory) × ((inquiry ≡ None) ⊎ (inquiry ≡ old.inquiry)))
    ⊎ AsRead (as_value line)
    (λ read. Replies library old (asked old.told.standing.shown.state read) answer inquiry)

-- A step of the question under way is told, by a text that begins with `step`, and the question
-- stays. Or memory was refused, and the question is dropped.
abbrev pub Strides : {O : Type 0} → Sought O → Answer → Sought O → Type 0
Strides old answer new = (is_some old.inquiry ≡ true) × (new.told ≡ old.told)
    × (((new.inquiry ≡ None) × (answer ≡ Refused Memory))
    ⊎ ((new.inquiry ≡ old.inquiry) × (text : List ℕ) × (answer ≡ Text (codes "step " ++ text))))

-- What a line does. If it asks for plans, the seeker answers, and the teller stays. A line `step`
-- may tell a step of the question under way. Any other line is for the teller; if something is done
-- by it, other than to set the limit, no question can be gone on with.
abbrev pub seeking : {O : Type 0} → Picks O → List Stored → Machine (Sought O)
seeking picks library old line answer new = Own (is_question line)
    ((new.told ≡ old.told) × Seeks library old line answer new.inquiry)
    (((is_step line ≡ true) × Strides old answer new)
    ⊎ (telling picks library old.told line answer new.told × (new.inquiry
    ≡ cond (is_done answer && not (begins (codes "limit") line)) None old.inquiry)))
