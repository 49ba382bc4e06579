-- What is told of how a value came about.
use Rattle.std.specs.Prelude.{◌≡◌, ◌⊎◌, ℕ, ◌+◌, ◌*◌, List, [], ◌++◌, flat_map, length, codes}
use Rattle.std.specs.Prelude.{decimal, slice_get, Option, Some, None, Result, Ok, Err, ◌<◌, ◌≤◌}
use Rattle.std.specs.Option.{option_map_or}
use Rattle.prop_lattice.specs.declared.info.Info.{Info}
use Rattle.prop_numbers.specs.Sets.{set_of}
use Rattle.prop_refusals.specs.declared.refusal.Refusal.{Refusal}
use Rattle.prop_refusals.specs.declared.refusal.Refusal.TheVariants.{Memory, NoSuchCell, WrongForm}
use Rattle.prop_procedures.specs.Stored.{Stored}
use Rattle.prop_language.specs.Commands.{Command}
use Rattle.prop_language.specs.Reading.{AsRead}
use Rattle.prop_vocabulary.specs.Cells.{cell_named}
use Rattle.prop_contents.specs.Contents.{beliefs, IsLeanAt}
use Rattle.prop_cells.specs.inner.Problems.{Premises}
use Rattle.prop_cells.specs.Data.{Data, problem_of}
use Rattle.prop_scheduler.specs.Potential.{most_steps}
use Rattle.prop_origins.specs.declared.part.Origin.{Origin}
use Rattle.prop_origins.specs.declared.part.Origin.TheVariants.{Told, Called}
use Rattle.prop_origins.specs.declared.making.Composition.{Composition}
use Rattle.prop_origins.specs.declared.making.Composition.TheVariants.{Whole, Cut}
use Rattle.prop_origins.specs.Parts.{Part, calls_in}
use Rattle.prop_origins.specs.Founded.{MakeUp, FallShort}
use Rattle.prop_amb.specs.Going.{Work}
use Rattle.prop_engine.specs.Answers.{Answer, Text, Refused}
use Rattle.prop_texts.specs.Texts.{premises_text}
use Rattle.prop_workbench.specs.Machine.{State}
use Rattle.prop_workbench.specs.Engine.{Standing}
use Rattle.prop_telling.specs.Asking.{as_why}
use Rattle.prop_notes.specs.Texts.{call_text, sides_text}
use Rattle.prop_telling.specs.Texts.{says_text}

-- a statement by its premise, or a call
abbrev pub origin_text : List Stored → State → List ℕ → Origin → List ℕ
origin_text library s support (Told n) = codes "told:" ++ premises_text s.premises support
origin_text library s support (Called n) =
    option_map_or (call_text s.names library n) (slice_get s.instances n) []

-- where a part comes from, and what it says with the premises on which it rests
abbrev pub part_text : List Stored → State → Part → List ℕ
part_text library s p =
    codes "\n" ++ (origin_text library s p.support p.origin ++ (codes "\n"
    ++ says_text s p.cell p.value p.support))

abbrev pub parts_text : List Stored → State → List Part → List ℕ
parts_text library s parts = flat_map (part_text library s) parts

-- ---- the parts, None where they are not known

abbrev pub parts_of : Composition → Option (List Part)
parts_of (Whole parts) = Some parts.items
parts_of Cut = None

-- how many calls that tell more are made at most to find them
abbrev pub most_calls : ℕ
most_calls = 1000000

-- They make up the value under the premises, and are no more calls than that. Or so many calls,
-- each of which told more, fall short of it, and a run may take more steps.
abbrev pub AreTold : List Stored → Data → Premises → ℕ → Info → Option (List Part) → Type 0
AreTold library d premises cell v (Some parts) =
    MakeUp library d premises cell v parts × (calls_in parts ≤ most_calls)
AreTold library d premises cell v None =
    FallShort library d premises cell v most_calls
    × (most_calls < most_steps (problem_of library d))

abbrev pub lines_for : Option (List Part) → ℕ
lines_for (Some parts) = 2 + 2 * length parts
lines_for None = 3

abbrev pub made_text : List Stored → State → Option (List Part) → List ℕ
made_text library s (Some parts) = parts_text library s parts
made_text library s None = codes "\ncut"

-- what is told, the first line of which says how many follow
abbrev pub how_text : ℕ → List ℕ → List ℕ → List ℕ → List ℕ
how_text lines sides value made =
    codes "how " ++ (decimal lines ++ (codes "\nsides:" ++ (sides ++ (codes "\n"
    ++ (value ++ made)))))

-- The text says what is believed of the cell, with the premises of believed entries that say so,
-- none of which can be left out, and the parts that make it up under these premises alone.
pub record SaysHow {O : Type 0} (library : List Stored) (s : State) (w : Work O) (cell : ℕ)
    (text : List ℕ) : Type 0 where
  pub premises : List ℕ
  pub lean : IsLeanAt (set_of w.search.worldview) w.cells.contents cell premises
  pub made : Option (List Part)
  pub told : AreTold library w.cells (set_of premises) cell
      (beliefs (set_of w.search.worldview) w.cells.contents cell) made
  pub text_is : text ≡ how_text (lines_for made)
      (sides_text s.premises (set_of w.search.worldview))
      (says_text s cell (beliefs (set_of w.search.worldview) w.cells.contents cell) premises)
      (made_text library s made)

-- ---- the answer

-- that of a cell, or that there is none of the name
abbrev pub SaysOf : {O : Type 0} → List Stored → Standing O → Option ℕ → Answer → Type 0
SaysOf library at (Some cell) answer = (text : List ℕ)
    × SaysHow library at.shown.state at.work cell text × (answer ≡ Text text)
SaysOf library at None answer = answer ≡ Refused NoSuchCell

-- that to a name, where one was asked for
abbrev pub AnswersTo : {O : Type 0} → List Stored → Standing O → Option (List ℕ) → Answer → Type 0
AnswersTo library at (Some name) answer =
    SaysOf library at (cell_named at.shown.state.names name) answer
AnswersTo library at None answer = answer ≡ Refused WrongForm

-- the name of which it is asked why
abbrev pub asked : Option Command → Option (List ℕ)
asked (Some (Command.Why name)) = Some name
asked read = None

-- what a line that was read so is answered
abbrev pub AnswersHow : {O : Type 0} → List Stored → Standing O → Result (Option Command) Refusal
    → Answer → Type 0
AnswersHow library at (Ok read) answer = AnswersTo library at (asked read) answer
AnswersHow library at (Err refusal) answer = answer ≡ Refused refusal

-- The line is answered as it would be read with `why` in place of `how`, or memory was refused. No
-- step is taken, and all stays as it was.
pub record TellsHow {O : Type 0} (library : List Stored) (old : Standing O) (line : List ℕ)
    (answer : Answer) (new : Standing O) : Type 0 where
  pub same : new ≡ old
  pub told : (answer ≡ Refused Memory)
      ⊎ AsRead (as_why line) (λ read. AnswersHow library old read answer)
