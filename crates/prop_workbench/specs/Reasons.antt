-- What the reply to `why` rests on: of the entries that the cells hold, none that isn't needed.
use Rattle.std.specs.Prelude.{◌≡◌, ℕ, List, [], codes, Option, Some, Result, Ok, ◌⊎◌, ⊤}
use Rattle.prop_refusals.specs.declared.refusal.Refusal.{Refusal}
use Rattle.prop_numbers.specs.Sets.{Members}
use Rattle.prop_contents.specs.Contents.{beliefs, IsLeanAt}
use Rattle.prop_cells.specs.Data.{Data}
use Rattle.prop_language.specs.Commands.{Command}
use Rattle.prop_engine.specs.Answers.{Answer, Text}
use Rattle.prop_workbench.specs.Machine.{State}
use Rattle.prop_workbench.specs.inner.Machine.{text_at}
use Rattle.prop_texts.specs.Texts.{equation, because, contradiction_text}
use Rattle.prop_vocabulary.specs.Cells.{cell_named}

-- The text gives what is believed of the cell, the mark, and the premises of some believed entries
-- of the cell that say it together. None of these entries can be left out. One of the premises may
-- still be needless, where other entries do without it.
pub record IsLeanExplanation (believed : Members) (d : Data) (s : State) (cell : ℕ)
    (name mark text : List ℕ) : Type 0 where
  pub premises : List ℕ
  pub lean : IsLeanAt believed d.contents cell premises
  pub text_is : text ≡ equation name (text_at s cell (beliefs believed d.contents cell))
      (because s.premises mark premises)

-- the text names these premises as contradictory
abbrev pub IsContradiction : State → List ℕ → Type 0
IsContradiction s text = (premises : List ℕ) × (text ≡ contradiction_text s.premises premises)

-- the text explains what is believed of the cell with the name, settled or not, or names a
-- contradiction instead
abbrev pub IsLeanReply : Members → Data → State → List ℕ → List ℕ → Type 0
IsLeanReply believed d s name text =
    ((cell : ℕ) × (cell_named s.names name ≡ Some cell)
    × (IsLeanExplanation believed d s cell name [] text
    ⊎ IsLeanExplanation believed d s cell name (codes " unsettled") text))
    ⊎ IsContradiction s text

-- what is asked of the answer to a line, by what was read in it: a text in answer to `why` uses no
-- entry that isn't needed; of other answers nothing is asked
abbrev pub IsLeanAnswer : Members → Data → State → Result (Option Command) Refusal → Answer → Type 0
IsLeanAnswer believed d s (Ok (Some (Command.Why name))) (Text text) =
    IsLeanReply believed d s name text
IsLeanAnswer believed d s read answer = ⊤
