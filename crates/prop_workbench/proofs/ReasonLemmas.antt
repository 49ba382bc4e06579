-- What an answer names, from the text that was made for it.
use Rattle.std.proofs.Common.{◌≡◌, ◌∙◌, ◌⊎◌, ℕ, List, Some, Ok, inl, inr, refl, sym}
use Rattle.prop_lattice.specs.declared.info.Info.{Info}
use Rattle.prop_refusals.specs.declared.refusal.Refusal.TheVariants.{Memory}
use Rattle.prop_numbers.specs.Sets.{Members}
use Rattle.prop_premises.specs.Origins.{Origin}
use Rattle.prop_contents.specs.Contents.{beliefs, IsLeanAt}
use Rattle.prop_cells.specs.Data.{Data}
use Rattle.prop_vocabulary.specs.Vocabulary.{Vocabulary}
use Rattle.prop_language.specs.Commands as commands
use Rattle.prop_engine.specs.Answers.{Answer, Says, Silent, Done, Text, Refused}
use Rattle.prop_workbench.specs.declared.asking.Question.{Question}
use Rattle.prop_workbench.specs.declared.asking.Question.TheVariants.{Settle, Worldview, Ask, Why}
use Rattle.prop_workbench.specs.inner.Questions.{command_of, SaysSoFar}
use Rattle.prop_workbench.specs.Machine.{State}
use Rattle.prop_workbench.specs.inner.Machine.{text_at}
use Rattle.prop_workbench.specs.Reasons.{IsLeanExplanation, IsContradiction, IsLeanReply, IsLeanAnswer}
use Rattle.prop_amb.specs.Going.{Work}
use Rattle.prop_workbench.specs.Sessions.{state_from}
use Rattle.prop_texts.specs.Texts.{equation, because, contradiction_text}
use Rattle.prop_vocabulary.specs.Cells.{CellNames}
use Rattle.prop_compound.specs.Definitions.{Definitions}

-- an answer that says one text or lacks memory has no other
pub the_text : (answer : Answer) (made text : List ℕ) → Says answer made → answer ≡ Text text → text ≡ made
the_text answer made text (inl e) h = let same : Text made ≡ Text text = sym e ∙ h in cc
the_text answer made text (inr m) h = let same : Refused Memory ≡ Text text = sym m ∙ h in cc

pub lean_explained : (believed : Members) (names : CellNames) (words : Vocabulary) (definitions : Definitions)
    (premises : List Origin) (d : Data) (limit cell : ℕ) (v : Info) (name mark support behind : List ℕ)
    (answer : Answer) → v ≡ beliefs believed d.contents cell →
    IsLeanAt believed d.contents cell support → behind ≡ because premises mark support
    → Says answer (equation name (text_at (state_from names words definitions premises d limit) cell v) behind)
    → (text : List ℕ) → answer ≡ Text text
    → IsLeanExplanation believed d (state_from names words definitions premises d limit) cell name mark text
lean_explained believed names words definitions premises d limit cell v name mark support behind answer is_v lean
    is_text says text e = record {
      premises = support;
      lean = lean;
      text_is = the_text answer (equation name (text_at (state_from names words definitions premises d limit) cell v)
          behind) text says e ∙ (λ i. equation name
          (text_at (state_from names words definitions premises d limit) cell (is_v i)) (is_text i));
    }

pub contradiction_said : (s : State) (support : List ℕ) (answer : Answer)
    → Says answer (contradiction_text s.premises support) → (text : List ℕ) → answer ≡ Text text
    → IsContradiction s text
contradiction_said s support answer says text e =
    (support, the_text answer (contradiction_text s.premises support) text says e)

-- ---- to each question

-- what a text of an explanation is lean by, its answer is
pub lean_answer : (believed : Members) (d : Data) (s : State) (name : List ℕ) (answer : Answer)
    → ((text : List ℕ) → answer ≡ Text text → IsLeanReply believed d s name text)
    → IsLeanAnswer believed d s (Ok (Some (commands.Command.Why name))) answer
lean_answer believed d s name Silent lean = tt
lean_answer believed d s name Done lean = tt
lean_answer believed d s name (Text text) lean = lean text refl
lean_answer believed d s name (Refused refusal) lean = tt

pub lean_contradicted : (believed : Members) (d : Data) (s : State) (question : Question) (answer : Answer)
    → ((text : List ℕ) → answer ≡ Text text → IsContradiction s text)
    → IsLeanAnswer believed d s (Ok (Some (command_of question))) answer
lean_contradicted believed d s Settle answer lean = tt
lean_contradicted believed d s Worldview answer lean = tt
lean_contradicted believed d s (Ask cell name) answer lean = tt
lean_contradicted believed d s (Why cell name) answer lean =
    lean_answer believed d s name.now answer (λ text e. inr (lean text e))

pub lean_bare : (believed : Members) (d : Data) (s : State) (question : Question) (answer : Answer)
    → (question ≡ Settle) ⊎ (question ≡ Worldview) → IsLeanAnswer believed d s (Ok (Some (command_of question))) answer
lean_bare believed d s question answer (inl e) = rw e tt
lean_bare believed d s question answer (inr e) = rw e tt

-- nor does what is said of no cell say what is believed of one
pub so_far_bare : {O : Type 0} (s : State) (work : Work O) (question : Question) (answer : Answer)
    → (question ≡ Settle) ⊎ (question ≡ Worldview) → SaysSoFar s work (command_of question) answer
so_far_bare s work question answer (inl e) = rw e (λ text is. tt)
so_far_bare s work question answer (inr e) = rw e (λ text is. tt)
