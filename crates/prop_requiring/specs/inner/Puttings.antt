-- What follows where a term is to be demanded, and where a cell is to be declared.
use Rattle.std.specs.Prelude.{◌≡◌, ◌⊎◌, ℕ, List, Option, Some, None, Result, Ok, Err, ⊤}
use Rattle.std.specs.Prelude.{codes, cond, false, true}
use Rattle.std.specs.Result.{is_ok}
use Rattle.std.specs.declared.vec.Vec.{Vec}
use Rattle.prop_refusals.specs.declared.refusal.Limit.{Limit}
use Rattle.prop_refusals.specs.declared.refusal.Refusal.{Refusal}
use Rattle.prop_refusals.specs.declared.refusal.Refusal.TheVariants.{LimitReached, Memory}
use Rattle.prop_language.specs.Reading.{IsReading}
use Rattle.prop_lattice.specs.declared.info.Info.TheVariants as infos
use Rattle.prop_lattice.specs.declared.span.Span.{Span}
use Rattle.prop_vocabulary.specs.Values.{halves, span_value}
use Rattle.prop_language.specs.Commands.{Bare, Command}
use Rattle.prop_procedures.specs.Stored.{Stored}
use Rattle.prop_engine.specs.Answers.{Answer, Done, Refused}
use Rattle.prop_notes.specs.Notes.{is_done}
use Rattle.prop_terms.specs.Terms.{Term, Name, Two}
use Rattle.prop_terms.specs.declared.operators.Infix.TheVariants.{Equal}
use Rattle.prop_workbench.specs.Machine.{State}
use Rattle.prop_workbench.specs.Questions.{Picks}
use Rattle.prop_terms.specs.declared.forming.Sort.TheVariants.{Any}
use Rattle.prop_demands.specs.Refusing.{IsRefused, is_of_term}
use Rattle.prop_seeking.specs.Seeking.{Sought}
use Rattle.prop_blaming.specs.Blaming.{blaming}
use Rattle.prop_requiring.specs.Asking.{cell_line}
use Rattle.prop_requiring.specs.Requiring.{Means, Puts}

-- it is refused for the term or for want of memory, and all stays, or it is posted
abbrev pub MayPut : {O : Type 0} → List Stored → Sought O → Term → Option (List ℕ)
    → Result ⊤ Refusal → Sought O → Type 0
MayPut library old t premise result new =
    ((e : Refusal) × (result ≡ Err e) × ((e ≡ Memory) ⊎ (is_of_term e ≡ true)) × (new ≡ old))
    ⊎ Puts library old t premise result new

-- why what stands before the equals sign, and the text, is refused before anything is made
abbrev pub IsHindered : List ℕ → List ℕ → Refusal → Type 0
IsHindered before text e = IsRefused Any text e
    ⊎ IsReading (cell_line before (codes "span")) (Err e)
    ⊎ ((limit : Limit) × (e ≡ LimitReached limit))

-- the line fixes the cell with the name to the span
abbrev pub IsFixing : List ℕ → Span → List ℕ → Type 0
IsFixing name span line = (word : List ℕ) × (span_value (halves word) ≡ Ok (infos.Span span))
    × IsReading line (Ok (Some (Command.Fix name (Bare word))))

-- the line, if there is one, fixes the cell with the name to the span
abbrev pub MayFix : {Z : Type 0} → List ℕ → Span → Option (Vec ℕ Z) → Type 0
MayFix name span None = ⊤
MayFix name span (Some line) = IsFixing name span line.items

-- the line is given, if there is one
abbrev pub MayPass : {O Z : Type 0} → Picks O → List Stored → Sought O → Option (Vec ℕ Z) → Sought O
    → Type 0
MayPass picks library old None new = new ≡ old
MayPass picks library old (Some line) new =
    (other : Answer) × blaming picks library old line.items other new

-- what a definition does: the line that declares its cell, one that fixes it, and what is demanded
pub record Prepares {Z : Type 0} (library : List Stored) (s : State)
    (before text declaring : List ℕ) (fixing : Option (Vec ℕ Z)) (equation : Term) : Type 0 where
  pub name : List ℕ
  pub term : Term
  pub span : Span
  pub means : Means library s before text declaring name term span
  pub fixes : MayFix name span fixing
  pub equation_is : equation ≡ Two Equal (Name name) term

-- The cell is declared, and the other line given, if there is one. Then the equation is posted, or
-- memory was refused.
abbrev pub Carries : {O Z : Type 0} → Picks O → List Stored → Sought O → List ℕ → Option (Vec ℕ Z)
    → Term → Answer → Sought O → Type 0
Carries {O = O} picks library old declaring fixing equation answer new =
    ((is_done answer ≡ false) × blaming picks library old declaring answer new)
    ⊎ ((declared fixed : Sought O) × blaming picks library old declaring Done declared
    × MayPass picks library declared fixing fixed
    × (((answer ≡ Refused Memory) × (new ≡ fixed))
    ⊎ ((result : Result ⊤ Refusal) × (answer ≡ cond (is_ok result) Done (Refused Memory))
    × Puts library fixed equation None result new)))
