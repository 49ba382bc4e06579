-- The fresh cells of a use are of kinds that are there.
use Rattle.std.proofs.Common.{ℕ, ◌<◌, ◌≤◌, ◌==◌, Bool, true, false, cond, List, [], ◌∷◌, ◌++◌, Option, Some, None, All}
use Rattle.std.proofs.Common.{length, ◌⊎◌, inl, inr, sym, subst}
use Rattle.std.specs.Prelude.{reverse}
use Rattle.std.specs.Option.{option_map_or}
use Rattle.std.specs.List.{range_with_len}
use Rattle.std.proofs.lemmas.Bool.{cases_lt}
use Rattle.std.proofs.lemmas.List.{reverse-append, get_or_past}
use Rattle.std.proofs.lemmas.List.Elements.{All-nil, All-append, All-cons, All-head, All-tail, All-push}
use Rattle.prop_procedures.specs.declared.shape.Kinded.{Kinded}
use Rattle.prop_procedures.specs.declared.shape.Param.{Param}
use Rattle.prop_procedures.specs.Stored.{Stored, span_kind}
use Rattle.prop_vocabulary.specs.Vocabulary.{Vocabulary}
use Rattle.prop_compound.specs.declared.definition.Used.{Used}
use Rattle.prop_compound.specs.declared.definition.Used.TheVariants as uses
use Rattle.prop_compound.specs.declared.definition.NumberedStep.{NumberedStep}
use Rattle.prop_compound.specs.declared.definition.NumberedStep.TheVariants.{Local, Like, Use}
use Rattle.prop_compound.specs.Definitions.{Definition, Definitions, used_named}
use Rattle.prop_procedures.specs.Fitting.{kind_at}
use Rattle.prop_compound.specs.Expansion.{Walk, cell_at, cells_at, param_passed, with_fresh, before, start}
use Rattle.prop_compound.specs.Expansion.{steps_expanded, definition_expanded, expanded_in, expanded}
use Rattle.prop_compound.specs.Kinds.{IsLocalOf, AreLocalsOf}

-- ---- kinds

module _ (P : Kinded → Type 0) (span : P span_kind) where
  pub kind_of_place : (kinds : List Kinded) (cell : ℕ) → All P kinds → P (kind_at kinds cell)
  kind_of_place kinds cell all = by (cases_lt cell (length kinds))
    where
      by : (cell < length kinds) ⊎ (length kinds ≤ cell) → P (kind_at kinds cell)
      by (inl h) = all cell span_kind h
      by (inr h) = subst P (sym (get_or_past kinds cell span_kind h)) span

  steps_kinds : (words : Vocabulary) (definition : ℕ → List ℕ → Option Param → Walk → Walk)
      → ((n : ℕ) (cells : List ℕ) (given : Option Param) (e : Walk) → All P e.kinds
      → All P (definition n cells given e).kinds) →
      (given : Option Param) (cells : List ℕ) (steps : List NumberedStep) (e : Walk) → All (IsLocalOf P) steps
      → All P e.kinds → All P (steps_expanded (param_passed words) definition given cells steps e).kinds
  steps_kinds words definition keeps given cells [] e locals all = all
  steps_kinds words definition keeps given cells (Local kind ∷ steps) e locals all =
      steps_kinds words definition keeps given (cells ++ length e.kinds ∷ []) steps (with_fresh e kind)
      (All-tail (IsLocalOf P) (Local kind) steps locals)
      (All-push P e.kinds kind all (All-head (IsLocalOf P) (Local kind) steps locals))
  steps_kinds words definition keeps given cells (Like place ∷ steps) e locals all =
      steps_kinds words definition keeps given (cells ++ length e.kinds ∷ []) steps
      (with_fresh e (kind_at e.kinds (cell_at cells place))) (All-tail (IsLocalOf P) (Like place) steps locals)
      (All-push P e.kinds (kind_at e.kinds (cell_at cells place)) all (kind_of_place e.kinds (cell_at cells place) all))
  steps_kinds words definition keeps given cells (Use (uses.Procedure n) places passing ∷ steps) e locals all =
      steps_kinds words definition keeps given cells steps _
      (All-tail (IsLocalOf P) (Use (uses.Procedure n) places passing) steps locals) all
  steps_kinds words definition keeps given cells (Use (uses.Definition n) places passing ∷ steps) e locals all =
      steps_kinds words definition keeps given cells steps _
      (All-tail (IsLocalOf P) (Use (uses.Definition n) places passing) steps locals)
      (keeps n (cells_at cells places) (param_passed words given passing) e all)

  either_kinds : (words : Vocabulary) (d : Definition) (earlier : List Definition)
      → ((n : ℕ) (cells : List ℕ) (given : Option Param) (e : Walk) → All P e.kinds
      → All P (definition_expanded (param_passed words) earlier n cells given e).kinds) →
      All (IsLocalOf P) d.steps → (n : ℕ) (cells : List ℕ) (given : Option Param) (e : Walk) → All P e.kinds
      → (b : Bool) →
      All P (cond b (steps_expanded (param_passed words) (definition_expanded (param_passed words) earlier) given cells
      d.steps e) (definition_expanded (param_passed words) earlier n cells given e)).kinds
  either_kinds words d earlier rest locals n cells given e all true =
      steps_kinds words (definition_expanded (param_passed words) earlier) rest given cells d.steps e locals all
  either_kinds words d earlier rest locals n cells given e all false = rest n cells given e all

  definition_kinds : (words : Vocabulary) (definitions : List Definition)
      → All (λ d. All (IsLocalOf P) d.steps) definitions → (n : ℕ) (cells : List ℕ) (given : Option Param) (e : Walk)
      → All P e.kinds →
      All P (definition_expanded (param_passed words) definitions n cells given e).kinds
  definition_kinds words [] locals n cells given e all = all
  definition_kinds words (d ∷ earlier) locals n cells given e all =
      either_kinds words d earlier (λ n cells given e.
      definition_kinds words earlier (All-tail (λ d. All (IsLocalOf P) d.steps) d earlier locals) n cells given e)
      (All-head (λ d. All (IsLocalOf P) d.steps) d earlier locals) n cells given e
      all (n == length earlier)

  all_reversed : {X : Type 0} (Q : X → Type 0) (xs : List X) → All Q xs → All Q (reverse xs)
  all_reversed Q [] all = All-nil Q
  all_reversed Q (x ∷ xs) all =
      subst (All Q) (sym (reverse-append (x ∷ []) xs))
      (All-append Q (reverse xs) (x ∷ []) (all_reversed Q xs (All-tail Q x xs all))
      (All-cons Q x [] (All-head Q x xs all) (All-nil Q)))

  used_kinds : (words : Vocabulary) (definitions : Definitions) → AreLocalsOf P definitions
      → (o : Option Used) (cells : List ℕ) (given : Option Param) (kinds : List Kinded) → All P kinds →
      All P (option_map_or (λ used. expanded_in (param_passed words) definitions.definitions used cells given
      (before definitions.definitions used kinds given)) o (start kinds false)).kinds
  used_kinds words definitions locals None cells given kinds all = all
  used_kinds words definitions locals (Some (uses.Procedure n)) cells given kinds all = all
  used_kinds words definitions locals (Some (uses.Definition n)) cells given kinds all =
      definition_kinds words (reverse definitions.definitions)
      (all_reversed (λ d. All (IsLocalOf P) d.steps) definitions.definitions locals) n cells given
      (before definitions.definitions (uses.Definition n) kinds given) all

  -- what is true of the kinds of the given cells and of the locals is true of all of a use's
  pub kinds_of_use : (library : List Stored) (words : Vocabulary) (definitions : Definitions) (name : List ℕ)
      (kinds : List Kinded) (given : Option Param) → AreLocalsOf P definitions → All P kinds →
      All P (expanded library words definitions name kinds given).kinds
  kinds_of_use library words definitions name kinds given locals all =
      used_kinds words definitions locals (used_named library definitions name) (range_with_len 0 (length kinds)) given
      kinds all
