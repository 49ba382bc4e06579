-- What is kept beside each definition: counts, whether a parameter is spare, and a plan, which is
-- shorter steps that add the same. And what holds of the definitions that are kept.
use Rattle.std.specs.Prelude.{◌≡◌, ◌<◌, ℕ, ◌+◌, ◌==◌, min, List, [], ◌∷◌, ◌++◌, All, Option, true}
use Rattle.std.specs.Prelude.{false, cond, not, ◌||◌, length, reverse, slice_get, slice_index_or}
use Rattle.std.specs.Prelude.{sum_by, ⊤}
use Rattle.std.specs.List.{list_any, flat_map}
use Rattle.std.specs.Option.{option_map_or}
use Rattle.prop_refusals.specs.Refusals.{most}
use Rattle.prop_refusals.specs.declared.refusal.Limit.TheVariants.{Cells, Instances}
use Rattle.prop_procedures.specs.declared.shape.Param.{Param}
use Rattle.prop_vocabulary.specs.Vocabulary.{Vocabulary}
use Rattle.prop_compound.specs.declared.definition.KeptDefinition.{KeptDefinition}
use Rattle.prop_compound.specs.declared.definition.Used.{Used}
use Rattle.prop_compound.specs.declared.definition.Used.TheVariants as uses
use Rattle.prop_compound.specs.declared.definition.NumberedStep.{NumberedStep}
use Rattle.prop_compound.specs.declared.definition.NumberedStep.TheVariants.{Local, Like, Use}
use Rattle.prop_compound.specs.Definitions.{Definition, is_passing_on}
use Rattle.prop_compound.specs.Expansion.{Walk, param_passed, spare_of, is_spare}
use Rattle.prop_compound.specs.inner.Expansion.{steps_in}
use Rattle.prop_compound.specs.inner.Shortcuts.{shortened}
use Rattle.prop_compound.specs.Kept.{all_bare, bare}

-- ---- sizes

-- how many fresh cells a use adds, where `count` says how many each definition adds
abbrev pub fresh_used : (ℕ → ℕ) → Used → ℕ
fresh_used count (uses.Procedure n) = 0
fresh_used count (uses.Definition n) = count n

-- how many instances a use adds, in the same way
abbrev pub instances_used : (ℕ → ℕ) → Used → ℕ
instances_used count (uses.Procedure n) = 1
instances_used count (uses.Definition n) = count n

-- how many fresh cells a step adds
abbrev pub fresh_of : (ℕ → ℕ) → NumberedStep → ℕ
fresh_of count (Use used cells passing) = fresh_used count used
fresh_of count step = 1

-- how many instances a step adds
abbrev pub instances_of : (ℕ → ℕ) → NumberedStep → ℕ
instances_of count (Use used cells passing) = instances_used count used
instances_of count step = 0

-- how many of these the definition with the number adds, where `of` counts those of a step; the
-- definitions are listed from the latest to the earliest
abbrev pub total_in : ((ℕ → ℕ) → NumberedStep → ℕ) → List Definition → ℕ → ℕ
total_in of [] n = 0
total_in of (d ∷ earlier) n = cond (n == length earlier) (sum_by (of (total_in of earlier)) d.steps)
    (total_in of earlier n)

-- the same, where definitions are listed in order
abbrev pub total_of : ((ℕ → ℕ) → NumberedStep → ℕ) → List Definition → ℕ → ℕ
total_of of definitions n = total_in of (reverse definitions) n

-- ---- places

-- how many places a step adds: one if it makes a local
abbrev pub places_made : NumberedStep → ℕ
places_made (Use used cells passing) = 0
places_made step = 1

-- the step names only places below n
abbrev pub IsInScope : ℕ → NumberedStep → Type 0
IsInScope n (Local kind) = ⊤
IsInScope n (Like place) = place < n
IsInScope n (Use used places passing) = All (λ place. place < n) places

-- each step names only places that are there: the n before the first step, and those of earlier
-- locals
abbrev pub AreInScope : ℕ → List NumberedStep → Type 0
AreInScope n [] = ⊤
AreInScope n (step ∷ steps) = IsInScope n step × AreInScope (n + places_made step) steps

-- ---- uses

-- if the step uses a procedure, it does so on one cell at least; if it uses a definition, that has
-- a number below n and is used on as many cells as it wants
abbrev pub IsUseBelow : List Definition → ℕ → NumberedStep → Type 0
IsUseBelow definitions n (Use (uses.Procedure m) cells passing) = 0 < length cells
IsUseBelow definitions n (Use (uses.Definition m) cells passing) =
    (m < n) × (option_map_or (λ d. d.params) (slice_get definitions m) 0 ≡ length cells)
IsUseBelow definitions n step = ⊤

-- ---- what is kept

-- What holds of the n-th definition. Its steps name places that are there and use earlier
-- definitions. So does its plan, which adds the same cells and instances. Beside it is kept whether
-- a use with a parameter, or without one, leaves one spare, and how many fresh cells and instances
-- a use adds, up to one past their limits.
pub record IsKept (definitions : List Definition) (n : ℕ) (k : KeptDefinition) : Type 0 where
  pub in_scope : AreInScope k.params k.steps.items
  pub uses : All (IsUseBelow definitions n) k.steps.items
  pub plan_in_scope : AreInScope k.params k.plan.items
  pub plan_uses : All (IsUseBelow definitions n) k.plan.items
  pub same : (words : Vocabulary) (cells : List ℕ) (given : Option Param) (e : Walk)
      → length cells ≡ k.params →
      steps_in (param_passed words) definitions given cells k.plan.items e ≡ steps_in
      (param_passed words) definitions given cells k.steps.items e
  pub spare_given : k.spare_given ≡ is_spare definitions n true
  pub spare_bare : k.spare_bare ≡ is_spare definitions n false
  pub fresh : k.fresh ≡ min (most Cells + 1) (total_of fresh_of definitions n)
  pub instances : k.instances ≡ min (most Instances + 1) (total_of instances_of definitions n)

-- this holds of each definition that is kept
abbrev pub AreKept : List KeptDefinition → Type 0
AreKept definitions = (n : ℕ) (d : KeptDefinition) → n < length definitions
    → IsKept (all_bare definitions) n (slice_index_or definitions n d)

-- this holds of the next definition, behind those that there are
abbrev pub IsKeptNext : List Definition → KeptDefinition → Type 0
IsKeptNext definitions k = IsKept (definitions ++ bare k ∷ []) (length definitions) k

-- What is kept for a definition that takes so many cells and has these steps, behind the
-- definitions: its plan and its numbers follow from what is kept beside those.
pub record IsCounted (definitions : List KeptDefinition) (count : ℕ) (items : List NumberedStep)
    (k : KeptDefinition) : Type 0 where
  pub params : k.params ≡ count
  pub steps : k.steps.items ≡ items
  pub plan : k.plan.items ≡ flat_map (shortened definitions) items
  pub spare_given : k.spare_given
      ≡ (not (list_any is_passing_on items) || list_any
      (spare_of (is_spare (all_bare definitions)) true) items)
  pub spare_bare : k.spare_bare ≡ list_any (spare_of (is_spare (all_bare definitions)) false) items
  pub fresh : k.fresh ≡ min (most Cells + 1)
      (sum_by (fresh_of (total_of fresh_of (all_bare definitions))) items)
  pub instances : k.instances ≡ min (most Instances + 1)
      (sum_by (instances_of (total_of instances_of (all_bare definitions))) items)

-- what is used is one of so many procedures, or of so many definitions
abbrev pub IsThere : ℕ → ℕ → Used → Type 0
IsThere procedures definitions (uses.Procedure n) = n < procedures
IsThere procedures definitions (uses.Definition n) = n < definitions
