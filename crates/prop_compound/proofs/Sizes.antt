-- How much a use adds does not depend on its cells, on what it is given, or on what was there before.
use Rattle.std.proofs.Common.{◌≡◌, ◌∙◌, ℕ, ◌+◌, ◌==◌, List, [], ◌∷◌, ◌++◌, true, false, Option, cond, length, refl, sym}
use Rattle.std.proofs.Common.{ap, arith}
use Rattle.std.specs.Prelude.{sum_by}
use Rattle.std.proofs.lemmas.List.{append_assoc, append-nil, length-append}
use Rattle.std.proofs.lemmas.List.Sums.{sum_by-cons}
use Rattle.prop_procedures.specs.declared.shape.Kinded.{Kinded}
use Rattle.prop_procedures.specs.declared.shape.Param.{Param}
use Rattle.prop_vocabulary.specs.Vocabulary.{Vocabulary}
use Rattle.prop_compound.specs.declared.definition.Used.{Used}
use Rattle.prop_compound.specs.declared.definition.Used.TheVariants as uses
use Rattle.prop_compound.specs.declared.definition.NumberedStep.{NumberedStep}
use Rattle.prop_compound.specs.declared.definition.NumberedStep.TheVariants.{Local, Like, Use}
use Rattle.prop_compound.specs.Definitions.{Definition}
use Rattle.prop_procedures.specs.Fitting.{kind_at}
use Rattle.prop_compound.specs.Expansion.{Walk, cell_at, cells_at, with_fresh, param_passed, use_expanded}
use Rattle.prop_compound.specs.Expansion.{steps_expanded, definition_expanded}
use Rattle.prop_compound.specs.inner.Kept.{fresh_used, instances_used, fresh_of, instances_of, total_in}
use Rattle.prop_compound.proofs.Unrolling.{Adds}

-- ---- fresh cells

-- so many kinds more
pub record IsLonger (old new : List Kinded) (n : ℕ) : Type 0 where
  pub more : List Kinded
  pub is : new ≡ old ++ more
  pub count : length more ≡ n

no_longer : (old : List Kinded) → IsLonger old old 0
no_longer old = record { more = []; is = sym (append-nil old); count = refl }

one_longer : (old : List Kinded) (kind : Kinded) → IsLonger old (old ++ kind ∷ []) 1
one_longer old kind = record { more = kind ∷ []; is = refl; count = refl }

longer_still : (a b c : List Kinded) (n m k : ℕ) → k ≡ n + m → IsLonger a b n → IsLonger b c m → IsLonger a c k
longer_still a b c n m k e p q = record {
  more = p.more ++ q.more;
  is = q.is ∙ ap (λ l. l ++ q.more) p.is ∙ append_assoc a p.more q.more;
  count = omega (arith, length-append p.more q.more, p.count, q.count, e);
}

-- each definition's use makes so many fresh cells
abbrev pub Makes : Adds → (ℕ → ℕ) → Type 0
Makes f count = (m : ℕ) (cells : List ℕ) (given : Option Param) (e : Walk)
    → IsLonger e.kinds (f m cells given e).kinds (count m)

pub use_makes : (f : Adds) (count : ℕ → ℕ) → Makes f count
    → (used : Used) (cells : List ℕ) (given : Option Param) (e : Walk)
    → IsLonger e.kinds (use_expanded f used cells given e).kinds (fresh_used count used)
use_makes f count h (uses.Procedure n) cells given e = no_longer e.kinds
use_makes f count h (uses.Definition n) cells given e = h n cells given e

steps_make : (words : Vocabulary) (f : Adds) (count : ℕ → ℕ) → Makes f count
    → (steps : List NumberedStep) (given : Option Param) (cells : List ℕ) (e : Walk)
    → IsLonger e.kinds (steps_expanded (param_passed words) f given cells steps e).kinds (sum_by (fresh_of count) steps)
steps_make words f count h [] given cells e = no_longer e.kinds
steps_make words f count h (Local kind ∷ steps) given cells e =
    longer_still e.kinds (e.kinds ++ kind ∷ [])
    (steps_expanded (param_passed words) f given (cells ++ length e.kinds ∷ []) steps (with_fresh e kind)).kinds 1
    (sum_by (fresh_of count) steps) (sum_by (fresh_of count) (Local kind ∷ steps))
    (sum_by-cons (fresh_of count) (Local kind) steps)
    (one_longer e.kinds kind) (steps_make words f count h steps given (cells ++ length e.kinds ∷ [])
    (with_fresh e kind))
steps_make words f count h (Like place ∷ steps) given cells e =
    let kind = kind_at e.kinds (cell_at cells place) in
    longer_still e.kinds (e.kinds ++ kind ∷ [])
    (steps_expanded (param_passed words) f given (cells ++ length e.kinds ∷ []) steps (with_fresh e kind)).kinds 1
    (sum_by (fresh_of count) steps) (sum_by (fresh_of count) (Like place ∷ steps))
    (sum_by-cons (fresh_of count) (Like place) steps)
    (one_longer e.kinds kind) (steps_make words f count h steps given (cells ++ length e.kinds ∷ [])
    (with_fresh e kind))
steps_make words f count h (Use used places passing ∷ steps) given cells e =
    let e' = use_expanded f used (cells_at cells places) (param_passed words given passing) e in
    longer_still e.kinds e'.kinds (steps_expanded (param_passed words) f given cells steps e').kinds
    (fresh_used count used) (sum_by (fresh_of count) steps)
    (sum_by (fresh_of count) (Use used places passing ∷ steps))
    (sum_by-cons (fresh_of count) (Use used places passing) steps)
    (use_makes f count h used (cells_at cells places) (param_passed words given passing) e)
    (steps_make words f count h steps given cells e')

pub definitions_make : (words : Vocabulary) (latest : List Definition)
    → Makes (definition_expanded (param_passed words) latest) (total_in fresh_of latest)
definitions_make words [] m cells given e = no_longer e.kinds
definitions_make words (d ∷ earlier) m cells given e =
    elim (m == length earlier) as (λ b.
    IsLonger e.kinds (cond b (steps_expanded (param_passed words) (definition_expanded (param_passed words) earlier)
    given cells d.steps e) (definition_expanded (param_passed words) earlier m cells given e)).kinds
    (cond b (sum_by (fresh_of (total_in fresh_of earlier)) d.steps) (total_in fresh_of earlier m))) [
      | true ↦ steps_make words (definition_expanded (param_passed words) earlier) (total_in fresh_of earlier)
          (definitions_make words earlier) d.steps given cells e
      | false ↦ definitions_make words earlier m cells given e
    ]

-- ---- instances

-- each definition's use makes so many instances
abbrev pub Places : Adds → (ℕ → ℕ) → Type 0
Places f count = (m : ℕ) (cells : List ℕ) (given : Option Param) (e : Walk)
    → length (f m cells given e).placed ≡ length e.placed + count m

pub use_places : (f : Adds) (count : ℕ → ℕ) → Places f count
    → (used : Used) (cells : List ℕ) (given : Option Param) (e : Walk)
    → length (use_expanded f used cells given e).placed ≡ length e.placed + instances_used count used
use_places f count h (uses.Procedure n) cells given e =
    length-append e.placed (record { procedure = n; given = given; cells = cells } ∷ [])
use_places f count h (uses.Definition n) cells given e = h n cells given e

steps_place : (words : Vocabulary) (f : Adds) (count : ℕ → ℕ) → Places f count
    → (steps : List NumberedStep) (given : Option Param) (cells : List ℕ) (e : Walk)
    → length (steps_expanded (param_passed words) f given cells steps e).placed ≡ length e.placed + sum_by
    (instances_of count) steps
steps_place words f count h [] given cells e = omega arith
steps_place words f count h (Local kind ∷ steps) given cells e =
    omega (
      arith,
      steps_place words f count h steps given (cells ++ length e.kinds ∷ []) (with_fresh e kind),
      sum_by-cons (instances_of count) (Local kind) steps,
    )
steps_place words f count h (Like place ∷ steps) given cells e =
    omega (
      arith,
      steps_place words f count h steps given (cells ++ length e.kinds ∷ [])
          (with_fresh e (kind_at e.kinds (cell_at cells place))),
      sum_by-cons (instances_of count) (Like place) steps,
    )
steps_place words f count h (Use used places passing ∷ steps) given cells e =
    let e' = use_expanded f used (cells_at cells places) (param_passed words given passing) e in
    omega (
      arith,
      steps_place words f count h steps given cells e',
      use_places f count h used (cells_at cells places) (param_passed words given passing) e,
      sum_by-cons (instances_of count) (Use used places passing) steps,
    )

pub definitions_place : (words : Vocabulary) (latest : List Definition)
    → Places (definition_expanded (param_passed words) latest) (total_in instances_of latest)
definitions_place words [] m cells given e = omega arith
definitions_place words (d ∷ earlier) m cells given e =
    elim (m == length earlier) as (λ b.
    length (cond b (steps_expanded (param_passed words) (definition_expanded (param_passed words) earlier) given
    cells d.steps e) (definition_expanded (param_passed words) earlier m cells given e)).placed ≡ length
    e.placed + cond b (sum_by (instances_of (total_in instances_of earlier)) d.steps)
    (total_in instances_of earlier m)) [
      | true ↦ steps_place words (definition_expanded (param_passed words) earlier) (total_in instances_of earlier)
          (definitions_place words earlier) d.steps given cells e
      | false ↦ definitions_place words earlier m cells given e
    ]
