-- The cells of the instances that a use stands for are there, and each procedure is one of the library on as many cells
-- as it wants.
use Rattle.std.proofs.Common.{◌≡◌, ◌∙◌, ℕ, ◌+◌, ◌<◌, ◌≤◌, List, [], ◌∷◌, ◌++◌, All, Option, length, sym, ap, arith, inl}
use Rattle.std.proofs.Common.{inr, add-zero}
use Rattle.std.specs.Prelude.{slice_get}
use Rattle.std.specs.Option.{option_map_or}
use Rattle.std.proofs.lemmas.Bool.{cases_eq, eq-eqb, ne_eqb}
use Rattle.std.proofs.lemmas.List.{length-append, length-map}
use Rattle.std.proofs.lemmas.List.Elements.{All-head, All-tail, All-push, All-map, All-weaker}
use Rattle.prop_procedures.specs.declared.shape.Param.{Param}
use Rattle.prop_procedures.specs.Stored.{Stored}
use Rattle.prop_vocabulary.specs.Vocabulary.{Vocabulary}
use Rattle.prop_compound.specs.declared.definition.Used.TheVariants as uses
use Rattle.prop_compound.specs.declared.definition.NumberedStep.{NumberedStep}
use Rattle.prop_compound.specs.declared.definition.NumberedStep.TheVariants.{Local, Like, Use}
use Rattle.prop_compound.specs.Definitions.{Definition}
use Rattle.prop_procedures.specs.Fitting.{kind_at}
use Rattle.prop_compound.specs.Expansion.{Walk, Placed, cell_at, cells_at, with_fresh, param_passed, use_expanded}
use Rattle.prop_compound.specs.Expansion.{steps_expanded, definition_expanded}
use Rattle.prop_compound.specs.inner.Kept.{fresh_of, total_in, AreInScope, IsUseBelow}
use Rattle.prop_compound.specs.Kept.{IsUseOver}
use Rattle.prop_compound.proofs.Latest.{latest_at}
use Rattle.prop_compound.proofs.Unrolling.{Adds}
use Rattle.prop_compound.proofs.Sizes.{IsLonger, Makes, use_makes, definitions_make}
use Rattle.prop_compound.proofs.WellMade.{AreWellMade, well_made_tail}

-- the instance's procedure is one of the library, on as many cells as it wants, which are below n
pub record IsRight (library : List Stored) (n : ℕ) (p : Placed (Option Param)) : Type 0 where
  pub procedure : p.procedure < length library
  pub count : option_map_or (λ (s : Stored). length s.ins + 1) (slice_get library p.procedure) 0 ≡ length p.cells
  pub cells : All (λ cell. cell < n) p.cells

-- each instance so far is right
abbrev pub AreRight : List Stored → Walk → Type 0
AreRight library e = All (IsRight library (length e.kinds)) e.placed

right_still : (library : List Stored) (n m : ℕ) → n ≤ m → (p : Placed (Option Param)) → IsRight library n p
    → IsRight library m p
right_still library n m l p h = record {
  procedure = h.procedure;
  count = h.count;
  cells = All-weaker (λ cell. cell < n) (λ cell. cell < m) (λ cell c. omega (arith, c, l)) p.cells h.cells;
}

longer_length : (e e' : Walk) (n : ℕ) → IsLonger e.kinds e'.kinds n → length e.kinds ≤ length e'.kinds
longer_length e e' n h = omega (arith, ap length h.is, length-append e.kinds h.more)

cells_still : (n m : ℕ) → n ≤ m → (cells : List ℕ) → All (λ cell. cell < n) cells → All (λ cell. cell < m) cells
cells_still n m l cells h = All-weaker (λ cell. cell < n) (λ cell. cell < m) (λ cell c. omega (arith, c, l)) cells h

pub chosen_within : (n : ℕ) (cells places : List ℕ) → All (λ cell. cell < n) cells
    → All (λ place. place < length cells) places → All (λ cell. cell < n) (cells_at cells places)
chosen_within n cells places h k =
    All-map (λ cell. cell < n) (cell_at cells) places
    (All-weaker (λ place. place < length cells) (λ place. cell_at cells place < n) (λ place l. h place 0 l) places
    k)

one_more : (library : List Stored) (e : Walk) (kind : _) → AreRight library e → AreRight library (with_fresh e kind)
one_more library e kind h =
    All-weaker (IsRight library (length e.kinds)) (IsRight library (length (e.kinds ++ kind ∷ [])))
    (right_still library (length e.kinds) (length (e.kinds ++ kind ∷ []))
    (omega (arith, length-append e.kinds (kind ∷ [])))) e.placed h

fresh_within : (e : Walk) (kind : _) (cells : List ℕ) → All (λ cell. cell < length e.kinds) cells
    → All (λ cell. cell < length (e.kinds ++ kind ∷ [])) (cells ++ length e.kinds ∷ [])
fresh_within e kind cells h =
    let longer = length-append e.kinds (kind ∷ []) in
    let n = length (e.kinds ++ kind ∷ []) in
    All-push (λ cell. cell < n) cells (length e.kinds) (cells_still (length e.kinds) n (omega (arith, longer)) cells h)
    (omega (arith, longer))

-- each of these definitions uses procedures of the library alone, on as many cells as they want
abbrev pub AreOver : List Stored → List Definition → Type 0
AreOver library latest = (n : ℕ) (d : Definition) → n < length latest
    → All (IsUseOver library) (latest_at latest n d).steps

over_tail : (library : List Stored) (d : Definition) (earlier : List Definition) → AreOver library (d ∷ earlier)
    → AreOver library earlier
over_tail library d earlier h n x l =
    rw (ne_eqb n (length earlier) (λ e. omega (arith, e, l))) at (h n x (omega (arith, l)))

module _ (library : List Stored) (words : Vocabulary) (definitions : List Definition) where
  -- how many cells a definition wants
  abbrev wants : ℕ → ℕ
  wants m = option_map_or (λ (d : Definition). d.params) (slice_get definitions m) 0

  -- a use of a definition below n, on as many cells as it wants, which are there, keeps it so
  abbrev pub Keeps : Adds → ℕ → Type 0
  Keeps f n = (m : ℕ) → m < n → (cells : List ℕ)
      → option_map_or (λ (d : Definition). d.params) (slice_get definitions m) 0 ≡ length cells
      → (given : Option Param) (e : Walk) → All (λ cell. cell < length e.kinds) cells → AreRight library e
      → AreRight library (f m cells given e)

  use_keeps : (f : Adds) (n : ℕ) → Keeps f n → (used : _) (places : List ℕ) (passing : _)
      → IsUseBelow definitions n (Use used places passing) → IsUseOver library (Use used places passing)
      → (cells : List ℕ) → length cells ≡ length places →
      (given : Option Param) (e : Walk) → All (λ cell. cell < length e.kinds) cells → AreRight library e
      → AreRight library (use_expanded f used cells given e)
  use_keeps f n h (uses.Procedure k) places passing below over cells same given e within right =
      All-push (IsRight library (length e.kinds)) e.placed (record { procedure = k; given = given; cells = cells })
      right (record { procedure = over.0; count = over.1 ∙ sym same; cells = within })
  use_keeps f n h (uses.Definition m) places passing below over cells same given e within right =
      h m below.0 cells (below.1 ∙ sym same) given e within right

  steps_keep : (f : Adds) (count : ℕ → ℕ) (n : ℕ) → Makes f count → Keeps f n → (steps : List NumberedStep)
      → All (IsUseBelow definitions n) steps → All (IsUseOver library) steps → (cells : List ℕ)
      → AreInScope (length cells) steps →
      (given : Option Param) (e : Walk) → All (λ cell. cell < length e.kinds) cells → AreRight library e
      → AreRight library (steps_expanded (param_passed words) f given cells steps e)
  steps_keep f count n makes h [] below over cells scope given e within right = right
  steps_keep f count n makes h (Local kind ∷ steps) below over cells scope given e within right =
      steps_keep f count n makes h steps (All-tail (IsUseBelow definitions n) (Local kind) steps below)
      (All-tail (IsUseOver library) (Local kind) steps over) (cells ++ length e.kinds ∷ [])
      (rw (length-append cells (length e.kinds ∷ [])) scope.1) given (with_fresh e kind)
      (fresh_within e kind cells within) (one_more library e kind right)
  steps_keep f count n makes h (Like place ∷ steps) below over cells scope given e within right =
      let kind = kind_at e.kinds (cell_at cells place) in
      steps_keep f count n makes h steps (All-tail (IsUseBelow definitions n) (Like place) steps below)
      (All-tail (IsUseOver library) (Like place) steps over) (cells ++ length e.kinds ∷ [])
      (rw (length-append cells (length e.kinds ∷ [])) scope.1) given (with_fresh e kind)
      (fresh_within e kind cells within) (one_more library e kind right)
  steps_keep f count n makes h (Use used places passing ∷ steps) below over cells scope given e within right =
      let step = Use used places passing in
      let chosen = cells_at cells places in
      let e' = use_expanded f used chosen (param_passed words given passing) e in
      let longer = longer_length e e' _ (use_makes f count makes used chosen (param_passed words given passing) e) in
      steps_keep f count n makes h steps (All-tail (IsUseBelow definitions n) step steps below)
      (All-tail (IsUseOver library) step steps over) cells (rw add-zero at (scope.1)) given e'
      (cells_still (length e.kinds) (length e'.kinds) longer cells within)
      (use_keeps f n h used places passing (All-head (IsUseBelow definitions n) step steps below)
      (All-head (IsUseOver library) step steps over) chosen (length-map places (cell_at cells))
      (param_passed words given passing) e (chosen_within (length e.kinds) cells places within scope.0) right)

  pub definitions_keep : (latest : List Definition) → AreWellMade definitions latest → AreOver library latest
      → Keeps (definition_expanded (param_passed words) latest) (length latest)
  definitions_keep [] h over m l cells count given e within right = right
  definitions_keep (d ∷ earlier) h over m l cells count given e within right =
      let later = definitions_keep earlier (well_made_tail definitions d earlier h) (over_tail library d earlier over)
      in
      elim (cases_eq m (length earlier)) [
        | inl same ↦
            (let is_it = eq-eqb m (length earlier) same in
            let here = h m d l in
            let params : d.params ≡ length cells = sym (rw is_it at here.params) ∙ count in
            let below : All (IsUseBelow definitions (length earlier)) d.steps = rw same at (rw is_it at here.below) in
            rw is_it (steps_keep (definition_expanded (param_passed words) earlier) (total_in fresh_of earlier)
            (length earlier) (definitions_make words earlier) later d.steps below (rw is_it at (over m d l)) cells
            (rw params at (rw is_it at here.scope)) given e within right))
        | inr other ↦
            rw (ne_eqb m (length earlier) other) (later m (omega (arith, l, other)) cells count given e within right)
      ]
