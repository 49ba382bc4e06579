-- Points that satisfy a state: a single value for each cell, with which all that was told holds.
use Rattle.std.specs.Prelude.{◌≡◌, ℕ, List}
use Rattle.prop_lattice.specs.Points.{Point}
use Rattle.prop_numbers.specs.Sets.{Members, set_of}
use Rattle.prop_premises.specs.ChoiceLists.{IsChoiceList, worldview}
use Rattle.prop_procedures.specs.declared.shape.Param.{Param}
use Rattle.prop_procedures.specs.Stored.{Stored}
use Rattle.prop_cells.specs.Points.{AreSoundBy, Attached, ArePoints}
use Rattle.prop_workbench.specs.Machine.{State, choices_in}

-- the cells of a state, what is stated of them and what is attached to them
abbrev pub attached_in : State → Attached
attached_in s = record { kinds = s.kinds; statements = s.statements; instances = s.instances }

-- The procedure of this number, with this parameter, loses none of these points: wherever its
-- arguments hold the points of the inputs, its answer holds the point of the output.
abbrev pub AreHeld : List Stored → ℕ → Param → List Point → Point → Type 0
AreHeld library n param points point =
    AreSoundBy library (λ m q ps p. (m ≡ n) × (q ≡ param) × (ps ≡ points) × (p ≡ point))

-- A point for each cell satisfies the state. It is of its cell's kind, it lies in all that believed
-- statements say of the cell, and no instance loses the points of its cells.
abbrev pub Satisfy : List Stored → State → Members → (ℕ → Point) → Type 0
Satisfy library s believed points = ArePoints (AreHeld library) (attached_in s) believed points

-- with whichever choice list, no points satisfy what these premises and the list's sides say
abbrev pub NoneSatisfy : List Stored → State → List ℕ → Type 0
NoneSatisfy library s ps = (list : List ℕ) → IsChoiceList (choices_in s) list → (points : ℕ → Point)
    → Satisfy library s (worldview (set_of ps) (choices_in s) list) points → ⊥

-- Where the points at each instance belong together by this relation, and each point is of its
-- cell's kind and lies in all that believed statements say of the cell, the points satisfy the
-- state.
abbrev pub RelatedSatisfy : List Stored → (ℕ → Param → List Point → Point → Type 0) → Type 0
RelatedSatisfy library related =
    (s : State) (believed : Members) (points : ℕ → Point)
    → ArePoints related (attached_in s) believed points → Satisfy library s believed points
