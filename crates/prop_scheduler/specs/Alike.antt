-- What the order determines. Where it can pick one place only, two networks that believe the same
-- and wait for the same go on alike, call by call.
use Rattle.std.specs.Prelude.{◌≡◌, ℕ, List}
use Rattle.prop_procedures.specs.Stored.{Stored}
use Rattle.prop_contents.specs.Contents.{beliefs}
use Rattle.prop_cells.specs.inner.Problems.{Premises}
use Rattle.prop_cells.specs.Data.{Data}
use Rattle.prop_scheduler.specs.Shifts.{Stirs}
use Rattle.prop_scheduler.specs.Turns.{Turns}

-- An order tells which place of the line may be picked and in which state the order goes on. This
-- one is determinate: from each state, and for each length of the line, it can pick one place only
-- and go on in one state only.
abbrev pub IsDeterminate : {O : Type 0} → (O → ℕ → ℕ → O → Type 0) → Type 0
IsDeterminate {O} picks = (order : O) (n p q : ℕ) (x y : O) → picks order n p x → picks order n q y
    → (p ≡ q) × (x ≡ y)

-- Two networks under way are alike: they have the same instances, the premises believe the same of
-- each cell in both, and the lines and the states of the orders are the same.
pub record AreAlike (O : Type 0) (s : Premises) (d e : Data) (line other : List ℕ) (order next : O)
    : Type 0 where
  pub instances : d.instances ≡ e.instances
  pub beliefs_alike : beliefs s d.contents ≡ beliefs s e.contents
  pub lines : line ≡ other
  pub orders : order ≡ next

-- going through the cells (see Shifts) leaves one line only
abbrev pub StirsOnce : Type 0
StirsOnce = (wakes : ℕ → List ℕ) (s t : Premises) (old new : Data) (line : List ℕ) (n : ℕ)
    (a b : List ℕ) → Stirs wakes s t old new line n a → Stirs wakes s t old new line n b → a ≡ b

-- Where the order is determinate, two networks that are alike are alike after as many calls, even
-- if their cells hold different entries.
abbrev pub TurnsAlike : {O : Type 0} → (O → ℕ → ℕ → O → Type 0) → Type 0
TurnsAlike {O} picks = IsDeterminate picks
    → (library : List Stored) (s : Premises) (d e d' e' : Data) (line other line' other' : List ℕ)
    (order next order' next' : O) (n : ℕ) → AreAlike O s d e line other order next
    → Turns picks library s d line order n d' line' order'
    → Turns picks library s e other next n e' other' next'
    → AreAlike O s d' e' line' other' order' next'
