-- Points that satisfy a network, where the answers of the procedures tell which points belong
-- together.
use Rattle.std.specs.Prelude.{◌≡◌, ℕ, List}
use Rattle.prop_lattice.specs.Points.{Point}
use Rattle.prop_procedures.specs.declared.shape.Param.{Param}
use Rattle.prop_procedures.specs.Stored.{Stored}
use Rattle.prop_cells.specs.Data.{Data}
use Rattle.prop_cells.specs.Points.{AreSoundBy, Attached}

-- the data's cells, what is stated of them, and the instances between them
abbrev pub attached_of : Data → Attached
attached_of d = record { kinds = d.kinds; statements = d.statements; instances = d.instances }

-- The procedure with this number holds these points: whenever its arguments hold the points of the
-- inputs, its answer holds that of the output.
abbrev pub AreHeld : List Stored → ℕ → Param → List Point → Point → Type 0
AreHeld library n param points point =
    AreSoundBy library (λ m q ps p. (m ≡ n) × (q ≡ param) × (ps ≡ points) × (p ≡ point))
