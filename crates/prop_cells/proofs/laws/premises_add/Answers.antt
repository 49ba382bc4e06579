use Rattle.prop_lattice.specs.declared.info.Info.TheVariants.{Contradiction}
use Rattle.prop_lattice.specs.Order.{Below}
use Rattle.prop_lattice.specs.laws.OrderLaws.{info_laws}
use Rattle.prop_cells.proofs.laws.premises_add.Goals as goal

-- src/laws.rt:16:1
pub returns-clause-clash : goal.returns-clause-clash
returns-clause-clash c = λ problem s cell e some.
    let above : Below Contradiction (some.solution cell) = e.below some.solution some.solves in
    some.free cell (info_laws.antisymmetric (some.solution cell) Contradiction
    (info_laws.to_top (some.solution cell)) above)
