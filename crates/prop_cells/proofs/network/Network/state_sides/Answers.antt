use Rattle.std.proofs.Common.{IsTrue}
use Rattle.std.proofs.lemmas.List.Elements.{All-weaker}
use Rattle.prop_lattice.specs.Rank.{IsOf}
use Rattle.prop_procedures.specs.Fitting.{kind_at}
use Rattle.prop_procedures.specs.Kept.{stored_of}
use Rattle.prop_cells.specs.Refusing.{may_be_stated}
use Rattle.prop_cells.specs.Sides.{sides_at}
use Rattle.prop_cells.proofs.Refused.{stated_of_kind}
use Rattle.prop_cells.proofs.SideLemmas.{kept_below, states_kept, states_rest}
use Rattle.prop_cells.proofs.network.Network.state_sides.Goals as goal

pub push_sides-requires-clause-of_kinds : goal.push_sides-requires-clause-of_kinds
push_sides-requires-clause-of_kinds g c =
    let k = kind_at c.args.self.now.cells.kinds c.args.cell in
    All-weaker (λ info. IsTrue (may_be_stated k.kind k.size info)) (IsOf k.kind k.size) (stated_of_kind k.kind k.size)
    c.args.infos.now c.requires.may

pub push_sides-requires-clause-below : goal.push_sides-requires-clause-below
push_sides-requires-clause-below g c =
    kept_below (stored_of g.R.Rule.value_of c.args.self.now.library) c.args.self.now.cells c.args.first c.args.cell
    c.requires.kept c.requires.unnamed

pub returns-clause-kept : goal.returns-clause-kept
returns-clause-kept g c =
    states_kept (stored_of g.R.Rule.value_of c.args.self.now.library) c.args.first c.args.cell c.args.infos.now
    c.args.self.now.cells c.push_sides.new.self c.requires.cell
    (let k = kind_at c.args.self.now.cells.kinds c.args.cell in All-weaker
    (λ info. IsTrue (may_be_stated k.kind k.size info)) (IsOf k.kind k.size) (stated_of_kind k.kind k.size)
    c.args.infos.now c.requires.may) c.requires.kept c.in_ok-push_sides.ensures.ok

pub returns-clause-rest : goal.returns-clause-rest
returns-clause-rest g c = states_rest (sides_at c.args.first c.args.cell c.args.infos.now) c.args.self.now.cells
    c.push_sides.new.self c.in_ok-push_sides.ensures.ok
