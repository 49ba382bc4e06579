use Rattle.std.proofs.Common.{◌≡◌, false}
use Rattle.prop_lattice.specs.Order.{is_contradiction}
use Rattle.prop_cells.proofs.Refused.{no_contradiction, stated_test}
use Rattle.prop_demands.proofs.fitting.may_be_stated.Goals as goal
use Rattle.prop_demands.proofs.fitting.may_be_stated.Goals.{in-Contradiction, in_default}

pub returns-then-not-matches : goal.returns-then-not-matches
returns-then-not-matches c =
    let free : is_contradiction c.args.info ≡ false =
    elim c.match-matches.branch [
      | in-Contradiction w ↦ (let clash = w.matches-is in let clear = c.if-not-matches.true in cc)
      | in_default w ↦ no_contradiction c.args.info w.in_default.not-Contradiction
    ]
    in stated_test c.args.kind.kind c.args.kind.size c.min.result c.args.info c.is_of.result c.min.ensures free
    c.is_of.ensures
