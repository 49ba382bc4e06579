use Rattle.std.proofs.Common.{sym, ap, cond, get_or, length, ◌+◌, ◌-◌, arith}
use Rattle.std.proofs.lemmas.Bool.{lt-ltb, le-ltb}
use Rattle.prop_workbench.proofs.posting.cell_at.Goals as goal

pub returns-then-place-cells : goal.returns-then-place-cells
returns-then-place-cells c =
    sym (ap (λ b. cond b (get_or c.args.cells.now c.args.place 0)
    (c.args.next + (c.args.place - length c.args.cells.now)))
    (lt-ltb c.args.place (length c.args.cells.now) c.if-place-cells.true))

pub returns-else-place-cells : goal.returns-else-place-cells
returns-else-place-cells c =
    sym (ap (λ b. cond b (get_or c.args.cells.now c.args.place 0)
    (c.args.next + (c.args.place - length c.args.cells.now)))
    (le-ltb c.args.place (length c.args.cells.now) (let past = c.if-place-cells.false in omega (arith, past))))
