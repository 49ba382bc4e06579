use Rattle.std.proofs.Common.{◌≡◌, ◌∙◌, length, sym, ap, arith}
use Rattle.std.proofs.lemmas.List.FromFn.{length-range_with_len}
use Rattle.prop_compound.proofs.definitions.Definitions.walk.Goals as goal
use Rattle.prop_compound.proofs.definitions.Definitions.walk.Goals.{in-Procedure, in-Definition}

pub add_use-requires-clause-there : goal.add_use-requires-clause-there
add_use-requires-clause-there c =
    let count : length c.in_ok-numbers.numbers.items ≡ length c.args.cells.items = ap length c.in_ok-numbers.ensures
    ∙ length-range_with_len 0 c.len.result ∙ omega (arith, c.len.ensures, c.args.cells.ok.0) in
    elim c.match-used.branch [
      | in-Procedure w ↦ rw (w.used-is, count) c.requires
      | in-Definition w ↦ (let same = w.used-is ∙ sym w.in-Definition.is in rw (same, count) c.requires)
    ]
