use Rattle.std.proofs.Common.{◌∙◌, arith, sym}
use Rattle.std.proofs.lemmas.List.{take_rest}
use Rattle.prop_requiring.proofs.DefineLemmas.{no_equals_all, no_equals_next, split_at}
use Rattle.prop_requiring.proofs.asking.at_equals.Goals as goal

pub loop-k-preserved : goal.loop-k-preserved
loop-k-preserved c =
    no_equals_next c.args.bytes.now c.loop-k.k (omega arith) c.loop-k.invariant
    (sym c.is_equals.ensures ∙ c.if-is_equals.false)

pub returns-then-is_equals : goal.returns-then-is_equals
returns-then-is_equals c =
    rw take_rest (
      c.loop-k.invariant,
      split_at c.args.bytes.now c.loop-k.k (omega arith)
          (sym c.is_equals.ensures ∙ c.if-is_equals.true),
    )

pub returns : goal.returns
returns c = no_equals_all c.args.bytes.now c.loop-k.k (omega arith) c.loop-k.invariant
