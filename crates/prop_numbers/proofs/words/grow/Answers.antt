use Rattle.std.proofs.Common.{arith, Result, Ok, Err, OnOk}
use Rattle.prop_numbers.proofs.WordLemmas.{has_bit-grown}
use Rattle.prop_numbers.proofs.words.grow.Goals as goal

on_ok : {T E P Q : Type 0} (r : Result T E) → (P → Q) → OnOk r P → OnOk r Q
on_ok (Ok x) f h = f h
on_ok (Err e) f h = tt

pub returns-then-len-count-clause-bits : goal.returns-then-len-count-clause-bits
returns-then-len-count-clause-bits c =
    on_ok c.resize.result (λ h. has_bit-grown c.args.words.now.items c.resize.new.self.items c.args.count (omega
    (arith, c.if-len-count.true, c.len.ensures.value)) h) c.resize.ensures.ok
