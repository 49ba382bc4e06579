use Rattle.std.proofs.Common.{◌-◌, ◌+◌, ◌≡◌, arith, length, take}
use Rattle.std.specs.Prelude.{Ok, Err}
use Rattle.prop_engine.specs.Calls.{ReadCall, given}
use Rattle.prop_engine.specs.declared.failure.Failure.TheVariants.{Other}
use Rattle.prop_engine.proofs.Leading.{tried, tried_again, not_interrupted, not_failed, same_tries}
use Rattle.prop_engine.proofs.patience.read.Goals as goal

pub returns-in-Err-Other-clause-calls : goal.returns-in-Err-Other-clause-calls
returns-in-Err-Other-clause-calls g c =
    let so_far = c.loop-try.invariant.so_far in
    tried g.D.Devices.calls (ReadCall (length c.args.buffer.now)) (Err Other) _ _ _ (c.loop-try._try - 1)
    (omega (arith, c.loop-try.invariant.begun, c.loop-try-test.true)) (λ e. absurd (not_interrupted e)) so_far
    (rw (c.loop-try.invariant.buffer, c.in-Err-Other.field-0-is) at c.in-Err-Other.ensures.call)

pub returns-in-Ok-clause-calls : goal.returns-in-Ok-clause-calls
returns-in-Ok-clause-calls g c =
    let so_far = c.loop-try.invariant.so_far in
    tried g.D.Devices.calls (ReadCall (length c.args.buffer.now)) (Ok (take c.in-Ok.count c.read.new.buffer)) _ _ _
    (c.loop-try._try - 1)
    (omega (arith, c.loop-try.invariant.begun, c.loop-try-test.true)) (λ e. absurd (not_failed _ e)) so_far
    (rw c.loop-try.invariant.buffer at c.in-Ok.ensures.call)

pub loop-try-preserved : goal.loop-try-preserved
loop-try-preserved g c = record {
  so_far = same_tries g.D.Devices.calls _ _ _ _ c.loop-try.invariant.begun
      (tried_again g.D.Devices.calls _ _ _ (c.loop-try._try - 1) _ c.loop-try.invariant.so_far
      (rw (c.loop-try.invariant.buffer, c.in-Err-Interrupted.field-0-is) at c.in-Err-Interrupted.ensures.call));
  buffer = omega (arith, c.loop-try.invariant.buffer, c.read.auto.buffer);
  begun = omega arith;
}

pub returns-clause-calls : goal.returns-clause-calls
returns-clause-calls g c =
    let so_far = c.loop-try.invariant.so_far in
    let last : c.loop-try._try - 1 + 1 ≡ 65_536 =
    omega (arith, c.loop-try.invariant.begun, c.loop-try-test.false, c.loop-try.auto._try-end) in
    tried g.D.Devices.calls (ReadCall (length c.args.buffer.now)) (given c.read-2.result c.read-2.new.buffer) _ _ _
    (c.loop-try._try - 1) (omega (arith, last)) (λ e. last) so_far
    (rw c.loop-try.invariant.buffer at c.read-2.ensures.call)
