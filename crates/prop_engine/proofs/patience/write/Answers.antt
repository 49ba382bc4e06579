use Rattle.std.proofs.Common.{◌-◌, ◌+◌, ◌≡◌, arith}
use Rattle.std.specs.Prelude.{Ok, Err}
use Rattle.prop_engine.specs.Calls.{WriteCall}
use Rattle.prop_engine.specs.declared.failure.Failure.TheVariants.{Other}
use Rattle.prop_engine.proofs.Leading.{tried, tried_again, not_interrupted, not_failed, same_tries}
use Rattle.prop_engine.proofs.patience.write.Goals as goal

pub returns-in-Err-Other-clause-calls : goal.returns-in-Err-Other-clause-calls
returns-in-Err-Other-clause-calls g c =
    let so_far = c.loop-try.invariant.so_far in
    tried g.D.Devices.calls (WriteCall c.args.bytes.now) (Err Other) _ _ _ (c.loop-try._try - 1)
    (omega (arith, c.loop-try.invariant.begun, c.loop-try-test.true)) (λ e. absurd (not_interrupted e)) so_far
    (rw c.in-Err-Other.field-0-is at c.in-Err-Other.ensures.call)

pub returns-in-Ok-clause-calls : goal.returns-in-Ok-clause-calls
returns-in-Ok-clause-calls g c =
    let so_far = c.loop-try.invariant.so_far in
    tried g.D.Devices.calls (WriteCall c.args.bytes.now) (Ok (c.in-Ok.count)) _ _ _ (c.loop-try._try - 1)
    (omega (arith, c.loop-try.invariant.begun, c.loop-try-test.true)) (λ e. absurd (not_failed _ e)) so_far
    (c.in-Ok.ensures.call)

pub loop-try-preserved : goal.loop-try-preserved
loop-try-preserved g c = record {
  so_far = same_tries g.D.Devices.calls _ _ _ _ c.loop-try.invariant.begun
      (tried_again g.D.Devices.calls _ _ _ (c.loop-try._try - 1) _ c.loop-try.invariant.so_far
      (rw c.in-Err-Interrupted.field-0-is at c.in-Err-Interrupted.ensures.call));
  begun = omega arith;
}

pub returns-clause-calls : goal.returns-clause-calls
returns-clause-calls g c =
    let so_far = c.loop-try.invariant.so_far in
    let last : c.loop-try._try - 1 + 1 ≡ 65_536 =
    omega (arith, c.loop-try.invariant.begun, c.loop-try-test.false, c.loop-try.auto._try-end) in
    tried g.D.Devices.calls (WriteCall c.args.bytes.now) c.write-2.result _ _ _ (c.loop-try._try - 1) (omega (
      arith,
      last,
    )) (λ e. last) so_far
    (c.write-2.ensures.call)
