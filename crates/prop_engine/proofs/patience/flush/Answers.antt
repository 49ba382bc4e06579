use Rattle.std.proofs.Common.{◌-◌, ◌+◌, ◌≡◌, arith}
use Rattle.std.specs.Prelude.{Ok, Err}
use Rattle.prop_engine.specs.Calls.{FlushCall}
use Rattle.prop_engine.specs.declared.failure.Failure.TheVariants.{Other}
use Rattle.prop_engine.proofs.Leading.{tried, tried_again, not_interrupted, not_failed, same_tries}
use Rattle.prop_engine.proofs.patience.flush.Goals as goal

pub returns-in-Err-Other : goal.returns-in-Err-Other
returns-in-Err-Other g c =
    let so_far = c.loop-try.invariant.so_far in
    record {
      calls = tried g.D.Devices.calls FlushCall (Err Other) _ _ _ (c.loop-try._try - 1)
          (omega (arith, c.loop-try.invariant.begun, c.loop-try-test.true)) (λ e. absurd (not_interrupted e)) so_far
          (rw c.in-Err-Other.field-0-is at c.in-Err-Other.ensures.call);
    }

pub returns-in-Ok : goal.returns-in-Ok
returns-in-Ok g c =
    let so_far = c.loop-try.invariant.so_far in
    record {
      calls = tried g.D.Devices.calls FlushCall (Ok (tt)) _ _ _ (c.loop-try._try - 1)
          (omega (arith, c.loop-try.invariant.begun, c.loop-try-test.true)) (λ e. absurd (not_failed _ e)) so_far
          (c.in-Ok.ensures.call);
    }

pub loop-try-preserved : goal.loop-try-preserved
loop-try-preserved g c = record {
  so_far = same_tries g.D.Devices.calls _ _ _ _ c.loop-try.invariant.begun
      (tried_again g.D.Devices.calls _ _ _ (c.loop-try._try - 1) _ c.loop-try.invariant.so_far
      (rw c.in-Err-Interrupted.field-0-is at c.in-Err-Interrupted.ensures.call));
  begun = omega arith;
}

pub returns : goal.returns
returns g c =
    let so_far = c.loop-try.invariant.so_far in
    let last : c.loop-try._try - 1 + 1 ≡ 65_536 =
    omega (arith, c.loop-try.invariant.begun, c.loop-try-test.false, c.loop-try.auto._try-end) in
    record {
      calls = tried g.D.Devices.calls FlushCall c.flush-2.result _ _ _ (c.loop-try._try - 1) (omega (arith, last)) (λ
          e. last) so_far
          (c.flush-2.ensures.call);
    }
