use Rattle.std.proofs.Common.{◌≡◌, ◌∙◌, ◌<◌, ◌≤◌, ◌+◌, ◌-◌, ◌/◌, length, take, sym, ap, subst, arith}
use Rattle.std.proofs.Math.Arith.{half_le}
use Rattle.prop_tms.specs.Beliefs.{merge_of_all}
use Rattle.prop_tms.specs.inner.Gains.{gained_of}
use Rattle.prop_tms.specs.declared.gain.Gain.{Gain}
use Rattle.prop_tms.proofs.LeanLemmas.{AreGains-at}
use Rattle.prop_tms.proofs.strongest.enough.Goals as goal

pub loop-low-preserved-then-implies : goal.loop-low-preserved-then-implies
loop-low-preserved-then-implies g c =
    let gains = c.args.gains.now in
    let low = c.loop-low.low in
    let high = c.loop-low.high in
    let kept = c.loop-low.invariant in
    let test = c.loop-low-test.true in
    let half : (high - low) / 2 ≤ high - low - 1 = half_le (omega (arith, test)) in
    let within : low + (high - low) / 2 < length gains = omega (arith, test, half, kept.bound) in
    let at = ap (λ (x : Gain _). x.before) (sym c.index-gains-middle.is) in
    let before = at ∙ AreGains-at g.met.V.Partial.laws gains (low + (high - low) / 2) c.index-gains-middle.result within
    (sym c.index-gains-middle.is) c.requires.gains in
    record {
      order = omega arith;
      bound = omega (arith, within);
      says = rw (c.merge.ensures, before) at (c.implies.ensures.0 c.if-implies.true);
      needed = kept.needed;
    }

pub loop-low-preserved : goal.loop-low-preserved
loop-low-preserved g c =
    let gains = c.args.gains.now in
    let low = c.loop-low.low in
    let high = c.loop-low.high in
    let middle = low + (high - low) / 2 in
    let kept = c.loop-low.invariant in
    let test = c.loop-low-test.true in
    let half : (high - low) / 2 ≤ high - low - 1 = half_le (omega (arith, test)) in
    let within : low + (high - low) / 2 < length gains = omega (arith, test, half, kept.bound) in
    let at = ap (λ (x : Gain _). x.before) (sym c.index-gains-middle.is) in
    let before = at ∙ AreGains-at g.met.V.Partial.laws gains (low + (high - low) / 2) c.index-gains-middle.result within
    (sym c.index-gains-middle.is) c.requires.gains in
    record {
      order = omega (arith, test, half);
      bound = kept.bound;
      says = kept.says;
      needed = λ k is says.
          let same : k ≡ middle = omega (arith, is) in
          let here = subst (λ n. g.V.Partial.below c.args.value
          (g.V.Partial.join (merge_of_all g.V.Partial.bottom g.V.Partial.join (gained_of (take n gains)))
          c.args.other)) same says in
          cc (c.implies.ensures.1 (rw (c.merge.ensures, before) here), c.if-implies.false);
    }
