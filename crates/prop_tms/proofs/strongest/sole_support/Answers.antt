use Rattle.std.proofs.Common.{refl, sym, subst}
use Rattle.prop_numbers.specs.Sets.{set_of}
use Rattle.prop_tms.specs.Beliefs.{IsLean}
use Rattle.prop_tms.specs.inner.Gains.{entry_of}
use Rattle.prop_tms.specs.Values.{entries_of}
use Rattle.prop_tms.proofs.GainLemmas.{sole_said}
use Rattle.prop_tms.proofs.LightLemmas.{sole_lean}
use Rattle.prop_tms.proofs.strongest.sole_support.Goals as goal

pub returns-in-Some-Some : goal.returns-in-Some-Some
returns-in-Some-Some g c =
    let entries = entries_of c.args.values.now in
    let w = set_of c.args.worldview.now in
    let entry = entry_of c.in-Some-Some.entry in
    let only = rw c.in-Some-Some.field-0-is at c.in-Some-Some.ensures in
    let some : ¬ (g.V.Partial.below c.in-Some-Some.entry.value g.V.Partial.bottom) =
    λ h. cc (c.implies.ensures.1 (rw c.nothing.ensures h), c.if-not-implies.true) in
    subst (λ v. IsLean g.V.Partial.bottom g.V.Partial.join entries w v entry.support)
    (sym (sole_said g.met.V.Partial.laws w entries entry only))
    (sole_lean g.met.V.Partial.laws w entries entry entry.support only
    (sole_said g.met.V.Partial.laws w entries entry only) some refl)
