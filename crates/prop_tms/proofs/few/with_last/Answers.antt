use Rattle.std.proofs.Common.{◌∷◌, ◌++◌, [], ap, length, arith}
use Rattle.std.proofs.lemmas.List.Elements.{Contains-push, Contains-append_left}
use Rattle.prop_numbers.specs.Sets.{set_of}
use Rattle.prop_tms.specs.Beliefs.{merge_of_all, believed_of, lighter_of}
use Rattle.prop_tms.specs.inner.Gains.{entry_of}
use Rattle.prop_tms.specs.Values.{entries_of}
use Rattle.prop_tms.proofs.FewLemmas.{short_last}
use Rattle.prop_tms.proofs.LightLemmas.{lean_alone, lean_both, lighter_last, lighter_than_last}
use Rattle.prop_tms.proofs.LeanLemmas.{in_merge}
use Rattle.prop_tms.proofs.MergedLemmas.{first_below, second_below, join_below}
use Rattle.prop_tms.proofs.few.with_last.Goals as goal

pub returns-then-implies-clause-lean : goal.returns-then-implies-clause-lean
returns-then-implies-clause-lean g c =
    let laws = g.met.V.Partial.laws in
    let below = g.V.Partial.below in
    let e = entry_of c.args.last in
    let earlier = entries_of c.args.earlier.now in
    let w = set_of c.args.worldview.now in
    let m = merge_of_all g.V.Partial.bottom g.V.Partial.join (lighter_of (believed_of w (earlier ++ e ∷ [])) e) in
    let freely = c.in-Some.freely in
    let less : below m freely = rw c.in-Some.ensures.freely (lighter_than_last laws w earlier e c.requires.few) in
    let light : ¬ (below c.args.value m) = λ h. cc (
      c.implies-then-implies.ensures.1 (laws.transitive c.args.value m freely h less),
      c.if-implies-2.false,
    ) in
    lean_alone laws w (earlier ++ e ∷ []) e c.args.value c.in_ok-support.support (Contains-push earlier e)
    c.requires.believed c.requires.value (c.implies.ensures.0 c.if-implies.true) light c.in_ok-support.ensures

pub returns-then-implies-clause-short : goal.returns-then-implies-clause-short
returns-then-implies-clause-short g c =
    let n = ap length c.in_ok-support.ensures in
    short_last g.met.V.Partial.laws (set_of c.args.worldview.now) c.args.earlier.now (entry_of c.args.last)
    c.args.value c.in_ok-support.support c.in-Some.ensures.less (λ _. omega (arith, n))

pub returns-in_ok-support-in-Some-partner-clause-lean : goal.returns-in_ok-support-in-Some-partner-clause-lean
returns-in_ok-support-in-Some-partner-clause-lean g c =
    let laws = g.met.V.Partial.laws in
    let below = g.V.Partial.below in
    let join = g.V.Partial.join in
    let w = set_of c.args.worldview.now in
    let v = c.args.value in
    let a = entry_of c.in-Some-partner.entry in
    let b = entry_of c.args.last in
    let earlier = entries_of c.args.earlier.now in
    let of_a = merge_of_all g.V.Partial.bottom join (lighter_of (believed_of w (earlier ++ b ∷ [])) a) in
    let of_b = merge_of_all g.V.Partial.bottom join (lighter_of (believed_of w (earlier ++ b ∷ [])) b) in
    let before = merge_of_all g.V.Partial.bottom join (lighter_of earlier a) in
    let freely = c.in-Some.freely in
    let less_a : below of_a (join b.value before) = lighter_last laws w earlier b a (join b.value before)
    (first_below laws b.value before) (λ x here. laws.transitive x.value before (join b.value before)
    (in_merge laws (lighter_of earlier a) x here) (second_below laws b.value before)) in
    let light_a : ¬ (below v (join b.value of_a)) =
    λ h. c.in-Some-partner.ensures.light (laws.transitive v (join b.value of_a) (join b.value before) h
    (join_below laws b.value of_a (join b.value before) (first_below laws b.value before) less_a)) in
    let less_b : below of_b freely = rw c.in-Some.ensures.freely (lighter_than_last laws w earlier b c.requires.few) in
    let more_b : below (join of_b a.value) (join freely a.value) = join_below laws of_b a.value (join freely a.value)
    (laws.transitive of_b freely (join freely a.value) less_b (first_below laws freely a.value))
    (second_below laws freely a.value) in
    let light_b : ¬ (below v (join of_b a.value)) =
    λ h. absurd (cc (c.if-not-implies.ensures.1 (rw c.merge.ensures (laws.transitive v (join of_b a.value)
    (join freely a.value) h more_b)))) in
    lean_both laws w (earlier ++ b ∷ []) a b v
    c.in_ok-support-in-Some-partner.support (Contains-append_left earlier (b ∷ []) a c.in-Some-partner.ensures.among)
    (Contains-push earlier b) c.in-Some-partner.ensures.believed c.requires.believed c.requires.value
    c.in-Some-partner.ensures.says light_a light_b c.in_ok-support-in-Some-partner.ensures

pub returns-in_ok-support-in-Some-partner-clause-short : goal.returns-in_ok-support-in-Some-partner-clause-short
returns-in_ok-support-in-Some-partner-clause-short g c =
    short_last g.met.V.Partial.laws (set_of c.args.worldview.now) c.args.earlier.now (entry_of c.args.last)
    c.args.value c.in_ok-support-in-Some-partner.support c.in-Some.ensures.less
    (λ h. absurd (cc (c.implies.ensures.1 h, c.if-implies.false)))
