use Rattle.std.proofs.Common.{◌≡◌, ◌∙◌, ℕ, ◌+◌, ◌<◌, ◌≤◌, nat_lt, pos, ◌+ℤ◌, ◌-ℤ◌, ◌≤ℤ◌, ◌<ℤ◌}
use Rattle.std.proofs.Common.{unsigned_abs, take, length, get_or}
use Rattle.std.proofs.Common.{arith, refl, sym, ap, subst, to_z, of_z, w64}
use Rattle.std.proofs.lemmas.Int.{ints}
use Rattle.std.proofs.lemmas.List.{get_or-replicate, length-set, length-take}
use Rattle.prop_many.specs.Differ.{is_crowded, widest, width_of}
use Rattle.prop_many.specs.laws.DifferLaws.{lying_few, lying_none, width_le}
use Rattle.prop_many.proofs.Intervals.{AreGrown, crowded_now, crowded_stays, few_step, grown_at, grown_not, lying_step}
use Rattle.prop_many.proofs.Intervals.{ordered_ends, told_all, told_step, width_more, width_same}
use Rattle.prop_many.proofs.differ.hall_from.Goals as goal
use Rattle.prop_many.proofs.differ.hall_from.Goals.{then-many-lying, else-many-lying, then-is_crowded, else-is_crowded}
use Rattle.prop_many.proofs.differ.hall_from.Goals.{then-first-low_of+then-last-lt64, else-first-low_of}
use Rattle.prop_many.proofs.differ.hall_from.Goals.{else-first-low_of-via-then-first-low_of+else-last-lt64}
use Rattle.prop_many.proofs.differ.hall_from.Goals.{else-first-low_of-via-else-first-low_of}

pub loop-other-init : goal.loop-other-init
loop-other-init c = record {
  long = refl;
  few = λ k l. omega (arith, get_or-replicate {A = ℕ} 64 k 0 0 l);
  told = λ k l. omega (arith, get_or-replicate {A = ℕ} 64 k 0 0 l);
}

pub overflow_cast-counts : goal.overflow_cast-counts
overflow_cast-counts c =
    let ordered = ordered_ends c.other-item.result c.low_of.result c.high_of.result c.low_of.ensures.value
    c.high_of.ensures.value in
    (omega (arith, ints, ordered), omega (arith, ints, ordered))

pub overflow_add-counts : goal.overflow_add-counts
overflow_add-counts c =
    let ordered = ordered_ends c.other-item.result c.low_of.result c.high_of.result c.low_of.ensures.value
    c.high_of.ensures.value in
    let high = to_z w64 (of_z w64 c.high_of.result) in
    let place = unsigned_abs (to_z w64 (of_z w64 (high -ℤ to_z w64 (of_z w64 c.args.first)))) in
    let within : place < 64 = omega (arith, ints, ordered) in
    omega (arith, c.loop-other.invariant.few place within)

pub loop-other-preserved : goal.loop-other-preserved
loop-other-preserved c =
    let a = to_z w64 (of_z w64 c.args.first) in
    let o = c.other-item.result in
    let i = c.loop-other.other-index in
    let olds = c.loop-other.counts in
    let news = c.if-first-low_of.counts in
    let was = c.loop-other.invariant in
    let ordered = ordered_ends o c.low_of.result c.high_of.result c.low_of.ensures.value c.high_of.ensures.value in
    let low = c.low_of.ensures.value in
    let high = c.high_of.ensures.value in
    let grown : (length news ≡ 64) × AreGrown o a olds news =
    elim c.if-first-low_of.branch [
      | then-first-low_of+then-last-lt64 w ↦ (
          let place = unsigned_abs (to_z w64 (of_z w64 (to_z w64 (of_z w64 c.high_of.result) -ℤ a))) in
          let from : a ≤ℤ c.low_of.result = omega (arith, ints, w.if-first-low_of.true) in
          let within : place < 64 = omega (arith, ints, ordered, from, w.if-last-lt64.true) in
          let to : c.high_of.result ≡ a +ℤ pos place = omega (arith, ints, ordered, from) in (
            ap length w.counts-is ∙ length-set olds place (get_or olds place 0 + 1) ∙ was.long,
            grown_at o a place olds news (omega (arith, within, was.long)) (subst (λ x. a ≤ℤ x) low from)
                (sym high ∙ to) w.counts-is,
          ))
      | else-first-low_of w ↦ (
        ap length w.counts-is ∙ was.long,
        grown_not o a olds news w.counts-is (λ p q.
            let from : a ≤ℤ c.low_of.result = subst (λ x. a ≤ℤ x) (sym low) p in
            let to : c.high_of.result <ℤ (a +ℤ pos 64) = subst (λ x. x <ℤ (a +ℤ pos 64)) (sym high) q in
            elim w.else-first-low_of.branch [
              | else-first-low_of-via-then-first-low_of+else-last-lt64 v ↦
                  omega (arith, ints, from, to, v.if-last-lt64.false)
              | else-first-low_of-via-else-first-low_of v ↦ omega (arith, ints, from, v.if-first-low_of.false)
            ]),
      )
    ] in
    record {
      long = grown.0;
      few = λ k l. few_step o a k (get_or olds k 0) (get_or news k 0) i (grown.1 k l) (was.few k l);
      told = λ k l. told_step c.args.others.now a i k (get_or olds k 0) (get_or news k 0) o c.loop-other-test.true
          c.other-item.is (grown.1 k l) (was.told k l);
    }

pub loop-many-init : goal.loop-many-init
loop-many-init c = record {
  lying = sym (lying_none c.args.others.now (to_z w64 (of_z w64 c.args.first)));
  width = refl;
  crowded = refl;
}

pub overflow_add-lying : goal.overflow_add-lying
overflow_add-lying c =
    let a = to_z w64 (of_z w64 c.args.first) in
    let k = c.loop-many.many in
    let counts = c.loop-other.counts in
    let told = λ (i : ℕ) (l : i < 64). told_all c.args.others.now a c.loop-other.other-index i (get_or counts i 0)
    c.loop-other-test.false (c.loop-other.invariant.told i l) in
    let sum = lying_step c.args.others.now a c.loop-other.counts c.min.result k c.loop-many.lying c.min.ensures
    c.loop-many-test.true told c.loop-many.invariant.lying in
    let few = lying_few c.args.others.now a (k + 1) in
    omega (arith, sum, few)

pub loop-many-preserved : goal.loop-many-preserved
loop-many-preserved c =
    let others = c.args.others.now in
    let a = to_z w64 (of_z w64 c.args.first) in
    let k = c.loop-many.many in
    let lying = c.loop-many.lying + get_or (take c.min.result c.loop-other.counts) k 0 in
    let counts = c.loop-other.counts in
    let told = λ (i : ℕ) (l : i < 64). told_all c.args.others.now a c.loop-other.other-index i (get_or counts i 0)
    c.loop-other-test.false (c.loop-other.invariant.told i l) in
    let sum = lying_step others a c.loop-other.counts c.min.result k c.loop-many.lying c.min.ensures
    c.loop-many-test.true told c.loop-many.invariant.lying in
    let was = c.loop-many.invariant in
    let width : c.if-many-lying.width ≡ width_of others a (k + 1) =
    elim c.if-many-lying.branch [
      | then-many-lying w ↦ w.width-is ∙ width_more others a k (omega (arith, sum, w.if-many-lying.true))
      | else-many-lying w ↦
          w.width-is
          ∙ width_same others a k c.loop-many.width (omega (arith, sum, w.if-many-lying.false)) was.width
    ] in
    let crowded : c.if-is_crowded.is_crowded ≡ is_crowded others a (k + 1) =
    elim c.if-is_crowded.branch [
      | then-is_crowded w ↦
          w.is_crowded-is ∙ w.if-is_crowded.true
          ∙ crowded_stays others a k (sym was.crowded ∙ w.if-is_crowded.true)
      | else-is_crowded w ↦
          w.is_crowded-is ∙ ap (nat_lt (k + 1)) sum
          ∙ crowded_now others a k (sym was.crowded ∙ w.if-is_crowded.false)
    ] in
    record { lying = sum; width = width; crowded = crowded }

pub overflow_cast-result : goal.overflow_cast-result
overflow_cast-result c =
    let a = to_z w64 (of_z w64 c.args.first) in
    let long = length-take c.min.result c.loop-other.counts in
    let le = width_le c.args.others.now a c.loop-many.many in
    let is = c.loop-many.invariant.width in
    let most : c.loop-many.width ≤ 64 = omega (arith, long, le, is, c.min.ensures) in
    omega (arith, ints, most)

pub overflow_add-result : goal.overflow_add-result
overflow_add-result c =
    let a = to_z w64 (of_z w64 c.args.first) in
    let long = length-take c.min.result c.loop-other.counts in
    let le = width_le c.args.others.now a c.loop-many.many in
    let is = c.loop-many.invariant.width in
    let most : c.loop-many.width ≤ 64 = omega (arith, long, le, is, c.min.ensures) in
    omega (arith, ints, most)

pub returns-clause-behind : goal.returns-clause-behind
returns-clause-behind c =
    let others = c.args.others.now in
    let a = to_z w64 (of_z w64 c.args.first) in
    let long = length-take c.min.result c.loop-other.counts in
    let le = width_le others a c.loop-many.many in
    let is = c.loop-many.invariant.width in
    let most : c.loop-many.width ≤ 64 = omega (arith, long, le, is, c.min.ensures) in
    let all : c.loop-many.many ≡ widest others = omega (arith, long, c.min.ensures, c.loop-other.invariant.long) in
    let first : a ≡ c.args.first = omega (arith, ints) in
    let behind : to_z w64 (of_z w64 (a +ℤ to_z w64 c.loop-many.width)) ≡ c.args.first +ℤ pos c.loop-many.width =
    omega (arith, ints, most) in
    behind ∙ (λ i. c.args.first +ℤ pos ((is ∙ (λ j. width_of others (first j) (all j))) i))
