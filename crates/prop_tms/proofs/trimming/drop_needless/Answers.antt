use Rattle.std.proofs.Common.{◌≡◌, ◌≢◌, ◌⊎◌, ◌∙◌, ◌<◌, ◌≤◌, ℕ, List, IsTrue, false, length, set, get_or, refl, sym, ap}
use Rattle.std.proofs.Common.{inl, inr, arith, subst}
use Rattle.std.specs.List.{remove}
use Rattle.std.proofs.lemmas.List.{get_or-set_same, get_or_default, length-set}
use Rattle.prop_numbers.specs.Sets.{set_of, is_at_most_one_of}
use Rattle.prop_tms.specs.Beliefs.{belief_of}
use Rattle.prop_tms.specs.Values.{entries_of}
use Rattle.prop_tms.specs.inner.Values.{place_of}
use Rattle.prop_tms.specs.declared.values.Valued.{Valued}
use Rattle.prop_tms.proofs.TrimLemmas.{remove_length, trimmed_all, trimmed_at, trimmed_more, trimmed_next, trimmed_none}
use Rattle.prop_tms.proofs.ValueLemmas.{entry_at, place_end, place_next, place_set, place_within, removed}
use Rattle.prop_tms.proofs.ValueLemmas.{values_of-set}
use Rattle.prop_tms.proofs.trimming.drop_needless.Goals as goal
use Rattle.prop_tms.proofs.trimming.drop_needless.Goals.{then-is_at_most_one_of, else-is_at_most_one_of}

-- a value's place, by its two readings
within : {V : Type 0} (xs : List (Valued V)) (i place n : ℕ) (y x : Valued V) → i < length xs → x ≡ get_or xs i x
    → place < n → n ≡ length (get_or xs i y).supports.items → place < length x.supports.items
within xs i place n y x l is m len =
    let same = ap (λ (z : Valued _). length z.supports.items) (get_or_default xs i y x l ∙ sym is) in
    omega (arith, m, len, same)

shorter : (ss rest : List (List ℕ)) (place : ℕ) → place < length ss → rest ≡ remove ss place → place ≤ length rest
shorter ss rest place l is = let n = remove_length ss place l in let m = ap length is in omega (arith, l, n, m)

pub loop-at-init : goal.loop-at-init
loop-at-init g c = record {
  at = omega arith;
  value = c.belief-value.ensures;
  trimmed = trimmed_none g.met.V.Partial.laws (set_of c.args.told.now) (set_of c.args.worldview.now) c.args.values.now
      c.requires;
}

pub loop-place-preserved-then-is_needed : goal.loop-place-preserved-then-is_needed
loop-place-preserved-then-is_needed g c =
    let laws = g.met.V.Partial.laws in
    let w = set_of c.args.worldview.now in
    let told = set_of c.args.told.now in
    let xs = c.loop-place.values in
    let i = c.loop-at.at in
    let place = c.loop-place.place in
    let x = c.index-values-at-in-loop-place.result in
    let is = c.index-values-at-in-loop-place.is in
    let s = c.index-deref-place.result in
    let kept = c.loop-place.invariant in
    let l : place < length x.supports.items =
    within xs i place c.len.result c.index-values-at.result x kept.at is c.loop-place-test.true c.len.ensures.value
    in
    let at = entry_at xs i place x s kept.at is l (rw (c.deref.ensures, ← is) at c.index-deref-place.is) in
    let last : IsTrue (is_at_most_one_of told s)
    ⊎ (belief_of g.V.Partial.bottom g.V.Partial.join w (remove (entries_of xs) (place_of xs i place)) ≢ belief_of
    g.V.Partial.bottom g.V.Partial.join w (entries_of xs)) =
    elim c.if-is_at_most_one_of.branch [
      | then-is_at_most_one_of t ↦ inl (sym c.is_at_most_one_of.ensures ∙ t.if-is_at_most_one_of.true)
      | else-is_at_most_one_of t ↦ inr (t.is_needed.ensures.needed (sym t.value-is ∙ c.if-is_needed.true))
    ] in
    record {
      at = kept.at;
      place = λ d. (let same = ap (λ (y : Valued _). length y.supports.items) (is ∙ get_or_default xs i x d kept.at)
          in omega (arith, l, same));
      value = kept.value;
      trimmed = trimmed_next laws told w c.args.values.now xs i place _ kept.trimmed at last;
    }

pub loop-place-smaller-then-is_needed : goal.loop-place-smaller-then-is_needed
loop-place-smaller-then-is_needed g c =
    let xs = c.loop-place.values in
    let x = c.index-values-at-in-loop-place.result in
    let is = c.index-values-at-in-loop-place.is in
    let l = within xs c.loop-at.at c.loop-place.place c.len.result c.index-values-at.result x c.loop-place.invariant.at
    is c.loop-place-test.true c.len.ensures.value in
    let m = place_within xs c.loop-at.at c.loop-place.place x c.loop-place.invariant.at is l in
    omega (arith, m)

pub loop-place-smaller : goal.loop-place-smaller
loop-place-smaller g c =
    let xs = c.loop-place.values in
    let i = c.loop-at.at in
    let place = c.loop-place.place in
    let x = c.index-values-at-else-is_needed.result in
    let is = c.index-values-at-else-is_needed.is in
    let at = c.loop-place.invariant.at in
    let y : Valued _ = record { value = (get_or xs i x).value; supports = c.remove.new.self } in
    let l = within xs i place c.len.result c.index-values-at.result x at is c.loop-place-test.true c.len.ensures.value
    in
    let m = place_within xs i place x at is l in
    let less = ap length (removed xs i place x y at is l (sym (ap (λ (z : Valued _). z.value) is))
    (rw (← is) at c.remove.ensures.items)) in
    let one = remove_length (entries_of xs) (place_of xs i place) m in
    let here = place_set xs i place y in
    omega (arith, m, less, one, here)

pub loop-place-preserved : goal.loop-place-preserved
loop-place-preserved g c =
    let laws = g.met.V.Partial.laws in
    let w = set_of c.args.worldview.now in
    let told = set_of c.args.told.now in
    let xs = c.loop-place.values in
    let i = c.loop-at.at in
    let place = c.loop-place.place in
    let x = c.index-values-at-else-is_needed.result in
    let is = c.index-values-at-else-is_needed.is in
    let kept = c.loop-place.invariant in
    let y : Valued _ = record { value = (get_or xs i x).value; supports = c.remove.new.self } in
    let s = c.index-deref-place.result in
    let l = within xs i place c.len.result c.index-values-at.result x kept.at is c.loop-place-test.true
    c.len.ensures.value in
    let read : c.index-values-at-in-loop-place.result ≡ x = c.index-values-at-in-loop-place.is
    ∙ get_or_default xs i c.index-values-at-in-loop-place.result x kept.at ∙ sym is in
    let at = entry_at xs i place x s kept.at is l
    (subst (λ (z : Valued _). s ≡ get_or z.supports.items place s) read
    (rw (c.deref.ensures, ← c.index-values-at-in-loop-place.is) at c.index-deref-place.is)) in
    let less = removed xs i place x y kept.at is l (sym (ap (λ (z : Valued _). z.value) is))
    (rw (← is) at c.remove.ensures.items) in
    let both : (is_at_most_one_of told s ≡ false)
    × (belief_of g.V.Partial.bottom g.V.Partial.join w (remove (entries_of xs) (place_of xs i place)) ≡ belief_of
    g.V.Partial.bottom g.V.Partial.join w (entries_of xs)) =
    elim c.if-is_at_most_one_of.branch [
      | then-is_at_most_one_of t ↦ cc (t.value-is, c.if-is_needed.false)
      | else-is_at_most_one_of t ↦ (
        sym c.is_at_most_one_of.ensures ∙ t.if-is_at_most_one_of.false,
        t.is_needed.ensures.needless (sym t.value-is ∙ c.if-is_needed.false),
      )
    ] in
    let n = length-set xs i y in
    record {
      at = omega (arith, kept.at, n);
      place = λ d. subst (λ (z : Valued _). place ≤ length z.supports.items) (sym (get_or-set_same xs i y d kept.at))
          (shorter x.supports.items y.supports.items place l (rw (← is) at c.remove.ensures.items));
      value = kept.value ∙ sym both.1 ∙ sym (ap (belief_of g.V.Partial.bottom g.V.Partial.join w) less);
      trimmed = trimmed_more laws told w c.args.values.now xs (set xs i y) i place _ less
          (values_of-set xs i y x kept.at refl) (place_set xs i place y) (place_within xs i place x kept.at is l)
          at both.0 both.1 kept.trimmed;
    }

pub loop-at-preserved : goal.loop-at-preserved
loop-at-preserved g c =
    let xs = c.loop-place.values in
    let i = c.loop-at.at in
    let y = c.index-values-at.result in
    let kept = c.loop-place.invariant in
    let same = ap (λ (z : Valued _). length z.supports.items) c.index-values-at.is in
    let le = kept.place y in
    let end : c.loop-place.place ≡ length y.supports.items =
    omega (arith, le, same, c.loop-place-test.false, c.len.ensures) in
    record {
      at = omega (arith, kept.at);
      value = kept.value;
      trimmed = trimmed_at g.met.V.Partial.laws (set_of c.args.told.now) (set_of c.args.worldview.now) c.args.values.now
          xs _ _ (place_next xs i c.loop-place.place y kept.at c.index-values-at.is end) kept.trimmed;
    }

pub returns-clause-needed : goal.returns-clause-needed
returns-clause-needed g c =
    let xs = c.loop-at.values in
    let le : length xs ≤ c.loop-at.at = omega (arith, c.loop-at-test.false) in
    trimmed_all g.met.V.Partial.laws (set_of c.args.told.now) (set_of c.args.worldview.now) c.args.values.now xs
    (place_of xs c.loop-at.at 0) (place_end xs c.loop-at.at le) c.loop-at.invariant.trimmed
