-- What a place that weighs more leaves of the order of the others.
use Rattle.std.proofs.Common.{◌≡◌, ◌≢◌, ◌∙◌, ℕ, ◌+◌, ◌-◌, ◌^◌, ◌<◌, ◌≤◌, List, map, length, min, arith, ap, inl, inr}
use Rattle.std.proofs.Common.{cond, get_or, nat_lt, get_or-set_other, get_or-set_same, true, false}
use Rattle.std.proofs.Math.ListN.{set, get_or-map}
use Rattle.prop_learned.specs.Weighing.{Weighed, weight_of, lowered, all_lowered, raised, raised_at, added, added_at}
use Rattle.prop_learned.proofs.SlotLemmas.{same_or_other}

no_less : (x m most : ℕ) → x ≤ most → x ≤ min (x + m) most
no_less x m most h = omega arith

order_set : (each : List ℕ) (p r a b : ℕ) → p < length each → get_or each p 1 ≤ r → a ≢ p
    → get_or each a 1 ≤ get_or each b 1 → get_or (set each p r) a 1 ≤ get_or (set each p r) b 1
order_set each p r a b l le n h =
    let left = get_or-set_other each p a r 1 n in
    elim (same_or_other b p) [
      | inl e ↦
          (let here : get_or (set each p r) b 1 ≡ r = ap (λ j. get_or (set each p r) j 1) e
          ∙ get_or-set_same each p r 1 l in
          let was : get_or each b 1 ≡ get_or each p 1 = ap (λ j. get_or each j 1) e in
          omega (arith, left, here, was))
      | inr m ↦ (let right = get_or-set_other each p b r 1 m in omega (arith, left, right))
    ]

lowered_order : (x y : ℕ) → x ≤ y → lowered x ≤ lowered y
lowered_order x y h = omega arith

order_lowered : (each : List ℕ) (a b : ℕ) → get_or each a 1 ≤ get_or each b 1
    → get_or (map lowered each) a 1 ≤ get_or (map lowered each) b 1
order_lowered each a b h =
    let left : get_or (map lowered each) a 1 ≡ lowered (get_or each a 1) = get_or-map lowered each a 1 in
    let right : get_or (map lowered each) b 1 ≡ lowered (get_or each b 1) = get_or-map lowered each b 1 in
    let le = lowered_order (get_or each a 1) (get_or each b 1) h in
    omega (arith, left, right, le)

order_added_at : (w : Weighed) (p a b : ℕ) → p < length w.each → weight_of w p ≤ 2 ^ 64 - 1 → a ≢ p
    → weight_of w a ≤ weight_of w b → weight_of (added_at w p) a ≤ weight_of (added_at w p) b
order_added_at w p a b l fits n h =
    let r : ℕ = raised (weight_of w p) w.bump in
    let le = no_less (weight_of w p) w.bump (2 ^ 64 - 1) fits in
    let o = order_set w.each p r a b l le n h in
    elim (nat_lt (2 ^ 50) r) as (λ t. weight_of (cond t (all_lowered (raised_at w p)) (raised_at w p)) a
    ≤ weight_of (cond t (all_lowered (raised_at w p)) (raised_at w p)) b) [
      | true ↦ order_lowered (set w.each p r) a b o
      | false ↦ o
    ]

-- what weighed no more than another place still does, but for the place that weighs more
pub order_added : (w : Weighed) (p a b : ℕ) → p < length w.each → weight_of w p ≤ 2 ^ 64 - 1 → a ≢ p
    → weight_of w a ≤ weight_of w b → weight_of (added w p) a ≤ weight_of (added w p) b
order_added w p a b l fits n h =
    let o = order_added_at w p a b l fits n h in
    elim (nat_lt p (length w.each)) as (λ t. weight_of (cond t (added_at w p) w) a
    ≤ weight_of (cond t (added_at w p) w) b) [
      | true ↦ o
      | false ↦ h
    ]
