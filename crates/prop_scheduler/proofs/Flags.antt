-- The flags of the instances, and the line.
use Rattle.std.proofs.Common.{◌≡◌, ◌∙◌, ℕ, suc, ◌+◌, ◌-◌, ◌<◌, ◌≤◌, ◌==◌, Bool, true, false, cond, List, [], ◌∷◌, ◌++◌}
use Rattle.std.proofs.Common.{length, get_or, count_by, refl, sym, ap, arith, Contains, inl, inr, get_or-set_other}
use Rattle.std.proofs.Common.{get_or-set_same}
use Rattle.std.proofs.Math.ListN.{set, replicate, length-set}
use Rattle.std.proofs.lemmas.Bool.{cases_lt, eq-eqb}
use Rattle.std.proofs.lemmas.Bool.Decides.{eqb_tells}
use Rattle.std.proofs.lemmas.List.{length-append, length-replicate, get_or_append_left, get_or-append_right}
use Rattle.std.proofs.lemmas.List.{get_or-replicate, get_or_past, get_or_default}
use Rattle.std.proofs.lemmas.List.Sums.{sum_by-cons, sum_by-set, sum_by_push, sum_by-append}
use Rattle.std.proofs.lemmas.List.Sums.{count_by-le-length, get_or-le-sum_by}
use Rattle.std.proofs.lemmas.List.Folds.{sum_by-replicate}
use Rattle.prop_scheduler.specs.inner.Agendas.{IsFlagged}
use Rattle.prop_scheduler.specs.Agendas.{IsLine, without}
use Rattle.prop_scheduler.proofs.Leaving.{length-without, sum_by-without}

-- how often a number stands in a line
abbrev pub times : List ℕ → ℕ → ℕ
times line j = count_by (λ k. k == j) line

abbrev one_for : Bool → ℕ
one_for b = cond b 1 0

one_if : (b : Bool) → cond b 1 0 ≤ 1
one_if true = omega arith
one_if false = omega arith

set_if_one : (b : Bool) → 1 ≤ cond b 1 0 → b ≡ true
set_if_one true h = refl
set_if_one false h = absurd (omega (arith, h))

-- what stands in the line is flagged
pub listed : (line : List ℕ) (flags : List Bool) (capacity p j : ℕ) → IsFlagged line flags capacity → p < length line
    → j ≡ get_or line p j → get_or flags j false ≡ true
listed line flags capacity p j a l e =
    let here : get_or line p j ≡ j = sym e in
    let one : (get_or line p j == j) ≡ true = eq-eqb (get_or line p j) j here in
    let le = get_or-le-sum_by (λ k. cond (k == j) 1 0) line p j l in
    let some : one_for (get_or line p j == j) ≡ 1 = ap (λ b. cond b 1 0) one in
    let f = a.flagged j in
    set_if_one (get_or flags j false) (omega (arith, le, some, f))

pub flag_within : (flags : List Bool) (j : ℕ) → get_or flags j false ≡ true → j < length flags
flag_within flags j e =
    elim (cases_lt j (length flags)) [
      | inl h ↦ h
      | inr h ↦
          (let past = get_or_past flags j false h in let clash : true ≡ false = sym e ∙ past in absurd (cc))
    ]

flag_is : (line : List ℕ) (flags : List Bool) (capacity j : ℕ) (b : Bool) → IsFlagged line flags capacity
    → get_or flags j false ≡ b → times line j ≡ cond b 1 0
flag_is line flags capacity j b a e = a.flagged j ∙ ap (λ t. cond t 1 0) e

-- ---- one that waits no longer

module _ (line : List ℕ) (flags : List Bool) (capacity place j : ℕ) (a : IsFlagged line flags capacity)
    (l : place < length line) (e : j ≡ get_or line place j) where
  on : get_or flags j false ≡ true
  on = listed line flags capacity place j a l e

  in_flags : j < length flags
  in_flags = flag_within flags j on

  taken_at : (k : ℕ) → times (without line place) k + cond (j == k) 1 0 ≡ times line k
  taken_at k = sum_by-without line place j l e (λ x. cond (x == k) 1 0)

  taken_flag : (k : ℕ) → times (without line place) k ≡ cond (get_or (set flags j false) k false) 1 0
  taken_flag k =
      elim (eqb_tells j k) as (λ _. times (without line place) k ≡ cond (get_or (set flags j false) k false) 1 0) [
        | inl same ↦
            (let was : times line k ≡ 1 = flag_is line flags capacity k true a (rw (← same.1) on) in
            let one : one_for (j == k) ≡ 1 = ap (λ b. cond b 1 0) same.0 in
            let here = taken_at k in
            let gone : times (without line place) k ≡ 0 = omega (arith, was, one, here) in
            let off : get_or (set flags j false) k false ≡ false =
            rw (← same.1) (get_or-set_same flags j false false in_flags) in
            gone ∙ sym (ap (λ b. cond b 1 0) off))
        | inr other ↦
            (let none : one_for (j == k) ≡ 0 = ap (λ b. cond b 1 0) other.0 in
            let here = taken_at k in
            let kept : times (without line place) k ≡ times line k = omega (arith, none, here) in
            kept ∙ a.flagged k ∙ sym (ap (λ b. cond b 1 0)
            (get_or-set_other flags j k false false (λ h. other.1 (sym h)))))
      ]

  pub taken : IsFlagged (without line place) (set flags j false) capacity
  taken = record {
    flagged = taken_flag;
    counted = (
        let n = length-without line place j l e in
        let c = a.counted in
        let s = sum_by-set (λ b. cond b 1 0) flags j false false in_flags in
        let was : one_for (get_or flags j false) ≡ 1 = ap (λ b. cond b 1 0) on in
        omega (arith, n, c, s, was)
        );
    room = (let n = length-set flags j false in let r = a.room in omega (arith, n, r));
  }

-- ---- one more that waits

module _ (line : List ℕ) (flags : List Bool) (capacity j : ℕ) (a : IsFlagged line flags capacity) (l : j < length flags)
    (off : get_or flags j false ≡ false) where
  set_count : count_by (λ flag. flag) (set flags j true) ≡ count_by (λ flag. flag) flags + 1
  set_count =
      let s = sum_by-set (λ b. cond b 1 0) flags j true false l in
      let was : one_for (get_or flags j false) ≡ 0 = ap (λ b. cond b 1 0) off in
      omega (arith, s, was)

  pub has_room : length line < capacity
  has_room =
      let c = a.counted in
      let r = a.room in
      let m = count_by-le-length (λ flag. flag) (set flags j true) in
      let n = length-set flags j true in
      omega (arith, c, r, m, n, set_count)

  pub not_listed : Contains line j → ⊥
  not_listed (p, q, e) =
      let on = listed line flags capacity p j a q (sym e) in
      let clash : true ≡ false = sym on ∙ off in
      cc

  pushed_flag : (k : ℕ) → times (line ++ j ∷ []) k ≡ cond (get_or (set flags j true) k false) 1 0
  pushed_flag k =
      let push = sum_by_push (λ x. cond (x == k) 1 0) line j in
      elim (eqb_tells j k) as (λ _. times (line ++ j ∷ []) k ≡ cond (get_or (set flags j true) k false) 1 0) [
        | inl same ↦
            (let was : times line k ≡ 0 = flag_is line flags capacity k false a (rw (← same.1) off) in
            let one : one_for (j == k) ≡ 1 = ap (λ b. cond b 1 0) same.0 in
            let now : times (line ++ j ∷ []) k ≡ 1 = omega (arith, was, one, push) in
            let on : get_or (set flags j true) k false ≡ true = rw (← same.1) (get_or-set_same flags j true false l) in
            now ∙ sym (ap (λ b. cond b 1 0) on))
        | inr other ↦
            (let none : one_for (j == k) ≡ 0 = ap (λ b. cond b 1 0) other.0 in
            let now : times (line ++ j ∷ []) k ≡ times line k = omega (arith, none, push) in
            now ∙ a.flagged k ∙ sym (ap (λ b. cond b 1 0)
            (get_or-set_other flags j k true false (λ h. other.1 (sym h)))))
      ]

  pub pushed : (capacity' : ℕ) → capacity ≤ capacity' → IsFlagged (line ++ j ∷ []) (set flags j true) capacity'
  pushed capacity' grows = record {
    flagged = pushed_flag;
    counted = (let c = a.counted in let n = length-append line (j ∷ []) in omega (arith, c, n, set_count));
    room = (let r = a.room in let n = length-set flags j true in omega (arith, r, n, grows));
  }

counted_in : (line : List ℕ) (j : ℕ) → 1 ≤ times line j → Contains line j
counted_in [] j h = absurd (omega (arith, h))
counted_in (x ∷ xs) j h =
    elim (eqb_tells x j) as (λ _. Contains (x ∷ xs) j) [
      | inl same ↦ (0, omega arith, same.1)
      | inr other ↦
          (let s = sum_by-cons (λ k. cond (k == j) 1 0) x xs in
          let none : one_for (x == j) ≡ 0 = ap (λ b. cond b 1 0) other.0 in
          let rest = counted_in xs j (omega (arith, h, s, none)) in
          (suc (rest.0), omega (arith, rest.1), rest.2))
    ]

pub is_listed : (line : List ℕ) (flags : List Bool) (capacity j : ℕ) → IsFlagged line flags capacity
    → get_or flags j false ≡ true → Contains line j
is_listed line flags capacity j a on = counted_in line j (omega (arith, flag_is line flags capacity j true a on))

-- ---- more room

filled_flag : (flags : List Bool) (m k : ℕ) → get_or (flags ++ replicate m false) k false ≡ get_or flags k false
filled_flag flags m k =
    elim (cases_lt k (length flags)) [
      | inl h ↦ get_or_append_left flags (replicate m false) false k h
      | inr h ↦ get_or-append_right flags (replicate m false) (length flags) k false refl h ∙ none m (k - length flags)
          ∙ sym (get_or_past flags k false h)
    ]
  where
    none : (m k : ℕ) → get_or (replicate m false) k false ≡ false
    none m k = elim (cases_lt k m) [
      | inl h ↦ get_or-replicate m k false false h
      | inr h ↦ get_or_past (replicate m false) k false (let n = length-replicate m false in omega (arith, n, h))
    ]

pub filled : (line : List ℕ) (flags : List Bool) (capacity capacity' m : ℕ) → IsFlagged line flags capacity
    → length flags + m ≤ capacity' → IsFlagged line (flags ++ replicate m false) capacity'
filled line flags capacity capacity' m a room = record {
  flagged = λ j. a.flagged j ∙ sym (ap (λ b. cond b 1 0) (filled_flag flags m j));
  counted = (
      let c = a.counted in
      let s = sum_by-append (λ b. cond b 1 0) flags (replicate m false) in
      let z = sum_by-replicate (λ b. cond b 1 0) m false in
      omega (arith, c, s, z)
      );
  room = (let n = length-append flags (replicate m false) in let r = length-replicate m false in omega
      (arith, n, r, room));
}

-- ---- what callers see

pub is_line : (line : List ℕ) (flags : List Bool) (capacity : ℕ) → IsFlagged line flags capacity
    → IsLine line (length flags)
is_line line flags capacity a = record {
  once = λ j. let f = a.flagged j in let o = one_if (get_or flags j false) in omega (arith, f, o);
  below = λ k d l. flag_within flags (get_or line k d)
      (listed line flags capacity k (get_or line k d) a l (get_or_default line k d (get_or line k d) l));
}

pub short_line : (line : List ℕ) (flags : List Bool) (capacity : ℕ) → IsFlagged line flags capacity
    → length line ≤ length flags
short_line line flags capacity a = let c = a.counted in let m =
    count_by-le-length (λ flag. flag) flags in omega (arith, c, m)
