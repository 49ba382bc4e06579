-- The flags of the instances, and the line.
use Rattle.std.proofs.Common.{◌≡◌, ◌∙◌, ℕ, ◌+◌, ◌<◌, ◌≤◌, ◌==◌, Bool, true, false, cond, List, [], ◌∷◌, ◌++◌}
use Rattle.std.proofs.Common.{length, get_or, count_by, refl, sym, ap, arith, Contains, inl, inr, get_or-set_other}
use Rattle.std.proofs.Common.{get_or-set_same, ◌||◌, zero-add}
use Rattle.std.specs.List.{list_any}
use Rattle.std.proofs.Math.ListN.{set, replicate, length-set}
use Rattle.std.proofs.lemmas.Bool.{cases_lt, eq-eqb, ne_eqb}
use Rattle.std.proofs.lemmas.Bool.Decides.{eqb_tells}
use Rattle.std.proofs.lemmas.List.{length-append, length-replicate}
use Rattle.std.proofs.lemmas.List.{get_or-replicate, get_or_past}
use Rattle.std.proofs.lemmas.List.Sums.{sum_by-cons, sum_by-set, sum_by_push}
use Rattle.std.proofs.lemmas.List.Sums.{count_by-le-length, get_or-le-sum_by}
use Rattle.std.proofs.lemmas.List.Folds.{sum_by-replicate}
use Rattle.prop_trail.specs.Queues.{Queued, joined}
use Rattle.prop_trail.specs.inner.Flags.{IsFlagged}

-- how often a number stands in a line
abbrev pub times : List ℕ → ℕ → ℕ
times line j = count_by (λ k. k == j) line

abbrev one_for : Bool → ℕ
one_for b = cond b 1 0

one_if : (b : Bool) → cond b 1 0 ≤ 1
one_if true = omega arith
one_if false = omega arith

set_if_one : (b : Bool) → 1 ≤ cond b 1 0 → b ≡ true
set_if_one true h = refl
set_if_one false h = absurd (omega (arith, h))

-- what stands in the line is flagged
pub listed : (line : List ℕ) (flags : List Bool) (capacity p j : ℕ) → IsFlagged line flags capacity → p < length line
    → j ≡ get_or line p j → get_or flags j false ≡ true
listed line flags capacity p j a l e =
    let here : get_or line p j ≡ j = sym e in
    let one : (get_or line p j == j) ≡ true = eq-eqb (get_or line p j) j here in
    let le = get_or-le-sum_by (λ k. cond (k == j) 1 0) line p j l in
    let some : one_for (get_or line p j == j) ≡ 1 = ap (λ b. cond b 1 0) one in
    let f = a.flagged j in
    set_if_one (get_or flags j false) (omega (arith, le, some, f))

pub flag_within : (flags : List Bool) (j : ℕ) → get_or flags j false ≡ true → j < length flags
flag_within flags j e =
    elim (cases_lt j (length flags)) [
      | inl h ↦ h
      | inr h ↦
          (let past = get_or_past flags j false h in let clash : true ≡ false = sym e ∙ past in absurd (cc))
    ]

flag_is : (line : List ℕ) (flags : List Bool) (capacity j : ℕ) (b : Bool) → IsFlagged line flags capacity
    → get_or flags j false ≡ b → times line j ≡ cond b 1 0
flag_is line flags capacity j b a e = a.flagged j ∙ ap (λ t. cond t 1 0) e

-- ---- one that waits no longer

-- one number less at the front
once_less : (j k : ℕ) (rest : List ℕ) → times (j ∷ rest) k ≡ cond (j == k) 1 0 + times rest k
once_less j k rest = sum_by-cons (λ x. cond (x == k) 1 0) j rest

module _ (j : ℕ) (rest : List ℕ) (flags : List Bool) (capacity : ℕ) (a : IsFlagged (j ∷ rest) flags capacity) where
  pub first_on : get_or flags j false ≡ true
  first_on = listed (j ∷ rest) flags capacity 0 j a (omega arith) refl

  pub first_within : j < length flags
  first_within = flag_within flags j first_on

  pub first_gone : times rest j ≡ 0
  first_gone =
      let was : times (j ∷ rest) j ≡ 1 = flag_is (j ∷ rest) flags capacity j true a first_on in
      let one : one_for (j == j) ≡ 1 = ap (λ b. cond b 1 0) (eq-eqb j j refl) in
      let here = once_less j j rest in
      omega (arith, was, one, here)

  left_flag : (k : ℕ) → times rest k ≡ cond (get_or (set flags j false) k false) 1 0
  left_flag k =
      elim (eqb_tells j k) as (λ _. times rest k ≡ cond (get_or (set flags j false) k false) 1 0) [
        | inl same ↦
            (let gone : times rest k ≡ 0 = rw (← same.1) first_gone in
            let off : get_or (set flags j false) k false ≡ false =
            rw (← same.1) (get_or-set_same flags j false false first_within) in
            gone ∙ sym (ap (λ b. cond b 1 0) off))
        | inr other ↦
            (let none : one_for (j == k) ≡ 0 = ap (λ b. cond b 1 0) other.0 in
            let here = once_less j k rest in
            let kept : times rest k ≡ times (j ∷ rest) k = omega (arith, none, here) in
            kept ∙ a.flagged k ∙ sym (ap (λ b. cond b 1 0)
            (get_or-set_other flags j k false false (λ h. other.1 (sym h)))))
      ]

  pub left : IsFlagged rest (set flags j false) capacity
  left = record {
    flagged = left_flag;
    counted = (
        let c = a.counted in
        let s = sum_by-set (λ b. cond b 1 0) flags j false false first_within in
        let was : one_for (get_or flags j false) ≡ 1 = ap (λ b. cond b 1 0) first_on in
        omega (arith, c, s, was)
        );
    room = (let n = length-set flags j false in let r = a.room in omega (arith, n, r));
  }

  pub first_once : Contains rest j → ⊥
  first_once (p, q, e) =
      let here : get_or rest p j ≡ j = e in
      let one : (get_or rest p j == j) ≡ true = eq-eqb (get_or rest p j) j here in
      let le = get_or-le-sum_by (λ k. cond (k == j) 1 0) rest p j q in
      let some : one_for (get_or rest p j == j) ≡ 1 = ap (λ b. cond b 1 0) one in
      omega (arith, le, some, first_gone)

-- ---- one more that waits

module _ (line : List ℕ) (flags : List Bool) (capacity j : ℕ) (a : IsFlagged line flags capacity) (l : j < length flags)
    (off : get_or flags j false ≡ false) where
  set_count : count_by (λ flag. flag) (set flags j true) ≡ count_by (λ flag. flag) flags + 1
  set_count =
      let s = sum_by-set (λ b. cond b 1 0) flags j true false l in
      let was : one_for (get_or flags j false) ≡ 0 = ap (λ b. cond b 1 0) off in
      omega (arith, s, was)

  pub has_room : length line < capacity
  has_room =
      let c = a.counted in
      let r = a.room in
      let m = count_by-le-length (λ flag. flag) (set flags j true) in
      let n = length-set flags j true in
      omega (arith, c, r, m, n, set_count)

  pushed_flag : (k : ℕ) → times (line ++ j ∷ []) k ≡ cond (get_or (set flags j true) k false) 1 0
  pushed_flag k =
      let push = sum_by_push (λ x. cond (x == k) 1 0) line j in
      elim (eqb_tells j k) as (λ _. times (line ++ j ∷ []) k ≡ cond (get_or (set flags j true) k false) 1 0) [
        | inl same ↦
            (let was : times line k ≡ 0 = flag_is line flags capacity k false a (rw (← same.1) off) in
            let one : one_for (j == k) ≡ 1 = ap (λ b. cond b 1 0) same.0 in
            let now : times (line ++ j ∷ []) k ≡ 1 = omega (arith, was, one, push) in
            let on : get_or (set flags j true) k false ≡ true = rw (← same.1) (get_or-set_same flags j true false l) in
            now ∙ sym (ap (λ b. cond b 1 0) on))
        | inr other ↦
            (let none : one_for (j == k) ≡ 0 = ap (λ b. cond b 1 0) other.0 in
            let now : times (line ++ j ∷ []) k ≡ times line k = omega (arith, none, push) in
            now ∙ a.flagged k ∙ sym (ap (λ b. cond b 1 0)
            (get_or-set_other flags j k true false (λ h. other.1 (sym h)))))
      ]

  pub pushed : (capacity' : ℕ) → capacity ≤ capacity' → IsFlagged (line ++ j ∷ []) (set flags j true) capacity'
  pushed capacity' grows = record {
    flagged = pushed_flag;
    counted = (let c = a.counted in let n = length-append line (j ∷ []) in omega (arith, c, n, set_count));
    room = (let r = a.room in let n = length-set flags j true in omega (arith, r, n, grows));
  }

-- ---- who is in the line

counted_in : (line : List ℕ) (j : ℕ) → list_any (λ k. k == j) line ≡ cond (times line j == 0) false true
counted_in [] j = refl
counted_in (x ∷ xs) j =
    elim (eqb_tells x j) as (λ _. list_any (λ k. k == j) (x ∷ xs) ≡ cond (times (x ∷ xs) j == 0) false true) [
      | inl same ↦ (
          let some : times (x ∷ xs) j ≡ 1 + times xs j = once_less x j xs ∙ ap (λ b. cond b 1 0 + times xs j) same.0 in
          let no : (times (x ∷ xs) j == 0) ≡ false = ne_eqb (times (x ∷ xs) j) 0 (λ e. omega (arith, e, some)) in
          ap (λ b. b || list_any (λ k. k == j) xs) same.0 ∙ sym (ap (λ b. cond b false true) no))
      | inr other ↦ (
          let same : times (x ∷ xs) j ≡ times xs j =
          once_less x j xs ∙ ap (λ b. cond b 1 0 + times xs j) other.0 ∙ zero-add (times xs j) in
          ap (λ b. b || list_any (λ k. k == j) xs) other.0 ∙ counted_in xs j
          ∙ sym (ap (λ n. cond (n == 0) false true) same))
    ]

-- the flag says whether the number is in the line
pub flag_tells : (line : List ℕ) (flags : List Bool) (capacity j : ℕ) (b : Bool) → IsFlagged line flags capacity
    → get_or flags j false ≡ b → list_any (λ k. k == j) line ≡ b
flag_tells line flags capacity j true a e =
    counted_in line j ∙ ap (λ n. cond (n == 0) false true) (flag_is line flags capacity j true a e)
flag_tells line flags capacity j false a e =
    counted_in line j ∙ ap (λ n. cond (n == 0) false true) (flag_is line flags capacity j false a e)

-- no flag is set where none is in the line
pub no_flags : (room capacity : ℕ) → room ≤ capacity → IsFlagged [] (replicate room false) capacity
no_flags room capacity le = record {
  flagged = λ j. sym (ap (λ b. cond b 1 0) (off j));
  counted = sym (sum_by-replicate (λ b. cond b 1 0) room false ∙ omega arith);
  room = (let n = length-replicate room false in omega (arith, n, le));
}
  where
    off : (j : ℕ) → get_or (replicate room false) j false ≡ false
    off j = elim (cases_lt j room) [
      | inl h ↦ get_or-replicate room j false false h
      | inr h ↦ get_or_past (replicate room false) j false (let n = length-replicate room false in omega (arith, n, h))
    ]

-- ---- what joins

pub joined_there : (q : Queued) (j : ℕ) → list_any (λ k. k == j) q.line ≡ true
    → q ≡ record q { line = joined q.line j }
joined_there q j e = sym (ap (λ (b : Bool). record q { line = cond b q.line (q.line ++ j ∷ []) }) e)

pub joined_last : (q : Queued) (j : ℕ) (line : List ℕ) (room : ℕ) → line ≡ q.line ++ j ∷ [] → room ≡ q.room
    → list_any (λ k. k == j) q.line ≡ false
    → record q { line = line; room = room } ≡ record q { line = joined q.line j }
joined_last q j line room l r e =
    ap (λ (x : List ℕ). record q { line = x; room = room }) l
    ∙ ap (λ (y : ℕ). record q { line = q.line ++ j ∷ []; room = y }) r
    ∙ sym (ap (λ (b : Bool). record q { line = cond b q.line (q.line ++ j ∷ []) }) e)
