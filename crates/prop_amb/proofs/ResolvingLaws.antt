-- What a nogood shows of one choice after the other.
use Rattle.std.proofs.Common.{◌≡◌, ◌∙◌, ℕ, zero, suc, ◌+◌, ◌-◌, ◌<◌, ◌≤◌, IsTrue, Bool, true, false, not, cond, nat_lt}
use Rattle.std.proofs.Common.{List, [], ◌∷◌, ◌||◌, ◌&&◌, ◌==◌, length, take, Some, refl, sym, ◌⊎◌, inl, inr, arith}
use Rattle.std.proofs.Common.{slice_get, slice_index_or}
use Rattle.std.proofs.lemmas.Bool.{cases_lt, cases_Bool, or_cases, and_parts, eqb-true, eq-eqb, lt-ltb, le-ltb}
use Rattle.prop_numbers.specs.Sets.{Members, IsPart, IsSame, set_of, union, without}
use Rattle.prop_premises.specs.declared.choice.Choice.{Choice}
use Rattle.prop_premises.specs.ChoiceLists.{hypothetical, hypotheticals_of, IsSide, IsChoiceList}
use Rattle.prop_premises.specs.inner.ChoiceLists.{is_side_of}
use Rattle.prop_premises.specs.ChoiceLists.{TakesSidesIn, AreInOrder}
use Rattle.prop_cells.specs.Problems.{Problem}
use Rattle.prop_nogoods.specs.Stores.{has_part}
use Rattle.prop_amb.specs.Refuted.{IsNogood, IsRuledOut}
use Rattle.prop_amb.specs.inner.Joined.{IsJoined, others_of}
use Rattle.prop_amb.specs.Search.{Stand, IsStand, users_of, choices_in, IsKept, IsSearch}
use Rattle.prop_amb.proofs.Shown.{IsShown, IsWithin}
use Rattle.prop_amb.proofs.ZipLemmas.{some_same, none_some, zip_both, index_at}
use Rattle.prop_amb.proofs.StandLaws.{users_no_sides}
use Rattle.prop_amb.proofs.SearchLaws.{both, or_true_left, or_true_right, side_is_of, takes_own, side_below}
use Rattle.prop_amb.proofs.SearchLaws.{listed_covers}
use Rattle.prop_amb.proofs.JoinLaws.{joined_refuted, joined_grounded, joined_covered, later_at, user_of}
use Rattle.prop_amb.proofs.DeclaringLaws.{taken_before}
use Rattle.prop_amb.proofs.LevelLaws.{taken_firsts}

pub nogood_shown : (problem : Problem) (s : Stand) (n : Members) → IsNogood problem (choices_in s) n
    → IsTrue (has_part s.listed n) → IsShown problem s n
nogood_shown problem s n nogood listed = record {
  refuted = nogood.refuted;
  grounded = λ p in_n user. (n, in_n, nogood, λ q in_q _. in_q);
  covered = listed_covers (choices_in s) s.listed n listed;
}

-- what the first j and one more choices take, the first j do, or it is the side of the last of them
taken_last : (cs : List Choice) (l : List ℕ) (j : ℕ) (c : Choice) (side p : ℕ) → slice_get cs j ≡ Some c
    → slice_get l j ≡ Some side →
    IsTrue (hypotheticals_of (take (suc j) cs) (take (suc j) l) p)
    → IsTrue (hypotheticals_of (take j cs) (take j l) p) ⊎ (p ≡ hypothetical c side)
taken_last [] l j c side p e f t = absurd (none_some e)
taken_last (x ∷ cs) [] j c side p e f t = absurd (none_some f)
taken_last (x ∷ cs) (y ∷ l) zero c side p e f t = elim (or_cases (hypothetical x y == p) false t) [
  | inl h ↦ inr (own (eqb-true (hypothetical x y) p h) (some_same e) (some_same f))
  | inr h ↦ absurd (both h refl)
]
  where
    own : hypothetical x y ≡ p → x ≡ c → y ≡ side → p ≡ hypothetical c side
    own h i k = cc
taken_last (x ∷ cs) (y ∷ l) (suc j) c side p e f t =
    elim (or_cases (hypothetical x y == p) (hypotheticals_of (take (suc j) cs) (take (suc j) l) p) t) [
      | inl h ↦ inl (or_true_left (hypothetical x y == p) (hypotheticals_of (take j cs) (take j l) p) h)
      | inr h ↦ elim (taken_last cs l j c side p e f h) [
        | inl i ↦ inl (or_true_right (hypothetical x y == p) (hypotheticals_of (take j cs) (take j l) p) i)
        | inr i ↦ inr i
      ]
    ]

-- a premise beside the side of the choice is a believed one of the user's, or an earlier choice's side
beside_of : (s : Stand) (j : ℕ) (c : Choice) (side : ℕ) (n : Members) → slice_get (choices_in s) j ≡ Some c
    → slice_get s.list j ≡ Some side → IsWithin s (suc j) n →
    (p : ℕ) → IsTrue (n p) → (p ≡ hypothetical c side → ⊥)
    → IsTrue (users_of s p) ⊎ IsTrue (hypotheticals_of (take j (choices_in s)) (take j s.list) p)
beside_of s j c side n choice_at side_at within p in_n other =
    elim (or_cases (users_of s p) (hypotheticals_of (take (suc j) (choices_in s)) (take (suc j) s.list) p)
    (within p in_n)) [
      | inl u ↦ inl u
      | inr t ↦ elim (taken_last (choices_in s) s.list j c side p choice_at side_at t)
          [ inl e ↦ inr e | inr e ↦ absurd (other e) ]
    ]

-- a shown set that holds the side on which a choice stands, and no later side, is a reason against it
pub shown_against : (problem : Problem) (s : Stand) (j : ℕ) (c : Choice) (side : ℕ) (n : Members)
    → slice_get (choices_in s) j ≡ Some c → slice_get s.list j ≡ Some side → IsWithin s (suc j) n →
    IsTrue (n (hypothetical c side)) → IsShown problem s n → IsKept problem s j c side n
shown_against problem s j c side n choice_at side_at within holds shown = record {
  refuted = shown.refuted;
  grounded = shown.grounded;
  covered = shown.covered;
  against = holds;
  beside = beside_of s j c side n choice_at side_at within;
}

-- a set that doesn't hold the side holds nothing of the choice
pub within_less : (s : Stand) (j : ℕ) (c : Choice) (side : ℕ) (n : Members) → slice_get (choices_in s) j ≡ Some c
    → slice_get s.list j ≡ Some side → IsWithin s (suc j) n →
    n (hypothetical c side) ≡ false → IsWithin s j n
within_less s j c side n choice_at side_at within lacks p in_n =
    elim (beside_of s j c side n choice_at side_at within p in_n (λ e. both (at e in_n) lacks)) [
      | inl u ↦ or_true_left (users_of s p) (hypotheticals_of (take j (choices_in s)) (take j s.list) p) u
      | inr t ↦ or_true_right (users_of s p) (hypotheticals_of (take j (choices_in s)) (take j s.list) p) t
    ]
  where
    at : p ≡ hypothetical c side → IsTrue (n p) → n (hypothetical c side) ≡ true
    at e h = rw e at h

-- ---- a choice that stands on its last side

-- the reason against each side of the choice: those that are kept, and the set against the last one
abbrev against_each : List (List ℕ) → Members → ℕ → Members
against_each kept n side = cond (nat_lt side (suc (length kept))) (set_of (slice_index_or kept (side - 1) [])) n

all_kept : (problem : Problem) (s : Stand) (j : ℕ) (c : Choice) (n : Members) (kept : List (List ℕ))
    → IsSearch problem s → slice_get (choices_in s) j ≡ Some c → slice_get s.reasons j ≡ Some kept →
    length kept + 1 ≡ c.sides → IsKept problem s j c c.sides n → (side : ℕ) → IsSide c side
    → IsKept problem s j c side (against_each kept n side)
all_kept problem s j c n kept h choice_at kept_at count last side is_side = elim (cases_lt side (suc (length kept))) [
  | inl less ↦ rw (lt-ltb side (suc (length kept)) less) (before less)
  | inr more ↦ rw (le-ltb side (suc (length kept)) more) (rw (end more) last)
]
  where
    end : suc (length kept) ≤ side → side ≡ c.sides
    end more = omega (arith, more, count, is_side.1)

    get : (xs : List (List ℕ)) (k : ℕ) → k < length xs → slice_get xs k ≡ Some (slice_index_or xs k [])
    get [] k l = absurd (omega (arith, l))
    get (x ∷ xs) zero l = refl
    get (x ∷ xs) (suc k) l = get xs k (omega (arith, l))

    before : side < suc (length kept) → IsKept problem s j c side (set_of (slice_index_or kept (side - 1) []))
    before less = h.reasons.kept j c side (slice_index_or kept (side - 1) []) choice_at is_side.0
        (rw (index_at s.reasons j kept [] kept_at) (get kept (side - 1) (omega (arith, less, is_side.0))))

others_have : (own : ℕ) (kept : List (List ℕ)) (k p : ℕ) → k < length kept
    → IsTrue (set_of (slice_index_or kept k []) p) → (own + k == p) ≡ false → IsTrue (others_of own kept p)
others_have own [] k p l h other = absurd (omega (arith, l))
others_have own (r ∷ kept) zero p l h other =
    or_true_left (without (set_of r) own p) (others_of (suc own) kept p)
    (both_of (set_of r p) (own == p) h (rw (plus_zero own) at other))
  where
    plus_zero : (a : ℕ) → a + 0 ≡ a
    plus_zero a = omega arith

    both_of : (x y : Bool) → x ≡ true → y ≡ false → (x && not y) ≡ true
    both_of x y e f = cc
others_have own (r ∷ kept) (suc k) p l h other =
    or_true_right (without (set_of r) own p) (others_of (suc own) kept p)
    (others_have (suc own) kept k p (omega (arith, l)) h (rw (shift own k) at other))
  where
    shift : (a b : ℕ) → a + suc b ≡ suc a + b
    shift a b = omega arith

pub others_from : (own : ℕ) (kept : List (List ℕ)) (p : ℕ) → IsTrue (others_of own kept p)
    → (k : ℕ) × (k < length kept) × IsTrue (set_of (slice_index_or kept k []) p) × ((own + k == p) ≡ false)
others_from own [] p h = absurd (both h refl)
others_from own (r ∷ kept) p h = elim (or_cases (without (set_of r) own p) (others_of (suc own) kept p) h) [
  | inl e ↦ (let x = and_parts (set_of r p) (not (own == p)) e
      in (0, omega arith, x.0, rw (plus_zero own) (not_true (own == p) x.1)))
  | inr e ↦ (let x = others_from (suc own) kept p e in (suc x.0, omega (arith, x.1), x.2, rw (shift own x.0) x.3))
]
  where
    plus_zero : (a : ℕ) → a + 0 ≡ a
    plus_zero a = omega arith

    not_true : (b : Bool) → not b ≡ true → b ≡ false
    not_true true e = cc
    not_true false e = refl

    shift : (a b : ℕ) → a + suc b ≡ suc a + b
    shift a b = omega arith

-- what the choices before this one take is no side of it
taken_apart : (cs : List Choice) (l : List ℕ) (j : ℕ) (c : Choice) (p : ℕ) → AreInOrder cs → IsChoiceList cs l
    → slice_get cs j ≡ Some c → IsTrue (hypotheticals_of (take j cs) (take j l) p) → is_side_of c p ≡ false
taken_apart cs l zero c p order h e t = absurd (both t refl)
taken_apart [] l (suc j) c p order h e t = absurd (none_some e)
taken_apart (x ∷ cs) [] (suc j) c p order h e t = absurd h
taken_apart (x ∷ cs) (y ∷ l) (suc j) c p order h e t =
    elim (or_cases (hypothetical x y == p) (hypotheticals_of (take j cs) (take j l) p) t) [
      | inl f ↦ rw (← (eqb-true (hypothetical x y) p f)) (side_below x c y (later_at x cs j c order.0 e) h.0)
      | inr f ↦ taken_apart cs l j c p order.1 h.1 e f
    ]

not_own : (c : Choice) (side p : ℕ) → IsSide c side → is_side_of c p ≡ false → (hypothetical c side == p) ≡ false
not_own c side p is_side no_side = elim (cases_Bool (hypothetical c side == p)) [
  | inl e ↦ absurd (both (side_is_of c side is_side) (at (eqb-true (hypothetical c side) p e)))
  | inr e ↦ e
]
  where
    at : hypothetical c side ≡ p → is_side_of c (hypothetical c side) ≡ false
    at e = rw e no_side

-- what the reason against a side has beside that side is no side of the choice
apart_of : (problem : Problem) (s : Stand) (j : ℕ) (c : Choice) (side : ℕ) (r : Members) (p : ℕ) → IsStand s
    → slice_get (choices_in s) j ≡ Some c → IsKept problem s j c side r →
    IsTrue (r p) → (p ≡ hypothetical c side → ⊥) → is_side_of c p ≡ false
apart_of problem s j c side r p stand choice_at k in_r other = elim (k.beside p in_r other) [
  | inl u ↦ user_of (choices_in s) j c p choice_at (users_no_sides s stand p u)
  | inr t ↦ taken_apart (choices_in s) s.list j c p stand.numbered.in_order stand.is_list choice_at t
]

-- A shown set that holds the last side of a choice, on which the choice stands: with the kept reasons, without the
-- sides.
module _ (problem : Problem) (s : Stand) (j : ℕ) (c : Choice) (n m : Members) (kept : List (List ℕ)) (stand : IsStand s)
    (choice_at : slice_get (choices_in s) j ≡ Some c)
    (side_at : slice_get s.list j ≡ Some c.sides) (kept_at : slice_get s.reasons j ≡ Some kept)
    (within : IsWithin s (suc j) n) (holds : IsTrue (n (hypothetical c c.sides)))
    (m_is : IsSame m (union (without n (hypothetical c c.sides)) (others_of c.first kept))) (h : IsSearch problem s)
    (shown : IsShown problem s n) where
  abbrev r : ℕ → Members
  r = against_each kept n

  count : length kept + 1 ≡ c.sides
  count = zip_both (λ side reasons. length reasons + 1 ≡ side) s.list s.reasons j c.sides kept stand.reasoned side_at
      kept_at

  last_side : IsSide c c.sides
  last_side = zip_both IsSide (choices_in s) s.list j c c.sides stand.is_list choice_at side_at

  last : IsKept problem s j c c.sides n
  last = shown_against problem s j c c.sides n choice_at side_at within holds shown

  each : (side : ℕ) → IsSide c side → IsKept problem s j c side (r side)
  each = all_kept problem s j c n kept h choice_at kept_at count last

  apart : (side p : ℕ) → IsSide c side → IsTrue (r side p) → (hypothetical c side == p) ≡ false → is_side_of c p ≡ false
  apart side p is_side in_r other = apart_of problem s j c side (r side) p stand choice_at (each side is_side) in_r
      (λ e. both (eq-eqb (hypothetical c side) p (sym e)) other)

  own : (side i : ℕ) → IsSide c side → IsSide c i → IsTrue (r side (hypothetical c i)) → i ≡ side
  own side i is_side is_i in_r = elim (cases_Bool (hypothetical c side == hypothetical c i)) [
    | inl e ↦ omega (arith, eqb-true (hypothetical c side) (hypothetical c i) e, is_side.0, is_i.0)
    | inr e ↦ absurd (both (side_is_of c i is_i) (apart side (hypothetical c i) is_side in_r e))
  ]

  r_before : (k p : ℕ) → k < length kept → r (suc k) p ≡ set_of (slice_index_or kept k []) p
  r_before k p l = rw (lt-ltb (suc k) (suc (length kept)) (omega (arith, l)), less k) refl
    where
      less : (k : ℕ) → suc k - 1 ≡ k
      less k = omega arith

  r_last : (p : ℕ) → r c.sides p ≡ n p
  r_last p = rw (le-ltb c.sides (suc (length kept)) (omega (arith, count))) refl

  has : (side p : ℕ) → IsSide c side → IsTrue (r side p) → is_side_of c p ≡ false → IsTrue (m p)
  has side p is_side in_r no_side = m_is p
      ∙ elim (cases_lt side (suc (length kept))) as (λ _.
      (without n (hypothetical c c.sides) p || others_of c.first kept p) ≡ true) [
        | inl less ↦ or_true_right (without n (hypothetical c c.sides) p) (others_of c.first kept p)
            (others_have c.first kept (side - 1) p (omega (arith, less, is_side.0))
            (rw (lt-ltb side (suc (length kept)) less) at in_r) (not_own c side p is_side no_side))
        | inr more ↦ or_true_left (without n (hypothetical c c.sides) p) (others_of c.first kept p)
            (here (rw (le-ltb side (suc (length kept)) more) at in_r))
      ]
    where
      here : IsTrue (n p) → without n (hypothetical c c.sides) p ≡ true
      here in_n = rw (in_n, not_own c c.sides p last_side no_side) refl

  sources : (p : ℕ) → IsTrue (m p) → (side : ℕ) × IsSide c side × IsTrue (r side p) × (is_side_of c p ≡ false)
  sources p in_m = elim (or_cases (without n (hypothetical c c.sides) p) (others_of c.first kept p)
      (sym (m_is p) ∙ in_m)) [
        | inl e ↦ of_last (and_parts (n p) (not (hypothetical c c.sides == p)) e)
        | inr e ↦ of_kept (others_from c.first kept p e)
      ]
    where
      not_true : (b : Bool) → not b ≡ true → b ≡ false
      not_true true e = cc
      not_true false e = refl

      of_last : (n p ≡ true) × (not (hypothetical c c.sides == p) ≡ true)
          → (side : ℕ) × IsSide c side × IsTrue (r side p) × (is_side_of c p ≡ false)
      of_last x =
          let in_r : IsTrue (r c.sides p) = r_last p ∙ x.0 in
          (c.sides, last_side, in_r, apart c.sides p last_side in_r (not_true (hypothetical c c.sides == p) x.1))

      of_kept : (k : ℕ) × (k < length kept) × IsTrue (set_of (slice_index_or kept k []) p)
          × ((c.first + k == p) ≡ false) → (side : ℕ) × IsSide c side × IsTrue (r side p) × (is_side_of c p ≡ false)
      of_kept x =
          let is_side : IsSide c (suc x.0) = (omega arith, omega (arith, x.1, count)) in
          let in_r : IsTrue (r (suc x.0) p) = r_before x.0 p x.1 ∙ x.2 in
          (suc x.0, is_side, in_r, apart (suc x.0) p is_side in_r (rw (less x.0) x.3))
        where
          less : (k : ℕ) → suc k - 1 ≡ k
          less k = omega arith

  joined : IsJoined c r m
  joined = record { has = has; sources = sources }

  pub within_earlier : IsWithin s j m
  within_earlier p in_m =
      let x = sources p in_m in
      elim ((each x.0 x.1).beside p x.2 (λ e. both (eq-eqb (hypothetical c x.0) p (sym e)) (not_own c x.0 p x.1 x.3))) [
        | inl u ↦ or_true_left (users_of s p) (hypotheticals_of (take j (choices_in s)) (take j s.list) p) u
        | inr t ↦ or_true_right (users_of s p) (hypotheticals_of (take j (choices_in s)) (take j s.list) p) t
      ]

  within_all : IsPart m (union (users_of s) (hypotheticals_of (choices_in s) s.list))
  within_all p in_m = elim (or_cases (users_of s p) (hypotheticals_of (take j (choices_in s)) (take j s.list) p)
      (within_earlier p in_m)) [
        | inl u ↦ or_true_left (users_of s p) (hypotheticals_of (choices_in s) s.list p) u
        | inr t ↦ or_true_right (users_of s p) (hypotheticals_of (choices_in s) s.list p)
            (taken_before (choices_in s) s.list j p stand.is_list t)
      ]

  one_side : (list : List ℕ) × IsChoiceList (choices_in s) list × TakesSidesIn m (choices_in s) list
  one_side = (
    s.list,
    stand.is_list,
    takes_own m (users_of s) (choices_in s) s.list stand.numbered.in_order
        stand.is_list (users_no_sides s stand) within_all,
  )

  pub still_shown : IsShown problem s m
  still_shown = record {
    refuted = joined_refuted problem (choices_in s) j c r m stand.numbered.in_order choice_at joined
        (λ side is_side. (each side is_side).refuted) own one_side;
    grounded = joined_grounded problem (choices_in s) j c r m choice_at joined
        (λ side is_side. (each side is_side).grounded);
    covered = joined_covered problem (choices_in s) s.listed j c r m choice_at joined own
        (λ side is_side. (each side is_side).covered);
  }

-- ---- the beginning and the end

-- what is believed lies within the choices whose sides are
pub believed_within : (s : Stand) (n : Members) → IsStand s → IsPart n (set_of s.worldview) → IsWithin s s.level n
believed_within s n stand part p in_n =
    elim (or_cases (users_of s p) (hypotheticals_of (choices_in s) (take s.level s.list) p)
    (sym (stand.believes p) ∙ part p in_n)) [
      | inl u ↦ or_true_left (users_of s p) (hypotheticals_of (take s.level (choices_in s)) (take s.level s.list) p) u
      | inr t ↦ or_true_right (users_of s p) (hypotheticals_of (take s.level (choices_in s)) (take s.level s.list) p)
          (taken_firsts (choices_in s) s.list s.level p t)
    ]

-- a shown set within no choices rules out every list
pub shown_rules_out : (problem : Problem) (s : Stand) (n : Members) → IsWithin s 0 n → IsShown problem s n
    → IsRuledOut problem (users_of s) (choices_in s) s.listed n
shown_rules_out problem s n within shown = record {
  believes = λ p in_n. elim (or_cases (users_of s p) false (within p in_n))
      [ inl u ↦ u | inr t ↦ absurd (both t refl) ];
  refuted = shown.refuted;
  grounded = shown.grounded;
  covered = shown.covered;
}
