-- What the functions of truth compute is what their meaning counts up.
use Rattle.std.proofs.Common.{◌≡◌, ℕ, zero, suc, ◌+◌, ◌*◌, Bool, true, false, cond, ◌&&◌, ◌||◌, refl}
use Rattle.prop_sets.specs.Chosen.{bits_where, any_below}
use Rattle.prop_sets.specs.Truth.{is_and, is_or, is_not}
use Rattle.prop_sets.specs.inner.Truths.{outputs_of}

-- a test that answers the first at 0 and the second at each other number
abbrev pick : Bool → Bool → ℕ → Bool
pick a b zero = a
pick a b (suc t) = b

-- the bits of two truths
abbrev pub bits_of : Bool → Bool → ℕ
bits_of a b = cond a 1 0 + 2 * cond b 1 0

and-bits_at : (a b c d : Bool) → outputs_of (is_and) (pick a b) (pick c d) ≡ bits_of (a && c)
    ((b && (c || d)) || (a && d))
unfolding bits_where any_below
and-bits_at true true true true = refl
and-bits_at true true true false = refl
and-bits_at true true false true = refl
and-bits_at true true false false = refl
and-bits_at true false true true = refl
and-bits_at true false true false = refl
and-bits_at true false false true = refl
and-bits_at true false false false = refl
and-bits_at false true true true = refl
and-bits_at false true true false = refl
and-bits_at false true false true = refl
and-bits_at false true false false = refl
and-bits_at false false true true = refl
and-bits_at false false true false = refl
and-bits_at false false false true = refl
and-bits_at false false false false = refl

pub and-bits : (x y : ℕ → Bool) → outputs_of (is_and) x y ≡ bits_of (x 0 && y 0) ((x 1 && (y 0 || y 1)) || (x 0 && y 1))
unfolding bits_where any_below
and-bits x y = and-bits_at (x 0) (x 1) (y 0) (y 1)

and_back-bits_at : (a b c d : Bool) → outputs_of (λ z y x. is_and x y z) (pick a b) (pick c d) ≡ bits_of
    ((a && c) || (b && d)) (b && (c || d))
unfolding bits_where any_below
and_back-bits_at true true true true = refl
and_back-bits_at true true true false = refl
and_back-bits_at true true false true = refl
and_back-bits_at true true false false = refl
and_back-bits_at true false true true = refl
and_back-bits_at true false true false = refl
and_back-bits_at true false false true = refl
and_back-bits_at true false false false = refl
and_back-bits_at false true true true = refl
and_back-bits_at false true true false = refl
and_back-bits_at false true false true = refl
and_back-bits_at false true false false = refl
and_back-bits_at false false true true = refl
and_back-bits_at false false true false = refl
and_back-bits_at false false false true = refl
and_back-bits_at false false false false = refl

pub and_back-bits : (x y : ℕ → Bool)
    → outputs_of (λ z y x. is_and x y z) x y ≡ bits_of ((x 0 && y 0) || (x 1 && y 1)) (x 1 && (y 0 || y 1))
unfolding bits_where any_below
and_back-bits x y = and_back-bits_at (x 0) (x 1) (y 0) (y 1)

or-bits_at : (a b c d : Bool) → outputs_of (is_or) (pick a b) (pick c d) ≡ bits_of ((a && (c || d)) || (b && c))
    (b && d)
unfolding bits_where any_below
or-bits_at true true true true = refl
or-bits_at true true true false = refl
or-bits_at true true false true = refl
or-bits_at true true false false = refl
or-bits_at true false true true = refl
or-bits_at true false true false = refl
or-bits_at true false false true = refl
or-bits_at true false false false = refl
or-bits_at false true true true = refl
or-bits_at false true true false = refl
or-bits_at false true false true = refl
or-bits_at false true false false = refl
or-bits_at false false true true = refl
or-bits_at false false true false = refl
or-bits_at false false false true = refl
or-bits_at false false false false = refl

pub or-bits : (x y : ℕ → Bool) → outputs_of (is_or) x y ≡ bits_of ((x 0 && (y 0 || y 1)) || (x 1 && y 0)) (x 1 && y 1)
unfolding bits_where any_below
or-bits x y = or-bits_at (x 0) (x 1) (y 0) (y 1)

or_back-bits_at : (a b c d : Bool) → outputs_of (λ z y x. is_or x y z) (pick a b) (pick c d) ≡ bits_of (a && (c || d))
    ((a && c) || (b && d))
unfolding bits_where any_below
or_back-bits_at true true true true = refl
or_back-bits_at true true true false = refl
or_back-bits_at true true false true = refl
or_back-bits_at true true false false = refl
or_back-bits_at true false true true = refl
or_back-bits_at true false true false = refl
or_back-bits_at true false false true = refl
or_back-bits_at true false false false = refl
or_back-bits_at false true true true = refl
or_back-bits_at false true true false = refl
or_back-bits_at false true false true = refl
or_back-bits_at false true false false = refl
or_back-bits_at false false true true = refl
or_back-bits_at false false true false = refl
or_back-bits_at false false false true = refl
or_back-bits_at false false false false = refl

pub or_back-bits : (x y : ℕ → Bool) → outputs_of (λ z y x. is_or x y z) x y ≡ bits_of (x 0 && (y 0 || y 1))
    ((x 0 && y 0) || (x 1 && y 1))
unfolding bits_where any_below
or_back-bits x y = or_back-bits_at (x 0) (x 1) (y 0) (y 1)

not-bits_at : (a b : Bool) → outputs_of (λ x u y. is_not x y) (pick a b) (pick a b) ≡ bits_of b a
unfolding bits_where any_below
not-bits_at true true = refl
not-bits_at true false = refl
not-bits_at false true = refl
not-bits_at false false = refl

pub not-bits : (x : ℕ → Bool) → outputs_of (λ x u y. is_not x y) x x ≡ bits_of (x 1) (x 0)
unfolding bits_where any_below
not-bits x = not-bits_at (x 0) (x 1)

pub twice : (b : Bool) → (b || b) ≡ b
twice true = refl
twice false = refl
