-- What is told by the same ends is the same.
use Rattle.std.proofs.Common.{◌≡◌, ◌∙◌, ◌≤ℤ◌, ℤ, Bool, true, false, int_lt, if◌then◌else◌, refl, arith}
use Rattle.std.proofs.lemmas.Int.{ints}
use Rattle.prop_lattice.specs.declared.info.Info.{Info}
use Rattle.prop_lattice.specs.Ends.{span_from}
use Rattle.prop_wide.specs.Ends.{known, part_of}
use Rattle.prop_wide.specs.Quotients.{quotients_of}

pub span_from_is : (lo hi lo' hi' : ℤ) (r : Info) → r ≡ span_from lo hi → lo ≡ lo' → hi ≡ hi' → r ≡ span_from lo' hi'
span_from_is lo hi lo' hi' r e p q = e ∙ (λ i. span_from (p i) (q i))

pub known_is : (lo hi lo' hi' : ℤ) (r : Info) → r ≡ known lo hi → lo ≡ lo' → hi ≡ hi' → r ≡ known lo' hi'
known_is lo hi lo' hi' r e p q = e ∙ (λ i. known (p i) (q i))

pub part_is : (x : Info) (lo hi lo' hi' : ℤ) (r : Info) → r ≡ part_of x lo hi → lo ≡ lo' → hi ≡ hi'
    → r ≡ part_of x lo' hi'
part_is x lo hi lo' hi' r e p q = e ∙ (λ i. part_of x (p i) (q i))

pub quotients_is : (lo hi c d lo' hi' c' d' : ℤ) (r : Info) → r ≡ quotients_of lo hi c d → lo ≡ lo' → hi ≡ hi'
    → c ≡ c' → d ≡ d' → r ≡ quotients_of lo' hi' c' d'
quotients_is lo hi c d lo' hi' c' d' r e p q s t = e ∙ (λ i. quotients_of (p i) (q i) (s i) (t i))

-- where a is no less than b, the second of two is meant
pub not_less : (a b : ℤ) (x y r : Info) → b ≤ℤ a → r ≡ y → r ≡ (if int_lt a b then x else y)
not_less a b x y r l e = by (int_lt a b) refl
  where
    by : (t : Bool) → int_lt a b ≡ t → r ≡ (if t then x else y)
    by true f = absurd (omega (arith, ints))
    by false f = e
