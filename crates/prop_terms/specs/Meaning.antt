-- What a term is worth.
use Rattle.std.specs.Prelude.{◌≡◌, ◌⊎◌, ℕ, zero, suc, ℤ, pos, negsuc, neg_ℤ, ◌≤ℤ◌, ◌<ℤ◌}
use Rattle.std.specs.Prelude.{◌+ℤ◌, ◌-ℤ◌, ◌*ℤ◌, int_le, int_lt}
use Rattle.std.specs.Prelude.{List, [], ◌∷◌, ◌++◌, Bool, true, false, cond, not, ◌&&◌, ◌||◌, codes}
use Rattle.std.specs.Prelude.{bytes_eq, map, Option, Some, None}
use Rattle.std.specs.Int.{int_div_euclid, int_max, int_min}
use Rattle.std.specs.Option.{option_map, option_and_then, option_map_or}
use Rattle.std.specs.List.{list_any}
use Rattle.prop_lattice.specs.Points.{Point, Element, Symbol}
use Rattle.prop_lattice.specs.Points as points
use Rattle.prop_terms.specs.declared.operators.Prefix.{Prefix}
use Rattle.prop_terms.specs.declared.operators.Prefix.TheVariants.{Negated, Not, If, Abs, Max, Min}
use Rattle.prop_terms.specs.declared.operators.Prefix.TheVariants.{Sum, Count, Different}
use Rattle.prop_terms.specs.declared.operators.Prefix.TheVariants.{Element as Lookup}
use Rattle.prop_terms.specs.declared.operators.Infix.{Infix}
use Rattle.prop_terms.specs.declared.operators.Infix.TheVariants.{Semicolon, Comma, Beside, Colon}
use Rattle.prop_terms.specs.declared.operators.Infix.TheVariants.{Then, Else, Iff, Implies, Xor, Or}
use Rattle.prop_terms.specs.declared.operators.Infix.TheVariants.{And, Equal, Unequal, Less, AtMost}
use Rattle.prop_terms.specs.declared.operators.Infix.TheVariants.{Greater, AtLeast, In, UpTo, Plus}
use Rattle.prop_terms.specs.declared.operators.Infix.TheVariants.{Minus, Times, Over, Remainder}
use Rattle.prop_terms.specs.declared.operators.Infix.TheVariants.{Power}
use Rattle.prop_terms.specs.declared.forming.Sort.TheVariants.{Truth}
use Rattle.prop_terms.specs.declared.forming.Place.TheVariants.{Single}
use Rattle.prop_terms.specs.Forming.{is_formed}
use Rattle.prop_terms.specs.Terms.{Term, Number, Name, One, Two, Braces}

-- ---- values

-- a whole number, or a word: an element's, a symbol's, `yes` or `no`
pub data Value : Type 0 where
  Whole : ℤ → Value
  Text : List ℕ → Value

-- what a point is, where its domain's elements and the symbols have these words
abbrev pub value_of : (ℕ → List ℕ) → (ℕ → List ℕ) → Point → Value
value_of elements symbols (points.Number z) = Whole z
value_of elements symbols (points.Element i) = Text (elements i)
value_of elements symbols (points.Symbol n) = Text (symbols n)

-- What names stand for: of a cell its value, and of any other word, as `yes` and `no`, the word
-- itself. And what belongs to a relation.
pub record Names : Type 0 where
  pub value : List ℕ → Value
  pub related : List ℕ → List Value → Bool

abbrev pub is_same : Value → Value → Bool
is_same (Whole x) (Whole y) = int_le x y && int_le y x
is_same (Text v) (Text w) = bytes_eq v w
is_same a b = false

abbrev pub is_equal : Bool → Bool → Bool
is_equal true b = b
is_equal false b = not b

abbrev pub truth : Bool → Option Value
truth b = Some (Text (cond b (codes "yes") (codes "no")))

-- whether it is yes
abbrev pub holds : Option Value → Bool
holds None = false
holds (Some v) = is_same v (Text (codes "yes"))

-- ---- numbers

-- the quotient rounded down, of which there is none by zero
abbrev pub quotient : ℤ → ℤ → Option ℤ
quotient x (pos zero) = None
quotient x (pos (suc n)) = Some (int_div_euclid x (pos (suc n)))
quotient x (negsuc n) = Some (int_div_euclid (neg_ℤ x) (pos (suc n)))

-- q is x divided by y and rounded down
abbrev pub IsRoundedDown : ℤ → ℤ → ℤ → Type 0
IsRoundedDown x y q =
    ((pos 0 <ℤ y) × ((q *ℤ y) ≤ℤ x) × (x <ℤ ((q *ℤ y) +ℤ y)))
    ⊎ ((y <ℤ pos 0) × (x ≤ℤ (q *ℤ y)) × (((q *ℤ y) +ℤ y) <ℤ x))

abbrev pub QuotientsAreRoundedDown : Type 0
QuotientsAreRoundedDown = (x y q : ℤ) → quotient x y ≡ Some q → IsRoundedDown x y q

abbrev pub power : ℤ → ℕ → ℤ
power x zero = pos 1
power x (suc n) = x *ℤ power x n

-- two whole numbers
abbrev pub computed : Infix → ℤ → ℤ → Option ℤ
computed Plus x y = Some (x +ℤ y)
computed Minus x y = Some (x -ℤ y)
computed Times x y = Some (x *ℤ y)
computed Over x y = quotient x y
computed Remainder x y = option_map (λ q. x -ℤ (q *ℤ y)) (quotient x y)
computed op x y = None

abbrev pub whole : Option Value → Option ℤ
whole None = None
whole (Some (Whole z)) = Some z
whole (Some (Text w)) = None

-- a function of one whole number, or of two
abbrev pub of_one : (ℤ → ℤ) → Option Value → Option Value
of_one f v = option_map (λ x. Whole (f x)) (whole v)

abbrev pub of_two : (ℤ → ℤ → Option ℤ) → Option Value → Option Value → Option Value
of_two f v w =
    option_and_then (λ x. option_and_then (λ y. option_map Whole (f x y)) (whole w)) (whole v)

-- the values, where each has one
abbrev pub all_of : {V : Type 0} → List (Option V) → Option (List V)
all_of [] = Some []
all_of (None ∷ vs) = None
all_of (Some v ∷ vs) = option_map (λ rest. v ∷ rest) (all_of vs)

-- what f makes of the first and the others, one after another
abbrev pub folded : (ℤ → ℤ → ℤ) → ℤ → List ℤ → ℤ
folded f x [] = x
folded f x (y ∷ ys) = folded f (f x y) ys

abbrev pub gathered : (ℤ → ℤ → ℤ) → List ℤ → Option Value
gathered f [] = None
gathered f (x ∷ xs) = Some (Whole (folded f x xs))

-- the same of values that are all whole numbers
abbrev pub of_all : (ℤ → ℤ → ℤ) → List (Option Value) → Option Value
of_all f vs = option_and_then (gathered f) (all_of (map whole vs))

-- ---- truths

-- two values, where both are
abbrev pub compared : Infix → Value → Value → Bool
compared Equal v w = is_same v w
compared Unequal v w = not (is_same v w)
compared Less (Whole x) (Whole y) = int_lt x y
compared AtMost (Whole x) (Whole y) = int_le x y
compared Greater (Whole x) (Whole y) = int_lt y x
compared AtLeast (Whole x) (Whole y) = int_le y x
compared op v w = false

-- a comparison, which is false where a side has no value
abbrev pub comparison : Infix → Option Value → Option Value → Bool
comparison op (Some v) (Some w) = compared op v w
comparison op v w = false

-- no two are the same, and each has a value
abbrev pub are_different : List (Option Value) → Bool
are_different [] = true
are_different (v ∷ vs) = comparison Equal v v && (not (list_any (comparison Equal v) vs))
    && are_different vs

abbrev pub count_of : List (Option Value) → ℕ
count_of [] = 0
count_of (v ∷ vs) = cond (holds v) (suc (count_of vs)) (count_of vs)

-- ---- terms

-- a word or a number as it stands, and not what it stands for
abbrev pub label : Term → Option Value
label (Name w) = Some (Text w)
label (Number n) = Some (Whole (pos n))
label (One Negated t) = of_one neg_ℤ (label t)
label t = None

-- those in braces
abbrev pub labels : Term → List (Option Value)
labels (Two Beside t u) = labels t ++ label u ∷ []
labels (Two Comma t u) = labels t ++ label u ∷ []
labels t = label t ∷ []

abbrev pub exponent : Term → Option ℕ
exponent (Number n) = Some n
exponent t = None

-- an operator before a term that is worth v, or in whose list the terms are worth vs
abbrev pub applied : Prefix → Option Value → List (Option Value) → Option Value
applied Negated v vs = of_one neg_ℤ v
applied Not v vs = truth (not (holds v))
applied Abs v vs = of_one (λ x. int_max x (neg_ℤ x)) v
applied Max v vs = of_all int_max vs
applied Min v vs = of_all int_min vs
applied Sum v vs = of_all (λ x y. x +ℤ y) vs
applied Count v vs = Some (Whole (pos (count_of vs)))
applied Different v vs = truth (are_different vs)
applied If v vs = v
applied Lookup v vs = v

-- an operator between two terms that are worth v and w
abbrev pub combined : Infix → Option Value → Option Value → Option Value
combined And v w = truth (holds v && holds w)
combined Or v w = truth (holds v || holds w)
combined Xor v w = truth (not (is_equal (holds v) (holds w)))
combined Iff v w = truth (is_equal (holds v) (holds w))
combined Implies v w = truth (not (holds v) || holds w)
combined Equal v w = truth (comparison Equal v w)
combined Unequal v w = truth (comparison Unequal v w)
combined Less v w = truth (comparison Less v w)
combined AtMost v w = truth (comparison AtMost v w)
combined Greater v w = truth (comparison Greater v w)
combined AtLeast v w = truth (comparison AtLeast v w)
combined op v w = of_two (computed op) v w

-- what stands behind the first label that is the same
abbrev pub looked_up : Option Value → List (Option Value × Option Value) → Option Value
looked_up v [] = None
looked_up v ((l, w) ∷ rows) = cond (comparison Equal v l) w (looked_up v rows)

-- what a term is worth, where it has a value
abbrev mutual
  pub worth : Names → Term → Option Value
  worth names (Number n) = Some (Whole (pos n))
  worth names (Name w) = Some (names.value w)
  worth names (One op t) = applied op (worth names t) (each names t (worth names t))
  worth names (Two Then t u) = cond (holds (worth names t)) (ways names u).0 (ways names u).1
  worth names (Two Semicolon t u) = looked_up (worth names t) (rows names u)
  worth names (Two In t u) = truth (is_in names u (each names t (worth names t)))
  worth names (Two Power t u) =
      option_and_then (λ n. of_one (λ x. power x n) (worth names t)) (exponent u)
  worth names (Two op t u) = combined op (worth names t) (worth names u)
  worth names (Braces t) = None

  -- what the terms are worth between which commas stand, or the one that there is, worth v
  pub each : Names → Term → Option Value → List (Option Value)
  each names (Two Comma t u) v = each names t (worth names t) ++ worth names u ∷ []
  each names t v = v ∷ []

  -- the two ways of a choice
  pub ways : Names → Term → Option Value × Option Value
  ways names (Two Else t u) = (worth names t, worth names u)
  ways names t = (None, None)

  -- labels with what stands behind them
  pub rows : Names → Term → List (Option Value × Option Value)
  rows names (Two Comma t u) = rows names t ++ rows names u
  rows names (Two Colon t u) = (label t, worth names u) ∷ []
  rows names t = []

  -- these values are in a range, among words, or related
  pub is_in : Names → Term → List (Option Value) → Bool
  is_in names (Two UpTo t u) (v ∷ []) =
      comparison AtMost (worth names t) v && comparison AtMost v (worth names u)
  is_in names (Braces t) (v ∷ []) = list_any (comparison Equal v) (labels t)
  is_in names (Name r) vs = option_map_or (names.related r) (all_of vs) false
  is_in names t vs = false

-- an operator between two terms that may stand where a truth is wanted is worth one, whatever its
-- sides are worth
abbrev pub TruthsHaveValues : Type 0
TruthsHaveValues =
    (names : Names) (op : Infix) (t u : Term) → is_formed (Two op t u) (Single Truth) ≡ true
    → (b : Bool) × (worth names (Two op t u) ≡ truth b)
