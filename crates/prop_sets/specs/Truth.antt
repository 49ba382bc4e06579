-- Truth: the sets over the domain 0, of which element 0 is `yes` and element 1 is `no`.
use Rattle.std.specs.Prelude.{◌≡◌, ◌↔◌, ℕ, ◌<◌, Bool, true, false, not, ◌&&◌, ◌||◌, ◌==◌}
use Rattle.std.specs.Prelude.{if◌then◌else◌}
use Rattle.std.specs.Bool.{beq}
use Rattle.std.specs.Int.{bit_at}
use Rattle.prop_lattice.specs.Ends.{elements_from}
use Rattle.prop_lattice.specs.Points.{Element, Holds}
use Rattle.prop_lattice.specs.declared.info.Info.{Info}
use Rattle.prop_lattice.specs.declared.info.Info.TheVariants.{Nothing, Set}
use Rattle.prop_sets.specs.Chosen.{bits_where, any_below}

-- ---- which truths belong together

-- z is x and y
abbrev pub is_and : ℕ → ℕ → ℕ → Bool
is_and x y z = beq (z == 0) ((x == 0) && (y == 0))

-- z is x or y
abbrev pub is_or : ℕ → ℕ → ℕ → Bool
is_or x y z = beq (z == 0) ((x == 0) || (y == 0))

-- y is not x
abbrev pub is_not : ℕ → ℕ → Bool
is_not x y = beq (y == 0) (not (x == 0))

-- ---- what is left of an output

-- the information leaves the element
abbrev pub leaves : Info → ℕ → Bool
leaves x t = elim x [ Nothing ↦ true | Set s ↦ bit_at s.bits t == 1 | _ ↦ false ]

abbrev pub is_nothing : Info → Bool
is_nothing x = elim x [ Nothing ↦ true | _ ↦ false ]

-- What x and y tell of the output that is related to them: the truths z to which some truths belong
-- that x and y leave, a contradiction where there are none. Both truths, found where x or y is
-- unknown, are nothing.
abbrev pub truth_of : (ℕ → ℕ → ℕ → Bool) → Info → Info → Info
truth_of related x y =
    let bits = bits_where 2 (λ z. any_below 2
    (λ a. any_below 2 (λ b. (leaves x a && leaves y b) && related a b z))) in
    if (is_nothing x || is_nothing y) && (bits == 3) then Nothing else elements_from bits

-- ---- the same, said of each truth

-- some truth that x leaves is related to y
pub record IsLeftByOne (related : ℕ → ℕ → Type 0) (x : Info) (y : ℕ) : Type 0 where
  pub input : ℕ
  pub is_truth : input < 2
  pub left : Holds x (Element input)
  pub belongs : related input y

-- some truths that x and y leave are related to z
pub record IsLeftByTwo (related : ℕ → ℕ → ℕ → Type 0) (x y : Info) (z : ℕ) : Type 0 where
  pub first : ℕ
  pub second : ℕ
  pub first_is_truth : first < 2
  pub second_is_truth : second < 2
  pub first_left : Holds x (Element first)
  pub second_left : Holds y (Element second)
  pub belongs : related first second z

-- the information leaves just the truths of which P is true
abbrev pub LeavesJust : (ℕ → Type 0) → Info → Type 0
LeavesJust P r = (t : ℕ) → t < 2 → Holds r (Element t) ↔ P t

-- z is x and y
abbrev pub IsAnd : ℕ → ℕ → ℕ → Type 0
IsAnd x y z = is_and x y z ≡ true

-- z is x or y
abbrev pub IsOr : ℕ → ℕ → ℕ → Type 0
IsOr x y z = is_or x y z ≡ true

-- y is not x
abbrev pub IsNot : ℕ → ℕ → Type 0
IsNot x y = is_not x y ≡ true

-- z where it is x and y
abbrev pub and_of : Info → Info → Info
and_of = truth_of is_and

-- x where z is x and y
abbrev pub and_back_of : Info → Info → Info
and_back_of = truth_of (λ z y x. is_and x y z)

-- z where it is x or y
abbrev pub or_of : Info → Info → Info
or_of = truth_of is_or

-- x where z is x or y
abbrev pub or_back_of : Info → Info → Info
or_back_of = truth_of (λ z y x. is_or x y z)

-- y where it is not x
abbrev pub not_of : Info → Info
not_of x = truth_of (λ a b y. is_not a y) x x
