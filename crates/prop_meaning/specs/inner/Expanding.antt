-- The acts that a step becomes: they tell its cell from those of which it is made, and these from
-- it.
use Rattle.std.specs.Prelude.{◌≡◌, ℕ, ◌+◌, ◌^◌, ◌==◌, List, []}
use Rattle.std.specs.Prelude.{◌∷◌, ◌++◌, cond, nat_lt, Option, Some, None, map}
use Rattle.prop_lattice.specs.Ends.{span_from, elements_from}
use Rattle.prop_lattice.specs.declared.info.Info.{Info}
use Rattle.prop_lattice.specs.declared.info.Info.TheVariants.{Sym}
use Rattle.prop_arith.specs.declared.kit.Kit.TheVariants as kits
use Rattle.prop_wide.specs.declared.wide.Wide.TheVariants as wides
use Rattle.prop_meaning.specs.declared.acts.Rule.{Rule}
use Rattle.prop_meaning.specs.declared.acts.Rule.TheVariants.{OfKit, OfWide}
use Rattle.prop_meaning.specs.declared.acts.Inputs.{Inputs}
use Rattle.prop_meaning.specs.declared.acts.Inputs.TheVariants as inputs
use Rattle.prop_meaning.specs.declared.acts.Act.{Act}
use Rattle.prop_meaning.specs.declared.draft.Made.{Made}
use Rattle.prop_meaning.specs.declared.posting.Posted.{Posted}
use Rattle.prop_meaning.specs.declared.steps.Single as singles
use Rattle.prop_meaning.specs.declared.steps.Single.TheVariants.{Abs, Not}
use Rattle.prop_meaning.specs.declared.steps.Pair as pairs
use Rattle.prop_meaning.specs.declared.steps.Pair.TheVariants.{Sum, Difference, Product, Max, Min}
use Rattle.prop_meaning.specs.declared.steps.Pair.TheVariants.{Less, Same, And, Or}
use Rattle.prop_meaning.specs.declared.steps.Step.{Step}
use Rattle.prop_meaning.specs.declared.steps.Step.TheVariants as steps

abbrev pub act : Rule → Inputs → ℕ → Act
act rule ins out = record { rule = rule; inputs = ins; output = out }

-- the rules of a function of two cells: from both to the third, and back to the first and to the
-- second
pub record Rules : Type 0 where
  pub forth : Rule
  pub first : Rule
  pub second : Rule

abbrev pub rules : Rule → Rule → Rule → Rules
rules forth first second = record { forth = forth; first = first; second = second }

abbrev pub rules_of : pairs.Pair → Rules
rules_of Product = rules (OfKit kits.Mul) (OfKit kits.Div) (OfKit kits.Div)
rules_of Max = rules (OfWide wides.Max) (OfWide wides.MaxBack) (OfWide wides.MaxBack)
rules_of Min = rules (OfWide wides.Min) (OfWide wides.MinBack) (OfWide wides.MinBack)
rules_of Less = rules (OfKit kits.Less) (OfKit kits.Below) (OfKit kits.Above)
rules_of And = rules (OfKit kits.And) (OfKit kits.AndBack) (OfKit kits.AndBack)
rules_of Or = rules (OfKit kits.Or) (OfKit kits.OrBack) (OfKit kits.OrBack)
rules_of op = rules (OfKit kits.Add) (OfKit kits.Sub) (OfKit kits.Sub)

-- the acts of these rules, from x and y to z and back
abbrev pub all_ways : Rules → ℕ → ℕ → ℕ → List Act
all_ways r x y z = act r.forth (inputs.Two x y) z ∷ act r.first (inputs.Two z y) x
    ∷ act r.second (inputs.Two z x) y ∷ []

-- t tells whether x and y are the same
abbrev pub alike_acts : ℕ → ℕ → ℕ → List Act
alike_acts x y t = act (OfKit kits.Alike) (inputs.Two x y) t
    ∷ act (OfKit kits.Switch) (inputs.Two t x) y ∷ act (OfKit kits.Switch) (inputs.Two t y) x
    ∷ act (OfKit kits.Apart) (inputs.Three t x y) y ∷ act (OfKit kits.Apart) (inputs.Three t y x) x
    ∷ []

-- z is x times x
abbrev pub square_acts : ℕ → ℕ → List Act
square_acts x z =
    act (OfKit kits.Square) (inputs.One x) z ∷ act (OfKit kits.Root) (inputs.Two z x) x
    ∷ []

-- a difference is told as a sum: z and y make x
abbrev pub pair_acts : pairs.Pair → ℕ → ℕ → ℕ → List Act
pair_acts Same x y z = alike_acts x y z
pair_acts Difference x y z = all_ways (rules_of Sum) y z x
pair_acts Product x y z = cond (x == y) (square_acts x z) (all_ways (rules_of Product) x y z)
pair_acts op x y z = all_ways (rules_of op) x y z

abbrev pub single_acts : singles.Single → ℕ → ℕ → List Act
single_acts Not x y =
    act (OfKit kits.Not) (inputs.One x) y ∷ act (OfKit kits.Not) (inputs.One y) x ∷ []
single_acts Abs x y = act (OfWide wides.Abs) (inputs.One x) y
    ∷ act (OfWide wides.AbsBack) (inputs.Two y x) x ∷ []

-- z is x or y, as t tells; of the one that isn't chosen nothing is told
abbrev pub choice_acts : ℕ → ℕ → ℕ → ℕ → List Act
choice_acts t x y z = act (OfWide wides.Choose) (inputs.Three t x y) z
    ∷ act (OfWide wides.Decide) (inputs.Three x y z) t ∷ act (OfKit kits.Switch) (inputs.Two t z) x
    ∷ act (OfWide wides.Choose) (inputs.Three t y z) y ∷ []

abbrev pub quotient_acts : ℕ → ℕ → ℕ → List Act
quotient_acts x y z = act (OfWide wides.Quotient) (inputs.Two x y) z ∷ []

-- What is taken away (p) and what is left (z) make x, and z is something that a division by y may
-- leave.
abbrev pub left_acts : ℕ → ℕ → ℕ → ℕ → List Act
left_acts x p y z = act (OfKit kits.Add) (inputs.Two p z) x
    ∷ act (OfKit kits.Sub) (inputs.Two x z) p ∷ act (OfKit kits.Sub) (inputs.Two x p) z
    ∷ act (OfWide wides.Remainder) (inputs.One y) z
    ∷ act (OfWide wides.Divisor) (inputs.Two z y) y ∷ []

abbrev pub acts_of : Step → ℕ → List Act
acts_of (steps.One op x) place = single_acts op x place
acts_of (steps.Two op x y) place = pair_acts op x y place
acts_of (steps.Choice t x y) place = choice_acts t x y place
acts_of (steps.Quotient x y) place = quotient_acts x y place
acts_of (steps.Left x p y) place = left_acts x p y place
acts_of s place = []

-- the information that a constant's cell has; other steps have none
abbrev pub constant_of : Step → Option Info
constant_of (steps.Number z) = Some (span_from z z)
constant_of (steps.Element i) = Some (elements_from (cond (nat_lt i 64) (2 ^ i) 0))
constant_of (steps.Symbol n) = Some (Sym n)
constant_of s = None

abbrev pub constants_of : Step → ℕ → List (ℕ × Info)
constants_of s place = elim (constant_of s) [ None ↦ [] | Some info ↦ (place, info) ∷ [] ]

-- the acts of fresh cells, of which the first is at this place, and then their constants
abbrev pub all_acts : ℕ → List Made → List Act
all_acts place [] = []
all_acts place (m ∷ made) = acts_of m.step place ++ all_acts (place + 1) made

abbrev pub all_constants : ℕ → List Made → List (ℕ × Info)
all_constants place [] = []
all_constants place (m ∷ made) = constants_of m.step place ++ all_constants (place + 1) made

-- what the fresh cells of a draft become behind so many given ones, where the result is at this
-- place
pub record ArePosted (count : ℕ) (made : List Made) (posted : Posted) (place : ℕ) : Type 0 where
  pub fresh : posted.fresh.items ≡ map (λ m. m.known.kinded) made
  pub acts : posted.acts.items ≡ all_acts count made
  pub constants : posted.constants.items ≡ all_constants count made
  pub result : posted.result ≡ place
