-- What may be known of a rule's answers without a call: that the answer is nothing, that it is one
-- of the arguments, or that the output can't be some number.
use Rattle.std.specs.Prelude.{◌≡◌, ℕ, ℤ, Bool, List, Option, Some, IsTrue, IfSome, IsSomeAnd}
use Rattle.std.specs.Prelude.{slice_get, slice_set}
use Rattle.prop_lattice.specs.Points.{Point, Number, Holds}
use Rattle.prop_lattice.specs.declared.info.Info.{Info}
use Rattle.prop_lattice.specs.declared.info.Info.TheVariants.{Nothing}
use Rattle.prop_procedures.specs.Rules.{AreClear, EachHolds}
use Rattle.prop_procedures.specs.declared.shape.Param.{Param}
use Rattle.prop_guards.specs.Known.{just}

-- where the test holds, and no argument is a contradiction, the answer is nothing
abbrev pub AreSilent : (Param → List Info → Info) → (Param → List Info → Bool) → Type 0
AreSilent value test = (param : Param) (args : List Info) → AreClear args → IsTrue (test param args)
    → value param args ≡ Nothing

-- the answer is the argument at this place
abbrev pub IsArgument : List Info → Option ℕ → Info → Type 0
IsArgument args own answer = IsSomeAnd own (λ place. slice_get args place ≡ Some answer)

-- where the test holds, the answer is the argument at the rule's own place
abbrev pub AreRepeated : (Param → List Info → Info) → Option ℕ → (Param → List Info → Bool)
    → Type 0
AreRepeated value own test = (param : Param) (args : List Info) → IsTrue (test param args)
    → IsArgument args own (value param args)

-- the output's point is that of the input at this place, where one is told
abbrev pub IsOwn : (Param → List Point → Point → Type 0) → Option ℕ → Type 0
IsOwn related own = (param : Param) (points : List Point) (point : Point)
    → related param points point → IfSome own (λ place. slice_get points place ≡ Some point)

-- The output can't be the number v. It belongs to no points of the arguments; and if the argument
-- at the rule's own place leaves only v, the answer leaves v out.
pub record IsRuledOut (value : Param → List Info → Info)
    (related : Param → List Point → Point → Type 0) (own : Option ℕ) (param : Param)
    (args : List Info) (v : ℤ) : Type 0 where
  pub belongs_to_none : (points : List Point) → EachHolds args points
      → ¬ (related param points (Number v))
  pub left_out : IsSomeAnd own
      (λ place. ¬ (Holds (value param (slice_set args place (just v))) (Number v)))

-- each number that is told of a place is ruled out
abbrev pub AreRuledOut : (Param → List Info → Info) → (Param → List Point → Point → Type 0)
    → Option ℕ → (Param → List Info → ℕ → Option ℤ) → Type 0
AreRuledOut value related own told = (param : Param) (args : List Info) (place : ℕ)
    → IfSome (told param args place) (IsRuledOut value related own param args)
