-- What a search is asked for, and which points are excused once a plan is told, so that none of
-- them need be found.
use Rattle.std.specs.Prelude.{◌≡◌, ℕ, List, [], ◌∷◌, ◌++◌, Bool, true, false, cond, Option}
use Rattle.std.specs.Prelude.{Some, None}
use Rattle.std.specs.Prelude.{slice_get, All, ℤ, pos, ◌+ℤ◌, ◌-ℤ◌}
use Rattle.std.specs.Ordering.{int_eq}
use Rattle.std.specs.List.{AllZip}
use Rattle.prop_lattice.specs.Points.{Point}
use Rattle.prop_lattice.specs.declared.info.Info.{Info}
use Rattle.prop_lattice.specs.declared.info.Info.TheVariants.{Span, Set, Sym}
use Rattle.prop_lattice.specs.declared.span.Span.{Span as SpanOf}
use Rattle.prop_cells.specs.Points.{Attached}
use Rattle.prop_facts.specs.Facts.{IsInRange}
use Rattle.prop_facts.specs.declared.fact.Fact.{Fact}
use Rattle.prop_facts.specs.declared.fact.Fact.TheVariants.{AtLeast, AtMost, Is, Among, Same}
use Rattle.prop_facts.specs.declared.fact.Literal.{Literal}
use Rattle.prop_refuting.specs.Places.{IsSoAt, point_at}
use Rattle.prop_deriving.specs.Known.{IsExcused}
use Rattle.prop_solve.specs.declared.question.Goal.{Goal}
use Rattle.prop_solve.specs.declared.question.Goal.TheVariants.{Any, Least, Greatest, Differing}

-- the fact that says which single value the information leaves
abbrev pub value_fact : Info → Option Fact
value_fact (Span s) = cond (int_eq s.lo s.hi) (Some (Is s.lo)) None
value_fact (Set elements) = Some (Among elements)
value_fact (Sym symbol) = Some (Same symbol)
value_fact a = None

-- the literal says of the cell which value it has in the plan
pub record IsValueFact (values : List Info) (cell : ℕ) (fact : Literal) : Type 0 where
  pub place : fact.place ≡ cell
  pub info : Info
  pub at : slice_get values cell ≡ Some info
  pub same : value_fact info ≡ Some fact.fact

-- the only fact is about an end of the span that the plan gives the cell
abbrev pub IsEndOf : List Info → ℕ → (SpanOf → Fact) → List Literal → Type 0
IsEndOf values cell end facts = (s : SpanOf) × (slice_get values cell ≡ Some (Span s))
    × (facts ≡ record { place = cell; fact = end s } ∷ [])

-- The facts of a plan, where other points that have all of them are excused: of an optimum, that
-- the number is no better than in the plan, and of points that differ, that the named cells have
-- the same values. Where any points will do there are no facts.
abbrev pub AreExcusing : Goal → List ℕ → List Info → List Literal → Type 0
AreExcusing Any named values facts = facts ≡ []
AreExcusing (Least cell) named values facts = IsEndOf values cell (λ s. AtLeast s.lo) facts
AreExcusing (Greatest cell) named values facts = IsEndOf values cell (λ s. AtMost s.hi) facts
AreExcusing Differing named values facts = AllZip (IsValueFact values) named facts

-- What is excused once a plan is told. Where any points will do, nothing more is. For an optimum,
-- all that is no better than this plan is, in place of what was. Where points are to differ, what
-- is the same as this plan is excused too.
abbrev pub excused_then : Goal → List (List Literal) → List Literal → List (List Literal)
excused_then Any excuses facts = excuses
excused_then (Least cell) excuses facts = facts ∷ []
excused_then (Greatest cell) excuses facts = facts ∷ []
excused_then Differing excuses facts = excuses ++ facts ∷ []

-- an optimum is asked for
abbrev pub is_optimum : Goal → Bool
is_optimum (Least cell) = true
is_optimum (Greatest cell) = true
is_optimum goal = false

-- the literal says that the number of which an end is asked for is better than this end
abbrev pub IsBetter : Goal → ℤ → Literal → Type 0
IsBetter (Least cell) end x = x ≡ record { place = cell; fact = AtMost (end -ℤ pos 1) }
IsBetter (Greatest cell) end x = x ≡ record { place = cell; fact = AtLeast (end +ℤ pos 1) }
IsBetter goal end x = ⊥

-- the value of each place is no number, or one that spans may have
abbrev pub AreInRange : Attached → (ℕ → Point) → List ℕ → Type 0
AreInRange n points list = (place : ℕ) → IsInRange (point_at n points list place)

-- points in range that have all of the first facts have all of the others
abbrev pub Imply : List Literal → List Literal → Type 0
Imply before facts = (n : Attached) (points : ℕ → Point) (list : List ℕ)
    → AreInRange n points list → All (IsSoAt n points list) before
    → All (IsSoAt n points list) facts

-- points in range that were excused before are excused
abbrev pub Grow : List (List Literal) → List (List Literal) → Type 0
Grow before excuses = (n : Attached) (points : ℕ → Point) (list : List ℕ)
    → AreInRange n points list → IsExcused n before points list → IsExcused n excuses points list
