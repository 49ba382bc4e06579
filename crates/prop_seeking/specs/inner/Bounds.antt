-- Bounds: how good an answer can still be.
use Rattle.std.specs.Prelude.{◌≡◌, ◌<◌, ◌≤ℤ◌, ℕ, ℤ, List, [], ◌∷◌, Some, length, slice_get}
use Rattle.prop_lattice.specs.declared.info.Info.{Info}
use Rattle.prop_lattice.specs.declared.info.Info.TheVariants.{Span}
use Rattle.prop_lattice.specs.declared.info.Kind.TheVariants.{Span as SpanKind}
use Rattle.prop_lattice.specs.declared.span.Span.{Span as SpanOf}
use Rattle.prop_premises.specs.Origins.{believed_in, choices_of}
use Rattle.prop_procedures.specs.declared.shape.Kinded.{Kinded}
use Rattle.prop_procedures.specs.Fitting.{kind_at}
use Rattle.prop_facts.specs.declared.fact.Literal.{Literal}
use Rattle.prop_plans.specs.Held.{attached_of}
use Rattle.prop_deriving.specs.Known.{IsKnown}
use Rattle.prop_solve.specs.Questions.{IsBetter}
use Rattle.prop_solve.specs.Searches.{Search}
use Rattle.prop_solve.specs.declared.question.Goal.{Goal}
use Rattle.prop_solve.specs.declared.question.Goal.TheVariants.{Least, Greatest}
use Rattle.prop_seeking.specs.inner.Seekers.{Ground}

-- the goal asks for a least or a greatest number of this cell, and the number of the value is no
-- better than `end`
abbrev pub IsWithin : Goal → ℕ → SpanOf → ℤ → Type 0
IsWithin (Least x) cell found end = (x ≡ cell) × (end ≤ℤ found.lo)
IsWithin (Greatest x) cell found end = (x ≡ cell) × (found.hi ≤ℤ end)
IsWithin goal cell found end = ⊥

-- The information has the number `end` alone. The cell is one for numbers, and its number among the
-- values is no better than `end`.
pub record Bounds (kinds : List Kinded) (goal : Goal) (values : List Info) (end : ℤ) (cell : ℕ)
    (a : Info) : Type 0 where
  pub there : cell < length kinds
  pub number : (kind_at kinds cell).kind ≡ SpanKind
  pub found : SpanOf
  pub value : slice_get values cell ≡ Some (Span found)
  pub within : IsWithin goal cell found end
  pub alone : SpanOf
  pub same : (alone.lo ≡ end) × (alone.hi ≡ end)
  pub is : a ≡ Span alone

-- It is known that no points are better than this end, but excused ones, of those that satisfy what
-- these believed premises say with any choice list.
abbrev pub IsBarred : Ground → Search → ℤ → List ℕ → Type 0
IsBarred g s end by = (x : Literal) × IsBetter s.goal end x
    × IsKnown g.library (attached_of g.cells) (choices_of g.premises) (believed_in g.premises)
    s.excuses (record { literals = x ∷ []; premises = by })
