-- What is known of a term's value at points that satisfy a state.
use Rattle.std.specs.Prelude.{◌≡◌, ℕ, List, Some}
use Rattle.prop_lattice.specs.Points.{Point, Holds, IsPointOf}
use Rattle.prop_lattice.specs.declared.info.Info.TheVariants as infos
use Rattle.prop_lattice.specs.declared.info.Kind.TheVariants as kinds
use Rattle.prop_lattice.specs.declared.span.Span.{Span}
use Rattle.prop_numbers.specs.Sets.{Members}
use Rattle.prop_procedures.specs.Stored.{Stored}
use Rattle.prop_procedures.specs.declared.shape.Kinded.{Kinded}
use Rattle.prop_terms.specs.Meaning.{worth}
use Rattle.prop_terms.specs.Terms.{Term}
use Rattle.prop_workbench.specs.Machine.{State}
use Rattle.prop_workbench.specs.Points.{Satisfy}
use Rattle.prop_demands.specs.Naming.{names_in, value_in}

-- Whichever points satisfy the state, the term has a value: that of a point of the kind, which lies
-- in the span if it is a number.
abbrev pub IsKnownIn : List Stored → State → Term → Kinded → Span → Type 0
IsKnownIn library s t kinded span = (believed : Members) (points : ℕ → Point)
    → Satisfy library s believed points → (p : Point) × IsPointOf kinded.kind kinded.size p
    × (kinded.kind ≡ kinds.Span → Holds (infos.Span span) p)
    × (worth (names_in s points) t ≡ Some (value_in s kinded.kind p))
