-- What lines are answered in a session with the kit's procedures and the host's.
use Rattle.std.specs.Prelude.{ℕ, List, [], ◌∷◌, ◌++◌, map, codes, slice_get, IsSomeAnd}
use Rattle.prop_lattice.specs.Points.{Point}
use Rattle.prop_procedures.specs.declared.both.Both.{Both}
use Rattle.prop_procedures.specs.declared.both.Both.TheVariants.{One, Two}
use Rattle.prop_procedures.specs.declared.shape.Param.{Param}
use Rattle.prop_procedures.specs.declared.shape.Shape.TheVariants.{Span}
use Rattle.prop_procedures.specs.declared.shape.Need.TheVariants.{Nothing}
use Rattle.prop_procedures.specs.Both.{either_of}
use Rattle.prop_procedures.specs.Stored.{Stored}
use Rattle.prop_arith.specs.Kit.{in_order, form_of}
use Rattle.prop_arith.specs.Points.{Related}
use Rattle.prop_arith.specs.Values.{value_of}
use Rattle.prop_arith.specs.declared.kit.Kit.{Kit}
use Rattle.prop_engine.specs.Answers.{Answer}
use Rattle.prop_engine.specs.Transcripts.{Run}
use Rattle.prop_workbench.specs.Steps.{Shown, new_shown}
use Rattle.prop_workbench.specs.Engine.{learning}
use Rattle.prop_host_tests.specs.declared.host.Host.{Host}
use Rattle.prop_host_tests.specs.declared.host.Host.TheVariants.{Maxer}
use Rattle.prop_host_tests.specs.Host.{value_of as host_value, Related as host_points}

-- the rules of the kit in order, and the host's
abbrev pub host_rules : List (Both Kit Host)
host_rules = map One in_order ++ Two Maxer ∷ []

-- the procedure of a rule
abbrev pub stored_rule : Both Kit Host → Stored
stored_rule (One rule) = record {
  name = (form_of rule).name;
  ins = (form_of rule).ins;
  out = (form_of rule).out;
  need = (form_of rule).need;
  value = value_of rule;
}
stored_rule (Two Maxer) = record {
  name = codes "maxer";
  ins = Span ∷ Span ∷ [];
  out = Span;
  need = Nothing;
  value = host_value Maxer;
}

-- the procedures of the rules, in order
abbrev pub host_library : List Stored
host_library = map stored_rule host_rules

-- the points that belong together at the procedure of this number
abbrev pub host_related : ℕ → Param → List Point → Point → Type 0
host_related n param points point =
    IsSomeAnd (slice_get host_rules n)
    (λ rule. either_of Related host_points rule param points point)

-- a new session with these procedures may give these answers to these lines, one after another
abbrev pub IsAnswered : List (List ℕ) → List Answer → Type 0
IsAnswered lines answers = (new : Shown)
    × Run (learning host_library) (new_shown 1_000_000_000) lines answers new
