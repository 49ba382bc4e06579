-- Rules that stand in one form each, and the procedures that a program makes of them.
use Rattle.std.specs.Prelude.{◌≡◌, ◌≤◌, ℕ, List, length, map, slice_get, IsSomeAnd}
use Rattle.prop_lattice.specs.Points.{Point}
use Rattle.prop_lattice.specs.declared.info.Info.{Info}
use Rattle.prop_procedures.specs.declared.shape.Param.{Param}
use Rattle.prop_procedures.specs.declared.shape.Shape.{Shape}
use Rattle.prop_procedures.specs.declared.shape.Need.{Need}
use Rattle.prop_procedures.specs.Stored.{Stored}

-- the name that a command uses, the shapes of the inputs and of the output, and the parameter that
-- is needed
pub record Form : Type 0 where
  pub name : List ℕ
  pub ins : List Shape
  pub out : Shape
  pub need : Need

-- the form with this name, these inputs, this output and this need
abbrev pub form : List ℕ → List Shape → Shape → Need → Form
form name ins out need = record { name = name; ins = ins; out = out; need = need }

-- the rule stands with these inputs, this output and this need: those of its form
abbrev pub HasForm : {R : Type 0} → (R → Form) → R → List Shape → Shape → Need → Type 0
HasForm form_of rule ins out need =
    (ins ≡ (form_of rule).ins) × (out ≡ (form_of rule).out) × (need ≡ (form_of rule).need)

-- a form has one to eight inputs
abbrev pub HasFewInputs : Form → Type 0
HasFewInputs form = (1 ≤ length form.ins) × (length form.ins ≤ 8)

-- the procedure that has the form and answers the value
abbrev pub stored : Form → (Param → List Info → Info) → Stored
stored f value = record { name = f.name; ins = f.ins; out = f.out; need = f.need; value = value }

-- the procedure of a rule
abbrev pub stored_rule : {R : Type 0} → (R → Form) → (R → Param → List Info → Info) → R → Stored
stored_rule form_of value rule = stored (form_of rule) (value rule)

-- the procedures of rules, in order
abbrev pub library_of : {R : Type 0} → (R → Form) → (R → Param → List Info → Info) → List R
    → List Stored
library_of form_of value rules = map (λ rule. stored (form_of rule) (value rule)) rules

-- the points that belong together at the procedure of this number
abbrev pub related_in : {R : Type 0} → (R → Param → List Point → Point → Type 0) → List R → ℕ
    → Param → List Point → Point → Type 0
related_in related rules n param points point =
    IsSomeAnd (slice_get rules n) (λ rule. related rule param points point)
