-- A rule made of two means what the one that it is means.
use Rattle.std.specs.Prelude.{List}
use Rattle.prop_lattice.specs.Points.{Point}
use Rattle.prop_lattice.specs.declared.info.Info.{Info}
use Rattle.prop_procedures.specs.declared.both.Both.{Both}
use Rattle.prop_procedures.specs.declared.both.Both.TheVariants.{One, Two}
use Rattle.prop_procedures.specs.declared.shape.Param.{Param}
use Rattle.prop_procedures.specs.declared.shape.Shape.{Shape}
use Rattle.prop_procedures.specs.declared.shape.Need.{Need}
use Rattle.prop_procedures.specs.Rules.{IsMonotone, KeepsKind, IsSound}
use Rattle.prop_procedures.specs.Both.{either_of}
use Rattle.prop_procedures.specs.Forms.{Form, HasFewInputs}

module _ {A B : Type 0} (form_a : A → List Shape → Shape → Need → Type 0)
    (form_b : B → List Shape → Shape → Need → Type 0) (value_a : A → Param → List Info → Info)
    (value_b : B → Param → List Info → Info) where
  pub either_monotone : ((rule : A) (ins : List Shape) (out : Shape) (need : Need)
      → form_a rule ins out need → IsMonotone (value_a rule) ins need)
      → ((rule : B) (ins : List Shape) (out : Shape) (need : Need) → form_b rule ins out need
      → IsMonotone (value_b rule) ins need)
      → (rule : Both A B) (ins : List Shape) (out : Shape) (need : Need)
      → either_of form_a form_b rule ins out need
      → IsMonotone (either_of value_a value_b rule) ins need
  either_monotone p q (One a) = p a
  either_monotone p q (Two b) = q b

  pub either_keeps : ((rule : A) (ins : List Shape) (out : Shape) (need : Need)
      → form_a rule ins out need → KeepsKind (value_a rule) ins out need)
      → ((rule : B) (ins : List Shape) (out : Shape) (need : Need) → form_b rule ins out need
      → KeepsKind (value_b rule) ins out need)
      → (rule : Both A B) (ins : List Shape) (out : Shape) (need : Need)
      → either_of form_a form_b rule ins out need
      → KeepsKind (either_of value_a value_b rule) ins out need
  either_keeps p q (One a) = p a
  either_keeps p q (Two b) = q b

  pub either_sound : (related_a : A → Param → List Point → Point → Type 0)
      (related_b : B → Param → List Point → Point → Type 0)
      → ((rule : A) (ins : List Shape) (out : Shape) (need : Need) → form_a rule ins out need
      → IsSound (value_a rule) (related_a rule) ins out need)
      → ((rule : B) (ins : List Shape) (out : Shape) (need : Need) → form_b rule ins out need
      → IsSound (value_b rule) (related_b rule) ins out need)
      → (rule : Both A B) (ins : List Shape) (out : Shape) (need : Need)
      → either_of form_a form_b rule ins out need
      → IsSound (either_of value_a value_b rule) (either_of related_a related_b rule) ins out need
  either_sound related_a related_b p q (One a) = p a
  either_sound related_a related_b p q (Two b) = q b

-- each stands in its one form
module _ {A B : Type 0} (one_a : A → Form) (one_b : B → Form) where
  pub either_few : ((rule : A) → HasFewInputs (one_a rule))
      → ((rule : B) → HasFewInputs (one_b rule))
      → (rule : Both A B) → HasFewInputs (either_of one_a one_b rule)
  either_few p q (One a) = p a
  either_few p q (Two b) = q b

  pub either_formed : (form_a : A → List Shape → Shape → Need → Type 0)
      (form_b : B → List Shape → Shape → Need → Type 0)
      → ((rule : A) → form_a rule (one_a rule).ins (one_a rule).out (one_a rule).need)
      → ((rule : B) → form_b rule (one_b rule).ins (one_b rule).out (one_b rule).need)
      → (rule : Both A B)
      → either_of form_a form_b rule (either_of one_a one_b rule).ins
      (either_of one_a one_b rule).out (either_of one_a one_b rule).need
  either_formed form_a form_b p q (One a) = p a
  either_formed form_a form_b p q (Two b) = q b
