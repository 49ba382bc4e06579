-- A rule that is of one of two types: what is known of the rules of each without a call is known of
-- it.
use Rattle.std.specs.Prelude.{ℕ, ℤ, Bool, List, Option}
use Rattle.prop_lattice.specs.Points.{Point}
use Rattle.prop_lattice.specs.declared.info.Info.{Info}
use Rattle.prop_procedures.specs.Both.{either_of}
use Rattle.prop_procedures.specs.declared.both.Both.{Both}
use Rattle.prop_procedures.specs.declared.both.Both.TheVariants.{One, Two}
use Rattle.prop_procedures.specs.declared.shape.Param.{Param}
use Rattle.prop_guards.specs.Guards.{AreSilent, AreRepeated, AreRuledOut, IsOwn}

module _ {A B : Type 0} (value_a : A → Param → List Info → Info)
    (value_b : B → Param → List Info → Info) where
  pub either_silent : (test_a : A → Param → List Info → Bool)
      (test_b : B → Param → List Info → Bool)
      → ((rule : A) → AreSilent (value_a rule) (test_a rule))
      → ((rule : B) → AreSilent (value_b rule) (test_b rule)) → (rule : Both A B)
      → AreSilent (either_of value_a value_b rule) (either_of test_a test_b rule)
  either_silent test_a test_b p q (One a) = p a
  either_silent test_a test_b p q (Two b) = q b

  pub either_repeated : (own_a : A → Option ℕ) (own_b : B → Option ℕ)
      (test_a : A → Param → List Info → Bool) (test_b : B → Param → List Info → Bool)
      → ((rule : A) → AreRepeated (value_a rule) (own_a rule) (test_a rule))
      → ((rule : B) → AreRepeated (value_b rule) (own_b rule) (test_b rule)) → (rule : Both A B)
      → AreRepeated (either_of value_a value_b rule) (either_of own_a own_b rule)
      (either_of test_a test_b rule)
  either_repeated own_a own_b test_a test_b p q (One a) = p a
  either_repeated own_a own_b test_a test_b p q (Two b) = q b

  pub either_barred : (related_a : A → Param → List Point → Point → Type 0)
      (related_b : B → Param → List Point → Point → Type 0) (own_a : A → Option ℕ)
      (own_b : B → Option ℕ) (told_a : A → Param → List Info → ℕ → Option ℤ)
      (told_b : B → Param → List Info → ℕ → Option ℤ)
      → ((rule : A) → AreRuledOut (value_a rule) (related_a rule) (own_a rule) (told_a rule))
      → ((rule : B) → AreRuledOut (value_b rule) (related_b rule) (own_b rule) (told_b rule))
      → (rule : Both A B)
      → AreRuledOut (either_of value_a value_b rule) (either_of related_a related_b rule)
      (either_of own_a own_b rule) (either_of told_a told_b rule)
  either_barred related_a related_b own_a own_b told_a told_b p q (One a) = p a
  either_barred related_a related_b own_a own_b told_a told_b p q (Two b) = q b

pub either_own : {A B : Type 0} → (related_a : A → Param → List Point → Point → Type 0)
    (related_b : B → Param → List Point → Point → Type 0) (own_a : A → Option ℕ)
    (own_b : B → Option ℕ) → ((rule : A) → IsOwn (related_a rule) (own_a rule))
    → ((rule : B) → IsOwn (related_b rule) (own_b rule)) → (rule : Both A B)
    → IsOwn (either_of related_a related_b rule) (either_of own_a own_b rule)
either_own related_a related_b own_a own_b p q (One a) = p a
either_own related_a related_b own_a own_b p q (Two b) = q b
