-- The procedures that a program makes of its rules, one after another.
use Rattle.std.proofs.Common.{◌≡◌, ℕ, zero, suc, ◌+◌, ◌<◌, ◌≤◌, ap, List, [], ◌∷◌, ◌++◌, length, map, take, get_or}
use Rattle.std.proofs.Common.{refl}
use Rattle.std.proofs.lemmas.List.{take_more, take_all, map-append}
use Rattle.std.specs.Prelude.{Some, slice_get}
use Rattle.std.proofs.lemmas.Option.{none-some, same_Some}
use Rattle.prop_lattice.specs.Points.{Point}
use Rattle.prop_lattice.specs.declared.info.Info.{Info}
use Rattle.prop_procedures.specs.declared.shape.Param.{Param}
use Rattle.prop_procedures.specs.declared.shape.Shape.{Shape}
use Rattle.prop_procedures.specs.declared.shape.Need.{Need}
use Rattle.prop_procedures.specs.Forms.{Form, stored_rule, library_of, related_in}
use Rattle.prop_procedures.specs.Rules.{IsSound}
use Rattle.prop_procedures.specs.Stored.{Stored}
use Rattle.prop_procedures.specs.Kept.{stored_as}
use Rattle.prop_procedures.specs.declared.procedure.Procedure.{Procedure}
use Rattle.prop_cells.specs.Points.{AreSoundBy}

module _ {R : Type 0} (form_of : R → Form) (value : R → Param → List Info → Info) where
  -- a procedure with the name, the form and the value of a rule
  pub stored_is : {X : Type 0} {F : X → Type 0} {g : _} → (p : Procedure R X F g) (rule : R)
      → p.name.now ≡ (form_of rule).name → p.ins.items ≡ (form_of rule).ins → p.out ≡ (form_of rule).out
      → p.need ≡ (form_of rule).need → p.rule ≡ rule → stored_as value p ≡ stored_rule form_of value rule
  stored_is p rule n i o d r = rw (n, i, o, d, r) refl

  -- one more procedure is that of one more rule
  pub listed_more : {X : Type 0} {F : X → Type 0} {g : _}
      → (items all : List (Procedure R X F g)) (p : Procedure R X F g) (rules : List R) (i : ℕ) (d : R)
      → all ≡ items ++ p ∷ [] → i < length rules → stored_as value p ≡ stored_rule form_of value (get_or rules i d)
      → map (stored_as value) items ≡ map (stored_rule form_of value) (take i rules)
      → map (stored_as value) all ≡ map (stored_rule form_of value) (take (i + 1) rules)
  listed_more items all p rules i d e h s l =
      rw (
        e,
        map-append (stored_as value) items (p ∷ []),
        l,
        s,
        take_more rules i d h,
        map-append (stored_rule form_of value) (take i rules) (get_or rules i d ∷ []),
      ) refl

  -- where each rule had its turn, all are listed
  pub all_listed : (rules : List R) (n : ℕ) → length rules ≤ n
      → map (stored_rule form_of value) (take n rules) ≡ library_of form_of value rules
  all_listed rules n l = ap (map (stored_rule form_of value)) (take_all n rules l)

  -- where each rule's answers hold the points that it relates, the library's do
  pub library_is_sound : (related : R → Param → List Point → Point → Type 0)
      (form : R → List Shape → Shape → Need → Type 0)
      → ((rule : R) → form rule (form_of rule).ins (form_of rule).out (form_of rule).need)
      → ((rule : R) (ins : List Shape) (out : Shape) (need : Need) → form rule ins out need
      → IsSound (value rule) (related rule) ins out need)
      → (rules : List R) → AreSoundBy (library_of form_of value rules) (related_in related rules)
  library_is_sound related form formed sound rules n p at = by rules n p at
    where
      by : (rules : List R) (n : ℕ) (p : Stored) → slice_get (library_of form_of value rules) n ≡ Some p
          → IsSound p.value (related_in related rules n) p.ins p.out p.need
      by [] n p at = absurd (none-some p at)
      by (rule ∷ rest) zero p at = let same : stored_rule form_of value rule ≡ p =
          same_Some (stored_rule form_of value rule) p at in rw (← same)
          (sound rule (form_of rule).ins (form_of rule).out (form_of rule).need (formed rule))
      by (rule ∷ rest) (suc k) p at = by rest k p at
