-- The procedures of the rules, made one by one, and the session with them.
use Rattle.std.proofs.Common.{◌≡◌, ◌∙◌, ℕ, zero, suc, ◌+◌, ◌<◌, ◌≤◌, ap, List, [], ◌∷◌, ◌++◌, length, map, take, get_or}
use Rattle.std.proofs.Common.{refl, All, codes, subst}
use Rattle.std.proofs.lemmas.List.{take_more, take_all, map-append}
use Rattle.std.proofs.lemmas.List.Elements.{All-head, All-tail}
use Rattle.std.proofs.lemmas.Option.{none-some, same_Some}
use Rattle.std.specs.Prelude.{slice_get, Some, IsSomeAnd, Result, Ok, Err, IfOk}
use Rattle.prop_lattice.specs.Points.{Point}
use Rattle.prop_procedures.specs.declared.both.Both.{Both}
use Rattle.prop_procedures.specs.declared.both.Both.TheVariants.{One, Two}
use Rattle.prop_procedures.specs.declared.shape.Param.{Param}
use Rattle.prop_procedures.specs.declared.shape.Shape.TheVariants.{Span}
use Rattle.prop_procedures.specs.declared.shape.Need.TheVariants.{Nothing}
use Rattle.prop_procedures.specs.declared.procedure.Procedure.{Procedure}
use Rattle.prop_procedures.specs.declared.library.Library.{Library}
use Rattle.prop_procedures.specs.Both.{either_of}
use Rattle.prop_procedures.specs.Rules.{IsSound}
use Rattle.prop_procedures.specs.Stored.{Stored}
use Rattle.prop_procedures.specs.Kept.{stored_as, stored_of}
use Rattle.prop_arith.specs.Kit.{in_order, form_of}
use Rattle.prop_arith.specs.Points.{Related}
use Rattle.prop_arith.specs.Values.{value_of}
use Rattle.prop_arith.specs.laws.KitLaws.{kit_sound}
use Rattle.prop_arith.specs.declared.kit.Kit.{Kit}
use Rattle.prop_cells.specs.Points.{AreSoundBy}
use Rattle.prop_engine.specs.Answers.{Answer}
use Rattle.prop_engine.specs.Transcripts.{Run}
use Rattle.prop_workbench.specs.Steps.{Shown, new_shown}
use Rattle.prop_workbench.specs.Engine.{learning}
use Rattle.prop_host_tests.specs.declared.host.Host.{Host}
use Rattle.prop_host_tests.specs.declared.host.Host.TheVariants.{Maxer}
use Rattle.prop_host_tests.specs.Host.{value_of as host_value, Related as host_points}
use Rattle.prop_host_tests.specs.laws.HostLaws.{host_sound}
use Rattle.prop_host_tests.specs.Answered.{host_rules, stored_rule, host_library, host_related, IsAnswered}

-- the procedure has the name, the form and the value of its rule
abbrev pub IsOfItsRule : {X : Type 0} {F : X → Type 0} {g : _} → Procedure (Both Kit Host) X F g → Type 0
IsOfItsRule p = stored_as (either_of value_of host_value) p ≡ stored_rule p.rule

pub is_of_kit : {X : Type 0} {F : X → Type 0} {g : _} → (p : Procedure (Both Kit Host) X F g) (k : Kit)
    → p.name.now ≡ (form_of k).name → p.ins.items ≡ (form_of k).ins → p.out ≡ (form_of k).out
    → p.need ≡ (form_of k).need → p.rule ≡ One k → IsOfItsRule p
is_of_kit p k n i o d r = rw (n, i, o, d, r) refl

pub is_of_host : {X : Type 0} {F : X → Type 0} {g : _} → (p : Procedure (Both Kit Host) X F g)
    → p.name.now ≡ codes "maxer" → p.ins.items ≡ Span ∷ Span ∷ [] → p.out ≡ Span → p.need ≡ Nothing → p.rule ≡ Two Maxer
    → IsOfItsRule p
is_of_host p n i o d r = rw (n, i, o, d, r) refl

-- one more procedure is of one more rule
pub ruled_more : {X : Type 0} {F : X → Type 0} {g : _}
    → (items all : List (Procedure (Both Kit Host) X F g)) (p : Procedure (Both Kit Host) X F g) (rules : List Kit)
    (i : ℕ) (d : Kit) → all ≡ items ++ p ∷ [] → i < length rules → p.rule ≡ One (get_or rules i d)
    → map (λ q. q.rule) items ≡ map One (take i rules) → map (λ q. q.rule) all ≡ map One (take (i + 1) rules)
ruled_more items all p rules i d e h s l =
    rw (
      e,
      map-append (λ q. q.rule) items (p ∷ []),
      l,
      s,
      take_more rules i d h,
      map-append {B = Both Kit Host} One (take i rules) (get_or rules i d ∷ []),
    ) refl

-- after the whole kit the host's rule is the last
pub all_ruled : {X : Type 0} {F : X → Type 0} {g : _}
    → (items all : List (Procedure (Both Kit Host) X F g)) (p : Procedure (Both Kit Host) X F g) (n : ℕ)
    → all ≡ items ++ p ∷ [] → length in_order ≤ n → p.rule ≡ Two Maxer
    → map (λ q. q.rule) items ≡ map One (take n in_order) → map (λ q. q.rule) all ≡ host_rules
all_ruled items all p n e h s l = rw (e, map-append (λ q. q.rule) items (p ∷ []), l, s, take_all n in_order h) refl

-- where each procedure is of its rule, the library is that of the rules
pub listed : {X : Type 0} {F : X → Type 0} {g : _} → (items : List (Procedure (Both Kit Host) X F g))
    → All IsOfItsRule items → map (λ p. p.rule) items ≡ host_rules
    → map (stored_as (either_of value_of host_value)) items ≡ host_library
listed {X} {F} {g} items h ruled = by items h ∙ ap (map stored_rule) ruled
  where
    by : (items : List (Procedure (Both Kit Host) X F g)) → All IsOfItsRule items
        → map (stored_as (either_of value_of host_value)) items ≡ map stored_rule (map (λ p. p.rule) items)
    by [] h = refl
    by (p ∷ rest) h = rw (All-head IsOfItsRule p rest h, by rest (All-tail IsOfItsRule p rest h)) refl

-- each rule's answers hold the points that it relates
pub host_is_sound : AreSoundBy host_library host_related
host_is_sound n p at = by host_rules n p at
  where
    of_rule : (rule : Both Kit Host) → IsSound (stored_rule rule).value (either_of Related host_points rule)
        (stored_rule rule).ins (stored_rule rule).out (stored_rule rule).need
    of_rule (One rule) = kit_sound rule (form_of rule).ins (form_of rule).out (form_of rule).need (refl, refl, refl)
    of_rule (Two Maxer) = host_sound Maxer (Span ∷ Span ∷ []) Span Nothing (refl, refl, refl)

    by : (rules : List (Both Kit Host)) (n : ℕ) (p : Stored) → slice_get (map stored_rule rules) n ≡ Some p
        → IsSound p.value (λ param points point.
        IsSomeAnd (slice_get rules n) (λ rule. either_of Related host_points rule param points point)) p.ins p.out
        p.need
    by [] n p at = absurd (none-some p at)
    by (rule ∷ rest) zero p at = let same : stored_rule rule ≡ p =
        same_Some (stored_rule rule) p at in rw (← same) (of_rule rule)
    by (rule ∷ rest) (suc k) p at = by rest k p at

-- what a new session with these procedures answered
pub answered : {X : Type 0} {F : X → Type 0} {g : _} {A E : Type 0}
    → (library : Library (Both Kit Host) X F g) (items : List (Procedure (Both Kit Host) X F g)) (s new : Shown)
    (lines : List (List ℕ)) (answers : A → List Answer) (result : Result A E) → library.procedures.items ≡ items
    → map (stored_as (either_of value_of host_value)) items ≡ host_library → s ≡ new_shown 1_000_000_000 →
    IfOk result (λ r. Run (learning (stored_of (either_of value_of host_value) library)) s lines (answers r) new)
    → IfOk result (λ r. IsAnswered lines (answers r))
answered library items s new lines answers (Ok r) same listed begun h =
    let stored : stored_of (either_of value_of host_value) library ≡ host_library =
    ap (map (stored_as (either_of value_of host_value))) same ∙ listed in
    (new, subst (λ (P : Type 0). P) (λ i. Run (learning (stored i)) (begun i) lines (answers r) new) h)
answered library items s new lines answers (Err e) same listed begun h = tt
