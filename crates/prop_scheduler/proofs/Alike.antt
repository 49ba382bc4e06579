-- An order that picks one place alone determines the calls.
use Rattle.std.proofs.Common.{◌≡◌, ◌∙◌, if◌then◌else◌, ℕ, Bool, true, false, List, [], Option, Some}
use Rattle.std.proofs.Common.{length, refl, sym, ap, subst, arith, slice_get, inl, inr}
use Rattle.std.proofs.lemmas.Bool.Decides.{eqb_tells}
use Rattle.prop_lattice.specs.declared.info.Info.{Info}
use Rattle.prop_lattice.specs.Order.{merge_of}
use Rattle.prop_procedures.specs.Stored.{Stored}
use Rattle.prop_contents.specs.Contents.{beliefs}
use Rattle.prop_cells.specs.Problems.{Assignment, value_at}
use Rattle.prop_cells.specs.inner.Problems.{Premises}
use Rattle.prop_cells.specs.Instances.{constraint_of, readers_of}
use Rattle.prop_cells.specs.Data.{Data, Merges}
use Rattle.prop_scheduler.specs.Agendas.{all_alerted, without}
use Rattle.prop_scheduler.specs.Shifts.{Stirs}
use Rattle.prop_scheduler.specs.Shifts.Stirs.{none as untouched, as_before, stirred}
use Rattle.prop_scheduler.specs.Turns.{Turn, Turns}
use Rattle.prop_scheduler.specs.Turns.Turns.{none, more}
use Rattle.prop_scheduler.specs.Alike.{IsDeterminate, AreAlike, StirsOnce, TurnsAlike}
use Rattle.prop_scheduler.specs.Orders.{picks_first, picks_last, picks_mixed, mixed_place}

-- ---- what waits once cells were gone through

stirs_once : (wakes : ℕ → List ℕ) (s t : Premises) (old new : Data) (line : List ℕ) (n m : ℕ) (a b : List ℕ) → n ≡ m
    → Stirs wakes s t old new line n a → Stirs wakes s t old new line m b → a ≡ b
stirs_once wakes s t old new line _ _ _ _ e untouched untouched = refl
stirs_once wakes s t old new line _ _ _ _ e untouched (as_before m b g y) = absurd (omega (arith, e))
stirs_once wakes s t old new line _ _ _ _ e untouched (stirred m b g y) = absurd (omega (arith, e))
stirs_once wakes s t old new line _ _ _ _ e (as_before n a h x) untouched = absurd (omega (arith, e))
stirs_once wakes s t old new line _ _ _ _ e (stirred n a h x) untouched = absurd (omega (arith, e))
stirs_once wakes s t old new line _ _ _ _ e (as_before n a h x) (as_before m b g y) =
    stirs_once wakes s t old new line n m a b (omega (arith, e)) h g
stirs_once wakes s t old new line _ _ _ _ e (as_before n a h x) (stirred m b g y) =
    let is : n ≡ m = omega (arith, e) in
    absurd (y (subst (λ k. beliefs s old.contents k ≡ beliefs t new.contents k) is x))
stirs_once wakes s t old new line _ _ _ _ e (stirred n a h x) (as_before m b g y) =
    let is : m ≡ n = omega (arith, e) in
    absurd (x (subst (λ k. beliefs s old.contents k ≡ beliefs t new.contents k) is y))
stirs_once wakes s t old new line _ _ _ _ e (stirred n a h x) (stirred m b g y) =
    let is : n ≡ m = omega (arith, e) in
    let waits = stirs_once wakes s t old new line n m a b is h g in
    λ i. all_alerted (waits i) (wakes (is i))

pub stirs_are_one : StirsOnce
stirs_are_one wakes s t old new line n a b h g = stirs_once wakes s t old new line n n a b refl h g

-- ---- one call

-- the same merged into the same is the same, and grows alike
merges_alike : (a b a' b' : Assignment) (cell : ℕ) (v : Info) (grown other : Bool) → a ≡ b → Merges a a' cell v grown
    → Merges b b' cell v other → (a' ≡ b') × (grown ≡ other)
merges_alike a b a' b' cell v grown other alike first second = (after, grows grown other refl refl)
  where
    each : (k : ℕ) → a' k ≡ b' k
    each k = elim (eqb_tells k cell) as (λ _. a' k ≡ b' k) [
      | inl is ↦ rw is.1 (first.at.merged ∙ (λ i. merge_of (alike i cell) v) ∙ sym second.at.merged)
      | inr not ↦ first.at.others k not.1 ∙ (λ i. alike i k) ∙ sym (second.at.others k not.1)
    ]

    after : a' ≡ b'
    after = λ i k. each k i

    grows : (g h : Bool) → grown ≡ g → other ≡ h → g ≡ h
    grows true true p q = refl
    grows false false p q = refl
    grows true false p q =
        absurd (first.changed p (each cell ∙ second.unchanged q ∙ (λ i. sym alike i cell)))
    grows false true p q =
        absurd (second.changed q (sym (each cell) ∙ first.unchanged p ∙ (λ i. alike i cell)))

some_same : {X : Type 0} {x y : X} {o : Option X} → o ≡ Some x → o ≡ Some y → x ≡ y
some_same p q = cc (p, q)

module _ {O : Type 0} (library : List Stored) (s : Premises) where
  turn_alike : (place p : ℕ) (d e d' e' : Data) (line other line' other' : List ℕ) (order next order' next' : O)
      → place ≡ p → order' ≡ next' → AreAlike O s d e line other order next
      → Turn library s place d d' line line' → Turn library s p e e' other other'
      → AreAlike O s d' e' line' other' order' next'
  turn_alike place p d e d' e' line other line' other' order next order' next' at orders alike first second =
      let waits : slice_get line place ≡ slice_get other p = λ i. slice_get (alike.lines i) (at i) in
      let called : first.called ≡ second.called = some_same first.waits (waits ∙ second.waits) in
      let stands : slice_get d.instances first.called ≡ slice_get e.instances second.called =
      λ i. slice_get (alike.instances i) (called i) in
      let instance : first.instance ≡ second.instance = some_same first.at (stands ∙ second.at) in
      let x = first.calls.calls first.instance first.at in
      let y = second.calls.calls first.instance (second.at ∙ ap Some (sym instance)) in
      let value : value_at (constraint_of library first.instance) (beliefs s e.contents)
      ≡ value_at (constraint_of library first.instance) (beliefs s d.contents) =
      λ i. value_at (constraint_of library first.instance) (sym alike.beliefs_alike i) in
      let merged = merges_alike (beliefs s d.contents) (beliefs s e.contents) (beliefs s d'.contents)
      (beliefs s e'.contents) first.instance.output
      (value_at (constraint_of library first.instance) (beliefs s d.contents)) first.grown second.grown
      alike.beliefs_alike x.merges
      (subst (λ v. Merges (beliefs s e.contents) (beliefs s e'.contents) first.instance.output v second.grown) value
      y.merges) in
      record {
        instances = ap (λ (z : Data). z.instances) first.calls.rest ∙ alike.instances
            ∙ sym (ap (λ (z : Data). z.instances) second.calls.rest);
        beliefs_alike = merged.0;
        lines = first.after
            ∙ (λ i. all_alerted (without (alike.lines i) (at i))
            (if merged.1 i then readers_of (alike.instances i) (instance i).output else []))
            ∙ sym second.after;
        orders = orders;
      }

-- ---- the calls

turns_once : {O : Type 0} (picks : O → ℕ → ℕ → O → Type 0) → IsDeterminate picks → (library : List Stored)
    (s : Premises) (d e : Data) (line other : List ℕ) (order next : O) (d' e' : Data) (line' other' : List ℕ)
    (order' next' : O) (n m : ℕ) → n ≡ m → AreAlike O s d e line other order next → Turns picks library s d line order n d' line' order'
    → Turns picks library s e other next m e' other' next' → AreAlike O s d' e' line' other' order' next'
turns_once picks one library s d e line other order next _ _ _ _ _ _ _ _ is alike none none = alike
turns_once picks one library s d e line other order next _ _ _ _ _ _ _ _ is alike none
    (more m p u u' waiting after before onward turns picked turn) = absurd (omega (arith, is))
turns_once picks one library s d e line other order next _ _ _ _ _ _ _ _ is alike
    (more n p u u' waiting after before onward turns picked turn) none = absurd (omega (arith, is))
turns_once picks one library s d e line other order next _ _ _ _ _ _ _ _ is alike
    (more n place u u' waiting after before onward turns picked turn)
    (more m p v v' idle later earlier last others chosen call) =
    let so_far = turns_once picks one library s d e line other order next u v waiting idle before earlier n m
    (omega (arith, is)) alike turns others in
    let alone = one before (length waiting) place p onward last picked
    (subst (λ o. picks o (length waiting) p last) (sym so_far.orders)
    (subst (λ line. picks earlier (length line) p last) (sym so_far.lines) chosen)) in
    turn_alike library s place p u v u' v' waiting idle after later before earlier onward last alone.0 alone.1 so_far turn
    call

pub turns_alike : {O : Type 0} (picks : O → ℕ → ℕ → O → Type 0) → TurnsAlike picks
turns_alike picks one library s d e d' e' line other line' other' order next order' next' n alike first second =
    turns_once picks one library s d e line other order next d' e' line' other' order' next' n n refl alike first second

-- ---- the orders

pub first_once : IsDeterminate picks_first
first_once order n p q x y first second = (first ∙ sym second, refl)

pub last_once : IsDeterminate picks_last
last_once order n p q x y first second = (omega (arith, first, second), refl)

pub mixed_once : IsDeterminate picks_mixed
mixed_once order n p q x y first second =
    let number : x.number ≡ y.number = first.0 ∙ sym second.0 in
    (first.1 ∙ (λ i. mixed_place (number i) n) ∙ sym second.1, λ i. record { number = number i })
