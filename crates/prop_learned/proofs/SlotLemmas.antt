-- Slots, of which one is written or added.
use Rattle.std.proofs.Common.{◌≡◌, ◌≢◌, ◌⊎◌, ◌∙◌, ℕ, zero, suc, List, [], ◌∷◌, ◌++◌, length, Option, Some, None}
use Rattle.std.proofs.Common.{Contains, slice_get, inl, inr, refl, ap, sym, arith}
use Rattle.std.proofs.Math.ListN.{set}
use Rattle.std.proofs.lemmas.List.{map-set, map-append, length-map}
use Rattle.std.proofs.lemmas.Option.{slice_get-get_or, slice_get_within, get_or_from_slice_get}
use Rattle.prop_refuting.specs.Nogoods.{Nogood}
use Rattle.prop_learned.specs.Stores.{IsKeptIn, IsKeptAt}
use Rattle.prop_learned.specs.inner.Slots.{held_in}
use Rattle.prop_learned.specs.declared.slot.Slot.{Slot}

pub same_or_other : (a b : ℕ) → (a ≡ b) ⊎ (a ≢ b)
same_or_other zero zero = inl refl
same_or_other zero (suc b) = inr (λ e. omega (arith, e))
same_or_other (suc a) zero = inr (λ e. omega (arith, e))
same_or_other (suc a) (suc b) =
    elim (same_or_other a b) [ inl e ↦ inl (ap suc e) | inr n ↦ inr (λ e. n (omega (arith, e))) ]

-- ---- what is contained has a number

pub at_of_contained : {X : Type 0} (xs : List X) (x : X) → Contains xs x → (k : ℕ) × (slice_get xs k ≡ Some x)
at_of_contained xs x c = (c.0, slice_get-get_or xs c.0 x c.1 ∙ ap Some c.2)

pub contained_at : {X : Type 0} (xs : List X) (k : ℕ) (x : X) → slice_get xs k ≡ Some x → Contains xs x
contained_at xs k x h = (k, slice_get_within xs k x h, get_or_from_slice_get xs k x x h)

-- ---- an element is written

pub at_set_cases : {X : Type 0} (xs : List X) (i k : ℕ) (y x : X) → slice_get (set xs i y) k ≡ Some x
    → (x ≡ y) ⊎ (slice_get xs k ≡ Some x)
at_set_cases [] i k y x h = inr h
at_set_cases (z ∷ zs) zero zero y x h = inl (cc)
at_set_cases (z ∷ zs) zero (suc k) y x h = inr h
at_set_cases (z ∷ zs) (suc i) zero y x h = inr h
at_set_cases (z ∷ zs) (suc i) (suc k) y x h = at_set_cases zs i k y x h

pub at_set_kept : {X : Type 0} (xs : List X) (i k : ℕ) (v y x : X) → slice_get xs i ≡ Some v → v ≢ x
    → slice_get xs k ≡ Some x → slice_get (set xs i y) k ≡ Some x
at_set_kept [] i k v y x e n h = absurd (cc)
at_set_kept (z ∷ zs) zero zero v y x e n h = absurd (n (cc))
at_set_kept (z ∷ zs) zero (suc k) v y x e n h = h
at_set_kept (z ∷ zs) (suc i) zero v y x e n h = h
at_set_kept (z ∷ zs) (suc i) (suc k) v y x e n h = at_set_kept zs i k v y x e n h

pub at_set_other : {X : Type 0} (xs : List X) (i k : ℕ) (y : X) → k ≢ i → slice_get (set xs i y) k ≡ slice_get xs k
at_set_other [] i k y n = refl
at_set_other (z ∷ zs) zero zero y n = absurd (n refl)
at_set_other (z ∷ zs) zero (suc k) y n = refl
at_set_other (z ∷ zs) (suc i) zero y n = refl
at_set_other (z ∷ zs) (suc i) (suc k) y n = at_set_other zs i k y (λ e. n (ap suc e))

pub at_set_same : {X : Type 0} (xs : List X) (i : ℕ) (v y : X) → slice_get xs i ≡ Some v
    → slice_get (set xs i y) i ≡ Some y
at_set_same [] i v y e = absurd (cc)
at_set_same (z ∷ zs) zero v y e = refl
at_set_same (z ∷ zs) (suc i) v y e = at_set_same zs i v y e

-- ---- an element is added

pub at_front : {X : Type 0} (xs ys : List X) (k : ℕ) (x : X) → slice_get xs k ≡ Some x → slice_get (xs ++ ys) k ≡ Some x
at_front [] ys k x h = absurd (cc)
at_front (z ∷ zs) ys zero x h = h
at_front (z ∷ zs) ys (suc k) x h = at_front zs ys k x h

pub at_last : {X : Type 0} (xs : List X) (y : X) → slice_get (xs ++ y ∷ []) (length xs) ≡ Some y
at_last [] y = refl
at_last (z ∷ zs) y = at_last zs y

-- ---- slots: one is emptied

pub emptied_numbers : (slots : List Slot) (i : ℕ) (e : Slot) (old : List (Option Nogood)) → held_in slots ≡ old
    → e.nogood ≡ None → (k : ℕ) (g : Nogood) → IsKeptAt (held_in (set slots i e)) k g → IsKeptAt old k g
emptied_numbers slots i e old was none k g h =
    let held : held_in (set slots i e) ≡ set old i None = map-set (λ (s : Slot). s.nogood) slots i e
    ∙ ap (λ xs. set xs i e.nogood) was ∙ ap (set old i) none in
    elim (at_set_cases old i k None (Some g) (sym (ap (λ xs. slice_get xs k) held) ∙ h)) [
      | inl same ↦ absurd (cc)
      | inr there ↦ there
    ]

pub emptied_others : (slots : List Slot) (i : ℕ) (e : Slot) (old : List (Option Nogood)) → held_in slots ≡ old
    → (k : ℕ) → k ≢ i → slice_get (held_in (set slots i e)) k ≡ slice_get old k
emptied_others slots i e old was k n =
    let held : held_in (set slots i e) ≡ set old i e.nogood = map-set (λ (s : Slot). s.nogood) slots i e
    ∙ ap (λ xs. set xs i e.nogood) was in
    ap (λ xs. slice_get xs k) held ∙ at_set_other old i k e.nogood n

-- ---- one that was empty is filled

pub filled : (slots : List Slot) (i : ℕ) (e : Slot) (old : List (Option Nogood)) → held_in slots ≡ old
    → held_in (set slots i e) ≡ set old i e.nogood
filled slots i e old was = map-set (λ (s : Slot). s.nogood) slots i e ∙ ap (λ xs. set xs i e.nogood) was

pub filled_ok : (old : List (Option Nogood)) (i : ℕ) (g : Nogood) → slice_get old i ≡ Some None
    → IsKeptAt (set old i (Some g)) i g
filled_ok old i g free = at_set_same old i None (Some g) free

pub filled_from : (old : List (Option Nogood)) (i : ℕ) (new g : Nogood) → IsKeptIn (set old i (Some new)) g
    → (g ≡ new) ⊎ IsKeptIn old g
filled_from old i new g c =
    let at = at_of_contained _ _ c in
    elim (at_set_cases old i at.0 (Some new) (Some g) at.1) [
      | inl same ↦ inl (cc)
      | inr there ↦ inr (contained_at old at.0 (Some g) there)
    ]

pub filled_numbers : (old : List (Option Nogood)) (i : ℕ) (new : Nogood) → slice_get old i ≡ Some None
    → (k : ℕ) (g : Nogood) → IsKeptAt old k g → IsKeptAt (set old i (Some new)) k g
filled_numbers old i new free k g h = at_set_kept old i k None (Some new) (Some g) free (λ e. absurd (cc)) h

-- ---- one is added

pub more : (slots : List Slot) (e : Slot) (old : List (Option Nogood)) → held_in slots ≡ old
    → held_in (slots ++ e ∷ []) ≡ old ++ e.nogood ∷ []
more slots e old was = map-append (λ (s : Slot). s.nogood) slots (e ∷ []) ∙ ap (λ xs. xs ++ e.nogood ∷ []) was

-- the new one's number is how many slots there were
pub more_ok : (slots : List Slot) (old : List (Option Nogood)) → held_in slots ≡ old → (y : Option Nogood) (n : ℕ)
    → n ≡ length slots → slice_get (old ++ y ∷ []) n ≡ Some y
more_ok slots old was y n e =
    let count : n ≡ length old = e ∙ sym (length-map slots (λ (s : Slot). s.nogood)) ∙ ap length was in
    ap (slice_get (old ++ y ∷ [])) count ∙ at_last old y

-- what keeps its number is kept
pub kept_by_number : (old new : List (Option Nogood)) → ((k : ℕ) (g : Nogood) → IsKeptAt old k g → IsKeptAt new k g)
    → (g : Nogood) → IsKeptIn old g → IsKeptIn new g
kept_by_number old new numbers g c =
    let at = at_of_contained old (Some g) c in contained_at new at.0 (Some g) (numbers at.0 g at.1)
