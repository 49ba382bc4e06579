-- Which refusal of a list comes first.
use Rattle.std.proofs.Common.{◌≡◌, ◌∙◌, ℕ, ◌+◌, ◌<◌, ◌≤◌, ◌||◌, Bool, true, false, List, [], ◌∷◌, All, Option, Some}
use Rattle.std.proofs.Common.{None, map, length, take, get_or, is_none, refl, sym, ap, subst}
use Rattle.std.specs.Prelude.{slice_get}
use Rattle.std.specs.Option.{option_map_or}
use Rattle.std.proofs.lemmas.List.{take_all}
use Rattle.std.proofs.lemmas.List.Folds.{list_any_at, list_any_more}
use Rattle.prop_procedures.specs.Rules.{fitting_param}
use Rattle.std.specs.List.{list_any}
use Rattle.prop_refusals.specs.declared.refusal.Refusal.{Refusal}
use Rattle.prop_refusals.specs.declared.refusal.Refusal.TheVariants.{WrongKind, WrongParameter}
use Rattle.prop_refusals.specs.Refusals.{when, first_of}
use Rattle.prop_procedures.specs.declared.shape.Kinded.{Kinded}
use Rattle.prop_procedures.specs.declared.shape.Param.{Param}
use Rattle.prop_procedures.specs.Stored.{Stored}
use Rattle.prop_procedures.specs.declared.flat.Placed as instances
use Rattle.prop_compound.specs.declared.walk.Walk as walks
use Rattle.prop_compound.specs.Expansion.{Placed, Expansion}
use Rattle.prop_compound.specs.Flattened.{placed_of}
use Rattle.prop_compound.specs.inner.Flattened.{walk_of}
use Rattle.prop_compound.specs.Expanding.{is_kind_wrong, is_param_wrong, are_params_wrong, fit_refusal}

-- this condition holds
pub stops : (r : Refusal) (b : Bool) (rest : List (Option Refusal)) → b ≡ true → first_of (when r b ∷ rest) ≡ Some r
stops r b rest e = ap (λ t. first_of (when r t ∷ rest)) e

-- this one does not
pub passes : (r : Refusal) (b : Bool) (rest : List (Option Refusal)) (o : Option Refusal) → b ≡ false
    → first_of rest ≡ o → first_of (when r b ∷ rest) ≡ o
passes r b rest o e h = ap (λ t. first_of (when r t ∷ rest)) e ∙ h

-- none of two did
pub neither : (r s : Refusal) (a b : Bool) → first_of (when r a ∷ when s b ∷ []) ≡ None → (a ≡ false) × (b ≡ false)
neither r s true b e = cc
neither r s false true e = cc
neither r s false false e = (refl, refl)

pub list_any-map : {X Y : Type 0} (f : X → Y) (p : Y → Bool) (xs : List X)
    → list_any p (map f xs) ≡ list_any (λ x. p (f x)) xs
list_any-map f p [] = refl
list_any-map f p (x ∷ xs) = ap (λ b. p (f x) || b) (list_any-map f p xs)

-- ---- looking for the first that is so

module _ {X : Type 0} (xs : List X) (i : ℕ) (x : X) (l : i < length xs) (at : x ≡ get_or xs i x) where
  -- what all are, this one is
  pub all_here : (P : X → Type 0) → All P xs → P x
  all_here P h = subst P (sym at) (h i x l)

  -- this one is so
  pub found_here : (p : X → Bool) (b : Bool) → b ≡ p x → b ≡ true → true ≡ list_any p xs
  found_here p b e t = sym (list_any_at p xs i x l (ap p (sym at) ∙ sym e ∙ t))

  -- this one is not either
  pub not_yet : (p : X → Bool) (b : Bool) → b ≡ p x → b ≡ false → list_any p (take i xs) ≡ false
      → list_any p (take (i + 1) xs) ≡ false
  not_yet p b e f h = list_any_more p xs i x l ∙ (λ j. h j || (ap p (sym at) ∙ sym e ∙ f) j)

pub none_found : {X : Type 0} (p : X → Bool) (xs : List X) (i : ℕ) → length xs ≤ i → list_any p (take i xs) ≡ false
    → false ≡ list_any p xs
none_found p xs i l h = sym h ∙ ap (list_any p) (take_all i xs l)

-- what is said of an instance by its procedure
pub misgiven_is : (library : List Stored) (x : Placed (Option Param)) (s : Stored)
    → slice_get library x.procedure ≡ Some s → (b : Bool) (need : _) → need ≡ s.need
    → b ≡ is_none (fitting_param need x.given) → b ≡ is_param_wrong library x
misgiven_is library x s at b need n e =
    e ∙ (λ i. is_none (fitting_param (n i) x.given))
    ∙ sym (ap (λ o. option_map_or (λ (p : Stored). is_none (fitting_param p.need x.given)) o false) at)

-- ---- whether what a use stands for fits

module _ (library : List Stored) (walk : walks.Walk) (kinds : List Kinded) (params : List Param)
    (xs : List instances.Placed) (same_kinds : kinds ≡ walk.kinds.items) (same_params : params ≡ walk.params.items)
    (same_instances : xs ≡ walk.instances.items)
    (b : Bool) (is : b ≡ list_any (λ x. is_kind_wrong library kinds (placed_of params x)) xs) where
  misplaced : list_any (is_kind_wrong library walk.kinds.items) (walk_of walk).placed ≡ b
  misplaced =
      list_any-map (placed_of walk.params.items) (is_kind_wrong library walk.kinds.items) walk.instances.items
      ∙ sym (is ∙ (λ i. list_any (λ x. is_kind_wrong library (same_kinds i) (placed_of (same_params i) x))
      (same_instances i)))

  -- some kind does not
  pub kind_stops : b ≡ true → fit_refusal library (walk_of walk) ≡ Some WrongKind
  kind_stops e = stops WrongKind (list_any (is_kind_wrong library walk.kinds.items) (walk_of walk).placed)
      (when WrongParameter (are_params_wrong library (walk_of walk)) ∷ []) (misplaced ∙ e)

  -- the kinds do: what is said of the parameters is said
  decides : (wrong : Bool) → b ≡ false → wrong ≡ are_params_wrong library (walk_of walk)
      → fit_refusal library (walk_of walk) ≡ first_of (when WrongParameter wrong ∷ [])
  decides wrong e w =
      passes WrongKind (list_any (is_kind_wrong library walk.kinds.items) (walk_of walk).placed)
      (when WrongParameter (are_params_wrong library (walk_of walk)) ∷ [])
      (first_of (when WrongParameter wrong ∷ [])) (misplaced ∙ e)
      (ap (λ t. first_of (when WrongParameter t ∷ [])) (sym w))

  -- a definition is given something and takes nothing
  pub spare_stops : b ≡ false → walk.spare ≡ true → fit_refusal library (walk_of walk) ≡ Some WrongParameter
  spare_stops e t = decides true e (ap (λ z. z || list_any (is_param_wrong library) (walk_of walk).placed) (sym t))

  -- no definition is: what is said of the instances is said
  pub given_decides : (params' : List Param) (xs' : List instances.Placed) (misgiven : Bool) → b ≡ false
      → walk.spare ≡ false → params' ≡ walk.params.items → xs' ≡ walk.instances.items →
      misgiven ≡ list_any (λ x. is_param_wrong library (placed_of params' x)) xs'
      → fit_refusal library (walk_of walk) ≡ first_of (when WrongParameter misgiven ∷ [])
  given_decides params' xs' misgiven e t p x m =
      let any : misgiven ≡ list_any (is_param_wrong library) (walk_of walk).placed = m
      ∙ (λ i. list_any (λ y. is_param_wrong library (placed_of (p i) y)) (x i))
      ∙ sym (list_any-map (placed_of walk.params.items) (is_param_wrong library) walk.instances.items) in
      decides misgiven e (any ∙ ap (λ z. z || list_any (is_param_wrong library) (walk_of walk).placed) (sym t))

-- what fits gives no definition a parameter that it does not take
pub fits_bare : (library : List Stored) (e : Expansion (Option Param)) → fit_refusal library e ≡ None → e.spare ≡ false
fits_bare library e h = by e.spare (neither WrongKind WrongParameter (list_any (is_kind_wrong library e.kinds) e.placed)
    (are_params_wrong library e) h).1
  where
    by : (b : Bool) → (b || list_any (is_param_wrong library) e.placed) ≡ false → b ≡ false
    by true k = k
    by false k = refl
