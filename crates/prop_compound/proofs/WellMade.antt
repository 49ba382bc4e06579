-- Definitions that are well made, listed from the latest on.
use Rattle.std.proofs.Common.{◌≡◌, ◌∙◌, ℕ, ◌<◌, List, ◌∷◌, All, length, get_or, refl, sym, ap, arith}
use Rattle.std.specs.Prelude.{reverse, slice_get}
use Rattle.std.specs.Option.{option_map_or}
use Rattle.std.proofs.lemmas.Bool.{ne_eqb}
use Rattle.std.proofs.lemmas.List.{length-map, length-reverse}
use Rattle.prop_compound.specs.declared.definition.KeptDefinition.{KeptDefinition}
use Rattle.prop_compound.specs.Definitions.{Definition}
use Rattle.prop_compound.specs.Kept.{bare, all_bare}
use Rattle.prop_compound.specs.inner.Kept.{AreInScope, IsUseBelow, AreKept}
use Rattle.prop_compound.proofs.Latest.{latest_at}
use Rattle.prop_compound.proofs.Walking.{kept_at, kept_here, bare_at, params_at}

module _ (definitions : List Definition) where
  -- the n-th has as many parameters as uses of it name cells, and its steps name places that are there and use earlier
  -- ones
  pub record IsWellMade (latest : List Definition) (n : ℕ) (d : Definition) : Type 0 where
    pub params : option_map_or (λ (d : Definition). d.params) (slice_get definitions n)
        0 ≡ (latest_at latest n d).params
    pub scope : AreInScope (latest_at latest n d).params (latest_at latest n d).steps
    pub below : All (IsUseBelow definitions n) (latest_at latest n d).steps

  abbrev pub AreWellMade : List Definition → Type 0
  AreWellMade latest = (n : ℕ) (d : Definition) → n < length latest → IsWellMade latest n d

  pub well_made_tail : (d : Definition) (earlier : List Definition) → AreWellMade (d ∷ earlier) → AreWellMade earlier
  well_made_tail d earlier h n x l =
      let is_not = ne_eqb n (length earlier) (λ e. omega (arith, e, l)) in
      let here = h n x (omega (arith, l)) in
      record { params = rw is_not at here.params; scope = rw is_not at here.scope; below = rw is_not at here.below }

-- those that are kept are
pub well_made : (ks : List KeptDefinition) → AreKept ks → AreWellMade (all_bare ks) (reverse (all_bare ks))
well_made ks kept n d l =
    let m : n < length ks = omega (arith, l, length-reverse (all_bare ks), length-map ks bare) in
    let found = kept_at ks n m in
    let k = found.0 in
    let at : k ≡ get_or ks n k = sym found.1 in
    let here = kept_here ks n k kept m at in
    let it = bare_at ks n k d m at in
    record {
      params = sym (params_at ks n k _ m at refl) ∙ ap (λ (e : Definition). e.params) (sym it);
      scope = rw it here.in_scope;
      below = rw it here.uses;
    }
