-- What a use on cells stands for: what it is over, how much it is, and that its instances are right.
use Rattle.std.proofs.Common.{◌≡◌, ◌∙◌, ℕ, ◌+◌, ◌-◌, ◌<◌, ◌≤◌, List, [], ◌∷◌, ◌++◌, All, Bool, false, length, get_or}
use Rattle.std.proofs.Common.{take, Option, Some, refl, sym, ap, arith, zero-add}
use Rattle.std.specs.Prelude.{reverse, slice_get}
use Rattle.std.specs.List.{range_with_len}
use Rattle.std.specs.Option.{option_map_or}
use Rattle.std.proofs.lemmas.List.{map-id, length-map, length-append, length-reverse, get_or-map, take_at}
use Rattle.std.proofs.lemmas.List.Elements.{All-cons, All-nil}
use Rattle.std.proofs.lemmas.List.FromFn.{map-range_with_len_more, length-range_with_len, get_or-range_with_len}
use Rattle.prop_procedures.specs.declared.shape.Kinded.{Kinded}
use Rattle.prop_procedures.specs.declared.shape.Param.{Param}
use Rattle.prop_procedures.specs.Stored.{Stored}
use Rattle.prop_vocabulary.specs.Vocabulary.{Vocabulary}
use Rattle.prop_compound.specs.declared.definition.Used.{Used}
use Rattle.prop_compound.specs.declared.definition.Used.TheVariants as uses
use Rattle.prop_compound.specs.declared.definition.KeptDefinition.{KeptDefinition}
use Rattle.prop_compound.specs.Definitions.{Definition, Definitions, used_named, cells_wanted}
use Rattle.prop_compound.specs.Expansion.{param_passed, Walk, start, before, definition_expanded, expanded_in, expanded}
use Rattle.prop_compound.specs.Expanding.{size_refusal}
use Rattle.prop_compound.specs.Kept.{bare, all_bare, IsUseOver, IsDefinedOver, IsUseThere}
use Rattle.prop_compound.specs.inner.Kept.{fresh_used, instances_used, fresh_of, instances_of, total_in, total_of}
use Rattle.prop_compound.specs.inner.Kept.{IsThere, AreKept}
use Rattle.prop_compound.proofs.Walking.{kept_at, bare_at}
use Rattle.prop_compound.proofs.WellMade.{well_made}
use Rattle.prop_compound.proofs.Sizes.{IsLonger, use_makes, definitions_make, use_places, definitions_place}
use Rattle.prop_compound.proofs.Ranges.{IsRight, AreRight, AreOver, definitions_keep}
use Rattle.prop_compound.proofs.Resolved.{wants_some}

-- ---- sizes

-- a use adds so many kinds behind those that are there
pub longer : (words : Vocabulary) (ds : List Definition) (used : Used) (cells : List ℕ) (given : Option Param)
    (e : Walk) → IsLonger e.kinds (expanded_in (param_passed words) ds used cells given e).kinds
    (fresh_used (total_of fresh_of ds) used)
longer words ds used cells given e =
    use_makes (definition_expanded (param_passed words) (reverse ds)) (total_in fresh_of (reverse ds))
    (definitions_make words (reverse ds)) used cells given e

pub placed_count : (words : Vocabulary) (ds : List Definition) (used : Used) (cells : List ℕ) (given : Option Param)
    (e : Walk) → length (expanded_in (param_passed words) ds used cells given e).placed ≡ length
    e.placed + instances_used (total_of instances_of ds) used
placed_count words ds used cells given e =
    use_places (definition_expanded (param_passed words) (reverse ds)) (total_in instances_of (reverse ds))
    (definitions_place words (reverse ds)) used cells given e

module _ (library : List Stored) (words : Vocabulary) (definitions : Definitions) (name : List ℕ) (kinds : List Kinded)
    (given : Option Param) (used : Used) where
  abbrev pub uses_it : Walk
  uses_it = expanded_in (param_passed words) definitions.definitions used (range_with_len 0 (length kinds)) given
      (before definitions.definitions used kinds given)

  more_kinds : IsLonger kinds uses_it.kinds (fresh_used (total_of fresh_of definitions.definitions) used)
  more_kinds = longer words definitions.definitions used (range_with_len 0 (length kinds)) given
      (before definitions.definitions used kinds given)

  -- the given cells come first
  pub first_kinds : take (length kinds) uses_it.kinds ≡ kinds
  first_kinds =
      let l = more_kinds in
      ap (take (length kinds)) l.is ∙ take_at kinds l.more (length kinds) refl

  pub enough_kinds : length kinds ≤ length uses_it.kinds
  enough_kinds =
      let l = more_kinds in
      omega (arith, ap length l.is, length-append kinds l.more)

  module _ (is : used_named library definitions name ≡ Some used) where
    pub expanded_is : expanded library words definitions name kinds given ≡ uses_it
    expanded_is = ap (λ o. option_map_or
        (λ u. expanded_in (param_passed words) definitions.definitions u (range_with_len 0 (length kinds)) given
        (before definitions.definitions u kinds given)) o (start kinds false)) is

    pub sizes_are : size_refusal (length (expanded library words definitions name kinds given).kinds - length kinds)
        (length (expanded library words definitions name kinds given).placed) ≡
        size_refusal (fresh_used (total_of fresh_of definitions.definitions) used)
        (instances_used (total_of instances_of definitions.definitions) used)
    sizes_are =
        let l = more_kinds in
        let p = placed_count words definitions.definitions used (range_with_len 0 (length kinds)) given
        (before definitions.definitions used kinds given) in
        let fresh : length uses_it.kinds - length kinds ≡ fresh_used (total_of fresh_of definitions.definitions) used =
        omega (arith, ap length l.is, length-append kinds l.more, l.count) in
        let placed : length uses_it.placed ≡ instances_used (total_of instances_of definitions.definitions) used =
        omega (arith, p) in
        ap (λ e. size_refusal (length e.kinds - length kinds) (length e.placed)) expanded_is
        ∙ (λ i. size_refusal (fresh i) (placed i))

-- ---- right instances

-- a use of what there is, on as many cells as it wants
pub use_there : (library : List Stored) (definitions : Definitions) (used : Used) (count : ℕ)
    → IsThere (length library) (length definitions.definitions) used → count ≡ cells_wanted library definitions used
    → IsUseThere definitions.definitions used count
use_there library definitions (uses.Procedure n) count there wanted = rw wanted (wants_some library definitions n there)
use_there library definitions (uses.Definition n) count there wanted = (there, sym wanted)

pub range_push : (n : ℕ) (old new : List ℕ) → old ≡ range_with_len 0 n → new ≡ old ++ n ∷ []
    → new ≡ range_with_len 0 (n + 1)
range_push n old new e f =
    f ∙ ap (λ l. l ++ n ∷ []) (e ∙ sym (map-id (range_with_len 0 n)))
    ∙ sym (map-range_with_len_more (λ x. x) 0 n n (zero-add n)) ∙ map-id (range_with_len 0 (n + 1))

pub range_within : (n : ℕ) → All (λ cell. cell < n) (range_with_len 0 n)
range_within n k d l = let m : k < n =
    omega (arith, l, length-range_with_len 0 n) in omega (arith, get_or-range_with_len 0 n k d m, m)

over_all : (library : List Stored) (ks : List KeptDefinition) → AreKept ks
    → All (λ (d : Definition). All (IsUseOver library) d.steps) (all_bare ks) → AreOver library (reverse (all_bare ks))
over_all library ks kept over n d l =
    let m : n < length ks = omega (arith, l, length-reverse (all_bare ks), length-map ks bare) in
    let found = kept_at ks n m in
    let k = found.0 in
    let at : k ≡ get_or ks n k = sym found.1 in
    let in_all : n < length (all_bare ks) = omega (arith, m, length-map ks bare) in
    let over_here : All (IsUseOver library) k.steps.items =
    rw (get_or-map bare ks n k (bare k) m, ← at) at (over n (bare k) in_all) in
    rw (bare_at ks n k d m at) over_here

pub uses_right : (library : List Stored) (words : Vocabulary) (ks : List KeptDefinition) (definitions : Definitions)
    (used : Used) (kinds : List Kinded) (given : Option Param) (spare : Bool) → AreKept ks
    → definitions.definitions ≡ all_bare ks → IsDefinedOver library definitions →
    IsThere (length library) (length definitions.definitions) used
    → length kinds ≡ cells_wanted library definitions used
    → AreRight library (expanded_in (param_passed words) definitions.definitions used
    (range_with_len 0 (length kinds)) given (start kinds spare))
uses_right library words ks definitions (uses.Procedure n) kinds given spare kept same over there count =
    λ k d l. one k d l
  where
    one : All (IsRight library (length kinds))
        (record { procedure = n; given = given; cells = range_with_len 0 (length kinds) } ∷ [])
    one = All-cons (IsRight library (length kinds))
        (record { procedure = n; given = given; cells = range_with_len 0 (length kinds) }) []
        (record {
          procedure = there;
          count = sym count
              ∙ sym (length-range_with_len 0 (length kinds));
          cells = range_within (length kinds);
        })
        (All-nil (IsRight library (length kinds)))
uses_right library words ks definitions (uses.Definition n) kinds given spare kept same over there count =
    let ds = all_bare ks in
    let cells = range_with_len 0 (length kinds) in
    let over_steps : All (λ (d : Definition). All (IsUseOver library) d.steps) ds = rw same at (over.uses) in
    let below : n < length (reverse ds) = omega (arith, there, ap length same, length-reverse ds) in
    let wanted : option_map_or (λ (d : Definition). d.params) (slice_get ds n) 0 ≡ length cells =
    ap (λ l. option_map_or (λ (d : Definition). d.params) (slice_get l n) 0) (sym same) ∙ sym count
    ∙ sym (length-range_with_len 0 (length kinds)) in
    rw same (definitions_keep library words ds (reverse ds) (well_made ks kept) (over_all library ks kept over_steps) n
    below cells wanted given (start kinds spare) (range_within (length kinds))
    (All-nil (IsRight library (length kinds))))
