-- Why a whole use is refused, in the order in which it is tested, and what it stands for where it is not.
use Rattle.std.proofs.Common.{◌≡◌, ◌∙◌, ℕ, ◌+◌, ◌≤◌, ◌==◌, List, [], ◌∷◌, ◌++◌, Bool, false, not, length, map, take}
use Rattle.std.proofs.Common.{Option, Some, None, refl, sym, ap, subst}
use Rattle.std.specs.Prelude.{is_none, ◌⊎◌, Result, Ok, Err, IfOk, IfErr, IfSome, OnOk}
use Rattle.std.specs.List.{range_with_len}
use Rattle.std.specs.Option.{option_map_or}
use Rattle.std.proofs.lemmas.Bool.{eqb-true, not-false}
use Rattle.std.proofs.lemmas.List.{length-append, take-append-drop}
use Rattle.prop_refusals.specs.declared.refusal.Refusal.{Refusal}
use Rattle.prop_refusals.specs.declared.refusal.Refusal.TheVariants.{NoSuchProcedure, WrongCount, Memory}
use Rattle.prop_refusals.specs.Refusals.{when, first_of}
use Rattle.prop_procedures.specs.declared.shape.Kinded.{Kinded}
use Rattle.prop_procedures.specs.declared.shape.Param.{Param}
use Rattle.prop_procedures.specs.Stored.{Stored}
use Rattle.prop_vocabulary.specs.Vocabulary.{Vocabulary}
use Rattle.prop_compound.specs.declared.definition.Used.{Used}
use Rattle.prop_procedures.specs.declared.flat.Flat.{Flat}
use Rattle.prop_compound.specs.Definitions.{Definitions, used_named, cells_wanted, is_miscounted}
use Rattle.prop_compound.specs.declared.walk.Walk as walks
use Rattle.prop_compound.specs.Expansion.{param_passed, Expansion, before, expanded_in, expanded}
use Rattle.prop_compound.specs.Expanding.{size_refusal, fit_refusal, expand_refusal}
use Rattle.prop_compound.specs.AtOnce.{refused_at_once}
use Rattle.prop_compound.specs.Flattened.{placed_of, expansion_of_flat, IsFlatOver}
use Rattle.prop_compound.specs.inner.Flattened.{walk_of, AreRight, IsBehind}
use Rattle.prop_compound.specs.Kept.{all_bare, IsDefinedOver}
use Rattle.prop_compound.specs.inner.Kept.{fresh_used, instances_used, fresh_of, instances_of, total_of, IsThere}
use Rattle.prop_compound.specs.inner.Kept.{AreKept}
use Rattle.prop_compound.specs.declared.definition.KeptDefinition.{KeptDefinition}
use Rattle.prop_compound.proofs.Firsts.{fits_bare}
use Rattle.prop_compound.proofs.Placing.{right_of}
use Rattle.prop_compound.proofs.Ranges as ranges
use Rattle.prop_compound.proofs.Using.{uses_it, uses_right, expanded_is, sizes_are, first_kinds, enough_kinds}

alone : (o : Option Refusal) → first_of (o ∷ []) ≡ o
alone None = refl
alone (Some r) = refl

module _ (library : List Stored) (words : Vocabulary) (definitions : Definitions) (name : List ℕ) (kinds : List Kinded)
    (given : Option Param) (used : Used) (is : used_named library definitions name ≡ Some used) where
  abbrev stands : Expansion (Option Param)
  stands = uses_it library words definitions name kinds given used

  -- what the sizes that are known before tell
  abbrev sizes : Option Refusal
  sizes = size_refusal (fresh_used (total_of fresh_of definitions.definitions) used)
      (instances_used (total_of instances_of definitions.definitions) used)

  module _ (wrong : Bool) (wrong_is : wrong ≡ not (length kinds == cells_wanted library definitions used))
      (right : wrong ≡ false) where
    passes_count : expand_refusal library words definitions name kinds given ≡ first_of
        (sizes ∷ fit_refusal library stands ∷ [])
    passes_count =
        let named : is_none (used_named library definitions name) ≡ false = ap is_none is in
        let counted : is_miscounted library definitions name (length kinds) ≡ false =
        ap (λ o. option_map_or (λ u. not (length kinds == cells_wanted library definitions u)) o false) is
        ∙ sym wrong_is ∙ right in
        let sizes_here = sizes_are library words definitions name kinds given used is in
        let e = expanded_is library words definitions name kinds given used is in
        λ i. first_of (when NoSuchProcedure (named i) ∷ when WrongCount (counted i) ∷ sizes_here i ∷ fit_refusal library
        (e i) ∷ [])

    at_once_is : refused_at_once library words definitions name kinds given ≡ sizes
    at_once_is =
        let named : is_none (used_named library definitions name) ≡ false = ap is_none is in
        let counted : is_miscounted library definitions name (length kinds) ≡ false =
        ap (λ o. option_map_or (λ u. not (length kinds == cells_wanted library definitions u)) o false) is
        ∙ sym wrong_is ∙ right in
        let sizes_here = sizes_are library words definitions name kinds given used is in
        (λ i. first_of (when NoSuchProcedure (named i) ∷ when WrongCount (counted i) ∷ sizes_here i ∷ [])) ∙ alone sizes

    -- a size that is over its limit is told at once
    pub size_at_once : {X : Type 0} (r : Result X Refusal) (o : Option Refusal) (e : Refusal) → o ≡ sizes → o ≡ Some e
        → r ≡ Err e → IfSome (refused_at_once library words definitions name kinds given) (λ e. r ≡ Err e)
    size_at_once r o e s h is_err = subst (λ o. IfSome o (λ e. r ≡ Err e)) (sym (at_once_is ∙ sym s ∙ h)) is_err

    -- where none is, nothing is refused at once
    pub none_at_once : (o : Option Refusal) (P : Refusal → Type 0) → o ≡ sizes → o ≡ None
        → IfSome (refused_at_once library words definitions name kinds given) P
    none_at_once o P s h = subst (λ o. IfSome o P) (sym (at_once_is ∙ sym s ∙ h)) tt

    -- a size is over its limit
    pub size_stops : (o : Option Refusal) (r : Refusal) → o ≡ sizes → o ≡ Some r
        → expand_refusal library words definitions name kinds given ≡ Some r
    size_stops o r s e =
        passes_count ∙ ap (λ z. first_of (z ∷ fit_refusal library stands ∷ [])) (sym s ∙ e)

  module _ (walk : walks.Walk) (walk_is : walk_of walk ≡ expanded_in (param_passed words) definitions.definitions used
      (range_with_len 0 (length kinds)) given (before definitions.definitions used kinds given)) where
    -- no size is over its limit: what is said of how it fits is said
    pub fit_decides : (wrong : Bool) → wrong ≡ not (length kinds == cells_wanted library definitions used)
        → wrong ≡ false → (o : Option Refusal) → o ≡ sizes → o ≡ None
        → expand_refusal library words definitions name kinds given ≡ fit_refusal library (walk_of walk)
    fit_decides wrong wrong_is right o s e =
        passes_count wrong wrong_is right ∙ (λ i. first_of ((sym s ∙ e) i ∷ fit_refusal library (sym walk_is i) ∷ []))
        ∙ alone (fit_refusal library (walk_of walk))

    -- the given cells are among those of the walk
    pub cells_among : length kinds ≤ length walk.kinds.items
    cells_among = subst (λ e. length kinds ≤ length e.kinds) (sym walk_is)
        (enough_kinds library words definitions name kinds given used)

    -- its instances are right
    pub walk_right : (ks : List KeptDefinition) → AreKept ks → definitions.definitions ≡ all_bare ks
        → IsDefinedOver library definitions → IsThere (length library) (length definitions.definitions) used →
        (wrong : Bool) → wrong ≡ not (length kinds == cells_wanted library definitions used) → wrong ≡ false
        → AreRight library walk
    walk_right ks kept same over there wrong wrong_is right =
        let count : length kinds ≡ cells_wanted library definitions used =
        eqb-true (length kinds) (cells_wanted library definitions used) (not-false _ (sym wrong_is ∙ right)) in
        right_of library walk (subst (ranges.AreRight library) (sym walk_is)
        (uses_right library words ks definitions used kinds given _ kept same over there count))

    all_kinds : (flat : Flat) → IsBehind walk (length kinds) flat → kinds ++ flat.fresh.items ≡ walk.kinds.items
    all_kinds flat h =
        let first : kinds ≡ take (length kinds) walk.kinds.items =
        sym (ap (λ e. take (length kinds) e.kinds) walk_is
        ∙ first_kinds library words definitions name kinds given used) in
        let fresh = h.fresh in
        (λ i. first i ++ fresh i) ∙ take-append-drop (length kinds) walk.kinds.items

    pub flat_means : (r : Result Flat Refusal) → OnOk r (fit_refusal library (walk_of walk) ≡ None)
        → IfOk r (IsBehind walk (length kinds))
        → IfOk r (λ flat. expansion_of_flat kinds flat ≡ expanded library words definitions name kinds given)
    flat_means (Ok flat) fits h =
        let all = all_kinds flat h in
        let params = h.params in
        let same = h.instances in
        let bare = fits_bare library (walk_of walk) fits in
        (λ i. record {
          kinds = all i;
          placed = map (placed_of (params i).items) (same i).items;
          spare = sym bare i;
        }) ∙ walk_is ∙ sym (expanded_is library words definitions name kinds given used is)
    flat_means (Err e) fits h = h

    pub flat_safe : (r : Result Flat Refusal) → AreRight library walk → IfOk r (IsBehind walk (length kinds))
        → IfOk r (IsFlatOver library (length kinds))
    flat_safe (Ok flat) right h =
        let count : length walk.kinds.items ≡ length kinds + length flat.fresh.items =
        ap length (sym (all_kinds flat h)) ∙ length-append kinds flat.fresh.items in
        let same = h.instances in
        rw (same, ← count) right
    flat_safe (Err e) right h = h

    -- what is said of how it fits is said
    module _ (decided : expand_refusal library words definitions name kinds given ≡ fit_refusal library (walk_of walk))
      where
        pub flat_fits : (r : Result Flat Refusal) → OnOk r (fit_refusal library (walk_of walk) ≡ None)
            → OnOk r (expand_refusal library words definitions name kinds given ≡ None)
        flat_fits (Ok flat) h = decided ∙ h
        flat_fits (Err e) h = h

        pub flat_why : (r : Result Flat Refusal)
            → IfErr r (λ e. (fit_refusal library (walk_of walk) ≡ Some e) ⊎ (e ≡ Memory))
            → IfErr r (λ e. (expand_refusal library words definitions name kinds given ≡ Some e) ⊎ (e ≡ Memory))
        flat_why r h = subst (λ o. IfErr r (λ e. (o ≡ Some e) ⊎ (e ≡ Memory))) (sym decided) h
