-- What is known of what is believed, as what is believed changes.
use Rattle.std.proofs.Common.{◌≡◌, ◌∙◌, ℕ, List, Option, Some, None, slice_set, IfSome, inl, inr, refl, sym, ap}
use Rattle.std.proofs.Common.{subst}
use Rattle.std.proofs.lemmas.Bool.{cases_eq}
use Rattle.std.proofs.lemmas.List.{get_or-set_other}
use Rattle.prop_lattice.specs.declared.info.Info.{Info}
use Rattle.prop_lattice.specs.Order.{merge_of}
use Rattle.prop_contents.specs.Contents.{Entry, beliefs}
use Rattle.prop_contents.specs.Knowing.{known_at, AreBeliefs}
use Rattle.prop_contents.proofs.KnowingLaws.{same_info, none_is_some, there}
use Rattle.prop_cells.specs.Problems.{MergesAt}
use Rattle.prop_cells.specs.inner.Problems.{Premises}

-- an information was merged into a cell, and into what was known of it
pub known_merged : (s : Premises) (old new : List (List Entry)) (known more : List (Option Info)) (at : ℕ) (v : Info)
    → AreBeliefs s old known → MergesAt (beliefs s old) (beliefs s new) at v
    → IfSome (known_at known at) (λ was. more ≡ slice_set known at (Some (merge_of was v)))
    → (known_at known at ≡ None → more ≡ known) → AreBeliefs s new more
known_merged s old new known more at v b merges joins stays = by (known_at known at) refl joins
  where
    by : (was : Option Info) → known_at known at ≡ was
        → IfSome was (λ x. more ≡ slice_set known at (Some (merge_of x v))) → AreBeliefs s new more
    by None none _ cell y h = elim (cases_eq cell at) [
      | inl own ↦ absurd (none_is_some y (sym none
          ∙ subst (λ (c : ℕ). known_at known c ≡ Some y) own
          (subst (λ (k : List (Option Info)). known_at k cell ≡ Some y) (stays none) h)))
      | inr other ↦ merges.others cell other
          ∙ b cell y (subst (λ (k : List (Option Info)). known_at k cell ≡ Some y) (stays none) h)
    ]
    by (Some x) was is cell y h =
        let now : known_at (slice_set known at (Some (merge_of x v))) cell ≡ Some y =
        subst (λ (k : List (Option Info)). known_at k cell ≡ Some y) is h in
        elim (cases_eq cell at) [
          | inl own ↦ ap (beliefs s new) own ∙ merges.merged ∙ ap (λ a. merge_of a v) (b at x was)
              ∙ same_info (merge_of x v) y (there known at (Some (merge_of x v)) y
              (subst (λ (c : ℕ). known_at (slice_set known at (Some (merge_of x v))) c ≡ Some y) own now))
          | inr other ↦ merges.others cell other
              ∙ b cell y (sym (get_or-set_other known at cell (Some (merge_of x v)) None other) ∙ now)
        ]
