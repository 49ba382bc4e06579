-- Places of spans on which spans stand: they fit whatever is given.
use Rattle.std.proofs.Common.{◌≡◌, ℕ, ◌+◌, ◌<◌, ◌≤◌, List, [], ◌∷◌, ◌++◌, All, Bool, true, false, Option, refl, subst}
use Rattle.std.proofs.Common.{length, get_or, zip, map, take}
use Rattle.std.specs.Prelude.{unwrap_or}
use Rattle.std.specs.List.{list_all}
use Rattle.std.proofs.lemmas.List.Elements.{All-head, All-tail, All-push}
use Rattle.prop_procedures.specs.declared.shape.Need.{Need}
use Rattle.prop_procedures.specs.declared.shape.Shape.{Shape}
use Rattle.prop_procedures.specs.declared.shape.Shape.TheVariants.{Span}
use Rattle.prop_procedures.specs.declared.shape.Kinded.{Kinded}
use Rattle.prop_procedures.specs.Rules.{kind_of}
use Rattle.prop_procedures.specs.contracts.shape.KindedPartialEq.TheImpl.{eq-value as same_kind}
use Rattle.prop_procedures.specs.Stored.{span_kind, kind_among, are_right}
use Rattle.prop_procedures.specs.Fitting.{kind_at}
use Rattle.prop_sets.specs.declared.side.Side.{Side}
use Rattle.prop_compound.proofs.Zips.{places_more, places_all}

abbrev pub AreSpans : List (Shape × Kinded) → Type 0
AreSpans places = All (λ place. place ≡ (Span, span_kind)) places

each_right : (need : Need) (given : Option (Side × Side)) (all places : List (Shape × Kinded)) → AreSpans places
    → list_all (λ place. same_kind.it place.1
    (kind_of (λ shape. unwrap_or (kind_among need given all shape) place.1) place.0)) places ≡ true
each_right need given all [] h = refl
each_right need given all (p ∷ places) h =
    let rest = each_right need given all places (All-tail (λ place. place ≡ (Span, span_kind)) p places h) in
    rw (All-head (λ place. place ≡ (Span, span_kind)) p places h, rest) refl

pub spans_right : (places : List (Shape × Kinded)) → AreSpans places → (need : Need) (given : Option (Side × Side))
    → are_right need given places ≡ true
spans_right places h need given = each_right need given places places h

module _ (ins : List Shape) (kinds : List Kinded) (inputs : List ℕ) (count : length inputs ≡ length ins) where
  -- one more
  pub one_more : (i cell : ℕ) (shape d : Shape) (kind : Kinded) → i < length inputs → cell ≡ get_or inputs i 0
      → shape ≡ get_or ins i d → kind ≡ kind_at kinds cell →
      AreSpans (take i (zip ins (map (kind_at kinds) inputs))) → (shape ≡ Span) × (kind ≡ span_kind)
      → AreSpans (take (i + 1) (zip ins (map (kind_at kinds) inputs)))
  one_more i cell shape d kind l c s k h (p, q) =
      subst AreSpans (places_more ins kinds inputs count _ _ i cell shape d kind l c s k refl refl)
      (All-push (λ place. place ≡ (Span, span_kind)) (take i (zip ins (map (kind_at kinds) inputs))) (shape, kind) h
      (λ j. (p j, q j)))

  -- all of them
  pub all_spans : (i output : ℕ) (shape : Shape) (kind : Kinded) → length inputs ≤ i → kind ≡ kind_at kinds output
      → AreSpans (take i (zip ins (map (kind_at kinds) inputs))) → (shape ≡ Span) × (kind ≡ span_kind)
      → AreSpans (zip (ins ++ shape ∷ []) (map (kind_at kinds) (inputs ++ output ∷ [])))
  all_spans i output shape kind l k h (p, q) =
      subst AreSpans (places_all ins kinds inputs count _ _ i output shape kind l k refl refl)
      (All-push (λ place. place ≡ (Span, span_kind)) (take i (zip ins (map (kind_at kinds) inputs))) (shape, kind) h
      (λ j. (p j, q j)))
