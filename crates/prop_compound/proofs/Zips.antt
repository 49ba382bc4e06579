-- The places of a procedure beside the kinds of their cells.
use Rattle.std.proofs.Common.{◌≡◌, ℕ, ◌+◌, ◌<◌, ◌≤◌, List, [], ◌∷◌, ◌++◌, length, get_or, zip, map, take, refl, sym, ap}
use Rattle.std.proofs.Common.{arith, ◌∙◌}
use Rattle.std.proofs.lemmas.List.{length-map, map-append, take_more, take_all, get_or-map, get_or_default}
use Rattle.prop_procedures.proofs.Zips.{length-zip, get_or-zip}
use Rattle.prop_procedures.specs.declared.shape.Shape.{Shape}
use Rattle.prop_procedures.specs.declared.shape.Kinded.{Kinded}
use Rattle.prop_procedures.specs.Fitting.{kind_at}

-- one pair behind two lists of one length
zip_push : (shapes : List Shape) (kinds : List Kinded) (shape : Shape) (kind : Kinded) → length kinds ≡ length shapes
    → zip (shapes ++ shape ∷ []) (kinds ++ kind ∷ []) ≡ zip shapes kinds ++ (shape, kind) ∷ []
zip_push [] [] shape kind e = refl
zip_push [] (k ∷ kinds) shape kind e = absurd (omega (arith, e))
zip_push (s ∷ shapes) [] shape kind e = absurd (omega (arith, e))
zip_push (s ∷ shapes) (k ∷ kinds) shape kind e =
    ap (λ l. (s, k) ∷ l) (zip_push shapes kinds shape kind (omega (arith, e)))

module _ (ins : List Shape) (kinds : List Kinded) (inputs : List ℕ) (count : length inputs ≡ length ins) where
  abbrev all : List (Shape × Kinded)
  all = zip ins (map (kind_at kinds) inputs)

  all_length : length all ≡ length inputs
  all_length =
      let n = length-map inputs (kind_at kinds) in length-zip ins (map (kind_at kinds) inputs) (omega (arith, n, count))
      ∙ n

  -- one place more
  pub places_more : (places new : List (Shape × Kinded)) (i cell : ℕ) (shape d : Shape) (kind : Kinded)
      → i < length inputs → cell ≡ get_or inputs i 0 → shape ≡ get_or ins i d → kind ≡ kind_at kinds cell →
      places ≡ take i (zip ins (map (kind_at kinds) inputs)) → new ≡ places ++ (shape, kind) ∷ []
      → new ≡ take (i + 1) (zip ins (map (kind_at kinds) inputs))
  places_more places new i cell shape d kind l c s k e f =
      let in_ins : i < length ins = omega (arith, l, count) in
      let default = get_or_default ins i d shape in_ins in
      let n = length-map inputs (kind_at kinds) in
      let at = get_or-zip ins (map (kind_at kinds) inputs) i shape kind (shape, kind) in_ins (omega (arith, n, l)) in
      let at_kind = get_or-map (kind_at kinds) inputs i 0 kind l in
      let is_kind : kind_at kinds cell ≡ kind_at kinds (get_or inputs i 0) = ap (kind_at kinds) c in
      let more = take_more all i (shape, kind) (omega (arith, all_length, l)) in
      cc

  -- the last
  pub places_all : (places new : List (Shape × Kinded)) (i output : ℕ) (shape : Shape) (kind : Kinded)
      → length inputs ≤ i → kind ≡ kind_at kinds output → places ≡ take i (zip ins (map (kind_at kinds) inputs))
      → new ≡ places ++ (shape, kind) ∷ [] →
      new ≡ zip (ins ++ shape ∷ []) (map (kind_at kinds) (inputs ++ output ∷ []))
  places_all places new i output shape kind l k e f =
      let n = length-map inputs (kind_at kinds) in
      f ∙ (λ j. (e ∙ take_all i all (omega (arith, all_length, l))) j ++ (shape, k j) ∷ []) ∙
      sym (ap (zip (ins ++ shape ∷ [])) (map-append (kind_at kinds) inputs (output ∷ []))
      ∙ zip_push ins (map (kind_at kinds) inputs) shape (kind_at kinds output) (omega (arith, n, count)))
