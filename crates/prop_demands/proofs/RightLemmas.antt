-- Whether a procedure may stand between cells.
use Rattle.std.proofs.Common.{◌≡◌, ℕ, ◌<◌, List, [], ◌∷◌, length, refl, true, Some, None}
use Rattle.std.specs.Prelude.{slice_get}
use Rattle.std.proofs.lemmas.Option.{get_or_from_slice_get, slice_get_within}
use Rattle.prop_procedures.specs.Fitting.{kind_at}
use Rattle.prop_procedures.specs.Stored.{are_right, span_kind}
use Rattle.prop_procedures.specs.declared.shape.Kinded.{Kinded}
use Rattle.prop_procedures.specs.declared.shape.Need.{Need}
use Rattle.prop_procedures.specs.declared.shape.Shape.{Shape}
use Rattle.prop_demands.specs.inner.Fitting.{IsRight}
use Rattle.prop_demands.proofs.Lists.{all_of}

module _ (kinds : List Kinded) (ins : List Shape) (out : Shape) (need : Need) (o : ℕ) (l : Kinded)
    (at : slice_get kinds o ≡ Some l)
  where
    there : (x : ℕ) (k : Kinded) → slice_get kinds x ≡ Some k → x < length kinds
    there x k e = slice_get_within kinds x k e

    kind_is : (x : ℕ) (k : Kinded) → slice_get kinds x ≡ Some k → kind_at kinds x ≡ k
    kind_is x k e = get_or_from_slice_get kinds x k span_kind e

    pub right_one : (x : ℕ) (s : Shape) (k : Kinded) → ins ≡ s ∷ [] → slice_get kinds x ≡ Some k
        → are_right need None ((s, k) ∷ (out, l) ∷ []) ≡ true → IsRight kinds ins out need (x ∷ []) o
    right_one x s k e f h = record {
      count = rw e refl;
      there = all_of (λ c. c < length kinds) (x ∷ o ∷ []) (there x k f, (there o l at, tt));
      right = rw (e, kind_is x k f, kind_is o l at) h;
    }

    pub right_two : (x y : ℕ) (s t : Shape) (k m : Kinded) → ins ≡ s ∷ t ∷ [] → slice_get kinds x ≡ Some k
        → slice_get kinds y ≡ Some m → are_right need None ((s, k) ∷ (t, m) ∷ (out, l) ∷ []) ≡ true
        → IsRight kinds ins out need (x ∷ y ∷ []) o
    right_two x y s t k m e f g h = record {
      count = rw e refl;
      there = all_of (λ c. c < length kinds) (x ∷ y ∷ o ∷ [])
          (there x k f, (there y m g, (there o l at, tt)));
      right = rw (e, kind_is x k f, kind_is y m g, kind_is o l at) h;
    }

    pub right_three : (x y z : ℕ) (s t u : Shape) (k m q : Kinded) → ins ≡ s ∷ t ∷ u ∷ []
        → slice_get kinds x ≡ Some k → slice_get kinds y ≡ Some m → slice_get kinds z ≡ Some q
        → are_right need None ((s, k) ∷ (t, m) ∷ (u, q) ∷ (out, l) ∷ []) ≡ true
        → IsRight kinds ins out need (x ∷ y ∷ z ∷ []) o
    right_three x y z s t u k m q e f g i h = record {
      count = rw e refl;
      there = all_of (λ c. c < length kinds) (x ∷ y ∷ z ∷ o ∷ [])
          (there x k f, (there y m g, (there z q i, (there o l at, tt))));
      right = rw (e, kind_is x k f, kind_is y m g, kind_is z q i, kind_is o l at) h;
    }
