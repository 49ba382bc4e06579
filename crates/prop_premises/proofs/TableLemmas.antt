-- The premises of a table of names, part by part.
use Rattle.std.proofs.Common.{◌≡◌, ℕ, zero, suc, ◌+◌, ◌-◌, ◌<◌, ◌≤◌, List, [], ◌∷◌, ◌++◌, length, take, replicate, refl}
use Rattle.std.proofs.Common.{sym, ap, ◌∙◌, inl, inr, arith, slice_get, Some, String, string_bytes, append_assoc}
use Rattle.std.proofs.Common.{length-append}
use Rattle.std.proofs.lemmas.Bool.{cases_lt}
use Rattle.std.proofs.lemmas.List.{take_all}
use Rattle.prop_premises.specs.declared.named.Named.{Named}
use Rattle.prop_premises.specs.declared.named.Kind.{Kind}
use Rattle.prop_premises.specs.declared.named.Kind.TheVariants as kind
use Rattle.prop_premises.specs.inner.Named.{width, origins_of_kind, origins_of, places_from, IsKind, AreNumberedFrom}
use Rattle.prop_premises.proofs.ChoiceLemmas.{length-sides, slice_get-skip, slice_get-front}

pub length-kind : (name : List ℕ) (k : Kind) → length (origins_of_kind name k) ≡ width k
length-kind name (kind.User believed) = refl
length-kind name (kind.Choice sides) = length-sides name sides sides

length-replicate : {X : Type 0} (n : ℕ) (x : X) → length (replicate n x) ≡ n
length-replicate zero x = refl
length-replicate (suc n) x = ap suc (length-replicate n x)

slice_get-replicate : {X : Type 0} (n i : ℕ) (x : X) → i < n → slice_get (replicate n x) i ≡ Some x
slice_get-replicate zero i x l = absurd (omega (arith, l))
slice_get-replicate (suc n) zero x l = refl
slice_get-replicate (suc n) (suc i) x l = slice_get-replicate n i x (omega (arith, l))

kind_some : (k : Kind) → IsKind k → 1 ≤ width k
kind_some (kind.User believed) h = omega arith
kind_some (kind.Choice sides) h = omega (arith, h.0)

-- places that are made room for
pub resized : (items : List ℕ) (k n w place : ℕ) → k ≡ n + w → n ≡ length items
    → take k items ++ replicate (k - n) place ≡ items ++ replicate w place
resized items k n w place e f =
    ap (λ l. l ++ replicate (k - n) place) (take_all k items (omega (arith, e, f)))
    ∙ ap (λ m. items ++ replicate m place) (omega (arith, e))

-- ---- two parts

module _ {A : Type 0} where
  -- each number has a place
  pub length-places : (k : ℕ) (es : List (String A × Named)) → length (places_from k es) ≡ length (origins_of es)
  length-places k [] = refl
  length-places k (e ∷ es) =
      length-append (replicate (width e.1.kind) k) (places_from (suc k) es)
      ∙ omega (
        arith,
        length-replicate (width e.1.kind) k,
        length-places (suc k) es,
        length-kind (string_bytes e.0) e.1.kind,
        length-append (origins_of_kind (string_bytes e.0) e.1.kind) (origins_of es),
      )

  pub origins_of-append : (es fs : List (String A × Named)) → origins_of (es ++ fs) ≡ origins_of es ++ origins_of fs
  origins_of-append [] fs = refl
  origins_of-append (e ∷ es) fs =
      ap (λ l. origins_of_kind (string_bytes e.0) e.1.kind ++ l) (origins_of-append es fs)
      ∙ sym (append_assoc (origins_of_kind (string_bytes e.0) e.1.kind) (origins_of es) (origins_of fs))

  pub places_from-append : (k : ℕ) (es fs : List (String A × Named)) (m : ℕ) → m ≡ k + length es
      → places_from k (es ++ fs) ≡ places_from k es ++ places_from m fs
  places_from-append k [] fs m e = ap (λ n. places_from n fs) (omega (arith, e))
  places_from-append k (x ∷ es) fs m e =
      ap (λ l. replicate (width x.1.kind) k ++ l) (places_from-append (suc k) es fs m (omega (arith, e)))
      ∙ sym (append_assoc (replicate (width x.1.kind) k) (places_from (suc k) es) (places_from m fs))

  pub length-cons : (e : String A × Named) (es : List (String A × Named))
      → length (origins_of (e ∷ es)) ≡ width e.1.kind + length (origins_of es)
  length-cons e es = length-append (origins_of_kind (string_bytes e.0) e.1.kind) (origins_of es)
      ∙ ap (λ n. n + length (origins_of es)) (length-kind (string_bytes e.0) e.1.kind)

  pub numbered-first : (n : ℕ) (es fs : List (String A × Named)) → AreNumberedFrom n (es ++ fs) → AreNumberedFrom n es
  numbered-first n [] fs h = tt
  numbered-first n (e ∷ es) fs h = (h.0, h.1, numbered-first (n + width e.1.kind) es fs h.2)

  pub numbered-second : (n : ℕ) (es fs : List (String A × Named)) (m : ℕ) → m ≡ n + length (origins_of es)
      → AreNumberedFrom n (es ++ fs) → AreNumberedFrom m fs
  numbered-second n [] fs m e h = let same : m ≡ n = omega (arith, e) in rw same h
  numbered-second n (x ∷ es) fs m e h =
      numbered-second (n + width x.1.kind) es fs m (omega (arith, e, length-cons x es)) h.2

  pub numbered-both : (n : ℕ) (es fs : List (String A × Named)) (m : ℕ) → m ≡ n + length (origins_of es)
      → AreNumberedFrom n es → AreNumberedFrom m fs → AreNumberedFrom n (es ++ fs)
  numbered-both n [] fs m e h k = let same : n ≡ m = omega (arith, e) in rw same k
  numbered-both n (x ∷ es) fs m e h k =
      (h.0, h.1, numbered-both (n + width x.1.kind) es fs m (omega (arith, e, length-cons x es)) h.2 k)

  -- there are no more names than numbers
  pub names_within : (n : ℕ) (es : List (String A × Named)) → AreNumberedFrom n es → length es ≤ length (origins_of es)
  names_within n [] h = omega arith
  names_within n (e ∷ es) h = omega (
    arith,
    kind_some e.1.kind h.1,
    names_within (n + width e.1.kind) es h.2,
    length-cons e es,
  )

-- ---- the name that has a number

-- The table, cut at the name that has the number p: its place is q, where the first name has place k.
pub record Cut {A : Type 0} (k : ℕ) (es : List (String A × Named)) (p q : ℕ) : Type 0 where
  pub front : List (String A × Named)
  pub entry : String A × Named
  pub rest : List (String A × Named)
  pub side : ℕ
  pub whole : es ≡ front ++ entry ∷ rest
  pub place : q ≡ k + length front
  pub number : p ≡ length (origins_of front) + side
  pub inside : side < width entry.1.kind

same_some : {X : Type 0} (x y : X) → Some x ≡ Some y → x ≡ y
same_some x y e = cc

pub cut : {A : Type 0} (k : ℕ) (es : List (String A × Named)) (p q : ℕ) → slice_get (places_from k es) p ≡ Some q
    → Cut k es p q
cut k [] p q h = cc
cut k (e ∷ es) p q h = elim (cases_lt p (width e.1.kind)) [
  | inl below ↦ (
      let here = slice_get-front (replicate (width e.1.kind) k) (places_from (suc k) es) p
      (omega (arith, below, length-replicate (width e.1.kind) k))
      ∙ slice_get-replicate (width e.1.kind) p k below in
      let same = same_some q k (sym h ∙ here) in
      record {
        front = [];
        entry = e;
        rest = es;
        side = p;
        whole = refl;
        place = omega (arith, same);
        number = omega arith;
        inside = below;
      })
  | inr above ↦ (
      let w = width e.1.kind in
      let split : p ≡ w + (p - w) = omega (arith, above) in
      let there = sym (slice_get-skip (replicate w k) (places_from (suc k) es) (p - w) p
      (omega (arith, split, length-replicate w k))) ∙ h in
      let c = cut (suc k) es (p - w) q there in
      record {
        front = e ∷ c.front;
        entry = c.entry;
        rest = c.rest;
        side = c.side;
        whole = ap (λ l. e ∷ l) c.whole;
        place = omega (arith, c.place);
        number = omega (arith, split, c.number, length-cons e c.front);
        inside = c.inside;
      })
]
