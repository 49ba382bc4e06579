-- Tables of procedures by how many pairs or entries they have.
use Rattle.std.proofs.Common.{◌≡◌, ◌≤◌, ◌+◌, ◌*◌, ℕ, min, zero, suc, List, [], ◌∷◌, ◌++◌, true, replicate, take, All}
use Rattle.std.proofs.Common.{arith, refl, ap, subst, codes, length, sym}
use Rattle.std.specs.Prelude.{Bool}
use Rattle.std.specs.List.{list_all}
use Rattle.std.proofs.lemmas.List.{take-replicate, length-replicate}
use Rattle.std.proofs.lemmas.List.Elements.{All-append}
use Rattle.prop_procedures.specs.declared.shape.Shape.{Shape}
use Rattle.prop_procedures.specs.declared.shape.Shape.TheVariants.{Span, Truth, Any}
use Rattle.prop_rows.specs.Procedures.{Named, IsFormed, OthersAreFormed, behind, digits, in_order, ins_of, up_to}
use Rattle.prop_rows.specs.Row.{AreSpans, Begins, is_span, is_any}
use Rattle.prop_rows.specs.declared.row.Row.{Row}
use Rattle.prop_rows.specs.declared.row.Row.TheVariants.{Sum, Addend, Element, Index, Entry}
use Rattle.prop_rows.specs.declared.row.Row.TheVariants.{Count, CountBack, Greatest, GreatestBack}
use Rattle.prop_rows.specs.declared.row.Row.TheVariants.{Least, LeastBack}
use Rattle.prop_wide.specs.Wide.{AreNumberAndTruths, is_truth}

all_alike : {X : Type 0} (P : X → Bool) (x : X) (n : ℕ) → P x ≡ true → list_all P (replicate n x) ≡ true
all_alike P x zero h = refl
all_alike P x (suc n) h = rw (h, all_alike P x n h) refl

-- the shapes of a number, and of a value and a number, before a row
pub behind_one : (many : ℕ) (s : Shape) → many ≤ 64
    → take (many + 1) (s ∷ replicate 64 (Any 0)) ≡ s ∷ replicate many (Any 0)
behind_one many s l = subst (λ k. take k (s ∷ replicate 64 (Any 0)) ≡ s ∷ replicate many (Any 0)) next
    (ap (λ rest. s ∷ rest) (take-replicate many 64 (Any 0) l))
  where
    next : suc many ≡ many + 1
    next = omega arith

pub behind_two : (many : ℕ) (s t : Shape) → many ≤ 64
    → take (many + 2) (s ∷ t ∷ replicate 64 (Any 0)) ≡ s ∷ t ∷ replicate many (Any 0)
behind_two many s t l = subst (λ k. take k (s ∷ t ∷ replicate 64 (Any 0)) ≡ s ∷ t ∷ replicate many (Any 0)) next
    (ap (λ rest. s ∷ t ∷ rest) (take-replicate many 64 (Any 0) l))
  where
    next : suc (suc many) ≡ many + 2
    next = omega arith

-- a number and others
one_more : (n : ℕ) → Begins Span AreSpans (replicate (min (suc n) 64) Span)
one_more n = subst (λ k. Begins Span AreSpans (replicate k Span)) next
    (refl, all_alike is_span Span (min n 63) refl)
  where
    next : suc (min n 63) ≡ min (suc n) 64
    next = omega arith

-- a number and truths
with_truths : (n : ℕ) → ins_of CountBack (suc n) ≡ Span ∷ replicate (min n 63) Truth
with_truths n = subst (λ k. take k (Span ∷ replicate 63 Truth) ≡ Span ∷ replicate (min n 63) Truth)
    next (ap (λ rest. Span ∷ rest) (take-replicate (min n 63) 63 Truth (omega arith)))
  where
    next : suc (min n 63) ≡ min (suc n) 64
    next = omega arith

-- 1 and more make a form
formed : (rule : Row) (name : List ℕ) (n : ℕ) → IsFormed (record { name = name; rule = rule; many = suc n })
formed Sum name n = record {
  some = omega (arith, length-replicate (2 * min (suc n) 64) Span);
  formed = (
    all_alike is_span Span (2 * min (suc n) 64) refl,
    refl,
    refl,
    omega (arith, length-replicate (2 * min (suc n) 64) Span),
  );
}
formed Addend name n = record {
  some = omega (arith, length-replicate (2 * min (suc n) 64) Span);
  formed = (two n, refl, refl, omega (arith, length-replicate (2 * min (suc n) 64) Span));
}
  where
    two : (n : ℕ) → Begins Span (Begins Span AreSpans) (replicate (2 * min (suc n) 64) Span)
    two n = subst (λ k. Begins Span (Begins Span AreSpans) (replicate k Span)) twice
        (refl, (refl, all_alike is_span Span (2 * min n 63) refl))
      where
        twice : suc (suc (2 * min n 63)) ≡ 2 * min (suc n) 64
        twice = omega arith
formed Element name n = record {
  some = omega (arith, length-replicate (min (suc n) 64) (Any 0));
  formed = (
    (refl, all_alike is_any (Any 0) (min (suc n) 64) refl),
    refl,
    refl,
    omega (arith, length-replicate (min (suc n) 64) (Any 0)),
  );
}
formed Index name n = record {
  some = omega (arith, length-replicate (min (suc n) 64) (Any 0));
  formed = (
    (refl, (refl, all_alike is_any (Any 0) (min (suc n) 64) refl)),
    refl,
    refl,
    omega (arith, length-replicate (min (suc n) 64) (Any 0)),
  );
}
formed Count name n = record {
  some = omega (arith, length-replicate (min (suc n) 64) Truth);
  formed = (
    all_alike is_truth Truth (min (suc n) 64) refl,
    refl,
    refl,
    omega (arith, length-replicate (min (suc n) 64) Truth),
  );
}
formed CountBack name n = record {
  some = subst (λ ins. 1 ≤ length ins) (sym (with_truths n)) (omega (arith, length-replicate (min n 63) Truth));
  formed = (
    subst AreNumberAndTruths (sym (with_truths n)) (refl, all_alike is_truth Truth (min n 63) refl),
    refl,
    refl,
    subst (λ ins. length ins ≤ 128) (sym (with_truths n)) (omega (arith, length-replicate (min n 63) Truth)),
  );
}
formed Greatest name n = record {
  some = omega (arith, length-replicate (min (suc n) 64) Span);
  formed = (
    all_alike is_span Span (min (suc n) 64) refl,
    refl,
    refl,
    omega (arith, length-replicate (min (suc n) 64) Span),
  );
}
formed GreatestBack name n = record {
  some = omega (arith, length-replicate (min (suc n) 64) Span);
  formed = (one_more n, refl, refl, omega (arith, length-replicate (min (suc n) 64) Span));
}
formed Least name n = record {
  some = omega (arith, length-replicate (min (suc n) 64) Span);
  formed = (
    all_alike is_span Span (min (suc n) 64) refl,
    refl,
    refl,
    omega (arith, length-replicate (min (suc n) 64) Span),
  );
}
formed LeastBack name n = record {
  some = omega (arith, length-replicate (min (suc n) 64) Span);
  formed = (one_more n, refl, refl, omega (arith, length-replicate (min (suc n) 64) Span));
}
formed Entry name n = record { some = omega arith; formed = (refl, refl, refl, omega arith) }

all_behind : (some most : ℕ) (text : List ℕ) (rule : Row) → All IsFormed (behind some most text rule)
all_behind some zero text rule = λ k d h. absurd (omega (arith, h))
all_behind some (suc n) text rule = All-append IsFormed (behind some n text rule) _ (all_behind some n text rule)
    (only (formed rule (text ++ digits (suc (some + n))) (some + n)))
  where
    only : {p : Named} → IsFormed p → All IsFormed (p ∷ [])
    only h zero d k = h
    only h (suc i) d k = absurd (omega (arith, k))

last : List Named
last = record { name = codes "element_entry"; rule = Entry; many = 0 } ∷ []

last_formed : All IsFormed last
unfolding last
last_formed zero d k =
    record { some = omega arith; formed = (refl, refl, refl, omega arith) }
last_formed (suc i) d k = absurd (omega (arith, k))

-- one family before others
before : (some most : ℕ) (text : List ℕ) (rule : Row) (others : List Named) → All IsFormed others
    → All IsFormed (behind some most text rule ++ others)
before some most text rule others h =
    All-append IsFormed (behind some most text rule) others (all_behind some most text rule) h

pub all_formed : All IsFormed in_order
unfolding last
all_formed =
    let numbers = up_to 64 (codes "element_number") Index ++ last in
    let values = up_to 64 (codes "element_value") Element ++ numbers in
    let terms = up_to 32 (codes "linear_term") Addend ++ values in
    before 0 32 (codes "linear_sum") Sum terms
    (before 0 32 (codes "linear_term") Addend values
    (before 0 64 (codes "element_value") Element numbers
    (before 0 64 (codes "element_number") Index last last_formed)))

pub others_formed : OthersAreFormed
others_formed = (
  before 8 55 (codes "counter") Count (behind 8 55 (codes "count_back") CountBack)
      (all_behind 8 55 (codes "count_back") CountBack),
  before 0 63 (codes "maximizer") Greatest (up_to 63 (codes "max_back") GreatestBack)
      (all_behind 0 63 (codes "max_back") GreatestBack),
  before 0 63 (codes "minimizer") Least (up_to 63 (codes "min_back") LeastBack)
      (all_behind 0 63 (codes "min_back") LeastBack),
)
