-- No potential is more than the most steps of its problem.
use Rattle.std.proofs.Common.{◌≡◌, ◌≢◌, ℕ, ◌<◌, ◌≤◌, ◌==◌, Bool, false, cond, List, [], ◌∷◌, Option, Some, None, All}
use Rattle.std.proofs.Common.{length, get_or, slice_get, ◌+◌, sum_by, count_by, refl, sym, ap, arith, inl, inr}
use Rattle.std.specs.List.{IsDistinct}
use Rattle.std.proofs.lemmas.Bool.{eq-eqb, eqb-true}
use Rattle.std.proofs.lemmas.Bool.Decides.{eqb_tells}
use Rattle.std.proofs.lemmas.List.Elements.{All-contains, recursion_from_All}
use Rattle.std.proofs.lemmas.List.Sums.{sum_by-cons, sum_by-le, sum_by-le-sum_by, get_or-le-sum_by}
use Rattle.std.proofs.lemmas.Map.Keys.{IsDistinct-cons}
use Rattle.std.proofs.lemmas.Map.Steps.{length-le_from_distinct_below}
use Rattle.std.proofs.lemmas.Map.Views.{Contains-from_any}
use Rattle.prop_lattice.specs.declared.info.Info.{Info}
use Rattle.prop_lattice.specs.declared.info.Info.TheVariants.{Nothing, Span, Set, Sym, Contradiction}
use Rattle.prop_lattice.specs.declared.info.Kind.{Kind}
use Rattle.prop_lattice.specs.declared.info.Kind.TheVariants.{Span as SpanKind, Set as SetKind, Symbol}
use Rattle.prop_lattice.specs.Rank.{IsOf, rank_of}
use Rattle.prop_lattice.proofs.RankLemmas.{rank_falls}
use Rattle.prop_procedures.specs.declared.shape.Kinded.{Kinded}
use Rattle.prop_cells.specs.Problems.{Assignment}
use Rattle.prop_cells.specs.inner.Problems.{AreOfKinds}
use Rattle.prop_cells.specs.Problems.{Problem}
use Rattle.prop_cells.proofs.Keeping.{All-at}
use Rattle.prop_lattice.specs.Rank.{largest_rank}
use Rattle.prop_scheduler.specs.Potential.{rank_in, input_places, most_steps}
use Rattle.prop_scheduler.specs.Bounds.{IsSmall, MostIsMost, MostOfSmall}

-- ---- the line

abbrev one_if : Bool → ℕ
one_if b = cond b 1 0

-- what stands once at most with x in front differs from x
apart : (x : ℕ) (xs : List ℕ) → ((j : ℕ) → count_by (λ k. k == j) (x ∷ xs) ≤ 1) → All (λ y. (x == y) ≡ false) xs
apart x xs once = λ i d l. elim (eqb_tells x (get_or xs i d)) as (λ _. (x == get_or xs i d) ≡ false) [
  | inl same ↦
      (let here : one_if (x == x) ≡ 1 = ap one_if (eq-eqb x x refl) in
      let there : one_if (get_or xs i d == x) ≡ 1 = ap one_if (eq-eqb (get_or xs i d) x (sym same.1)) in
      let within = get_or-le-sum_by (λ k. one_if (k == x)) xs i d l in
      let all = sum_by-cons (λ k. one_if (k == x)) x xs in
      let most = once x in
      absurd (omega (arith, here, there, within, all, most)))
  | inr other ↦ other.0
]

distinct : (xs : List ℕ) → ((j : ℕ) → count_by (λ k. k == j) xs ≤ 1) → IsDistinct (◌==◌) xs
unfolding IsDistinct
distinct [] once = tt
distinct (x ∷ xs) once =
    IsDistinct-cons (◌==◌) x xs (recursion_from_All (λ y. (x == y) ≡ false) xs (apart x xs once))
    (distinct xs (λ j. let all = sum_by-cons (λ k. one_if (k == j)) x xs in let most = once j in omega
    (arith, all, most)))

-- numbers below n, each once at most, are at most n
pub few_below : (xs : List ℕ) (n : ℕ) → ((j : ℕ) → count_by (λ k. k == j) xs ≤ 1) → All (λ j. j < n) xs → length xs ≤ n
few_below xs n once below =
    length-le_from_distinct_below xs n (distinct xs once)
    (λ q h. All-contains (λ j. j < n) xs q below (Contains-from_any eqb-true q xs h))

-- ---- the ranks

-- no information of a kind has a larger rank than nothing
rank_within : (kind : Kind) (size : ℕ) (a : Info) → IsOf kind size a → rank_of kind size a ≤ rank_of kind size Nothing
rank_within kind size Nothing is = omega arith
rank_within kind size (Span s) is = let less =
    rank_falls kind size Nothing (Span s) tt is tt (λ e. cc e) in omega (arith, less)
rank_within kind size (Set s) is = let less =
    rank_falls kind size Nothing (Set s) tt is tt (λ e. cc e) in omega (arith, less)
rank_within kind size (Sym s) is = let less =
    rank_falls kind size Nothing (Sym s) tt is tt (λ e. cc e) in omega (arith, less)
rank_within kind size Contradiction is = omega arith

rank_at : (kinds : List Kinded) (a : Assignment) → AreOfKinds kinds a → (cell : ℕ) (k : Option Kinded)
    → slice_get kinds cell ≡ k → rank_in k (a cell) ≤ rank_in k Nothing
rank_at kinds a are cell None at = omega arith
rank_at kinds a are cell (Some k) at = rank_within k.kind k.size (a cell) (are.of_kind cell k at)

-- ---- both

abbrev most_at : Option Kinded → ℕ
most_at k = elim k [ None ↦ 0 | Some k ↦ largest_rank k.kind k.size ]

most_in : (k : Option Kinded) → most_at k ≡ rank_in k Nothing
most_in None = refl
most_in (Some k) = refl

-- most_steps takes the ranks of nothing
pub most_ranks : (problem : Problem) → most_steps problem ≡ length problem.constraints
    + sum_by (λ cell. rank_in (slice_get problem.cells cell) Nothing) (input_places problem)
most_ranks problem i = length problem.constraints
    + sum_by (λ cell. most_in (slice_get problem.cells cell) i) (input_places problem)

pub most_is_most : MostIsMost
most_is_most problem a line are is =
    let few = few_below line (length problem.constraints) is.once is.below in
    let ranks = sum_by-le-sum_by (λ cell. rank_in (slice_get problem.cells cell) (a cell))
    (λ cell. rank_in (slice_get problem.cells cell) Nothing) (input_places problem)
    (λ cell. rank_at problem.cells a are cell (slice_get problem.cells cell) refl) in
    omega (arith, few, ranks, most_ranks problem)

-- ---- sets and symbols

small_rank : (kind : Kind) (size : ℕ) → kind ≢ SpanKind → size ≤ 64 → rank_of kind size Nothing ≤ 65
small_rank SpanKind size no_span few = absurd (no_span refl)
small_rank (SetKind domain) size no_span few = omega (arith, few)
small_rank Symbol size no_span few = omega arith

small_at : (kinds : List Kinded) → All IsSmall kinds → (cell : ℕ) (k : Option Kinded) → slice_get kinds cell ≡ k
    → rank_in k Nothing ≤ 65
small_at kinds all cell None at = omega arith
small_at kinds all cell (Some k) at = let small =
    All-at IsSmall kinds cell k all at in small_rank k.kind k.size small.no_span small.size

pub most_of_small : MostOfSmall
most_of_small problem small =
    let ranks = sum_by-le (λ cell. rank_in (slice_get problem.cells cell) Nothing) 65 (input_places problem)
    (λ i d l. small_at problem.cells small (get_or (input_places problem) i d)
    (slice_get problem.cells (get_or (input_places problem) i d)) refl) in
    omega (arith, ranks, most_ranks problem)
