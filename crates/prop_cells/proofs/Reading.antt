-- What the row of a cell's readers has.
use Rattle.std.proofs.Common.{◌≡◌, ◌∙◌, ℕ, zero, suc, ◌+◌, ◌<◌, ◌≤◌, ◌==◌, ◌||◌, Bool, true, false, cond, List, [], ◌∷◌}
use Rattle.std.proofs.Common.{Some, All, Contains, length, get_or, slice_get, count_by, flat_map, map, refl, ap, arith}
use Rattle.std.proofs.Common.{add-zero, zero-add}
use Rattle.std.specs.List.{list_any}
use Rattle.std.proofs.lemmas.Bool.{eq-eqb}
use Rattle.std.proofs.lemmas.List.Elements.{All-cons, All-weaker}
use Rattle.std.proofs.lemmas.List.Folds.{list_any_at}
use Rattle.std.proofs.lemmas.List.Sums.{sum_by-cons, sum_by-append}
use Rattle.prop_procedures.specs.Stored.{Stored}
use Rattle.prop_cells.specs.Instances.{Instance, numbers_from, readers_of, writers_of, constraint_of}
use Rattle.prop_cells.specs.inner.Data.{AreReaders}

contains_head : (n : ℕ) (ns : List ℕ) → Contains (n ∷ ns) n
contains_head n ns = (0, omega arith, refl)

contains_tail : (n k : ℕ) (ns : List ℕ) → Contains ns k → Contains (n ∷ ns) k
contains_tail n k ns (i, l, e) = (suc i, omega (arith, l), e)

contains_cond : (b : Bool) (n k : ℕ) (ns : List ℕ) → Contains ns k → Contains (cond b (n ∷ ns) ns) k
contains_cond true n k ns h = contains_tail n k ns h
contains_cond false n k ns h = h

contains_passed : (b : Bool) (n : ℕ) (ns : List ℕ) → b ≡ true → Contains (cond b (n ∷ ns) ns) n
contains_passed true n ns e = contains_head n ns
contains_passed false n ns e = cc

numbers_cover : (passes : Instance → Bool) (n : ℕ) (xs : List Instance) (j : ℕ) (x : Instance) → slice_get xs j ≡ Some x
    → passes x ≡ true → Contains (numbers_from passes n xs) (n + j)
numbers_cover passes n [] j x e t = cc
numbers_cover passes n (y ∷ ys) zero x e t =
    let same : y ≡ x = cc in
    rw add-zero (contains_passed (passes y) n (numbers_from passes (n + 1) ys) (ap passes same ∙ t))
numbers_cover passes n (y ∷ ys) (suc j) x e t =
    let next : n + 1 + j ≡ n + suc j = omega arith in
    rw (← next) (contains_cond (passes y) n (n + 1 + j) (numbers_from passes (n + 1) ys)
    (numbers_cover passes (n + 1) ys j x e t))

all_cond : (P : ℕ → Type 0) (b : Bool) (n : ℕ) (ns : List ℕ) → P n → All P ns → All P (cond b (n ∷ ns) ns)
all_cond P true n ns h all = All-cons P n ns h all
all_cond P false n ns h all = all

numbers_below : (passes : Instance → Bool) (n : ℕ) (xs : List Instance)
    → All (λ j. j < n + length xs) (numbers_from passes n xs)
numbers_below passes n [] = λ k d l. absurd (omega (arith, l))
numbers_below passes n (y ∷ ys) =
    all_cond (λ j. j < n + length (y ∷ ys)) (passes y) n (numbers_from passes (n + 1) ys) (omega arith)
    (All-weaker (λ j. j < n + 1 + length ys) (λ j. j < n + length (y ∷ ys)) (λ j h. omega (arith, h))
    (numbers_from passes (n + 1) ys) (numbers_below passes (n + 1) ys))

reads : (cells : List ℕ) (cell : ℕ) → Contains cells cell → list_any (λ input. input == cell) cells ≡ true
reads cells cell (k, l, e) = list_any_at (λ input. input == cell) cells k cell l (eq-eqb (get_or cells k cell) cell e)

pub readers_are : (instances : List Instance) (cell : ℕ) → AreReaders instances cell (readers_of instances cell)
readers_are instances cell = record {
  covers = λ j x at in_x. rw (← zero-add j)
      (numbers_cover (λ y. list_any (λ input. input == cell) y.inputs) 0 instances j x at (reads x.inputs cell in_x));
  below = All-weaker (λ j. j < 0 + length instances) (λ j. j < length instances) (λ j h. omega (arith, h))
      (readers_of instances cell) (numbers_below (λ y. list_any (λ input. input == cell) y.inputs) 0 instances);
}

pub writers_cover : (instances : List Instance) (cell j : ℕ) (x : Instance) → slice_get instances j ≡ Some x
    → x.output ≡ cell → Contains (writers_of instances cell) j
writers_cover instances cell j x at same =
    rw (← zero-add j) (numbers_cover (λ y. y.output == cell) 0 instances j x at (eq-eqb x.output cell same))

pub writers_below : (instances : List Instance) (cell : ℕ) → All (λ j. j < length instances) (writers_of instances cell)
writers_below instances cell =
    All-weaker (λ j. j < 0 + length instances) (λ j. j < length instances) (λ j h. omega (arith, h))
    (writers_of instances cell) (numbers_below (λ y. y.output == cell) 0 instances)

-- ---- there are no more readers than input places with the cell

one_place : (cells : List ℕ) (cell : ℕ)
    → cond (list_any (λ input. input == cell) cells) 1 0 ≤ count_by (λ input. input == cell) cells
one_place [] cell = omega arith
one_place (c ∷ cs) cell = rw (sum_by-cons (λ x. cond (x == cell) 1 0) c cs)
    (at (c == cell) (list_any (λ input. input == cell) cs) (count_by (λ input. input == cell) cs) (one_place cs cell))
  where
    at : (a b : Bool) (n : ℕ) → cond b 1 0 ≤ n → cond (a || b) 1 0 ≤ cond a 1 0 + n
    at true b n h = omega arith
    at false b n h = omega (arith, h)

length_cond : (b : Bool) (n : ℕ) (ns : List ℕ) → length (cond b (n ∷ ns) ns) ≡ cond b 1 0 + length ns
length_cond true n ns = omega arith
length_cond false n ns = omega arith

pub few_readers : (library : List Stored) (cell n : ℕ) (xs : List Instance) →
    length (numbers_from (λ x. list_any (λ input. input == cell) x.inputs) n xs) ≤ count_by (λ c. c == cell)
    (flat_map (λ c. c.inputs) (map (constraint_of library) xs))
few_readers library cell n [] = omega arith
few_readers library cell n (x ∷ xs) =
    let ih = few_readers library cell (n + 1) xs in
    let here = one_place x.inputs cell in
    let len = length_cond (list_any (λ input. input == cell) x.inputs) n
    (numbers_from (λ y. list_any (λ input. input == cell) y.inputs) (n + 1) xs) in
    let sum = sum_by-append (λ c. cond (c == cell) 1 0) x.inputs
    (flat_map (λ c. c.inputs) (map (constraint_of library) xs)) in
    omega (arith, ih, here, len, sum)
