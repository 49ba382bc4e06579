-- The entries that rest on a premise go from one cell after the other.
use Rattle.std.proofs.Common.{◌≡◌, ◌∙◌, ℕ, zero, suc, ◌<◌, ◌≤◌, ◌++◌, List, [], ◌∷◌, length, map, take, drop, get_or}
use Rattle.std.proofs.Common.{slice_set, refl, sym, ap, arith}
use Rattle.std.proofs.lemmas.List.{length-map, take-append-le, take_all}
use Rattle.prop_contents.specs.Contents.{Entry, content_of}
use Rattle.prop_contents.specs.Changes.{not_on}

pub content_forgotten : (p : ℕ) (contents : List (List Entry)) (cell : ℕ)
    → content_of (map (λ entries. not_on p entries) contents) cell ≡ not_on p (content_of contents cell)
content_forgotten p [] cell = refl
content_forgotten p (entries ∷ contents) zero = refl
content_forgotten p (entries ∷ contents) (suc cell) = content_forgotten p contents cell

-- the entries on p are gone from the first n cells
abbrev pub first_gone : ℕ → ℕ → List (List Entry) → List (List Entry)
first_gone p zero contents = contents
first_gone p (suc n) [] = []
first_gone p (suc n) (entries ∷ contents) = not_on p entries ∷ first_gone p n contents

pub first_gone-at : (p n : ℕ) (contents : List (List Entry)) (d : List Entry)
    → get_or (first_gone p n contents) n d ≡ get_or contents n d
first_gone-at p zero contents d = refl
first_gone-at p (suc n) [] d = refl
first_gone-at p (suc n) (entries ∷ contents) d = first_gone-at p n contents d

pub first_gone-more : (p n : ℕ) (contents : List (List Entry)) (d : List Entry) → n < length contents
    → slice_set (first_gone p n contents) n (not_on p (get_or contents n d)) ≡ first_gone p (suc n) contents
first_gone-more p n [] d l = absurd (omega (arith, l))
first_gone-more p zero (entries ∷ contents) d l = refl
first_gone-more p (suc n) (entries ∷ contents) d l =
    ap (λ x. not_on p entries ∷ x) (first_gone-more p n contents d (omega (arith, l)))

pub first_gone-all : (p n : ℕ) (contents : List (List Entry)) → length contents ≤ n
    → first_gone p n contents ≡ map (λ entries. not_on p entries) contents
first_gone-all p zero [] l = refl
first_gone-all p zero (entries ∷ contents) l = absurd (omega (arith, l))
first_gone-all p (suc n) [] l = refl
first_gone-all p (suc n) (entries ∷ contents) l =
    ap (λ x. not_on p entries ∷ x) (first_gone-all p n contents (omega (arith, l)))

-- all contents, written back in their place
pub written_back : (p : ℕ) (old new : List (List Entry)) (n : ℕ) → n ≡ length old
    → new ≡ map (λ entries. not_on p entries) old
    → take n (new ++ drop (length new) old) ≡ map (λ entries. not_on p entries) old
written_back p old new n count is =
    let all : length new ≡ n = ap length is ∙ length-map old (λ entries. not_on p entries) ∙ sym count in
    take-append-le n new (drop (length new) old) (omega (arith, all)) ∙ take_all n new (omega (arith, all)) ∙ is
