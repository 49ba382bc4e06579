-- The texts of names.
use Rattle.std.proofs.Common.{◌≡◌, ℕ, ◌+◌, ◌<◌, ◌≤◌, List, [], ◌∷◌, ◌++◌, length, take, get_or, map, flat_map, codes}
use Rattle.std.proofs.Common.{true, false, cond, slice_get, Some, append-nil, refl, sym, ◌∙◌, ap, arith}
use Rattle.std.specs.Prelude.{◌==◌, filter}
use Rattle.std.specs.Borrow.{Bor}
use Rattle.std.specs.Int.{bit_at}
use Rattle.std.specs.List.{enumerate_from, join_by}
use Rattle.std.proofs.lemmas.List.{take_more, take_all, map-append}
use Rattle.std.proofs.lemmas.List.Elements.{filter-append}
use Rattle.std.proofs.lemmas.List.FromFn.{length-enumerate_from, get_or-enumerate_from}
use Rattle.std.proofs.lemmas.Option.{slice_get-get_or}
use Rattle.prop_sets.specs.Names.{texts_of}
use Rattle.prop_vocabulary.specs.Texts.{names_in, in_braces}

flat_map-texts : (names : List (Bor (List ℕ)))
    → flat_map (λ (y : Bor (List ℕ)). codes " " ++ y.now) names ≡ flat_map (λ (y : List ℕ). codes " " ++ y)
    (texts_of names)
flat_map-texts [] = refl
flat_map-texts (x ∷ xs) = ap (λ t. (codes " " ++ x.now) ++ t) (flat_map-texts xs)

joined-texts : (names : List (Bor (List ℕ)))
    → join_by (λ (y : Bor (List ℕ)). y.now) (codes " ") names ≡ join_by (λ (y : List ℕ). y) (codes " ") (texts_of names)
joined-texts [] = refl
joined-texts (x ∷ xs) = ap (λ t. x.now ++ t) (flat_map-texts xs)

-- several names, or none, are in braces
pub braced : (names : List (Bor (List ℕ))) → (length names ≡ 1 → ⊥)
    → codes "{" ++ (join_by (λ (y : Bor (List ℕ)). y.now) (codes " ") names ++ codes "}") ≡ in_braces (texts_of names)
braced [] f = refl
braced (x ∷ []) f = absurd (f refl)
braced (x ∷ y ∷ xs) f = ap (λ t. codes "{" ++ (t ++ codes "}")) (joined-texts (x ∷ y ∷ xs))

-- ---- the elements whose bits are set

-- the names of these places whose bits are set
abbrev pub picked : ℕ → List (ℕ × List ℕ) → List (List ℕ)
picked bits places = map (λ p. p.1) (filter (λ p. bit_at bits p.0 == 1) places)

picked-append : (bits : ℕ) (xs ys : List (ℕ × List ℕ)) → picked bits (xs ++ ys) ≡ picked bits xs ++ picked bits ys
picked-append bits xs ys =
    ap (map (λ (p : ℕ × List ℕ). p.1)) (filter-append (λ (p : ℕ × List ℕ). bit_at bits p.0 == 1) xs ys)
    ∙ map-append (λ (p : ℕ × List ℕ). p.1) (filter (λ (p : ℕ × List ℕ). bit_at bits p.0 == 1) xs)
    (filter (λ (p : ℕ × List ℕ). bit_at bits p.0 == 1) ys)

one_more : (elements : List (List ℕ)) (bits i : ℕ) (d : List ℕ) → i < length elements →
    picked bits (take (i + 1) (enumerate_from 0 elements)) ≡ picked bits (take i (enumerate_from 0 elements))
    ++ picked bits ((i, get_or elements i d) ∷ [])
one_more elements bits i d l =
    let all = enumerate_from 0 elements in
    let there : i < length all = omega (arith, l, length-enumerate_from 0 elements) in
    let from : 0 + i ≡ i = omega arith in
    ap (picked bits) (take_more all i (0, d) there
    ∙ ap (λ p. take i all ++ p ∷ []) (get_or-enumerate_from 0 elements i (0, d) l)
    ∙ ap (λ (k : ℕ). take i all ++ (k, get_or elements i d) ∷ []) from)
    ∙ picked-append bits (take i all) ((i, get_or elements i d) ∷ [])

-- the element at a place whose bit is set
pub picks : (elements names : List (List ℕ)) (bits i : ℕ) (d element : List ℕ) → i < length elements
    → (bit_at bits i == 1) ≡ true → slice_get elements i ≡ Some element
    → names ≡ picked bits (take i (enumerate_from 0 elements)) →
    names ++ element ∷ [] ≡ picked bits (take (i + 1) (enumerate_from 0 elements))
picks elements names bits i d element l set at e =
    let found : Some element ≡ Some (get_or elements i d) = sym at ∙ slice_get-get_or elements i d l in
    let is : element ≡ get_or elements i d = cc in
    (λ k. e k ++ is k ∷ []) ∙ sym (one_more elements bits i d l
    ∙ ap (λ b. picked bits (take i (enumerate_from 0 elements)) ++ map (λ (p : ℕ × List ℕ). p.1)
    (cond b ((i, get_or elements i d) ∷ []) [])) set)

-- a place whose bit is not set
pub passes : (elements names : List (List ℕ)) (bits i : ℕ) → i < length elements → (bit_at bits i == 1) ≡ false
    → names ≡ picked bits (take i (enumerate_from 0 elements)) →
    names ≡ picked bits (take (i + 1) (enumerate_from 0 elements))
passes elements names bits i l set e =
    e ∙ sym (one_more elements bits i [] l
    ∙ ap (λ b. picked bits (take i (enumerate_from 0 elements)) ++ map (λ (p : ℕ × List ℕ). p.1)
    (cond b ((i, get_or elements i []) ∷ []) [])) set
    ∙ append-nil (picked bits (take i (enumerate_from 0 elements))))

-- all places
pub picked_all : (elements names : List (List ℕ)) (bits i : ℕ) → length elements ≤ i
    → names ≡ picked bits (take i (enumerate_from 0 elements)) → names ≡ names_in elements bits
picked_all elements names bits i l e =
    e ∙ ap (picked bits) (take_all i (enumerate_from 0 elements) (omega (arith, l, length-enumerate_from 0 elements)))
