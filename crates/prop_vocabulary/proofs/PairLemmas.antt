-- Pairs of elements, one more at a time.
use Rattle.std.proofs.Common.{◌≡◌, ◌∙◌, ℕ, ◌+◌, ◌<◌, Bool, true, false, ◌||◌, List, [], ◌∷◌, ◌++◌, Some, None, length}
use Rattle.std.proofs.Common.{take, get_or, map, fold, unwrap_or, refl, sym, ap}
use Rattle.std.specs.Borrow.{Bor}
use Rattle.std.specs.List.{list_any}
use Rattle.std.proofs.lemmas.List.{take_more, map-append}
use Rattle.std.proofs.lemmas.List.Sums.{fold-append}
use Rattle.prop_refusals.specs.declared.refusal.Refusal.TheVariants.{NotInTheDomain}
use Rattle.prop_sets.specs.Relation.{Relation, with_pair, no_pairs}
use Rattle.prop_vocabulary.specs.Pairs.{texts_of_pairs}
use Rattle.prop_vocabulary.specs.inner.Between.{place_of, with_pairs}
use Rattle.prop_vocabulary.specs.inner.Named.{with_named_pair, is_pair_outside}
use Rattle.prop_vocabulary.specs.Pairs.{is_outside}
use Rattle.prop_vocabulary.specs.Refusing.{pairs_refusal}
use Rattle.prop_vocabulary.specs.inner.Named.{is_word_outside}
use Rattle.prop_vocabulary.specs.Vocabulary.{Vocabulary, domain_number, elements_of, side_at}
use Rattle.prop_vocabulary.specs.inner.Between.{relation_between}
use Rattle.prop_vocabulary.specs.Vocabulary.{HasSides}
use Rattle.prop_vocabulary.proofs.RefusalLemmas.{word_outside, pairs_allowed}

texts_more : (pairs : List (Bor (List ℕ) × Bor (List ℕ))) (i : ℕ) (d : Bor (List ℕ) × Bor (List ℕ)) → i < length pairs →
    texts_of_pairs (take (i + 1) pairs) ≡ texts_of_pairs
    (take i pairs) ++ ((get_or pairs i d).0.now, (get_or pairs i d).1.now) ∷ []
texts_more pairs i d l =
    let f : Bor (List ℕ) × Bor (List ℕ) → List ℕ × List ℕ = λ pair. (pair.0.now, pair.1.now) in
    ap texts_of_pairs (take_more pairs i d l) ∙ map-append f (take i pairs) (get_or pairs i d ∷ [])

-- the relation with one pair more
pub pairs_more : (first second : List (List ℕ)) (start before after : Relation)
    (pairs : List (Bor (List ℕ) × Bor (List ℕ))) (i : ℕ) (d : Bor (List ℕ) × Bor (List ℕ)) (a b : ℕ) → i < length pairs
    →
    before ≡ with_pairs first second start (texts_of_pairs (take i pairs)) → a ≡ place_of first (get_or pairs i d).0.now
    → b ≡ place_of second (get_or pairs i d).1.now → after ≡ with_pair before a b →
    after ≡ with_pairs first second start (texts_of_pairs (take (i + 1) pairs))
pairs_more first second start before after pairs i d a b l e p q is =
    let pair : List ℕ × List ℕ = ((get_or pairs i d).0.now, (get_or pairs i d).1.now) in
    let texts = texts_of_pairs (take i pairs) in
    let f = with_named_pair first second in
    let same : with_pair before a b ≡ f before pair = (λ t. with_pair before (p t) (q t)) in
    is ∙ same ∙ ap (λ m. f m pair) e ∙ sym (fold-append f start texts (pair ∷ []))
    ∙ ap (λ t. fold f start t) (sym (texts_more pairs i d l))

list_any-map : {X Y : Type 0} (f : X → Y) (p : Y → Bool) (xs : List X)
    → list_any p (map f xs) ≡ list_any (λ x. p (f x)) xs
list_any-map f p [] = refl
list_any-map f p (x ∷ xs) = ap (λ b. p (f x) || b) (list_any-map f p xs)

-- a word of one of the pairs is outside
pub outside_among : (first second : List (List ℕ)) (pairs : List (Bor (List ℕ) × Bor (List ℕ))) (r : Bool)
    → r ≡ list_any (λ pair. is_pair_outside first second (pair.0.now, pair.1.now)) pairs
    → r ≡ is_outside first second (texts_of_pairs pairs)
outside_among first second pairs r e =
    e ∙ sym (list_any-map (λ (pair : Bor (List ℕ) × Bor (List ℕ)). (pair.0.now, pair.1.now))
    (is_pair_outside first second) pairs)

-- ---- the domains by their names

-- pairs put into the relation without pairs make the relation
pub made_between : (v : Vocabulary) (pairs : List (List ℕ × List ℕ)) (a b : ℕ) (x y : List (List ℕ)) (m n : Relation) →
    x ≡ elements_of v a → y ≡ elements_of v b → m ≡ no_pairs (side_at v a) (side_at v b) → n ≡ with_pairs x y m pairs
    → n ≡ relation_between v a b pairs
made_between v pairs a b x y m n p q r s =
    s ∙ ap (λ x. with_pairs x y m pairs) p ∙ ap (λ y. with_pairs (elements_of v a) y m pairs) q
    ∙ ap (λ m. with_pairs (elements_of v a) (elements_of v b) m pairs) r

words_same : (v : Vocabulary) (from to : List ℕ) (pairs : List (List ℕ × List ℕ)) (a b : ℕ) (x y : List (List ℕ))
    → domain_number v from ≡ Some a → domain_number v to ≡ Some b →
    x ≡ elements_of v a → y ≡ elements_of v b → is_word_outside v from to pairs ≡ is_outside x y pairs
words_same v from to pairs a b x y e f p q =
    ap (λ o. is_outside (elements_of v (unwrap_or o 0)) (elements_of v (unwrap_or (domain_number v to) 0)) pairs) e
    ∙ ap (λ o. is_outside (elements_of v a) (elements_of v (unwrap_or o 0)) pairs) f
    ∙ ap (λ x. is_outside x (elements_of v b) pairs) (sym p) ∙ ap (λ y. is_outside x y pairs) (sym q)

pub words_inside : (v : Vocabulary) (from to : List ℕ) (pairs : List (List ℕ × List ℕ)) (a b : ℕ) (x y : List (List ℕ))
    → domain_number v from ≡ Some a → domain_number v to ≡ Some b →
    x ≡ elements_of v a → y ≡ elements_of v b → is_outside x y pairs ≡ false → pairs_refusal v from to pairs ≡ None
words_inside v from to pairs a b x y e f p q h =
    pairs_allowed v from to pairs a b e f (words_same v from to pairs a b x y e f p q ∙ h)

pub words_outside : (v : Vocabulary) (from to : List ℕ) (pairs : List (List ℕ × List ℕ)) (a b : ℕ) (x y : List (List ℕ))
    → domain_number v from ≡ Some a → domain_number v to ≡ Some b →
    x ≡ elements_of v a → y ≡ elements_of v b → is_outside x y pairs ≡ true
    → pairs_refusal v from to pairs ≡ Some NotInTheDomain
words_outside v from to pairs a b x y e f p q h =
    word_outside v from to pairs a b e f (words_same v from to pairs a b x y e f p q ∙ h)

-- a relation with the same sides
pub same_sides : (domains : List (List (List ℕ))) (m n : Relation) → n.from ≡ m.from → n.to ≡ m.to → HasSides domains m
    → HasSides domains n
same_sides domains m n e f h = record { first = rw e h.first; second = rw f h.second }
