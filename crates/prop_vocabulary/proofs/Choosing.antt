-- Elements of a domain, by the words that name them.
use Rattle.std.proofs.Common.{◌≡◌, ◌≢◌, ℕ, suc, ◌+◌, ◌*◌, ◌%◌, ◌^◌, ◌<◌, ◌≤◌, ◌⊎◌, List, [], ◌∷◌, ◌++◌, length, take}
use Rattle.std.proofs.Common.{get_or, position, nat_lt, Bool, true, false, cond, Some, None, Ok, Err, bytes_eq, bit_or}
use Rattle.std.proofs.Common.{inl, inr, refl, sym, ◌∙◌, ap, arith}
use Rattle.std.specs.Prelude.{◌||◌, ◌==◌, not}
use Rattle.std.specs.Borrow.{Bor}
use Rattle.std.specs.Int.{bit_at, w64}
use Rattle.std.specs.List.{list_all, position_or_len}
use Rattle.std.proofs.lemmas.Bool.{false≢true, cases_eq, or_cases, or_left, or_right}
use Rattle.std.proofs.lemmas.Bool.Decides.{eqb_tells, nat_tests}
use Rattle.std.proofs.lemmas.List.{take_more, take_all, map-append}
use Rattle.std.proofs.lemmas.List.Folds.{list_all-append, list_all-map, list_all_at, list_any-append}
use Rattle.std.proofs.lemmas.List.Quantifiers.{position-Some}
use Rattle.std.proofs.lemmas.Nat.Bits.{bit_at-zero, bit_at_set_same, bit_at_set_other}
use Rattle.std.proofs.lemmas.Option.{slice_get-get_or}
use Rattle.std.proofs.lemmas.Slice.Eq.{bytes_eq-Decides}
use Rattle.prop_lattice.specs.laws.PartLaws.{same_parts}
use Rattle.prop_lattice.specs.laws.Parts.{HasBitsOf}
use Rattle.prop_refusals.specs.declared.refusal.Refusal.TheVariants.{NotInTheDomain, EmptyValue}
use Rattle.prop_lattice.specs.Ends.{elements_from}
use Rattle.prop_sets.specs.laws.ChosenLaws.{bits_where-has, bits_where-passes}
use Rattle.prop_sets.specs.Names.{AreElements}
use Rattle.prop_sets.proofs.NameLemmas.{position_at}
use Rattle.prop_language.specs.Names.{is_among}
use Rattle.prop_vocabulary.specs.Values.{set_value}
use Rattle.prop_vocabulary.specs.inner.SetBits.{bits_named}
use Rattle.prop_language.specs.Said.{words}

-- ---- the place of a word

-- what is found at a place is the name there
name_there : (names : List (List ℕ)) (word : List ℕ) (i : ℕ) → position (bytes_eq word) names ≡ Some i
    → (i < length names) × (get_or names i [] ≡ word)
name_there names word i found =
    let is = position-Some (bytes_eq word) names i [] found in
    (is.0, sym ((bytes_eq-Decides word (get_or names i [])).0 is.1))

-- a name is found at its place and at no other
only_there : (names : List (List ℕ)) (word : List ℕ) (i j : ℕ) → AreElements names
    → position (bytes_eq word) names ≡ Some i → j < length names → get_or names j [] ≡ word → j ≡ i
only_there names word i j elements found l same =
    let at = position_at names j word elements.apart (slice_get-get_or names j [] l ∙ ap Some same) in
    cc

bytes_eq-comm : (a b : List ℕ) → bytes_eq a b ≡ bytes_eq b a
bytes_eq-comm a b = by (bytes_eq a b) refl (bytes_eq b a) refl
  where
    by : (s : Bool) → bytes_eq a b ≡ s → (t : Bool) → bytes_eq b a ≡ t → s ≡ t
    by true e true f = refl
    by true e false f = absurd (false≢true (sym f ∙ (bytes_eq-Decides b a).1 (sym ((bytes_eq-Decides a b).0 e))))
    by false e true f = absurd (false≢true (sym e ∙ (bytes_eq-Decides a b).1 (sym ((bytes_eq-Decides b a).0 f))))
    by false e false f = refl

first_below : (n : ℕ) → true ≡ nat_lt 0 (suc n)
first_below n = grind (arith, nat_tests)

one_more : (a b : ℕ) → nat_lt a b ≡ nat_lt (1 + a) (suc b)
one_more a b = grind (arith, nat_tests)

-- a word is among the names just where it has a place
among_is : (names : List (List ℕ)) (word : List ℕ)
    → is_among names word ≡ nat_lt (position_or_len (bytes_eq word) names) (length names)
among_is [] word = refl
among_is (n ∷ names) word = rw (bytes_eq-comm n word) (by (bytes_eq word n) (among_is names word))
  where
    by : (t : Bool) → is_among names word ≡ nat_lt (position_or_len (bytes_eq word) names) (length names) →
        (t || is_among names word) ≡ nat_lt (cond (not t) (1 + position_or_len (bytes_eq word) names) 0)
        (suc (length names))
    by true e = first_below (length names)
    by false e = e ∙ one_more (position_or_len (bytes_eq word) names) (length names)

found_among : (names : List (List ℕ)) (word : List ℕ) (i : ℕ) → position (bytes_eq word) names ≡ Some i
    → is_among names word ≡ true
found_among names word i found = among_is names word
    ∙ by (nat_lt (position_or_len (bytes_eq word) names) (length names)) found
  where
    by : (t : Bool) → cond t (Some (position_or_len (bytes_eq word) names)) None ≡ Some i → t ≡ true
    by true e = refl
    by false e = cc

missing_among : (names : List (List ℕ)) (word : List ℕ) → position (bytes_eq word) names ≡ None
    → is_among names word ≡ false
missing_among names word missing = among_is names word
    ∙ by (nat_lt (position_or_len (bytes_eq word) names) (length names)) missing
  where
    by : (t : Bool) → cond t (Some (position_or_len (bytes_eq word) names)) None ≡ None → t ≡ false
    by true e = cc
    by false e = refl

-- ---- one word more

pub none_named : (names : List (List ℕ)) → 0 ≡ bits_named names []
none_named names = same_parts 0 (bits_named names [])
    (λ j h. absurd (false≢true (bits_where-passes (length names) (λ k. false) j h).1))
    (λ j h. absurd (omega (arith, h, bit_at-zero j)))

or_none : (t : Bool) → (t || false) ≡ true → t ≡ true
or_none true e = refl
or_none false e = e

-- the bit of a word's place joins those of the words before it
named_more : (names before : List (List ℕ)) (word : List ℕ) (i : ℕ) → AreElements names
    → position (bytes_eq word) names ≡ Some i →
    bit_or (bits_named names before) (1 * 2 ^ i % 2 ^ 64) ≡ bits_named names (before ++ word ∷ [])
named_more names before word i elements found = same_parts (bit_or bits (1 * 2 ^ i % 2 ^ 64)) after has_new has_old
  where
    bits : ℕ
    bits = bits_named names before

    after : ℕ
    after = bits_named names (before ++ word ∷ [])

    at : (i < length names) × (get_or names i [] ≡ word)
    at = name_there names word i found

    within : i < 64
    within = omega (arith, at.0, elements.few)

    among_more : (name : List ℕ) → is_among (before ++ word ∷ [])
        name ≡ (is_among before name || (bytes_eq word name || false))
    among_more name = list_any-append (λ w. bytes_eq w name) before (word ∷ [])

    has_new : HasBitsOf (bit_or bits (1 * 2 ^ i % 2 ^ 64)) after
    has_new j h = by (cases_eq j i) (bits_where-passes (length names)
        (λ k. is_among (before ++ word ∷ []) (get_or names k [])) j h)
      where
        by : (j ≡ i) ⊎ (j ≢ i) → (j < length names) × (is_among (before ++ word ∷ []) (get_or names j []) ≡ true)
            → bit_at (bit_or bits (1 * 2 ^ i % 2 ^ 64)) j ≡ 1
        by (inl same) p = rw same (bit_at_set_same w64 bits i within)
        by (inr other) p = elim (or_cases (is_among before (get_or names j []))
            (bytes_eq word (get_or names j []) || false) (sym (among_more (get_or names j [])) ∙ p.1)) [
              | inl old ↦ bit_at_set_other w64 bits i within j other
                  ∙ bits_where-has (length names) (λ k. is_among before (get_or names k [])) j p.0 old
              | inr new ↦ absurd (other (only_there names word i j elements found p.0
                  (sym ((bytes_eq-Decides word (get_or names j [])).0 (or_none (bytes_eq word (get_or names j [])) new)))))
            ]

    has_old : HasBitsOf after (bit_or bits (1 * 2 ^ i % 2 ^ 64))
    has_old j h = by (cases_eq j i)
      where
        test : ℕ → Bool
        test k = is_among (before ++ word ∷ []) (get_or names k [])

        by : (j ≡ i) ⊎ (j ≢ i) → bit_at after j ≡ 1
        by (inl same) =
            let here : bytes_eq word (get_or names i []) ≡ true =
            (bytes_eq-Decides word (get_or names i [])).1 (sym at.1) in
            rw same (bits_where-has (length names) test i at.0
            (among_more (get_or names i []) ∙ or_right _ _ (or_left _ _ here)))
        by (inr other) =
            let passes = bits_where-passes (length names) (λ k. is_among before (get_or names k [])) j
            (sym (bit_at_set_other w64 bits i within j other) ∙ h) in
            bits_where-has (length names) test j passes.0 (among_more (get_or names j []) ∙ or_left _ _ passes.1)

-- ---- words behind references, of which the first i are read

words_more : (chosen : List (Bor (List ℕ))) (i : ℕ) (d : Bor (List ℕ)) → i < length chosen
    → words (take (i + 1) chosen) ≡ words (take i chosen) ++ (get_or chosen i d).now ∷ []
words_more chosen i d l =
    ap words (take_more chosen i d l) ∙ map-append (λ (w : Bor (List ℕ)). w.now) (take i chosen)
    (get_or chosen i d ∷ [])

pub known_more : (names : List (List ℕ)) (chosen : List (Bor (List ℕ))) (i : ℕ) (d : Bor (List ℕ)) (element : ℕ)
    → i < length chosen → position (bytes_eq (get_or chosen i d).now) names ≡ Some element →
    list_all (is_among names) (words (take i chosen)) ≡ true
    → list_all (is_among names) (words (take (i + 1) chosen)) ≡ true
known_more names chosen i d element l found known =
    let word = (get_or chosen i d).now in
    ap (list_all (is_among names)) (words_more chosen i d l)
    ∙ list_all-append (is_among names) (words (take i chosen)) (word ∷ [])
    ∙ rw (known, found_among names word element found) refl

pub bits_more : (names : List (List ℕ)) (chosen : List (Bor (List ℕ))) (i : ℕ) (d : Bor (List ℕ)) (element bits : ℕ)
    → i < length chosen → AreElements names → position (bytes_eq (get_or chosen i d).now) names ≡ Some element →
    bits ≡ bits_named names (words (take i chosen))
    → bit_or bits (1 * 2 ^ element % 2 ^ 64) ≡ bits_named names (words (take (i + 1) chosen))
bits_more names chosen i d element bits l elements found e =
    let word = (get_or chosen i d).now in
    ap (λ n. bit_or n (1 * 2 ^ element % 2 ^ 64)) e
    ∙ named_more names (words (take i chosen)) word element elements found
    ∙ ap (bits_named names) (sym (words_more chosen i d l))

-- ---- sets

pub no_word : (names : List (List ℕ)) (chosen : List (Bor (List ℕ))) → true ≡ (length chosen == 0)
    → Err EmptyValue ≡ set_value names (words chosen)
no_word names [] e = refl
no_word names (w ∷ chosen) e = elim (eqb_tells (length (w ∷ chosen)) 0) [
  | inl p ↦ absurd (omega (arith, p.1))
  | inr p ↦ absurd (false≢true (sym (e ∙ p.0)))
]

-- a word that is not found is no element
pub no_element : (names : List (List ℕ)) (chosen : List (Bor (List ℕ))) (i : ℕ) (d : Bor (List ℕ)) → i < length chosen
    → position (bytes_eq (get_or chosen i d).now) names ≡ None → Err NotInTheDomain ≡ set_value names (words chosen)
no_element names chosen i d l missing =
    refused chosen (list_all-map (is_among names) (λ (w : Bor (List ℕ)). w.now) chosen
    ∙ list_all_at (λ (w : Bor (List ℕ)). is_among names w.now) chosen i d l
    (missing_among names (get_or chosen i d).now missing))
  where
    refused : (chosen : List (Bor (List ℕ))) → list_all (is_among names) (words chosen) ≡ false
        → Err NotInTheDomain ≡ set_value names (words chosen)
    refused [] e = absurd (false≢true (sym e))
    refused (w ∷ chosen) e =
        ap (λ b. cond b (Ok (elements_from (bits_named names (words (w ∷ chosen))))) (Err NotInTheDomain)) (sym e)

-- all words are elements
pub all_elements : (names : List (List ℕ)) (chosen : List (Bor (List ℕ))) (i bits : ℕ) → length chosen ≤ i
    → false ≡ (length chosen == 0) →
    list_all (is_among names) (words (take i chosen)) ≡ true → bits ≡ bits_named names (words (take i chosen))
    → Ok (elements_from bits) ≡ set_value names (words chosen)
all_elements names [] i bits l some known e = absurd (false≢true some)
all_elements names (w ∷ chosen) i bits l some known e =
    let all : take i (w ∷ chosen) ≡ w ∷ chosen = take_all i (w ∷ chosen) l in
    let known_all : list_all (is_among names) (words (w ∷ chosen)) ≡ true =
    sym (ap (λ l. list_all (is_among names) (words l)) all) ∙ known in
    let named : bits ≡ bits_named names (words (w ∷ chosen)) = e ∙ ap (λ l. bits_named names (words l)) all in
    ap (λ n. Ok (elements_from n)) named
    ∙ ap (λ b. cond b (Ok (elements_from (bits_named names (words (w ∷ chosen))))) (Err NotInTheDomain))
    (sym known_all)
