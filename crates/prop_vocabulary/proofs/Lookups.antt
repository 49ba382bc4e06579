-- Names and their numbers.
use Rattle.std.proofs.Common.{◌≡◌, ◌∙◌, ◌<◌, ℕ, Bool, true, false, ◌||◌, List, [], ◌∷◌, ◌++◌, Option, Some, None, All}
use Rattle.std.proofs.Common.{map, length, take, position, bytes_eq, get_or, ◌+◌, refl, sym, ap, arith, is_none}
use Rattle.std.proofs.Common.{unwrap_or, string_bytes, cond, nat_lt, ◌≤◌, ◌-◌, suc}
use Rattle.std.specs.Option.{IfSome, option_map}
use Rattle.std.specs.Borrow.{Bor}
use Rattle.std.specs.List.{list_any}
use Rattle.std.specs.List.{position_or_len}
use Rattle.std.specs.String.{string_eq}
use Rattle.indexmap.specs.IndexSet.{insert_key}
use Rattle.std.proofs.lemmas.List.Folds.{list_any_none}
use Rattle.std.proofs.lemmas.List.Sums.{fails_before_first}
use borrow.Author.Tests.{ltb-false}
use Rattle.std.specs.declared.string.String.{String}
use Rattle.std.proofs.lemmas.List.Elements.{All-cons}
use Rattle.std.proofs.lemmas.List.{take_more, map-append, length-append, length-map}
use Rattle.std.proofs.lemmas.List.Quantifiers.{position-Some}
use Rattle.prop_sets.proofs.NameLemmas.{position-names}
use Rattle.prop_vocabulary.specs.Names.{number_in, numbers_in, is_missing}
use Rattle.prop_vocabulary.proofs.Places.{placed_before, placed_behind}

-- the number of a name among strings
pub number_of_name : {Z : Type 0} (names : List (String Z)) (name : List ℕ) (r : Option ℕ)
    → r ≡ position (λ other. bytes_eq name (string_bytes other)) names → r ≡ number_in (map string_bytes names) name
number_of_name names name r e = e ∙ sym (position-names name names)

-- among those that a set keeps, and more behind them
pub found_first : {Z : Type 0} (keys : List (String Z)) (more : List (List ℕ)) (name : List ℕ) (r : Option ℕ) (n : ℕ)
    → r ≡ position (λ other. bytes_eq name (string_bytes other)) keys → r ≡ Some n
    → Some n ≡ number_in (map string_bytes keys ++ more) name
found_first keys more name r n e is = sym (placed_before (bytes_eq name) (map string_bytes keys) more n
    (sym (number_of_name keys name r e) ∙ is))

pub found_behind : {Z : Type 0} (keys : List (String Z)) (more : List (List ℕ)) (name : List ℕ) (r o : Option ℕ)
    → r ≡ position (λ other. bytes_eq name (string_bytes other)) keys → r ≡ None → o ≡ number_in more name
    → option_map (λ n. length keys + n) o ≡ number_in (map string_bytes keys ++ more) name
found_behind keys more name r o e is found =
    ap (option_map (λ n. length keys + n)) found
    ∙ ap (λ k. option_map (λ n. k + n) (number_in more name)) (sym (length-map keys string_bytes))
    ∙ sym (placed_behind (bytes_eq name) (map string_bytes keys) more (sym (number_of_name keys name r e) ∙ is))

-- what is not among all of them is not among the first, nor among the others
pub absent_first : (names more : List (List ℕ)) (name : List ℕ) → number_in (names ++ more) name ≡ None
    → number_in names name ≡ None
absent_first names more name none = at (number_in names name) refl
  where
    at : (o : Option ℕ) → number_in names name ≡ o → number_in names name ≡ None
    at None e = e
    at (Some n) e = let s : Some n ≡ None = sym (placed_before (bytes_eq name) names more n e) ∙ none in cc

pub absent_behind : (names more : List (List ℕ)) (name : List ℕ) → number_in (names ++ more) name ≡ None
    → number_in more name ≡ None
absent_behind names more name none = at (number_in more name) refl
  where
    at : (o : Option ℕ) → number_in more name ≡ o → number_in more name ≡ None
    at None e = e
    at (Some n) e =
        let s : Some (length names + n) ≡ None = sym (placed_behind (bytes_eq name) names more
        (absent_first names more name none) ∙ ap (option_map (λ k. length names + k)) e) ∙ none in cc

-- the last of all is the last of the others
pub shorter_behind : (names more : List (List ℕ)) → 0 < length more
    → names ++ take (length more - 1) more ≡ take (length (names ++ more) - 1) (names ++ more)
shorter_behind [] more l = refl
shorter_behind (x ∷ names) more l =
    let e : suc (length (names ++ more)) - 1 ≡ suc (length (names ++ more) - 1) =
    omega (arith, l, length-append names more) in
    ap (λ t. x ∷ t) (shorter_behind names more l)
    ∙ ap (λ k. take k (x ∷ (names ++ more))) (sym e)

pub list_any-map : {X Y : Type 0} (f : X → Y) (p : Y → Bool) (xs : List X)
    → list_any p (map f xs) ≡ list_any (λ x. p (f x)) xs
list_any-map f p [] = refl
list_any-map f p (x ∷ xs) = ap (λ b. p (f x) || b) (list_any-map f p xs)

pub missing_among : (names : List (List ℕ)) (cells : List (Bor (List ℕ))) (r : Bool)
    → r ≡ list_any (λ x. is_none (number_in names x.now)) cells → r ≡ is_missing names (map (λ x. x.now) cells)
missing_among names cells r e = e ∙ sym
    (list_any-map (λ (x : Bor (List ℕ)). x.now) (λ name. is_none (number_in names name)) cells)

-- a name that is there has a number below the length
pub number_below : (names : List (List ℕ)) (name : List ℕ) (n : ℕ) → number_in names name ≡ Some n → n < length names
number_below names name n e = (position-Some (bytes_eq name) names n [] e).0

pub found_within : (names : List (List ℕ)) (name : List ℕ) (o : Option ℕ) → o ≡ number_in names name
    → IfSome o (λ n. n < length names)
found_within names name None e = tt
found_within names name (Some n) e = number_below names name n (sym e)

found_below : (names : List (List ℕ)) (name : List ℕ) (o : Option ℕ) → number_in names name ≡ o → is_none o ≡ false
    → unwrap_or o 0 < length names
found_below names name None e h = cc
found_below names name (Some n) e h = number_below names name n e

pub or_false : (a b : Bool) → (a || b) ≡ false → (a ≡ false) × (b ≡ false)
or_false true b h = cc
or_false false b h = (refl, h)

pub numbers_below : (names : List (List ℕ)) (cells : List (List ℕ)) → is_missing names cells ≡ false
    → All (λ c. c < length names) (numbers_in names cells)
numbers_below names [] h = λ k d l. absurd (omega (arith, l))
numbers_below names (name ∷ cells) h =
    let both = or_false (is_none (number_in names name)) (is_missing names cells) h in
    All-cons (λ c. c < length names) (unwrap_or (number_in names name) 0) (numbers_in names cells)
    (found_below names name (number_in names name) refl both.0) (numbers_below names cells both.1)

pub numbers_more : (names : List (List ℕ)) (cells : List (Bor (List ℕ))) (i : ℕ) (d : Bor (List ℕ)) (old new : List ℕ)
    (n : ℕ) → i < length cells → old ≡ numbers_in names (map (λ x. x.now) (take i cells)) →
    new ≡ old ++ n ∷ [] → n ≡ unwrap_or (number_in names (get_or cells i d).now) 0
    → new ≡ numbers_in names (map (λ x. x.now) (take (i + 1) cells))
numbers_more names cells i d old new n l e f k =
    rw (take_more cells i d l, map-append, map-append) (f ∙ (λ t. e t ++ k t ∷ []))

-- what has no position passes nowhere
pub nowhere : {X : Type 0} (p : X → Bool) (xs : List X) → position p xs ≡ None → list_any p xs ≡ false
nowhere p xs e = list_any_none p xs (λ k d l. fails_before_first p xs k d (past k l))
  where
    at_end : (b : Bool) → nat_lt (position_or_len p xs) (length xs) ≡ b → position p xs ≡ None
        → length xs ≤ position_or_len p xs
    at_end true t h = let s : Some (position_or_len p xs) ≡ None =
        sym (ap (λ b. cond b (Some (position_or_len p xs)) None) t) ∙ h in cc
    at_end false t h = ltb-false (position_or_len p xs) (length xs) t

    past : (k : ℕ) → k < length xs → k < position_or_len p xs
    past k l = omega (arith, l, at_end (nat_lt (position_or_len p xs) (length xs)) refl e)

pub absent : {Z : Type 0} (keys : List (String Z)) (name : List ℕ) (owned : String Z) → string_bytes owned ≡ name
    → number_in (map string_bytes keys) name ≡ None → list_any (string_eq owned) keys ≡ false
absent keys name owned same none =
    nowhere (string_eq owned) keys (sym (position-names (string_bytes owned) keys)
    ∙ ap (λ n. number_in (map string_bytes keys) n) same ∙ none)

pub pushed : {Z : Type 0} (old new : List (String Z)) (name : List ℕ) (owned : String Z) → string_bytes owned ≡ name
    → number_in (map string_bytes old) name ≡ None →
    new ≡ insert_key string_eq old owned → map string_bytes new ≡ map string_bytes old ++ name ∷ []
pushed old new name owned same none e =
    ap (map string_bytes) (e ∙ ap (λ b. cond b old (old ++ owned ∷ [])) (absent old name owned same none))
    ∙ map-append string_bytes old (owned ∷ []) ∙ ap (λ n. map string_bytes old ++ n ∷ []) same
