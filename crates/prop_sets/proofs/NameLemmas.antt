-- Names in order, and the set of strings that keeps them.
use Rattle.std.proofs.Common.{◌≡◌, ℕ, zero, suc, ◌+◌, ◌<◌, ◌⊎◌, Bool, true, false, ◌||◌, List, [], ◌∷◌, ◌++◌, length}
use Rattle.std.proofs.Common.{get_or, take, position, slice_get, Some, None, cond, nat_lt, IsUtf8, String, string_bytes}
use Rattle.std.proofs.Common.{bytes_eq, refl, sym, ap, ◌∙◌, arith, inl, inr}
use Rattle.std.specs.List.{list_any, position_or_len}
use Rattle.std.specs.String.{string_eq}
use Rattle.std.proofs.lemmas.Bool.{or_parts, or_cases, or_from, or_left, or_right, lt-ltb}
use Rattle.std.proofs.lemmas.Bool.Decides.{nat_tests}
use Rattle.std.proofs.lemmas.Str.{IsUtf8-string_bytes}
use Rattle.std.proofs.lemmas.List.Folds.{list_any-append}
use Rattle.std.proofs.lemmas.List.Quantifiers.{position-Some}
use Rattle.std.proofs.lemmas.List.Sums.{position_or_len_is}
use Rattle.std.proofs.lemmas.Option.{slice_get_within, slice_get-get_or, get_or_from_slice_get}
use Rattle.std.proofs.lemmas.Slice.Eq.{bytes_eq-Decides}
use Rattle.std.specs.Borrow.{Bor}
use Rattle.std.proofs.lemmas.List.{take_more}
use Rattle.prop_sets.specs.Names.{texts_of, names_of, has_repeat}
use Rattle.prop_sets.specs.inner.Names.{is_among}

-- ---- the names that a set keeps

pub is_among-names : {A : Type 0} (key : String A) (keys : List (String A))
    → list_any (string_eq key) keys ≡ is_among (string_bytes key) (names_of keys)
is_among-names key [] = refl
is_among-names key (k ∷ ks) = ap (λ b. bytes_eq (string_bytes key) (string_bytes k) || b) (is_among-names key ks)

pub names_of-push : {A : Type 0} (keys : List (String A)) (key : String A)
    → names_of (keys ++ key ∷ []) ≡ names_of keys ++ string_bytes key ∷ []
names_of-push [] key = refl
names_of-push (k ∷ ks) key = ap (λ l. string_bytes k ∷ l) (names_of-push ks key)

place-names : {A : Type 0} (name : List ℕ) (keys : List (String A))
    → position_or_len (bytes_eq name) (names_of keys) ≡ position_or_len (λ k. bytes_eq name (string_bytes k)) keys
place-names name [] = refl
place-names name (k ∷ ks) = rw (place-names name ks) refl

length-names : {A : Type 0} (keys : List (String A)) → length (names_of keys) ≡ length keys
length-names [] = refl
length-names (k ∷ ks) = ap suc (length-names ks)

pub position-names : {A : Type 0} (name : List ℕ) (keys : List (String A))
    → position (bytes_eq name) (names_of keys) ≡ position (λ k. bytes_eq name (string_bytes k)) keys
position-names name keys = rw (place-names name keys, length-names keys) refl

-- ---- names that stand twice, and names that do not

bytes_eq-comm : (a b : List ℕ) → bytes_eq a b ≡ true → bytes_eq b a ≡ true
bytes_eq-comm a b e = (bytes_eq-Decides b a).1 (sym ((bytes_eq-Decides a b).0 e))

not_eq-comm : (a b : List ℕ) → bytes_eq a b ≡ false → bytes_eq b a ≡ false
not_eq-comm a b e = by (bytes_eq b a) refl
  where
    by : (t : Bool) → bytes_eq b a ≡ t → bytes_eq b a ≡ false
    by true f = absurd (apart (sym e ∙ bytes_eq-comm b a f))
      where
        apart : false ≡ true → ⊥
        apart h = cc
    by false f = f

-- one more that was not there
pub no_repeat-push : (names : List (List ℕ)) (name : List ℕ) → has_repeat names ≡ false → is_among name names ≡ false
    → has_repeat (names ++ name ∷ []) ≡ false
no_repeat-push [] name h k = refl
no_repeat-push (x ∷ xs) name h k =
    let old = or_parts (is_among x xs) (has_repeat xs) h in
    let new = or_parts (bytes_eq name x) (is_among name xs) k in
    let last : (bytes_eq x name || false) ≡ false = or_from _ _ (not_eq-comm name x new.0) refl in
    or_from _ _ (list_any-append (bytes_eq x) xs (name ∷ []) ∙ or_from _ _ old.0 last)
    (no_repeat-push xs name old.1 new.1)

-- the name at a place is among the names
among_at : (names : List (List ℕ)) (i : ℕ) (d name : List ℕ) → i < length names
    → bytes_eq name (get_or names i d) ≡ true → is_among name names ≡ true
among_at [] i d name l h = absurd (omega arith)
among_at (x ∷ xs) zero d name l h = or_left _ _ h
among_at (x ∷ xs) (suc i) d name l h = or_right _ _ (among_at xs i d name (omega arith) h)

-- a name that is among those before it stands twice
pub repeat_from_before : (names : List (List ℕ)) (i : ℕ) (d : List ℕ) → i < length names
    → is_among (get_or names i d) (take i names) ≡ true → has_repeat names ≡ true
repeat_from_before [] i d l h = absurd (omega arith)
repeat_from_before (x ∷ xs) zero d l h = absurd (cc)
repeat_from_before (x ∷ xs) (suc i) d l h = by (or_cases _ _ h) (repeat_from_before xs i d (omega arith))
  where
    by : (bytes_eq (get_or xs i d) x ≡ true) ⊎ (is_among (get_or xs i d) (take i xs) ≡ true)
        → (is_among (get_or xs i d) (take i xs) ≡ true → has_repeat xs ≡ true) → (is_among x xs || has_repeat xs) ≡ true
    by (inl same) rest = or_left _ _ (among_at xs i d x (omega arith) (bytes_eq-comm (get_or xs i d) x same))
    by (inr later) rest = or_right _ _ (rest later)

not_among_at : (names : List (List ℕ)) (i : ℕ) (d name : List ℕ) → is_among name names ≡ false → i < length names
    → bytes_eq name (get_or names i d) ≡ false
not_among_at [] i d name h l = absurd (omega arith)
not_among_at (x ∷ xs) zero d name h l = (or_parts _ _ h).0
not_among_at (x ∷ xs) (suc i) d name h l =
    not_among_at xs i d name (or_parts (bytes_eq name x) (is_among name xs) h).1 (omega arith)

apart_at : (names : List (List ℕ)) (k i : ℕ) (d : List ℕ) → has_repeat names ≡ false → k < i → i < length names
    → bytes_eq (get_or names k d) (get_or names i d) ≡ false
apart_at [] k i d h l m = absurd (omega arith)
apart_at (x ∷ xs) k zero d h l m = absurd (omega arith)
apart_at (x ∷ xs) zero (suc i) d h l m =
    not_among_at xs i d x (or_parts (is_among x xs) (has_repeat xs) h).0 (omega arith)
apart_at (x ∷ xs) (suc k) (suc i) d h l m =
    apart_at xs k i d (or_parts (is_among x xs) (has_repeat xs) h).1 (omega arith) (omega arith)

-- ---- places

-- a name that does not stand twice is found at its place
pub position_at : (names : List (List ℕ)) (i : ℕ) (name : List ℕ) → has_repeat names ≡ false
    → slice_get names i ≡ Some name → position (bytes_eq name) names ≡ Some i
position_at names i name h at =
    let within = slice_get_within names i name at in
    let here : get_or names i name ≡ name = get_or_from_slice_get names i name name at in
    let before : (k : ℕ) → k < i → bytes_eq name (get_or names k name) ≡ false =
    λ k l. not_eq-comm (get_or names k name) name (rw here at (apart_at names k i name h l within))
    in
    let place : position_or_len (bytes_eq name) names ≡ i =
    position_or_len_is (bytes_eq name) names i name (omega arith) before
    (λ l. (bytes_eq-Decides name (get_or names i name)).1 (sym here))
    in rw (place, lt-ltb i (length names) within) refl

-- what is found at a place stands there
pub name_at : (names : List (List ℕ)) (i : ℕ) (name : List ℕ) → position (bytes_eq name) names ≡ Some i
    → slice_get names i ≡ Some name
name_at names i name found =
    let is = position-Some (bytes_eq name) names i name found in
    slice_get-get_or names i name is.0 ∙ ap Some (sym ((bytes_eq-Decides name (get_or names i name)).0 is.1))

-- ---- names behind references, of which the first i are kept

texts_at : (names : List (Bor (List ℕ))) (i : ℕ) (d : Bor (List ℕ)) (e : List ℕ) → i < length names
    → get_or (texts_of names) i e ≡ (get_or names i d).now
texts_at [] i d e l = absurd (omega arith)
texts_at (x ∷ xs) zero d e l = refl
texts_at (x ∷ xs) (suc i) d e l = texts_at xs i d e (omega arith)

pub length-texts : (names : List (Bor (List ℕ))) → length (texts_of names) ≡ length names
length-texts [] = refl
length-texts (x ∷ xs) = ap suc (length-texts xs)

pub kept_more : (names : List (Bor (List ℕ))) (kept : List (List ℕ)) (i : ℕ) (d : Bor (List ℕ)) → i < length names
    → kept ≡ take i (texts_of names) → kept ++ (get_or names i d).now ∷ [] ≡ take (i + 1) (texts_of names)
kept_more names kept i d l e =
    rw (e, ← texts_at names i d [] l) (sym (take_more (texts_of names) i [] (omega (arith, length-texts names))))

pub repeat_from_kept : (names : List (Bor (List ℕ))) (kept : List (List ℕ)) (i : ℕ) (d : Bor (List ℕ))
    → i < length names → kept ≡ take i (texts_of names) → is_among (get_or names i d).now kept ≡ true
    → has_repeat (texts_of names) ≡ true
repeat_from_kept names kept i d l e h =
    repeat_from_before (texts_of names) i [] (omega (arith, length-texts names)) (rw (texts_at names i d [] l, ← e) h)

pub absent_from_kept : (names : List (Bor (List ℕ))) (kept : List (List ℕ)) (i : ℕ) (d : Bor (List ℕ))
    → i < length names → kept ≡ take i (texts_of names) → has_repeat (texts_of names) ≡ false
    → is_among (get_or names i d).now kept ≡ false
absent_from_kept names kept i d l e h = by (is_among (get_or names i d).now kept) refl
  where
    by : (t : Bool) → is_among (get_or names i d).now kept ≡ t → t ≡ false
    by true f = sym (repeat_from_kept names kept i d l e f) ∙ h
    by false f = refl

-- the first i names do not stand twice

among_before : (name : List ℕ) (names : List (Bor (List ℕ))) (i : ℕ)
    → list_any (λ other. bytes_eq name other.now) (take i names) ≡ is_among name (take i (texts_of names))
among_before name [] zero = refl
among_before name [] (suc i) = refl
among_before name (x ∷ xs) zero = refl
among_before name (x ∷ xs) (suc i) = ap (λ b. bytes_eq name x.now || b) (among_before name xs i)

pub repeats_at : (names : List (Bor (List ℕ))) (i : ℕ) (d : Bor (List ℕ)) → i < length names
    → list_any (λ other. bytes_eq (get_or names i d).now other.now) (take i names) ≡ true
    → has_repeat (texts_of names) ≡ true
repeats_at names i d l h =
    repeat_from_kept names (take i (texts_of names)) i d l refl (sym (among_before (get_or names i d).now names i) ∙ h)

pub no_repeat_yet : (names : List (Bor (List ℕ))) (i : ℕ) (d : Bor (List ℕ)) → i < length names
    → has_repeat (take i (texts_of names)) ≡ false
    → list_any (λ other. bytes_eq (get_or names i d).now other.now) (take i names) ≡ false →
    has_repeat (take (i + 1) (texts_of names)) ≡ false
no_repeat_yet names i d l h k =
    ap has_repeat (sym (kept_more names (take i (texts_of names)) i d l refl))
    ∙ no_repeat-push (take i (texts_of names)) (get_or names i d).now h
    (sym (among_before (get_or names i d).now names i) ∙ k)

-- one more is kept, that was not
pub kept_next : (names kept kept' : List (Bor (List ℕ))) (i : ℕ) (d : Bor (List ℕ)) (was : Bool) → i < length names
    → kept ≡ take i names → kept' ≡ cond was kept (kept ++ get_or names i d ∷ []) → was ≡ false
    → kept' ≡ take (i + 1) names
kept_next names kept kept' i d was l e k f =
    k ∙ ap (λ b. cond b kept (kept ++ get_or names i d ∷ [])) f ∙ ap (λ ks. ks ++ get_or names i d ∷ []) e
    ∙ sym (take_more names i d l)

-- bytes that are no text are no name
pub no_text : {A : Type 0} (keys : List (String A)) (name : List ℕ) → (IsUtf8 name → ⊥)
    → position (bytes_eq name) (names_of keys) ≡ None
no_text {A = A} keys name bad = rw (at_end keys, length-names keys) (past (length keys))
  where
    differs : (k : String A) (t : Bool) → bytes_eq name (string_bytes k) ≡ t → t ≡ false
    differs k true e = absurd (bad (rw ((bytes_eq-Decides name (string_bytes k)).0 e) (IsUtf8-string_bytes k)))
    differs k false e = refl

    at_end : (keys : List (String A)) → position_or_len (bytes_eq name) (names_of keys) ≡ length keys
    at_end [] = refl
    at_end (k ∷ ks) = rw (differs k (bytes_eq name (string_bytes k)) refl, at_end ks) (omega arith)

    past : (n : ℕ) → cond (nat_lt n n) (Some n) None ≡ None
    past n = let f : nat_lt n n ≡ false = grind (arith, nat_tests) in rw f refl
