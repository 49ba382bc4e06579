-- The first place of what passes, in a list that grows and shrinks at its end.
use Rattle.std.proofs.Common.{◌≡◌, ◌∙◌, ◌<◌, ◌+◌, ℕ, Bool, true, false, List, [], ◌∷◌, ◌++◌, Option, Some, None}
use Rattle.std.proofs.Common.{length, position, get_or, refl, sym, ap}
use Rattle.std.proofs.Common.{arith, cond, bytes_eq, unwrap_or, String, string_bytes, map}
use Rattle.std.proofs.Common.{zero, suc, inl, inr}
use Rattle.std.specs.Prelude.{not, ◌==◌}
use Rattle.std.specs.Map.{update}
use Rattle.std.specs.Option.{option_map}
use Rattle.std.proofs.lemmas.Bool.Decides.{eqb_tells}
use Rattle.std.proofs.lemmas.List.Folds.{position_or_len_push, prefix_len-append}
use Rattle.std.proofs.lemmas.List.Sums.{prefix_len-le-length}
use Rattle.std.proofs.lemmas.List.{length_push, length-append, length-map, map-append}
use Rattle.std.proofs.lemmas.Map.Text.{btree_map_updates_text}
use Rattle.std.specs.BTreeMap.{BTreeMap, get_by_text, UpdatesBy}
use Rattle.std.specs.Cmp.Lexicographic.{slice_cmp}
use Rattle.std.specs.Ordering.{nat_cmp}
use Rattle.std.specs.String.{string_cmp}
use Rattle.std.proofs.lemmas.Slice.Eq.{bytes_eq-Decides}
use Rattle.std.proofs.lemmas.List.Quantifiers.{position-Some}
use Rattle.prop_vocabulary.specs.Names.{number_in}

-- ---- one more at the end

pub placed : {X : Type 0} (p : X → Bool) (xs : List X) (y : X) (n : ℕ) → position p xs ≡ Some n
    → position p (xs ++ y ∷ []) ≡ Some n
placed p xs y n e = grind (arith, position_or_len_push p xs y, length_push xs y)

pub placed_last : {X : Type 0} (p : X → Bool) (xs : List X) (y : X) → position p xs ≡ None
    → position p (xs ++ y ∷ []) ≡ cond (p y) (Some (length xs)) None
placed_last p xs y e = grind (
  arith,
  position_or_len_push p xs y,
  length_push xs y,
  prefix_len-le-length (λ x. not (p x)) xs,
)

pub passed_by : {X : Type 0} (p : X → Bool) (xs : List X) (y : X) → p y ≡ false
    → position p (xs ++ y ∷ []) ≡ position p xs
passed_by p xs y e = by (position p xs) refl
  where
    by : (o : Option ℕ) → position p xs ≡ o → position p (xs ++ y ∷ []) ≡ position p xs
    by None f = placed_last p xs y f ∙ ap (λ b. cond b (Some (length xs)) None) e ∙ sym f
    by (Some n) f = placed p xs y n f ∙ sym f

-- ---- more at the end

pub placed_before : {X : Type 0} (p : X → Bool) (xs ys : List X) (n : ℕ) → position p xs ≡ Some n
    → position p (xs ++ ys) ≡ Some n
placed_before p xs ys n e = grind (arith, prefix_len-append (λ x. not (p x)) xs ys, length-append xs ys)

pub placed_behind : {X : Type 0} (p : X → Bool) (xs ys : List X) → position p xs ≡ None
    → position p (xs ++ ys) ≡ option_map (λ n. length xs + n) (position p ys)
placed_behind p xs ys e = grind (
  arith,
  prefix_len-append (λ x. not (p x)) xs ys,
  length-append xs ys,
  prefix_len-le-length (λ x. not (p x)) xs,
  prefix_len-le-length (λ x. not (p x)) ys,
)

apart : (n k : ℕ) → n < k → Some n ≡ Some k → ⊥
apart n k l e = omega (arith, l, ap (λ o. unwrap_or o 0) e)

-- ---- what finds the first places, by a test that tells what is the same

module _ {X : Type 0} (test : X → X → Bool) (same : (a b : X) → test a b ≡ true → a ≡ b)
    (itself : (a : X) → test a a ≡ true) where
  other_way : (a b : X) → test a b ≡ false → test b a ≡ false
  other_way a b e = by (test b a) refl
    where
      by : (t : Bool) → test b a ≡ t → test b a ≡ false
      by true f = let wrong : false ≡ true = sym e ∙ sym (ap (λ x. test a x) (sym (same b a f))) ∙ itself a in cc
      by false f = f

  -- one more, that was not there
  pub found_after_push : (old new : X → Option ℕ) (xs : List X) (y : X)
      → ((q : X) → old q ≡ position (test q) xs) → position (test y) xs ≡ None
      → new y ≡ Some (length xs) → ((q : X) → test q y ≡ false → new q ≡ old q)
      → (q : X) → new q ≡ position (test q) (xs ++ y ∷ [])
  found_after_push old new xs y was none here there q = by (test q y) refl
    where
      by : (b : Bool) → test q y ≡ b → new q ≡ position (test q) (xs ++ y ∷ [])
      by true e = ap new (same q y e) ∙ here
          ∙ sym (ap (λ b. cond b (Some (length xs)) None) (itself y))
          ∙ sym (placed_last (test y) xs y none)
          ∙ ap (λ t. position (test t) (xs ++ y ∷ [])) (sym (same q y e))
      by false e = there q e ∙ was q ∙ sym (passed_by (test q) xs y e)

  -- one more, that was there
  pub found_after_more : (old new : X → Option ℕ) (xs : List X) (y : X) (n : ℕ)
      → ((q : X) → old q ≡ position (test q) xs) → position (test y) xs ≡ Some n
      → new y ≡ Some n → ((q : X) → test q y ≡ false → new q ≡ old q)
      → (q : X) → new q ≡ position (test q) (xs ++ y ∷ [])
  found_after_more old new xs y n was some here there q = by (test q y) refl
    where
      by : (b : Bool) → test q y ≡ b → new q ≡ position (test q) (xs ++ y ∷ [])
      by true e = ap new (same q y e) ∙ here ∙ sym (placed (test y) xs y n some)
          ∙ ap (λ t. position (test t) (xs ++ y ∷ [])) (sym (same q y e))
      by false e = there q e ∙ was q ∙ sym (passed_by (test q) xs y e)

  -- the last one less, where it is found there
  pub found_after_removal : (old new : X → Option ℕ) (xs : List X) (y : X)
      → ((q : X) → old q ≡ position (test q) (xs ++ y ∷ [])) → old y ≡ Some (length xs)
      → new y ≡ None → ((q : X) → test q y ≡ false → new q ≡ old q)
      → (q : X) → new q ≡ position (test q) xs
  found_after_removal old new xs y was last here there q = by (test q y) refl
    where
      -- it stands nowhere before
      first : (o : Option ℕ) → position (test y) xs ≡ o → position (test y) xs ≡ None
      first None f = f
      first (Some n) f =
          absurd (apart n (length xs) (position-Some (test y) xs n y f).0
          (sym (placed (test y) xs y n f) ∙ sym (was y) ∙ last))

      by : (b : Bool) → test q y ≡ b → new q ≡ position (test q) xs
      by true e = ap new (same q y e) ∙ here
          ∙ sym (first (position (test y) xs) refl) ∙ ap (λ t. position (test t) xs) (sym (same q y e))
      by false e = there q e ∙ was q ∙ passed_by (test q) xs y e

  -- and where it is not
  pub found_still : (old : X → Option ℕ) (xs : List X) (y : X)
      → ((q : X) → old q ≡ position (test q) (xs ++ y ∷ [])) → (old y ≡ Some (length xs) → ⊥)
      → (q : X) → old q ≡ position (test q) xs
  found_still old xs y was other q = by (test q y) refl
    where
      there : (o : Option ℕ) → position (test y) xs ≡ o → position (test y) (xs ++ y ∷ []) ≡ position (test y) xs
      there None f = absurd (other (was y ∙ placed_last (test y) xs y f
          ∙ ap (λ b. cond b (Some (length xs)) None) (itself y)))
      there (Some n) f = placed (test y) xs y n f ∙ sym f

      by : (b : Bool) → test q y ≡ b → old q ≡ position (test q) xs
      by true e = was q ∙ ap (λ t. position (test t) (xs ++ y ∷ [])) (same q y e)
          ∙ there (position (test y) xs) refl ∙ sym (ap (λ t. position (test t) xs) (same q y e))
      by false e = was q ∙ passed_by (test q) xs y e

-- ---- names

pub same_text : (a b : List ℕ) → bytes_eq a b ≡ true → a ≡ b
same_text a b e = (bytes_eq-Decides a b).0 e

pub same_itself : (a : List ℕ) → bytes_eq a a ≡ true
same_itself a = (bytes_eq-Decides a a).1 refl

update_here : (old : List ℕ → Option ℕ) (name : List ℕ) (w : Option ℕ) → update bytes_eq old name w name ≡ w
update_here old name w = ap (λ b. cond b w (old name)) (same_itself name)

update_other : (old : List ℕ → Option ℕ) (name : List ℕ) (w : Option ℕ) (q : List ℕ) → bytes_eq q name ≡ false
    → update bytes_eq old name w q ≡ old q
update_other old name w q e = ap (λ b. cond b w (old q)) (other_way bytes_eq same_text same_itself q name e)

-- the numbers of the names, with one name more
pub name_pushed : (old new : List ℕ → Option ℕ) (names : List (List ℕ)) (name : List ℕ)
    → ((q : List ℕ) → old q ≡ number_in names q) → number_in names name ≡ None
    → ((q : List ℕ) → new q ≡ update bytes_eq old name (Some (length names)) q)
    → (q : List ℕ) → new q ≡ number_in (names ++ name ∷ []) q
name_pushed old new names name was none is =
    found_after_push bytes_eq same_text same_itself old new names name was none
    (is name ∙ update_here old name (Some (length names)))
    (λ q e. is q ∙ update_other old name (Some (length names)) q e)

-- with the last name less
pub name_popped : (old new : List ℕ → Option ℕ) (names : List (List ℕ)) (name : List ℕ)
    → ((q : List ℕ) → old q ≡ number_in (names ++ name ∷ []) q)
    → (old name ≡ Some (length names) → (q : List ℕ) → new q ≡ update bytes_eq old name None q)
    → ((old name ≡ Some (length names) → ⊥) → (q : List ℕ) → new q ≡ old q)
    → (q : List ℕ) → new q ≡ number_in names q
name_popped old new names name was gone kept = by (number_in names name) refl
  where
    by : (o : Option ℕ) → number_in names name ≡ o → (q : List ℕ) → new q ≡ number_in names q
    by None f =
        let last : old name ≡ Some (length names) = was name ∙ placed_last (bytes_eq name) names name f
        ∙ ap (λ b. cond b (Some (length names)) None) (same_itself name) in
        found_after_removal bytes_eq same_text same_itself old new names name was last
        (gone last name ∙ update_here old name None)
        (λ q e. gone last q ∙ update_other old name None q e)
    by (Some n) f =
        let before : old name ≡ Some (length names) → ⊥ = λ e. apart n (length names)
        (position-Some (bytes_eq name) names n [] f).0
        (sym (was name ∙ placed (bytes_eq name) names name n f) ∙ e) in
        λ q. kept before q ∙ found_still bytes_eq same_text same_itself old names name was before q

-- ---- a list of strings, and the tree that has their numbers

pub sorted_pushed : {Z : Type 0} (m n : BTreeMap (String Z) ℕ) (texts more : List (String Z)) (text key : String Z)
    (name : List ℕ) (number : ℕ) → ((q : List ℕ) → get_by_text m q ≡ number_in (map string_bytes texts) q)
    → number_in (map string_bytes texts) name ≡ None → string_bytes text ≡ name → string_bytes key ≡ name
    → number ≡ length texts → more ≡ texts ++ text ∷ []
    → UpdatesBy string_cmp (λ k. slice_cmp nat_cmp (string_bytes key) (string_bytes k)) m n (Some number)
    → (q : List ℕ) → get_by_text n q ≡ number_in (map string_bytes more) q
sorted_pushed m n texts more text key name number was none is same place grown updates q =
    name_pushed (get_by_text m) (get_by_text n) (map string_bytes texts) name was none
    (λ other. btree_map_updates_text (string_bytes key) m n (Some number) updates other
    ∙ ap (λ k. update bytes_eq (get_by_text m) k (Some number) other) same
    ∙ ap (λ k. update bytes_eq (get_by_text m) name (Some k) other) (place ∙ sym (length-map texts string_bytes))) q
    ∙ ap (λ l. number_in l q) (sym (ap (map string_bytes) grown ∙ map-append string_bytes texts (text ∷ [])
    ∙ ap (λ t. map string_bytes texts ++ t ∷ []) is))

pub sorted_popped : {Z : Type 0} (m n : BTreeMap (String Z) ℕ) (texts fewer : List (String Z)) (text : String Z)
    (name : List ℕ) (number : ℕ) → ((q : List ℕ) → get_by_text m q ≡ number_in (map string_bytes texts) q)
    → texts ≡ fewer ++ text ∷ [] → name ≡ string_bytes text → number ≡ length fewer
    → (get_by_text m name ≡ Some number → (q : List ℕ) → get_by_text n q ≡ update bytes_eq (get_by_text m) name None q)
    → ((get_by_text m name ≡ Some number → ⊥) → (q : List ℕ) → get_by_text n q ≡ get_by_text m q)
    → (q : List ℕ) → get_by_text n q ≡ number_in (map string_bytes fewer) q
sorted_popped m n texts fewer text name number was shrunk is place gone kept =
    let same : number ≡ length (map string_bytes fewer) = place ∙ sym (length-map fewer string_bytes) in
    name_popped (get_by_text m) (get_by_text n) (map string_bytes fewer) name
    (λ q. was q ∙ ap (λ l. number_in l q) (ap (map string_bytes) shrunk ∙ map-append string_bytes fewer (text ∷ [])
    ∙ ap (λ t. map string_bytes fewer ++ t ∷ []) (sym is)))
    (λ e. gone (e ∙ ap (λ k. Some k) (sym same)))
    (λ other. kept (λ e. other (e ∙ ap (λ k. Some k) same)))

-- ---- a list of cells, and what has the first place of each

pub blank_last : {X : Type 0} (xs : List (Option X)) (i : ℕ) → get_or (xs ++ None ∷ []) i None ≡ get_or xs i None
blank_last [] zero = refl
blank_last [] (suc i) = refl
blank_last (x ∷ xs) zero = refl
blank_last (x ∷ xs) (suc i) = blank_last xs i

abbrev is_cell : ℕ → ℕ → Bool
is_cell cell x = x == cell

same_cell : (a b : ℕ) → is_cell a b ≡ true → a ≡ b
same_cell a b e = elim (eqb_tells b a) as (λ _. a ≡ b) [
  | inl h ↦ sym h.1
  | inr h ↦ let wrong : false ≡ true = sym h.0 ∙ e in cc
]

same_cell_itself : (a : ℕ) → is_cell a a ≡ true
same_cell_itself a = elim (eqb_tells a a) as (λ _. is_cell a a ≡ true) [
  | inl h ↦ h.0
  | inr h ↦ absurd (h.1 refl)
]

pub cell_noted : (old mid new : List (Option ℕ)) (cells : List ℕ) (cell number : ℕ)
    → ((c : ℕ) → get_or old c None ≡ position (λ x. x == c) cells)
    → ((c : ℕ) → get_or mid c None ≡ get_or old c None) → number ≡ length cells
    → (get_or mid cell None ≡ None → get_or new cell None ≡ Some number)
    → ((n : ℕ) → get_or mid cell None ≡ Some n → get_or new cell None ≡ Some n)
    → ((c : ℕ) → (cell == c) ≡ false → get_or new c None ≡ get_or mid c None)
    → (c : ℕ) → get_or new c None ≡ position (λ x. x == c) (cells ++ cell ∷ [])
cell_noted old mid new cells cell number was room place first again others = by (position (is_cell cell) cells) refl
  where
    now : ℕ → Option ℕ
    now c = get_or new c None

    before : ℕ → Option ℕ
    before c = get_or mid c None

    so : (c : ℕ) → before c ≡ position (is_cell c) cells
    so c = room c ∙ was c

    by : (o : Option ℕ) → position (is_cell cell) cells ≡ o
        → (c : ℕ) → get_or new c None ≡ position (λ x. x == c) (cells ++ cell ∷ [])
    by None e = found_after_push is_cell same_cell same_cell_itself before now cells cell so e
        (first (so cell ∙ e) ∙ ap (λ k. Some k) place) others
    by (Some n) e = found_after_more is_cell same_cell same_cell_itself before now cells cell n so e
        (again n (so cell ∙ e)) others

pub cell_forgotten : (old new : List (Option ℕ)) (cells fewer : List ℕ) (cell number : ℕ)
    → ((c : ℕ) → get_or old c None ≡ position (λ x. x == c) cells) → cells ≡ fewer ++ cell ∷ []
    → number ≡ length fewer
    → (get_or old cell None ≡ Some number → get_or new cell None ≡ None)
    → ((c : ℕ) → (cell == c) ≡ false → get_or new c None ≡ get_or old c None)
    → ((get_or old cell None ≡ Some number → ⊥) → (c : ℕ) → get_or new c None ≡ get_or old c None)
    → (c : ℕ) → get_or new c None ≡ position (λ x. x == c) fewer
cell_forgotten old new cells fewer cell number was shrunk place gone others kept =
    by (position (is_cell cell) fewer) refl
  where
    now : ℕ → Option ℕ
    now c = get_or new c None

    before : ℕ → Option ℕ
    before c = get_or old c None

    so : (c : ℕ) → before c ≡ position (is_cell c) (fewer ++ cell ∷ [])
    so c = was c ∙ ap (position (is_cell c)) shrunk

    by : (o : Option ℕ) → position (is_cell cell) fewer ≡ o
        → (c : ℕ) → get_or new c None ≡ position (λ x. x == c) fewer
    by None e =
        let last : before cell ≡ Some (length fewer) = so cell ∙ placed_last (is_cell cell) fewer cell e
        ∙ ap (λ b. cond b (Some (length fewer)) None) (same_cell_itself cell) in
        found_after_removal is_cell same_cell same_cell_itself before now fewer cell so last
        (gone (last ∙ ap (λ k. Some k) (sym place))) others
    by (Some n) e =
        let before_it : before cell ≡ Some (length fewer) → ⊥ = λ f. apart n (length fewer)
        (position-Some (is_cell cell) fewer n 0 e).0
        (sym (so cell ∙ placed (is_cell cell) fewer cell n e) ∙ f) in
        λ c. kept (λ f. before_it (f ∙ ap (λ k. Some k) place)) c
        ∙ found_still is_cell same_cell same_cell_itself before fewer cell so before_it c
