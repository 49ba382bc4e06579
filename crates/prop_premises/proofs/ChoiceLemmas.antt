-- The choices among premises, and what new names, beliefs and dropped names do to them.
use Rattle.std.proofs.Common.{◌≡◌, ℕ, zero, suc, ◌+◌, ◌<◌, ◌≤◌, Bool, true, false, cond, List, [], ◌∷◌, ◌++◌, length}
use Rattle.std.proofs.Common.{take, filter, refl, sym, ap, ◌∙◌, inl, inr, arith, ◌==◌, nat_lt, slice_get, Some}
use Rattle.std.proofs.Common.{append-nil, is_some}
use Rattle.std.proofs.lemmas.Bool.{cases_lt}
use Rattle.std.proofs.lemmas.List.FromFn.{map-range_with_len_more, length-map-range_with_len}
use Rattle.std.proofs.lemmas.Bool.Decides.{nat_tests}
use Rattle.prop_premises.specs.declared.choice.Choice.{Choice}
use Rattle.prop_premises.specs.Origins.{Origin, User, Side, with_choice, with_name, with_belief_at}
use Rattle.prop_premises.specs.inner.Origins.{sides_below}
use Rattle.prop_premises.specs.Origins.{choices_from, choices_of, premise_number}

put_after : (b : Bool) (c : Choice) (xs ys zs : List Choice) → xs ≡ ys ++ zs
    → cond b (c ∷ xs) xs ≡ cond b (c ∷ ys) ys ++ zs
put_after true c xs ys zs e = ap (λ l. c ∷ l) e
put_after false c xs ys zs e = e

-- the choices of two lists of premises, where the second has the numbers from m on
pub choices_from-append : (n : ℕ) (xs ys : List Origin) (m : ℕ) → m ≡ n + length xs
    → choices_from n (xs ++ ys) ≡ choices_from n xs ++ choices_from m ys
choices_from-append n [] ys m e = ap (λ k. choices_from k ys) (omega (arith, e))
choices_from-append n (User name believed ∷ xs) ys m e = choices_from-append (suc n) xs ys m (omega (arith, e))
choices_from-append n (Side name side sides ∷ xs) ys m e =
    put_after (side == 1) (record { first = n; sides = sides }) (choices_from (suc n) (xs ++ ys))
    (choices_from (suc n) xs) (choices_from m ys) (choices_from-append (suc n) xs ys m (omega (arith, e)))

-- ---- the sides of one choice

-- the last of them
pub sides_more : (name : List ℕ) (sides n : ℕ)
    → sides_below name sides (suc n) ≡ sides_below name sides n ++ Side name (suc n) sides ∷ []
sides_more name sides n =
    let next : suc n ≡ n + 1 = omega arith in
    ap (λ k. sides_below name sides k) next
    ∙ map-range_with_len_more (λ side. Side name side sides) 1 n (suc n) (omega arith)

pub length-sides : (name : List ℕ) (sides n : ℕ) → length (sides_below name sides n) ≡ n
length-sides name sides n = length-map-range_with_len (λ side. Side name side sides) 1 n

pub slice_get-skip : {X : Type 0} (xs ys : List X) (i p : ℕ) → p ≡ length xs + i
    → slice_get (xs ++ ys) p ≡ slice_get ys i
slice_get-skip [] ys i p e = ap (λ k. slice_get ys k) (omega (arith, e))
slice_get-skip (x ∷ xs) ys i zero e = absurd (omega (arith, e))
slice_get-skip (x ∷ xs) ys i (suc p) e = slice_get-skip xs ys i p (omega (arith, e))

pub slice_get-front : {X : Type 0} (xs ys : List X) (i : ℕ) → i < length xs → slice_get (xs ++ ys) i ≡ slice_get xs i
slice_get-front [] ys i l = absurd (omega (arith, l))
slice_get-front (x ∷ xs) ys zero l = refl
slice_get-front (x ∷ xs) ys (suc i) l = slice_get-front xs ys i (omega (arith, l))

pub slice_get-sides : (name : List ℕ) (sides n i : ℕ) → i < n
    → slice_get (sides_below name sides n) i ≡ Some (Side name (suc i) sides)
slice_get-sides name sides zero i l = absurd (omega (arith, l))
slice_get-sides name sides (suc n) i l =
    let len = length-sides name sides n in
    ap (λ os. slice_get os i) (sides_more name sides n) ∙ elim (cases_lt i n) [
      | inl below ↦ slice_get-front (sides_below name sides n) (Side name (suc n) sides ∷ []) i
          (omega (arith, below, len)) ∙ slice_get-sides name sides n i below
      | inr above ↦ (
          let last : i ≡ n = omega (arith, l, above) in
          slice_get-skip (sides_below name sides n) (Side name (suc n) sides ∷ []) 0 i (omega (arith, last, len))
          ∙ ap (λ k. Some (Side name (suc k) sides)) (sym last))
    ]

-- they are one choice
pub choices_from-sides : (n : ℕ) (name : List ℕ) (sides k : ℕ)
    → choices_from n (sides_below name sides (suc k)) ≡ record { first = n; sides = sides } ∷ []
choices_from-sides n name sides zero = refl
choices_from-sides n name sides (suc k) =
    let later : (suc (suc k) == 1) ≡ false = grind (arith, nat_tests) in
    ap (λ os. choices_from n os) (sides_more name sides (suc k))
    ∙ choices_from-append n (sides_below name sides (suc k)) (Side name (suc (suc k)) sides ∷ [])
    (n + length (sides_below name sides (suc k))) refl
    ∙ ap (λ l. l ++ cond (suc (suc k) == 1)
    (record { first = n + length (sides_below name sides (suc k)); sides = sides } ∷ []) [])
    (choices_from-sides n name sides k)
    ∙ ap (λ b. record { first = n; sides = sides } ∷ cond b
    (record { first = n + length (sides_below name sides (suc k)); sides = sides } ∷ []) []) later

-- ---- new names

-- a new choice is the last
pub choices_of-with_choice : (os : List Origin) (name : List ℕ) (sides : ℕ) → 1 ≤ sides
    → choices_of (with_choice os name sides) ≡ choices_of os ++ record { first = length os; sides = sides } ∷ []
choices_of-with_choice os name zero l = absurd (omega (arith, l))
choices_of-with_choice os name (suc k) l =
    choices_from-append 0 os (sides_below name (suc k) (suc k)) (length os) (omega arith)
    ∙ ap (λ cs. choices_of os ++ cs) (choices_from-sides (length os) name (suc k) k)

-- a new premise of the user's is none
pub choices_of-user : (os : List Origin) (name : List ℕ) (believed : Bool)
    → choices_of (os ++ User name believed ∷ []) ≡ choices_of os
choices_of-user os name believed = choices_from-append 0 os (User name believed ∷ []) (length os) (omega arith)
    ∙ append-nil (choices_of os)

pub choices_of-with_name : (os : List Origin) (name : List ℕ) → choices_of (with_name os name) ≡ choices_of os
choices_of-with_name os name = by (is_some (premise_number os name))
  where
    by : (b : Bool) → choices_of (cond b os (os ++ User name true ∷ [])) ≡ choices_of os
    by true = refl
    by false = choices_of-user os name true

-- ---- a belief that changes

choices_from-belief : (n : ℕ) (os : List Origin) (p : ℕ) (believed : Bool)
    → choices_from n (with_belief_at os p believed) ≡ choices_from n os
choices_from-belief n [] p believed = refl
choices_from-belief n (User name was ∷ os) zero believed = refl
choices_from-belief n (Side name side sides ∷ os) zero believed = refl
choices_from-belief n (User name was ∷ os) (suc p) believed = choices_from-belief (suc n) os p believed
choices_from-belief n (Side name side sides ∷ os) (suc p) believed =
    ap (λ l. cond (side == 1) (record { first = n; sides = sides } ∷ l) l) (choices_from-belief (suc n) os p believed)

pub choices_of-with_belief_at : (os : List Origin) (p : ℕ) (believed : Bool)
    → choices_of (with_belief_at os p believed) ≡ choices_of os
choices_of-with_belief_at os p believed = choices_from-belief 0 os p believed

-- ---- names that are dropped

drop_one : (t : Choice → Bool) (b : Bool) (c : Choice) (cs : List Choice) → t c ≡ false → filter t cs ≡ []
    → filter t (cond b (c ∷ cs) cs) ≡ []
drop_one t true c cs e h = ap (λ x. cond x (c ∷ filter t cs) (filter t cs)) e ∙ h
drop_one t false c cs e h = h

drop_all : (n m : ℕ) (os : List Origin) → m ≤ n → filter (λ c. nat_lt c.first m) (choices_from n os) ≡ []
drop_all n m [] l = refl
drop_all n m (User name believed ∷ os) l = drop_all (suc n) m os (omega (arith, l))
drop_all n m (Side name side sides ∷ os) l =
    drop_one (λ c. nat_lt c.first m) (side == 1) (record { first = n; sides = sides }) (choices_from (suc n) os)
    (grind (arith, nat_tests, l)) (drop_all (suc n) m os (omega (arith, l)))

keep_one : (t : Choice → Bool) (b : Bool) (c : Choice) (cs ds : List Choice) → t c ≡ true → ds ≡ filter t cs
    → cond b (c ∷ ds) ds ≡ filter t (cond b (c ∷ cs) cs)
keep_one t true c cs ds e h = ap (λ l. c ∷ l) h ∙ ap (λ x. cond x (c ∷ filter t cs) (filter t cs)) (sym e)
keep_one t false c cs ds e h = h

choices_from-take : (n : ℕ) (os : List Origin) (k m : ℕ) → m ≡ n + k
    → choices_from n (take k os) ≡ filter (λ c. nat_lt c.first m) (choices_from n os)
choices_from-take n os zero m e = sym (drop_all n m os (omega (arith, e)))
choices_from-take n [] (suc k) m e = refl
choices_from-take n (User name believed ∷ os) (suc k) m e = choices_from-take (suc n) os k m (omega (arith, e))
choices_from-take n (Side name side sides ∷ os) (suc k) m e =
    keep_one (λ c. nat_lt c.first m) (side == 1) (record { first = n; sides = sides }) (choices_from (suc n) os)
    (choices_from (suc n) (take k os)) (grind (arith, nat_tests, e))
    (choices_from-take (suc n) os k m (omega (arith, e)))

-- the choices whose first sides are left
pub choices_of-take : (os : List Origin) (k : ℕ)
    → choices_of (take k os) ≡ filter (λ c. nat_lt c.first k) (choices_of os)
choices_of-take os k = choices_from-take 0 os k k (omega arith)
