-- Values with their supports, and the entries that they stand for.
use Rattle.std.proofs.Common.{◌≡◌, ◌≢◌, ◌∙◌, ◌+◌, ◌<◌, ◌≤◌, ◌||◌, not, ℕ, zero, suc, Bool, true, false, cond}
use Rattle.std.proofs.Common.{if◌then◌else◌, List, [], ◌∷◌, ◌++◌, length, map, filter, take, drop, get_or, set}
use Rattle.std.proofs.Common.{slice_get, Some, refl, sym, ap, subst, arith, inl, inr, ◌⊎◌, All, AllPairs, Any, ◌↔◌}
use Rattle.std.proofs.Common.{append_assoc, append-nil}
use Rattle.std.specs.List.{list_any, remove}
use Rattle.std.proofs.lemmas.List.{get_or_default, length-append, length-set, map-append, take_more, take-set}
use Rattle.std.proofs.lemmas.List.{take-append-drop}
use Rattle.std.proofs.lemmas.Grind.{get_or-set_at}
use Rattle.std.proofs.lemmas.List.Elements.{All-nil, All-cons, All-head, All-tail, filter-append}
use Rattle.std.proofs.lemmas.List.Kept.{AllPairs-cons}
use Rattle.std.proofs.lemmas.List.Quantifiers.{all_pairs_push}
use Rattle.std.proofs.Math.ListN.{get_or-map}
use Rattle.std.proofs.Math.Seq.{take-suc-set}
use Rattle.smallvec.specs.SmallVec.{HasRoomFor}
use Rattle.prop_lattice.specs.InformationOrder.{IsInformationOrder}
use Rattle.prop_numbers.specs.Sets.{Members, set_of, is_within}
use Rattle.prop_tms.specs.Beliefs.{merge_of_all, belief_of, Subsumes}
use Rattle.prop_tms.specs.Kept.{IsLeftWithout}
use Rattle.prop_tms.specs.Values.{entries_of, entries_of_one}
use Rattle.prop_tms.specs.inner.Values.{values_of, place_of, AreApart, NoneBare, NoneBareBut, NoneEmptied, HasRoomOf}
use Rattle.prop_tms.specs.declared.supported.Supported.{Supported}
use Rattle.prop_tms.specs.declared.values.Valued.{Valued}
use Rattle.prop_tms.proofs.KeptLemmas.{contains_cases}
use Rattle.prop_tms.proofs.MergedLemmas.{first_below, second_below, join_below, merge_of_all-append, join-above}
use Rattle.prop_tms.proofs.MergedLemmas.{join-assoc, join-bottom, bottom-join, join-comm}

-- the entries of a value with these supports
abbrev pub with_value : {V : Type 0} → V → List (List ℕ) → List (Supported V)
with_value v ss = map (λ s. record { value = v; support = s }) ss

-- ---- one value after the other

pub entries_of-append : {V : Type 0} (xs ys : List (Valued V)) → entries_of (xs ++ ys) ≡ entries_of xs ++ entries_of ys
entries_of-append [] ys = refl
entries_of-append (x ∷ xs) ys = ap (λ es. entries_of_one x ++ es) (entries_of-append xs ys)
    ∙ sym (append_assoc (entries_of_one x) (entries_of xs) (entries_of ys))

pub entries_of-push : {V : Type 0} (xs : List (Valued V)) (x : Valued V)
    → entries_of (xs ++ x ∷ []) ≡ entries_of xs ++ entries_of_one x
entries_of-push xs x = entries_of-append xs (x ∷ []) ∙ ap (λ es. entries_of xs ++ es) (append-nil (entries_of_one x))

pub entries_of-more : {V : Type 0} (xs : List (Valued V)) (i : ℕ) (x : Valued V) → i < length xs → x ≡ get_or xs i x
    → entries_of (take (i + 1) xs) ≡ entries_of (take i xs) ++ entries_of_one x
entries_of-more xs i x l is =
    let bigger : take (i + 1) xs ≡ take i xs ++ x ∷ [] = rw (take_more xs i x l, ← is) refl in
    ap entries_of bigger ∙ entries_of-push (take i xs) x

pub entries_of-take : {V : Type 0} (xs : List (Valued V)) (i : ℕ)
    → length (entries_of (take i xs)) ≤ length (entries_of xs)
entries_of-take xs zero = omega arith
entries_of-take [] (suc i) = omega arith
entries_of-take (x ∷ xs) (suc i) =
    let rest = entries_of-take xs i in
    let more = length-append (entries_of_one x) (entries_of (take i xs)) in
    let all = length-append (entries_of_one x) (entries_of xs) in
    omega (arith, rest, more, all)

pub length_of_one : {V : Type 0} (x : Valued V) → length (entries_of_one x) ≡ length x.supports.items
length_of_one x = go x.value x.supports.items
  where
    go : {V : Type 0} (v : V) (ss : List (List ℕ)) → length (with_value v ss) ≡ length ss
    go v [] = refl
    go v (s ∷ ss) = ap suc (go v ss)

pub count_more : {V : Type 0} (xs : List (Valued V)) (i : ℕ) (x : Valued V) → i < length xs → x ≡ get_or xs i x
    → length (entries_of (take (i + 1) xs)) ≡ length (entries_of (take i xs)) + length x.supports.items
count_more xs i x l is = ap length (entries_of-more xs i x l is)
    ∙ length-append (entries_of (take i xs)) (entries_of_one x)
    ∙ ap (λ n. length (entries_of (take i xs)) + n) (length_of_one x)

-- ---- one value changes

pub entries_of-parts : {V : Type 0} (xs : List (Valued V)) (i : ℕ) (d : Valued V) → i < length xs
    → entries_of xs ≡ entries_of (take i xs) ++ (entries_of_one (get_or xs i d) ++ entries_of (drop (suc i) xs))
entries_of-parts [] i d l = absurd (omega (arith, l))
entries_of-parts (x ∷ xs) zero d l = refl
entries_of-parts (x ∷ xs) (suc i) d l =
    let rest = entries_of_one (get_or xs i d) ++ entries_of (drop (suc i) xs) in
    ap (λ es. entries_of_one x ++ es) (entries_of-parts xs i d (omega (arith, l)))
    ∙ sym (append_assoc (entries_of_one x) (entries_of (take i xs)) rest)

pub entries_of-set : {V : Type 0} (xs : List (Valued V)) (i : ℕ) (y : Valued V) → i < length xs
    → entries_of (set xs i y) ≡ entries_of (take i xs) ++ (entries_of_one y ++ entries_of (drop (suc i) xs))
entries_of-set [] i y l = absurd (omega (arith, l))
entries_of-set (x ∷ xs) zero y l = refl
entries_of-set (x ∷ xs) (suc i) y l =
    let rest = entries_of_one y ++ entries_of (drop (suc i) xs) in
    ap (λ es. entries_of_one x ++ es) (entries_of-set xs i y (omega (arith, l)))
    ∙ sym (append_assoc (entries_of_one x) (entries_of (take i xs)) rest)

pub values_of-set : {V : Type 0} (xs : List (Valued V)) (i : ℕ) (y d : Valued V) → i < length xs
    → y.value ≡ (get_or xs i d).value → values_of (set xs i y) ≡ values_of xs
values_of-set [] i y d l h = absurd (omega (arith, l))
values_of-set (x ∷ xs) zero y d l h = ap (λ v. v ∷ values_of xs) h
values_of-set (x ∷ xs) (suc i) y d l h = ap (λ vs. x.value ∷ vs) (values_of-set xs i y d (omega (arith, l)) h)

-- a value with the same supports stands for the same entries
pub entries_of-same : {V : Type 0} (xs : List (Valued V)) (i : ℕ) (y d : Valued V) → i < length xs
    → y.value ≡ (get_or xs i d).value → y.supports.items ≡ (get_or xs i d).supports.items
    → entries_of (set xs i y) ≡ entries_of xs
entries_of-same {V} xs i y d l value supports =
    let one : entries_of_one y ≡ entries_of_one (get_or xs i d) = (λ j. with_value (value j) (supports j)) in
    entries_of-set xs i y l ∙ ap (λ es. entries_of (take i xs) ++ (es ++ entries_of (drop (suc i) xs))) one
    ∙ sym (entries_of-parts xs i d l)

-- ---- values with no support

abbrev pub IsBare : {V : Type 0} → Valued V → Type 0
IsBare x = x.supports.items ≡ []

pub entries_of-left : {V : Type 0} (xs ys : List (Valued V)) → IsLeftWithout IsBare xs ys
    → entries_of ys ≡ entries_of xs
entries_of-left [] ys h = ap entries_of h
entries_of-left (x ∷ xs) ys (inl h) = entries_of-left xs ys h.1
    ∙ sym (ap (λ ss. with_value x.value ss ++ entries_of xs) h.0)
entries_of-left (x ∷ xs) ys (inr h) = ap entries_of h.1.1
    ∙ ap (λ es. entries_of_one x ++ es) (entries_of-left xs h.1.0 h.1.2)

all_left : {V : Type 0} (P : V → Type 0) (xs ys : List (Valued V)) → IsLeftWithout IsBare xs ys → All P (values_of xs)
    → All P (values_of ys)
all_left P [] ys h a = rw h a
all_left P (x ∷ xs) ys (inl h) a = all_left P xs ys h.1 (All-tail P x.value (values_of xs) a)
all_left P (x ∷ xs) ys (inr h) a =
    rw h.1.1 (All-cons P x.value (values_of h.1.0) (All-head P x.value (values_of xs) a)
    (all_left P xs h.1.0 h.1.2 (All-tail P x.value (values_of xs) a)))

pub values_left : {V : Type 0} (R : V → V → Type 0) (xs ys : List (Valued V)) → IsLeftWithout IsBare xs ys
    → AllPairs R (values_of xs) → AllPairs R (values_of ys)
values_left R [] ys h k = rw h k
values_left R (x ∷ xs) ys (inl h) k =
    values_left R xs ys h.1 (λ i j d lt l. k (suc i) (suc j) d (omega (arith, lt)) (omega (arith, l)))
values_left R (x ∷ xs) ys (inr h) k =
    let first : All (R x.value) (values_of xs) = λ j d l. k 0 (suc j) d (omega arith) (omega (arith, l)) in
    rw h.1.1 (AllPairs-cons R x.value (values_of h.1.0) (all_left (R x.value) xs h.1.0 h.1.2 first)
    (values_left R xs h.1.0 h.1.2 (λ i j d lt l. k (suc i) (suc j) d (omega (arith, lt)) (omega (arith, l)))))

-- ---- entries of which something holds

pub any_append : {X : Type 0} (P : X → Type 0) (xs ys : List X) → Any P (xs ++ ys) → Any P xs ⊎ Any P ys
any_append P [] ys h = inr h
any_append {X} P (x ∷ xs) ys h = elim (contains_cases x h.1 (xs ++ ys) (h.0, h.2, h.3)) [
  | inl e ↦ inl (0, x, omega arith, refl, subst P (sym e) h.4)
  | inr there ↦ elim (any_append P xs ys (there.0, h.1, there.1, there.2, h.4))
      [ inl some ↦ inl (suc some.0, some.1, omega (arith, some.2), some.3, some.4) | inr some ↦ inr some ]
]

pub any_left : {X : Type 0} (P : X → Type 0) (xs ys : List X) → Any P xs → Any P (xs ++ ys)
any_left P [] ys h = absurd (omega (arith, h.2))
any_left P (x ∷ xs) ys h = elim (contains_cases x h.1 xs (h.0, h.2, h.3)) [
  | inl e ↦ (0, x, omega arith, refl, subst P (sym e) h.4)
  | inr there ↦ (let rest = any_left P xs ys (there.0, h.1, there.1, there.2, h.4)
      in (suc rest.0, rest.1, omega (arith, rest.2), rest.3, rest.4))
]

pub any_right : {X : Type 0} (P : X → Type 0) (xs ys : List X) → Any P ys → Any P (xs ++ ys)
any_right P [] ys h = h
any_right P (x ∷ xs) ys h = let rest =
    any_right P xs ys h in (suc rest.0, rest.1, omega (arith, rest.2), rest.3, rest.4)

pub any_of_all : {V : Type 0} (P : Supported V → Type 0) (xs : List (Valued V))
    → Any (λ x. Any P (entries_of_one x)) xs ↔ Any P (entries_of xs)
any_of_all P [] = (λ h. absurd (omega (arith, h.2)), λ h. absurd (omega (arith, h.2)))
any_of_all {V} P (x ∷ xs) = both (any_of_all P xs)
  where
    both : (Any (λ y. Any P (entries_of_one y)) xs ↔ Any P (entries_of xs))
        → (Any (λ y. Any P (entries_of_one y)) (x ∷ xs) ↔ Any P (entries_of_one x ++ entries_of xs))
    both rest = (
      (λ h. elim (contains_cases x h.1 xs (h.0, h.2, h.3)) [
        | inl e ↦ any_left P (entries_of_one x) (entries_of xs)
            (subst (λ (y : Valued V). Any P (entries_of_one y)) (sym e) h.4)
        | inr there ↦ any_right P (entries_of_one x) (entries_of xs) (rest.0 (there.0, h.1, there.1, there.2, h.4))
      ]),
      (λ h. elim (any_append P (entries_of_one x) (entries_of xs) h) [
        | inl some ↦ (0, x, omega arith, refl, some)
        | inr some ↦ (let there = rest.1 some in (suc there.0, there.1, omega (arith, there.2), there.3, there.4))
      ]),
    )

-- a value subsumes by one of its supports just where one of them is part of the entry's
pub any_subsumes : {V : Type 0} (below : V → V → Type 0) (v : V) (ss : List (List ℕ)) (e : Supported V)
    → below e.value v → list_any (λ s. is_within (set_of e.support) s) ss ≡ true
    → Any (λ x. Subsumes below x e) (with_value v ss)
any_subsumes below v [] e says h = cc
any_subsumes {V} below v (s ∷ ss) e says h =
    by (is_within (set_of e.support) s) refl h (λ t. any_subsumes below v ss e says t)
  where
    by : (b : Bool) → is_within (set_of e.support) s ≡ b
        → (b || list_any (λ s. is_within (set_of e.support) s) ss) ≡ true →
        (list_any (λ s. is_within (set_of e.support) s) ss ≡ true → Any (λ x. Subsumes below x e) (with_value v ss))
        → Any (λ x. Subsumes below x e) (with_value v (s ∷ ss))
    by true on t ih = (0, record { value = v; support = s }, omega arith, refl, record { value = says; support = on })
    by false off t ih = let rest = ih t in (suc rest.0, rest.1, omega (arith, rest.2), rest.3, rest.4)

pub subsumes_any : {V : Type 0} (below : V → V → Type 0) (v : V) (ss : List (List ℕ)) (e : Supported V)
    → Any (λ x. Subsumes below x e) (with_value v ss)
    → below e.value v × (list_any (λ s. is_within (set_of e.support) s) ss ≡ true)
subsumes_any below v [] e h = absurd (omega (arith, h.2))
subsumes_any {V} below v (s ∷ ss) e h =
    elim (contains_cases (record { value = v; support = s }) h.1 (with_value v ss) (h.0, h.2, h.3)) [
      | inl is ↦
          (let here : Subsumes below (record { value = v; support = s }) e = subst (λ (x : Supported V). Subsumes below x e)
          (sym is) h.4 in
          (here.value, rw here.support refl))
      | inr there ↦ (let rest = subsumes_any below v ss e (there.0, h.1, there.1, there.2, h.4)
          in (rest.0, or (is_within (set_of e.support) s) rest.1))
    ]
  where
    or : (b : Bool) → list_any (λ s. is_within (set_of e.support) s) ss ≡ true
        → (b || list_any (λ s. is_within (set_of e.support) s) ss) ≡ true
    or true t = refl
    or false t = t

-- ---- what stays of entries

pub left_append : {X : Type 0} (D : X → Type 0) (xs ys us vs : List X) → IsLeftWithout D xs ys → IsLeftWithout D us vs
    → IsLeftWithout D (xs ++ us) (ys ++ vs)
left_append D [] ys us vs h k = subst (λ (zs : List _). IsLeftWithout D us (zs ++ vs)) (sym h) k
left_append D (x ∷ xs) ys us vs (inl h) k = inl (h.0, left_append D xs ys us vs h.1 k)
left_append D (x ∷ xs) ys us vs (inr h) k =
    inr (h.0, (h.1.0 ++ vs, ap (λ zs. zs ++ vs) h.1.1, left_append D xs h.1.0 us vs h.1.2 k))

pub left_length : {X : Type 0} (D : X → Type 0) (xs ys : List X) → IsLeftWithout D xs ys → length ys ≤ length xs
left_length D [] ys h = rw h (omega arith)
left_length D (x ∷ xs) ys (inl h) = let rest = left_length D xs ys h.1 in omega (arith, rest)
left_length D (x ∷ xs) ys (inr h) = let rest = left_length D xs h.1.0 h.1.2 in rw h.1.1 (omega (arith, rest))

-- an entry that says as much subsumes just those of a value that its support is part of
pub left_one : {V : Type 0} (below : V → V → Type 0) (e : Supported V) (v : V) (ss : List (List ℕ)) → below v e.value →
    IsLeftWithout (Subsumes below e) (with_value v ss)
    (with_value v (filter (λ s. not (is_within (set_of s) e.support)) ss))
left_one below e v [] says = refl
left_one {V} below e v (s ∷ ss) says = by (is_within (set_of s) e.support) refl (left_one below e v ss says)
  where
    by : (b : Bool) → is_within (set_of s) e.support ≡ b
        → IsLeftWithout (Subsumes below e) (with_value v ss)
        (with_value v (filter (λ s. not (is_within (set_of s) e.support)) ss))
        → IsLeftWithout (Subsumes below e) (with_value v (s ∷ ss))
        (with_value v (cond (not b) (s ∷ filter (λ s. not (is_within (set_of s) e.support)) ss)
        (filter (λ s. not (is_within (set_of s) e.support)) ss)))
    by true on rest = inl (record { value = says; support = on }, rest)
    by false off rest = inr (
      (λ sub. let on = sub.support in cc),
      (with_value v (filter (λ s. not (is_within (set_of s) e.support)) ss), refl, rest),
    )

pub left_other : {V : Type 0} (below : V → V → Type 0) (e : Supported V) (v : V) (ss : List (List ℕ))
    → ¬ (below v e.value) → IsLeftWithout (Subsumes below e) (with_value v ss) (with_value v ss)
left_other below e v [] other = refl
left_other below e v (s ∷ ss) other =
    inr ((λ sub. other sub.value), (with_value v ss, refl, left_other below e v ss other))

pub filter_one : {V : Type 0} (u : List ℕ → Bool) (v : V) (ss : List (List ℕ))
    → filter (λ e. u e.support) (with_value v ss) ≡ with_value v (filter u ss)
filter_one u v [] = refl
filter_one {V} u v (s ∷ ss) = by (u s) (filter_one u v ss)
  where
    by : (b : Bool) → filter (λ e. u e.support) (with_value v ss) ≡ with_value v (filter u ss)
        → cond b (record { value = v; support = s } ∷ filter (λ e. u e.support) (with_value v ss))
        (filter (λ e. u e.support) (with_value v ss)) ≡
        with_value v (cond b (s ∷ filter u ss) (filter u ss))
    by true ih = ap (λ es. record { value = v; support = s } ∷ es) ih
    by false ih = ih

module _ {V : Type 0} {below : V → V → Type 0} {bottom top : V} {join : V → V → V}
    (laws : IsInformationOrder below bottom top join) where
  -- what the entries of a value say that pass a test on supports
  pub said_one : (u : List ℕ → Bool) (v : V) (ss : List (List ℕ))
      → merge_of_all bottom join (filter (λ e. u e.support) (with_value v ss)) ≡ (if list_any u ss then v else bottom)
  said_one u v [] = refl
  said_one u v (s ∷ ss) = by (u s) (list_any u ss) (said_one u v ss)
    where
      by : (b c : Bool) → merge_of_all bottom join
          (filter (λ e. u e.support) (with_value v ss)) ≡ (if c then v else bottom) →
          merge_of_all bottom join (cond b (record { value = v; support = s } ∷ filter (λ e. u e.support)
          (with_value v ss)) (filter (λ e. u e.support) (with_value v ss))) ≡ (if (b || c) then v else bottom)
      by true true ih = ap (λ x. join v x) ih ∙ join-above laws v v (laws.reflexive v)
      by true false ih = ap (λ x. join v x) ih ∙ join-bottom laws v
      by false c ih = ih

  pub said_both : (u : List ℕ → Bool) (xs ys : List (Supported V))
      → merge_of_all bottom join (filter (λ e. u e.support) (xs ++ ys)) ≡ join
      (merge_of_all bottom join (filter (λ e. u e.support) xs))
      (merge_of_all bottom join (filter (λ e. u e.support) ys))
  said_both u xs ys = ap (merge_of_all bottom join) (filter-append (λ e. u e.support) xs ys)
      ∙ merge_of_all-append laws (filter (λ e. u e.support) xs) (filter (λ e. u e.support) ys)

  -- one value more
  pub said_more : (u : List ℕ → Bool) (xs : List (Valued V)) (i : ℕ) (x : Valued V) (b : Bool) → i < length xs
      → x ≡ get_or xs i x → list_any u x.supports.items ≡ b →
      merge_of_all bottom join (filter (λ e. u e.support) (entries_of (take (i + 1) xs))) ≡
      (if b then join (merge_of_all bottom join (filter (λ e. u e.support) (entries_of (take i xs)))) x.value
      else merge_of_all bottom join (filter (λ e. u e.support) (entries_of (take i xs))))
  said_more u xs i x b l is at =
      let before = merge_of_all bottom join (filter (λ e. u e.support) (entries_of (take i xs))) in
      ap (λ es. merge_of_all bottom join (filter (λ e. u e.support) es)) (entries_of-more xs i x l is)
      ∙ said_both u (entries_of (take i xs)) (entries_of_one x) ∙
      ap (λ y. join before y) (said_one u x.value x.supports.items ∙ ap (λ c. if c then x.value else bottom) at)
      ∙ by before b
    where
      by : (v : V) (c : Bool) → join v (if c then x.value else bottom) ≡ (if c then join v x.value else v)
      by v true = refl
      by v false = join-bottom laws v

  abbrev said_of : (List ℕ → Bool) → List (Valued V) → V
  said_of u xs = merge_of_all bottom join (filter (λ e. u e.support) (entries_of xs))

  -- what the first ones say, all say
  pub said_first : (u : List ℕ → Bool) (xs : List (Valued V)) (i : ℕ) → below (said_of u (take i xs)) (said_of u xs)
  said_first u xs i =
      subst (λ v. below (said_of u (take i xs)) v) (sym whole)
      (first_below laws (said_of u (take i xs)) (said_of u (drop i xs)))
    where
      whole : said_of u xs ≡ join (said_of u (take i xs)) (said_of u (drop i xs))
      whole = ap (said_of u) (sym (take-append-drop i xs))
          ∙ ap (λ es. merge_of_all bottom join (filter (λ e. u e.support) es)) (entries_of-append (take i xs) (drop i xs))
          ∙ said_both u (entries_of (take i xs)) (entries_of (drop i xs))

  -- with a value that is said already they say no more
  pub said_passed : (u : List ℕ → Bool) (xs : List (Valued V)) (i : ℕ) (x : Valued V) (first : V) → i < length xs
      → x ≡ get_or xs i x → below x.value (join first (said_of u (take i xs))) →
      join first (said_of u (take i xs)) ≡ join first (said_of u (take (i + 1) xs))
  said_passed u xs i x first l is known = by (list_any u x.supports.items) refl
    where
      said : V
      said = said_of u (take i xs)

      by : (b : Bool) → list_any u x.supports.items ≡ b → join first said ≡ join first (said_of u (take (i + 1) xs))
      by true on = sym (ap (λ v. join first v) (said_more u xs i x true l is on) ∙ join-assoc laws first said x.value
          ∙ join-above laws (join first said) x.value known)
      by false off = sym (ap (λ v. join first v) (said_more u xs i x false l is off))

  -- what the last one says, beside what those before it say
  pub said_beside : (u : List ℕ → Bool) (ys : List (Valued V)) (x : Valued V) (b : Bool)
      → list_any u x.supports.items ≡ b → join (if b then x.value else bottom) (said_of u ys) ≡ said_of u (ys ++ x ∷ [])
  said_beside u ys x b at =
      let said = said_of u ys in
      let one = said_one u x.value x.supports.items ∙ ap (λ c. if c then x.value else bottom) at in
      join-comm laws (if b then x.value else bottom) said ∙ ap (λ v. join said v) (sym one) ∙
      sym (ap (λ es. merge_of_all bottom join (filter (λ e. u e.support) es)) (entries_of-push ys x)
      ∙ said_both u (entries_of ys) (entries_of_one x))

-- ---- a loop that changes one value after the other

drop_first : {X : Type 0} (xs : List X) (i : ℕ) (d : X) → get_or (drop i xs) 0 d ≡ get_or xs i d
drop_first xs zero d = refl
drop_first [] (suc i) d = refl
drop_first (x ∷ xs) (suc i) d = drop_first xs i d

drop_set : {X : Type 0} (xs : List X) (i : ℕ) (y : X) → drop (suc i) (set xs i y) ≡ drop (suc i) xs
drop_set [] zero y = refl
drop_set [] (suc i) y = refl
drop_set (x ∷ xs) zero y = refl
drop_set (x ∷ xs) (suc i) y = drop_set xs i y

drop_twice : {X : Type 0} (xs : List X) (i : ℕ) → drop (suc i) xs ≡ drop 1 (drop i xs)
drop_twice xs zero = refl
drop_twice [] (suc i) = refl
drop_twice (x ∷ xs) (suc i) = drop_twice xs i

drop_next : {X : Type 0} (xs ys : List X) (i : ℕ) → drop i xs ≡ drop i ys → drop (suc i) xs ≡ drop (suc i) ys
drop_next xs ys i h = drop_twice xs i ∙ ap (drop 1) h ∙ sym (drop_twice ys i)

get_or_set : {X : Type 0} (ys : List X) (i k : ℕ) (y d : X) → i < length ys
    → ((i ≡ k) × (get_or (set ys i y) k d ≡ y)) ⊎ (get_or (set ys i y) k d ≡ get_or ys k d)
get_or_set [] i k y d l = absurd (omega (arith, l))
get_or_set (x ∷ ys) zero zero y d l = inl (refl, refl)
get_or_set (x ∷ ys) zero (suc k) y d l = inr refl
get_or_set (x ∷ ys) (suc i) zero y d l = inr refl
get_or_set (x ∷ ys) (suc i) (suc k) y d l =
    elim (get_or_set ys i k y d (omega (arith, l))) [ inl at ↦ inl (ap suc at.0, at.1) | inr other ↦ inr other ]

pub taken : {X : Type 0} (xs : List X) (i : ℕ) (y : X) → i < length xs → take (i + 1) (set xs i y) ≡ take i xs ++ y ∷ []
taken xs i y l = let next : i + 1 ≡ suc i = omega arith in rw next (take-suc-set xs i y l)

pub rest_set : {X : Type 0} (xs ys : List X) (i : ℕ) (y : X) → drop i xs ≡ drop i ys
    → drop (i + 1) (set xs i y) ≡ drop (i + 1) ys
rest_set xs ys i y h = let next : i + 1 ≡ suc i = omega arith in rw next (drop_set xs i y ∙ drop_next xs ys i h)

pub rest_next : {X : Type 0} (xs ys : List X) (i : ℕ) → drop i xs ≡ drop i ys → drop (i + 1) xs ≡ drop (i + 1) ys
rest_next xs ys i h = let next : i + 1 ≡ suc i = omega arith in rw next (drop_next xs ys i h)

-- what stands at a place that was not reached yet is as it was
pub rest_at : {X : Type 0} (xs ys : List X) (i : ℕ) (d : X) → i < length xs → drop i xs ≡ drop i ys
    → get_or xs i d ≡ get_or ys i d
rest_at xs ys i d l h = sym (drop_first xs i d) ∙ ap (λ zs. get_or zs 0 d) h ∙ drop_first ys i d

one_more : {V : Type 0} (ys : List (Valued V)) (i : ℕ) (y : Valued V) → i < length ys
    → entries_of (take (i + 1) (set ys i y)) ≡ entries_of (take i ys) ++ entries_of_one y
one_more ys i y l = ap entries_of (taken ys i y l) ∙ entries_of-push (take i ys) y

pub filter_more : {V : Type 0} (u : List ℕ → Bool) (xs ys : List (Valued V)) (i : ℕ) (x y : Valued V) → i < length xs
    → i < length ys → x ≡ get_or xs i x → y.value ≡ x.value → y.supports.items ≡ filter u x.supports.items →
    entries_of (take i ys) ≡ filter (λ e. u e.support) (entries_of (take i xs))
    → entries_of (take (i + 1) (set ys i y)) ≡ filter (λ e. u e.support) (entries_of (take (i + 1) xs))
filter_more u xs ys i x y l m is value supports before =
    let one : entries_of_one y ≡ with_value x.value (filter u x.supports.items) =
    (λ j. with_value (value j) (supports j)) in
    one_more ys i y m ∙ (λ j. before j ++ one j)
    ∙ ap (λ es. filter (λ e. u e.support) (entries_of (take i xs)) ++ es)
    (sym (filter_one u x.value x.supports.items)) ∙
    sym (ap (filter (λ e. u e.support)) (entries_of-more xs i x l is)
    ∙ filter-append (λ e. u e.support) (entries_of (take i xs)) (entries_of_one x))

pub left_more : {V : Type 0} (D : Supported V → Type 0) (xs ys : List (Valued V)) (i : ℕ) (x y : Valued V)
    → i < length xs → i < length ys → x ≡ get_or xs i x → IsLeftWithout D (entries_of_one x) (entries_of_one y) →
    IsLeftWithout D (entries_of (take i xs)) (entries_of (take i ys))
    → IsLeftWithout D (entries_of (take (i + 1) xs)) (entries_of (take (i + 1) (set ys i y)))
left_more D xs ys i x y l m is one before =
    rw (entries_of-more xs i x l is, one_more ys i y m)
    (left_append D (entries_of (take i xs)) (entries_of (take i ys)) (entries_of_one x) (entries_of_one y) before
    one)

pub left_still : {V : Type 0} (D : Supported V → Type 0) (xs ys : List (Valued V)) (i : ℕ) (x y : Valued V)
    → i < length xs → i < length ys → x ≡ get_or xs i x → y ≡ get_or ys i y
    → IsLeftWithout D (entries_of_one x) (entries_of_one y) →
    IsLeftWithout D (entries_of (take i xs)) (entries_of (take i ys))
    → IsLeftWithout D (entries_of (take (i + 1) xs)) (entries_of (take (i + 1) ys))
left_still D xs ys i x y l m is at one before =
    rw (entries_of-more xs i x l is, entries_of-more ys i y m at)
    (left_append D (entries_of (take i xs)) (entries_of (take i ys)) (entries_of_one x) (entries_of_one y) before
    one)

-- a write that keeps the room
pub room_set : {V : Type 0} (xs ys : List (Valued V)) (i : ℕ) (y x : Valued V) → i < length ys
    → HasRoomOf y (get_or ys i x) → ((k : ℕ) (d : Valued V) → k < length xs → HasRoomOf (get_or ys k d) (get_or xs k d))
    →
    (k : ℕ) (d : Valued V) → k < length xs → HasRoomOf (get_or (set ys i y) k d) (get_or xs k d)
room_set xs ys i y x m here rest k d l =
    elim (get_or_set ys i k y d m) as (λ _. HasRoomOf (get_or (set ys i y) k d) (get_or xs k d)) [
      | inl at ↦
          (let before = rest k d l in
          let now : HasRoomOf y (get_or ys k d) =
          subst (λ (n : ℕ). HasRoomOf y (get_or ys n d)) at.0
          (subst (λ (z : Valued _). HasRoomOf y z) (get_or_default ys i x d m) here) in
          subst (λ (z : Valued _). HasRoomOf z (get_or xs k d)) (sym at.1)
          (now.0 ∙ before.0, omega (arith, now.1, before.1)))
      | inr other ↦ subst (λ (z : Valued _). HasRoomOf z (get_or xs k d)) (sym other) (rest k d l)
    ]

-- a write that leaves a support where there was one
pub emptied_set : {V : Type 0} (xs ys : List (Valued V)) (i : ℕ) (y x : Valued V) → i < length ys
    → (y.supports.items ≡ [] → (get_or ys i x).supports.items ≡ []) → NoneEmptied xs ys → NoneEmptied xs (set ys i y)
emptied_set xs ys i y x m here rest k d l =
    elim (get_or_set ys i k y d m) as (λ _. (get_or (set ys i y) k d).supports.items ≡ []
    → (get_or xs k d).supports.items ≡ []) [
      | inl at ↦
          (let first = subst (λ (z : Valued _). y.supports.items ≡ [] → z.supports.items ≡ []) (get_or_default ys i x d m)
          here in
          let now : y.supports.items ≡ [] → (get_or ys k d).supports.items ≡ [] =
          subst (λ (n : ℕ). y.supports.items ≡ [] → (get_or ys n d).supports.items ≡ []) at.0 first in
          λ none. rest k d l (now (ap (λ (z : Valued _). z.supports.items) (sym at.1) ∙ none)))
      | inr other ↦ (λ none. rest k d l (ap (λ (z : Valued _). z.supports.items) (sym other) ∙ none))
    ]

-- a value without the supports that an entry is part of
pub left_wider : {V : Type 0} (below : V → V → Type 0) (e : Supported V) (x y : Valued V) → below x.value e.value
    → y.value ≡ x.value → y.supports.items ≡ filter (λ s. not (is_within (set_of s) e.support)) x.supports.items →
    IsLeftWithout (Subsumes below e) (entries_of_one x) (entries_of_one y)
left_wider below e x y says value supports =
    let one : entries_of_one y ≡ with_value x.value
    (filter (λ s. not (is_within (set_of s) e.support)) x.supports.items) =
    (λ j. with_value (value j) (supports j)) in
    rw one (left_one below e x.value x.supports.items says)

-- a new value stands apart
pub apart_more : {V : Type 0} (xs : List (Valued V)) (x : Valued V) (v : V) → x.value ≡ v → All (λ y. y.value ≢ v) xs
    → AreApart xs → AreApart (xs ++ x ∷ [])
apart_more {V} xs x v is new apart =
    let longer : values_of (xs ++ x ∷ []) ≡ values_of xs ++ v ∷ [] = map-append (λ (y : Valued V). y.value) xs (x ∷ [])
    ∙ ap (λ w. values_of xs ++ w ∷ []) is in
    subst (AllPairs (λ a b. a ≢ b)) (sym longer)
    (all_pairs_push (λ a b. a ≢ b) (values_of xs) v apart (all_values xs new))
  where
    all_values : (ys : List (Valued V)) → All (λ y. y.value ≢ v) ys → All (λ w. w ≢ v) (values_of ys)
    all_values [] h = All-nil (λ w. w ≢ v)
    all_values (y ∷ ys) h = All-cons (λ w. w ≢ v) y.value (values_of ys) (All-head (λ z. z.value ≢ v) y ys h)
        (all_values ys (All-tail (λ z. z.value ≢ v) y ys h))

-- and stands for nothing before it has a support
pub entries_of-new : {V : Type 0} (xs : List (Valued V)) (x : Valued V) → x.supports.items ≡ []
    → entries_of (xs ++ x ∷ []) ≡ entries_of xs
entries_of-new xs x none = entries_of-push xs x ∙ ap (λ ss. entries_of xs ++ with_value x.value ss) none
    ∙ append-nil (entries_of xs)

-- where no other lost its supports, the one with the new support is the last to have one
pub none_bare-push : {V : Type 0} (start mid : List (Valued V)) (i : ℕ) (y : Valued V) → i < length mid
    → length mid ≡ length start → y.supports.items ≢ [] → NoneBareBut i start → NoneEmptied start mid
    → NoneBare (set mid i y)
none_bare-push start mid i y l same some others kept k d m =
    let n = length-set mid i y in
    elim (get_or_set mid i k y d l) as (λ _. (get_or (set mid i y) k d).supports.items ≢ []) [
      | inl at ↦ subst (λ (z : Valued _). z.supports.items ≢ []) (sym at.1) some
      | inr stays ↦
          (λ none.
          let other : k ≢ i = λ e. some (ap (λ (z : Valued _). z.supports.items) (sym (get_or-set_at mid i k y d e l))
          ∙ none) in
          let short : k < length start = omega (arith, m, n, same) in
          others k d short other (kept k d short (ap (λ (z : Valued _). z.supports.items) (sym stays) ∙ none)))
    ]

pub none_bare-set : {V : Type 0} (xs : List (Valued V)) (i : ℕ) (y d : Valued V) → i < length xs
    → y.supports.items ≡ (get_or xs i d).supports.items → NoneBare xs → NoneBare (set xs i y)
none_bare-set xs i y d l same some k z m =
    elim (get_or_set xs i k y z l) as (λ _. (get_or (set xs i y) k z).supports.items ≢ []) [
      | inl at ↦
          (let here : y.supports.items ≢ [] = λ n. some i d l (sym same ∙ n) in
          subst (λ (w : Valued _). w.supports.items ≢ []) (sym at.1) here)
      | inr other ↦
          (let n = length-set xs i y in
          let short : k < length xs = omega (arith, m, n) in
          subst (λ (w : Valued _). w.supports.items ≢ []) (sym other) (some k z short))
    ]

-- ---- entries that pass a test

pub filter_length : {X : Type 0} (t : X → Bool) (xs : List X) → length (filter t xs) ≤ length xs
filter_length t [] = omega arith
filter_length {X} t (x ∷ xs) = by (t x) (filter_length t xs)
  where
    by : (b : Bool) → length (filter t xs) ≤ length xs
        → length (cond b (x ∷ filter t xs) (filter t xs)) ≤ length (x ∷ xs)
    by true ih = omega (arith, ih)
    by false ih = omega (arith, ih)

with_value-length : {V : Type 0} (v : V) (ss : List (List ℕ)) → length (with_value v ss) ≡ length ss
with_value-length v [] = refl
with_value-length v (s ∷ ss) = ap suc (with_value-length v ss)

-- one value more
pub filtered_more : {V : Type 0} (u : List ℕ → Bool) (xs : List (Valued V)) (i : ℕ) (x : Valued V) → i < length xs
    → x ≡ get_or xs i x →
    length (filter (λ e. u e.support) (entries_of (take (i + 1) xs))) ≡ length
    (filter (λ e. u e.support) (entries_of (take i xs))) + length (filter u x.supports.items)
filtered_more u xs i x l is =
    let front = entries_of (take i xs) in
    ap (λ es. length (filter (λ e. u e.support) es)) (entries_of-more xs i x l is)
    ∙ ap length (filter-append (λ e. u e.support) front (entries_of_one x)) ∙
    length-append (filter (λ e. u e.support) front) (filter (λ e. u e.support) (entries_of_one x)) ∙
    ap (λ n. length (filter (λ e. u e.support) front) + n)
    (ap length (filter_one u x.value x.supports.items) ∙ with_value-length x.value (filter u x.supports.items))

-- ---- one support less

remove_after : {X : Type 0} (front rest : List X) (k n : ℕ) → n ≡ length front + k
    → remove (front ++ rest) n ≡ front ++ remove rest k
remove_after [] rest k n e = let same : n ≡ k = omega (arith, e) in ap (remove rest) same
remove_after (x ∷ front) rest k zero e = absurd (omega (arith, e))
remove_after (x ∷ front) rest k (suc n) e = ap (λ es. x ∷ es) (remove_after front rest k n (omega (arith, e)))

remove_within : {X : Type 0} (one rear : List X) (k : ℕ) → k < length one
    → remove (one ++ rear) k ≡ remove one k ++ rear
remove_within [] rear k l = absurd (omega (arith, l))
remove_within (x ∷ one) rear zero l = refl
remove_within (x ∷ one) rear (suc k) l = ap (λ es. x ∷ es) (remove_within one rear k (omega (arith, l)))

remove_value : {V : Type 0} (v : V) (ss : List (List ℕ)) (k : ℕ)
    → remove (with_value v ss) k ≡ with_value v (remove ss k)
remove_value v [] zero = refl
remove_value v [] (suc k) = refl
remove_value v (s ∷ ss) zero = refl
remove_value v (s ∷ ss) (suc k) = ap (λ es. record { value = v; support = s } ∷ es) (remove_value v ss k)

pub removed_parts : {V : Type 0} (xs : List (Valued V)) (i place : ℕ) (x : Valued V) → i < length xs → x ≡ get_or xs i x
    → place < length x.supports.items →
    remove (entries_of xs) (place_of xs i place) ≡ entries_of
    (take i xs) ++ (with_value x.value (remove x.supports.items place) ++ entries_of (drop (suc i) xs))
removed_parts xs i place x l is m =
    let front = entries_of (take i xs) in
    let rear = entries_of (drop (suc i) xs) in
    let parts : entries_of xs ≡ front ++ (entries_of_one x ++ rear) = entries_of-parts xs i x l
    ∙ ap (λ y. front ++ (entries_of_one y ++ rear)) (sym is) in
    let n = with_value-length x.value x.supports.items in
    let short : place < length (with_value x.value x.supports.items) = omega (arith, n, m) in
    ap (λ es. remove es (place_of xs i place)) parts
    ∙ remove_after front (entries_of_one x ++ rear) place (place_of xs i place) refl ∙
    ap (λ es. front ++ es) (remove_within (entries_of_one x) rear place short
    ∙ ap (λ es. es ++ rear) (remove_value x.value x.supports.items place))

pub removed : {V : Type 0} (xs : List (Valued V)) (i place : ℕ) (x y : Valued V) → i < length xs → x ≡ get_or xs i x
    → place < length x.supports.items → y.value ≡ x.value → y.supports.items ≡ remove x.supports.items place →
    entries_of (set xs i y) ≡ remove (entries_of xs) (place_of xs i place)
removed xs i place x y l is m value supports =
    let one : entries_of_one y ≡ with_value x.value (remove x.supports.items place) =
    (λ j. with_value (value j) (supports j)) in
    entries_of-set xs i y l ∙ ap (λ es. entries_of (take i xs) ++ (es ++ entries_of (drop (suc i) xs))) one
    ∙ sym (removed_parts xs i place x l is m)

get_after : {X : Type 0} (front rest : List X) (k n : ℕ) → n ≡ length front + k
    → slice_get (front ++ rest) n ≡ slice_get rest k
get_after [] rest k n e = let same : n ≡ k = omega (arith, e) in ap (slice_get rest) same
get_after (x ∷ front) rest k zero e = absurd (omega (arith, e))
get_after (x ∷ front) rest k (suc n) e = get_after front rest k n (omega (arith, e))

get_within : {V : Type 0} (v : V) (ss : List (List ℕ)) (rear : List (Supported V)) (k : ℕ) (s : List ℕ) → k < length ss
    → s ≡ get_or ss k s → slice_get (with_value v ss ++ rear) k ≡ Some (record { value = v; support = s })
get_within v [] rear k s l is = absurd (omega (arith, l))
get_within v (t ∷ ss) rear zero s l is = (λ j. Some (record { value = v; support = sym is j }))
get_within v (t ∷ ss) rear (suc k) s l is = get_within v ss rear k s (omega (arith, l)) is

pub entry_at : {V : Type 0} (xs : List (Valued V)) (i place : ℕ) (x : Valued V) (s : List ℕ) → i < length xs
    → x ≡ get_or xs i x → place < length x.supports.items → s ≡ get_or x.supports.items place s →
    slice_get (entries_of xs) (place_of xs i place) ≡ Some (record { value = x.value; support = s })
entry_at xs i place x s l is m at =
    let front = entries_of (take i xs) in
    let rear = entries_of (drop (suc i) xs) in
    let parts : entries_of xs ≡ front ++ (entries_of_one x ++ rear) = entries_of-parts xs i x l
    ∙ ap (λ y. front ++ (entries_of_one y ++ rear)) (sym is) in
    ap (λ es. slice_get es (place_of xs i place)) parts
    ∙ get_after front (entries_of_one x ++ rear) place (place_of xs i place) refl
    ∙ get_within x.value x.supports.items rear place s m at

pub place_within : {V : Type 0} (xs : List (Valued V)) (i place : ℕ) (x : Valued V) → i < length xs → x ≡ get_or xs i x
    → place < length x.supports.items → place_of xs i place < length (entries_of xs)
place_within xs i place x l is m =
    let more = count_more xs i x l is in
    let all = entries_of-take xs (i + 1) in
    omega (arith, more, all, m)

-- the places of a value end where those of the next begin
pub place_next : {V : Type 0} (xs : List (Valued V)) (i place : ℕ) (x : Valued V) → i < length xs → x ≡ get_or xs i x
    → place ≡ length x.supports.items → place_of xs i place ≡ place_of xs (i + 1) 0
place_next xs i place x l is e = let more = count_more xs i x l is in omega (arith, more, e)

pub place_set : {V : Type 0} (xs : List (Valued V)) (i place : ℕ) (y : Valued V)
    → place_of (set xs i y) i place ≡ place_of xs i place
place_set xs i place y = ap (λ zs. length (entries_of zs) + place) (take-set xs i y)

any_both : {X : Type 0} (u : X → Bool) (xs ys : List X) → list_any u (xs ++ ys) ≡ (list_any u xs || list_any u ys)
any_both u [] ys = refl
any_both {X} u (x ∷ xs) ys = by (u x) (any_both u xs ys)
  where
    by : (b : Bool) → list_any u (xs ++ ys) ≡ (list_any u xs || list_any u ys)
        → (b || list_any u (xs ++ ys)) ≡ ((b || list_any u xs) || list_any u ys)
    by true ih = refl
    by false ih = ih

pub length_values : {V : Type 0} (xs ys : List (Valued V)) → values_of xs ≡ values_of ys → length xs ≡ length ys
length_values xs ys h = sym (length_map xs) ∙ ap length h ∙ length_map ys
  where
    length_map : {V : Type 0} (zs : List (Valued V)) → length (values_of zs) ≡ length zs
    length_map [] = refl
    length_map (z ∷ zs) = ap suc (length_map zs)

module _ {V : Type 0} {below : V → V → Type 0} {bottom top : V} {join : V → V → V}
    (laws : IsInformationOrder below bottom top join) where
  join_between : (a b v : V) → join (join a b) v ≡ join a (join v b)
  join_between a b v =
      let left = join (join a b) v in
      let right = join a (join v b) in
      let a_left = laws.transitive a (join a b) left (first_below laws a b) (first_below laws (join a b) v) in
      let b_left = laws.transitive b (join a b) left (second_below laws a b) (first_below laws (join a b) v) in
      let v_left = second_below laws (join a b) v in
      let a_right = first_below laws a (join v b) in
      let v_right = laws.transitive v (join v b) right (first_below laws v b) (second_below laws a (join v b)) in
      let b_right = laws.transitive b (join v b) right (second_below laws v b) (second_below laws a (join v b)) in
      laws.antisymmetric left right (join_below laws (join a b) v right (join_below laws a b right a_right b_right)
      v_right) (join_below laws a (join v b) left a_left (join_below laws v b left v_left b_left))

  -- what is said without one support of a value
  pub said_without : (w : Members) (xs : List (Valued V)) (i place : ℕ) (x : Valued V) (b : Bool) → i < length xs
      → x ≡ get_or xs i x → place < length x.supports.items →
      (list_any (is_within w) (take place x.supports.items) || list_any (is_within w)
      (drop (suc place) x.supports.items)) ≡ b →
      belief_of bottom join w (remove (entries_of xs) (place_of xs i place)) ≡
      (if b then join (join (belief_of bottom join w (entries_of (take i xs)))
      (belief_of bottom join w (entries_of (drop (suc i) xs)))) x.value
      else join (belief_of bottom join w (entries_of (take i xs)))
      (belief_of bottom join w (entries_of (drop (suc i) xs))))
  said_without w xs i place x b l is m others =
      let front = entries_of (take i xs) in
      let rear = entries_of (drop (suc i) xs) in
      let ss = x.supports.items in
      let some : list_any (is_within w) (remove ss place) ≡ b =
      any_both (is_within w) (take place ss) (drop (suc place) ss) ∙ others in
      ap (belief_of bottom join w) (removed_parts xs i place x l is m)
      ∙ said_both laws (is_within w) front (with_value x.value (remove ss place) ++ rear) ∙
      ap (λ y. join (belief_of bottom join w front) y)
      (said_both laws (is_within w) (with_value x.value (remove ss place)) rear ∙
      ap (λ y. join y (belief_of bottom join w rear))
      (said_one laws (is_within w) x.value (remove ss place) ∙ ap (λ c. if c then x.value else bottom) some)) ∙
      by (belief_of bottom join w front) (belief_of bottom join w rear) b
    where
      by : (f r : V) (c : Bool) → join f
          (join (if c then x.value else bottom) r) ≡ (if c then join (join f r) x.value else join f r)
      by f r true = sym (join_between f r x.value)
      by f r false = ap (λ y. join f y) (bottom-join laws r)

pub or_first : (a b : Bool) → a ≡ true → (a || b) ≡ true
or_first true b h = refl
or_first false b h = cc

pub or_second : (a b c : Bool) → a ≡ false → b ≡ c → (a || b) ≡ c
or_second true b c h k = cc
or_second false b c h k = k

pub place_end : {V : Type 0} (xs : List (Valued V)) (i : ℕ) → length xs ≤ i → length (entries_of xs) ≤ place_of xs i 0
place_end [] i le = omega arith
place_end (x ∷ xs) zero le = absurd (omega (arith, le))
place_end (x ∷ xs) (suc i) le =
    let rest = place_end xs i (omega (arith, le)) in
    let all = length-append (entries_of_one x) (entries_of xs) in
    let front = length-append (entries_of_one x) (entries_of (take i xs)) in
    omega (arith, rest, all, front)

-- ---- one support more

pub entries_of-grown : {V : Type 0} (xs : List (Valued V)) (i : ℕ) (x y : Valued V) (s : List ℕ) → i < length xs
    → x ≡ get_or xs i x → y.value ≡ x.value → y.supports.items ≡ x.supports.items ++ s ∷ [] →
    (front : List (Supported V)) × (rear : List (Supported V)) × (entries_of xs ≡ front ++ rear)
    × (entries_of (set xs i y) ≡ front ++ record { value = x.value; support = s } ∷ rear)
entries_of-grown xs i x y s l is value supports =
    let v = x.value in
    let ss = x.supports.items in
    let a = entries_of (take i xs) in
    let c = entries_of (drop (suc i) xs) in
    let before : entries_of xs ≡ a ++ (with_value v ss ++ c) = entries_of-parts xs i x l
    ∙ ap (λ z. a ++ (entries_of_one z ++ c)) (sym is) in
    let one : entries_of_one y ≡ with_value v (ss ++ s ∷ []) = (λ j. with_value (value j) (supports j)) in
    let longer : with_value v (ss ++ s ∷ []) ++ c ≡ with_value v ss ++ record { value = v; support = s } ∷ c =
    ap (λ es. es ++ c) (map-append (λ t. record { value = v; support = t }) ss (s ∷ []))
    ∙ append_assoc (with_value v ss) (record { value = v; support = s } ∷ []) c in (
      a ++ with_value v ss,
      c,
      before ∙ sym (append_assoc a (with_value v ss) c),
      entries_of-set xs i y l ∙ ap (λ es. a ++ (es ++ c)) one ∙ ap (λ es. a ++ es) longer
          ∙ sym (append_assoc a (with_value v ss) (record { value = v; support = s } ∷ c)),
    )

-- what stands where a whole list was written
pub written : {X : Type 0} (n : ℕ) (ys zs : List X) → n ≡ length ys → take n (ys ++ zs) ≡ ys
written zero [] zs e = refl
written zero (y ∷ ys) zs e = absurd (omega (arith, e))
written (suc n) [] zs e = absurd (omega (arith, e))
written (suc n) (y ∷ ys) zs e = ap (λ xs. y ∷ xs) (written n ys zs (omega (arith, e)))

pub written_values : {V : Type 0} (n : ℕ) (old new : List (Valued V)) → n ≡ length old → values_of new ≡ values_of old
    → take n (new ++ drop (length new) old) ≡ new
written_values n old new e same = let l =
    length_values new old same in written n new (drop (length new) old) (omega (arith, e, l))

-- the value at a place, where the values stayed
pub value_at : {V : Type 0} (xs ys : List (Valued V)) (i : ℕ) (d : Valued V) → values_of xs ≡ values_of ys
    → (get_or xs i d).value ≡ (get_or ys i d).value
value_at {V} xs ys i d h = sym (get_or-map (λ (x : Valued V). x.value) xs i d) ∙ ap (λ vs. get_or vs i d.value) h
    ∙ get_or-map (λ (x : Valued V). x.value) ys i d

-- there is room at a place that was made room at
pub has_room : {V : Type 0} (start mid : List (Valued V)) (i : ℕ) (x : Valued V) → i < length start → x ≡ get_or mid i x
    → HasRoomFor (get_or start i x).supports 1 →
    HasRoomOf (get_or mid i x) (get_or start i x) → HasRoomFor x.supports 1
has_room start mid i x l is room kept =
    let capacity = ap (λ (z : Valued _). z.supports.capacity) is in
    let len = ap (λ (z : Valued _). length z.supports.items) is in
    omega (arith, capacity, len, kept.0, kept.1, room)

-- an entry joins those that are left
pub grown_all : {V : Type 0} (D : Supported V → Type 0) (old final : List (Supported V)) (m : Supported V)
    (start mid : List (Valued V)) (i : ℕ) (x y : Valued V) → entries_of start ≡ old → i < length start →
    (get_or start i x).value ≡ m.value → IsLeftWithout D (entries_of start) (entries_of mid)
    → values_of mid ≡ values_of start → x ≡ get_or mid i x → y.value ≡ x.value →
    y.supports.items ≡ x.supports.items ++ m.support ∷ [] → final ≡ entries_of (set mid i y) →
    (front : List (Supported V)) × (rear : List (Supported V)) × IsLeftWithout D old (front ++ rear)
    × (final ≡ front ++ m ∷ rear)
grown_all D old final m start mid i x y from l there left values is value supports end =
    let n = length_values mid start values in
    let short : i < length mid = omega (arith, l, n) in
    let grown = entries_of-grown mid i x y m.support short is value supports in
    let its : x.value ≡ m.value = ap (λ (z : Valued _). z.value) is ∙ value_at mid start i x values ∙ there in
    let kept = subst (λ (es : List (Supported _)). IsLeftWithout D es (entries_of mid)) from left in (
      grown.0,
      grown.1,
      subst (IsLeftWithout D old) grown.2 kept,
      end ∙ grown.3
          ∙ (λ j. grown.0 ++ record { value = its j; support = m.support } ∷ grown.1),
    )
