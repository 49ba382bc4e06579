-- A stand stays one as a choice is declared, and as the last one goes.
use Rattle.std.proofs.Common.{◌≡◌, ◌∙◌, ℕ, suc, ◌+◌, ◌-◌, ◌<◌, ◌≤◌, min, Bool, true, false, cond, ◌||◌, ◌&&◌, ◌==◌}
use Rattle.std.proofs.Common.{nat_lt, IsTrue, List, [], ◌∷◌, ◌++◌, length, take, filter, refl, sym, ap, arith, inl, inr}
use Rattle.std.proofs.Common.{◌⊎◌, length-append}
use Rattle.std.specs.List.{AllZip, AllByRecursion}
use Rattle.std.proofs.lemmas.Bool.{or_cases, and_parts, and_left, ltb-true, lt-leb, eqb-true}
use Rattle.std.proofs.lemmas.Bool.Decides.{leb_tells}
use Rattle.std.proofs.Math.Nat.{min-le_left, min-le_right, le-min}
use Rattle.std.proofs.lemmas.List.{length-take, take_all, take-append-le}
use Rattle.prop_refusals.specs.Refusals.{most}
use Rattle.prop_refusals.specs.declared.refusal.Limit.TheVariants.{Premises}
use Rattle.prop_numbers.specs.Sets.{IsBelow, set_of}
use Rattle.prop_premises.specs.declared.choice.Choice.{Choice}
use Rattle.prop_premises.specs.ChoiceLists.{hypothetical, IsSide, hypotheticals_of, is_hypothetical}
use Rattle.prop_premises.specs.inner.ChoiceLists.{is_side_of}
use Rattle.prop_premises.specs.ChoiceLists.{AreInOrder, AreOfSides}
use Rattle.prop_premises.specs.Origins.{Origin, User, Side, is_start, with_choice, choices_from, choices_of}
use Rattle.prop_premises.proofs.ChoiceLemmas.{choices_of-with_choice, choices_of-take}
use Rattle.prop_premises.proofs.ChangeLemmas.{believed_in-with_choice, length-with_choice, take-with_choice}
use Rattle.prop_premises.proofs.EntryLemmas.{take-front}
use Rattle.prop_numbers.proofs.FlagLemmas.{filter-below}
use Rattle.prop_premises.proofs.NumberingLaws.{numbered_choice}
use Rattle.prop_premises.proofs.OriginLemmas.{in_range, is_user_at-believed}
use Rattle.prop_premises.proofs.WorldviewLemmas.{hypotheticals_of-push}
use Rattle.prop_cells.specs.Problems.{Problem}
use Rattle.prop_amb.specs.Search.{Stand, IsStand, IsSearch, users_of, choices_in}
use Rattle.prop_amb.specs.Moving.{declared, IsFresh}
use Rattle.prop_amb.proofs.SearchLaws.{both, taken_is_side}
use Rattle.prop_amb.proofs.DeclaringLaws.{before_last, search_declared}
use Rattle.prop_amb.proofs.LevelLaws.{fewer_taken, more_choices}
use Rattle.prop_amb.proofs.ZipLemmas.{zip_length}
use Rattle.prop_amb.proofs.NamingLaws.{believes_below, known_below, lt_true, lt_false, user_taken}

-- ---- what stands before the last choice

first_below : (cs : List Choice) (c : Choice) (p : ℕ) → AreInOrder (cs ++ c ∷ []) → IsTrue (is_hypothetical cs p)
    → p < c.first
first_below [] c p order h = absurd (both h refl)
first_below (d ∷ cs) c p order h = elim (or_cases (is_side_of d p) (is_hypothetical cs p) h) [
  | inl e ↦ omega (arith, ltb-true p (d.first + d.sides) (and_parts _ _ e).1, before_last d c cs order.0)
  | inr e ↦ first_below cs c p order.1 e
]

-- what is believed has a smaller number than the sides of a new choice
pub below_choice : (s : Stand) (c : Choice) → IsStand s → AreInOrder (choices_in s ++ c ∷ [])
    → c.first ≡ length s.premises → IsBelow c.first (set_of s.worldview)
below_choice s c stand order e p h =
    elim (or_cases (users_of s p) (hypotheticals_of (choices_in s) (take s.level s.list) p)
    (sym (stand.believes p) ∙ h)) [
      | inl b ↦ omega (arith, in_range s.premises p (is_user_at-believed s.premises p b), e)
      | inr t ↦ first_below (choices_in s) c p order
          (taken_is_side (choices_in s) s.list p stand.is_list (fewer_taken (choices_in s) s.list s.level p t))
    ]

all_front : {A : Type 0} (P : A → Type 0) (xs : List A) (x : A) → AllByRecursion P (xs ++ x ∷ []) → AllByRecursion P xs
all_front P [] x h = tt
all_front P (y ∷ xs) x h = (h.0, all_front P xs x h.1)

pub all_last : {A : Type 0} (P : A → Type 0) (xs : List A) (x : A) → AllByRecursion P (xs ++ x ∷ []) → P x
all_last P [] x h = h.0
all_last P (y ∷ xs) x h = all_last P xs x h.1

-- ---- a new choice

zip_push : {A B : Type 0} (R : A → B → Type 0) (xs : List A) (ys : List B) (x : A) (y : B) → AllZip R xs ys → R x y
    → AllZip R (xs ++ x ∷ []) (ys ++ y ∷ [])
zip_push R [] [] x y h r = (r, tt)
zip_push R [] (b ∷ ys) x y h r = absurd h
zip_push R (a ∷ xs) [] x y h r = absurd h
zip_push R (a ∷ xs) (b ∷ ys) x y h r = (h.0, zip_push R xs ys x y h.1 r)

pub stand_declared : (s : Stand) (name : List ℕ) (sides : ℕ) → IsStand s → 2 ≤ sides → sides ≤ 8
    → length s.premises + sides ≤ most Premises → IsStand (declared s name sides)
stand_declared s name sides stand low high room =
    let some : 1 ≤ sides = omega (arith, low) in
    let own : Choice = record { first = length s.premises; sides = sides } in
    let same : choices_of (with_choice s.premises name sides) ≡ choices_in s ++ own ∷ [] =
    choices_of-with_choice s.premises name sides some in
    record {
      numbered = numbered_choice s.premises name sides low high stand.numbered;
      few = omega (arith, room, length-with_choice s.premises name sides);
      is_list = rw same (zip_push IsSide (choices_in s) s.list own 1 stand.is_list (omega arith, some));
      reasoned = zip_push (λ side reasons. length reasons + 1 ≡ side) s.list s.reasons 1 [] stand.reasoned refl;
      level = (let within = stand.level in omega (arith, within, length-append s.list (1 ∷ [])));
      believes = λ p.
          stand.believes p ∙ sym (ap (λ b. users_of s p || b)
          (more_choices (choices_in s) (own ∷ []) (take s.level s.list) p (few stand)))
          ∙ sym (ap (λ l. users_of s p || hypotheticals_of (choices_in s ++ own ∷ []) l p)
          (take-append-le s.level s.list (1 ∷ []) stand.level))
          ∙ sym (ap (λ cs. users_of s p || hypotheticals_of cs (take s.level (s.list ++ 1 ∷ [])) p) same)
          ∙ sym (ap (λ b. b || hypotheticals_of (choices_of (with_choice s.premises name sides))
          (take s.level (s.list ++ 1 ∷ [])) p) (believed_in-with_choice s.premises name sides p));
      minimal = stand.minimal;
    }
  where
    few : IsStand s → length (take s.level s.list) ≤ length (choices_in s)
    few here = omega (arith, length-take s.level s.list, zip_length IsSide (choices_in s) s.list here.is_list)

pub search_stays : (problem : Problem) (s : Stand) (name : List ℕ) (sides : ℕ) (c : Choice) → IsStand s → 2 ≤ sides
    → sides ≤ 8 → c ≡ record { first = length s.premises; sides = sides } →
    IsFresh problem c → IsSearch problem s → IsSearch problem (declared s name sides)
search_stays problem s name sides c stand low high is fresh h =
    search_declared problem s (with_choice s.premises name sides) own s.worldview stand same
    (believed_in-with_choice s.premises name sides)
    (rw same at (numbered_choice s.premises name sides low high stand.numbered).in_order) apart some
    (rw is at fresh) h
  where
    some : 1 ≤ sides
    some = omega (arith, low)

    own : Choice
    own = record { first = length s.premises; sides = sides }

    same : choices_of (with_choice s.premises name sides) ≡ choices_in s ++ own ∷ []
    same = choices_of-with_choice s.premises name sides some

    apart : (p : ℕ) → IsTrue (users_of s p) → is_side_of own p ≡ false
    apart p b = and_left _ _ (lt-leb (length s.premises) p (in_range s.premises p (is_user_at-believed s.premises p b)))

-- ---- the last choice goes

-- where a choice begins, a name starts
record Starts (n : ℕ) (os : List Origin) (c : Choice) : Type 0 where
  k : ℕ
  at : c.first ≡ n + k
  starts : IsTrue (is_start os k)

none_last : {A : Type 0} (xs : List A) (x : A) → [] ≡ xs ++ x ∷ [] → ⊥
none_last [] x e = absurd (cc)
none_last (y ∷ xs) x e = absurd (cc)

later : (n m : ℕ) (o : Origin) (os : List Origin) (c : Choice) → m ≡ n + 1 → Starts m os c → Starts n (o ∷ os) c
later n m o os c e s = record { k = suc s.k; at = omega (arith, s.at, e); starts = s.starts }

choice_starts : (n : ℕ) (os : List Origin) (earlier : List Choice) (c : Choice) → choices_from n os ≡ earlier ++ c ∷ []
    → Starts n os c
choice_starts n [] earlier c e = absurd (none_last earlier c e)
choice_starts n (User name believed ∷ os) earlier c e =
    later n (suc n) (User name believed) os c (omega arith) (choice_starts (suc n) os earlier c e)
choice_starts n (Side name side sides ∷ os) earlier c e =
    by (side == 1) refl (λ cs f. choice_starts (suc n) os cs c f) earlier e
  where
    own : Choice
    own = record { first = n; sides = sides }

    by : (b : Bool) → (side == 1) ≡ b → ((cs : List Choice) → choices_from (suc n) os ≡ cs ++ c ∷ []
        → Starts (suc n) os c) → (earlier : List Choice)
        → cond b (own ∷ choices_from (suc n) os) (choices_from (suc n) os) ≡ earlier ++ c ∷ []
        → Starts n (Side name side sides ∷ os) c
    by true t rest [] e =
        let is : own ≡ c = cc in
        record { k = 0; at = ap (λ d. d.first) (sym is) ∙ omega arith; starts = t }
    by true t rest (d ∷ earlier) e =
        let others : choices_from (suc n) os ≡ earlier ++ c ∷ [] = cc in
        later n (suc n) (Side name side sides) os c (omega arith) (rest earlier others)
    by false t rest earlier e = later n (suc n) (Side name side sides) os c (omega arith) (rest earlier e)

pub last_choice_starts : (os : List Origin) (earlier : List Choice) (c : Choice) → choices_of os ≡ earlier ++ c ∷ []
    → IsTrue (is_start os c.first)
last_choice_starts os earlier c e =
    let s : Starts 0 os c = choice_starts 0 os earlier c e in
    let same : c.first ≡ s.k = omega (arith, s.at) in
    rw same s.starts

filter_earlier : (es : List Choice) (c : Choice) → AreInOrder (es ++ c ∷ []) → AreOfSides (es ++ c ∷ [])
    → filter (λ d. nat_lt d.first c.first) (es ++ c ∷ []) ≡ es
filter_earlier [] c order sides = rw (lt_false c.first c.first (omega arith)) refl
filter_earlier (d ∷ es) c order sides =
    rw (lt_true d.first c.first (omega (arith, before_last d c es order.0, sides.0.0)))
    (ap (λ l. d ∷ l) (filter_earlier es c order.1 sides.1))

-- a list beside one that ends in an item ends in an item
record Split {A B : Type 0} (R : A → B → Type 0) (es : List A) (zs : List B) : Type 0 where
  front : List B
  last : B
  whole : zs ≡ front ++ last ∷ []
  zip : AllZip R es front

split_last : {A B : Type 0} (R : A → B → Type 0) (es : List A) (c : A) (zs : List B) → AllZip R (es ++ c ∷ []) zs
    → Split R es zs
split_last R [] c [] h = absurd h
split_last R [] c (z ∷ []) h = record { front = []; last = z; whole = refl; zip = tt }
split_last R [] c (z ∷ (y ∷ zs)) h = absurd h.1
split_last R (e ∷ es) c [] h = absurd h
split_last R (e ∷ es) c (z ∷ zs) h =
    let s : Split R es zs = split_last R es c zs h.1 in
    record { front = z ∷ s.front; last = s.last; whole = ap (λ l. z ∷ l) s.whole; zip = (h.0, s.zip) }

take_front : {A : Type 0} (xs : List A) (x : A) (n : ℕ) → n ≡ length (xs ++ x ∷ []) → take (n - 1) (xs ++ x ∷ []) ≡ xs
take_front xs x n e = take-front xs (x ∷ []) (n - 1) (omega (arith, e, length-append xs (x ∷ [])))

order_front : (es : List Choice) (c : Choice) → AreInOrder (es ++ c ∷ []) → AreInOrder es
order_front [] c order = tt
order_front (d ∷ es) c order = (
  all_front (λ later. d.first + d.sides ≤ later.first) es c order.0,
  order_front es c order.1,
)

-- what is no side of all choices is none of those before the last
front_apart : (es : List Choice) (c : Choice) (p : ℕ) → is_hypothetical (es ++ c ∷ []) p ≡ false
    → is_hypothetical es p ≡ false
front_apart [] c p h = refl
front_apart (d ∷ es) c p h = by (is_side_of d p) h (λ e. front_apart es c p e)
  where
    by : (b : Bool) → (b || is_hypothetical (es ++ c ∷ []) p) ≡ false
        → (is_hypothetical (es ++ c ∷ []) p ≡ false → is_hypothetical es p ≡ false)
        → (b || is_hypothetical es p) ≡ false
    by true e rest = cc
    by false e rest = rest e

known_or : (a lt e : Bool) → (a ≡ true → lt ≡ true) → (e ≡ true → lt ≡ false) → a ≡ (lt && (a || e))
known_or true lt e f g = sym (rw (f refl) refl)
known_or false lt true f g = sym (rw (g refl) refl)
known_or false true false f g = refl
known_or false false false f g = refl

-- the level stays, or is that of all choices that are left
abbrev pub IsLevelLeft : Stand → List ℕ → ℕ → Type 0
IsLevelLeft s list level = ((s.level ≤ length list) × (level ≡ s.level))
    ⊎ ((length list < s.level) × (level ≡ length list))

pub level_left : (s : Stand) (list : List ℕ) (level : ℕ) → level ≡ min s.level (length list) → IsLevelLeft s list level
level_left s list level is = elim (leb_tells s.level (length list)) as (λ _. IsLevelLeft s list level) [
  | inl h ↦ inl (
    h.1,
    (let few = min-le_left s.level (length list)
        in let all = le-min {k = s.level} {a = s.level} {b = length list} (omega arith) h.1 in omega
        (arith, is, few, all)),
  )
  | inr h ↦ inr (
    (let past = h.1 in omega (arith, past)),
    (let few = min-le_right s.level (length list) in let past = h.1
        in let all = le-min {k = length list} {a = s.level} {b = length list} (omega (arith, past))
        (omega arith) in omega
        (arith, is, few, all)),
  )
]

pub stand_undeclared : (s : Stand) (c : Choice) (es : List Choice) (list : List ℕ) (level : ℕ)
    (reasons : List (List (List ℕ))) (n m : ℕ) → IsStand s → IsLevelLeft s list level → choices_in s ≡ es ++ c ∷ []
    → c.first ≤ length s.premises →
    list ≡ take (n - 1) s.list → n ≡ length s.list → reasons ≡ take (m - 1) s.reasons → m ≡ length s.reasons →
    IsStand (record {
      premises = take c.first s.premises;
      list = list;
      level = level;
      reasons = reasons;
      listed = s.listed;
      worldview = filter (λ p. nat_lt p c.first) s.worldview;
    })
stand_undeclared s c es list level reasons n m stand left same first l ln r rm = record {
  numbered = record {
    in_order = rw now (order_front es c order);
    of_sides = rw now (all_front (λ (d : Choice). (2 ≤ d.sides) × (d.sides ≤ 8)) es c
        (rw same at stand.numbered.of_sides));
    below = λ p h. let b = first_below es c p order (rw now at h) in omega (arith, b, taken);
    users = λ p u. rw now (front_apart es c p
        (rw same at (stand.numbered.users p (user_taken s.premises c.first p u))));
  };
  few = (let f = stand.few in omega (arith, f, taken, first));
  is_list = rw (now, list_is) a.zip;
  reasoned = rw (list_is, reasons_is) b.zip;
  level = elim left [ inl h ↦ omega (arith, h.0, h.1) | inr h ↦ omega (arith, h.1) ];
  believes = rw (now, list_is) (believes_below s.premises c.first s.worldview
      (hypotheticals_of (choices_in s) (take s.level s.list)) (hypotheticals_of es (take level a.front)) stand.believes
      (cut_at left));
  minimal = stand.minimal;
}
  where
    taken : length (take c.first s.premises) ≡ c.first
    taken = length-take c.first s.premises ∙ omega (arith, first)

    order : AreInOrder (es ++ c ∷ [])
    order = rw same at stand.numbered.in_order

    now : choices_of (take c.first s.premises) ≡ es
    now = choices_of-take s.premises c.first ∙ ap (filter (λ d. nat_lt d.first c.first)) same
        ∙ filter_earlier es c order (rw same at stand.numbered.of_sides)

    a : Split IsSide es s.list
    a = split_last IsSide es c s.list (rw same at stand.is_list)

    b : Split (λ side reasons. length reasons + 1 ≡ side) a.front s.reasons
    b = split_last (λ side reasons. length reasons + 1 ≡ side) a.front a.last s.reasons (rw a.whole at stand.reasoned)

    list_is : list ≡ a.front
    list_is = l ∙ ap (take (n - 1)) a.whole ∙ take_front a.front a.last n (ln ∙ ap length a.whole)

    reasons_is : reasons ≡ b.front
    reasons_is = r ∙ ap (take (m - 1)) b.whole ∙ take_front b.front b.last m (rm ∙ ap length b.whole)

    over : (q : ℕ) → (hypothetical c a.last == q) ≡ true → nat_lt q c.first ≡ false
    over q t = lt_false q c.first (omega (arith, eqb-true (hypothetical c a.last) q t))

    -- all choices that are left are believed
    cut : (q : ℕ) → hypotheticals_of es a.front q ≡ (nat_lt q c.first && hypotheticals_of (choices_in s) s.list q)
    cut q =
        known_or (hypotheticals_of es a.front q) (nat_lt q c.first) (hypothetical c a.last == q)
        (λ t. lt_true q c.first (first_below es c q order (taken_is_side es a.front q a.zip t))) (over q)
        ∙ ap (λ h. nat_lt q c.first && h) (sym (hypotheticals_of-push es a.front c a.last q a.zip)
        ∙ sym (ap (λ z. hypotheticals_of (es ++ c ∷ []) z q) a.whole)
        ∙ sym (ap (λ cs. hypotheticals_of cs s.list q) same))

    -- some of them are
    cut_first : s.level ≤ length a.front → (q : ℕ)
        → hypotheticals_of es (take s.level a.front)
        q ≡ (nat_lt q c.first && hypotheticals_of (choices_in s) (take s.level s.list) q)
    cut_first within q =
        let few : length (take s.level a.front) ≤ length es =
        omega (arith, length-take s.level a.front, zip_length IsSide es a.front a.zip) in
        let firsts : take s.level s.list ≡ take s.level a.front = ap (take s.level) a.whole
        ∙ take-append-le s.level a.front (a.last ∷ []) within in
        known_below (nat_lt q c.first) (hypotheticals_of es (take s.level a.front) q)
        (λ t. lt_true q c.first (first_below es c q order
        (taken_is_side es a.front q a.zip (fewer_taken es a.front s.level q t))))
        ∙ ap (λ h. nat_lt q c.first && h) (sym (more_choices es (c ∷ []) (take s.level a.front) q few)
        ∙ sym (ap (λ l. hypotheticals_of (es ++ c ∷ []) l q) firsts)
        ∙ sym (ap (λ cs. hypotheticals_of cs (take s.level s.list) q) same))

    cut_at : IsLevelLeft s list level → (q : ℕ)
        → hypotheticals_of es (take level a.front)
        q ≡ (nat_lt q c.first && hypotheticals_of (choices_in s) (take s.level s.list) q)
    cut_at (inl h) q =
        let within : s.level ≤ length a.front = omega (arith, h.0, ap length list_is) in
        ap (λ k. hypotheticals_of es (take k a.front) q) h.1 ∙ cut_first within q
    cut_at (inr h) q =
        let whole : take level a.front ≡ a.front = take_all level a.front (omega (arith, h.1, ap length list_is)) in
        let all : take s.level s.list ≡ s.list =
        take_all s.level s.list (omega (
          arith,
          h.0,
          ap length list_is,
          ap length a.whole,
          length-append a.front (a.last ∷ []),
        )) in
        ap (λ l. hypotheticals_of es l q) whole ∙ cut q
        ∙ ap (λ l. nat_lt q c.first && hypotheticals_of (choices_in s) l q) (sym all)

-- what was just declared goes, and all is as it was
pub undeclared_undoes : (s : Stand) (c : Choice) (es : List Choice) (list : List ℕ) (level : ℕ)
    (reasons : List (List (List ℕ))) (n m : ℕ) (before : Stand) (name : List ℕ) → IsStand s → IsLevelLeft s list level
    → choices_in s ≡ es ++ c ∷ [] →
    c.first + c.sides ≡ length s.premises → list ≡ take (n - 1) s.list → n ≡ length s.list
    → reasons ≡ take (m - 1) s.reasons → m ≡ length s.reasons → IsStand before → s ≡ declared before name c.sides →
    record {
      premises = take c.first s.premises;
      list = list;
      level = level;
      reasons = reasons;
      listed = s.listed;
      worldview = filter (λ p. nat_lt p c.first) s.worldview;
    } ≡ before
undeclared_undoes s c es list level reasons n m before name now_is left same end l ln r rm stand e =
    ap (λ x. put (take c.first x.premises) list level reasons x.listed (filter (λ p. nat_lt p c.first) x.worldview)) e
    ∙ ap (λ os. put os list level reasons before.listed cut_worldview)
    (take-with_choice before.premises name c.sides c.first count)
    ∙ ap (λ x. put before.premises x level reasons before.listed cut_worldview) list_is
    ∙ ap (λ x. put before.premises before.list x reasons before.listed cut_worldview) (level_is left)
    ∙ ap (λ x. put before.premises before.list before.level x before.listed cut_worldview)
    (r ∙ ap (λ x. take (m - 1) x.reasons) e ∙ take_front before.reasons [] m (rm ∙ ap (λ x. length x.reasons) e))
    ∙ ap (λ w. put before.premises before.list before.level before.reasons before.listed w)
    (filter-below c.first before.worldview (below_choice before c stand order count))
  where
    put : List Origin → List ℕ → ℕ → List (List (List ℕ)) → List (List ℕ) → List ℕ → Stand
    put a b k c d e = record { premises = a; list = b; level = k; reasons = c; listed = d; worldview = e }

    cut_worldview : List ℕ
    cut_worldview = filter (λ p. nat_lt p c.first) before.worldview

    list_is : list ≡ before.list
    list_is = l ∙ ap (λ x. take (n - 1) x.list) e ∙ take_front before.list 1 n (ln ∙ ap (λ x. length x.list) e)

    level_is : IsLevelLeft s list level → level ≡ before.level
    level_is (inl h) = h.1 ∙ ap (λ x. x.level) e
    level_is (inr h) = absurd (let past = h.0 in omega
        (arith, past, ap length list_is, ap (λ x. x.level) e, stand.level))

    count : c.first ≡ length before.premises
    count = omega (arith, end, ap (λ x. length x.premises) e, length-with_choice before.premises name c.sides)

    sides : (2 ≤ c.sides) × (c.sides ≤ 8)
    sides = all_last (λ d. (2 ≤ d.sides) × (d.sides ≤ 8)) es c (rw same at now_is.numbered.of_sides)

    choices : choices_in s ≡ choices_in before ++ c ∷ []
    choices =
        ap (λ x. choices_of x.premises) e ∙ choices_of-with_choice before.premises name c.sides (omega (arith, sides.0))
        ∙ ap (λ k. choices_in before ++ record { first = k; sides = c.sides } ∷ []) (sym count)

    order : AreInOrder (choices_in before ++ c ∷ [])
    order = rw choices at now_is.numbered.in_order
