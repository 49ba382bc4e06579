-- A stand stays one as a name is taken up and taken back.
use Rattle.std.proofs.Common.{◌≡◌, ◌∙◌, ℕ, zero, suc, ◌+◌, ◌<◌, ◌≤◌, Bool, true, false, cond, ◌||◌, ◌&&◌, ◌==◌, nat_lt}
use Rattle.std.proofs.Common.{IsTrue, List, [], ◌∷◌, ◌++◌, length, take, filter, None, is_some}
use Rattle.std.proofs.Common.{refl, sym, ap, arith, inl, inr, length-append, append-nil}
use Rattle.std.proofs.lemmas.Bool.{cases_eq, or_cases}
use Rattle.std.proofs.lemmas.Bool.Decides.{nat_tests, eqb_tells}
use Rattle.std.proofs.lemmas.List.{length-take}
use Rattle.std.proofs.lemmas.List.Folds.{list_any-append}
use Rattle.std.proofs.lemmas.List.Elements.{filter-append}
use Rattle.std.proofs.lemmas.Map.Views.{any-filter_same}
use Rattle.prop_refusals.specs.Refusals.{most}
use Rattle.prop_refusals.specs.declared.refusal.Limit.TheVariants.{Premises}
use Rattle.prop_numbers.specs.Sets.{Members, IsSame, IsBelow, set_of, union}
use Rattle.prop_premises.specs.ChoiceLists.{hypotheticals_of, is_hypothetical}
use Rattle.prop_premises.specs.Origins.{Origin, User, Side, is_user_at, is_start, believed_in}
use Rattle.prop_premises.specs.inner.Origins.{is_believed}
use Rattle.prop_premises.specs.Origins.{premise_number, with_name, choices_from, choices_of, IsNumbered}
use Rattle.prop_premises.proofs.ChoiceLemmas.{choices_of-user}
use Rattle.prop_premises.proofs.ChangeLemmas.{believed_in-with_name}
use Rattle.prop_premises.proofs.EntryLemmas.{take-front}
use Rattle.prop_numbers.proofs.FlagLemmas.{filter-below}
use Rattle.prop_premises.proofs.NumberingLaws.{numbered_user}
use Rattle.prop_premises.proofs.OriginLemmas.{in_range, is_user_at-believed, is_user_at-push}
use Rattle.prop_amb.specs.Search.{Stand, IsStand, users_of, choices_in}
use Rattle.prop_amb.specs.Moving.{interned}
use Rattle.prop_amb.proofs.LevelLaws.{fewer_taken}
use Rattle.prop_amb.proofs.SearchLaws.{both, taken_is_side}

-- ---- sets with one more number, and without those from a bound on

or_none : (b : Bool) → (b || false) ≡ b
or_none true = refl
or_none false = refl

pub set_of-push : (w : List ℕ) (n p : ℕ) → set_of (w ++ n ∷ []) p ≡ (set_of w p || (n == p))
set_of-push w n p = list_any-append (λ q. q == p) w (n ∷ []) ∙ ap (λ b. set_of w p || b) (or_none (n == p))

same_number : (k q : ℕ) → (k == q) ≡ true → k ≡ q
same_number k q h = elim (eqb_tells k q) [ inl e ↦ e.1 | inr e ↦ absurd (both h e.0) ]

pub set_of-below : (w : List ℕ) (m q : ℕ) → set_of (filter (λ p. nat_lt p m) w) q ≡ (nat_lt q m && set_of w q)
set_of-below w m q = any-filter_same (λ k. k == q) (λ p. nat_lt p m) (nat_lt q m)
    (λ k t. ap (λ p. nat_lt p m) (same_number k q t)) w

believed_take : (os : List Origin) (m q : ℕ) → believed_in (take m os) q ≡ (nat_lt q m && believed_in os q)
believed_take os zero q = sym (off (nat_lt q 0) (believed_in os q) (grind (arith, nat_tests)))
  where
    off : (b c : Bool) → b ≡ false → (b && c) ≡ false
    off b c h = rw h refl
believed_take [] (suc m) q = sym (none (nat_lt q (suc m)))
  where
    none : (b : Bool) → (b && false) ≡ false
    none true = refl
    none false = refl
believed_take (o ∷ os) (suc m) zero =
    let in_it : nat_lt 0 (suc m) ≡ true = grind (arith, nat_tests) in
    rw in_it refl
believed_take (o ∷ os) (suc m) (suc q) =
    let same : nat_lt (suc q) (suc m) ≡ nat_lt q m = grind (arith, nat_tests) in
    rw same (believed_take os m q)

-- what is believed below a bound
pub believes_below : (os : List Origin) (m : ℕ) (w : List ℕ) (hyps fewer : Members)
    → IsSame (set_of w) (union (believed_in os) hyps) → ((q : ℕ) → fewer q ≡ (nat_lt q m && hyps q)) →
    IsSame (set_of (filter (λ p. nat_lt p m) w)) (union (believed_in (take m os)) fewer)
believes_below os m w hyps fewer same cut q =
    set_of-below w m q ∙ ap (λ b. nat_lt q m && b) (same q) ∙ spread (nat_lt q m) (believed_in os q) (hyps q)
    ∙ sym (ap (λ b. b || (nat_lt q m && hyps q)) (believed_take os m q))
    ∙ sym (ap (λ b. believed_in (take m os) q || b) (cut q))
  where
    spread : (l b h : Bool) → (l && (b || h)) ≡ ((l && b) || (l && h))
    spread true b h = refl
    spread false b h = refl

pub known_below : (lt h : Bool) → (h ≡ true → lt ≡ true) → h ≡ (lt && h)
known_below lt true f = sym (rw (f refl) refl)
known_below true false f = refl
known_below false false f = refl

pub lt_true : (q m : ℕ) → q < m → nat_lt q m ≡ true
lt_true q m l = grind (arith, nat_tests)

pub lt_false : (q m : ℕ) → m ≤ q → nat_lt q m ≡ false
lt_false q m l = grind (arith, nat_tests)

-- ---- a new name

new_name : (os : List Origin) (name : List ℕ) → premise_number os name ≡ None
    → with_name os name ≡ os ++ User name true ∷ []
new_name os name none = ap (λ o. cond (is_some o) os (os ++ User name true ∷ [])) none

believed_push : (os : List Origin) (name : List ℕ) (n p : ℕ) → n ≡ length os
    → believed_in (os ++ User name true ∷ []) p ≡ (believed_in os p || (n == p))
believed_push [] name n zero e =
    let same : (n == 0) ≡ true = grind (arith, nat_tests, e) in
    rw same refl
believed_push [] name n (suc p) e =
    let apart : (n == suc p) ≡ false = grind (arith, nat_tests, e) in
    rw apart refl
believed_push (o ∷ os) name n zero e =
    let apart : (n == 0) ≡ false = grind (arith, nat_tests, e) in
    rw apart (sym (or_none (is_believed o)))
believed_push (o ∷ os) name n (suc p) e =
    let same : (n == suc p) ≡ (length os == p) = grind (arith, nat_tests, e) in
    rw same (believed_push os name (length os) p refl)

-- what is believed has a smaller number than a premise of the user's that is last
pub below_last : (s : Stand) (origins : List Origin) (n : ℕ) → IsStand s → choices_of origins ≡ choices_in s
    → IsNumbered origins →
    length s.premises ≤ n → IsTrue (is_user_at origins n) → length origins ≡ n + 1 → IsBelow n (set_of s.worldview)
below_last s origins n stand same numbered old user len p h =
    elim (or_cases (users_of s p) (hypotheticals_of (choices_in s) (take s.level s.list) p)
    (sym (stand.believes p) ∙ h)) [
      | inl b ↦ omega (arith, in_range s.premises p (is_user_at-believed s.premises p b), old)
      | inr t ↦ side (rw (← same) at (taken_is_side (choices_in s) s.list p stand.is_list
          (fewer_taken (choices_in s) s.list s.level p t)))
    ]
  where
    side : IsTrue (is_hypothetical (choices_of origins) p) → p < n
    side t = elim (cases_eq p n) [
      | inl e ↦ absurd (both t (rw e (numbered.users n user)))
      | inr apart ↦ omega (arith, numbered.below p t, len, apart)
    ]

pub stand_interned : (s : Stand) (name : List ℕ) → IsStand s → length s.premises < most Premises →
    IsStand (record s {
      premises = s.premises ++ User name true ∷ [];
      worldview = s.worldview ++ length s.premises ∷ [];
    })
stand_interned s name stand room = record {
  numbered = numbered_user s.premises name true stand.numbered;
  few = omega (arith, room, length-append s.premises (User name true ∷ []));
  is_list = rw (choices_of-user s.premises name true) stand.is_list;
  reasoned = stand.reasoned;
  level = stand.level;
  believes = λ p. rw (
    choices_of-user s.premises name true,
    set_of-push s.worldview (length s.premises) p,
    stand.believes p,
    believed_push s.premises name (length s.premises) p refl,
  )
      (turn (users_of s p) (hypotheticals_of (choices_in s) (take s.level s.list) p) (length s.premises == p));
  minimal = stand.minimal;
}
  where
    turn : (b h e : Bool) → ((b || h) || e) ≡ ((b || e) || h)
    turn true h e = refl
    turn false true true = refl
    turn false true false = refl
    turn false false e = sym (or_none e)

-- what is believed has a smaller number than a premise that is new
pub below_new : (s : Stand) (name : List ℕ) → IsStand s → IsBelow (length s.premises) (set_of s.worldview)
below_new s name stand =
    below_last s (s.premises ++ User name true ∷ []) (length s.premises) stand (choices_of-user s.premises name true)
    (numbered_user s.premises name true stand.numbered) (omega arith)
    (is_user_at-push s.premises name true (length s.premises) refl)
    (length-append s.premises (User name true ∷ []))

-- the stand with one premise more
pub interned_stand : (s : Stand) (name : List ℕ) (origins : List Origin) (premise : ℕ) → IsStand s
    → premise_number s.premises name ≡ None → length s.premises < most Premises
    → origins ≡ with_name s.premises name → premise ≡ length s.premises
    → IsStand (record s { premises = origins; worldview = s.worldview ++ premise ∷ [] })
interned_stand s name origins premise stand none room now number =
    let new : origins ≡ s.premises ++ User name true ∷ [] = now ∙ new_name s.premises name none in
    rw (new, number) (stand_interned s name stand room)

pub interned_new_is : (s t : Stand) (name : List ℕ) (origins : List Origin) (premise : ℕ) → s ≡ t
    → origins ≡ with_name s.premises name → premise ≡ length s.premises →
    record s { premises = origins; worldview = s.worldview ++ premise ∷ [] } ≡ interned t name
interned_new_is s t name origins premise same now number =
    ap (λ os. record s { premises = os; worldview = s.worldview ++ premise ∷ [] }) now
    ∙ ap (λ n. record s { premises = with_name s.premises name; worldview = s.worldview ++ n ∷ [] }) number
    ∙ ap (λ (u : Stand). interned u name) same

-- what was believed still is
pub believed_in-kept : (os : List Origin) (name : List ℕ) (p : ℕ) → IsTrue (believed_in os p)
    → IsTrue (believed_in (with_name os name) p)
believed_in-kept os name p h = believed_in-with_name os name p (in_range os p (is_user_at-believed os p h)) ∙ h

-- ---- the last premise goes

pub last_start : (os : List Origin) (p : ℕ) → IsTrue (is_user_at os p) → IsTrue (is_start os p)
last_start [] p h = absurd (both h refl)
last_start (User name believed ∷ os) zero h = refl
last_start (Side name side sides ∷ os) zero h = absurd (both h refl)
last_start (o ∷ os) (suc p) h = last_start os p h

choices_taken : (n : ℕ) (os : List Origin) (p : ℕ) → IsTrue (is_user_at os p) → length os ≡ p + 1
    → choices_from n (take p os) ≡ choices_from n os
choices_taken n [] p user len = absurd (both user refl)
choices_taken n (Side name side sides ∷ os) zero user len = absurd (both user refl)
choices_taken n (User name believed ∷ []) zero user len = refl
choices_taken n (User name believed ∷ (o ∷ os)) zero user len = absurd (omega (arith, len))
choices_taken n (User name believed ∷ os) (suc p) user len = choices_taken (suc n) os p user (omega (arith, len))
choices_taken n (Side name side sides ∷ os) (suc p) user len =
    ap (λ l. cond (side == 1) (record { first = n; sides = sides } ∷ l) l)
    (choices_taken (suc n) os p user (omega (arith, len)))

pub choices_of-last : (os : List Origin) (p : ℕ) → IsTrue (is_user_at os p) → length os ≡ p + 1
    → choices_of (take p os) ≡ choices_of os
choices_of-last os p user len = choices_taken 0 os p user len

pub user_taken : (os : List Origin) (m q : ℕ) → IsTrue (is_user_at (take m os) q) → IsTrue (is_user_at os q)
user_taken os zero q h = absurd (both h refl)
user_taken [] (suc m) q h = absurd (both h refl)
user_taken (o ∷ os) (suc m) zero h = h
user_taken (o ∷ os) (suc m) (suc q) h = user_taken os m q h

pub stand_taken_back : (s : Stand) (p : ℕ) → IsStand s → IsTrue (is_user_at s.premises p) → length s.premises ≡ p + 1 →
    IsStand (record s { premises = take p s.premises; worldview = filter (λ q. nat_lt q p) s.worldview })
stand_taken_back s p stand user len =
    let same = choices_of-last s.premises p user len in
    record {
      numbered = record {
        in_order = rw same stand.numbered.in_order;
        of_sides = rw same stand.numbered.of_sides;
        below = λ q t. let l = side q (rw same at t) in omega (arith, l, taken);
        users = λ q u. rw same (stand.numbered.users q (user_taken s.premises p q u));
      };
      few = (let f = stand.few in omega (arith, taken, len, f));
      is_list = rw same stand.is_list;
      reasoned = stand.reasoned;
      level = stand.level;
      believes = rw same (believes_below s.premises p s.worldview
          (hypotheticals_of (choices_in s) (take s.level s.list))
          (hypotheticals_of (choices_in s) (take s.level s.list)) stand.believes
          (λ q. known_below (nat_lt q p) (hypotheticals_of (choices_in s) (take s.level s.list) q)
          (λ t. lt_true q p (side q (taken_is_side (choices_in s) s.list q stand.is_list
          (fewer_taken (choices_in s) s.list s.level q t))))));
      minimal = stand.minimal;
    }
  where
    taken : length (take p s.premises) ≡ p
    taken = length-take p s.premises ∙ omega (arith, len)

    side : (q : ℕ) → IsTrue (is_hypothetical (choices_in s) q) → q < p
    side q t = elim (cases_eq q p) [
      | inl e ↦ absurd (both t (rw e (stand.numbered.users p user)))
      | inr apart ↦ (let b = stand.numbered.below q t in omega (arith, b, len, apart))
    ]

pub filter_push : (w : List ℕ) (n m : ℕ) → m ≡ n → IsBelow m (set_of w) → filter (λ p. nat_lt p m) (w ++ n ∷ []) ≡ w
filter_push w n m e below =
    filter-append (λ p. nat_lt p m) w (n ∷ [])
    ∙ ap (λ b. filter (λ p. nat_lt p m) w ++ cond b (n ∷ []) []) (lt_false n m (omega (arith, e)))
    ∙ append-nil (filter (λ p. nat_lt p m) w) ∙ filter-below m w below

interned_new : (s : Stand) (name : List ℕ) → premise_number s.premises name ≡ None
    → interned s name ≡ record s {
      premises = s.premises ++ User name true ∷ [];
      worldview = s.worldview ++ length s.premises ∷ [];
    }
interned_new s name none =
    ap (λ os. record s { premises = os; worldview = s.worldview ++ length s.premises ∷ [] })
    (new_name s.premises name none)

-- what was just taken up goes, and all is as it was
pub taken_back_undoes : (s : Stand) (p : ℕ) (before : Stand) (name : List ℕ) → IsNumbered s.premises →
    IsTrue (is_user_at s.premises p) → length s.premises ≡ p + 1 → IsStand before
    → premise_number before.premises name ≡ None → s ≡ interned before name →
    record s { premises = take p s.premises; worldview = filter (λ q. nat_lt q p) s.worldview } ≡ before
taken_back_undoes s p before name numbered user len stand none e =
    ap (λ t. cut t) now ∙ ap (λ os. record before {
      premises = os;
      worldview = filter (λ q. nat_lt q p) (before.worldview ++ length before.premises ∷ []);
    })
    (take-front before.premises (User name true ∷ []) p count)
    ∙ ap (λ w. record before { worldview = w }) (filter_push before.worldview (length before.premises) p count
    (below_last before s.premises p stand
    (ap (λ t. choices_of t.premises) now ∙ choices_of-user before.premises name true) numbered
    (omega (arith, count)) user len))
  where
    cut : Stand → Stand
    cut t = record t { premises = take p t.premises; worldview = filter (λ q. nat_lt q p) t.worldview }

    now : s ≡ record before {
      premises = before.premises ++ User name true ∷ [];
      worldview = before.worldview ++ length before.premises ∷ [];
    }
    now = e ∙ interned_new before name none

    count : p ≡ length before.premises
    count = omega (arith, len, ap (λ t. length t.premises) now, length-append before.premises (User name true ∷ []))
