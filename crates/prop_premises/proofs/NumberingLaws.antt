-- Premises stay numbered as names and choices come and go, and as beliefs change.
use Rattle.std.proofs.Common.{◌≡◌, ◌∙◌, ℕ, zero, suc, ◌+◌, ◌<◌, ◌≤◌, IsTrue, Bool, true, false, cond, ◌||◌, ◌⊎◌, List}
use Rattle.std.proofs.Common.{[], ◌∷◌, ◌++◌, length, is_some, inl, inr, refl, sym, ap, arith, length-append}
use Rattle.std.specs.List.{AllByRecursion}
use Rattle.std.proofs.lemmas.Bool.{cases_lt, or_cases}
use Rattle.std.proofs.lemmas.Bool.Decides.{nat_tests}
use Rattle.std.proofs.lemmas.List.Folds.{list_any-append}
use Rattle.prop_premises.specs.declared.choice.Choice.{Choice}
use Rattle.prop_premises.specs.ChoiceLists.{is_hypothetical, AreInOrder, AreOfSides}
use Rattle.prop_premises.specs.inner.ChoiceLists.{is_side_of}
use Rattle.prop_premises.specs.Origins.{Origin, User, Side, is_user, is_user_at, with_belief_at}
use Rattle.prop_premises.specs.Origins.{with_name}
use Rattle.prop_premises.specs.inner.Origins.{with_belief}
use Rattle.prop_premises.specs.Origins.{with_choice, premise_number, choices_of, IsNumbered}
use Rattle.prop_premises.proofs.ChoiceLemmas.{choices_of-with_choice, choices_of-user, choices_of-with_belief_at}
use Rattle.prop_premises.proofs.ChangeLemmas.{is_user_at-append, is_user_at-with_choice, length-with_choice}
use Rattle.prop_premises.proofs.OriginLemmas.{in_range}

-- ---- one premise or one choice more

none_true : (b : Bool) → (IsTrue b → ⊥) → b ≡ false
none_true true h = absurd (h refl)
none_true false h = refl

beyond : (os : List Origin) (p : ℕ) → IsNumbered os → length os ≤ p → is_hypothetical (choices_of os) p ≡ false
beyond os p n l = none_true (is_hypothetical (choices_of os) p) (λ h. let b = n.below p h in omega (arith, b, l))

pub numbered_user : (os : List Origin) (name : List ℕ) (believed : Bool) → IsNumbered os
    → IsNumbered (os ++ User name believed ∷ [])
numbered_user os name believed n = record {
  in_order = rw same n.in_order;
  of_sides = rw same n.of_sides;
  users = λ p u. rw same (user p u (cases_lt p (length os)));
  below = λ p h. let b = n.below p (rw same at h) in omega (arith, b, length-append os (User name believed ∷ []));
}
  where
    same : choices_of (os ++ User name believed ∷ []) ≡ choices_of os
    same = choices_of-user os name believed

    user : (p : ℕ) → IsTrue (is_user_at (os ++ User name believed ∷ []) p) → (p < length os) ⊎ (length os ≤ p)
        → is_hypothetical (choices_of os) p ≡ false
    user p u (inl l) = n.users p (sym (is_user_at-append os (User name believed ∷ []) p l) ∙ u)
    user p u (inr l) = beyond os p n l

pub numbered_name : (os : List Origin) (name : List ℕ) → IsNumbered os → IsNumbered (with_name os name)
numbered_name os name n = by (is_some (premise_number os name))
  where
    by : (b : Bool) → IsNumbered (cond b os (os ++ User name true ∷ []))
    by true = n
    by false = numbered_user os name true n

all_push : {X : Type 0} (P : X → Type 0) (xs : List X) (x : X) → AllByRecursion P xs → P x
    → AllByRecursion P (xs ++ x ∷ [])
all_push P [] x all h = (h, tt)
all_push P (y ∷ ys) x all h = (all.0, all_push P ys x all.1 h)

left_true : (a b : Bool) → IsTrue a → IsTrue (a || b)
left_true true b h = refl
left_true false b h = cc

right_true : (a b : Bool) → IsTrue b → IsTrue (a || b)
right_true true b h = refl
right_true false b h = h

-- the last side of a choice is one of its sides
last_side : (d : Choice) (p : ℕ) → 1 ≤ d.sides → p + 1 ≡ d.first + d.sides → IsTrue (is_side_of d p)
last_side d p l e = grind (arith, nat_tests)

order_push : (cs : List Choice) (c : Choice) → AreOfSides cs → ((p : ℕ) → IsTrue (is_hypothetical cs p) → p < c.first)
    → AreInOrder cs → AreInOrder (cs ++ c ∷ [])
order_push [] c sides below order = (tt, tt)
order_push (d ∷ cs) c sides below order = (
  all_push (λ later. d.first + d.sides ≤ later.first) cs c order.0 (ends d.sides refl sides.0.0),
  order_push cs c sides.1 (λ p h. below p (right_true (is_side_of d p) (is_hypothetical cs p) h)) order.1,
)
  where
    ends : (k : ℕ) → d.sides ≡ k → 2 ≤ k → d.first + d.sides ≤ c.first
    ends zero e l = absurd (omega (arith, l))
    ends (suc k) e l =
        let b = below (d.first + k) (left_true (is_side_of d (d.first + k)) (is_hypothetical cs (d.first + k))
        (last_side d (d.first + k) (omega (arith, e)) (omega (arith, e)))) in
        omega (arith, b, e)

or_false : (a b : Bool) → a ≡ false → b ≡ false → (a || (b || false)) ≡ false
or_false true b e f = cc
or_false false true e f = cc
or_false false false e f = refl

or_none : (b : Bool) → (b || false) ≡ b
or_none true = refl
or_none false = refl

pub numbered_choice : (os : List Origin) (name : List ℕ) (sides : ℕ) → 2 ≤ sides → sides ≤ 8 → IsNumbered os
    → IsNumbered (with_choice os name sides)
numbered_choice os name sides low high n = record {
  in_order = rw same (order_push (choices_of os) own n.of_sides n.below n.in_order);
  of_sides = rw same (all_push (λ (c : Choice). (2 ≤ c.sides) × (c.sides ≤ 8)) (choices_of os) own n.of_sides
      (low, high));
  users = λ p u. rw same (user p (sym (is_user_at-with_choice os name sides p) ∙ u));
  below = λ p h. by p (rw same at h);
}
  where
    own : Choice
    own = record { first = length os; sides = sides }

    same : choices_of (with_choice os name sides) ≡ choices_of os ++ own ∷ []
    same = choices_of-with_choice os name sides (omega (arith, low))

    parts : (p : ℕ) → is_hypothetical (choices_of os ++ own ∷ [])
        p ≡ (is_hypothetical (choices_of os) p || (is_side_of own p || false))
    parts p = list_any-append (λ c. is_side_of c p) (choices_of os) (own ∷ [])

    user : (p : ℕ) → IsTrue (is_user_at os p) → is_hypothetical (choices_of os ++ own ∷ []) p ≡ false
    user p u =
        let l : p < length os = in_range os p u in
        let apart : is_side_of own p ≡ false = grind (arith, nat_tests) in
        parts p ∙ or_false (is_hypothetical (choices_of os) p) (is_side_of own p) (n.users p u) apart

    by : (p : ℕ) → IsTrue (is_hypothetical (choices_of os ++ own ∷ []) p) → p < length (with_choice os name sides)
    by p h = elim (or_cases (is_hypothetical (choices_of os) p) (is_side_of own p || false) (sym (parts p) ∙ h)) [
      | inl e ↦ (let b = n.below p e in omega (arith, b, length-with_choice os name sides))
      | inr e ↦ (
          let within : is_side_of own p ≡ true = sym (or_none (is_side_of own p)) ∙ e in
          let b : p < length os + sides = grind (arith, nat_tests) in
          omega (arith, b, length-with_choice os name sides))
    ]

-- ---- what is believed

same_user : (believed : Bool) (o : Origin) → is_user (with_belief believed o) ≡ is_user o
same_user believed (User name before) = refl
same_user believed (Side choice side sides) = refl

pub is_user_at-with_belief_at : (os : List Origin) (p : ℕ) (believed : Bool) (q : ℕ)
    → is_user_at (with_belief_at os p believed) q ≡ is_user_at os q
is_user_at-with_belief_at [] p believed q = refl
is_user_at-with_belief_at (o ∷ os) zero believed zero = same_user believed o
is_user_at-with_belief_at (o ∷ os) zero believed (suc q) = refl
is_user_at-with_belief_at (o ∷ os) (suc p) believed zero = refl
is_user_at-with_belief_at (o ∷ os) (suc p) believed (suc q) = is_user_at-with_belief_at os p believed q

pub length-with_belief_at : (os : List Origin) (p : ℕ) (believed : Bool)
    → length (with_belief_at os p believed) ≡ length os
length-with_belief_at [] p believed = refl
length-with_belief_at (o ∷ os) zero believed = refl
length-with_belief_at (o ∷ os) (suc p) believed = ap suc (length-with_belief_at os p believed)

pub numbered_belief : (os : List Origin) (p : ℕ) (believed : Bool) → IsNumbered os
    → IsNumbered (with_belief_at os p believed)
numbered_belief os p believed n = record {
  in_order = rw same n.in_order;
  of_sides = rw same n.of_sides;
  users = λ q u. rw same (n.users q (sym (is_user_at-with_belief_at os p believed q) ∙ u));
  below = λ q h. rw (length-with_belief_at os p believed) (n.below q (rw same at h));
}
  where
    same : choices_of (with_belief_at os p believed) ≡ choices_of os
    same = choices_of-with_belief_at os p believed
