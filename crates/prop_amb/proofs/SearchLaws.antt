-- Why the reasons that are kept refute every list before the one that stands, and why joining them is right.
use Rattle.std.proofs.Common.{◌≡◌, ℕ, suc, ◌+◌, ◌-◌, ◌<◌, ◌≤◌, IsTrue, Bool, true, false, List, [], ◌∷◌, take, Some}
use Rattle.std.proofs.Common.{◌||◌, ◌==◌, refl, inl, inr, ◌⊎◌, arith, slice_get}
use Rattle.std.specs.List.{AllByRecursion}
use Rattle.std.proofs.lemmas.Bool.{cases_eq, or_cases, eqb-true, eq-eqb, lt-leb, le-ltb, le-leb, lt-ltb, and_from}
use Rattle.std.proofs.lemmas.Bool.{and_left, and_right}
use Rattle.prop_numbers.specs.Sets.{Members, IsPart, union, set_of}
use Rattle.prop_premises.specs.declared.choice.Choice.{Choice}
use Rattle.prop_premises.specs.ChoiceLists.{hypothetical, IsSide, IsChoiceList, TakesSidesIn, hypotheticals_of}
use Rattle.prop_premises.specs.ChoiceLists.{worldview, is_hypothetical, IsBefore, AreInOrder}
use Rattle.prop_premises.specs.inner.ChoiceLists.{is_side_of}
use Rattle.prop_cells.specs.Problems.{Problem}
use Rattle.prop_cells.specs.inner.Problems.{IsContradictory}
use Rattle.prop_amb.proofs.ProblemLaws.{contradictory_more}
use Rattle.prop_nogoods.specs.Stores.{has_part}
use Rattle.prop_nogoods.proofs.StoreLaws.{has_part-more}
use Rattle.prop_amb.specs.Refuted.{IsRefuted, AllBeforeRefuted, IsCovered}
use Rattle.prop_amb.specs.Search.{Stand, IsStand, users_of, choices_in, reason_at, IsKept, AreKept}
use Rattle.prop_amb.proofs.StandLaws.{users_no_sides, has_reason}

pub both : {b : Bool} → b ≡ true → b ≡ false → ⊥
both p q = cc

pub or_true_left : (x y : Bool) → x ≡ true → (x || y) ≡ true
or_true_left x y h = cc

pub or_true_right : (x y : Bool) → y ≡ true → (x || y) ≡ true
or_true_right true y h = refl
or_true_right false y h = h

or_false : (x y : Bool) → x ≡ false → y ≡ false → (x || y) ≡ false
or_false x y p q = cc

or_none : (x y : Bool) → (x || y) ≡ false → (x ≡ false) × (y ≡ false)
or_none true y h = absurd (both {b = true} refl h)
or_none false y h = (refl, h)

pub side_is_of : (choice : Choice) (side : ℕ) → IsSide choice side → is_side_of choice (hypothetical choice side) ≡ true
side_is_of choice side h =
    and_from _ _ (le-leb choice.first (choice.first + (side - 1)) (omega arith))
    (lt-ltb (choice.first + (side - 1)) (choice.first + choice.sides) (omega (arith, h.0, h.1)))

-- a side of a choice is no side of a later one
pub side_below : (c d : Choice) (i : ℕ) → c.first + c.sides ≤ d.first → IsSide c i
    → is_side_of d (hypothetical c i) ≡ false
side_below c d i le side = and_left _ _ (lt-leb d.first (c.first + (i - 1)) (omega (arith, side.0, side.1, le)))

pub side_above : (c d : Choice) (i : ℕ) → c.first + c.sides ≤ d.first → IsSide d i
    → is_side_of c (hypothetical d i) ≡ false
side_above c d i le side = and_right _ _ (le-ltb (d.first + (i - 1)) (c.first + c.sides) (omega (arith, le)))

sides_apart : (c : Choice) (cs : List Choice) (i : ℕ) → AllByRecursion (λ later. c.first + c.sides ≤ later.first) cs
    → IsSide c i → is_hypothetical cs (hypothetical c i) ≡ false
sides_apart c [] i h side = refl
sides_apart c (d ∷ cs) i h side = or_false _ _ (side_below c d i h.0 side) (sides_apart c cs i h.1 side)

pub taken_is_side : (cs : List Choice) (l : List ℕ) (p : ℕ) → IsChoiceList cs l → IsTrue (hypotheticals_of cs l p)
    → is_hypothetical cs p ≡ true
taken_is_side [] l p h t = absurd (both t refl)
taken_is_side (c ∷ cs) [] p h t = absurd h
taken_is_side (c ∷ cs) (s ∷ l) p h t = elim (or_cases (hypothetical c s == p) (hypotheticals_of cs l p) t) [
  | inl e ↦ or_true_left _ _ (at (eqb-true (hypothetical c s) p e))
  | inr r ↦ or_true_right (is_side_of c p) _ (taken_is_side cs l p h.1 r)
]
  where
    at : hypothetical c s ≡ p → is_side_of c p ≡ true
    at e = rw (← e) (side_is_of c s h.0)

-- what lies in some premises that are no sides, and in what a list takes, names only sides that the list takes
pub takes_own : (n b : Members) (cs : List Choice) (l : List ℕ) → AreInOrder cs → IsChoiceList cs l →
    ((p : ℕ) → IsTrue (b p) → is_hypothetical cs p ≡ false) → IsPart n (union b (hypotheticals_of cs l))
    → TakesSidesIn n cs l
takes_own n b [] [] order h users part = tt
takes_own n b [] (s ∷ l) order h users part = absurd h
takes_own n b (c ∷ cs) [] order h users part = absurd h
takes_own n b (c ∷ cs) (s ∷ l) order h users part = (
  λ i side in_n. head i side (or_cases (b (hypothetical c i)) _ (part (hypothetical c i) in_n)),
  takes_own n (λ p. b p || (hypothetical c s == p)) cs l order.1 h.1 others
      (λ p in_n. regroup (b p) (hypothetical c s == p) (hypotheticals_of cs l p) (part p in_n)),
)
  where
    later : (i : ℕ) → IsSide c i → IsTrue (hypotheticals_of cs l (hypothetical c i)) → ⊥
    later i side t = both (taken_is_side cs l (hypothetical c i) h.1 t) (sides_apart c cs i order.0 side)

    same : (i : ℕ) → IsSide c i → hypothetical c s ≡ hypothetical c i → i ≡ s
    same i side e = omega (arith, e, side.0, h.0.0)

    mine : (i : ℕ) → IsSide c i → (IsTrue (hypothetical c s == hypothetical c i)
        ⊎ IsTrue (hypotheticals_of cs l (hypothetical c i))) → i ≡ s
    mine i side (inl e) = same i side (eqb-true (hypothetical c s) (hypothetical c i) e)
    mine i side (inr t) = absurd (later i side t)

    head : (i : ℕ) → IsSide c i → (IsTrue (b (hypothetical c i))
        ⊎ IsTrue ((hypothetical c s == hypothetical c i) || hypotheticals_of cs l (hypothetical c i))) → i ≡ s
    head i side (inl e) = absurd (both (side_is_of c i side) (or_none _ _ (users (hypothetical c i) e)).0)
    head i side (inr t) = mine i side (or_cases _ _ t)

    at : (p : ℕ) → hypothetical c s ≡ p → is_hypothetical cs p ≡ false
    at p e = rw (← e) (sides_apart c cs s order.0 h.0)

    others : (p : ℕ) → IsTrue (b p || (hypothetical c s == p)) → is_hypothetical cs p ≡ false
    others p t = elim (or_cases (b p) (hypothetical c s == p) t) [
      | inl e ↦ (or_none (is_side_of c p) _ (users p e)).1
      | inr e ↦ at p (eqb-true (hypothetical c s) p e)
    ]

    regroup : (x y z : Bool) → (x || (y || z)) ≡ true → ((x || y) || z) ≡ true
    regroup true y z t = refl
    regroup false y z t = t

-- a refuted set that lies in a list's worldview refutes the list
pub refuted_within : (problem : Problem) (believed n : Members) (choices : List Choice) (list : List ℕ)
    → AreInOrder choices → IsChoiceList choices list →
    ((p : ℕ) → IsTrue (believed p) → is_hypothetical choices p ≡ false) → IsPart n (worldview believed choices list) →
    IsRefuted problem choices n → IsContradictory problem (worldview believed choices list)
refuted_within problem believed n choices list order is_list users part r =
    contradictory_more problem (union n (hypotheticals_of choices list)) (worldview believed choices list)
    (λ p t. absorb (n p) (hypotheticals_of choices list p) (believed p) (part p) t)
    (r.always list is_list (takes_own n believed choices list order is_list users part))
  where
    absorb : (x y z : Bool) → (x ≡ true → (z || y) ≡ true) → (x || y) ≡ true → (z || y) ≡ true
    absorb true y z f t = f refl
    absorb false y z f t = or_true_right z y t

-- where a list that stands before another first differs from it
pub record Differs (choices : List Choice) (l m : List ℕ) : Type 0 where
  pub j : ℕ
  pub choice : Choice
  pub side : ℕ
  pub stands : ℕ
  pub choice_at : slice_get choices j ≡ Some choice
  pub stands_at : slice_get m j ≡ Some stands
  pub from_one : 1 ≤ side
  pub before : side < stands
  pub takes_side : IsTrue (hypotheticals_of choices l (hypothetical choice side))
  pub takes_rest : IsPart (hypotheticals_of (take j choices) (take j m)) (hypotheticals_of choices l)

pub differ : (choices : List Choice) (l m : List ℕ) → IsChoiceList choices l → IsChoiceList choices m → IsBefore l m
    → Differs choices l m
differ [] [] m p q lt = absurd lt
differ [] (a ∷ l) m p q lt = absurd p
differ (c ∷ cs) [] m p q lt = absurd p
differ (c ∷ cs) (a ∷ l) [] p q lt = absurd q
differ (c ∷ cs) (a ∷ l) (b ∷ m) p q (inl lt) = record {
  j = 0;
  choice = c;
  side = a;
  stands = b;
  choice_at = refl;
  stands_at = refl;
  from_one = p.0.0;
  before = lt;
  takes_side = or_true_left _ _ (eq-eqb (hypothetical c a) (hypothetical c a) refl);
  takes_rest = λ r t. absurd (both t refl);
}
differ (c ∷ cs) (a ∷ l) (b ∷ m) p q (inr (e, lt)) =
    let d : Differs cs l m = differ cs l m p.1 q.1 lt in record {
      j = suc d.j;
      choice = d.choice;
      side = d.side;
      stands = d.stands;
      choice_at = d.choice_at;
      stands_at = d.stands_at;
      from_one = d.from_one;
      before = d.before;
      takes_side = or_true_right (hypothetical c a == hypothetical d.choice d.side) _ d.takes_side;
      takes_rest = λ r t. step (hypothetical c b == r) (hypothetical c a == r)
          (hypotheticals_of (take d.j cs) (take d.j m) r) (hypotheticals_of cs l r) (same r) (d.takes_rest r) t;
    }
  where
    same : (r : ℕ) → IsTrue (hypothetical c b == r) → IsTrue (hypothetical c a == r)
    same r t = rw e t

    step : (x y z w : Bool) → (x ≡ true → y ≡ true) → (z ≡ true → w ≡ true) → (x || z) ≡ true → (y || w) ≡ true
    step true y z w f g t = or_true_left y w (f refl)
    step false y z w f g t = or_true_right y w (g t)

-- the kept reasons refute every list before the one that stands
pub kept_refute : (problem : Problem) (s : Stand) → IsStand s → AreKept problem s
    → AllBeforeRefuted problem (users_of s) (choices_in s) s.list
kept_refute problem s stand are earlier is_earlier lt =
    let d : Differs choices earlier s.list = differ choices earlier s.list is_earlier stand.is_list lt in
    let r : (reason : List ℕ) × (reason_at s d.j d.side ≡ Some reason) =
    has_reason s stand d.j d.side d.stands d.stands_at d.from_one d.before in
    let k : IsKept problem s d.j d.choice d.side (set_of r.0) =
    are.kept d.j d.choice d.side r.0 d.choice_at d.from_one r.1 in
    refuted_within problem believed (set_of r.0) choices earlier stand.numbered.in_order is_earlier
    (users_no_sides s stand)
    (λ p in_reason. within d (set_of r.0) k p in_reason (cases_eq p (hypothetical d.choice d.side))) k.refuted
  where
    choices : List Choice
    choices = choices_in s

    believed : Members
    believed = users_of s

    within : (d : Differs choices earlier s.list) (reason : Members) → IsKept problem s d.j d.choice d.side reason
        → (p : ℕ) → IsTrue (reason p) →
        (p ≡ hypothetical d.choice d.side) ⊎ (p ≡ hypothetical d.choice d.side → ⊥)
        → IsTrue (worldview believed choices earlier p)
    within d reason k p in_reason (inl e) =
        or_true_right (believed p) (hypotheticals_of choices earlier p) (rw e d.takes_side)
    within d reason k p in_reason (inr f) = elim (k.beside p in_reason f) [
      | inl b ↦ or_true_left (believed p) (hypotheticals_of choices earlier p) b
      | inr t ↦ or_true_right (believed p) (hypotheticals_of choices earlier p) (d.takes_rest p t)
    ]

-- a contradictory part of a list's worldview is refuted
pub clash_refuted : (problem : Problem) (believed n : Members) (choices : List Choice) (list : List ℕ)
    → AreInOrder choices → IsChoiceList choices list →
    ((p : ℕ) → IsTrue (believed p) → is_hypothetical choices p ≡ false) → IsPart n (worldview believed choices list)
    → IsContradictory problem n → IsRefuted problem choices n
clash_refuted problem believed n choices list order is_list users part c = record {
  one_side = (list, is_list, takes_own n believed choices list order is_list users part);
  always = λ l _ _. contradictory_more problem n (union n (hypotheticals_of choices l))
      (λ p h. or_true_left (n p) (hypotheticals_of choices l p) h) c;
}

-- what has a listed part is covered
pub listed_covers : (choices : List Choice) (listed : List (List ℕ)) (m : Members) → IsTrue (has_part listed m)
    → IsCovered choices listed m
listed_covers choices listed m h list is_list =
    has_part-more listed m (union m (hypotheticals_of choices list))
    (λ p t. or_true_left (m p) (hypotheticals_of choices list p) t) h
