-- What follows from the definitions of refuted sets and first lists alone.
use Rattle.std.proofs.Common.{◌≡◌, ℕ, ◌+◌, ◌-◌, ◌<◌, IsTrue, Bool, true, false, List, [], ◌∷◌, ◌++◌, ◌||◌, ◌==◌, refl}
use Rattle.std.proofs.Common.{sym, inl, inr, ◌⊎◌, arith}
use Rattle.std.specs.List.{AllZip}
use Rattle.std.proofs.lemmas.Bool.{cases_order, le-leb, lt-ltb, and_from}
use Rattle.prop_numbers.specs.Sets.{Members, IsPart, union}
use Rattle.prop_premises.specs.declared.choice.Choice.{Choice}
use Rattle.prop_premises.specs.ChoiceLists.{hypothetical, IsSide, IsChoiceList, TakesSidesIn, hypotheticals_of}
use Rattle.prop_premises.specs.ChoiceLists.{worldview, is_hypothetical, IsBefore}
use Rattle.prop_premises.specs.inner.ChoiceLists.{is_side_of}
use Rattle.prop_cells.specs.Problems.{Problem, Extends}
use Rattle.prop_cells.proofs.ProblemLaws.{contradictory_extends, related_extends}
use Rattle.prop_nogoods.proofs.StoreLaws.{has_part-more}
use Rattle.prop_amb.proofs.ProblemLaws.{contradictory_more}
use Rattle.prop_amb.specs.Refuted.{IsRefuted, IsFirstConsistent, IsNogood, IsGrounded, IsCovered}
use Rattle.prop_amb.specs.inner.Refuted.{IsListRefuted}

-- added statements and instances keep a refuted set refuted
pub refuted_extends : (old new : Problem) (choices : List Choice) (n : Members) → Extends old new
    → IsRefuted old choices n → IsRefuted new choices n
refuted_extends old new choices n more r = record {
  one_side = r.one_side;
  always = λ list is_list takes. contradictory_extends old new _ more (r.always list is_list takes);
}

-- the part of a list that belongs to the first choices
front : {A B : Type 0} → List A → List B → List B
front [] zs = []
front (x ∷ xs) [] = []
front (x ∷ xs) (z ∷ zs) = z ∷ front xs zs

zip_front : {A B : Type 0} (R : A → B → Type 0) (xs ys : List A) (zs : List B) → AllZip R (xs ++ ys) zs
    → AllZip R xs (front xs zs)
unfolding front
zip_front R [] ys zs h = tt
zip_front R (x ∷ xs) ys [] h = absurd h
zip_front R (x ∷ xs) ys (z ∷ zs) h = (h.0, zip_front R xs ys zs h.1)

or_right : (x y z : Bool) → (y ≡ true → z ≡ true) → (x || y) ≡ true → (x || z) ≡ true
or_right true y z f h = refl
or_right false y z f h = f h

taken_front : (choices more : List Choice) (list : List ℕ) (p : ℕ)
    → IsTrue (hypotheticals_of choices (front choices list) p) → IsTrue (hypotheticals_of (choices ++ more) list p)
unfolding front
taken_front [] more list p h = absurd (no_true h)
  where
    no_true : false ≡ true → ⊥
    no_true e = cc
taken_front (choice ∷ choices) more [] p h = absurd (no_true h)
  where
    no_true : false ≡ true → ⊥
    no_true e = cc
taken_front (choice ∷ choices) more (side ∷ list) p h =
    or_right (hypothetical choice side == p) (hypotheticals_of choices (front choices list) p)
    (hypotheticals_of (choices ++ more) list p) (taken_front choices more list p) h

union_right : (n s t : Members) → IsPart s t → IsPart (union n s) (union n t)
union_right n s t part p = or_right (n p) (s p) (t p) (part p)

zip_last : {A B : Type 0} (R : A → B → Type 0) (xs : List A) (y : A) (zs : List B) (z : B) → AllZip R xs zs → R y z
    → AllZip R (xs ++ y ∷ []) (zs ++ z ∷ [])
zip_last R [] y [] z h r = (r, tt)
zip_last R [] y (w ∷ zs) z h r = absurd h
zip_last R (x ∷ xs) y [] z h r = absurd h
zip_last R (x ∷ xs) y (w ∷ zs) z h r = (h.0, zip_last R xs y zs z h.1 r)

-- an added choice, no more than one side of which is in the set, keeps it refuted
pub refuted_choice : (problem : Problem) (choices : List Choice) (choice : Choice) (n : Members) →
    (side : ℕ) → IsSide choice side → ((i : ℕ) → IsSide choice i → IsTrue (n (hypothetical choice i)) → i ≡ side) →
    IsRefuted problem choices n → IsRefuted problem (choices ++ choice ∷ []) n
refuted_choice problem choices choice n side is_side only r = record {
  one_side = (
    r.one_side.0 ++ side ∷ [],
    zip_last IsSide choices choice r.one_side.0 side r.one_side.1 is_side,
    zip_last (λ c s. (i : ℕ) → IsSide c i → IsTrue (n (hypothetical c i)) → i ≡ s) choices choice r.one_side.0 side
        r.one_side.2 only,
  );
  always = λ list is_list takes.
      contradictory_more problem (union n (hypotheticals_of choices (front choices list)))
      (union n (hypotheticals_of (choices ++ choice ∷ []) list))
      (union_right n _ _ (taken_front choices (choice ∷ []) list))
      (r.always (front choices list)
      (zip_front IsSide choices (choice ∷ []) list is_list)
      (zip_front (λ c s. (i : ℕ) → IsSide c i → IsTrue (n (hypothetical c i)) → i ≡ s) choices (choice ∷ []) list
      takes));
}

-- the set holds user's premises alone
abbrev IsOfUsers : List Choice → Members → Type 0
IsOfUsers choices n = (p : ℕ) → IsTrue (n p) → is_hypothetical choices p ≡ false

or_none : (x y : Bool) → (x || y) ≡ false → (x ≡ false) × (y ≡ false)
or_none true y h = absurd (no h)
  where
    no : true ≡ false → ⊥
    no e = cc
or_none false y h = (refl, h)

side_is_of : (choice : Choice) (side : ℕ) → IsSide choice side → is_side_of choice (hypothetical choice side) ≡ true
side_is_of choice side h =
    and_from _ _ (le-leb choice.first (choice.first + (side - 1)) (omega arith))
    (lt-ltb (choice.first + (side - 1)) (choice.first + choice.sides) (omega (arith, h.0, h.1)))

users_take : (choices : List Choice) (list : List ℕ) (n : Members) → IsOfUsers choices n → IsChoiceList choices list
    → TakesSidesIn n choices list
users_take [] [] n users h = tt
users_take [] (s ∷ list) n users h = absurd h
users_take (c ∷ choices) [] n users h = absurd h
users_take (c ∷ choices) (s ∷ list) n users h = (
  λ i is_side in_n. absurd (apart (side_is_of c i is_side) (or_none _ _ (users (hypothetical c i) in_n)).0),
  users_take choices list n (λ p in_n. (or_none _ _ (users p in_n)).1) h.1,
)
  where
    apart : {b : Bool} → b ≡ true → b ≡ false → ⊥
    apart p q = cc

union_left : (n t s : Members) → IsPart n t → IsPart (union n s) (union t s)
union_left n t s part p h = either (n p) (t p) (s p) (part p) h
  where
    either : (x y z : Bool) → (x ≡ true → y ≡ true) → (x || z) ≡ true → (y || z) ≡ true
    either true true z f h = refl
    either true false z f h = absurd (no (f refl))
      where
        no : false ≡ true → ⊥
        no e = cc
    either false true z f h = refl
    either false false z f h = h

-- a refuted set of believed user's premises refutes every choice list
pub believed_refutes : (problem : Problem) (choices : List Choice) (believed n : Members) →
    IsOfUsers choices n → IsPart n believed → IsRefuted problem choices n → (list : List ℕ) → IsChoiceList choices list
    → IsListRefuted problem believed choices list
believed_refutes problem choices believed n users part r list is_list =
    contradictory_more problem (union n (hypotheticals_of choices list)) (worldview believed choices list)
    (union_left n believed (hypotheticals_of choices list) part)
    (r.always list is_list (users_take choices list n users is_list))

-- of two choice lists, they are the same or one stands before the other
compared : (choices : List Choice) (l m : List ℕ) → IsChoiceList choices l → IsChoiceList choices m
    → (l ≡ m) ⊎ (IsBefore l m ⊎ IsBefore m l)
compared [] [] [] p q = inl refl
compared [] (a ∷ l) m p q = absurd p
compared [] [] (b ∷ m) p q = absurd q
compared (c ∷ cs) [] m p q = absurd p
compared (c ∷ cs) (a ∷ l) [] p q = absurd q
compared (c ∷ cs) (a ∷ l) (b ∷ m) p q = decide (cases_order a b) (compared cs l m p.1 q.1)
  where
    decide : (a ≡ b) ⊎ ((a < b) ⊎ (b < a)) → (l ≡ m) ⊎ (IsBefore l m ⊎ IsBefore m l)
        → ((a ∷ l) ≡ (b ∷ m)) ⊎ (IsBefore (a ∷ l) (b ∷ m) ⊎ IsBefore (b ∷ m) (a ∷ l))
    decide (inr (inl lt)) r = inr (inl (inl lt))
    decide (inr (inr gt)) r = inr (inr (inl gt))
    decide (inl e) (inl f) = inl cc
    decide (inl e) (inr (inl f)) = inr (inl (inr (e, f)))
    decide (inl e) (inr (inr f)) = inr (inr (inr (sym e, f)))

-- there is at most one first consistent list
pub first_unique : (problem : Problem) (believed : Members) (choices : List Choice) (l m : List ℕ) →
    IsFirstConsistent problem believed choices l → IsFirstConsistent problem believed choices m → l ≡ m
first_unique problem believed choices l m p q = decide (compared choices l m p.is_list q.is_list)
  where
    decide : (l ≡ m) ⊎ (IsBefore l m ⊎ IsBefore m l) → l ≡ m
    decide (inl e) = e
    decide (inr (inl f)) = absurd (q.earlier l p.is_list f p.consistent)
    decide (inr (inr f)) = absurd (p.earlier m q.is_list f q.consistent)

-- added statements and instances keep a conflict one, and a grounded set grounded
pub nogood_extends : (old new : Problem) (choices : List Choice) (n : Members) → Extends old new
    → IsNogood old choices n → IsNogood new choices n
nogood_extends old new choices n more x = record {
  refuted = refuted_extends old new choices n more x.refuted;
  cell = x.cell;
  related = related_extends old new x.cell n more x.related;
}

pub grounded_extends : (old new : Problem) (choices : List Choice) (n : Members) → Extends old new
    → IsGrounded old choices n → IsGrounded new choices n
grounded_extends old new choices n more g p in_n user =
    let x = g p in_n user in (x.0, x.1, nogood_extends old new choices x.0 more x.2, x.3)

-- a choice that is added keeps a set covered
pub covered_choice : (choices : List Choice) (choice : Choice) (listed : List (List ℕ)) (m : Members)
    → IsCovered choices listed m → IsCovered (choices ++ choice ∷ []) listed m
covered_choice choices choice listed m c list is_list =
    has_part-more listed (union m (hypotheticals_of choices (front choices list)))
    (union m (hypotheticals_of (choices ++ choice ∷ []) list))
    (union_right m _ _ (taken_front choices (choice ∷ []) list))
    (c (front choices list) (zip_front IsSide choices (choice ∷ []) list is_list))
