-- What meets a nogood when a literal of it was replaced.
use Rattle.std.proofs.Common.{◌≢◌, ◌<◌, ◌-◌, add-one, set, take, drop, ◌+◌, zero, suc, Result, Ok, Err, OnErr, OnOk}
use Rattle.std.proofs.Common.{◌≡◌, ℕ, Bool, true, false, ◌||◌, List, [], ◌∷◌, ◌++◌, length, Option, Some, None}
use Rattle.std.proofs.Common.{slice_get, refl, sym, subst, ◌∙◌, arith, IsTrue, All, get_or, ◌⊎◌, inl, inr}
use Rattle.std.specs.List.{swap_remove}
use Rattle.std.proofs.lemmas.List.Elements.{All-cons, All-head, All-nil, All-tail, All-weaker}
use Rattle.std.proofs.lemmas.List.{get_or-set_other, get_or-set_same, get_or-take, length-set, length-take-le}
use Rattle.std.proofs.lemmas.Bool.{cases_lt}
use Rattle.std.proofs.lemmas.List.Sorted.{All-permutation, IsPermutation-swap_remove, IsPermutation-sym}
use Rattle.std.proofs.lemmas.Option.{get_or_from_slice_get, none-some, same_Some, slice_get_read, slice_get_within}
use Rattle.prop_lattice.specs.Points.{Point, Holds}
use Rattle.prop_numbers.specs.Sets.{Members, IsPart, IsSame, set_of, union}
use Rattle.prop_premises.specs.ChoiceLists.{IsChoiceList, hypotheticals_of, worldview}
use Rattle.prop_premises.specs.declared.choice.Choice.{Choice}
use Rattle.prop_procedures.specs.Stored.{Stored}
use Rattle.prop_procedures.specs.declared.shape.Param.{Param}
use Rattle.prop_cells.specs.Points.{Attached, ArePoints}
use Rattle.prop_cells.specs.Problems.{is_member}
use Rattle.prop_cells.specs.declared.instance.Statement.{Statement}
use Rattle.prop_facts.specs.Facts.{IsInRange, IsSo}
use Rattle.prop_facts.specs.declared.fact.Fact.{Fact}
use Rattle.prop_facts.specs.declared.fact.Literal.{Literal}
use Rattle.prop_refuting.specs.Nogoods.{IsMet, IsNeverMet, IsReplaced, Narrows, Nogood, Replaces, ReplacesUnder}
use Rattle.prop_refuting.specs.Nogoods.{Resolves}
use Rattle.prop_plans.specs.Held.{AreHeld}
use Rattle.prop_refuting.specs.Places.{IsSoAt, point_at}
use Rattle.prop_refuting.proofs.PlaceLemmas.{place_in_range}

-- ---- fewer premises

pub or_first : (a b : Bool) → IsTrue a → IsTrue (a || b)
or_first true b h = refl
or_first false b h = cc

pub or_second : (a b : Bool) → IsTrue b → IsTrue (a || b)
or_second true b h = refl
or_second false b h = h

or_cases : (a b : Bool) → IsTrue (a || b) → IsTrue a ⊎ IsTrue b
or_cases true b h = inl refl
or_cases false b h = inr h

pub part_of_union : (s t : Members) → IsPart s (union s t)
part_of_union s t p h = or_first (s p) (t p) h

pub second_part_of_union : (s t : Members) → IsPart t (union s t)
second_part_of_union s t p h = or_second (s p) (t p) h

pub part_along : (s t u : Members) → IsSame u t → IsPart s t → IsPart s u
part_along s t u e h p k = let P : Bool → Type 0 = IsTrue in subst P (sym (e p)) (h p k)

pub part_same : (s t : List ℕ) → s ≡ t → IsPart (set_of t) (set_of s)
part_same s t e p h = let P : List ℕ → Type 0 = λ u. IsTrue (set_of u p) in subst P (sym e) h

pub world_grows : (s t : Members) (choices : List Choice) (list : List ℕ) → IsPart s t
    → IsPart (worldview s choices list) (worldview t choices list)
world_grows s t choices list h p k = elim (or_cases (s p) (hypotheticals_of choices list p) k) [
  | inl a ↦ or_first (t p) (hypotheticals_of choices list p) (h p a)
  | inr b ↦ or_second (t p) (hypotheticals_of choices list p) b
]

member_grows : (s t : Members) (o : Option ℕ) → IsPart s t → IsTrue (is_member s o) → IsTrue (is_member t o)
member_grows s t None h k = k
member_grows s t (Some p) h k = h p k

-- what satisfies more satisfies less
pub satisfy_less : {related : ℕ → Param → List Point → Point → Type 0} (n : Attached) (s t : Members)
    (points : ℕ → Point) → IsPart s t → ArePoints related n t points → ArePoints related n s points
satisfy_less {related} n s t points h p = record {
  of_kind = p.of_kind;
  stated = All-weaker (λ (x : Statement). IsTrue (is_member t x.premise) → Holds x.info (points x.cell))
      (λ x. IsTrue (is_member s x.premise) → Holds x.info (points x.cell))
      (λ x f k. f (member_grows s t x.premise h k)) n.statements p.stated;
  together = p.together;
}

-- ---- a literal that went

pub all_with : {X : Type 0} (P : X → Type 0) (xs : List X) (at : ℕ) (x : X) → slice_get xs at ≡ Some x → P x
    → All P (swap_remove xs at x) → All P xs
all_with {X} P xs at x e here rest =
    All-permutation P (x ∷ swap_remove xs at x) xs
    (IsPermutation-sym xs (x ∷ swap_remove xs at x) (IsPermutation-swap_remove xs at x (slice_get_within xs at x e)
    (sym (get_or_from_slice_get xs at x x e))))
    (All-cons P x (swap_remove xs at x) here rest)

pub all_first : {X : Type 0} (P : X → Type 0) (xs ys : List X) → All P (xs ++ ys) → All P xs
all_first P [] ys h = All-nil P
all_first P (x ∷ xs) ys h =
    All-cons P x xs (All-head P x (xs ++ ys) h) (all_first P xs ys (All-tail P x (xs ++ ys) h))

pub all_second : {X : Type 0} (P : X → Type 0) (xs ys : List X) → All P (xs ++ ys) → All P ys
all_second P [] ys h = h
all_second P (x ∷ xs) ys h = all_second P xs ys (All-tail P x (xs ++ ys) h)

-- what holds of one element, of those before it and of those behind holds of all
pub all_around : {X : Type 0} (P : X → Type 0) (xs : List X) (k l : ℕ) (x : X) → l ≡ suc k → slice_get xs k ≡ Some x
    → P x → All P (take k xs) → All P (drop l xs) → All P xs
all_around P [] k l x s e here before behind = absurd (none-some x e)
all_around P (y ∷ xs) zero l x s e here before behind =
    All-cons P y xs (let Q = P in subst Q (sym (same_Some y x e)) here)
    (let Q : ℕ → Type 0 = λ m. All P (drop m (y ∷ xs)) in subst Q s behind)
all_around P (y ∷ xs) (suc k) l x s e here before behind =
    All-cons P y xs (All-head P y (take k xs) before) (all_around P xs k (suc k) x refl e here
    (All-tail P y (take k xs) before) (let Q : ℕ → Type 0 = λ m. All P (drop m (y ∷ xs)) in subst Q s behind))

module _ (library : List Stored) (n : Attached) (choices : List Choice) where
  -- what satisfies the premises and has the facts that came has the one that went
  abbrev pub Says : List ℕ → List Literal → Literal → Type 0
  Says premises more x = (list : List ℕ) (points : ℕ → Point) → IsChoiceList choices list
      → ArePoints (AreHeld library) n (worldview (set_of premises) choices list) points
      → All (IsSoAt n points list) more → IsSoAt n points list x

  pub came : (at : ℕ) (more : List Literal) (old new : Nogood) (x : Literal) (list : List ℕ) (points : ℕ → Point)
      → slice_get old.literals at ≡ Some x → IsReplaced old.literals at more new.literals
      → IsMet library n choices new list points
      → All (IsSoAt n points list) (swap_remove old.literals at x) × All (IsSoAt n points list) more
  came at more old new x list points e r m =
      let so = (let Q : List Literal → Type 0 = All (IsSoAt n points list) in subst Q (r x e) m.so) in (
        all_first (IsSoAt n points list) (swap_remove old.literals at x) more so,
        all_second (IsSoAt n points list) (swap_remove old.literals at x) more so,
      )

  pub met_before : (at : ℕ) (more : List Literal) (old new : Nogood) (x : Literal) (list : List ℕ) (points : ℕ → Point)
      → slice_get old.literals at ≡ Some x → IsReplaced old.literals at more new.literals
      → IsPart (set_of old.premises) (set_of new.premises) → IsMet library n choices new list points
      → IsSoAt n points list x → IsMet library n choices old list points
  met_before at more old new x list points e r part m so = record {
    satisfied = satisfy_less n (worldview (set_of old.premises) choices list)
        (worldview (set_of new.premises) choices list) points
        (world_grows (set_of old.premises) (set_of new.premises) choices list part) m.satisfied;
    so = all_with (IsSoAt n points list) old.literals at x e so (came at more old new x list points e r m).0;
  }

  pub replaced_under : (at : ℕ) (more : List Literal) (old new : Nogood) (x : Literal)
      → slice_get old.literals at ≡ Some x → IsReplaced old.literals at more new.literals
      → IsPart (set_of old.premises) (set_of new.premises) → Says new.premises more x
      → Narrows library n choices old new
  replaced_under at more old new x e r part says list points c m =
      met_before at more old new x list points e r part m
      (says list points c m.satisfied (came at more old new x list points e r m).1)

  pub replaced : (at : ℕ) (more : List Literal) (old new : Nogood) (x : Literal) → slice_get old.literals at ≡ Some x
      → Replaces old at more new → Says new.premises more x → Narrows library n choices old new
  replaced at more old new x e r = replaced_under at more old new x e r.literals
      (part_same new.premises old.premises r.premises)

  -- ---- a literal that is one of the others

  pub resolved : (at which : ℕ) (rest : List Literal) (old other new : Nogood) (x denied : Literal)
      → slice_get old.literals at ≡ Some x → slice_get other.literals which ≡ Some denied
      → ReplacesUnder old at (take which other.literals ++ drop (which + 1) other.literals ++ rest)
      other.premises new
      → ((list : List ℕ) (points : ℕ → Point) → IsChoiceList choices list
      → ArePoints (AreHeld library) n (worldview (set_of new.premises) choices list) points
      → All (IsSoAt n points list) rest → IsSoAt n points list x ⊎ IsSoAt n points list denied)
      → Resolves library n choices old other new
  resolved at which rest old other new x denied e f r says list points c m =
      let more = take which other.literals ++ drop (which + 1) other.literals ++ rest in
      let so = (came at more old new x list points e r.literals m).1 in
      let P = IsSoAt n points list in
      let front = all_first P (take which other.literals ++ drop (which + 1) other.literals) rest so in
      let back = all_second P (take which other.literals ++ drop (which + 1) other.literals) rest so in
      let before = all_first P (take which other.literals) (drop (which + 1) other.literals) front in
      let behind = all_second P (take which other.literals) (drop (which + 1) other.literals) front in
      let old_part = part_along (set_of old.premises) (union (set_of old.premises) (set_of other.premises))
      (set_of new.premises) r.premises (part_of_union (set_of old.premises) (set_of other.premises)) in
      let other_part = part_along (set_of other.premises) (union (set_of old.premises) (set_of other.premises))
      (set_of new.premises) r.premises (second_part_of_union (set_of old.premises) (set_of other.premises)) in
      elim (says list points c m.satisfied back) [
        | inl here ↦ inl (met_before at more old new x list points e r.literals old_part m here)
        | inr there ↦ inr (record {
          satisfied = satisfy_less n (worldview (set_of other.premises) choices list)
              (worldview (set_of new.premises) choices list) points
              (world_grows (set_of other.premises) (set_of new.premises) choices list other_part) m.satisfied;
          so = all_around P other.literals which (which + 1) denied (add-one which) f there before behind;
        })
      ]

-- a literal that was read is the one at its place
pub read_is : {X : Type 0} (xs ys : List X) (at : ℕ) (x r : X) → ys ≡ xs → r ≡ get_or ys at r
    → slice_get xs at ≡ Some x → r ≡ x
read_is {X} xs ys at x r same e f =
    (let P : List X → Type 0 = λ zs. r ≡ get_or zs at r in subst P same e) ∙ get_or_from_slice_get xs at x r f

pub read_at : {X : Type 0} (xs ys : List X) (at : ℕ) (r : X) → ys ≡ xs → r ≡ get_or ys at r → at < length xs
    → slice_get xs at ≡ Some r
read_at {X} xs ys at r same e l = slice_get_read xs (length xs) at r refl l
    (let P : List X → Type 0 = λ zs. r ≡ get_or zs at r in subst P same e)

-- ---- where memory may be refused

pub ok_step : {T E : Type 0} (r : Result T E) (x : T) (A : Type 0) → r ≡ Ok x → OnOk r A → A
ok_step (Ok y) x A e h = h
ok_step (Err y) x A e h = let no : ⊥ = cc in absurd no

pub ok_or_same : {T E : Type 0} (r : Result T E) (A B P : Type 0) → OnErr r A → OnOk r B → (A → P) → (B → P) → P
ok_or_same (Ok x) A B P e o f g = g o
ok_or_same (Err x) A B P e o f g = f e

pub same_narrows : (library : List Stored) (n : Attached) (choices : List Choice) (old new : Nogood) → new ≡ old
    → Narrows library n choices old new
same_narrows library n choices old new e list points c m =
    let P : Nogood → Type 0 = λ g. IsMet library n choices g list points in subst P e m

-- ---- no points have both

pub clash_never : (library : List Stored) (n : Attached) (choices : List Choice) (g : Nogood) (one other : Fact)
    (place : ℕ) → ((p : Point) → IsInRange p → IsSo one p → IsSo other p → ⊥)
    → g.literals ≡ record { place = place; fact = one } ∷ record { place = place; fact = other } ∷ []
    → IsNeverMet library n choices g
clash_never library n choices g one other place never e list points c m =
    never (point_at n points list place) (place_in_range n points m.satisfied list place) (so.0) (so.1)
  where
    so : IsSo one (point_at n points list place) × IsSo other (point_at n points list place)
    so = let Q : List Literal → Type 0 = All (IsSoAt n points list) in let h = subst Q e m.so in (
      All-head (IsSoAt n points list) (record { place = place; fact = one })
          (record { place = place; fact = other } ∷ []) h,
      All-head (IsSoAt n points list) (record { place = place; fact = other }) []
          (All-tail (IsSoAt n points list) (record { place = place; fact = one })
          (record { place = place; fact = other } ∷ []) h),
    )

-- ---- a literal that another one says

kept_low : {X : Type 0} (P : X → Type 0) (xs : List X) (at other : ℕ) (x y : X) → other < length xs - 1
    → slice_get xs other ≡ Some y → (other ≢ at) → All P (swap_remove xs at x) → P y
kept_low {X} P xs at other x y l e n h =
    let last = get_or xs (length xs - 1) x in
    let Q : X → Type 0 = P in
    subst Q (get_or-take (length xs - 1) (set xs at last) other y l
    ∙ (get_or-set_other xs at other last y n ∙ get_or_from_slice_get xs other y y e))
    (h other y (rw (length-take-le (length xs - 1) (set xs at last) (rw length-set (omega arith))) l))

kept_last : {X : Type 0} (P : X → Type 0) (xs : List X) (at other : ℕ) (x y : X) → at < length xs - 1
    → other ≡ length xs - 1 → slice_get xs other ≡ Some y → All P (swap_remove xs at x) → P y
kept_last {X} P xs at other x y l o e h =
    let last = get_or xs (length xs - 1) x in
    let Q : X → Type 0 = P in
    let is : last ≡ y = (let R : ℕ → Type 0 = λ k. get_or xs k x ≡ y in
    subst R o (get_or_from_slice_get xs other y x e)) in
    subst Q (get_or-take (length xs - 1) (set xs at last) at y l ∙ (get_or-set_same xs at last y (omega arith) ∙ is))
    (h at y (rw (length-take-le (length xs - 1) (set xs at last) (rw length-set (omega arith))) l))

pub kept_so : {X : Type 0} (P : X → Type 0) (xs : List X) (at other : ℕ) (x y : X) → at < length xs
    → slice_get xs other ≡ Some y → (at ≢ other) → All P (swap_remove xs at x) → P y
kept_so {X} P xs at other x y l e n h =
    let within = slice_get_within xs other y e in
    elim (cases_lt other (length xs - 1)) [
      | inl low ↦ kept_low P xs at other x y low e (λ q. n (sym q)) h
      | inr top ↦ kept_last P xs at other x y (omega arith) (omega arith) e h
    ]

pub repeated_narrows : (library : List Stored) (n : Attached) (choices : List Choice) (old new : Nogood) (at other : ℕ)
    (x y : Literal) → slice_get old.literals at ≡ Some x → slice_get old.literals other ≡ Some y → (at ≢ other)
    → y.place ≡ x.place → ((p : Point) → IsInRange p → IsSo y.fact p → IsSo x.fact p) → Replaces old at [] new
    → Narrows library n choices old new
repeated_narrows library n choices old new at other x y e f differ same implies r list points c m =
    met_before library n choices at [] old new x list points e r.literals
    (part_same new.premises old.premises r.premises) m so
  where
    there : IsSoAt n points list y
    there = kept_so (IsSoAt n points list) old.literals at other x y (slice_get_within old.literals at x e) f differ
        (came library n choices at [] old new x list points e r.literals m).0

    so : IsSoAt n points list x
    so = implies (point_at n points list x.place) (place_in_range n points m.satisfied list x.place)
        (let P : ℕ → Type 0 = λ k. IsSo y.fact (point_at n points list k) in subst P same there)
