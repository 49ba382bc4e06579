-- One statement more that is made under a side.
use Rattle.std.specs.Prelude.{◌≡◌, ◌≢◌, ◌<◌, ◌+◌, ◌⊎◌, ℕ, zero, suc, Bool, true, false, List, [], ◌∷◌, ◌++◌}
use Rattle.std.specs.Prelude.{All, Contains, Some, length, map, nat_lt, slice_get, if◌then◌else◌}
use Rattle.std.proofs.Common.{◌∙◌, ap, arith, get_or, inl, inr, refl, subst, sym}
use Rattle.std.proofs.Math.ListN.{set, length-set}
use Rattle.std.proofs.lemmas.Bool.{lt-ltb, ltb-true}
use Rattle.std.proofs.lemmas.List.{get_or-map, get_or-set_other, get_or-set_same, length-map, map-set}
use Rattle.std.proofs.lemmas.List.Elements.{All-head, All-nil, All-push, All-tail}
use Rattle.std.proofs.lemmas.List.Elements.{Contains-append_left, Contains-push, Contains-push_cases}
use Rattle.prop_premises.specs.declared.choice.Choice.{Choice}
use Rattle.std.proofs.lemmas.Option.{slice_get-get_or}
use Rattle.prop_cells.specs.Points.{Attached}
use Rattle.prop_cells.specs.declared.instance.Statement.{Statement}
use Rattle.prop_deriving.specs.Sidings.{AreListed, AreSidings, AreTouching, IsSided, Sidings, noted, row_at, sided_more}
use Rattle.prop_deriving.specs.declared.sides.Sided.{Sided}

same_or_other : (a b : ℕ) → (a ≡ b) ⊎ (a ≢ b)
same_or_other zero zero = inl refl
same_or_other zero (suc b) = inr (λ e. omega (arith, e))
same_or_other (suc a) zero = inr (λ e. omega (arith, e))
same_or_other (suc a) (suc b) =
    elim (same_or_other a b) [ inl e ↦ inl (ap suc e) | inr n ↦ inr (λ e. n (omega (arith, e))) ]

-- what stands in a list with one more element
at_push : {X : Type 0} (xs : List X) (y : X) (k : ℕ) (x : X) → slice_get (xs ++ y ∷ []) k ≡ Some x
    → (slice_get xs k ≡ Some x) ⊎ ((k ≡ length xs) × (y ≡ x))
at_push [] y zero x e = inr (refl, cc)
at_push [] y (suc k) x e = cc
at_push (z ∷ xs) y zero x e = inl e
at_push (z ∷ xs) y (suc k) x e =
    elim (at_push xs y k x e) [ inl a ↦ inl a | inr b ↦ inr (ap suc b.0, b.1) ]

-- ---- a number that is noted at a place

abbrev noted_if : Bool → List (List ℕ) → ℕ → ℕ → List (List ℕ)
noted_if b rows place number = if b then set rows place (row_at rows place ++ number ∷ []) else rows

length_if : (b : Bool) (rows : List (List ℕ)) (place number : ℕ) → length (noted_if b rows place number) ≡ length rows
length_if true rows place number = length-set rows place (row_at rows place ++ number ∷ [])
length_if false rows place number = refl

pub length-noted : (rows : List (List ℕ)) (place number : ℕ) → length (noted rows place number) ≡ length rows
length-noted rows place number = length_if (nat_lt place (length rows)) rows place number

kept_if : (b : Bool) (rows : List (List ℕ)) (place number p k : ℕ) → (b ≡ true → place < length rows)
    → Contains (row_at rows p) k → Contains (row_at (noted_if b rows place number) p) k
kept_if true rows place number p k within h =
    let row : List ℕ = row_at rows place ++ number ∷ [] in
    let P : List ℕ → Type 0 = λ r. Contains r k in
    elim (same_or_other p place) [
      | inl e ↦
          let here : Contains row k = Contains-append_left (row_at rows place) (number ∷ []) k
          (let Q : ℕ → Type 0 = λ q. Contains (row_at rows q) k in subst Q e h) in
          let R : ℕ → Type 0 = λ q. Contains (row_at (set rows place row) q) k in
          subst R (sym e) (subst P (sym (get_or-set_same rows place row [] (within refl))) here)
      | inr n ↦ subst P (sym (get_or-set_other rows place p row [] n)) h
    ]
kept_if false rows place number p k within h = h

-- what stood at a place does still
pub noted_keeps : (rows : List (List ℕ)) (place number p k : ℕ) → Contains (row_at rows p) k
    → Contains (row_at (noted rows place number) p) k
noted_keeps rows place number p k h =
    kept_if (nat_lt place (length rows)) rows place number p k (ltb-true place (length rows)) h

there_if : (b : Bool) (rows : List (List ℕ)) (place number : ℕ) → b ≡ true → place < length rows
    → Contains (row_at (noted_if b rows place number) place) number
there_if true rows place number e within =
    let row : List ℕ = row_at rows place ++ number ∷ [] in
    let P : List ℕ → Type 0 = λ r. Contains r number in
    subst P (sym (get_or-set_same rows place row [] within)) (Contains-push (row_at rows place) number)
there_if false rows place number e within = cc

noted_yes : (rows : List (List ℕ)) (place number : ℕ) → place < length rows
    → noted rows place number ≡ set rows place (row_at rows place ++ number ∷ [])
noted_yes rows place number h =
    ap (λ (b : Bool). noted_if b rows place number) (lt-ltb place (length rows) h)

-- it stands there
pub noted_there : (rows : List (List ℕ)) (place number : ℕ) → place < length rows
    → Contains (row_at (noted rows place number) place) number
noted_there rows place number h =
    there_if (nat_lt place (length rows)) rows place number (lt-ltb place (length rows) h) h

from_if : (b : Bool) (rows : List (List ℕ)) (place number p k : ℕ)
    → (b ≡ true → place < length rows) → Contains (row_at (noted_if b rows place number) p) k
    → Contains (row_at rows p) k ⊎ ((k ≡ number) × (p ≡ place))
from_if true rows place number p k within h =
    let row : List ℕ = row_at rows place ++ number ∷ [] in
    let P : List ℕ → Type 0 = λ r. Contains r k in
    elim (same_or_other p place) [
      | inl e ↦
          let R : ℕ → Type 0 = λ q. Contains (row_at (set rows place row) q) k in
          let here : Contains row k = subst P (get_or-set_same rows place row [] (within refl)) (subst R e h) in
          elim (Contains-push_cases (row_at rows place) number k here) [
            | inl old ↦ inl (let Q : ℕ → Type 0 = λ q. Contains (row_at rows q) k in subst Q (sym e) old)
            | inr new ↦ inr (sym new, e)
          ]
      | inr n ↦ inl (subst P (get_or-set_other rows place p row [] n) h)
    ]
from_if false rows place number p k within h = inl h

-- what stands at a place did before, or was noted there
noted_from : (rows : List (List ℕ)) (place number p k : ℕ)
    → Contains (row_at (noted rows place number) p) k
    → Contains (row_at rows p) k ⊎ ((k ≡ number) × (p ≡ place))
noted_from rows place number p k h =
    from_if (nat_lt place (length rows)) rows place number p k (ltb-true place (length rows)) h

-- a row in which a number is noted
pub touched : {R : Type 0} (f : R → List ℕ) (rows : List R) (place number : ℕ) (old new : R) → place < length rows
    → old ≡ get_or rows place old → f new ≡ f old ++ number ∷ []
    → map f (set rows place new) ≡ noted (map f rows) place number
touched f rows place number old new within at more =
    let many : length (map f rows) ≡ length rows = length-map rows f in
    let inside : place < length (map f rows) = omega (arith, many, within) in
    let row : f old ≡ row_at (map f rows) place = ap f at ∙ sym (get_or-map f rows place old [] within) in
    map-set f rows place new ∙ ap (λ r. set (map f rows) place r) (more ∙ ap (λ r. r ++ number ∷ []) row)
    ∙ sym (noted_yes (map f rows) place number inside)

pub sidings_touched : (old inside new : Sidings) (place number : ℕ) → inside ≡ old → new.sided ≡ inside.sided
    → new.touching ≡ noted inside.touching place number
    → new ≡ record { sided = old.sided; touching = noted old.touching place number }
sidings_touched old inside new place number e a b =
    let Q : Sidings → Type 0 = λ s. new ≡ record { sided = s.sided; touching = noted s.touching place number } in
    subst Q e (ap (λ t. record { sided = t; touching = new.touching }) a
    ∙ ap (λ t. record { sided = inside.sided; touching = t }) b)

-- ---- one more

-- the new one stands at its cell and at its choice
new_listed : (s : Sidings) (x : Sided) (place : ℕ) → (place ≡ x.cell) ⊎ (place ≡ x.choice)
    → place < length s.touching → Contains (row_at (sided_more s x).touching place) (length s.sided)
new_listed s x place (inl at) within =
    let number : ℕ = length s.sided in
    let P : ℕ → Type 0 = λ p. p < length s.touching → Contains (row_at (sided_more s x).touching p) number in
    subst P (sym at) (λ h. noted_keeps (noted s.touching x.cell number) x.choice number x.cell number
    (noted_there s.touching x.cell number h)) within
new_listed s x place (inr at) within =
    let number : ℕ = length s.sided in
    let once : List (List ℕ) = noted s.touching x.cell number in
    let one : length once ≡ length s.touching = length-noted s.touching x.cell number in
    let P : ℕ → Type 0 = λ p. p < length s.touching → Contains (row_at (sided_more s x).touching p) number in
    subst P (sym at) (λ h. noted_there once x.choice number (omega (arith, one, h))) within

listed_more : (s : Sidings) (x : Sided) → AreListed s → AreListed (sided_more s x)
listed_more s x h k y place e touches within =
    let number : ℕ = length s.sided in
    let once : List (List ℕ) = noted s.touching x.cell number in
    let one : length once ≡ length s.touching = length-noted s.touching x.cell number in
    let two : length (noted once x.choice number) ≡ length once = length-noted once x.choice number in
    let old : place < length s.touching = omega (arith, one, two, within) in
    elim (at_push s.sided x k y e) [
      | inl before ↦ noted_keeps once x.choice number place k
          (noted_keeps s.touching x.cell number place k (h k y place before touches old))
      | inr now ↦
          let P : ℕ → Type 0 = λ q. Contains (row_at (sided_more s x).touching place) q in
          let Q : Sided → Type 0 = λ z. (place ≡ z.cell) ⊎ (place ≡ z.choice) in
          subst P (sym now.0) (new_listed s x place (subst Q (sym now.1) touches) old)
    ]

push_old : {X : Type 0} (xs : List X) (y x : X) (k : ℕ) → slice_get xs k ≡ Some x → slice_get (xs ++ y ∷ []) k ≡ Some x
push_old [] y x k e = cc
push_old (z ∷ xs) y x zero e = e
push_old (z ∷ xs) y x (suc k) e = push_old xs y x k e

push_new : {X : Type 0} (xs : List X) (y : X) → slice_get (xs ++ y ∷ []) (length xs) ≡ Some y
push_new [] y = refl
push_new (z ∷ xs) y = push_new xs y

-- the new one is the one with its number
new_touching : (s : Sidings) (x : Sided) (k place : ℕ) → k ≡ length s.sided
    → (place ≡ x.cell) ⊎ (place ≡ x.choice)
    → (y : Sided) × (slice_get (sided_more s x).sided k ≡ Some y) × ((place ≡ y.cell) ⊎ (place ≡ y.choice))
new_touching s x k place e at = (
  x,
  let P : ℕ → Type 0 = λ j. slice_get (sided_more s x).sided j ≡ Some x in
      subst P (sym e) (push_new s.sided x),
  at,
)

touching_more : (s : Sidings) (x : Sided) → AreTouching s → AreTouching (sided_more s x)
touching_more s x h k place there =
    let number : ℕ = length s.sided in
    elim (noted_from (noted s.touching x.cell number) x.choice number place k there) [
      | inl before ↦ elim (noted_from s.touching x.cell number place k before) [
        | inl old ↦ let y = h k place old in (y.0, push_old s.sided x y.0 k y.1, y.2)
        | inr new ↦ new_touching s x k place new.0 (inl new.1)
      ]
      | inr new ↦ new_touching s x k place new.0 (inr new.1)
    ]

pub sidings_more : (n : Attached) (choices : List Choice) (s : Sidings) (x : Sided) → AreSidings n choices s
    → IsSided n choices x → AreSidings n choices (sided_more s x)
sidings_more n choices s x h is = record {
  places = length-noted (noted s.touching x.cell (length s.sided)) x.choice (length s.sided)
      ∙ length-noted s.touching x.cell (length s.sided) ∙ h.places;
  stated = All-push (IsSided n choices) s.sided x h.stated is;
  listed = listed_more s x h.listed;
  touch = touching_more s x h.touch;
}

-- ---- none at first

empty_at : {R : Type 0} (f : R → List ℕ) (rows : List R) (place : ℕ) → All (λ r. f r ≡ []) rows
    → row_at (map f rows) place ≡ []
empty_at f [] place h = refl
empty_at f (r ∷ rows) zero h = All-head (λ s. f s ≡ []) r rows h
empty_at f (r ∷ rows) (suc place) h = empty_at f rows place (All-tail (λ s. f s ≡ []) r rows h)

pub no_sidings : {R : Type 0} (n : Attached) (choices : List Choice) (sided : List Sided) (f : R → List ℕ)
    (rows : List R) → sided ≡ [] → length rows ≡ length n.kinds + length choices → All (λ r. f r ≡ []) rows
    → AreSidings n choices (record { sided = sided; touching = map f rows })
no_sidings n choices sided f rows empty many none =
    let P : List Sided → Type 0 = λ xs. AreSidings n choices (record { sided = xs; touching = map f rows }) in
    let at_first : P [] = record {
      places = length-map rows f ∙ many;
      stated = All-nil (IsSided n choices);
      listed = λ k x place e touches within. cc;
      touch = λ k place there. let Q : List ℕ → Type 0 = λ r. Contains r k in
          let in_none : Contains [] k = subst Q (empty_at f rows place none) there in absurd (omega (arith, in_none.1));
    } in subst P (sym empty) at_first

-- ---- what a statement says that is made under a side

pub sided_is : (n : Attached) (choices : List Choice) (choice : Choice) (statements : List Statement) (said : Statement)
    (x : Sided) (number : ℕ) → statements ≡ n.statements → slice_get choices number ≡ Some choice
    → x.statement < length statements → said ≡ get_or statements x.statement said → said.cell ≡ x.cell
    → said.info ≡ x.info → x.side < choice.sides → said.premise ≡ Some (choice.first + x.side)
    → x.choice ≡ length n.kinds + number → IsSided n choices x
sided_is n choices choice statements said x number same at within read cell info side premise place = record {
  premise = choice.first + x.side;
  of = ap (λ xs. slice_get xs x.statement) (sym same) ∙ slice_get-get_or statements x.statement said within
      ∙ ap Some (sym read)
      ∙ ap (λ p. Some (record { premise = p; cell = said.cell; info = said.info })) premise
      ∙ ap (λ k. Some (record { premise = Some (choice.first + x.side); cell = k; info = said.info })) cell
      ∙ ap (λ i. Some (record { premise = Some (choice.first + x.side); cell = x.cell; info = i })) info;
  number = number;
  place = place;
  side = record { of = choice; at = at; within = side; same = refl };
}
