-- The entry of the table that has a number: what it tells of the premise, and what a write or a cut there does.
use Rattle.std.proofs.Common.{◌≡◌, ℕ, zero, suc, ◌+◌, ◌-◌, ◌<◌, ◌≤◌, Bool, true, false, List, [], ◌∷◌, ◌++◌, length}
use Rattle.std.proofs.Common.{take, replicate, refl, sym, ap, subst, ◌∙◌, arith, ◌==◌, slice_get, get_or, length-append}
use Rattle.std.proofs.Common.{Some, None, Option, IsTrue, IfSome, String, string_bytes}
use Rattle.std.specs.Prelude.{slice_index_or}
use Rattle.std.specs.Option.{option_map, option_map_or}
use Rattle.std.specs.Map.{lookup, keys_of}
use Rattle.std.specs.List.{IsDistinct}
use Rattle.std.specs.String.{string_eq}
use Rattle.std.proofs.lemmas.Option.{slice_get-get_or}
use Rattle.std.proofs.lemmas.List.Quantifiers.{position-Some}
use Rattle.std.proofs.lemmas.Bool.Decides.{nat_tests}
use Rattle.indexmap.specs.Layout.{set_value_at}
use Rattle.prop_premises.specs.declared.named.Named.{Named}
use Rattle.prop_premises.specs.declared.named.Kind.{Kind}
use Rattle.prop_premises.specs.declared.named.Kind.TheVariants as kind
use Rattle.prop_premises.specs.Origins.{Origin, User, Side, is_user, is_user_at, premise_number}
use Rattle.prop_premises.specs.inner.Origins.{is_user_called}
use Rattle.prop_premises.specs.Origins.{is_start, starts, with_belief_at, name_of}
use Rattle.prop_premises.specs.inner.Named.{width, origins_of_kind, origins_of, places_from, IsKind, AreNumberedFrom}
use Rattle.prop_premises.specs.inner.Named.{number_of, user_number}
use Rattle.prop_premises.proofs.LookupLemmas.{names_it, premise_number-lookup}
use Rattle.prop_premises.proofs.OriginLemmas.{is_user_at-at, is_start-at}
use Rattle.prop_premises.proofs.ChoiceLemmas.{slice_get-skip, slice_get-front, slice_get-sides}
use Rattle.prop_premises.proofs.TableLemmas.{Cut, cut, length-places, length-kind, origins_of-append}
use Rattle.prop_premises.proofs.TableLemmas.{places_from-append, numbered-first, numbered-second, numbered-both}

-- What is told of a number by the entry that has it: the entry, and which of its numbers it is.
pub record At {A : Type 0} (es : List (String A × Named)) (p q : ℕ) (e : String A × Named) : Type 0 where
  pub side : ℕ
  pub fits : IsKind e.1.kind
  pub number : p ≡ e.1.first + side
  pub inside : side < width e.1.kind
  pub origin : slice_get (origins_of es) p ≡ slice_get (origins_of_kind (string_bytes e.0) e.1.kind) side

at_whole : {A : Type 0} (front rest : List (String A × Named)) (e : String A × Named) (side p q : ℕ) → q ≡ length front
    → p ≡ length (origins_of front) + side → side < width e.1.kind →
    AreNumberedFrom 0 (front ++ e ∷ rest) → At (front ++ e ∷ rest) p q e
at_whole front rest e side p q place number inside h =
    let second = numbered-second 0 front (e ∷ rest) (length (origins_of front)) (omega arith) h in
    record {
      side = side;
      fits = second.1;
      number = omega (arith, number, second.0);
      inside = inside;
      origin = ap (λ l. slice_get l p) (origins_of-append front (e ∷ rest))
          ∙ slice_get-skip (origins_of front) (origins_of (e ∷ rest)) side p number
          ∙ slice_get-front (origins_of_kind (string_bytes e.0) e.1.kind) (origins_of rest) side
          (omega (arith, inside, length-kind (string_bytes e.0) e.1.kind));
    }

entry_whole : {A : Type 0} (front rest : List (String A × Named)) (e : String A × Named) (q : ℕ) → q ≡ length front
    → slice_get (front ++ e ∷ rest) q ≡ Some e
entry_whole front rest e q place = slice_get-skip front (e ∷ rest) 0 q (omega (arith, place))

same_some : {X : Type 0} (x y : X) → Some x ≡ Some y → x ≡ y
same_some x y e = cc

-- the entry at the place that a number has
pub at : {A : Type 0} (es : List (String A × Named)) (p q : ℕ) → AreNumberedFrom 0 es
    → slice_get (places_from 0 es) p ≡ Some q → (e : String A × Named) × (slice_get es q ≡ Some e) × At es p q e
at es p q h place = by (cut 0 es p q place)
  where
    by : Cut 0 es p q → (e : String _ × Named) × (slice_get es q ≡ Some e) × At es p q e
    by c =
        let front : q ≡ length c.front = omega (arith, c.place) in
        let whole = at_whole c.front c.rest c.entry c.side p q front c.number c.inside
        (subst (AreNumberedFrom 0) c.whole h) in (
          c.entry,
          ap (λ l. slice_get l q) c.whole
              ∙ entry_whole c.front c.rest c.entry q front,
          subst (λ l. At l p q c.entry) (sym c.whole) whole,
        )

-- the same, of an entry that was found there
pub at_entry : {A : Type 0} (es : List (String A × Named)) (p q : ℕ) (e : String A × Named) → AreNumberedFrom 0 es
    → slice_get (places_from 0 es) p ≡ Some q → slice_get es q ≡ Some e → At es p q e
at_entry es p q e h place entry =
    let found = at es p q h place in
    subst (At es p q) (same_some found.0 e (sym found.1 ∙ entry)) found.2

-- ---- which premise it is

user_at : (name : List ℕ) (k : Kind) (side : ℕ) (believed : Bool) → k ≡ kind.User believed → side < width k
    → slice_get (origins_of_kind name k) side ≡ Some (User name believed)
user_at name k zero believed e l = ap (λ x. slice_get (origins_of_kind name x) 0) e
user_at name k (suc side) believed e l = absurd (omega (arith, l, ap width e))

side_of_choice : (name : List ℕ) (k : Kind) (side sides : ℕ) → k ≡ kind.Choice sides → side < width k
    → slice_get (origins_of_kind name k) side ≡ Some (Side name (suc side) sides)
side_of_choice name k side sides e l = ap (λ x. slice_get (origins_of_kind name x) side) e
    ∙ slice_get-sides name sides sides side (omega (arith, l, ap width e))

pub premise_at : {A : Type 0} (es : List (String A × Named)) (p q : ℕ) (e : String A × Named) (believed : Bool)
    → At es p q e → e.1.kind ≡ kind.User believed
    → slice_get (origins_of es) p ≡ Some (User (string_bytes e.0) believed)
premise_at es p q e believed a k = a.origin ∙ user_at (string_bytes e.0) e.1.kind a.side believed k a.inside

pub first_at : {A : Type 0} (es : List (String A × Named)) (p q : ℕ) (e : String A × Named) (believed : Bool)
    → At es p q e → e.1.kind ≡ kind.User believed → e.1.first ≡ p
first_at es p q e believed a k = omega (arith, a.number, a.inside, ap width k)

-- where a side stands among those of its choice
pub record SideAt (first p sides : ℕ) : Type 0 where
  pub low : first ≤ p
  pub high : p - first < sides
  pub few : sides ≤ 8

pub side_bounds : {A : Type 0} (es : List (String A × Named)) (p q : ℕ) (e : String A × Named) (sides : ℕ) → At es p q e
    → e.1.kind ≡ kind.Choice sides → SideAt e.1.first p sides
side_bounds es p q e sides a k =
    let fits = subst IsKind k a.fits in
    record {
      low = omega (arith, a.number);
      high = omega (arith, a.number, a.inside, ap width k);
      few = fits.1;
    }

pub choice_at : {A : Type 0} (es : List (String A × Named)) (p q : ℕ) (e : String A × Named) (sides : ℕ) → At es p q e
    → e.1.kind ≡ kind.Choice sides →
    slice_get (origins_of es) p ≡ Some (Side (string_bytes e.0) (p - e.1.first + 1) sides)
choice_at es p q e sides a k =
    let side : suc a.side ≡ p - e.1.first + 1 = omega (arith, a.number) in
    a.origin ∙ side_of_choice (string_bytes e.0) e.1.kind a.side sides k a.inside
    ∙ ap (λ i. Some (Side (string_bytes e.0) i sides)) side

-- ---- a belief that is written

set_value_at-skip : {A : Type 0} (front rest : List (String A × Named)) (e : String A × Named) (w : Named) (q : ℕ)
    → q ≡ length front → set_value_at (front ++ e ∷ rest) q w ≡ front ++ (e.0, w) ∷ rest
set_value_at-skip [] rest e w zero h = refl
set_value_at-skip [] rest e w (suc q) h = absurd (omega (arith, h))
set_value_at-skip (x ∷ front) rest e w zero h = absurd (omega (arith, h))
set_value_at-skip (x ∷ front) rest e w (suc q) h =
    ap (λ l. x ∷ l) (set_value_at-skip front rest e w q (omega (arith, h)))

with_belief_at-skip : (xs ys : List Origin) (name : List ℕ) (was believed : Bool) (p : ℕ) → p ≡ length xs
    → with_belief_at (xs ++ User name was ∷ ys) p believed ≡ xs ++ User name believed ∷ ys
with_belief_at-skip [] ys name was believed zero h = refl
with_belief_at-skip [] ys name was believed (suc p) h = absurd (omega (arith, h))
with_belief_at-skip (x ∷ xs) ys name was believed zero h = absurd (omega (arith, h))
with_belief_at-skip (x ∷ xs) ys name was believed (suc p) h =
    ap (λ l. x ∷ l) (with_belief_at-skip xs ys name was believed p (omega (arith, h)))

-- What holds of a table in which the belief of the premise p was written.
pub record Written {A : Type 0} (es fs : List (String A × Named)) (p : ℕ) (believed : Bool) : Type 0 where
  pub origins : origins_of fs ≡ with_belief_at (origins_of es) p believed
  pub numbered : AreNumberedFrom 0 fs
  pub places : places_from 0 fs ≡ places_from 0 es

written_whole : {A : Type 0} (front rest : List (String A × Named)) (e : String A × Named) (was believed : Bool) (p : ℕ)
    → e.1.kind ≡ kind.User was → p ≡ length (origins_of front) →
    AreNumberedFrom 0 (front ++ e ∷ rest)
    → Written (front ++ e ∷ rest) (front ++ (e.0, record { first = p; kind = kind.User believed }) ∷ rest) p
    believed
written_whole front rest e was believed p k number h =
    let second = numbered-second 0 front (e ∷ rest) (length (origins_of front)) (omega arith) h in
    let tail = subst (λ n. AreNumberedFrom (length (origins_of front) + n) rest) (ap width k) second.2 in
    let w : Named = record { first = p; kind = kind.User believed } in
    record {
      origins = origins_of-append front ((e.0, w) ∷ rest)
          ∙ sym (with_belief_at-skip (origins_of front) (origins_of rest) (string_bytes e.0) was believed p number)
          ∙ ap (λ x. with_belief_at (origins_of front ++ (origins_of_kind (string_bytes e.0) x ++ origins_of rest)) p
          believed) (sym k)
          ∙ ap (λ l. with_belief_at l p believed) (sym (origins_of-append front (e ∷ rest)));
      numbered = numbered-both 0 front ((e.0, w) ∷ rest) (length (origins_of front)) (omega arith)
          (numbered-first 0 front (e ∷ rest) h) (number, tt, tail);
      places = places_from-append 0 front ((e.0, w) ∷ rest) (length front) (omega arith)
          ∙ ap (λ x. places_from 0 front ++ (replicate (width x) (length front) ++ places_from (suc (length front))
          rest)) (sym k)
          ∙ sym (places_from-append 0 front (e ∷ rest) (length front) (omega arith));
    }

user_kind : (name : List ℕ) (k : Kind) (side : ℕ) → side < width k
    → option_map_or is_user (slice_get (origins_of_kind name k) side) false ≡ true → (was : Bool) × (k ≡ kind.User was)
user_kind name (kind.User was) side l h = (was, refl)
user_kind name (kind.Choice sides) side l h =
    cc (ap (λ o. option_map_or is_user o false) (slice_get-sides name sides sides side l), h)

pub written : {A : Type 0} (es : List (String A × Named)) (p q : ℕ) (believed : Bool) → AreNumberedFrom 0 es
    → slice_get (places_from 0 es) p ≡ Some q → IsTrue (is_user_at (origins_of es) p) →
    Written es (set_value_at es q (record { first = p; kind = kind.User believed })) p believed
written es p q believed h place user = by (cut 0 es p q place)
  where
    w : Named
    w = record { first = p; kind = kind.User believed }

    by : Cut 0 es p q → Written es (set_value_at es q w) p believed
    by c =
        let front : q ≡ length c.front = omega (arith, c.place) in
        let numbered = subst (AreNumberedFrom 0) c.whole h in
        let whole = at_whole c.front c.rest c.entry c.side p q front c.number c.inside numbered in
        let is_one = sym (ap (λ o. option_map_or is_user o false) whole.origin)
        ∙ sym (is_user_at-at (origins_of (c.front ++ c.entry ∷ c.rest)) p)
        ∙ ap (λ l. is_user_at (origins_of l) p) (sym c.whole) ∙ user in
        let k = user_kind (string_bytes c.entry.0) c.entry.1.kind whole.side whole.inside is_one in
        let number : p ≡ length (origins_of c.front) = omega (arith, c.number, c.inside, ap width k.1) in
        subst (λ l. Written l (set_value_at l q w) p believed) (sym c.whole)
        (subst (λ l. Written (c.front ++ c.entry ∷ c.rest) l p believed)
        (sym (set_value_at-skip c.front c.rest c.entry w q front))
        (written_whole c.front c.rest c.entry k.0 believed p k.1 number numbered))

-- ---- names that are dropped

pub take-front : {X : Type 0} (xs ys : List X) (n : ℕ) → n ≡ length xs → take n (xs ++ ys) ≡ xs
take-front [] ys zero e = refl
take-front [] ys (suc n) e = absurd (omega (arith, e))
take-front (x ∷ xs) ys zero e = absurd (omega (arith, e))
take-front (x ∷ xs) ys (suc n) e = ap (λ l. x ∷ l) (take-front xs ys n (omega (arith, e)))

-- What holds of a table from which the numbers from p on were dropped.
pub record Dropped {A : Type 0} (es fs : List (String A × Named)) (p : ℕ) : Type 0 where
  pub origins : origins_of fs ≡ take p (origins_of es)
  pub numbered : AreNumberedFrom 0 fs
  pub places : take p (places_from 0 es) ≡ places_from 0 fs

first_side : (name : List ℕ) (k : Kind) (side : ℕ) → side < width k
    → option_map_or starts (slice_get (origins_of_kind name k) side) true ≡ true → side ≡ 0
first_side name (kind.User was) side l h = omega (arith, l)
first_side name (kind.Choice sides) side l h =
    let one : (suc side == 1) ≡ true = sym
    (ap (λ o. option_map_or starts o true) (slice_get-sides name sides sides side l)) ∙ h in
    grind (arith, nat_tests)

dropped_whole : {A : Type 0} (front rest : List (String A × Named)) (p q : ℕ) → q ≡ length front
    → p ≡ length (origins_of front) → AreNumberedFrom 0 (front ++ rest)
    → Dropped (front ++ rest) (take q (front ++ rest)) p
dropped_whole front rest p q place number h =
    let left : front ≡ take q (front ++ rest) = sym (take-front front rest q place) in
    let kept : Dropped (front ++ rest) front p = record {
      origins = sym (ap (take p) (origins_of-append front rest)
          ∙ take-front (origins_of front) (origins_of rest) p number);
      numbered = numbered-first 0 front rest h;
      places = ap (take p) (places_from-append 0 front rest (length front) (omega arith))
          ∙ take-front (places_from 0 front) (places_from (length front) rest) p
          (omega (arith, number, length-places 0 front));
    } in
    subst (λ l. Dropped (front ++ rest) l p) left kept

pub dropped : {A : Type 0} (es : List (String A × Named)) (p q : ℕ) → AreNumberedFrom 0 es
    → slice_get (places_from 0 es) p ≡ Some q → IsTrue (is_start (origins_of es) p) → p < length (origins_of es)
    → Dropped es (take q es) p
dropped es p q h place start within = by (cut 0 es p q place)
  where
    by : Cut 0 es p q → Dropped es (take q es) p
    by c =
        let front : q ≡ length c.front = omega (arith, c.place) in
        let numbered = subst (AreNumberedFrom 0) c.whole h in
        let whole = subst (λ l. At l p q c.entry) (sym c.whole)
        (at_whole c.front c.rest c.entry c.side p q front c.number c.inside numbered) in
        let is_first = sym (ap (λ o. option_map_or starts o true) whole.origin)
        ∙ sym (is_start-at (origins_of es) p within) ∙ start in
        let zero_side = first_side (string_bytes c.entry.0) c.entry.1.kind whole.side whole.inside is_first in
        let second = numbered-second 0 c.front (c.entry ∷ c.rest) (length (origins_of c.front)) (omega arith) numbered
        in
        let number : p ≡ length (origins_of c.front) = omega (arith, whole.number, zero_side, second.0) in
        subst (λ l. Dropped l (take q l) p) (sym c.whole)
        (dropped_whole c.front (c.entry ∷ c.rest) p q front number numbered)

-- ---- as a table has them

-- the place at a number, as it is read
read_place : (items : List ℕ) (p q k : ℕ) → p < length items → k ≡ slice_index_or items p k → q ≡ k
    → slice_get items p ≡ Some q
read_place items p q k l e f = slice_get-get_or items p k l ∙ ap Some (sym e ∙ sym f)

pub dropped_at : {A : Type 0} (es : List (String A × Named)) (items : List ℕ) (now : List Origin) (p q k : ℕ)
    → AreNumberedFrom 0 es → items ≡ places_from 0 es → origins_of es ≡ now → IsTrue (is_start now p) → p < length items
    →
    k ≡ slice_index_or items p k → q ≡ k → Dropped es (take q es) p
dropped_at es items now p q k h same view start l e f =
    dropped es p q h (subst (λ xs. slice_get xs p ≡ Some q) same (read_place items p q k l e f))
    (subst (λ os. IsTrue (is_start os p)) (sym view) start)
    (omega (arith, l, ap length same, length-places 0 es))

pub written_at : {A : Type 0} (es : List (String A × Named)) (items : List ℕ) (now : List Origin) (p q k : ℕ)
    (believed : Bool) → AreNumberedFrom 0 es → items ≡ places_from 0 es → origins_of es ≡ now
    → IsTrue (is_user_at now p) → p < length items →
    k ≡ slice_index_or items p k → q ≡ k
    → Written es (set_value_at es q (record { first = p; kind = kind.User believed })) p believed
written_at es items now p q k believed h same view user l e f =
    written es p q believed h (subst (λ xs. slice_get xs p ≡ Some q) same (read_place items p q k l e f))
    (subst (λ os. IsTrue (is_user_at os p)) (sym view) user)

pub entry_at : {A : Type 0} (es : List (String A × Named)) (items : List ℕ) (p q k : ℕ) → AreNumberedFrom 0 es
    → items ≡ places_from 0 es → p < length items → k ≡ slice_index_or items p k → q ≡ k → q < length es
entry_at es items p q k h same l e f =
    by (cut 0 es p q (subst (λ xs. slice_get xs p ≡ Some q) same (read_place items p q k l e f)))
  where
    by : Cut 0 es p q → q < length es
    by c = omega (arith, c.place, ap length c.whole, length-append c.front (c.entry ∷ c.rest))

-- what has the number of a name is the user's
called_user : (os : List Origin) (p : ℕ) (name : List ℕ) (d : Origin) → p < length os
    → is_user_called name (get_or os p d) ≡ true → is_user_at os p ≡ true
called_user [] p name d l h = absurd (omega (arith, l))
called_user (User other believed ∷ os) zero name d l h = refl
called_user (Side other side sides ∷ os) zero name d l h = cc
called_user (o ∷ os) (suc p) name d l h = called_user os p name d (omega (arith, l)) h

pub number_is_user : (os : List Origin) (name : List ℕ) (p : ℕ) → premise_number os name ≡ Some p
    → IsTrue (is_user_at os p)
number_is_user os name p e = let x =
    position-Some (is_user_called name) os p (User [] true) e in called_user os p name (User [] true) x.0 x.1

-- what is found for a name
pub found_is_user : (os : List Origin) (name : List ℕ) (found : Option ℕ) → found ≡ premise_number os name
    → IfSome found (λ p. IsTrue (is_user_at os p))
found_is_user os name None e = tt
found_is_user os name (Some p) e = number_is_user os name p (sym e)

-- the entry at the place that is read for a number
pub told_at : {A : Type 0} (es : List (String A × Named)) (items : List ℕ) (p q k : ℕ) (e : String A × Named)
    → AreNumberedFrom 0 es → items ≡ places_from 0 es → p < length items → k ≡ slice_index_or items p k → q ≡ k
    → Some e ≡ slice_get es q → At es p q e
told_at es items p q k e h same l read f entry =
    at_entry es p q e h (subst (λ xs. slice_get xs p ≡ Some q) same (read_place items p q k l read f)) (sym entry)

pub no_item : {X : Type 0} (xs : List X) (i : ℕ) → length xs ≤ i → slice_get xs i ≡ None
no_item [] i l = refl
no_item (x ∷ xs) zero l = absurd (omega (arith, l))
no_item (x ∷ xs) (suc i) l = no_item xs i (omega (arith, l))

pub some_item : {X : Type 0} (xs : List X) (i : ℕ) → i < length xs → None ≡ slice_get xs i → ⊥
some_item [] i l e = omega (arith, l)
some_item (x ∷ xs) zero l e = cc
some_item (x ∷ xs) (suc i) l e = some_item xs i (omega (arith, l)) e

-- ---- the name of a number

pub name_told : {A : Type 0} (es : List (String A × Named)) (p q : ℕ) (e : String A × Named) → At es p q e
    → option_map name_of (slice_get (origins_of es) p) ≡ Some (string_bytes e.0)
name_told es p q e a = by e.1.kind refl
  where
    by : (k : Kind) → e.1.kind ≡ k → option_map name_of (slice_get (origins_of es) p) ≡ Some (string_bytes e.0)
    by (kind.User believed) same = ap (option_map name_of) (premise_at es p q e believed a same)
    by (kind.Choice sides) same = ap (option_map name_of) (choice_at es p q e sides a same)

pub number_told : {A : Type 0} (es : List (String A × Named)) (p q : ℕ) (e : String A × Named) → AreNumberedFrom 0 es
    → IsDistinct string_eq (keys_of es) → At es p q e → lookup (names_it (string_bytes e.0)) es ≡ Some e.1
    → IsTrue (is_user_at (origins_of es) p) →
    premise_number (origins_of es) (string_bytes e.0) ≡ Some p
number_told es p q e h unique a value user =
    let is_one = sym (ap (λ o. option_map_or is_user o false) a.origin) ∙ sym (is_user_at-at (origins_of es) p)
    ∙ user in
    let k = user_kind (string_bytes e.0) e.1.kind a.side a.inside is_one in
    premise_number-lookup (string_bytes e.0) es h unique ∙ ap number_of value ∙ ap (user_number e.1.first) k.1
    ∙ ap Some (first_at es p q e k.0 a k.1)
