-- The nogoods of groups, once a group changes.
use Rattle.std.proofs.Common.{◌≡◌, ◌∙◌, ◌<◌, ◌≤◌, ◌+◌, ◌-◌, ◌||◌, ◌==◌, ℕ, zero, suc, Bool, true, false, nat_lt, Option}
use Rattle.std.proofs.Common.{inl, inr, IsTrue, List, [], ◌∷◌, ◌++◌, length, get_or, take, drop, set, insert, map, not}
use Rattle.std.proofs.Common.{refl, sym, ap, subst, arith, All, Contains, append_assoc}
use Rattle.std.specs.List.{flat_map, AllByRecursion}
use Rattle.std.specs.List.Sorted.{IsStrictlyIncreasing}
use Rattle.std.proofs.Math.Seq.{map-set_same}
use Rattle.std.proofs.lemmas.Bool.{leb-true}
use Rattle.std.proofs.lemmas.Bool.Decides.{eqb_tells, leb_tells}
use Rattle.std.proofs.lemmas.List.{length-map, take-append-drop, take_at}
use Rattle.std.proofs.lemmas.List.Concat.{flat_map-append}
use Rattle.std.proofs.lemmas.List.Edits.{insert-append_left, insert-append_right}
use Rattle.std.proofs.lemmas.List.Elements.{All-append, All-contains, Contains-append_left, Contains-append_right}
use Rattle.std.proofs.lemmas.List.Elements.{Contains-get_or, filter-append}
use Rattle.std.proofs.lemmas.List.Filters.{length-filter_both}
use Rattle.std.proofs.lemmas.List.Folds.{flat_map-map}
use Rattle.prop_numbers.proofs.MergeLemmas.{Rising, rising_from_increasing}
use Rattle.prop_numbers.proofs.WithinLemmas.{within_has, within_from}
use Rattle.prop_numbers.specs.Sets.{Members, set_of, is_within, is_below}
use Rattle.prop_nogoods.specs.Stores.{has_part, staying, lacking, PartsEndBelow}
use Rattle.prop_nogoods.specs.inner.Endings.{Group, EndsSo, HasOneMore, HasRoomFor, end_of, sets_of, left_of, lacking_of}
use Rattle.prop_nogoods.proofs.StoreLaws.{has_part-from}
use Rattle.prop_nogoods.specs.inner.Stores.{IsPartOfNone}
use Rattle.prop_nogoods.proofs.StoreLemmas.{is_kept, is_without, staying_all}

-- a group that keeps its nogoods
pub sets_of-set_same : (gs : List Group) (i : ℕ) (y d : Group) → y.sets ≡ (get_or gs i d).sets
    → sets_of (set gs i y) ≡ sets_of gs
sets_of-set_same gs i y d same =
    sym (flat_map-map (λ (x : List (List ℕ)). x) (λ (g : Group). g.sets) (set gs i y))
    ∙ ap (flat_map (λ (x : List (List ℕ)). x)) (map-set_same (λ (g : Group). g.sets) gs i y d same)
    ∙ flat_map-map (λ (x : List (List ℕ)). x) (λ (g : Group). g.sets) gs

-- one group more, without nogoods
pub sets_of-insert_empty : (gs : List Group) (i : ℕ) (y : Group) → y.sets ≡ [] → sets_of (insert gs i y) ≡ sets_of gs
sets_of-insert_empty gs i y empty =
    flat_map-append (λ (g : Group). g.sets) (take i gs) (y ∷ drop i gs)
    ∙ ap (λ xs. flat_map (λ (g : Group). g.sets) (take i gs) ++ (xs ++ flat_map (λ (g : Group). g.sets) (drop i gs)))
    empty
    ∙ sym (flat_map-append (λ (g : Group). g.sets) (take i gs) (drop i gs))
    ∙ ap sets_of (take-append-drop i gs)

-- each group without what a set is part of
pub sets_of-left : (n : List ℕ) (gs : List Group) → sets_of (map (left_of n) gs) ≡ staying (sets_of gs) n
sets_of-left n [] = refl
sets_of-left n (g ∷ gs) = ap (λ xs. staying g.sets n ++ xs) (sets_of-left n gs)
    ∙ sym (filter-append (is_kept n) g.sets (sets_of gs))

-- where a set is part of none, each group stays as it is
pub left_all : (n : List ℕ) (gs : List Group) → IsPartOfNone (sets_of gs) n → gs ≡ map (left_of n) gs
left_all n [] none = refl
left_all n (g ∷ gs) none =
    ap (λ xs. record g { sets = xs } ∷ gs) (staying_all g.sets n here)
    ∙ ap (λ hs. left_of n g ∷ hs) (left_all n gs there)
  where
    of : (line : List ℕ) → Contains (sets_of (g ∷ gs)) line → is_within (set_of line) n ≡ false
    of line c = All-contains (λ m. is_within (set_of m) n ≡ false) (sets_of (g ∷ gs)) line none c

    here : IsPartOfNone g.sets n
    here k d l = of (get_or g.sets k d)
        (Contains-append_left g.sets (sets_of gs) (get_or g.sets k d) (Contains-get_or g.sets k d l))

    there : IsPartOfNone (sets_of gs) n
    there k d l = of (get_or (sets_of gs) k d)
        (Contains-append_right g.sets (sets_of gs) (get_or (sets_of gs) k d) (Contains-get_or (sets_of gs) k d l))

-- each group without what holds a premise
pub sets_of-lacking : (p : ℕ) (gs : List Group) → sets_of (map (lacking_of p) gs) ≡ lacking (sets_of gs) p
sets_of-lacking p [] = refl
sets_of-lacking p (g ∷ gs) = ap (λ xs. lacking g.sets p ++ xs) (sets_of-lacking p gs)
    ∙ sym (filter-append (is_without p) g.sets (sets_of gs))

-- the same, written back in place of them
pub lacking_written : (p : ℕ) (gs mid : List Group) (len : ℕ) → mid ≡ map (lacking_of p) gs → len ≡ length gs
    → sets_of (take len (mid ++ drop (length mid) gs)) ≡ lacking (sets_of gs) p
lacking_written p gs mid len e l =
    let same : length mid ≡ len = omega (arith, l, ap length e, length-map gs (lacking_of p)) in
    ap sets_of (take_at mid (drop (length mid) gs) len same ∙ e) ∙ sets_of-lacking p gs

insert_after : (xs ys : List (List ℕ)) (p : ℕ) (n : List ℕ) → xs ++ insert ys p n ≡ insert (xs ++ ys) (length xs + p) n
insert_after xs ys p n =
    let back : length xs + p - length xs ≡ p = omega arith in
    sym (insert-append_right xs ys (length xs) (length xs + p) n refl (omega arith)
    ∙ ap (λ k. xs ++ insert ys k n) back)

-- one nogood more in a group
pub sets_of-one_more : (gs : List Group) (i : ℕ) (y d : Group) (n : List ℕ) → i < length gs
    → HasOneMore (get_or gs i d).sets y.sets n
    → (place : ℕ) × (sets_of (set gs i y) ≡ insert (sets_of gs) place n)
sets_of-one_more [] i y d n l more = absurd (omega (arith, l))
sets_of-one_more (g ∷ gs) zero y d n l more = (
  more.place,
  ap (λ xs. xs ++ sets_of gs) more.is
      ∙ sym (insert-append_left g.sets (sets_of gs) more.place n more.inside),
)
sets_of-one_more (g ∷ gs) (suc i) y d n l more =
    let rest = sets_of-one_more gs i y d n (omega (arith, l)) more in
    (length g.sets + rest.0, ap (λ xs. g.sets ++ xs) rest.1 ∙ insert_after g.sets (sets_of gs) rest.0 n)

-- what is left of the groups is written back in place of them
pub left_written : (n : List ℕ) (gs mid : List Group) (len : ℕ) → mid ≡ map (left_of n) gs → len ≡ length gs
    → take len (mid ++ drop (length mid) gs) ≡ map (left_of n) gs
left_written n gs mid len e l =
    let same : length mid ≡ len = omega (arith, l, ap length e, length-map gs (left_of n)) in
    take_at mid (drop (length mid) gs) len same ∙ e

-- the group that is read back
pub got_left : (n : List ℕ) (gs mid : List Group) (len i : ℕ) (x : Group) → mid ≡ map (left_of n) gs → len ≡ length gs
    → x ≡ get_or (take len (mid ++ drop (length mid) gs)) i x → x ≡ get_or (map (left_of n) gs) i x
got_left n gs mid len i x e l is = is ∙ ap (λ ys. get_or ys i x) (left_written n gs mid len e l)

-- what is left of the group at a place
pub left_at : (n : List ℕ) (gs : List Group) (i : ℕ) (x : Group) → i < length gs → x ≡ get_or (map (left_of n) gs) i x
    → x ≡ left_of n (get_or gs i x)
left_at n [] i x l is = absurd (omega (arith, l))
left_at n (g ∷ gs) zero x l is = is
left_at n (g ∷ gs) (suc i) x l is = left_at n gs i x (omega (arith, l)) is

-- there is as much room as before
pub left_room : (n : List ℕ) (gs : List Group) (i : ℕ) (x : Group) → i < length gs → x ≡ get_or (map (left_of n) gs) i x
    → HasRoomFor n (get_or gs i x) → HasRoomFor n x
left_room n gs i x l is had =
    let fewer = length-filter_both (is_kept n) (λ line. not (is_kept n line)) (λ line. refl) (get_or gs i x).sets in
    rw (left_at n gs i x l is)
    (record { room = omega (arith, had.room, fewer); has = had.has; no_larger = had.no_larger })

-- a set joins the groups: one of them has it, and what it is part of is gone
pub sets_of-joined : (old : List (List ℕ)) (gs : List Group) (n : List ℕ) (i : ℕ) (x y : Group) → sets_of gs ≡ old
    → i < length gs
    → x ≡ get_or (map (left_of n) gs) i x → HasOneMore x.sets y.sets n
    → (place : ℕ) × (sets_of (set (map (left_of n) gs) i y) ≡ insert (staying old n) place n)
sets_of-joined old gs n i x y from l is more =
    let long = length-map gs (left_of n) in
    let joined = sets_of-one_more (map (left_of n) gs) i y x n (omega (arith, l, long))
    (subst (λ (g : Group). HasOneMore g.sets y.sets n) is more) in
    (joined.0, joined.1 ∙ ap (λ xs. insert xs joined.0 n) (sets_of-left n gs ∙ ap (λ xs. staying xs n) from))

nat_lt_true : (a b : ℕ) → a < b → nat_lt a b ≡ true
nat_lt_true a b l = elim (leb_tells (suc a) b) [ inl e ↦ e.0 | inr e ↦ absurd (omega (arith, l, e.1)) ]

-- a nogood of a group is one of all
pub group_contains : (gs : List Group) (i : ℕ) (d : Group) (n : List ℕ) → i < length gs
    → Contains (get_or gs i d).sets n → Contains (sets_of gs) n
group_contains [] i d n l c = absurd (omega (arith, l))
group_contains (g ∷ gs) zero d n l c = Contains-append_left g.sets (sets_of gs) n c
group_contains (g ∷ gs) (suc i) d n l c =
    Contains-append_right g.sets (sets_of gs) n (group_contains gs i d n (omega (arith, l)) c)

-- the group's nogoods that are part of the set lie below n
abbrev pub EndsBelow : Members → ℕ → Group → Type 0
EndsBelow w n g = PartsEndBelow g.sets w n

-- what holds of each group's nogoods holds of all
pub all_end_below : (w : Members) (n : ℕ) (gs : List Group) → All (EndsBelow w n) gs → PartsEndBelow (sets_of gs) w n
all_end_below w n [] all = λ k d l. absurd (omega (arith, l))
all_end_below w n (g ∷ gs) all =
    All-append (λ line. IsTrue (is_within w line) → IsTrue (is_below n line)) g.sets (sets_of gs)
    (all 0 g (omega arith))
    (all_end_below w n gs (λ k d l. all (suc k) d (omega (arith, l))))

-- numbers below n are below what is no less
is_below-more : (n m : ℕ) (ps : List ℕ) → n ≤ m → is_below n ps ≡ true → is_below m ps ≡ true
is_below-more n m ps l h = within_from (λ p. nat_lt p m) ps (λ p t.
    let below = leb-true (suc p) n (within_has (λ q. nat_lt q n) ps p h t) in
    nat_lt_true p m (omega (arith, below, l)))

-- nogoods of a group that ends before n lie below it
pub ends_below : (w : Members) (last : Option ℕ) (n : ℕ) (listed : List (List ℕ)) → end_of last ≤ n
    → All (EndsSo last) listed → PartsEndBelow listed w n
ends_below w last n listed l all = λ k d m is_part. is_below-more (end_of last) n (get_or listed k d) l (all k d m).1

-- where no nogood is part of the set, none is that doesn't lie below n
pub end_below_where_none : (w : Members) (n : ℕ) (listed : List (List ℕ)) → has_part listed w ≡ false
    → PartsEndBelow listed w n
end_below_where_none w n listed none = λ k d m is_part.
    let has = has_part-from listed w (get_or listed k d) (Contains-get_or listed k d m)
    (λ p t. within_has w (get_or listed k d) p is_part t) in cc (has, none)

-- a number of a list is in its set
pub has_middle : (xs ys : List ℕ) (x : ℕ) → set_of (xs ++ x ∷ ys) x ≡ true
has_middle [] ys x = elim (eqb_tells x x) [ inl e ↦ rw e.0 refl | inr e ↦ absurd (e.1 refl) ]
has_middle (y ∷ xs) ys x = either (y == x) (set_of (xs ++ x ∷ ys) x) (has_middle xs ys x)
  where
    either : (a b : Bool) → b ≡ true → (a || b) ≡ true
    either true b e = refl
    either false b e = e

-- what comes up in order is below one above the last that came
pub passed_below : (all xs ys : List ℕ) (x : ℕ) → IsStrictlyIncreasing all → (xs ++ x ∷ []) ++ ys ≡ all
    → is_below (x + 1) (xs ++ x ∷ []) ≡ true
passed_below all xs ys x up so_far =
    by xs (rising_from_increasing (xs ++ x ∷ ys)
    (subst IsStrictlyIncreasing (sym so_far ∙ append_assoc xs (x ∷ []) ys) up))
  where
    above : (y : ℕ) (zs : List ℕ) → AllByRecursion (λ z. y < z) (zs ++ x ∷ ys) → y < x
    above y [] h = h.0
    above y (z ∷ zs) h = above y zs h.1

    by : (zs : List ℕ) → Rising (zs ++ x ∷ ys) → is_below (x + 1) (zs ++ x ∷ []) ≡ true
    by [] h = rw (nat_lt_true x (x + 1) (omega arith)) refl
    by (y ∷ zs) h = let l = above y zs h.0 in rw (nat_lt_true y (x + 1) (omega (arith, l))) (by zs h.1)
