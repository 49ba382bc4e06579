-- Groups in order of their last premises, once a group changes or comes in between.
use Rattle.std.proofs.Common.{◌≡◌, ◌∙◌, ◌<◌, ◌≤◌, ◌-◌, ℕ, zero, suc, true, false, nat_lt, Option, Some, List, []}
use Rattle.std.proofs.Common.{◌∷◌, ◌++◌, length, get_or, take, drop, set, insert, map, refl, sym, ap, subst, arith, inl}
use Rattle.std.proofs.Common.{inr, All, AllPairs, Contains, length-drop, length-set}
use Rattle.std.specs.List.Sorted.{IsNonDecreasingBy, IsPartitionPoint}
use Rattle.std.proofs.Math.Seq.{take-length}
use Rattle.std.proofs.lemmas.Bool.{leb-true}
use Rattle.std.proofs.lemmas.Bool.Decides.{eqb_tells, leb_tells}
use Rattle.std.proofs.lemmas.List.{length-map, take_at, take-append-drop, length-take-le, get_or-take}
use Rattle.std.proofs.lemmas.List.Concat.{flat_map-append}
use Rattle.std.proofs.lemmas.List.Elements.{All-append, All-cons, All-drop, All-filter, All-map, All-set, All-take}
use Rattle.std.proofs.lemmas.List.Elements.{All-weaker, Contains-append_right}
use Rattle.prop_numbers.specs.Sets.{Members}
use Rattle.prop_nogoods.specs.Stores.{PartsEndBelow}
use Rattle.prop_nogoods.specs.inner.Endings.{Group, EndsSo, EndTogether, AreInOrder, HasOneMore, end_of, sets_of}
use Rattle.prop_nogoods.specs.inner.Endings.{left_of, lacking_of}
use Rattle.prop_nogoods.proofs.EndingLemmas.{EndsBelow, ends_below, all_end_below}
use Rattle.prop_nogoods.proofs.PlaceLemmas.{pairs_insert}
use Rattle.prop_nogoods.proofs.StoreLemmas.{is_kept, is_without}

abbrev Rises : Group → Group → Type 0
Rises g h = end_of g.last ≤ end_of h.last

-- where a group stands whose last premise is this one: behind those that end earlier
abbrev pub IsPlaceFor : Option ℕ → List Group → ℕ → Type 0
IsPlaceFor last gs i = IsPartitionPoint (λ g. end_of g.last < end_of last) (λ g. end_of last ≤ end_of g.last) gs i

pub non_decreasing : (gs : List Group) → AreInOrder gs → IsNonDecreasingBy (λ g. end_of g.last) gs
non_decreasing gs order i j d l m = elim (eqb_tells i j) [
  | inl e ↦ rw e.1 (omega arith)
  | inr e ↦ let below = order.rise i j d (omega (arith, l, e.1)) m in omega (arith, below)
]

not_below : (a b : ℕ) → nat_lt a b ≡ false → b ≤ a
not_below a b h = elim (leb_tells (suc a) b) [ inl e ↦ cc (e.0, h) | inr e ↦ omega (arith, e.1) ]

pub place_from : (last : Option ℕ) (gs : List Group) (i : ℕ)
    → IsPartitionPoint (λ g. nat_lt (end_of g.last) (end_of last) ≡ true)
    (λ g. nat_lt (end_of g.last) (end_of last) ≡ false) gs i → IsPlaceFor last gs i
place_from last gs i h = (
  λ k d l m. leb-true (suc (end_of (get_or gs k d).last)) (end_of last) (h.0 k d l m),
  λ k d l m. not_below (end_of (get_or gs k d).last) (end_of last) (h.1 k d l m),
)

-- nogoods that end with a premise still do in another group that ends so
pub together_same : (g h : Group) → h.last ≡ g.last → h.sets ≡ g.sets → EndTogether g → EndTogether h
together_same g h last sets t = subst (λ o. All (EndsSo o) h.sets) (sym last)
    (subst (λ xs. All (EndsSo g.last) xs) (sym sets) t)

pub together_more : (g h : Group) (n : List ℕ) → h.last ≡ g.last → HasOneMore g.sets h.sets n → EndsSo g.last n
    → EndTogether g → EndTogether h
together_more g h n last more one t =
    let ends = EndsSo g.last in
    subst (λ o. All (EndsSo o) h.sets) (sym last) (subst (All ends) (sym more.is)
    (All-append ends (take more.place g.sets) (n ∷ drop more.place g.sets) (All-take ends more.place g.sets t)
    (All-cons ends n (drop more.place g.sets) one (All-drop ends more.place g.sets t))))

pub together_none : (g : Group) → g.sets ≡ [] → EndTogether g
together_none g empty = λ k d l. absurd (omega (arith, l, ap length empty))

-- groups with the same last premises rise alike
rise_same : (gs hs : List Group) → length hs ≡ length gs
    → ((k : ℕ) (d : Group) → (get_or hs k d).last ≡ (get_or gs k d).last)
    → AllPairs Rises gs → AllPairs Rises hs
rise_same gs hs long same rise i j d l m =
    let before = rise i j d l (omega (arith, m, long)) in
    omega (arith, before, ap end_of (same i d), ap end_of (same j d))

set_last : (gs : List Group) (i : ℕ) (y d : Group) → y.last ≡ (get_or gs i d).last → (k : ℕ) (e : Group)
    → (get_or (set gs i y) k e).last ≡ (get_or gs k e).last
set_last [] i y d same k e = refl
set_last (g ∷ gs) zero y d same zero e = same
set_last (g ∷ gs) zero y d same (suc k) e = refl
set_last (g ∷ gs) (suc i) y d same zero e = refl
set_last (g ∷ gs) (suc i) y d same (suc k) e = set_last gs i y d same k e

in_order_set : (gs : List Group) (i : ℕ) (y d : Group) → y.last ≡ (get_or gs i d).last → EndTogether y → AreInOrder gs
    → AreInOrder (set gs i y)
in_order_set gs i y d same t order = record {
  together = All-set EndTogether gs i y t order.together;
  rise = rise_same gs (set gs i y) (length-set gs i y) (set_last gs i y d same) order.rise;
}

-- a group gets more room
pub in_order_set_same : (gs : List Group) (i : ℕ) (y d : Group) → i < length gs → y.last ≡ (get_or gs i d).last
    → y.sets ≡ (get_or gs i d).sets
    → AreInOrder gs → AreInOrder (set gs i y)
in_order_set_same gs i y d l last sets order =
    in_order_set gs i y d last (together_same (get_or gs i d) y last sets (order.together i d l)) order

map_last : (f : Group → Group) → ((g : Group) → (f g).last ≡ g.last) → (gs : List Group) (k : ℕ) (d : Group)
    → (get_or (map f gs) k d).last ≡ (get_or gs k d).last
map_last f same [] k d = refl
map_last f same (g ∷ gs) zero d = same g
map_last f same (g ∷ gs) (suc k) d = map_last f same gs k d

in_order_map : (f : Group → Group) → ((g : Group) → (f g).last ≡ g.last)
    → ((g : Group) → EndTogether g → EndTogether (f g))
    → (gs : List Group) → AreInOrder gs → AreInOrder (map f gs)
in_order_map f same ends gs order = record {
  together = All-map EndTogether f gs (All-weaker EndTogether (λ g. EndTogether (f g)) ends gs order.together);
  rise = rise_same gs (map f gs) (length-map gs f) (map_last f same gs) order.rise;
}

-- what a set is part of goes
in_order_left : (n : List ℕ) (gs : List Group) → AreInOrder gs → AreInOrder (map (left_of n) gs)
in_order_left n gs order = in_order_map (left_of n) (λ g. refl) (λ g t. All-filter (is_kept n) (EndsSo g.last) g.sets t)
    gs order

-- a set joins the group of its last premise
pub in_order_joined : (gs : List Group) (n : List ℕ) (i : ℕ) (x y : Group) (last : Option ℕ) → i < length gs
    → x ≡ get_or (map (left_of n) gs) i x
    → (get_or gs i x).last ≡ last → EndsSo last n → y.last ≡ x.last → HasOneMore x.sets y.sets n → AreInOrder gs
    → AreInOrder (set (map (left_of n) gs) i y)
in_order_joined gs n i x y last l is of ends same more order =
    let left = in_order_left n gs order in
    let hs = map (left_of n) gs in
    let within : i < length hs = omega (arith, l, length-map gs (left_of n)) in
    let so : (get_or hs i x).last ≡ last = map_last (left_of n) (λ g. refl) gs i x ∙ of in
    let now : y.last ≡ (get_or hs i x).last = same ∙ ap (λ (g : Group). g.last) is in
    let one : EndsSo (get_or hs i x).last n = subst (λ o. EndsSo o n) (sym so) ends in
    in_order_set hs i y x now (together_more (get_or hs i x) y n now
    (subst (λ (g : Group). HasOneMore g.sets y.sets n) is more) one (left.together i x within)) left

-- what holds a premise goes, and the rest is written back
pub groups_lacking : (p : ℕ) (gs mid : List Group) (len : ℕ) → mid ≡ map (lacking_of p) gs → len ≡ length gs
    → AreInOrder gs
    → AreInOrder (take len (mid ++ drop (length mid) gs))
groups_lacking p gs mid len e l order =
    let same : length mid ≡ len = omega (arith, l, ap length e, length-map gs (lacking_of p)) in
    subst AreInOrder (sym (take_at mid (drop (length mid) gs) len same ∙ e))
    (in_order_map (lacking_of p) (λ g. refl) (λ g t. All-filter (is_without p) (EndsSo g.last) g.sets t) gs order)

-- a group comes in before those that end like it
pub in_order_insert : (gs : List Group) (i : ℕ) (y : Group) (last : Option ℕ) → i ≤ length gs → y.last ≡ last
    → y.sets ≡ [] → IsPlaceFor last gs i → AreInOrder gs → AreInOrder (insert gs i y)
in_order_insert gs i y last inside is empty place order = record {
  together = All-append EndTogether (take i gs) (y ∷ drop i gs) (All-take EndTogether i gs order.together)
      (All-cons EndTogether y (drop i gs) (together_none y empty) (All-drop EndTogether i gs order.together));
  rise = pairs_insert gs i y inside Rises order.rise
      (λ k d l. let before = place.0 k d (omega arith) l in omega (arith, before, ap end_of is))
      (λ k d l m. let after = place.1 k d l m in omega (arith, after, ap end_of is));
}

-- no nogood of the groups before the place of n lies elsewhere than below it
passed : (w : Members) (n i : ℕ) (gs : List Group) → i ≤ length gs → IsPlaceFor (Some n) gs i → AreInOrder gs
    → All (EndsBelow w n) (take i gs)
passed w n i gs inside place order k d l =
    let within : k < i = omega (arith, l, length-take-le i gs inside) in
    let early = place.0 k d (omega arith) within in
    let is : get_or (take i gs) k d ≡ get_or gs k d = get_or-take i gs k d within in
    subst (EndsBelow w n) (sym is) (ends_below w (get_or gs k d).last n (get_or gs k d).sets (omega (arith, early))
    (order.together k d (omega (arith, within, inside))))

-- what holds of the groups behind the place of n holds of all
pub all_end_below_place : (w : Members) (n i : ℕ) (gs : List Group) → i ≤ length gs → IsPlaceFor (Some n) gs i
    → AreInOrder gs
    → All (EndsBelow w n) (drop i gs) → PartsEndBelow (sets_of gs) w n
all_end_below_place w n i gs inside place order behind =
    all_end_below w n gs (subst (All (EndsBelow w n)) (take-append-drop i gs)
    (All-append (EndsBelow w n) (take i gs) (drop i gs) (passed w n i gs inside place order) behind))

-- a nogood of the groups from a place on is one of all
pub behind_contains : (gs : List Group) (i : ℕ) (n : List ℕ) → Contains (sets_of (drop i gs)) n
    → Contains (sets_of gs) n
behind_contains gs i n c =
    subst (λ hs. Contains (sets_of hs) n) (take-append-drop i gs)
    (subst (λ xs. Contains xs n) (sym (flat_map-append (λ (g : Group). g.sets) (take i gs) (drop i gs)))
    (Contains-append_right (sets_of (take i gs)) (sets_of (drop i gs)) n c))

-- the groups from a place on, as a slice has them
pub rest_is : (gs : List Group) (i : ℕ) → take (length gs - i) (drop i gs) ≡ drop i gs
rest_is gs i = ap (λ m. take m (drop i gs)) (sym (length-drop i gs)) ∙ take-length (drop i gs)
