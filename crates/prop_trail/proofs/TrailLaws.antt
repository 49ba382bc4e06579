-- The places as the entries leave them.
use Rattle.std.proofs.Common.{◌≡◌, ◌≢◌, ◌∙◌, ◌⊎◌, ℕ, zero, suc, ◌+◌, ◌<◌, ◌≤◌, Option, None, Some, List, [], ◌∷◌}
use Rattle.std.proofs.Common.{◌++◌, length, get_or, take, map, ap, sym, refl, subst, arith, inl, inr, ℤ, IfSome, All}
use Rattle.std.proofs.Common.{get_or-set_other, get_or-set_same}
use Rattle.std.proofs.Math.ListN.{set, length-set}
use Rattle.std.proofs.lemmas.Bool.{cases_eq, cases_lt}
use Rattle.std.proofs.lemmas.List.{set-set, set-get_or, length_push, take_more, get_or-map, get_or_past, length-take-le}
use Rattle.std.proofs.lemmas.List.{length-take, length-map, get_or-take, get_or_read}
use Rattle.prop_lattice.specs.declared.info.Info.{Info}
use Rattle.prop_lattice.specs.declared.info.Info.TheVariants.{Nothing, Span, Set, Sym, Contradiction}
use Rattle.prop_lattice.specs.Order.{Below, merge_of}
use Rattle.prop_lattice.specs.Points.{Number}
use Rattle.prop_lattice.specs.laws.OrderLaws.{info_laws}
use Rattle.prop_trail.specs.Narrowing.{IsTight, IsNarrowed}
use Rattle.prop_trail.specs.Places.{root_of, without_out, made, unmade, IsLeftIn}
use Rattle.prop_trail.specs.Trails.{place_at, after, all_after}
use Rattle.prop_trail.specs.Windows.{Ruled, IsOut, flipped, window_of}
use Rattle.prop_trail.specs.declared.entry.Entry.{Entry}
use Rattle.prop_trail.specs.declared.entry.Source.{Source}
use Rattle.prop_trail.specs.declared.entry.Source.TheVariants.{Decision}
use Rattle.prop_trail.specs.declared.place.Place.{Place}
use Rattle.prop_trail.specs.inner.Making.{IsMadeOn, AreMade, IsTrail, IsSpan}
use Rattle.prop_trail.proofs.WindowLaws.{flipped_twice, out_or_same, none_out}

-- ---- one entry more, one less

pub after_last : (at : ℕ) (ps : List Place) (es : List Entry) (e : Entry)
    → all_after at ps (es ++ e ∷ []) ≡ after (all_after at ps es) (at + length es) e
after_last at ps [] e = let n : at ≡ at + 0 = omega arith in ap (λ (k : ℕ). after ps k e) n
after_last at ps (x ∷ xs) e =
    let n : suc at + length xs ≡ at + suc (length xs) = omega arith in
    after_last (suc at) (after ps at x) xs e ∙ ap (λ (k : ℕ). after (all_after (suc at) (after ps at x) xs) k e) n

pub made_last : (at : ℕ) (ps : List Place) (es : List Entry) (e : Entry) → AreMade at ps es
    → IsMadeOn (all_after at ps es) e → AreMade at ps (es ++ e ∷ [])
made_last at ps [] e all one = (one, tt)
made_last at ps (x ∷ xs) e all one = (all.0, made_last (suc at) (after ps at x) xs e all.1 one)

pub front_made : (at : ℕ) (ps : List Place) (es : List Entry) (e : Entry) → AreMade at ps (es ++ e ∷ [])
    → AreMade at ps es
front_made at ps [] e all = tt
front_made at ps (x ∷ xs) e all = (all.0, front_made (suc at) (after ps at x) xs e all.1)

pub last_made : (at : ℕ) (ps : List Place) (es : List Entry) (e : Entry) → AreMade at ps (es ++ e ∷ [])
    → IsMadeOn (all_after at ps es) e
last_made at ps [] e all = all.0
last_made at ps (x ∷ xs) e all = last_made (suc at) (after ps at x) xs e all.1

pub length_after : (at : ℕ) (ps : List Place) (es : List Entry) → length (all_after at ps es) ≡ length ps
length_after at ps [] = refl
length_after at ps (x ∷ xs) =
    length_after (suc at) (after ps at x) xs ∙ length-set ps x.place (made (place_at ps x.place) x at)

out_twice : (w : Ruled) (o : Option ℤ) → without_out (without_out w o) o ≡ w
out_twice w None = refl
out_twice w (Some n) = flipped_twice w n

same_place : (i j : Info) (m n : Option ℕ) (v w : Ruled) → i ≡ j → m ≡ n → v ≡ w
    → (let p : Place = record { info = i; newest = m; window = v } in p)
    ≡ (let q : Place = record { info = j; newest = n; window = w } in q)
same_place i j m n v w a b c =
    ap (λ (x : Info). let p : Place = record { info = x; newest = m; window = v } in p) a
    ∙ ap (λ (x : Option ℕ). let p : Place = record { info = j; newest = x; window = v } in p) b
    ∙ ap (λ (x : Ruled). let p : Place = record { info = j; newest = n; window = x } in p) c

-- what an entry did is undone
pub unmade_made : (x : Place) (e : Entry) (at : ℕ) → e.was ≡ x.info → e.before ≡ x.newest → unmade (made x e at) e ≡ x
unmade_made x e at a b = same_place e.was x.info e.before x.newest _ x.window a b (out_twice x.window e.out)

pub undone : (ps : List Place) (at : ℕ) (e : Entry) → IsMadeOn ps e
    → set (after ps at e) e.place (unmade (place_at (after ps at e) e.place) e) ≡ ps
undone ps at e m =
    let here : place_at (after ps at e) e.place ≡ made (place_at ps e.place) e at =
    get_or-set_same ps e.place (made (place_at ps e.place) e at) (root_of Nothing) m.within in
    let back : unmade (place_at (after ps at e) e.place) e ≡ place_at ps e.place =
    ap (λ (x : Place). unmade x e) here ∙ unmade_made (place_at ps e.place) e at m.was m.before in
    set-set ps e.place (made (place_at ps e.place) e at) (unmade (place_at (after ps at e) e.place) e)
    ∙ ap (set ps e.place) back ∙ set-get_or ps e.place (root_of Nothing)

-- ---- the first entries

pub take_made : (at k : ℕ) (ps : List Place) (es : List Entry) → AreMade at ps es → AreMade at ps (take k es)
take_made at zero ps es all = tt
take_made at (suc k) ps [] all = tt
take_made at (suc k) ps (x ∷ xs) all = (all.0, take_made (suc at) k (after ps at x) xs all.1)

pub each_made : (at k : ℕ) (ps : List Place) (es : List Entry) (d : Entry) → AreMade at ps es → k < length es
    → IsMadeOn (all_after at ps (take k es)) (get_or es k d)
each_made at k ps [] d all l = absurd (omega (arith, l))
each_made at zero ps (x ∷ xs) d all l = all.0
each_made at (suc k) ps (x ∷ xs) d all l = each_made (suc at) k (after ps at x) xs d all.1 (omega (arith, l))

-- one entry more of the first
pub step_after : (k : ℕ) (ps : List Place) (es : List Entry) (d : Entry) → k < length es
    → all_after 0 ps (take (k + 1) es) ≡ after (all_after 0 ps (take k es)) k (get_or es k d)
step_after k ps es d l =
    let n : 0 + length (take k es) ≡ k = grind (arith, l, length-take-le) in
    ap (all_after 0 ps) (take_more es k d l) ∙ after_last 0 ps (take k es) (get_or es k d)
    ∙ ap (λ (j : ℕ). after (all_after 0 ps (take k es)) j (get_or es k d)) n

-- ---- one place, entry by entry

-- the place before the entry k
abbrev pub was_at : List Place → List Entry → ℕ → ℕ → Place
was_at ps es k p = place_at (all_after 0 ps (take k es)) p

pub step_other : (ps : List Place) (es : List Entry) (k p : ℕ) (d : Entry) → k < length es
    → (get_or es k d).place ≢ p → was_at ps es (k + 1) p ≡ was_at ps es k p
step_other ps es k p d l other =
    let now = all_after 0 ps (take k es) in
    let e = get_or es k d in
    ap (λ (xs : List Place). place_at xs p) (step_after k ps es d l)
    ∙ get_or-set_other now e.place p (made (place_at now e.place) e k) (root_of Nothing) (λ h. other (sym h))

pub step_same : (ps : List Place) (es : List Entry) (k p : ℕ) (d : Entry) → AreMade 0 ps es → k < length es
    → (get_or es k d).place ≡ p → was_at ps es (k + 1) p ≡ made (was_at ps es k p) (get_or es k d) k
step_same ps es k p d all l same =
    let now = all_after 0 ps (take k es) in
    let e = get_or es k d in
    let m = each_made 0 k ps es d all l in
    ap (λ (xs : List Place). place_at xs p) (step_after k ps es d l)
    ∙ ap (place_at (after now k e)) (sym same)
    ∙ get_or-set_same now e.place (made (place_at now e.place) e k) (root_of Nothing) m.within
    ∙ ap (λ (q : ℕ). made (place_at now q) e k) same

-- the newest entry below k is i, and since then the place is as it left it
pub record IsNewest (ps : List Place) (es : List Entry) (d : Entry) (k p i : ℕ) : Type 0 where
  pub newest : (was_at ps es k p).newest ≡ Some i
  pub below : i < k
  pub place : (get_or es i d).place ≡ p
  pub since : was_at ps es k p ≡ was_at ps es (i + 1) p

-- no entry below k is the place's
pub record IsUntold (ps : List Place) (es : List Entry) (k p : ℕ) : Type 0 where
  pub newest : (was_at ps es k p).newest ≡ None
  pub root : was_at ps es k p ≡ place_at ps p

pub newest_entry : (ps : List Place) (es : List Entry) (d : Entry) (k p : ℕ) → AreMade 0 ps es → k ≤ length es
    → (place_at ps p).newest ≡ None → IsUntold ps es k p ⊎ ((i : ℕ) × IsNewest ps es d k p i)
newest_entry ps es d zero p all l none = inl (record { newest = none; root = refl })
newest_entry ps es d (suc k) p all l none =
    let within : k < length es = omega (arith, l) in
    let next : k + 1 ≡ suc k = omega arith in
    elim (cases_eq (get_or es k d).place p)
    as (λ _. IsUntold ps es (suc k) p ⊎ ((i : ℕ) × IsNewest ps es d (suc k) p i)) [
      | inl same ↦ (
          let now = step_same ps es k p d all within same in
          let there : was_at ps es (suc k) p ≡ was_at ps es (k + 1) p =
          ap (λ (j : ℕ). was_at ps es j p) (sym next) in
          inr (
            k,
            record {
              newest = ap (λ (x : Place). x.newest) (there ∙ now);
              below = omega arith;
              place = same;
              since = there;
            },
          ))
      | inr other ↦ (
          let there : was_at ps es (suc k) p ≡ was_at ps es k p =
          ap (λ (j : ℕ). was_at ps es j p) (sym next) ∙ step_other ps es k p d within other in
          elim (newest_entry ps es d k p all (omega (arith, l)) none)
          as (λ _. IsUntold ps es (suc k) p ⊎ ((i : ℕ) × IsNewest ps es d (suc k) p i)) [
            | inl u ↦ inl (record {
              newest = ap (λ (x : Place). x.newest) there ∙ u.newest;
              root = there ∙ u.root;
            })
            | inr (i, n) ↦ inr (
              i,
              record {
                newest = ap (λ (x : Place). x.newest) there ∙ n.newest;
                below = (let b = n.below in omega (arith, b));
                place = n.place;
                since = there ∙ n.since;
              },
            )
          ])
    ]

-- a place of which no entry below m is at or above another is there as it is at m
pub quiet_since : (ps : List Place) (es : List Entry) (d : Entry) (at m p : ℕ) → AreMade 0 ps es → at ≤ m
    → m ≤ length es → IfSome (was_at ps es m p).newest (λ i. i < at) → was_at ps es at p ≡ was_at ps es m p
quiet_since ps es d at zero p all le l old =
    let e : at ≡ 0 = omega (arith, le) in ap (λ (j : ℕ). was_at ps es j p) e
quiet_since ps es d at (suc m) p all le l old =
    let within : m < length es = omega (arith, l) in
    let next : m + 1 ≡ suc m = omega arith in
    elim (cases_eq at (suc m)) as (λ _. was_at ps es at p ≡ was_at ps es (suc m) p) [
      | inl e ↦ ap (λ (j : ℕ). was_at ps es j p) e
      | inr before ↦ elim (cases_eq (get_or es m d).place p)
          as (λ _. was_at ps es at p ≡ was_at ps es (suc m) p) [
            | inl same ↦ (
                let now = step_same ps es m p d all within same in
                let newest : (was_at ps es (suc m) p).newest ≡ Some m =
                ap (λ (x : Place). x.newest) (ap (λ (j : ℕ). was_at ps es j p) (sym next) ∙ now) in
                let late : m < at = subst (λ (o : Option ℕ). IfSome o (λ i. i < at)) newest old in
                absurd (omega (arith, late, le, before)))
            | inr other ↦ (
                let there : was_at ps es (suc m) p ≡ was_at ps es m p =
                ap (λ (j : ℕ). was_at ps es j p) (sym next) ∙ step_other ps es m p d within other in
                let kept : IfSome (was_at ps es m p).newest (λ i. i < at) =
                subst (λ (x : Place). IfSome x.newest (λ i. i < at)) there old in
                quiet_since ps es d at m p all (omega (arith, le, before)) (omega (arith, l)) kept ∙ sym there)
          ]
    ]

-- at the root no place has an entry
pub root_newest : (roots : List Info) (p : ℕ) → (place_at (map root_of roots) p).newest ≡ None
root_newest roots p = elim (cases_lt p (length roots)) as (λ _. (place_at (map root_of roots) p).newest ≡ None) [
  | inl l ↦ ap (λ (x : Place). x.newest) (get_or-map root_of roots p Nothing (root_of Nothing) l)
  | inr past ↦ ap (λ (x : Place). x.newest)
      (get_or_past (map root_of roots) p (root_of Nothing) (let n = length-map roots root_of in omega (arith, n, past)))
]

pub root_info : (roots : List Info) (p : ℕ) (d : Info) → p < length roots
    → (place_at (map root_of roots) p).info ≡ get_or roots p d
root_info roots p d l = ap (λ (x : Place). x.info) (get_or-map root_of roots p d (root_of Nothing) l)

-- ---- the trail as it stands

pub places_count : (roots : List Info) (places : List Place) (es : List Entry) (starts : List ℕ)
    → IsTrail roots places es starts → length places ≡ length roots
places_count roots places es starts t =
    ap (λ (xs : List Place). length xs) t.now ∙ length_after 0 (map root_of roots) es ∙ length-map roots root_of

pub place_is : (roots : List Info) (places : List Place) (es : List Entry) (starts : List ℕ) (k : ℕ) (x : Place)
    → IsTrail roots places es starts → k < length roots → x ≡ get_or places k x
    → x ≡ place_at (all_after 0 (map root_of roots) es) k
place_is roots places es starts k x t l e =
    let n = places_count roots places es starts t in
    let within : k < length places = omega (arith, l, n) in
    get_or_read places k x within e (root_of Nothing) ∙ ap (λ (xs : List Place). place_at xs k) t.now

pub entered_trail : (roots : List Info) (places : List Place) (es : List Entry) (starts : List ℕ) (e : Entry) (at : ℕ)
    → IsTrail roots places es starts → IsMadeOn (all_after 0 (map root_of roots) es) e → at ≡ length es
    → IsTrail roots (after places at e) (es ++ e ∷ []) starts
entered_trail roots places es starts e at t m n = record {
  now = (
      let sum : at ≡ 0 + length es = omega (arith, n) in
      ap (λ (xs : List Place). after xs at e) t.now
      ∙ ap (λ (k : ℕ). after (all_after 0 (map root_of roots) es) k e) sum
      ∙ sym (after_last 0 (map root_of roots) es e)
      );
  entries_made = made_last 0 (map root_of roots) es e t.entries_made m;
  starts_are = record {
    ordered = t.starts_are.ordered;
    within = λ j l. let w = t.starts_are.within j l in let c = length_push es e in omega (arith, w, c);
  };
}

-- the trail cut where a level began
pub cut_trail : (roots : List Info) (places cut : List Place) (es : List Entry) (starts : List ℕ) (level : ℕ)
    → IsTrail roots places es starts → level < length starts
    → cut ≡ all_after 0 (map root_of roots) (take (get_or starts level 0) es)
    → IsTrail roots cut (take (get_or starts level 0) es) (take level starts)
cut_trail roots places cut es starts level t l e = record {
  now = e;
  entries_made = take_made 0 (get_or starts level 0) (map root_of roots) es t.entries_made;
  starts_are = record {
    ordered = λ i j le b. (
        let n = length-take level starts in
        let below : j < level = omega (arith, n, b) in
        let first : i < level = omega (arith, below, le) in
        let long : j < length starts = omega (arith, below, l) in
        let o = t.starts_are.ordered i j le long in
        let x = get_or-take level starts i 0 first in
        let y = get_or-take level starts j 0 below in
        omega (arith, o, x, y)
        );
    within = λ j b. (
        let n = length-take level starts in
        let below : j < level = omega (arith, n, b) in
        let o = t.starts_are.ordered j level (omega (arith, below)) l in
        let y = get_or-take level starts j 0 below in
        let w = t.starts_are.within level l in
        let c = length-take-le (get_or starts level 0) es w in
        omega (arith, o, y, c)
        );
  };
}

-- each entry is of a place
pub entries_within : (at : ℕ) (ps : List Place) (es : List Entry) → AreMade at ps es
    → All (λ (e : Entry). e.place < length ps) es
entries_within at ps es all k d l =
    let m = (each_made at k ps es d all l).within in
    let n = length_after at ps (take k es) in
    omega (arith, m, n)

-- ---- walks from one entry of a place to the one before

-- an entry that stands for none
abbrev pub no_entry : Entry
no_entry = record {
  place = 0;
  before = None;
  was = Nothing;
  is = Nothing;
  said = Nothing;
  out = None;
  by = Decision;
  level = 0;
}

pub found : (ps : List Place) (es : List Entry) (d : Entry) (m p i : ℕ) → AreMade 0 ps es → m ≤ length es
    → (place_at ps p).newest ≡ None → (was_at ps es m p).newest ≡ Some i → IsNewest ps es d m p i
found ps es d m p i all l none here = elim (newest_entry ps es d m p all l none) as (λ _. IsNewest ps es d m p i) [
  | inl u ↦ (let no = u.newest in let clash : None ≡ Some i = sym no ∙ here in absurd (cc))
  | inr (j, n) ↦ (
      let one = n.newest in
      let both : Some j ≡ Some i = sym one ∙ here in
      let same : j ≡ i = cc in
      subst (IsNewest ps es d m p) same n)
]

pub newest_below : (ps : List Place) (es : List Entry) (m p : ℕ) → AreMade 0 ps es → m ≤ length es
    → (place_at ps p).newest ≡ None → IfSome (was_at ps es m p).newest (λ i. i < m)
newest_below ps es m p all l none = elim (newest_entry ps es no_entry m p all l none)
    as (λ _. IfSome (was_at ps es m p).newest (λ i. i < m)) [
      | inl u ↦ subst (λ (o : Option ℕ). IfSome o (λ i. i < m)) (sym u.newest) tt
      | inr (j, n) ↦ subst (λ (o : Option ℕ). IfSome o (λ i. i < m)) (sym n.newest) n.below
    ]

-- what an entry of a place tells of it
pub before_is : (ps : List Place) (es : List Entry) (d : Entry) (p i : ℕ) → AreMade 0 ps es → i < length es
    → (get_or es i d).place ≡ p → (get_or es i d).before ≡ (was_at ps es i p).newest
before_is ps es d p i all l same =
    (each_made 0 i ps es d all l).before ∙ ap (λ (q : ℕ). (was_at ps es i q).newest) same

pub was_is : (ps : List Place) (es : List Entry) (d : Entry) (p i : ℕ) → AreMade 0 ps es → i < length es
    → (get_or es i d).place ≡ p → (get_or es i d).was ≡ (was_at ps es i p).info
was_is ps es d p i all l same =
    (each_made 0 i ps es d all l).was ∙ ap (λ (q : ℕ). (was_at ps es i q).info) same

pub is_is : (ps : List Place) (es : List Entry) (d : Entry) (p i : ℕ) → AreMade 0 ps es → i < length es
    → (get_or es i d).place ≡ p → (was_at ps es (i + 1) p).info ≡ (get_or es i d).is
is_is ps es d p i all l same = ap (λ (x : Place). x.info) (step_same ps es i p d all l same)

-- one more than the entry
abbrev pub above : Option ℕ → ℕ
above None = 0
above (Some i) = suc i

pub smaller : (o : Option ℕ) (i : ℕ) → IfSome o (λ j. j < i) → above o < suc i
smaller None i h = omega arith
smaller (Some j) i h = omega (arith, h)

-- each entry is of one of the places
pub entries_in : (roots : List Info) (places : List Place) (es : List Entry) (starts : List ℕ)
    → IsTrail roots places es starts → All (λ (e : Entry). e.place < length places) es
entries_in roots places es starts t k d l =
    let w = entries_within 0 (map root_of roots) es t.entries_made k d l in
    let n = places_count roots places es starts t in
    let m = length-map roots root_of in
    omega (arith, w, n, m)

pub untold : (ps : List Place) (es : List Entry) (m p : ℕ) → AreMade 0 ps es → m ≤ length es
    → (place_at ps p).newest ≡ None → (was_at ps es m p).newest ≡ None → was_at ps es m p ≡ place_at ps p
untold ps es m p all l none here = elim (newest_entry ps es no_entry m p all l none)
    as (λ _. was_at ps es m p ≡ place_at ps p) [
      | inl u ↦ u.root
      | inr (j, n) ↦ (let some = n.newest in let clash : Some j ≡ None = sym some ∙ here in absurd (cc))
    ]

-- what an entry says that says an information
pub said_made : (ps : List Place) (x : Place) (e : Entry) (said : Info) → e.place < length ps
    → x ≡ place_at ps e.place → e.was ≡ x.info → e.before ≡ x.newest → e.out ≡ None
    → IsNarrowed (IsOut x.window) (merge_of x.info said) e.is → IsMadeOn ps e
said_made ps x e said l here was before out nar = record {
  within = l;
  was = was ∙ ap (λ (y : Place). y.info) here;
  before = before ∙ ap (λ (y : Place). y.newest) here;
  grows = subst (λ (i : Info). Below i e.is) (sym was) (info_laws.transitive x.info (merge_of x.info said) e.is
      (info_laws.least_above x.info said).above_first nar.above);
  tight = subst (λ (y : Place). IsTight (IsOut (without_out y.window e.out)) e.is) here
      (subst (λ (o : Option ℤ). IsTight (IsOut (without_out x.window o)) e.is) (sym out) nar.tight);
  left = subst (λ (o : Option ℤ). IfSome o (λ n. IsLeftIn (place_at ps e.place) (Number n))) (sym out) tt;
  span = subst (λ (o : Option ℤ). IfSome o (λ n. IsSpan e.was)) (sym out) tt;
}

-- a tight information is so after a turn
tight_flipped : (w : Ruled) (n : ℤ) (is : Info) → IsTight (λ m. IsOut w m ⊎ (m ≡ n)) is
    → IsTight (IsOut (flipped w n)) is
tight_flipped w n Nothing t = tt
tight_flipped w n (Span s) t =
    ((λ out. t.0 (out_or_same w n s.lo out)), (λ out. t.1 (out_or_same w n s.hi out)))
tight_flipped w n (Set s) t = tt
tight_flipped w n (Sym s) t = tt
tight_flipped w n Contradiction t = tt

-- what an entry says that rules a number out
pub out_made : (ps : List Place) (x : Place) (e : Entry) (n : ℤ) → e.place < length ps
    → x ≡ place_at ps e.place → e.was ≡ x.info → e.before ≡ x.newest → e.out ≡ Some n → IsSpan e.was
    → IsLeftIn x (Number n)
    → IsNarrowed (λ m. IsOut x.window m ⊎ (m ≡ n)) x.info e.is → IsMadeOn ps e
out_made ps x e n l here was before out span left nar = record {
  within = l;
  was = was ∙ ap (λ (y : Place). y.info) here;
  before = before ∙ ap (λ (y : Place). y.newest) here;
  grows = subst (λ (i : Info). Below i e.is) (sym was) nar.above;
  tight = subst (λ (y : Place). IsTight (IsOut (without_out y.window e.out)) e.is) here
      (subst (λ (o : Option ℤ). IsTight (IsOut (without_out x.window o)) e.is) (sym out)
      (tight_flipped x.window n e.is nar.tight));
  left = subst (λ (o : Option ℤ). IfSome o (λ m. IsLeftIn (place_at ps e.place) (Number m))) (sym out)
      (subst (λ (y : Place). IsLeftIn y (Number n)) here left);
  span = subst (λ (o : Option ℤ). IfSome o (λ m. IsSpan e.was)) (sym out) span;
}

-- ---- no end was ruled out

root_tight : (info : Info) → IsTight (IsOut (window_of info)) info
root_tight Nothing = tt
root_tight (Span s) = (none_out (Span s) s.lo, none_out (Span s) s.hi)
root_tight (Set s) = tt
root_tight (Sym s) = tt
root_tight Contradiction = tt

after_tight : (at : ℕ) (ps : List Place) (e : Entry) → IsMadeOn ps e
    → ((p : ℕ) → IsTight (IsOut (place_at ps p).window) (place_at ps p).info) → (p : ℕ)
    → IsTight (IsOut (place_at (after ps at e) p).window) (place_at (after ps at e) p).info
after_tight at ps e m all p =
    elim (cases_eq p e.place)
    as (λ _. IsTight (IsOut (place_at (after ps at e) p).window) (place_at (after ps at e) p).info) [
      | inl same ↦ (
          let here : place_at (after ps at e) p ≡ made (place_at ps e.place) e at =
          ap (place_at (after ps at e)) same
          ∙ get_or-set_same ps e.place (made (place_at ps e.place) e at) (root_of Nothing) m.within in
          subst (λ (x : Place). IsTight (IsOut x.window) x.info) (sym here) m.tight)
      | inr other ↦ (
          let here : place_at (after ps at e) p ≡ place_at ps p =
          get_or-set_other ps e.place p (made (place_at ps e.place) e at) (root_of Nothing) other in
          subst (λ (x : Place). IsTight (IsOut x.window) x.info) (sym here) (all p))
    ]

all_tight : (at : ℕ) (ps : List Place) (es : List Entry) → AreMade at ps es
    → ((p : ℕ) → IsTight (IsOut (place_at ps p).window) (place_at ps p).info) → (p : ℕ)
    → IsTight (IsOut (place_at (all_after at ps es) p).window) (place_at (all_after at ps es) p).info
all_tight at ps [] all base p = base p
all_tight at ps (e ∷ es) all base p =
    all_tight (suc at) (after ps at e) es all.1 (after_tight at ps e all.0 base) p

pub root_is : (roots : List Info) (p : ℕ) → (info : Info) × (place_at (map root_of roots) p ≡ root_of info)
root_is roots p = elim (cases_lt p (length roots))
    as (λ _. (info : Info) × (place_at (map root_of roots) p ≡ root_of info)) [
      | inl l ↦ (get_or roots p Nothing, get_or-map root_of roots p Nothing (root_of Nothing) l)
      | inr past ↦ (
        Nothing,
        get_or_past (map root_of roots) p (root_of Nothing)
            (let n = length-map roots root_of in omega (arith, n, past)),
      )
    ]

pub tight_at : (roots : List Info) (es : List Entry) → AreMade 0 (map root_of roots) es → (p : ℕ)
    → IsTight (IsOut (place_at (all_after 0 (map root_of roots) es) p).window)
    (place_at (all_after 0 (map root_of roots) es) p).info
tight_at roots es all = all_tight 0 (map root_of roots) es all (λ p. (
    let r = root_is roots p in
    subst (λ (x : Place). IsTight (IsOut x.window) x.info) (sym r.1) (root_tight r.0)))

abbrev pub entry_of : ℕ → Option ℕ → Info → Info → Info → Option ℤ → Source → ℕ → Entry
entry_of place before was is said out by level = record {
  place = place;
  before = before;
  was = was;
  is = is;
  said = said;
  out = out;
  by = by;
  level = level;
}

pub same_entry : (place : ℕ) (b b' : Option ℕ) (w w' is said : Info) (o o' : Option ℤ) (by : Source) (l l' : ℕ)
    → b ≡ b' → w ≡ w' → o ≡ o' → l ≡ l' → entry_of place b w is said o by l ≡ entry_of place b' w' is said o' by l'
same_entry place b b' w w' is said o o' by l l' p q r s =
    ap (λ (x : Option ℕ). entry_of place x w is said o by l) p
    ∙ ap (λ (x : Info). entry_of place b' x is said o by l) q
    ∙ ap (λ (x : Option ℤ). entry_of place b' w' is said x by l) r
    ∙ ap (λ (x : ℕ). entry_of place b' w' is said o' by x) s
