-- Parts of a set, and sets that it is part of, found in some of the groups alone.
use Rattle.std.proofs.Common.{◌≡◌, ◌∙◌, ◌<◌, ◌≤◌, ◌-◌, ℕ, suc, Bool, true, false, ◌||◌, nat_lt, Option, None, Some}
use Rattle.std.proofs.Common.{List, [], ◌∷◌, length, get_or, get_or-drop, length-drop, drop, refl, sym, ap, subst}
use Rattle.std.proofs.Common.{arith, inl, inr, All}
use Rattle.std.specs.List.{list_any}
use Rattle.std.proofs.lemmas.Bool.{leb-true}
use Rattle.std.proofs.lemmas.Bool.Decides.{leb_tells}
use Rattle.std.proofs.lemmas.List.Elements.{All-append}
use Rattle.std.proofs.lemmas.List.Folds.{list_any-append}
use Rattle.prop_numbers.specs.Sets.{Members, set_of, is_within}
use Rattle.prop_numbers.proofs.WithinLemmas.{within_has}
use Rattle.prop_nogoods.specs.Stores.{has_part}
use Rattle.prop_nogoods.specs.inner.Stores.{HaveSame, IsPartOfNone}
use Rattle.prop_nogoods.specs.inner.Endings.{Group, EndsSo, EndTogether, AreInOrder, end_of, sets_of}
use Rattle.prop_nogoods.proofs.EndingLemmas.{group_contains}
use Rattle.prop_nogoods.proofs.OrderLemmas.{IsPlaceFor, behind_contains}
use Rattle.prop_nogoods.proofs.StoreLaws.{part-listed, has_part-from}
use Rattle.prop_nogoods.proofs.StoreLemmas.{never, no_part-same}

-- ---- parts of a set

-- a part in a group is one in all
pub part_of_all : (gs : List Group) (i : ℕ) (d : Group) (w : Members) → i < length gs
    → has_part (get_or gs i d).sets w ≡ true → has_part (sets_of gs) w ≡ true
part_of_all gs i d w l h =
    let its = part-listed (get_or gs i d).sets w h in
    has_part-from (sets_of gs) w its.line (group_contains gs i d its.line l its.listed_in) its.is_part

-- a part is found where some group has one
pub has_part-groups : (gs : List Group) (w : Members) → list_any (λ g. has_part g.sets w) gs ≡ has_part (sets_of gs) w
has_part-groups [] w = refl
has_part-groups (g ∷ gs) w = ap (λ b. has_part g.sets w || b) (has_part-groups gs w)
    ∙ sym (list_any-append (λ line. is_within w line) g.sets (sets_of gs))

-- two lists of the same sets have the same parts
pub has_part-same : (a b : List (List ℕ)) (w : Members) → HaveSame a b → has_part b w ≡ has_part a w
has_part-same a b w same = by (has_part b w) refl
  where
    by : (t : Bool) → has_part b w ≡ t → has_part b w ≡ has_part a w
    by true e = let its = part-listed b w e in e
        ∙ sym (has_part-from a w its.line (same.second its.line its.listed_in) its.is_part)
    by false e = e ∙ sym (no_part-same a b w same e)

-- ---- sets that a set is part of

-- a set is part of none that ends earlier
none_earlier : (last : Option ℕ) (n : List ℕ) (g : Group) → EndsSo last n → EndTogether g → end_of g.last < end_of last
    → IsPartOfNone g.sets n
none_earlier None n g ends together early k d l = absurd (omega (arith, early))
none_earlier (Some p) n g ends together early k d l =
    never (is_within (set_of (get_or g.sets k d)) n) (λ t.
    let line = get_or g.sets k d in
    let has = within_has (set_of line) n p t ends.0 in
    let below = leb-true (suc p) (end_of g.last)
    (within_has (λ q. nat_lt q (end_of g.last)) line p (together k d l).1 has) in
    omega (arith, early, below))

all_part_of_none : (gs : List Group) (n : List ℕ) → All (λ g. IsPartOfNone g.sets n) gs → IsPartOfNone (sets_of gs) n
all_part_of_none [] n all = λ k d l. absurd (omega (arith, l))
all_part_of_none (g ∷ gs) n all =
    All-append (λ line. is_within (set_of line) n ≡ false) g.sets (sets_of gs) (all 0 g (omega arith))
    (all_part_of_none gs n (λ k d l. all (suc k) d (omega (arith, l))))

-- what is part of none of the groups behind its place is part of none
pub part_of_none_behind : (last : Option ℕ) (gs : List Group) (i : ℕ) (n : List ℕ) → EndsSo last n
    → IsPlaceFor last gs i → AreInOrder gs
    → All (λ g. IsPartOfNone g.sets n) (drop i gs) → IsPartOfNone (sets_of gs) n
part_of_none_behind last gs i n ends place order none = all_part_of_none gs n (λ k d l. elim (leb_tells (suc k) i) [
  | inl e ↦ none_earlier last n (get_or gs k d) ends (order.together k d l) (place.0 k d (omega arith) e.1)
  | inr e ↦
      let from : i ≤ k = omega (arith, e.1) in
      let there : get_or (drop i gs) (k - i) d ≡ get_or gs k d =
      rw (get_or-drop i gs (k - i) d) (ap (λ j. get_or gs j d) (omega (arith, from))) in
      subst (λ (g : Group). IsPartOfNone g.sets n) there (none (k - i) d (omega (arith, from, l, length-drop i gs)))
])

-- where there is no part, no group behind a place has one
pub no_part_behind : (gs : List Group) (i k : ℕ) (d : Group) (w : Members) → k < length (drop i gs)
    → has_part (sets_of gs) w ≡ false
    → has_part (get_or (drop i gs) k d).sets w ≡ false
no_part_behind gs i k d w l none =
    never (has_part (get_or (drop i gs) k d).sets w) (λ t.
    let its = part-listed (sets_of (drop i gs)) w (part_of_all (drop i gs) k d w l t) in
    let has = has_part-from (sets_of gs) w its.line (behind_contains gs i its.line its.listed_in) its.is_part in
    cc (has, none))
