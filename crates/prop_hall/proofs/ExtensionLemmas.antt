-- What the extensions of a selection say, as it grows by one and where they are cut.
use Rattle.std.proofs.Common.{◌≡◌, ℕ, suc, ◌+◌, ◌<◌, ◌≤◌, ◌-◌, List, [], ◌∷◌, ◌++◌, map, length}
use Rattle.std.proofs.Common.{get_or, take, drop}
use Rattle.std.proofs.Common.{arith, ap, sym, subst, refl, ◌∙◌}
use Rattle.std.specs.List.{AllByRecursion as Each}
use Rattle.std.proofs.lemmas.List.{map-append, take_all}
use Rattle.prop_lattice.specs.Order.{Below, merge_of}
use Rattle.prop_lattice.specs.declared.info.Info.{Info}
use Rattle.prop_lattice.specs.laws.OrderLaws.{info_laws}
use Rattle.prop_hall.specs.Excluding.{told, merge_all}
use Rattle.prop_hall.specs.Hulls.{hull_of, hull_of_two, points_in}
use Rattle.prop_hall.specs.Selections.{selections}
use Rattle.prop_hall.specs.inner.Extensions.{GainsLittle, told_with, extended}
use Rattle.prop_hall.specs.laws.ExcludingLaws.{told_loose, few_selected}
use Rattle.prop_hall.specs.laws.HullLaws.{hull_first, hull_second, hull_greatest, fewer_points}
use Rattle.prop_hall.specs.laws.MergeLaws.{all_above_first, all_above_each}
use Rattle.prop_hall.specs.laws.SelectionLaws.{each_both, each_unmap, each_weaker}
use Rattle.prop_hall.proofs.GainLemmas.{gains_with, told_wider}

-- ---- hulls as they grow

hull_of_more : (a b c : Info) → hull_of_two (hull_of_two a b) c ≡ hull_of_two a (hull_of_two b c)
hull_of_more a b c =
    let left = hull_of_two a b in
    let right = hull_of_two b c in
    info_laws.antisymmetric (hull_of_two left c) (hull_of_two a right)
    (hull_greatest a right (hull_of_two left c)
    (info_laws.transitive (hull_of_two left c) left a (hull_first left c) (hull_first a b))
    (hull_greatest b c (hull_of_two left c)
    (info_laws.transitive (hull_of_two left c) left b (hull_first left c) (hull_second a b))
    (hull_second left c)))
    (hull_greatest left c (hull_of_two a right)
    (hull_greatest a b (hull_of_two a right) (hull_first a right)
    (info_laws.transitive (hull_of_two a right) right b (hull_second a right) (hull_first b c)))
    (info_laws.transitive (hull_of_two a right) right c (hull_second a right) (hull_second b c)))

-- what a hull says with an item more and others, it says with the others
wider_with : (h x t : Info) → Below (hull_of_two (hull_of_two h x) t) (hull_of_two h t)
wider_with h x t =
    let more = hull_of_two h x in
    hull_greatest h t (hull_of_two more t)
    (info_laws.transitive (hull_of_two more t) more h (hull_first more t) (hull_first h x))
    (hull_second more t)

-- ---- lists of what is told

merge_append : (y : Info) (infos more : List Info)
    → merge_all y (infos ++ more) ≡ merge_all (merge_all y more) infos
merge_append y [] more = refl
merge_append y (a ∷ infos) more = ap (merge_of a) (merge_append y infos more)

-- where one tells of each selection with x what the other tells of the selection, they tell the same together
same_mapped : (y : Info) (f g : List Info → Info) (x : Info) → ((s : List Info) → f (x ∷ s) ≡ g s)
    → (ss : List (List Info)) → merge_all y (map f (map (λ s. x ∷ s) ss)) ≡ merge_all y (map g ss)
same_mapped y f g x same [] = refl
same_mapped y f g x same (s ∷ ss) =
    ap (λ a. merge_of a (merge_all y (map f (map (λ s. x ∷ s) ss)))) (same s)
    ∙ ap (merge_of (g s)) (same_mapped y f g x same ss)

-- what is known already makes no difference
pub known_already : (y known : Info) → Below y known → merge_of y known ≡ known
known_already y known h =
    let above = info_laws.least_above y known in
    info_laws.antisymmetric (merge_of y known) known (above.least known h (info_laws.reflexive known))
    above.above_second

all_known : (known : Info) (f : List Info → Info) (ss : List (List Info))
    → Each (λ s. Below (f s) known) ss → merge_all known (map f ss) ≡ known
all_known known f [] h = refl
all_known known f (s ∷ ss) h =
    ap (merge_of (f s)) (all_known known f ss h.1) ∙ known_already (f s) known h.0

-- ---- the extensions of a selection

-- one that leaves more points than it can get members says nothing, nor do its extensions
pub cut : (known y : Info) (members : ℕ) (hull : Info) (rest : List Info) → Below y known
    → members + length rest < points_in hull → extended known y members hull rest ≡ known
cut known y members hull rest above loose =
    all_known known (told_with members hull y) (selections rest)
    (each_weaker (λ s. length s ≤ length rest) (λ s. Below (told_with members hull y s) known) idle
    (selections rest) (few_selected rest))
  where
    idle : (s : List Info) → length s ≤ length rest → Below (told_with members hull y s) known
    idle s few =
        let fewer = fewer_points (hull_of_two hull (hull_of s)) hull (hull_first hull (hull_of s)) in
        subst (λ a. Below a known)
        (sym (told_loose (members + length s) (hull_of_two hull (hull_of s)) y
        (omega (arith, loose, few, fewer.0)))) above

-- first those with the next one, then those without
pub with_or_without : (known y : Info) (members : ℕ) (hull x : Info) (rest : List Info)
    → extended (extended known y (members + 1) (hull_of_two hull x) rest) y members hull rest
    ≡ extended known y members hull (x ∷ rest)
with_or_without known y members hull x rest =
    let f = told_with members hull y in
    let g = told_with (members + 1) (hull_of_two hull x) y in
    let ss = selections rest in
    sym (ap (merge_all known) (map-append f ss (map (λ s. x ∷ s) ss))
    ∙ merge_append known (map f ss) (map f (map (λ s. x ∷ s) ss))
    ∙ ap (λ a. merge_all a (map f ss)) (same_mapped known f g x same ss))
  where
    same : (s : List Info)
        → told_with members hull y (x ∷ s) ≡ told_with (members + 1) (hull_of_two hull x) y s
    same s =
        let count : members + suc (length s) ≡ members + 1 + length s = omega arith in
        ap (λ n. told n (hull_of_two hull (hull_of_two x (hull_of s))) y) count
        ∙ ap (λ h. told (members + 1 + length s) h y) (sym (hull_of_more hull x (hull_of s)))

-- where the hull gains at most a point with the next one, those without it say no more
pub with_alone : (known y : Info) (members : ℕ) (hull x : Info) (rest : List Info)
    → members + length rest < 63 → GainsLittle hull (hull_of_two hull x)
    → extended known y (members + 1) (hull_of_two hull x) rest
    ≡ extended known y members hull (x ∷ rest)
with_alone known y members hull x rest few gain =
    let ss = selections rest in
    sym (all_known all f ss
    (each_weaker (λ s. (length s ≤ length rest) × Below (g s) all) (λ s. Below (f s) all) less ss
    (each_both (λ s. length s ≤ length rest) (λ s. Below (g s) all) ss (few_selected rest)
    (each_unmap (λ a. Below a all) g ss (all_above_each known (map g ss))))))
    ∙ with_or_without known y members hull x rest
  where
    f : List Info → Info
    f = told_with members hull y

    g : List Info → Info
    g = told_with (members + 1) (hull_of_two hull x) y

    all : Info
    all = extended known y (members + 1) (hull_of_two hull x) rest

    less : (s : List Info) → (length s ≤ length rest) × Below (g s) all → Below (f s) all
    less s h =
        let wider = hull_of_two (hull_of_two hull x) (hull_of s) in
        let count : members + length s + 1 ≡ members + 1 + length s = omega arith in
        info_laws.transitive (f s) (g s) all
        (subst (λ n. Below (f s) (told n wider y)) count
        (told_wider (members + length s) (hull_of_two hull (hull_of s)) wider y (omega (arith, few, h.0))
        (wider_with hull x (hull_of s)) (gains_with hull x (hull_of s) gain)))
        h.1

pub more_known : (known y : Info) (members : ℕ) (hull : Info) (rest : List Info) → Below y known
    → Below y (extended known y members hull rest)
more_known known y members hull rest above =
    info_laws.transitive y known (extended known y members hull rest) above
    (all_above_first known (map (told_with members hull y) (selections rest)))

-- ---- the items as the code takes them

pub first_and_rest : (xs : List Info) (x : Info) → 1 ≤ length xs → x ≡ get_or xs 0 x
    → x ∷ take (length xs - 1) (drop 1 xs) ≡ xs
first_and_rest [] x some is = absurd (omega (arith, some))
first_and_rest (z ∷ xs) x some is =
    let all : take (length (z ∷ xs) - 1) xs ≡ xs = take_all (length (z ∷ xs) - 1) xs (omega arith) in
    (λ i. is i ∷ all i)
