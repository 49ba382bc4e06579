-- Selections with others of which nothing is known.
use Rattle.std.proofs.Common.{◌≡◌, ◌≤◌, List, [], ◌∷◌, map, length, arith, ap, sym, subst, refl, ◌∙◌}
use Rattle.std.specs.List.{AllByRecursion as Each, filter}
use Rattle.prop_lattice.specs.Order.{Below}
use Rattle.prop_lattice.specs.declared.info.Info.{Info}
use Rattle.prop_lattice.specs.declared.info.Info.TheVariants.{Nothing, Span, Set, Sym, Contradiction}
use Rattle.prop_lattice.specs.laws.OrderLaws.{info_laws}
use Rattle.prop_hall.specs.Excluding.{told_by, excluded_of}
use Rattle.prop_hall.specs.Hulls.{hull_of, hull_of_two, points_in}
use Rattle.prop_hall.specs.Selections.{selections}
use Rattle.prop_hall.specs.Unknown.{is_known, UnknownSaysNothing}
use Rattle.prop_hall.specs.laws.ExcludingLaws.{told_loose, few_selected}
use Rattle.prop_hall.specs.laws.MergeLaws.{all_above_first, all_above_each, all_least}
use Rattle.prop_hall.specs.laws.SelectionLaws.{each_append, each_map, each_split, each_unmap, each_weaker}

unknown_first : (b : Info) → hull_of_two Nothing b ≡ Nothing
unknown_first Nothing = refl
unknown_first (Span b) = refl
unknown_first (Set b) = refl
unknown_first (Sym b) = refl
unknown_first Contradiction = refl

unknown_second : (a : Info) → hull_of_two a Nothing ≡ Nothing
unknown_second Nothing = refl
unknown_second (Span a) = refl
unknown_second (Set a) = refl
unknown_second (Sym a) = refl
unknown_second Contradiction = refl

-- the selections of the known are among all
known_each : (P : List Info → Type 0) (others : List Info) → Each P (selections others)
    → Each P (selections (filter is_known others))
known_each P [] h = h
known_each P (Nothing ∷ others) h =
    known_each P others (each_split P (selections others) (map (λ t. Nothing ∷ t) (selections others)) h).0
known_each P (a ∷ others) h =
    let parts = each_split P (selections others) (map (λ t. a ∷ t) (selections others)) h in
    each_append P (selections (filter is_known others)) (map (λ t. a ∷ t) (selections (filter is_known others)))
    (known_each P others parts.0)
    (each_map P (λ t. a ∷ t) (selections (filter is_known others))
    (known_each (λ t. P (a ∷ t)) others (each_unmap P (λ t. a ∷ t) (selections others) parts.1)))

-- and the others have one in them of which nothing is known
each_known : (P : List Info → Type 0) (others : List Info) → Each P (selections (filter is_known others))
    → ((t : List Info) → hull_of t ≡ Nothing → length t ≤ length others → P t) → Each P (selections others)
each_known P [] h k = h
each_known P (Nothing ∷ others) h k =
    each_append P (selections others) (map (λ t. Nothing ∷ t) (selections others))
    (each_known P others h (λ t e l. k t e (omega (arith, l))))
    (each_map P (λ t. Nothing ∷ t) (selections others)
    (each_weaker (λ t. length t ≤ length others) (λ t. P (Nothing ∷ t))
    (λ t l. k (Nothing ∷ t) (unknown_first (hull_of t)) (omega (arith, l))) (selections others) (few_selected others)))
each_known P (a ∷ others) h k =
    let known = selections (filter is_known others) in
    let parts = each_split P known (map (λ t. a ∷ t) known) h in
    each_append P (selections others) (map (λ t. a ∷ t) (selections others))
    (each_known P others parts.0 (λ t e l. k t e (omega (arith, l))))
    (each_map P (λ t. a ∷ t) (selections others)
    (each_known (λ t. P (a ∷ t)) others (each_unmap P (λ t. a ∷ t) known parts.1)
    (λ t e l. k (a ∷ t) (ap (hull_of_two a) e ∙ unknown_second a) (omega (arith, l)))))

pub unknown_says_nothing : UnknownSaysNothing
unknown_says_nothing y others few =
    let known = filter is_known others in
    let less = excluded_of y known in
    let all = excluded_of y others in
    info_laws.antisymmetric less all
    (all_least y (map (told_by y) (selections known)) all (all_above_first y (map (told_by y) (selections others)))
    (each_map (λ a. Below a all) (told_by y) (selections known)
    (known_each (λ t. Below (told_by y t) all) others
    (each_unmap (λ a. Below a all) (told_by y) (selections others)
    (all_above_each y (map (told_by y) (selections others)))))))
    (all_least y (map (told_by y) (selections others)) less (all_above_first y (map (told_by y) (selections known)))
    (each_map (λ a. Below a less) (told_by y) (selections others)
    (each_known (λ t. Below (told_by y t) less) others
    (each_unmap (λ a. Below a less) (told_by y) (selections known)
    (all_above_each y (map (told_by y) (selections known))))
    (λ t e l. subst (λ a. Below a less) (sym (idle t e l))
    (all_above_first y (map (told_by y) (selections known)))))))
  where
    idle : (t : List Info) → hull_of t ≡ Nothing → length t ≤ length others → told_by y t ≡ y
    idle t e l = told_loose (length t) (hull_of t) y (omega (arith, few, l, ap points_in e))
