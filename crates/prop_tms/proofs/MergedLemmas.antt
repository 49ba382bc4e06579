-- What merged values know, in any order of information.
use Rattle.std.proofs.Common.{◌≡◌, ◌∙◌, List, [], ◌∷◌, ◌++◌, ap}
use Rattle.std.specs.List.{AllByRecursion}
use Rattle.prop_lattice.specs.InformationOrder.{IsInformationOrder}
use Rattle.prop_tms.specs.Beliefs.{merge_of_all}
use Rattle.prop_tms.specs.declared.supported.Supported.{Supported}

pub all_first : {X : Type 0} (P : X → Type 0) (xs ys : List X) → AllByRecursion P (xs ++ ys) → AllByRecursion P xs
all_first P [] ys h = tt
all_first P (x ∷ xs) ys h = (h.0, all_first P xs ys h.1)

pub all_second : {X : Type 0} (P : X → Type 0) (xs ys : List X) → AllByRecursion P (xs ++ ys) → AllByRecursion P ys
all_second P [] ys h = h
all_second P (x ∷ xs) ys h = all_second P xs ys h.1

pub all_both : {X : Type 0} (P : X → Type 0) (xs ys : List X) → AllByRecursion P xs → AllByRecursion P ys
    → AllByRecursion P (xs ++ ys)
all_both P [] ys h k = k
all_both P (x ∷ xs) ys h k = (h.0, all_both P xs ys h.1 k)

module _ {V : Type 0} {below : V → V → Type 0} {bottom top : V} {join : V → V → V}
    (laws : IsInformationOrder below bottom top join) where
  pub first_below : (a b : V) → below a (join a b)
  first_below a b = (laws.least_above a b).above_first

  pub second_below : (a b : V) → below b (join a b)
  second_below a b = (laws.least_above a b).above_second

  pub join_below : (a b z : V) → below a z → below b z → below (join a b) z
  join_below a b z p q = (laws.least_above a b).least z p q

  pub all_below_more : (y z : V) → below y z → (es : List (Supported V)) → AllByRecursion (λ e. below e.value y) es
      → AllByRecursion (λ e. below e.value z) es
  all_below_more y z h [] k = tt
  all_below_more y z h (e ∷ es) k = (laws.transitive e.value y z k.0 h, all_below_more y z h es k.1)

  -- the merge is the least value above all
  pub merged_below : (es : List (Supported V)) (z : V) → AllByRecursion (λ e. below e.value z) es
      → below (merge_of_all bottom join es) z
  merged_below [] z h = laws.from_bottom z
  merged_below (e ∷ es) z h = join_below e.value (merge_of_all bottom join es) z h.0 (merged_below es z h.1)

  pub below_merged : (es : List (Supported V)) → AllByRecursion (λ e. below e.value (merge_of_all bottom join es)) es
  below_merged [] = tt
  below_merged (e ∷ es) =
      let rest = merge_of_all bottom join es in (
        first_below e.value rest,
        all_below_more rest (join e.value rest) (second_below e.value rest) es
            (below_merged es),
      )

  pub merge_of_all-append : (xs ys : List (Supported V))
      → merge_of_all bottom join (xs ++ ys) ≡ join (merge_of_all bottom join xs) (merge_of_all bottom join ys)
  merge_of_all-append xs ys =
      let m = merge_of_all bottom join (xs ++ ys) in
      let a = merge_of_all bottom join xs in
      let b = merge_of_all bottom join ys in
      let all = below_merged (xs ++ ys) in
      laws.antisymmetric m (join a b)
      (merged_below (xs ++ ys) (join a b) (all_both (λ e. below e.value (join a b)) xs ys
      (all_below_more a (join a b) (first_below a b) xs (below_merged xs))
      (all_below_more b (join a b) (second_below a b) ys (below_merged ys))))
      (join_below a b m (merged_below xs m (all_first (λ e. below e.value m) xs ys all))
      (merged_below ys m (all_second (λ e. below e.value m) xs ys all)))

  pub join-bottom : (a : V) → join a bottom ≡ a
  join-bottom a = laws.antisymmetric (join a bottom) a (join_below a bottom a (laws.reflexive a) (laws.from_bottom a))
      (first_below a bottom)

  pub merge_of_all-push : (es : List (Supported V)) (e : Supported V)
      → merge_of_all bottom join (es ++ e ∷ []) ≡ join (merge_of_all bottom join es) e.value
  merge_of_all-push es e = merge_of_all-append es (e ∷ [])
      ∙ ap (λ x. join (merge_of_all bottom join es) x) (join-bottom e.value)

  -- a value that is below another adds nothing to it
  pub join-above : (a b : V) → below b a → join a b ≡ a
  join-above a b h = laws.antisymmetric (join a b) a (join_below a b a (laws.reflexive a) h) (first_below a b)

  pub join-assoc : (a b c : V) → join a (join b c) ≡ join (join a b) c
  join-assoc a b c =
      let left = join a (join b c) in
      let right = join (join a b) c in
      laws.antisymmetric left right
      (join_below a (join b c) right (laws.transitive a (join a b) right (first_below a b) (first_below (join a b) c))
      (join_below b c right (laws.transitive b (join a b) right (second_below a b) (first_below (join a b) c))
      (second_below (join a b) c)))
      (join_below (join a b) c left
      (join_below a b left (first_below a (join b c))
      (laws.transitive b (join b c) left (first_below b c) (second_below a (join b c))))
      (laws.transitive c (join b c) left (second_below b c) (second_below a (join b c))))

  pub join-comm : (a b : V) → join a b ≡ join b a
  join-comm a b =
      laws.antisymmetric (join a b) (join b a) (join_below a b (join b a) (second_below b a) (first_below b a))
      (join_below b a (join a b) (second_below a b) (first_below a b))

  pub bottom-join : (a : V) → join bottom a ≡ a
  bottom-join a = laws.antisymmetric (join bottom a) a (join_below bottom a a (laws.from_bottom a) (laws.reflexive a))
      (second_below bottom a)
