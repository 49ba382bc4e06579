-- The laws of selections.
use Rattle.std.specs.Prelude.{List, [], ◌∷◌, ◌++◌, map}
use Rattle.std.specs.List.{AllByRecursion as Each, AllZip}
use Rattle.std.proofs.Common.{rules}
use Rattle.prop_lattice.specs.Points.{Point}
use Rattle.prop_lattice.specs.declared.info.Info.{Info}
use Rattle.prop_procedures.specs.Rules.{EachBelow, EachHolds}
use Rattle.prop_hall.specs.Points.{AreDifferent, IsNoneOf}
use Rattle.prop_hall.specs.Selections.{selections}

-- ---- each item of a list

pub each_append : {X : Type 0} (P : X → Type 0) (xs ys : List X) → Each P xs → Each P ys
    → Each P (xs ++ ys)
each_append P [] ys p q = q
each_append P (x ∷ xs) ys p q = (p.0, each_append P xs ys p.1 q)

pub each_split : {X : Type 0} (P : X → Type 0) (xs ys : List X) → Each P (xs ++ ys)
    → Each P xs × Each P ys
each_split P [] ys p = (tt, p)
each_split P (x ∷ xs) ys p = let rest = each_split P xs ys p.1 in ((p.0, rest.0), rest.1)

pub each_map : {X Y : Type 0} (P : Y → Type 0) (f : X → Y) (xs : List X) → Each (λ x. P (f x)) xs
    → Each P (map f xs)
each_map P f [] p = tt
each_map P f (x ∷ xs) p = (p.0, each_map P f xs p.1)

pub each_unmap : {X Y : Type 0} (P : Y → Type 0) (f : X → Y) (xs : List X) → Each P (map f xs)
    → Each (λ x. P (f x)) xs
each_unmap P f [] p = tt
each_unmap P f (x ∷ xs) p = (p.0, each_unmap P f xs p.1)

pub each_weaker : {X : Type 0} (P Q : X → Type 0) → ((x : X) → P x → Q x) → (xs : List X)
    → Each P xs → Each Q xs
each_weaker P Q h [] p = tt
each_weaker P Q h (x ∷ xs) p = (h x p.0, each_weaker P Q h xs p.1)

pub each_both : {X : Type 0} (P Q : X → Type 0) (xs : List X) → Each P xs → Each Q xs
    → Each (λ x. P x × Q x) xs
each_both P Q [] p q = tt
each_both P Q (x ∷ xs) p q = ((p.0, q.0), each_both P Q xs p.1 q.1)

-- ---- two lists side by side

pub zip_append : {A B : Type 0} (R : A → B → Type 0) (xs : List A) (ys : List B) (vs : List A)
    (ws : List B) → AllZip R xs ys → AllZip R vs ws → AllZip R (xs ++ vs) (ys ++ ws)
zip_append R [] [] vs ws p q = q
zip_append R (a ∷ xs) (b ∷ ys) vs ws p q = (p.0, zip_append R xs ys vs ws p.1 q)
zip_append R xs ys vs ws p q = search rules

pub zip_map : {A B C D : Type 0} (R : A → B → Type 0) (S : C → D → Type 0) (f : A → C) (g : B → D)
    → ((a : A) (b : B) → R a b → S (f a) (g b)) → (xs : List A) (ys : List B) → AllZip R xs ys
    → AllZip S (map f xs) (map g ys)
zip_map R S f g h [] [] p = tt
zip_map R S f g h (a ∷ xs) (b ∷ ys) p = (h a b p.0, zip_map R S f g h xs ys p.1)
zip_map R S f g h xs ys p = search rules

-- ---- selections side by side

-- of more in each item, there is more in each selection
pub selections_below : (olds news : List Info) → EachBelow olds news
    → AllZip EachBelow (selections olds) (selections news)
selections_below [] [] p = (tt, tt)
selections_below (a ∷ olds) (b ∷ news) p =
    let rest = selections_below olds news p.1 in
    zip_append EachBelow (selections olds) (selections news) (map (λ s. a ∷ s) (selections olds))
    (map (λ s. b ∷ s) (selections news)) rest
    (zip_map EachBelow EachBelow (λ s. a ∷ s) (λ s. b ∷ s) (λ s t q. (p.0, q)) (selections olds)
    (selections news) rest)
selections_below olds news p = search rules

-- each selection holds the selection of the points
pub selections_hold : (infos : List Info) (points : List Point) → EachHolds infos points
    → AllZip EachHolds (selections infos) (selections points)
selections_hold [] [] h = (tt, tt)
selections_hold (a ∷ infos) (p ∷ points) h =
    let rest = selections_hold infos points h.1 in
    zip_append EachHolds (selections infos) (selections points)
    (map (λ s. a ∷ s) (selections infos)) (map (λ s. p ∷ s) (selections points)) rest
    (zip_map EachHolds EachHolds (λ s. a ∷ s) (λ s. p ∷ s) (λ s t q. (h.0, q)) (selections infos)
    (selections points) rest)
selections_hold infos points h = search rules

-- ---- different items

pub none_selected : {X : Type 0} (x : X) (xs : List X) → IsNoneOf x xs
    → Each (IsNoneOf x) (selections xs)
none_selected x [] p = (tt, tt)
none_selected x (y ∷ ys) p =
    let rest = none_selected x ys p.1 in
    each_append (IsNoneOf x) (selections ys) (map (λ s. y ∷ s) (selections ys)) rest
    (each_map (IsNoneOf x) (λ s. y ∷ s) (selections ys)
    (each_weaker (IsNoneOf x) (λ s. IsNoneOf x (y ∷ s)) (λ s q. (p.0, q)) (selections ys) rest))

pub different_selected : {X : Type 0} (xs : List X) → AreDifferent xs
    → Each AreDifferent (selections xs)
different_selected [] p = (tt, tt)
different_selected (x ∷ xs) p =
    let rest = different_selected xs p.1 in
    each_append AreDifferent (selections xs) (map (λ s. x ∷ s) (selections xs)) rest
    (each_map AreDifferent (λ s. x ∷ s) (selections xs)
    (each_both (IsNoneOf x) AreDifferent (selections xs) (none_selected x xs p.0) rest))
