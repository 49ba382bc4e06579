-- Lists that a loop has gone through so far.
use Rattle.std.proofs.Common.{◌≡◌, ℕ, ◌+◌, ◌<◌, ℤ, pos, ◌+ℤ◌, List, [], ◌∷◌, ◌++◌, length, take, get_or, ap, sym}
use Rattle.std.proofs.Common.{◌∙◌, ◌≢◌, subst, arith, append_assoc, add-one}
use Rattle.std.specs.List.{AllZip}
use Rattle.std.proofs.lemmas.List.{append-nil, length-take-le, take_more}
use Rattle.prop_lattice.specs.Rank.{IsOf}
use Rattle.prop_lattice.specs.declared.info.Info.{Info}
use Rattle.prop_lattice.specs.declared.info.Info.TheVariants.{Contradiction}
use Rattle.prop_procedures.specs.Fitting.{kind_at}
use Rattle.prop_procedures.specs.declared.shape.Kinded.{Kinded}
use Rattle.prop_facts.specs.Facts.{parts_of}
use Rattle.prop_facts.specs.declared.fact.Fact.TheVariants.{Other}
use Rattle.prop_facts.specs.declared.fact.Literal.{Literal}
use Rattle.prop_facts.specs.declared.fact.Parts.{Parts}
use Rattle.prop_refuting.specs.Calls.{AreArguments, literals_of}
use Rattle.prop_refuting.specs.Nogoods.{said_at}
use Rattle.prop_refuting.specs.Steps.{holes_at}

zip_push : {A B : Type 0} (R : A → B → Type 0) (xs : List A) (ys : List B) (x : A) (y : B) → AllZip R xs ys → R x y
    → AllZip R (xs ++ x ∷ []) (ys ++ y ∷ [])
zip_push R [] [] x y h r = (r, tt)
zip_push R [] (b ∷ ys) x y h r = absurd h
zip_push R (a ∷ xs) [] x y h r = absurd h
zip_push R (a ∷ xs) (b ∷ ys) x y h r = (h.0, zip_push R xs ys x y h.1 r)

pub zip_more : {A B : Type 0} (R : A → B → Type 0) (xs : List A) (ys : List B) (k : ℕ) (x : A) (y : B)
    → k < length xs → k < length ys → AllZip R (take k xs) (take k ys) → R (get_or xs k x) (get_or ys k y)
    → AllZip R (take (k + 1) xs) (take (k + 1) ys)
zip_more {A} {B} R xs ys k x y l m h r =
    rw (take_more xs k x l, take_more ys k y m) (zip_push R (take k xs) (take k ys) (get_or xs k x) (get_or ys k y) h r)

literals_push : (cells : List ℕ) (args : List Info) (c : ℕ) (a : Info) → length cells ≡ length args
    → literals_of (cells ++ c ∷ []) (args ++ a ∷ [])
    ≡ literals_of cells args ++ said_at c (parts_of a).first ++ said_at c (parts_of a).second
literals_push [] [] c a e = append-nil (said_at c (parts_of a).first ++ said_at c (parts_of a).second)
literals_push [] (b ∷ args) c a e = absurd (omega (arith, e))
literals_push (d ∷ cells) [] c a e = absurd (omega (arith, e))
literals_push (d ∷ cells) (b ∷ args) c a e =
    let first = said_at d (parts_of b).first ++ said_at d (parts_of b).second in
    let new = said_at c (parts_of a).first in
    let last = said_at c (parts_of a).second in
    ap (λ l. first ++ l) (literals_push cells args c a (omega (arith, e)))
    ∙ (sym (append_assoc first (literals_of cells args ++ new) last)
    ∙ ap (λ l. l ++ last) (sym (append_assoc first (literals_of cells args) new)))

pub literals_more : (cells : List ℕ) (args : List Info) (k c : ℕ) (a : Info) → k < length cells → k < length args
    → literals_of (take (k + 1) cells) (take (k + 1) args)
    ≡ literals_of (take k cells) (take k args) ++ said_at (get_or cells k c) (parts_of (get_or args k a)).first
    ++ said_at (get_or cells k c) (parts_of (get_or args k a)).second
literals_more cells args k c a l m =
    rw (take_more cells k c l, take_more args k a m)
    (literals_push (take k cells) (take k args) (get_or cells k c) (get_or args k a) (taken k cells args l m))
  where
    taken : (k : ℕ) (cells : List ℕ) (args : List Info) → k < length cells → k < length args
        → length (take k cells) ≡ length (take k args)
    taken k cells args l m = length-take-le k cells (omega arith) ∙ sym (length-take-le k args (omega arith))

pub holes_more : (place : ℕ) (first : ℤ) (k : ℕ) → holes_at place first (k + 1)
    ≡ holes_at place first k ++ record { place = place; fact = Other (first +ℤ pos k) } ∷ []
holes_more place first k = ap (holes_at place first) (add-one k)

-- ---- what a loop over two lists goes on with

pub arguments_more : (kinds : List Kinded) (cells : List ℕ) (args : List Info) (k m c : ℕ) (a : Info) → m ≡ k + 1
    → k < length cells → k < length args → c ≡ get_or cells k c → a ≡ get_or args k a
    → AreArguments kinds (take k cells) (take k args) → IsOf (kind_at kinds c).kind (kind_at kinds c).size a
    → (a ≢ Contradiction) → AreArguments kinds (take m cells) (take m args)
arguments_more kinds cells args k m c a e l w f g h o n =
    let IsArgument : ℕ → Info → Type 0 = λ cell b.
    IsOf (kind_at kinds cell).kind (kind_at kinds cell).size b × (b ≢ Contradiction) in
    let P : ℕ → Type 0 = λ i. AreArguments kinds (take i cells) (take i args) in
    let Q : ℕ → Type 0 = λ i. IsArgument i a in
    let R : Info → Type 0 = λ b. IsArgument (get_or cells k c) b in
    subst P (sym e) (zip_more IsArgument cells args k c a l w h (subst R g (subst Q f (o, n))))

pub parts_more : (before now then last : List Literal) (cells : List ℕ) (args : List Info) (k m c : ℕ) (a : Info)
    (parts : Parts) → m ≡ k + 1 → k < length cells → k < length args → c ≡ get_or cells k c → a ≡ get_or args k a
    → parts ≡ parts_of a → now ≡ before ++ literals_of (take k cells) (take k args)
    → then ≡ now ++ said_at c parts.first → last ≡ then ++ said_at c parts.second
    → last ≡ before ++ literals_of (take m cells) (take m args)
parts_more before now then last cells args k m c a parts e l w f g p h i j =
    let first = said_at c parts.first in
    let second = said_at c parts.second in
    let so_far = literals_of (take k cells) (take k args) in
    let P : Parts → Type 0 = λ q. literals_of (take (k + 1) cells) (take (k + 1) args)
    ≡ so_far ++ said_at c q.first ++ said_at c q.second in
    let Q : ℕ → Type 0 = λ i. literals_of (take (k + 1) cells) (take (k + 1) args)
    ≡ so_far ++ said_at i (parts_of a).first ++ said_at i (parts_of a).second in
    let R : Info → Type 0 = λ b. literals_of (take (k + 1) cells) (take (k + 1) args)
    ≡ so_far ++ said_at (get_or cells k c) (parts_of b).first ++ said_at (get_or cells k c) (parts_of b).second in
    let S : ℕ → Type 0 = λ i. literals_of (take i cells) (take i args) ≡ so_far ++ first ++ second in
    let more = subst S (sym e) (subst P (sym p) (subst Q (sym f) (subst R (sym g)
    (literals_more cells args k c a l w)))) in
    j ∙ ap (λ (t : List Literal). t ++ second) (i ∙ ap (λ (t : List Literal). t ++ first) h)
    ∙ ap (λ (t : List Literal). t ++ second) (append_assoc before so_far first)
    ∙ append_assoc before (so_far ++ first) second ∙ ap (λ (t : List Literal). before ++ t) (sym more)
