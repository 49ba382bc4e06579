-- How large products of ends are, and what comes back of them from 128 bits.
use Rattle.std.proofs.Common.{refl, ◌<ℤ◌, List, [], ◌∷◌, length, take, drop, get_or, ap, ◌-◌, ◌-ℤ◌, ◌≡◌, ◌∙◌, ◌*◌}
use Rattle.std.proofs.Common.{◌^◌, ◌≤◌, ◌<◌, ℕ, ℤ, pos, neg_ℤ, ◌+ℤ◌, ◌*ℤ◌, ◌≤ℤ◌, FitsSigned, w64, arith}
use Rattle.std.proofs.Common.{unsigned_abs, to_z, of_z}
use Rattle.std.specs.Int.{int_min, int_max, w128}
use Rattle.std.proofs.lemmas.Int.{ints, clamps}
use lib.Signed.{mag}
use Rattle.prop_intervals.proofs.WideLemmas.{product_of_sizes, back_128, back_64}
use Rattle.prop_lattice.specs.declared.info.Info.{Info}
use Rattle.prop_lattice.specs.declared.span.TheConstants.{B}
use Rattle.prop_rows.specs.Sums.{corner, total, shares_of, parts_of, addend_of}
use Rattle.std.proofs.lemmas.Bool.Decides.{Decides-int_eq}
use Rattle.std.specs.Prelude.{Bool, true, false, int_lt, int_le, ◌&&◌, if◌then◌else◌}
use Rattle.prop_lattice.specs.declared.info.Info.TheVariants.{Nothing, Contradiction}
use Rattle.std.proofs.lemmas.List.{take_all, length-take}
use Rattle.prop_wide.specs.Ends.{low_of, high_of, known}
use Rattle.prop_wide.specs.laws.EndLaws.{ends_ordered}

-- the number is no larger than 10^36 either way
abbrev pub IsSmall : ℤ → Type 0
IsSmall z = (neg_ℤ (pos (10 ^ 36)) ≤ℤ z) × (z ≤ℤ pos (10 ^ 36))

pub product_small : (a b : ℤ) → neg_ℤ B ≤ℤ a → a ≤ℤ B → neg_ℤ B ≤ℤ b → b ≤ℤ B → IsSmall (a *ℤ b)
product_small a b h i j k = product_of_sizes a b (10 ^ 18) (10 ^ 18) (size a h i) (size b j k)
  where
    size : (a : ℤ) → neg_ℤ B ≤ℤ a → a ≤ℤ B → unsigned_abs a ≤ 10 ^ 18
    size a h i = omega (arith, ints)

pub low_fits : (x : Info) → FitsSigned w64 (low_of x)
low_fits x = let o = ends_ordered x in fits (low_of x) (high_of x) o.above o.ordered o.below
  where
    fits : (l h : ℤ) → neg_ℤ B ≤ℤ l → l ≤ℤ h → h ≤ℤ B → FitsSigned w64 l
    fits l h p q r = omega (arith, ints)

pub high_fits : (x : Info) → FitsSigned w64 (high_of x)
high_fits x = let o = ends_ordered x in fits (low_of x) (high_of x) o.above o.ordered o.below
  where
    fits : (l h : ℤ) → neg_ℤ B ≤ℤ l → l ≤ℤ h → h ≤ℤ B → FitsSigned w64 h
    fits l h p q r = omega (arith, ints)

-- corners are no larger
pub corners_small : (c x : Info) → IsSmall (corner int_min c x) × IsSmall (corner int_max c x)
corners_small c x =
    let o = ends_ordered c in
    let e = ends_ordered x in
    let cl = below (low_of c) (high_of c) o.ordered o.below in
    let ch = above (low_of c) (high_of c) o.above o.ordered in
    let xl = below (low_of x) (high_of x) e.ordered e.below in
    let xh = above (low_of x) (high_of x) e.above e.ordered in
    let p = product_small (low_of c) (low_of x) o.above cl e.above xl in
    let q = product_small (low_of c) (high_of x) o.above cl xh e.below in
    let r = product_small (high_of c) (low_of x) ch o.below e.above xl in
    let s = product_small (high_of c) (high_of x) ch o.below xh e.below in
    (least _ _ _ _ p q r s, greatest _ _ _ _ p q r s)
  where
    below : (l h : ℤ) → l ≤ℤ h → h ≤ℤ B → l ≤ℤ B
    below l h i j = omega (arith, ints)

    above : (l h : ℤ) → neg_ℤ B ≤ℤ l → l ≤ℤ h → neg_ℤ B ≤ℤ h
    above l h i j = omega (arith, ints)

    least : (p q r s : ℤ) → IsSmall p → IsSmall q → IsSmall r → IsSmall s
        → IsSmall (int_min (int_min p q) (int_min r s))
    least p q r s h i j k =
        (omega (arith, ints, clamps, h.0, i.0, j.0, k.0), omega (arith, ints, clamps, h.1, i.1, j.1, k.1))

    greatest : (p q r s : ℤ) → IsSmall p → IsSmall q → IsSmall r → IsSmall s
        → IsSmall (int_max (int_max p q) (int_max r s))
    greatest p q r s h i j k =
        (omega (arith, ints, clamps, h.0, i.0, j.0, k.0), omega (arith, ints, clamps, h.1, i.1, j.1, k.1))

-- the number fits with room for one more
abbrev pub HasRoom : ℤ → Type 0
HasRoom z = (neg_ℤ (pos (8 * 10 ^ 37)) ≤ℤ z) × (z ≤ℤ pos (8 * 10 ^ 37))

pub sum_back : (a b x y : ℤ) → HasRoom a → HasRoom b → a ≡ x → b ≡ y
    → to_z w128 (of_z w128 (to_z w128 (of_z w128 a) +ℤ to_z w128 (of_z w128 b))) ≡ x +ℤ y
sum_back a b x y h k e f = by a b h.0 h.1 k.0 k.1 ∙ (λ i. e i +ℤ f i)
  where
    by : (a b : ℤ) → neg_ℤ (pos (8 * 10 ^ 37)) ≤ℤ a → a ≤ℤ pos (8 * 10 ^ 37) → neg_ℤ (pos (8 * 10 ^ 37)) ≤ℤ b
        → b ≤ℤ pos (8 * 10 ^ 37)
        → to_z w128 (of_z w128 (to_z w128 (of_z w128 a) +ℤ to_z w128 (of_z w128 b))) ≡ a +ℤ b
    by a b p q r s = omega (arith, ints)

pub product_back : (a b : ℤ) → neg_ℤ B ≤ℤ a → a ≤ℤ B → neg_ℤ B ≤ℤ b → b ≤ℤ B → (x y : ℤ) → mag x < 2 ^ 127
    → mag y < 2 ^ 127 → x ≡ a → y ≡ b
    → IsSmall (to_z w128 (of_z w128 (to_z w128 (of_z w128 x) *ℤ to_z w128 (of_z w128 y))))
product_back a b h i j k x y m n e f = rw (back_128 x a m e, back_128 y b n f)
    (small (a *ℤ b) (product_small a b h i j k).0 (product_small a b h i j k).1)
  where
    small : (z : ℤ) → neg_ℤ (pos (10 ^ 36)) ≤ℤ z → z ≤ℤ pos (10 ^ 36) → IsSmall (to_z w128 (of_z w128 z))
    small z h k = (omega (arith, ints), omega (arith, ints))

-- an opposite that comes back
pub opposite_back : (z : ℤ) → neg_ℤ (pos (2 ^ 126)) ≤ℤ z → z ≤ℤ pos (2 ^ 126)
    → to_z w128 (of_z w128 (pos 0 -ℤ to_z w128 (of_z w128 z))) ≡ neg_ℤ z
opposite_back z h k = omega (arith, ints)

-- ---- rows

-- what the first two add
pub two_first : (pick : ℤ → ℤ → ℤ) (pairs : List Info) (c x : Info) (s p : ℤ) → 2 ≤ length pairs
    → c ≡ get_or pairs 0 c → x ≡ get_or pairs 1 x → s ≡ total pick (take (length pairs - 2) (drop 2 pairs))
    → p ≡ corner pick c x → (s +ℤ p) ≡ total pick pairs
two_first pick (a ∷ b ∷ rest) c x s p l e f g h =
    let all : take (length (a ∷ b ∷ rest) - 2) rest ≡ rest = take_all _ rest (omega arith) in
    λ i. (g ∙ ap (total pick) all) i +ℤ (h ∙ (λ j. corner pick (e j) (f j))) i
two_first pick (a ∷ []) c x s p l e f g h = absurd (omega (arith, l))
two_first pick [] c x s p l e f g h = absurd (omega (arith, l))

-- what is known of all but two has room
pub rest_room : (pairs : List Info) (s : ℤ) → length pairs ≤ 128
    → neg_ℤ (pos (length (take (length pairs - 2) (drop 2 pairs)) * (5 * 10 ^ 35))) ≤ℤ s
    → s ≤ℤ pos (length (take (length pairs - 2) (drop 2 pairs)) * (5 * 10 ^ 35)) → HasRoom s
rest_room pairs s few h k =
    by (length (take (length pairs - 2) (drop 2 pairs)))
    (omega (arith, few, length-take (length pairs - 2) (drop 2 pairs))) h k
  where
    by : (n : ℕ) → n ≤ 126 → neg_ℤ (pos (n * (5 * 10 ^ 35))) ≤ℤ s → s ≤ℤ pos (n * (5 * 10 ^ 35)) → HasRoom s
    by n l h k = (omega (arith, ints), omega (arith, ints))

pub small_room : (p : ℤ) → neg_ℤ (pos (10 ^ 36)) ≤ℤ p → p ≤ℤ pos (10 ^ 36) → HasRoom p
small_room p h k = (omega (arith, ints), omega (arith, ints))

pub pairs_room : (n : ℕ) (s : ℤ) → n ≤ 126 → neg_ℤ (pos (n * (5 * 10 ^ 35))) ≤ℤ s → s ≤ℤ pos (n * (5 * 10 ^ 35))
    → HasRoom s
pairs_room n s l h k = (omega (arith, ints), omega (arith, ints))

pub difference_back : (a b x y : ℤ) → neg_ℤ B ≤ℤ a → a ≤ℤ B → HasRoom b → a ≡ x → b ≡ y
    → to_z w128 (of_z w128 (to_z w128 (of_z w128 a) -ℤ to_z w128 (of_z w128 b))) ≡ x -ℤ y
difference_back a b x y h i k e f = by a b h i k.0 k.1 ∙ (λ j. e j -ℤ f j)
  where
    by : (a b : ℤ) → neg_ℤ B ≤ℤ a → a ≤ℤ B → neg_ℤ (pos (8 * 10 ^ 37)) ≤ℤ b → b ≤ℤ pos (8 * 10 ^ 37)
        → to_z w128 (of_z w128 (to_z w128 (of_z w128 a) -ℤ to_z w128 (of_z w128 b))) ≡ a -ℤ b
    by a b p q r s = omega (arith, ints)

-- ---- parts

pub parts_under : (a b c : ℤ) → c <ℤ pos 0 → shares_of (neg_ℤ b) (neg_ℤ a) (neg_ℤ c) ≡ parts_of a b c
parts_under a b c l = by (int_lt (pos 0) c) refl (int_lt c (pos 0)) refl
  where
    by : (s : Bool) → int_lt (pos 0) c ≡ s → (t : Bool) → int_lt c (pos 0) ≡ t
        → shares_of (neg_ℤ b) (neg_ℤ a) (neg_ℤ c) ≡ (if s then shares_of a b c
        else (if t then shares_of (neg_ℤ b) (neg_ℤ a) (neg_ℤ c)
        else (if int_le a (pos 0) && int_le (pos 0) b then Nothing else Contradiction)))
    by true e t f = absurd (omega (arith, ints))
    by false e true f = refl
    by false e false f = absurd (omega (arith, ints))

pub addend_known : (z c : Info) (pairs : List Info) → low_of c ≡ high_of c
    → parts_of (low_of z -ℤ total int_max pairs) (high_of z -ℤ total int_min pairs) (low_of c) ≡ addend_of z c pairs
addend_known z c pairs e = rw ((Decides-int_eq (low_of c) (high_of c)).1 e) refl

-- an end in 64 bits that comes back in 128
pub widened : (r f v : ℤ) → f ≡ to_z w64 (of_z w64 r) → r ≡ v → neg_ℤ B ≤ℤ v → v ≤ℤ B
    → (f ≡ v) × (neg_ℤ B ≤ℤ f) × (f ≤ℤ B)
widened r f v e g h i =
    let same : f ≡ v = e ∙ back_64 r v (fits v h i) g in
    (same, rw same h, rw same i)
  where
    fits : (v : ℤ) → neg_ℤ B ≤ℤ v → v ≤ℤ B → FitsSigned w64 v
    fits v h i = omega (arith, ints)

pub known_is : (lo hi lo' hi' : ℤ) (r : Info) → r ≡ known lo hi → lo ≡ lo' → hi ≡ hi' → r ≡ known lo' hi'
known_is lo hi lo' hi' r e p q = e ∙ (λ i. known (p i) (q i))
