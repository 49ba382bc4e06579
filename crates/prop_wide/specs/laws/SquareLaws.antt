-- The laws of squares and roots by a scale.
use Rattle.std.specs.Prelude.{◌≡◌, ◌≢◌, ℕ, ◌≤◌, ℤ, pos, neg_ℤ, ◌+ℤ◌, ◌-ℤ◌, ◌*ℤ◌, ◌≤ℤ◌, ◌<ℤ◌, Bool}
use Rattle.std.specs.Prelude.{◌*◌, true, false, int_lt, unsigned_abs, if◌then◌else◌}
use Rattle.std.specs.Int.{int_max}
use Rattle.std.proofs.Common.{arith, refl, rules, ap, ◌∙◌}
use Rattle.std.proofs.lemmas.Int.{ints, clamps, by_lt_z}
use lib.IntN.{*ℤ_comm}
use Rattle.prop_intervals.specs.laws.ProductLaws.{product_monotone, product_kind, product_sound}
use Rattle.prop_intervals.specs.laws.QuotientLaws.{product-le, neg-product}
use Rattle.prop_intervals.specs.laws.Relations.{IsInRange}
use Rattle.prop_intervals.specs.laws.RootLaws.{least_root-from, least_root-to, greatest_root-from}
use Rattle.prop_intervals.specs.laws.RootLaws.{greatest_root-to, square_is}
use Rattle.prop_intervals.specs.inner.Roots.{least_root, greatest_root}
use Rattle.prop_lattice.specs.Order.{Below}
use Rattle.prop_lattice.specs.laws.OrderLaws.{to_top}
use Rattle.prop_lattice.specs.Points.{Number, Holds}
use Rattle.prop_lattice.specs.Rank.{IsOf}
use Rattle.prop_lattice.specs.declared.span.TheConstants.{B}
use Rattle.prop_lattice.specs.declared.info.Info.{Info}
use Rattle.prop_lattice.specs.declared.info.Info.TheVariants.{Nothing, Span, Set, Sym}
use Rattle.prop_lattice.specs.declared.info.Info.TheVariants.{Contradiction}
use Rattle.prop_lattice.specs.declared.info.Kind.TheVariants as kinds
use Rattle.prop_wide.specs.Distances.{abs_of, at_distance}
use Rattle.prop_wide.specs.Ends.{low_of, high_of}
use Rattle.prop_wide.specs.Squares.{IsSquareBy, times_itself, square_of, least_square}
use Rattle.prop_wide.specs.Squares.{greatest_square, root_of}
use Rattle.prop_wide.specs.laws.DistanceLaws.{abs_below, abs_kind, abs_sound, at_distance_below}
use Rattle.prop_wide.specs.laws.DistanceLaws.{at_distance_kind, at_distance_holds}
use Rattle.prop_wide.specs.laws.EndLaws.{ends_within, held_between}

-- ---- squares

itself_below : (k : ℤ) (d d' : Info) → pos 1 ≤ℤ k → Below d d'
    → Below (times_itself k d) (times_itself k d')
itself_below k (Span d) (Span d') s p = product_monotone d d d' d' k s p p
itself_below k d Contradiction s p = to_top (times_itself k d)
itself_below k Nothing d' s p = tt
itself_below k (Set a) (Set b) s p = p
itself_below k (Sym a) (Sym b) s p = p
itself_below k d d' s p = search rules

pub square_below : (k : ℤ) → pos 1 ≤ℤ k → (x x' : Info) → Below x x' → x' ≢ Contradiction
    → Below (square_of k x) (square_of k x')
square_below k s x x' p n = itself_below k (abs_of x) (abs_of x') s (abs_below x x' p n)

itself_kind : (k : ℤ) (d : Info) → IsOf kinds.Span 0 d → IsOf kinds.Span 0 (times_itself k d)
itself_kind k (Span d) p = product_kind 0 d d k
itself_kind k Nothing p = tt
itself_kind k Contradiction p = tt
itself_kind k d p = search rules

pub square_kind : (k : ℤ) (x : Info) → IsOf kinds.Span 0 (square_of k x)
square_kind k x = itself_kind k (abs_of x) (abs_kind x)

-- an opposite has the same square
opposite_square : (u : ℤ) → (neg_ℤ u *ℤ neg_ℤ u) ≡ (u *ℤ u)
opposite_square u = neg-product u (neg_ℤ u) ∙ ap neg_ℤ (*ℤ_comm u (neg_ℤ u) ∙ neg-product u u)
    ∙ twice (u *ℤ u)
  where
    twice : (v : ℤ) → neg_ℤ (neg_ℤ v) ≡ v
    twice v = omega (arith, ints)

pub distance_square : (u : ℤ) → (int_max u (neg_ℤ u) *ℤ int_max u (neg_ℤ u)) ≡ (u *ℤ u)
distance_square u = by_lt_z u (pos 0) (λ l. rw (below l) (opposite_square u))
    (λ l. rw (above l) refl)
  where
    below : u <ℤ pos 0 → int_max u (neg_ℤ u) ≡ neg_ℤ u
    below l = omega (arith, ints, clamps)

    above : pos 0 ≤ℤ u → int_max u (neg_ℤ u) ≡ u
    above l = omega (arith, ints, clamps)

itself_holds : (k : ℤ) (d : Info) (v w : ℤ) → pos 1 ≤ℤ k → Holds d (Number v) → IsInRange w
    → IsSquareBy k v w → Holds (times_itself k d) (Number w)
itself_holds k (Span d) v w s h r e = product_sound d d k v v w s h h r e
itself_holds k Nothing v w s h r e = tt
itself_holds k d v w s h r e = search rules

pub square_sound : (k : ℤ) → pos 1 ≤ℤ k → (x : Info) (u w : ℤ) → Holds x (Number u) → IsInRange u
    → IsInRange w → IsSquareBy k u w → Holds (square_of k x) (Number w)
square_sound k s x u w h r t e =
    itself_holds k (abs_of x) (int_max u (neg_ℤ u)) w s
    (abs_sound x u (int_max u (neg_ℤ u)) h r (far u r.0 r.1) refl) t
    (rw (distance_square u) e)
  where
    far : (u : ℤ) → neg_ℤ B ≤ℤ u → u ≤ℤ B → IsInRange (int_max u (neg_ℤ u))
    far u p q = (omega (arith, ints, clamps), omega (arith, ints, clamps))

-- ---- roots

-- the roots of more are no less
least_grows : (m n : ℤ) → m ≤ℤ n → least_root m ≤ least_root n
least_grows m n p =
    let v : ℤ = pos (least_root n) in
    least_root-from m v (through m n (v *ℤ v) p (least_root-to n v (omega arith)))
  where
    through : (a b c : ℤ) → a ≤ℤ b → b ≤ℤ c → a ≤ℤ c
    through a b c p q = omega (arith, ints)

greatest_grows : (m n : ℤ) → pos 0 ≤ℤ m → m ≤ℤ n → greatest_root m ≤ greatest_root n
greatest_grows m n z p =
    let v : ℤ = pos (greatest_root m) in
    greatest_root-from n v (through (v *ℤ v) m n (greatest_root-to m v z (omega arith)) p)
  where
    through : (a b c : ℤ) → a ≤ℤ b → b ≤ℤ c → a ≤ℤ c
    through a b c p q = omega (arith, ints)

least_square_grows : (k : ℤ) (a b : ℤ) → pos 1 ≤ℤ k → a ≤ℤ b
    → (((a -ℤ pos 1) *ℤ k) +ℤ pos 1) ≤ℤ (((b -ℤ pos 1) *ℤ k) +ℤ pos 1)
least_square_grows k a b s p = more ((a -ℤ pos 1) *ℤ k) ((b -ℤ pos 1) *ℤ k)
    (product-le (a -ℤ pos 1) (b -ℤ pos 1) k (omega (arith, ints)) (omega (arith, ints)))
  where
    more : (m n : ℤ) → m ≤ℤ n → (m +ℤ pos 1) ≤ℤ (n +ℤ pos 1)
    more m n p = omega (arith, ints)

greatest_square_grows : (k : ℤ) (a b : ℤ) → pos 1 ≤ℤ k → a ≤ℤ b
    → (((a +ℤ pos 1) *ℤ k) -ℤ pos 1) ≤ℤ (((b +ℤ pos 1) *ℤ k) -ℤ pos 1)
greatest_square_grows k a b s p = more ((a +ℤ pos 1) *ℤ k) ((b +ℤ pos 1) *ℤ k)
    (product-le (a +ℤ pos 1) (b +ℤ pos 1) k (omega (arith, ints)) (omega (arith, ints)))
  where
    more : (m n : ℤ) → m ≤ℤ n → (m -ℤ pos 1) ≤ℤ (n -ℤ pos 1)
    more m n p = omega (arith, ints)

as_numbers : (m n : ℕ) → m ≤ n → pos m ≤ℤ pos n
as_numbers m n p = omega (arith, ints)

pub root_below : (k : ℤ) → pos 1 ≤ℤ k → (y x y' x' : Info) → Below y y' → Below x x'
    → y' ≢ Contradiction → x' ≢ Contradiction → Below (root_of k y x) (root_of k y' x')
root_below k s y x y' x' p q n m =
    let a = ends_within y y' p n in
    by (least_square_grows k (low_of y) (low_of y') s a.low)
    (greatest_square_grows k (high_of y') (high_of y) s a.high)
    (int_lt (greatest_square k y) (pos 0)) refl (int_lt (greatest_square k y') (pos 0)) refl
  where
    by : least_square k y ≤ℤ least_square k y' → greatest_square k y' ≤ℤ greatest_square k y
        → (t : Bool) → int_lt (greatest_square k y) (pos 0) ≡ t → (t' : Bool)
        → int_lt (greatest_square k y') (pos 0) ≡ t' →
        Below (if t then Contradiction else at_distance x (pos (least_root (least_square k y)))
        (pos (greatest_root (greatest_square k y))))
        (if t' then Contradiction else at_distance x' (pos (least_root (least_square k y')))
        (pos (greatest_root (greatest_square k y'))))
    by l g t e true f = to_top _
    by l g true e false f =
        absurd (clash (greatest_square k y) (greatest_square k y') g e f)
      where
        clash : (u v : ℤ) → v ≤ℤ u → int_lt u (pos 0) ≡ true → int_lt v (pos 0) ≡ false → ⊥
        clash u v g e f = omega (arith, ints)
    by l g false e false f =
        at_distance_below x x' _ _ _ _ (ends_within x x' q m)
        (as_numbers _ _ (least_grows (least_square k y) (least_square k y') l))
        (as_numbers _ _ (greatest_grows (greatest_square k y') (greatest_square k y)
        (not_below (greatest_square k y') f) g))
      where
        not_below : (v : ℤ) → int_lt v (pos 0) ≡ false → pos 0 ≤ℤ v
        not_below v f = omega (arith, ints)

pub root_kind : (k : ℤ) (y x : Info) → IsOf kinds.Span 0 (root_of k y x)
root_kind k y x = by (int_lt (greatest_square k y) (pos 0))
  where
    by : (t : Bool) → IsOf kinds.Span 0 (if t then Contradiction
        else at_distance x (pos (least_root (least_square k y)))
        (pos (greatest_root (greatest_square k y))))
    by true = tt
    by false = at_distance_kind x (pos (least_root (least_square k y)))
        (pos (greatest_root (greatest_square k y)))

pub root_sound : (k : ℤ) → pos 1 ≤ℤ k → (y x : Info) (w u v : ℤ) → Holds y (Number w)
    → Holds x (Number u) → IsInRange w → IsInRange u → IsInRange v → (v ≡ u) × IsSquareBy k u w
    → Holds (root_of k y x) (Number v)
root_sound k s y x w u v h i r t o e =
    let a = held_between y w h r in
    rw e.0 (by (int_lt (greatest_square k y) (pos 0)) refl
    (from (least_square k y) (k *ℤ (w -ℤ pos 1)) ((w -ℤ pos 1) *ℤ k) (u *ℤ u)
    (*ℤ_comm k (w -ℤ pos 1)) (least_square_grows k (low_of y) w s a.from) e.1.0)
    (to (greatest_square k y) (k *ℤ (w +ℤ pos 1)) ((w +ℤ pos 1) *ℤ k) (u *ℤ u)
    (*ℤ_comm k (w +ℤ pos 1)) (greatest_square_grows k w (high_of y) s a.to) e.1.1))
  where
    from : (m p q z : ℤ) → p ≡ q → m ≤ℤ (q +ℤ pos 1) → p <ℤ z → m ≤ℤ z
    from m p q z e l g = omega (arith, ints)

    to : (m p q z : ℤ) → p ≡ q → (q -ℤ pos 1) ≤ℤ m → z <ℤ p → z ≤ℤ m
    to m p q z e l g = omega (arith, ints)

    by : (t : Bool) → int_lt (greatest_square k y) (pos 0) ≡ t → least_square k y ≤ℤ (u *ℤ u)
        → (u *ℤ u) ≤ℤ greatest_square k y → Holds (if t then Contradiction
        else at_distance x (pos (least_root (least_square k y)))
        (pos (greatest_root (greatest_square k y)))) (Number u)
    by true f l g = absurd (clash (greatest_square k y) (u *ℤ u) (unsigned_abs u * unsigned_abs u)
        (square_is u) f g)
      where
        clash : (m z : ℤ) (n : ℕ) → z ≡ pos n → int_lt m (pos 0) ≡ true → z ≤ℤ m → ⊥
        clash m z n e f g = omega (arith, ints)
    by false f l g = at_distance_holds x _ _ u (held_between x u i t)
        (as_numbers _ _ (least_root-from (least_square k y) u l))
        (as_numbers _ _ (greatest_root-from (greatest_square k y) u g))
