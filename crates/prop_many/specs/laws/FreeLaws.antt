-- What is left beside others ends with numbers that are in none of their Hall intervals.
use Rattle.std.specs.Prelude.{◌≡◌, ◌⊎◌, ℕ, zero, suc, ◌+◌, ◌≤◌, nat_lt, ℤ, pos, ◌+ℤ◌, ◌-ℤ◌}
use Rattle.std.specs.Prelude.{◌≤ℤ◌, ◌<ℤ◌, int_le, int_lt, unsigned_abs, Bool, true, false, ◌&&◌}
use Rattle.std.specs.Prelude.{if◌then◌else◌, List, [], ◌∷◌, length}
use Rattle.std.specs.Int.{int_max, int_min}
use Rattle.std.proofs.Common.{arith, refl, sym, subst, ap, ◌∙◌, inl, inr}
use Rattle.std.proofs.lemmas.Int.{ints, clamps, by_lt_z}
use Rattle.prop_lattice.specs.declared.info.Info.{Info}
use Rattle.prop_wide.specs.Ends.{low_of, high_of}
use Rattle.prop_many.specs.Differ.{any_crowded, before, before_all, behind, lies_in, lying_in}
use Rattle.prop_many.specs.Differ.{past, past_all, widest, width_of}
use Rattle.prop_many.specs.Free.{EndsAreFree, IsFree}
use Rattle.prop_many.specs.laws.DifferLaws.{Begins, before_all_first, behind_of, crowd_seen}
use Rattle.prop_many.specs.laws.DifferLaws.{hall_begins, in_both, in_parts, le_le, less_from}
use Rattle.prop_many.specs.laws.DifferLaws.{lt_le_not, lying_few, lying_none, no_less, ones}
use Rattle.prop_many.specs.laws.DifferLaws.{past_all_behind, width_is_hall}
use Rattle.prop_many.specs.laws.NumberLaws.{never}

-- ---- two Hall intervals that meet

four_le : (s s' t t' : Bool) → (s ≡ true → t ≡ true) → (s' ≡ true → t ≡ true)
    → (s ≡ true → s' ≡ true → t' ≡ true) → ones s + ones s' ≤ ones t + ones t'
four_le false false t t' p q r = omega arith
four_le true false true t' p q r = omega arith
four_le true false false t' p q r = absurd (never (p refl))
four_le false true true t' p q r = omega arith
four_le false true false t' p q r = absurd (never (q refl))
four_le true true true true p q r = omega arith
four_le true true true false p q r = absurd (never (r refl refl))
four_le true true false t' p q r = absurd (never (p refl))

four_sums : (a b c d x y z u : ℕ) → a + b ≤ c + d → x + y ≤ z + u
    → (a + x) + (b + y) ≤ (c + z) + (d + u)
four_sums a b c d x y z u p q = omega arith

-- Two intervals: of j + k numbers from a on, and of v numbers from a + j on, where k is no more
-- than v. Who lies in them lies at least as often in the interval of both together, and in the k
-- numbers that they share.
lies_both : (o : Info) (a : ℤ) (j k v : ℕ) → k ≤ v
    → ones (lies_in o a (j + k)) + ones (lies_in o (a +ℤ pos j) v)
    ≤ ones (lies_in o a (j + v)) + ones (lies_in o (a +ℤ pos j) k)
lies_both o a j k v m = four_le (lies_in o a (j + k)) (lies_in o (a +ℤ pos j) v)
    (lies_in o a (j + v)) (lies_in o (a +ℤ pos j) k)
    (λ e. let p = in_parts a (low_of o) (high_of o) (a +ℤ pos (j + k)) e in
    in_both a (low_of o) (high_of o) (a +ℤ pos (j + v)) p.0 (wider (high_of o) p.1))
    (λ e. let p = in_parts (a +ℤ pos j) (low_of o) (high_of o) ((a +ℤ pos j) +ℤ pos v) e in
    in_both a (low_of o) (high_of o) (a +ℤ pos (j + v)) (sooner (low_of o) p.0)
    (same_end (high_of o) p.1))
    (λ e f. let p = in_parts a (low_of o) (high_of o) (a +ℤ pos (j + k)) e in
    let q = in_parts (a +ℤ pos j) (low_of o) (high_of o) ((a +ℤ pos j) +ℤ pos v) f in
    in_both (a +ℤ pos j) (low_of o) (high_of o) ((a +ℤ pos j) +ℤ pos k) q.0
    (inner_end (high_of o) p.1))
  where
    wider : (h : ℤ) → h <ℤ (a +ℤ pos (j + k)) → h <ℤ (a +ℤ pos (j + v))
    wider h p = omega (arith, ints, m)

    sooner : (l : ℤ) → (a +ℤ pos j) ≤ℤ l → a ≤ℤ l
    sooner l p = omega (arith, ints)

    same_end : (h : ℤ) → h <ℤ ((a +ℤ pos j) +ℤ pos v) → h <ℤ (a +ℤ pos (j + v))
    same_end h p = omega (arith, ints)

    inner_end : (h : ℤ) → h <ℤ (a +ℤ pos (j + k)) → h <ℤ ((a +ℤ pos j) +ℤ pos k)
    inner_end h p = omega (arith, ints)

lying_both : (others : List Info) (a : ℤ) (j k v : ℕ) → k ≤ v
    → lying_in others a (j + k) + lying_in others (a +ℤ pos j) v
    ≤ lying_in others a (j + v) + lying_in others (a +ℤ pos j) k
lying_both [] a j k v m = omega arith
lying_both (o ∷ others) a j k v m =
    four_sums _ _ _ _ _ _ _ _ (lies_both o a j k v m) (lying_both others a j k v m)

not_crowded : (others : List Info) (a : ℤ) (k : ℕ) → k ≤ widest others
    → any_crowded others others ≡ false → lying_in others a k ≤ k
not_crowded others a zero f n = omega (arith, lying_none others a)
not_crowded others a (suc k) f n = by (nat_lt (suc k) (lying_in others a (suc k))) refl
  where
    by : (t : Bool) → nat_lt (suc k) (lying_in others a (suc k)) ≡ t
        → lying_in others a (suc k) ≤ suc k
    by false e = no_less (suc k) (lying_in others a (suc k)) e
    by true e = absurd (never (sym n ∙ crowd_seen others (suc k) a (omega arith) f
        (less_from (suc k) (lying_in others a (suc k)) e)))

hall_fits : (others : List Info) (a : ℤ) (w : ℕ) → length others ≤ 64
    → w ≤ lying_in others a w → w ≤ widest others
hall_fits others a w few h = omega (arith, few, h, lying_few others a w)

-- two Hall intervals that share numbers or touch are one together
union : (others : List Info) (a : ℤ) (j k v : ℕ) → length others ≤ 64
    → any_crowded others others ≡ false → k ≤ v → j + k ≤ lying_in others a (j + k)
    → v ≤ lying_in others (a +ℤ pos j) v → j + v ≤ lying_in others a (j + v)
union others a j k v few n m h h' =
    let fits = hall_fits others (a +ℤ pos j) v few h' in
    let inner = not_crowded others (a +ℤ pos j) k (omega (arith, fits, m)) n in
    omega (arith, h, h', inner, lying_both others a j k v m)

-- two Hall intervals, of w numbers from a on and of v numbers from b on: the second begins in the
-- first or just behind it, and ends no earlier
record IsMet (others : List Info) (a : ℤ) (w : ℕ) (b : ℤ) (v : ℕ) : Type 0 where
  from : a ≤ℤ b
  meets : b ≤ℤ (a +ℤ pos w)
  inside : (a +ℤ pos w) ≤ℤ (b +ℤ pos v)
  first_hall : w ≤ lying_in others a w
  second_hall : v ≤ lying_in others b v

-- the widest Hall interval from a on reaches as far as the second of the two
reaches : (others : List Info) (a : ℤ) (w : ℕ) (b : ℤ) (v : ℕ) → length others ≤ 64
    → any_crowded others others ≡ false → IsMet others a w b v
    → (b +ℤ pos v) ≤ℤ behind others a
reaches others a w b v few n met =
    let j = unsigned_abs (b -ℤ a) in
    let k = unsigned_abs ((a +ℤ pos w) -ℤ b) in
    let start : b ≡ a +ℤ pos j = omega (arith, ints, met.from) in
    let parts : w ≡ j + k = omega (arith, ints, met.from, met.meets) in
    let less : k ≤ v = omega (arith, ints, met.from, met.meets, met.inside) in
    let hall = union others a j k v few n less
    (subst (λ m. m ≤ lying_in others a m) parts met.first_hall)
    (subst (λ c. v ≤ lying_in others c v) start met.second_hall) in
    le_le (b +ℤ pos v) (a +ℤ pos (j + v)) (behind others a) (omega (arith, ints, start))
    (behind_of others a (j + v) (hall_fits others a (j + v) few hall) hall)

-- ---- the first number past the Hall intervals

-- a Hall interval in which the number v lies, and behind which the number `to` is the first
record IsLed (others starting : List Info) (v to : ℤ) : Type 0 where
  first : ℤ
  begins : Begins starting first
  from : first ≤ℤ v
  over : v <ℤ behind others first
  is : to ≡ behind others first

past_is : (a b v e : ℤ) → (past a b v e ≡ e) ⊎ ((a ≤ℤ v) × (v <ℤ b) × (past a b v e ≡ b))
past_is a b v e = by (int_le a v && int_lt v b) refl
  where
    by : (t : Bool) → (int_le a v && int_lt v b) ≡ t
        → ((if t then int_max e b else e) ≡ e)
        ⊎ ((a ≤ℤ v) × (v <ℤ b) × ((if t then int_max e b else e) ≡ b))
    by false f = inl refl
    by true f = by_lt_z e b
        (λ p. let q = in_parts a v v b f in inr (q.0, q.1, omega (arith, ints, clamps, p)))
        (λ p. inl (omega (arith, ints, clamps, p)))

past_all_is : (others starting : List Info) (v e : ℤ)
    → (past_all others starting v e ≡ e) ⊎ IsLed others starting v (past_all others starting v e)
past_all_is others [] v e = inl refl
past_all_is others (o ∷ starting) v e =
    by (past_is (low_of o) (behind others (low_of o)) v e) (past_all_is others starting v next)
  where
    next : ℤ
    next = past (low_of o) (behind others (low_of o)) v e

    all : ℤ
    all = past_all others starting v next

    by : (next ≡ e) ⊎ ((low_of o ≤ℤ v) × (v <ℤ behind others (low_of o))
        × (next ≡ behind others (low_of o)))
        → (all ≡ next) ⊎ IsLed others starting v all
        → (all ≡ e) ⊎ IsLed others (o ∷ starting) v all
    by s (inr led) = inr (record {
      first = led.first;
      begins = inr led.begins;
      from = led.from;
      over = led.over;
      is = led.is;
    })
    by (inl same) (inl is) = inl (is ∙ same)
    by (inr led) (inl is) = inr (record {
      first = low_of o;
      begins = inl refl;
      from = led.0;
      over = led.1;
      is = is ∙ led.2;
    })

past_is_free : (others : List Info) (v : ℤ) → length others ≤ 64
    → any_crowded others others ≡ false → IsFree others (past_all others others v v)
past_is_free others v few n a w hall p q = by (past_all_is others others v v)
  where
    to : ℤ
    to = past_all others others v v

    fits : w ≤ widest others
    fits = hall_fits others a w few hall.1

    begins : Begins others a
    begins = hall_begins others w a hall.0 fits hall.1 n

    -- a Hall interval that has the number itself leads further
    further : a ≤ℤ v → v <ℤ (a +ℤ pos w) → ⊥
    further r s =
        let there = behind_of others a w fits hall.1 in
        beyond (a +ℤ pos w) (behind others a) to there
        (past_all_behind others others a v v begins r (under v (a +ℤ pos w) (behind others a) s
        there)) q
      where
        beyond : (x y z : ℤ) → x ≤ℤ y → y ≤ℤ z → z <ℤ x → ⊥
        beyond x y z p q r = omega (arith, ints)

        under : (x y z : ℤ) → x <ℤ y → y ≤ℤ z → x <ℤ z
        under x y z p q = omega (arith, ints)

    led_on : IsLed others others v to → ⊥
    led_on led = by_lt_z a led.first
        (λ r. further (before_it a led.first v r led.from)
        (over v to (a +ℤ pos w) (above v (behind others led.first) to led.over led.is) q))
        (λ r. apart r)
      where
        before_it : (x y z : ℤ) → x <ℤ y → y ≤ℤ z → x ≤ℤ z
        before_it x y z p q = omega (arith, ints)

        above : (x y z : ℤ) → x <ℤ y → z ≡ y → x <ℤ z
        above x y z p q = omega (arith, ints)

        over : (x y z : ℤ) → x <ℤ y → y <ℤ z → x <ℤ z
        over x y z p q = omega (arith, ints)

        width : ℕ
        width = width_of others led.first (widest others)

        apart : led.first ≤ℤ a → ⊥
        apart r =
            let far = reaches others led.first width a w few n (record {
              from = r;
              meets = same (behind others led.first) to led.is p;
              inside = less (behind others led.first) to led.is (a +ℤ pos w) q;
              first_hall = width_is_hall others led.first (widest others);
              second_hall = hall.1;
            }) in
            at_end (behind others led.first) to (a +ℤ pos w) led.is q far
          where
            same : (x y : ℤ) → y ≡ x → a ≤ℤ y → a ≤ℤ x
            same x y p q = omega (arith, ints)

            less : (x y : ℤ) → y ≡ x → (z : ℤ) → y <ℤ z → x ≤ℤ z
            less x y p z q = omega (arith, ints)

            at_end : (x y z : ℤ) → y ≡ x → y <ℤ z → z ≤ℤ x → ⊥
            at_end x y z p q r = omega (arith, ints)

    by : (to ≡ v) ⊎ IsLed others others v to → ⊥
    by (inl same) = further (from to same p) (below to same q)
      where
        from : (x : ℤ) → x ≡ v → a ≤ℤ x → a ≤ℤ v
        from x e r = omega (arith, ints)

        below : (x : ℤ) → x ≡ v → x <ℤ (a +ℤ pos w) → v <ℤ (a +ℤ pos w)
        below x e r = omega (arith, ints)
    by (inr led) = led_on led

-- ---- the last number before them

-- a Hall interval in which the number v lies, and before which the number `to` is the last
record IsLedBack (others starting : List Info) (v to : ℤ) : Type 0 where
  first : ℤ
  begins : Begins starting first
  from : first ≤ℤ v
  over : v <ℤ behind others first
  is : to +ℤ pos 1 ≡ first

before_is : (a b v e : ℤ)
    → (before a b v e ≡ e) ⊎ ((a ≤ℤ v) × (v <ℤ b) × (before a b v e +ℤ pos 1 ≡ a))
before_is a b v e = by (int_le a v && int_lt v b) refl
  where
    by : (t : Bool) → (int_le a v && int_lt v b) ≡ t
        → ((if t then int_min e (a -ℤ pos 1) else e) ≡ e)
        ⊎ ((a ≤ℤ v) × (v <ℤ b) × ((if t then int_min e (a -ℤ pos 1) else e) +ℤ pos 1 ≡ a))
    by false f = inl refl
    by true f = by_lt_z e a
        (λ p. inl (omega (arith, ints, clamps, p)))
        (λ p. let q = in_parts a v v b f in inr (q.0, q.1, omega (arith, ints, clamps, p)))

before_all_is : (others starting : List Info) (v e : ℤ)
    → (before_all others starting v e ≡ e)
    ⊎ IsLedBack others starting v (before_all others starting v e)
before_all_is others [] v e = inl refl
before_all_is others (o ∷ starting) v e =
    by (before_is (low_of o) (behind others (low_of o)) v e)
    (before_all_is others starting v next)
  where
    next : ℤ
    next = before (low_of o) (behind others (low_of o)) v e

    all : ℤ
    all = before_all others starting v next

    by : (next ≡ e) ⊎ ((low_of o ≤ℤ v) × (v <ℤ behind others (low_of o))
        × (next +ℤ pos 1 ≡ low_of o))
        → (all ≡ next) ⊎ IsLedBack others starting v all
        → (all ≡ e) ⊎ IsLedBack others (o ∷ starting) v all
    by s (inr led) = inr (record {
      first = led.first;
      begins = inr led.begins;
      from = led.from;
      over = led.over;
      is = led.is;
    })
    by (inl same) (inl is) = inl (is ∙ same)
    by (inr led) (inl is) = inr (record {
      first = low_of o;
      begins = inl refl;
      from = led.0;
      over = led.1;
      is = ap (λ x. x +ℤ pos 1) is ∙ led.2;
    })

before_is_free : (others : List Info) (v : ℤ) → length others ≤ 64
    → any_crowded others others ≡ false → IsFree others (before_all others others v v)
before_is_free others v few n a w hall p q = by (before_all_is others others v v)
  where
    to : ℤ
    to = before_all others others v v

    fits : w ≤ widest others
    fits = hall_fits others a w few hall.1

    begins : Begins others a
    begins = hall_begins others w a hall.0 fits hall.1 n

    -- a Hall interval that begins with a and has the number itself leads before a
    further : a ≤ℤ v → v <ℤ behind others a → ⊥
    further r s = lt_le_not to a (before_all_first others others a v v begins r s) p

    under : (x y z : ℤ) → x <ℤ y → y ≤ℤ z → x <ℤ z
    under x y z p q = omega (arith, ints)

    led_on : IsLedBack others others v to → ⊥
    led_on led = by_lt_z v (a +ℤ pos w)
        (λ r. further (first_le to led.first led.is led.from p)
        (under v (a +ℤ pos w) (behind others a) r (behind_of others a w fits hall.1)))
        (λ r. further (first_le to led.first led.is led.from p)
        (under v (behind others led.first) (behind others a) led.over (far r)))
      where
        first_le : (x b : ℤ) → x +ℤ pos 1 ≡ b → b ≤ℤ v → a ≤ℤ x → a ≤ℤ v
        first_le x b e s t = omega (arith, ints)

        width : ℕ
        width = width_of others led.first (widest others)

        far : (a +ℤ pos w) ≤ℤ v → behind others led.first ≤ℤ behind others a
        far r = reaches others a w led.first width few n (record {
          from = starts to led.first led.is p;
          meets = meets to led.first led.is q;
          inside = ends (behind others led.first) led.over r;
          first_hall = hall.1;
          second_hall = width_is_hall others led.first (widest others);
        })
          where
            starts : (x b : ℤ) → x +ℤ pos 1 ≡ b → a ≤ℤ x → a ≤ℤ b
            starts x b e r = omega (arith, ints)

            meets : (x b : ℤ) → x +ℤ pos 1 ≡ b → x <ℤ (a +ℤ pos w) → b ≤ℤ (a +ℤ pos w)
            meets x b e r = omega (arith, ints)

            ends : (b : ℤ) → v <ℤ b → (a +ℤ pos w) ≤ℤ v → (a +ℤ pos w) ≤ℤ b
            ends b r s = omega (arith, ints)

    by : (to ≡ v) ⊎ IsLedBack others others v to → ⊥
    by (inl same) = further (from to same p)
        (under v (a +ℤ pos w) (behind others a) (below to same q)
        (behind_of others a w fits hall.1))
      where
        from : (x : ℤ) → x ≡ v → a ≤ℤ x → a ≤ℤ v
        from x e r = omega (arith, ints)

        below : (x : ℤ) → x ≡ v → x <ℤ (a +ℤ pos w) → v <ℤ (a +ℤ pos w)
        below x e r = omega (arith, ints)
    by (inr led) = led_on led

pub ends_are_free : EndsAreFree
ends_are_free number others few n =
    (past_is_free others number few n, before_is_free others number few n)
