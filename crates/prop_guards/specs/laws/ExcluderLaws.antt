-- The laws of what is known of the rules of excluding without a call.
use Rattle.std.specs.Prelude.{◌≡◌, ◌⊎◌, ℕ, zero, suc, ◌<◌, ◌≤◌, ◌^◌, nat_lt, ℤ, pos}
use Rattle.std.specs.Prelude.{◌+ℤ◌, ◌≤ℤ◌, Bool, true, false, ◌&&◌, ◌==◌, List, [], ◌∷◌, map}
use Rattle.std.specs.Prelude.{length, Option, Some, None, IfSome, if◌then◌else◌, slice_get}
use Rattle.std.specs.List.{AllByRecursion as Each, list_all}
use Rattle.std.specs.Option.{option_and_then}
use Rattle.std.proofs.Common.{arith, refl, ap, sym, subst, ◌∙◌, inl, inr, eqb-true, eq-eqb}
use Rattle.std.proofs.lemmas.Bool.{and_parts}
use Rattle.std.proofs.lemmas.Bool.Decides.{nat_tests}
use Rattle.std.proofs.lemmas.Int.{ints}
use Rattle.std.proofs.lemmas.Option.{same_Some, none-some}
use Rattle.std.proofs.Math.Nat.{pow-le-pow_right}
use Rattle.prop_lattice.proofs.EndLemmas.{elements_from-bits, span_from-none}
use Rattle.prop_lattice.specs.Order.{Below}
use Rattle.prop_lattice.specs.Points.{Point, Number, Holds}
use Rattle.prop_lattice.specs.declared.info.Info.{Info}
use Rattle.prop_lattice.specs.declared.info.Info.TheVariants.{Nothing, Span, Set, Sym}
use Rattle.prop_lattice.specs.declared.info.Info.TheVariants.{Contradiction}
use Rattle.prop_lattice.specs.declared.span.Span as spans
use Rattle.prop_lattice.specs.laws.OrderLaws.{info_laws}
use Rattle.prop_procedures.specs.Rules.{EachHolds}
use Rattle.prop_procedures.specs.declared.shape.Param.{Param}
use Rattle.prop_procedures.specs.declared.shape.Param.TheVariants.{Plain, Scale, Rows}
use Rattle.prop_sets.specs.Relation.{Relation}
use Rattle.prop_arith.specs.laws.SingleLaws.{never}
use Rattle.prop_hall.specs.Excluder.{IsAnother, Related, beside, value_of}
use Rattle.prop_hall.specs.Excluding.{excluded_of, told_by}
use Rattle.prop_hall.specs.Hulls.{all_bits, all_of, first_without, hull_of, last_without, narrowed}
use Rattle.prop_hall.specs.Hulls.{points_in, without_of}
use Rattle.prop_hall.specs.Points.{IsNoneOf}
use Rattle.prop_hall.specs.Selections.{selections}
use Rattle.prop_hall.specs.declared.excluder.Excluder.{Excluder}
use Rattle.prop_hall.specs.declared.excluder.Excluder.TheVariants.{One, Two, Three, Four, Five, Six}
use Rattle.prop_hall.specs.declared.excluder.Excluder.TheVariants.{Seven, Eight}
use Rattle.prop_hall.specs.laws.ExcludingLaws.{few_selected, first_is, last_earlier, told_loose}
use Rattle.prop_hall.specs.laws.ExcludingLaws.{told_tight}
use Rattle.prop_hall.specs.laws.HullLaws.{fewer_points, hull_first}
use Rattle.prop_hall.specs.laws.MergeLaws.{all_above_each, all_above_first, all_least}
use Rattle.prop_hall.specs.laws.SelectionLaws.{each_append, each_both, each_map, each_split}
use Rattle.prop_hall.specs.laws.SelectionLaws.{each_unmap, each_weaker}
use Rattle.prop_guards.specs.Guards.{AreSilent, AreRepeated, AreRuledOut, IsOwn}
use Rattle.prop_guards.specs.Guards.{IsRuledOut}
use Rattle.prop_guards.specs.Excluder.{are_roomy, is_silent, is_repeated, own_of, ruled_out}
use Rattle.prop_guards.specs.Excluder.{ruled_out_beside}
use Rattle.prop_guards.specs.Known.{number_of, just}
use Rattle.prop_guards.specs.laws.KnownLaws.{IsJust, just_holds, just_is, number_is}

-- ---- others that leave more points than they are

-- the selection is empty, or leaves more than n points
abbrev IsRoomy : ℕ → List Info → Type 0
IsRoomy n s = (s ≡ []) ⊎ (n < points_in (hull_of s))

more_with : (n : ℕ) (x : Info) (s : List Info) → n < points_in x → n < points_in (hull_of (x ∷ s))
more_with n x s l =
    omega (arith, l, (fewer_points (hull_of (x ∷ s)) x (hull_first x (hull_of s))).0)

less_from : (n m : ℕ) → nat_lt n m ≡ true → n < m
less_from n m e = grind (arith, nat_tests)

all_roomy : (n : ℕ) (others : List Info) → list_all (λ a. nat_lt n (points_in a)) others ≡ true
    → Each (IsRoomy n) (selections others)
all_roomy n [] e = (inl refl, tt)
all_roomy n (x ∷ others) e =
    let parts = and_parts (nat_lt n (points_in x)) (list_all (λ a. nat_lt n (points_in a)) others)
    e in
    let rest = all_roomy n others parts.1 in
    each_append (IsRoomy n) (selections others) (map (λ s. x ∷ s) (selections others)) rest
    (each_map (IsRoomy n) (λ s. x ∷ s) (selections others)
    (each_weaker (IsRoomy n) (λ s. IsRoomy n (x ∷ s))
    (λ s h. inr (more_with n x s (less_from n (points_in x) parts.0))) (selections others) rest))

without_none : (y : Info) → without_of y Contradiction ≡ y
without_none Nothing = refl
without_none (Span y) = refl
without_none (Set y) = refl
without_none (Sym y) = refl
without_none Contradiction = refl

-- a roomy selection says no more than y
says_y : (n : ℕ) (y : Info) (s : List Info) → length s ≤ n → IsRoomy n s → told_by y s ≡ y
says_y n y s l (inl none) =
    subst (λ t. told_by y t ≡ y) (sym none) (told_tight 0 Contradiction y refl ∙ without_none y)
says_y n y s l (inr more) = told_loose (length s) (hull_of s) y (omega (arith, l, more))

roomy_says_y : (y : Info) (others : List Info)
    → list_all (λ a. nat_lt (length others) (points_in a)) others ≡ true → excluded_of y others ≡ y
roomy_says_y y others e =
    let told_all = map (told_by y) (selections others) in
    sym (info_laws.antisymmetric y (excluded_of y others) (all_above_first y told_all)
    (all_least y told_all y (info_laws.reflexive y)
    (each_map (λ a. Below a y) (told_by y) (selections others)
    (each_weaker (λ s. (length s ≤ length others) × IsRoomy (length others) s)
    (λ s. Below (told_by y s) y)
    (λ s p. subst (λ a. Below a y) (sym (says_y (length others) y s p.0 p.1))
    (info_laws.reflexive y))
    (selections others)
    (each_both (λ s. length s ≤ length others) (IsRoomy (length others)) (selections others)
    (few_selected others) (all_roomy (length others) others e))))))

-- there are so many others, and all that they leave of any y is y
record Says (many : ℕ) (others : List Info) : Type 0 where
  count : (length others == many) ≡ true
  same : (y : Info) → excluded_of y others ≡ y

roomy_says : (many : ℕ) (others : List Info) → are_roomy many others ≡ true → Says many others
roomy_says many others e =
    let parts = and_parts (length others == many)
    (list_all (λ a. nat_lt many (points_in a)) others) e in
    let same : length others ≡ many = eqb-true (length others) many parts.0 in
    record {
      count = parts.0;
      same = λ y. roomy_says_y y others
          (subst (λ n. list_all (λ a. nat_lt n (points_in a)) others ≡ true)
          (sym same) parts.1);
    }

beside_repeats : (many : ℕ) (y : Info) (others : List Info) → are_roomy many others ≡ true
    → Some y ≡ Some (beside many (y ∷ others))
beside_repeats many y others e =
    let s = roomy_says many others e in ap Some (sym (rw s.count (s.same y)))

pub excluder_repeated : (rule : Excluder)
    → AreRepeated (value_of rule) (own_of rule) (λ param args. is_repeated rule args)
excluder_repeated Eight param args e = absurd (never e)
excluder_repeated One param (y ∷ others) e = beside_repeats 1 y others e
excluder_repeated Two param (y ∷ others) e = beside_repeats 2 y others e
excluder_repeated Three param (y ∷ others) e = beside_repeats 3 y others e
excluder_repeated Four param (y ∷ others) e = beside_repeats 4 y others e
excluder_repeated Five param (y ∷ others) e = beside_repeats 5 y others e
excluder_repeated Six param (y ∷ others) e = beside_repeats 6 y others e
excluder_repeated Seven param (y ∷ others) e = beside_repeats 7 y others e
excluder_repeated rule param [] e = absurd (never e)

all_is_nothing : (size : ℕ) → 0 < size → size ≤ 64 → narrowed size (all_of size) ≡ Nothing
all_is_nothing size some fits =
    let least : 2 ^ 1 ≤ 2 ^ size = pow-le-pow_right (omega arith) some in
    let most : 2 ^ size ≤ 2 ^ 64 = pow-le-pow_right (omega arith) fits in
    rw (elements_from-bits (all_bits size)
    (record {
      bits = all_bits size;
      some = omega (arith, least);
      fits = omega (arith, least, most);
    })
    refl) (rw (eq-eqb (all_bits size) (all_bits size) refl) refl)

eight_silent : (m : Relation) (args : List Info) → (nat_lt 0 m.from.size && are_roomy 8 args) ≡ true
    → value_of Eight (Rows m) args ≡ Nothing
eight_silent m args e =
    let parts = and_parts (nat_lt 0 m.from.size) (are_roomy 8 args) e in
    let s = roomy_says 8 args parts.1 in
    rw (s.count, s.same (all_of m.from.size))
    (all_is_nothing m.from.size (less_from 0 m.from.size parts.0) m.from.fits)

pub excluder_silent : (rule : Excluder) → AreSilent (value_of rule) (is_silent rule)
excluder_silent Eight (Rows m) args c e = eight_silent m args e
excluder_silent Eight Plain args c e = absurd (never e)
excluder_silent Eight (Scale k) args c e = absurd (never e)
excluder_silent One param args c e = absurd (never e)
excluder_silent Two param args c e = absurd (never e)
excluder_silent Three param args c e = absurd (never e)
excluder_silent Four param args c e = absurd (never e)
excluder_silent Five param args c e = absurd (never e)
excluder_silent Six param args c e = absurd (never e)
excluder_silent Seven param args c e = absurd (never e)

-- ---- y is the output

another_own : (points : List Point) (point : Point) → IsAnother points point
    → slice_get points 0 ≡ Some point
another_own (y ∷ others) point r = ap Some (sym r.0)
another_own [] point r = absurd r

pub excluder_own : (rule : Excluder) → IsOwn (Related rule) (own_of rule)
excluder_own Eight param points point r = tt
excluder_own One param points point r = another_own points point r
excluder_own Two param points point r = another_own points point r
excluder_own Three param points point r = another_own points point r
excluder_own Four param points point r = another_own points point r
excluder_own Five param points point r = another_own points point r
excluder_own Six param points point r = another_own points point r
excluder_own Seven param points point r = another_own points point r

-- ---- numbers that are ruled out

-- what holds of each selection holds of that of one alone
single_selected : (P : List Info → Type 0) (others : List Info) (k : ℕ) (x : Info)
    → slice_get others k ≡ Some x → Each P (selections others) → P (x ∷ [])
single_selected P [] k x e h = absurd (none-some x e)
single_selected P (a ∷ others) zero x e h =
    subst (λ b. P (b ∷ [])) (same_Some a x e) (empty_selected (λ s. P (a ∷ s)) others
    (each_unmap P (λ s. a ∷ s) (selections others)
    (each_split P (selections others) (map (λ s. a ∷ s) (selections others)) h).1))
  where
    empty_selected : (Q : List Info → Type 0) (xs : List Info) → Each Q (selections xs) → Q []
    empty_selected Q [] q = q.0
    empty_selected Q (b ∷ xs) q =
        empty_selected Q xs (each_split Q (selections xs) (map (λ s. b ∷ s) (selections xs)) q).0
single_selected P (a ∷ others) (suc k) x e h =
    single_selected P others k x e
    (each_split P (selections others) (map (λ s. a ∷ s) (selections others)) h).0

-- a single number without itself leaves nothing
none_left : (a : spans.Span) → a.lo ≡ a.hi → without_of (Span a) (Span a) ≡ Contradiction
none_left a e = by (first_is a a)
  where
    by : ((a.lo ≤ℤ a.lo) × (a.lo ≤ℤ a.hi) × (first_without a a ≡ a.hi +ℤ pos 1))
        ⊎ (((a.lo ≤ℤ a.lo) × (a.lo ≤ℤ a.hi) → ⊥) × (first_without a a ≡ a.lo))
        → without_of (Span a) (Span a) ≡ Contradiction
    by (inl i) = span_from-none (first_without a a) (last_without a a)
        (λ ends. absurd (omega (arith, ints, i.2, e, ends.1, last_earlier a a)))
    by (inr o) = absurd (o.0 (omega (arith, ints), omega (arith, ints, e)))

one_point : (a : spans.Span) → a.lo ≡ a.hi → points_in (Span a) ≡ 1
one_point a e = omega (arith, ints, e)

excluded_is : (a : spans.Span) (others : List Info) (k : ℕ) → a.lo ≡ a.hi
    → slice_get others k ≡ Some (Span a) → excluded_of (Span a) others ≡ Contradiction
excluded_is a others k e at =
    let told_all = map (told_by (Span a)) (selections others) in
    let above = single_selected (λ s. Below (told_by (Span a) s) (excluded_of (Span a) others))
    others
    k (Span a) at
    (each_unmap (λ b. Below b (excluded_of (Span a) others)) (told_by (Span a)) (selections others)
    (all_above_each (Span a) told_all)) in
    let told_one : told_by (Span a) (Span a ∷ []) ≡ Contradiction =
    told_tight 1 (Span a) (Span a) (one_point a e) ∙ none_left a e in
    info_laws.antisymmetric (excluded_of (Span a) others) Contradiction
    (info_laws.to_top (excluded_of (Span a) others))
    (subst (λ b. Below b (excluded_of (Span a) others)) told_one above)

-- the only number that another leaves is the point of that other
none_at : (others : List Info) (points : List Point) (k : ℕ) (x : Info) (v : ℤ) → IsJust x v
    → slice_get others k ≡ Some x → EachHolds others points → ¬ (IsNoneOf (Number v) points)
none_at [] points k x v j e h n = none-some x e
none_at (a ∷ others) [] k x v j e h n = h
none_at (a ∷ others) (p ∷ points) zero x v j e h n =
    n.0 (sym (just_holds x v j p (subst (λ b. Holds b p) (same_Some a x e) h.0)))
none_at (a ∷ others) (p ∷ points) (suc k) x v j e h n = none_at others points k x v j e h.1 n.1

another_none : (y : Info) (others : List Info) (k : ℕ) (x : Info) (v : ℤ) → IsJust x v
    → slice_get others k ≡ Some x → (points : List Point) → EachHolds (y ∷ others) points
    → ¬ (IsAnother points (Number v))
another_none y others k x v j e [] h r = r
another_none y others k x v j e (p ∷ points) h r =
    none_at others points k x v j e h.1 (subst (λ q. IsNoneOf q points) (sym r.0) r.1.0)

beside_left_out : (many : ℕ) (others : List Info) (k : ℕ) (x : Info) (v : ℤ)
    → (length others == many) ≡ true → IsJust x v → slice_get others k ≡ Some x
    → ¬ (Holds (beside many (just v ∷ others)) (Number v))
beside_left_out many others k x v c j e =
    let same : beside many (just v ∷ others) ≡ Contradiction =
    rw (c, just_is x v j, j.is)
    (excluded_is j.span others k (j.lo ∙ sym j.hi) (e ∙ ap Some j.is)) in
    subst (λ a. ¬ (Holds a (Number v))) (sym same) (λ h. h)

-- what a rule of so many others has to mean
module _ (value : Param → List Info → Info) (related : Param → List Point → Point → Type 0)
    (many : ℕ) (is_value : (param : Param) (args : List Info) → value param args ≡ beside many args)
    (is_related : (param : Param) (points : List Point) (point : Point) → related param points point
    → IsAnother points point) where
  one_barred : (param : Param) (y : Info) (others : List Info) (k : ℕ) (x : Info) (v : ℤ)
      → (length others == many) ≡ true → slice_get others k ≡ Some x → IsJust x v
      → IsRuledOut value related (Some 0) param (y ∷ others) v
  one_barred param y others k x v c e j = record {
    belongs_to_none = λ points h r. another_none y others k x v j e points h
        (is_related param points (Number v) r);
    left_out = subst (λ a. ¬ (Holds a (Number v))) (sym (is_value param (just v ∷ others)))
        (beside_left_out many others k x v c j e);
  }

  beside_barred : AreRuledOut value related (Some 0) (λ param args place.
      ruled_out_beside many args place)
  beside_barred param (y ∷ others) (suc k) =
      by (length others == many) refl (slice_get others k) refl
    where
      told_at : (x : Info) (o : Option ℤ) → number_of x ≡ o → (length others == many) ≡ true
          → slice_get others k ≡ Some x
          → IfSome o (IsRuledOut value related (Some 0) param (y ∷ others))
      told_at x None f c e = tt
      told_at x (Some v) f c e = one_barred param y others k x v c e (number_is x v f)

      by : (s : Bool) → (length others == many) ≡ s → (o : Option Info) → slice_get others k ≡ o
          → IfSome (if s then option_and_then number_of o else None)
          (IsRuledOut value related (Some 0) param (y ∷ others))
      by false c o e = tt
      by true c None e = tt
      by true c (Some x) e = told_at x (number_of x) refl c e
  beside_barred param [] place = tt
  beside_barred param (y ∷ others) zero = tt

pub excluder_barred : (rule : Excluder) → AreRuledOut (value_of rule) (Related rule) (own_of rule)
    (λ param args place. ruled_out rule args place)
excluder_barred Eight = λ param args place. tt
excluder_barred One = beside_barred (value_of One) (Related One) 1 (λ p a. refl) (λ p a b r. r)
excluder_barred Two = beside_barred (value_of Two) (Related Two) 2 (λ p a. refl) (λ p a b r. r)
excluder_barred Three =
    beside_barred (value_of Three) (Related Three) 3 (λ p a. refl) (λ p a b r. r)
excluder_barred Four = beside_barred (value_of Four) (Related Four) 4 (λ p a. refl) (λ p a b r. r)
excluder_barred Five = beside_barred (value_of Five) (Related Five) 5 (λ p a. refl) (λ p a b r. r)
excluder_barred Six = beside_barred (value_of Six) (Related Six) 6 (λ p a. refl) (λ p a b r. r)
excluder_barred Seven =
    beside_barred (value_of Seven) (Related Seven) 7 (λ p a. refl) (λ p a b r. r)
