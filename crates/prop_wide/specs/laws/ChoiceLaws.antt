-- The laws of choices by a truth.
use Rattle.std.specs.Prelude.{◌≡◌, ◌≢◌, ℕ, suc, zero, ◌<◌, ◌^◌, Bool, true, false, not, ◌&&◌}
use Rattle.std.specs.Prelude.{List, [], ◌∷◌}
use Rattle.std.specs.Int.{bit_at}
use Rattle.std.specs.Prelude.{if◌then◌else◌}
use Rattle.std.proofs.Common.{arith, refl, rules, sym, subst}
use Rattle.prop_arith.specs.Comparing.{is_single}
use Rattle.prop_arith.specs.inner.Compared.{is_just}
use Rattle.prop_arith.specs.inner.Compared.{comparer_of}
use Rattle.prop_arith.specs.laws.Combined.{at_three, told_alike}
use Rattle.prop_arith.specs.laws.ComparingLaws.{comparer_below, comparer_sound}
use Rattle.prop_arith.specs.laws.SingleLaws.{just_stays, no_single, no_element}
use Rattle.prop_intervals.specs.Comparisons.{yes_bits, no_bits}
use Rattle.prop_lattice.specs.Ends.{elements_from}
use Rattle.prop_lattice.specs.Order.{Below, merge_of, is_contradiction}
use Rattle.prop_lattice.specs.laws.OrderLaws.{to_top}
use Rattle.prop_lattice.specs.Points.{Point, Element, Holds, IsPointOf}
use Rattle.prop_lattice.specs.Rank.{IsOf}
use Rattle.prop_lattice.specs.declared.info.Info.{Info}
use Rattle.prop_lattice.specs.declared.info.Info.TheVariants.{Contradiction}
use Rattle.prop_lattice.specs.declared.info.Kind.{Kind}
use Rattle.prop_lattice.specs.declared.info.Kind.TheVariants as kinds
use Rattle.prop_procedures.specs.declared.shape.Kinded.{Kinded}
use Rattle.prop_procedures.specs.declared.shape.Shape.{Shape}
use Rattle.prop_procedures.specs.declared.shape.Shape.TheVariants.{Truth, Any}
use Rattle.prop_procedures.specs.Rules.{EachHolds}
use Rattle.prop_procedures.specs.inner.Places.{AreOf, ArePointsOf}
use Rattle.prop_sets.specs.Truth.{leaves}
use Rattle.prop_sets.specs.laws.NarrowestLaws.{elements_hold}
use Rattle.prop_wide.specs.Choices.{choose_of, decide_of, agree}
use Rattle.prop_wide.specs.Points.{RelatesChoice, RelatesDecision}
use Rattle.prop_wide.specs.laws.HullLaws.{hull_below, hull_kind, hull_holds_first}
use Rattle.prop_wide.specs.laws.HullLaws.{hull_holds_second}
use Rattle.prop_wide.specs.laws.TruthLaws.{leaves_less, held_is_left, told_below, told_kind}
use Rattle.prop_wide.specs.laws.TruthLaws.{told_holds_yes, told_holds_no, never}

-- ---- from the truth

-- a value where it may be chosen
side_below : (s s' : Bool) (a a' : Info) → (s' ≡ true → s ≡ true) → Below a a'
    → Below (if s then a else Contradiction) (if s' then a' else Contradiction)
side_below true true a a' h p = p
side_below s false a a' h p = to_top (if s then a else Contradiction)
side_below false true a a' h p = absurd (never (h refl))

pub choose_below : (t a b t' a' b' : Info) → Below t t' → Below a a' → Below b b'
    → t' ≢ Contradiction → a' ≢ Contradiction → b' ≢ Contradiction
    → Below (choose_of t a b) (choose_of t' a' b')
choose_below t a b t' a' b' p q r l m n =
    hull_below _ _ _ _ (side_below (leaves t 0) (leaves t' 0) a a' (leaves_less t t' 0 p) q)
    (side_below (leaves t 1) (leaves t' 1) b b' (leaves_less t t' 1 p) r)

side_kind : (kind : Kind) (size : ℕ) (s : Bool) (a : Info) → IsOf kind size a
    → IsOf kind size (if s then a else Contradiction)
side_kind kind size true a h = h
side_kind kind size false a h = search rules

pub choose_kind : (any : Shape → Kinded) (args : List Info)
    → AreOf any (Truth ∷ Any 0 ∷ Any 0 ∷ []) args
    → IsOf (any (Any 0)).kind (any (Any 0)).size (at_three choose_of args)
choose_kind any (t ∷ a ∷ b ∷ []) h =
    hull_kind (any (Any 0)).kind (any (Any 0)).size (if leaves t 0 then a else Contradiction)
    (if leaves t 1 then b else Contradiction)
    (side_kind (any (Any 0)).kind (any (Any 0)).size (leaves t 0) a h.1.0)
    (side_kind (any (Any 0)).kind (any (Any 0)).size (leaves t 1) b h.1.1.0)
choose_kind any args h = search rules

side_holds : (s : Bool) (a : Info) (p : Point) → s ≡ true → Holds a p
    → Holds (if s then a else Contradiction) p
side_holds true a p e h = h
side_holds false a p e h = absurd (never e)

pub choose_sound : (any : Shape → Kinded) (args : List Info) (points : List Point) (point : Point)
    → ArePointsOf any (Truth ∷ Any 0 ∷ Any 0 ∷ []) points → EachHolds args points
    → RelatesChoice points point → Holds (at_three choose_of args) point
choose_sound any (t ∷ a ∷ b ∷ []) (Element zero ∷ p ∷ q ∷ []) o ps e r =
    hull_holds_first _ _ o (side_holds (leaves t 0) a o (held_is_left t 0 e.0)
    (subst (Holds a) (sym (r.first refl)) e.1.0))
choose_sound any (t ∷ a ∷ b ∷ []) (Element (suc zero) ∷ p ∷ q ∷ []) o ps e r =
    hull_holds_second (if leaves t 0 then a else Contradiction) _ o
    (side_holds (leaves t 1) b o (held_is_left t 1 e.0)
    (subst (Holds b) (sym (r.second refl)) e.1.1.0))
choose_sound any (t ∷ a ∷ b ∷ []) (Element (suc (suc i)) ∷ p ∷ q ∷ []) o ps e r =
    absurd (omega (arith, ps.0))
choose_sound any args points point ps e r = search rules

-- ---- back to the truth

one_holds : (bits i : ℕ) → bits < 2 ^ 64 → bit_at bits i ≡ 1 → elements_from bits ≢ Contradiction
one_holds bits i l h e = subst (λ a. Holds a (Element i)) e (elements_hold bits l i h)

-- comparing is never a contradiction
comparer_clear : (x y : Info) → comparer_of x y ≢ Contradiction
comparer_clear x y = by (is_contradiction (merge_of x y)) (is_single x && is_single y)
  where
    by : (s t : Bool) → told_alike s t ≢ Contradiction
    by true t e = one_holds no_bits 1 (omega arith) refl e
    by false true e = one_holds yes_bits 0 (omega arith) refl e
    by false false e = cc

agree_less : (x y x' y' : Info) → Below x x' → Below y y' → x' ≢ Contradiction → y' ≢ Contradiction
    → agree x' y' ≡ true → agree x y ≡ true
agree_less x y x' y' p q n m f = by (is_just no_bits (comparer_of x y)) refl
  where
    by : (s : Bool) → is_just no_bits (comparer_of x y) ≡ s → not s ≡ true
    by false e = refl
    by true e = absurd (clash (is_just no_bits (comparer_of x' y')) (just_stays no_bits
        (comparer_of x y) (comparer_of x' y') no_single (comparer_below x y x' y' p q n m)
        (comparer_clear x' y') e) f)
      where
        clash : (s : Bool) → s ≡ true → not s ≡ true → ⊥
        clash true e f = never f
        clash false e f = never e

agree_holds : (x y : Info) (p : Point) → Holds x p → Holds y p → agree x y ≡ true
agree_holds x y p h k = by (is_just no_bits (comparer_of x y)) refl
  where
    held : Holds (comparer_of x y) (Element 0)
    held = comparer_sound (x ∷ y ∷ []) (p ∷ p ∷ []) (Element 0) (omega arith) (h, (k, tt))
        ((λ e. refl), (λ e. refl))

    by : (s : Bool) → is_just no_bits (comparer_of x y) ≡ s → not s ≡ true
    by false e = refl
    by true e = absurd (omega (arith, no_element (comparer_of x y) 0 e held))

pub decide_below : (a b o a' b' o' : Info) → Below a a' → Below b b' → Below o o'
    → a' ≢ Contradiction → b' ≢ Contradiction → o' ≢ Contradiction
    → Below (decide_of a b o) (decide_of a' b' o')
decide_below a b o a' b' o' p q r l m n =
    told_below (agree a o) (agree b o) (agree a' o') (agree b' o') (agree_less a o a' o' p r l n)
    (agree_less b o b' o' q r m n)

pub decide_kind : (args : List Info) → IsOf (kinds.Set 0) 2 (at_three decide_of args)
decide_kind (a ∷ b ∷ o ∷ []) = told_kind (agree a o) (agree b o)
decide_kind args = search rules

pub decide_sound : (args : List Info) (points : List Point) (point : Point)
    → IsPointOf (kinds.Set 0) 2 point → EachHolds args points → RelatesDecision points point
    → Holds (at_three decide_of args) point
decide_sound (a ∷ b ∷ o ∷ []) (p ∷ q ∷ z ∷ []) (Element zero) k e r =
    told_holds_yes (agree a o) (agree b o)
    (agree_holds a o z (subst (Holds a) (sym (r.first refl)) e.0) e.1.1.0)
decide_sound (a ∷ b ∷ o ∷ []) (p ∷ q ∷ z ∷ []) (Element (suc zero)) k e r =
    told_holds_no (agree a o) (agree b o)
    (agree_holds b o z (subst (Holds b) (sym (r.second refl)) e.1.0) e.1.1.0)
decide_sound (a ∷ b ∷ o ∷ []) (p ∷ q ∷ z ∷ []) (Element (suc (suc i))) k e r =
    absurd (omega (arith, k))
decide_sound args points point k e r = search rules
