-- What is known of truths that may be `yes` or `no`.
use Rattle.std.specs.Prelude.{◌≡◌, ℕ, Bool, true, false}
use Rattle.std.specs.Int.{bit_at}
use Rattle.std.proofs.Common.{arith, refl, rules, eqb-true, eq-eqb}
use Rattle.prop_intervals.specs.Comparisons.{yes_bits, no_bits}
use Rattle.prop_lattice.proofs.PartLemmas.{below_from_shr}
use Rattle.prop_lattice.specs.Ends.{elements_from}
use Rattle.prop_lattice.specs.Order.{Below}
use Rattle.prop_lattice.specs.laws.OrderLaws.{info_laws, to_top}
use Rattle.prop_lattice.specs.Points.{Element, Holds}
use Rattle.prop_lattice.specs.Rank.{IsOf}
use Rattle.prop_lattice.specs.declared.info.Info.{Info}
use Rattle.prop_lattice.specs.declared.info.Info.TheVariants.{Nothing, Span, Set, Sym}
use Rattle.prop_lattice.specs.declared.info.Info.TheVariants.{Contradiction}
use Rattle.prop_lattice.specs.declared.info.Kind.TheVariants as kinds
use Rattle.prop_sets.specs.Truth.{leaves}
use Rattle.prop_sets.specs.laws.NarrowestLaws.{elements_hold, elements_of_kind}
use Rattle.prop_wide.specs.Truths.{told_of}

pub never : false ≡ true → ⊥
never e = cc

-- ---- what is left

-- what knows more leaves less
pub leaves_less : (t t' : Info) (i : ℕ) → Below t t' → leaves t' i ≡ true → leaves t i ≡ true
leaves_less Nothing t' i p e = refl
leaves_less (Set a) (Set b) i p e = eq-eqb (bit_at a.bits i) 1 (p i (eqb-true
    (bit_at b.bits i) 1 e))
leaves_less (Set a) Contradiction i p e = absurd (never e)
leaves_less (Span a) (Span b) i p e = absurd (never e)
leaves_less (Span a) Contradiction i p e = absurd (never e)
leaves_less (Sym a) (Sym b) i p e = absurd (never e)
leaves_less (Sym a) Contradiction i p e = absurd (never e)
leaves_less Contradiction Contradiction i p e = absurd (never e)
leaves_less t t' i p e = search rules

pub held_is_left : (t : Info) (i : ℕ) → Holds t (Element i) → leaves t i ≡ true
held_is_left Nothing i h = refl
held_is_left (Set a) i h = eq-eqb (bit_at a.bits i) 1 h
held_is_left t i h = search rules

pub left_is_held : (t : Info) (i : ℕ) → leaves t i ≡ true → Holds t (Element i)
left_is_held Nothing i e = tt
left_is_held (Set a) i e = eqb-true (bit_at a.bits i) 1 e
left_is_held (Span a) i e = absurd (never e)
left_is_held (Sym a) i e = absurd (never e)
left_is_held Contradiction i e = absurd (never e)

-- ---- what is told

pub told_below : (y n y' n' : Bool) → (y' ≡ true → y ≡ true) → (n' ≡ true → n ≡ true)
    → Below (told_of y n) (told_of y' n')
told_below true true y' n' p q = tt
told_below y n false false p q = to_top (told_of y n)
told_below true false true false p q = info_laws.reflexive (elements_from yes_bits)
told_below false true false true p q = info_laws.reflexive (elements_from no_bits)
told_below y false y' true p q = absurd (never (q refl))
told_below false n true n' p q = absurd (never (p refl))

pub told_kind : (y n : Bool) → IsOf (kinds.Set 0) 2 (told_of y n)
told_kind true true = tt
told_kind true false = elements_of_kind 0 2 yes_bits (below_from_shr yes_bits 2 refl)
told_kind false true = elements_of_kind 0 2 no_bits (below_from_shr no_bits 2 refl)
told_kind false false = tt

pub told_holds_yes : (y n : Bool) → y ≡ true → Holds (told_of y n) (Element 0)
told_holds_yes true true e = tt
told_holds_yes true false e = elements_hold yes_bits (omega arith) 0 refl
told_holds_yes false n e = absurd (never e)

pub told_holds_no : (y n : Bool) → n ≡ true → Holds (told_of y n) (Element 1)
told_holds_no true true e = tt
told_holds_no false true e = elements_hold no_bits (omega arith) 1 refl
told_holds_no y false e = absurd (never e)
