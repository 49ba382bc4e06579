-- The laws of what is known of the rules beside the kit's without a call.
use Rattle.std.specs.Prelude.{◌≡◌, ◌≢◌, ℤ, neg_ℤ, ◌≤ℤ◌, int_lt, Bool, true, false, ◌&&◌, ◌||◌}
use Rattle.std.specs.Prelude.{[], ◌∷◌, if◌then◌else◌, Some, None}
use Rattle.std.proofs.Common.{arith, refl, rules, ap, sym}
use Rattle.std.proofs.lemmas.Bool.{and_parts}
use Rattle.std.proofs.lemmas.Int.{ints}
use Rattle.prop_lattice.specs.Points.{Number}
use Rattle.prop_lattice.specs.declared.info.Info.{Info}
use Rattle.prop_lattice.specs.declared.info.Info.TheVariants.{Nothing, Span, Set, Sym}
use Rattle.prop_lattice.specs.declared.info.Info.TheVariants.{Contradiction}
use Rattle.prop_lattice.specs.declared.span.TheConstants.{B}
use Rattle.prop_procedures.specs.Rules.{AreClear}
use Rattle.prop_procedures.specs.declared.shape.Param.TheVariants.{Scale}
use Rattle.prop_sets.specs.Truth.{leaves, is_nothing}
use Rattle.prop_arith.specs.inner.Compared.{comparer_of}
use Rattle.prop_arith.specs.laws.SingleLaws.{never}
use Rattle.prop_wide.specs.Choices.{choose_of, decide_of, agree}
use Rattle.prop_wide.specs.Ends.{low_of, high_of, known}
use Rattle.prop_wide.specs.Extremes.{max_of, max_back_of, min_of, min_back_of}
use Rattle.prop_wide.specs.Hulls.{hull_of}
use Rattle.prop_wide.specs.Points.{Related}
use Rattle.prop_wide.specs.Values.{value_of}
use Rattle.prop_wide.specs.declared.wide.Wide.{Wide}
use Rattle.prop_wide.specs.declared.wide.Wide.TheVariants.{Max, MaxBack, Min, MinBack}
use Rattle.prop_wide.specs.declared.wide.Wide.TheVariants.{AbsBack, Choose, Decide}
use Rattle.prop_wide.specs.declared.wide.Wide.TheVariants.{Root}
use Rattle.prop_wide.specs.declared.wide.Wide.TheVariants.{Divisor}
use Rattle.prop_wide.specs.laws.EndLaws.{ends_ordered}
use Rattle.prop_guards.specs.Guards.{AreSilent, AreRepeated, AreRuledOut, IsOwn}
use Rattle.prop_guards.specs.Wide.{is_silent, is_silent_of_two, is_silent_of_three, own_of}
use Rattle.prop_guards.specs.laws.KitLaws.{comparer_silent, two_silent, three_silent}
use Rattle.prop_guards.specs.laws.KnownLaws.{nothing_is}

-- ---- the larger and the smaller

all_known : known (neg_ℤ B) B ≡ Nothing
unfolding known
all_known = refl

max_silent : (x y : Info) → is_silent_of_two Max x y ≡ true → max_of x y ≡ Nothing
max_silent x y e =
    let parts = and_parts (is_nothing x) (is_nothing y) e in
    rw (nothing_is x parts.0, nothing_is y parts.1) all_known

min_silent : (x y : Info) → is_silent_of_two Min x y ≡ true → min_of x y ≡ Nothing
min_silent x y e =
    let parts = and_parts (is_nothing x) (is_nothing y) e in
    rw (nothing_is x parts.0, nothing_is y parts.1) all_known

not_less : (a b : ℤ) → b ≤ℤ a → int_lt a b ≡ false
not_less a b l = grind (arith, ints)

not_past : (y : Info) → int_lt B (low_of y) ≡ false
not_past y = let e = ends_ordered y in
    not_less B (low_of y) (omega (arith, ints, e.ordered, e.below))

not_before : (y : Info) → int_lt (high_of y) (neg_ℤ B) ≡ false
not_before y = let e = ends_ordered y in
    not_less (high_of y) (neg_ℤ B) (omega (arith, ints, e.above, e.ordered))

max_back_silent : (z y : Info) → is_nothing z ≡ true → max_back_of z y ≡ Nothing
max_back_silent z y e = rw (nothing_is z e, not_past y) (by (int_lt (high_of y) (neg_ℤ B)))
  where
    by : (s : Bool) → known (if s then neg_ℤ B else neg_ℤ B) B ≡ Nothing
    by true = all_known
    by false = all_known

min_back_silent : (z y : Info) → is_nothing z ≡ true → min_back_of z y ≡ Nothing
min_back_silent z y e = rw (nothing_is z e, not_before y) (by (int_lt B (low_of y)))
  where
    by : (s : Bool) → known (neg_ℤ B) (if s then B else B) ≡ Nothing
    by true = all_known
    by false = all_known

-- ---- choices

hull_first : (b : Info) → hull_of Nothing b ≡ Nothing
hull_first Nothing = refl
hull_first (Span b) = refl
hull_first (Set b) = refl
hull_first (Sym b) = refl
hull_first Contradiction = refl

hull_second : (a : Info) → hull_of a Nothing ≡ Nothing
hull_second Nothing = refl
hull_second (Span a) = refl
hull_second (Set a) = refl
hull_second (Sym a) = refl
hull_second Contradiction = refl

choose_silent : (t a b : Info) → is_silent_of_three Choose t a b ≡ true → choose_of t a b ≡ Nothing
choose_silent t a b e = by (leaves t 0 && is_nothing a) refl e
  where
    by : (s : Bool) → (leaves t 0 && is_nothing a) ≡ s → (s || (leaves t 1 && is_nothing b)) ≡ true
        → choose_of t a b ≡ Nothing
    by true f g =
        let parts = and_parts (leaves t 0) (is_nothing a) f in
        rw (parts.0, nothing_is a parts.1) (hull_first (if leaves t 1 then b else Contradiction))
    by false f g =
        let parts = and_parts (leaves t 1) (is_nothing b) g in
        rw (parts.0, nothing_is b parts.1) (hull_second (if leaves t 0 then a else Contradiction))

agrees : (x y : Info) → comparer_of x y ≡ Nothing → agree x y ≡ true
agrees x y e = rw e refl

decide_silent : (a b o : Info) → a ≢ Contradiction → b ≢ Contradiction → o ≢ Contradiction
    → is_silent_of_three Decide a b o ≡ true → decide_of a b o ≡ Nothing
decide_silent a b o n m k e =
    let first = agrees a o
    (comparer_silent a o n k (one (is_nothing a) (is_nothing b) (is_nothing o) e)) in
    let second = agrees b o
    (comparer_silent b o m k (other (is_nothing a) (is_nothing b) (is_nothing o) e)) in
    rw (first, second) refl
  where
    -- o is unknown, or both others are
    one : (p q r : Bool) → (r || (p && q)) ≡ true → (p || r) ≡ true
    one true q r f = refl
    one false q true f = refl
    one false q false f = f

    other : (p q r : Bool) → (r || (p && q)) ≡ true → (q || r) ≡ true
    other p true r f = refl
    other p false true f = refl
    other true false false f = f
    other false false false f = f

pub wide_silent : (rule : Wide) → AreSilent (value_of rule) (λ param args. is_silent rule args)
wide_silent Max param args c e =
    two_silent max_of (λ a. is_silent Max a ≡ true) max_silent args e
wide_silent MaxBack param args c e =
    two_silent max_back_of (λ a. is_silent MaxBack a ≡ true) max_back_silent args e
wide_silent Min param args c e =
    two_silent min_of (λ a. is_silent Min a ≡ true) min_silent args e
wide_silent MinBack param args c e =
    two_silent min_back_of (λ a. is_silent MinBack a ≡ true) min_back_silent args e
wide_silent Choose param args c e =
    three_silent choose_of (λ a. is_silent Choose a ≡ true) choose_silent args e
wide_silent Decide param args c e =
    three_silent decide_of (λ a. AreClear a × (is_silent Decide a ≡ true))
    (λ a b o p. decide_silent a b o p.0.0 p.0.1.0 p.0.1.1.0 p.1) args (c, e)
wide_silent rule param (x ∷ y ∷ []) c e = absurd (never e)
wide_silent rule param (x ∷ y ∷ z ∷ []) c e = absurd (never e)
wide_silent rule param args c e = absurd (never e)

pub wide_own : (rule : Wide) → IsOwn (Related rule) (own_of rule)
wide_own AbsBack param (Number y ∷ Number x ∷ []) (Number v) r = ap Some (ap Number (sym r.0))
wide_own Root (Scale k) (Number y ∷ Number x ∷ []) (Number v) r = ap Some (ap Number (sym r.0))
wide_own Divisor param (Number r ∷ Number y ∷ []) (Number v) h = ap Some (ap Number (sym h.0))
wide_own rule param points point r = search rules

-- no rule repeats an argument at a glance, or rules out a number

pub wide_repeated : (rule : Wide)
    → AreRepeated (value_of rule) (own_of rule) (λ param args. false)
wide_repeated rule param args e = absurd (never e)

pub wide_barred : (rule : Wide)
    → AreRuledOut (value_of rule) (Related rule) (own_of rule) (λ param args place. None)
wide_barred rule param args place = tt
