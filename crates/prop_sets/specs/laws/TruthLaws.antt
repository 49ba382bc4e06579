-- The laws of the functions of truth.
use Rattle.std.specs.Prelude.{◌≡◌, ◌↔◌, ◌⊎◌, ℕ, zero, suc, ◌<◌, ◌^◌, Bool, true, false, not, ◌&&◌}
use Rattle.std.specs.Prelude.{◌||◌, ◌==◌, if◌then◌else◌}
use Rattle.std.specs.Bool.{Decides}
use Rattle.std.specs.Int.{bit_at}
use Rattle.std.proofs.Common.{arith, refl, inl, inr, rules, eqb-true}
use Rattle.std.proofs.lemmas.Bool.{and_parts, or_cases, or_left, or_right}
use Rattle.std.proofs.lemmas.Bool.Decides.{Decides-eqb, Decides-and, Decides-or, Decides-not}
use Rattle.prop_lattice.specs.Ends.{elements_from}
use Rattle.prop_lattice.specs.Order.{Below}
use Rattle.prop_lattice.specs.laws.Parts.{HasBitsOf}
use Rattle.prop_lattice.specs.Parts.{AllBelow}
use Rattle.prop_lattice.specs.Points.{Element, Holds}
use Rattle.prop_lattice.specs.Rank.{IsOf}
use Rattle.prop_lattice.specs.declared.info.Info.{Info}
use Rattle.prop_lattice.specs.declared.info.Info.TheVariants.{Nothing, Span, Set, Sym}
use Rattle.prop_lattice.specs.declared.info.Info.TheVariants.{Contradiction}
use Rattle.prop_lattice.specs.declared.info.Kind.TheVariants as kinds
use Rattle.prop_sets.specs.Chosen.{any_below}
use Rattle.prop_sets.specs.laws.ChosenLaws.{bits_where-lt, bits_where-passes, bits_where-has}
use Rattle.prop_sets.specs.laws.ChosenLaws.{any_below-Decides}
use Rattle.prop_sets.specs.laws.NarrowestLaws.{elements_hold, bit_from_held, elements_below}
use Rattle.prop_sets.specs.laws.NarrowestLaws.{elements_of_kind}
use Rattle.prop_sets.specs.Truth.{IsAnd, IsOr, IsNot, is_and, is_or, is_not, leaves, is_nothing}
use Rattle.prop_sets.specs.Truth.{truth_of, IsLeftByOne, IsLeftByTwo, LeavesJust}
use Rattle.prop_sets.specs.inner.Truths.{told}
use Rattle.prop_sets.specs.Truth.{and_of, and_back_of, or_of, or_back_of, not_of}
use Rattle.prop_sets.specs.inner.Truths.{outputs_of}

-- ---- tests

and-Decides : (x y z : ℕ) → Decides (is_and x y z) (IsAnd x y z)
and-Decides x y z = ((λ e. e), (λ h. h))

or-Decides : (x y z : ℕ) → Decides (is_or x y z) (IsOr x y z)
or-Decides x y z = ((λ e. e), (λ h. h))

not-Decides : (x b y : ℕ) → Decides (is_not x y) (IsNot x y)
not-Decides x b y = ((λ e. e), (λ h. h))

leaves-Decides : (x : Info) (t : ℕ) → Decides (leaves x t) (Holds x (Element t))
leaves-Decides Nothing t = ((λ e. tt), (λ h. refl))
leaves-Decides (Set s) t = Decides-eqb (bit_at s.bits t) 1
leaves-Decides (Span s) t = ((λ e. absurd (cc)), (λ h. absurd h))
leaves-Decides (Sym s) t = ((λ e. absurd (cc)), (λ h. absurd h))
leaves-Decides Contradiction t = ((λ e. absurd (cc)), (λ h. absurd h))

-- what knows more leaves less
pub holds_less : (x x' : Info) (t : ℕ) → Below x x' → Holds x' (Element t) → Holds x (Element t)
holds_less Nothing x' t p h = tt
holds_less (Set a) (Set b) t p h = p t h
holds_less (Span a) (Span b) t p h = absurd h
holds_less (Sym a) (Sym b) t p h = absurd h
holds_less x Contradiction t p h = absurd h
holds_less x x' t p h = search rules

still_nothing : (x x' : Info) → Below x x' → is_nothing x' ≡ true → is_nothing x ≡ true
still_nothing Nothing x' p e = refl
still_nothing (Set a) Nothing p e = absurd p
still_nothing (Span a) Nothing p e = absurd p
still_nothing (Sym a) Nothing p e = absurd p
still_nothing Contradiction Nothing p e = absurd p
still_nothing x x' p e = search rules

-- ---- what is told

few : (bits : ℕ) → bits < 2 ^ 2 → bits < 2 ^ 64
few bits l = omega arith

pub told_holds : (unknown : Bool) (bits t : ℕ) → bits < 2 ^ 2 → bit_at bits t ≡ 1
    → Holds (told unknown bits) (Element t)
told_holds unknown bits t l h = by (unknown && (bits == 3))
  where
    by : (b : Bool) → Holds (if b then Nothing else elements_from bits) (Element t)
    by true = tt
    by false = elements_hold bits (few bits l) t h

bit_of_both : (t : ℕ) → t < 2 → bit_at 3 t ≡ 1
bit_of_both zero l = refl
bit_of_both (suc zero) l = refl
bit_of_both (suc (suc t)) l = absurd (omega arith)

pub bit_from_told : (unknown : Bool) (bits t : ℕ) → t < 2 → Holds (told unknown bits) (Element t)
    → bit_at bits t ≡ 1
bit_from_told unknown bits t l h = by (unknown && (bits == 3)) refl h
  where
    by : (b : Bool) → (unknown && (bits == 3)) ≡ b
        → Holds (if b then Nothing else elements_from bits) (Element t) → bit_at bits t ≡ 1
    by true e h =
        let both : bits ≡ 3 = eqb-true bits 3 (and_parts unknown (bits == 3) e).1 in
        rw both (bit_of_both t l)
    by false e h = bit_from_held bits t h

pub told_kind : (unknown : Bool) (bits : ℕ) → AllBelow 2 bits
    → IsOf (kinds.Set 0) 2 (told unknown bits)
told_kind unknown bits h = by (unknown && (bits == 3))
  where
    by : (b : Bool) → IsOf (kinds.Set 0) 2 (if b then Nothing else elements_from bits)
    by true = tt
    by false = elements_of_kind 0 2 bits h

all_of : (a : ℕ) → a < 2 ^ 2 → HasBitsOf a 3 → a ≡ 3
all_of a l h = omega (arith, h 0 refl, h 1 refl)

told_below : (u v : Bool) (a b : ℕ) → a < 2 ^ 2 → HasBitsOf a b → (v ≡ true → u ≡ true)
    → Below (told u a) (told v b)
told_below u v a b l h k = by (u && (a == 3)) refl (v && (b == 3)) refl
  where
    by : (s : Bool) → (u && (a == 3)) ≡ s → (t : Bool) → (v && (b == 3)) ≡ t
        → Below (if s then Nothing else elements_from a) (if t then Nothing else elements_from b)
    by true e t f = tt
    by false e true f =
        let parts = and_parts v (b == 3) f in
        let both : b ≡ 3 = eqb-true b 3 parts.1 in
        let all : a ≡ 3 = all_of a l (rw both at h) in
        absurd (never u a (k parts.0) all e)
      where
        never : (u : Bool) (a : ℕ) → u ≡ true → a ≡ 3 → (u && (a == 3)) ≡ false → ⊥
        never u a p q e = grind (arith, p, q)
    by false e false f = elements_below a b (few a l) h

-- ---- two inputs

module _ (test : ℕ → ℕ → ℕ → Bool) (related : ℕ → ℕ → ℕ → Type 0)
    (each : (a b z : ℕ) → Decides (test a b z) (related a b z)) where
  two_inputs : (x y : Info) (z : ℕ)
      → Decides (any_below 2 (λ a. any_below 2 (λ b. (leaves x a && leaves y b) && test a b z)))
      ((a : ℕ) × (a < 2) × ((b : ℕ) × (b < 2)
      × ((Holds x (Element a) × Holds y (Element b)) × related a b z)))
  two_inputs x y z =
      any_below-Decides (λ a. any_below 2 (λ b. (leaves x a && leaves y b) && test a b z))
      (λ a. (b : ℕ) × (b < 2) × ((Holds x (Element a) × Holds y (Element b)) × related a b z))
      (λ a.
      any_below-Decides (λ b. (leaves x a && leaves y b) && test a b z)
      (λ b. (Holds x (Element a) × Holds y (Element b)) × related a b z) (λ b.
      Decides-and (leaves x a && leaves y b) (test a b z)
      (Decides-and (leaves x a) (leaves y b) (leaves-Decides x a) (leaves-Decides y b))
      (each a b z)) 2) 2

  two-has : (x y : Info) (z : ℕ) → bit_at (outputs_of test (leaves x) (leaves y)) z ≡ 1
      → (z < 2) × IsLeftByTwo related x y z
  two-has x y z h =
      let passes = bits_where-passes 2
      (λ z. any_below 2 (λ a. any_below 2 (λ b. (leaves x a && leaves y b) && test a b z))) z h
      in
      let found = (two_inputs x y z).0 passes.1 in (
        passes.0,
        record {
          first = found.0;
          second = found.2.0;
          first_is_truth = found.1;
          second_is_truth = found.2.1;
          first_left = found.2.2.0.0;
          second_left =
              found.2.2.0.1;
          belongs = found.2.2.1;
        },
      )

  two-is : (x y : Info) (z : ℕ) → z < 2 → IsLeftByTwo related x y z
      → bit_at (outputs_of test (leaves x) (leaves y)) z ≡ 1
  two-is x y z l p =
      bits_where-has 2 (λ z. any_below 2
      (λ a. any_below 2 (λ b. (leaves x a && leaves y b) && test a b z))) z l
      ((two_inputs x y z).1 (
        p.first,
        p.first_is_truth,
        (p.second, p.second_is_truth, ((p.first_left, p.second_left), p.belongs)),
      ))

  two-lt : (x y : Info) → outputs_of test (leaves x) (leaves y) < 2 ^ 2
  two-lt x y = bits_where-lt 2 (λ z.
      any_below 2 (λ a. any_below 2 (λ b. (leaves x a && leaves y b) && test a b z)))

  two-just : (x y : Info) → LeavesJust (IsLeftByTwo related x y) (truth_of test x y)
  two-just x y t l = (
    (λ h. (two-has x y t (bit_from_told (is_nothing x || is_nothing y) _ t l h)).1),
    (λ p. told_holds (is_nothing x || is_nothing y) _ t (two-lt x y) (two-is x y t l p)),
  )

  two-kind : (x y : Info) → IsOf (kinds.Set 0) 2 (truth_of test x y)
  two-kind x y = told_kind (is_nothing x || is_nothing y) _ (λ t h. (two-has x y t h).0)

  two-monotone : (x y x' y' : Info) → Below x x' → Below y y'
      → Below (truth_of test x y) (truth_of test x' y')
  two-monotone x y x' y' p q = told_below (is_nothing x || is_nothing y)
      (is_nothing x' || is_nothing y') _ _ (two-lt x y) more unknown
    where
      more : HasBitsOf (outputs_of test (leaves x) (leaves y))
          (outputs_of test (leaves x') (leaves y'))
      more t h =
          let found = two-has x' y' t h in
          let o = found.1 in
          two-is x y t found.0 (record {
            first = o.first;
            second = o.second;
            first_is_truth = o.first_is_truth;
            second_is_truth = o.second_is_truth;
            first_left =
                holds_less x x' o.first p o.first_left;
            second_left =
                holds_less y y' o.second q o.second_left;
            belongs = o.belongs;
          })

      unknown : (is_nothing x' || is_nothing y') ≡ true → (is_nothing x || is_nothing y) ≡ true
      unknown e = by (or_cases (is_nothing x') (is_nothing y') e)
        where
          by : (is_nothing x' ≡ true) ⊎ (is_nothing y' ≡ true)
              → (is_nothing x || is_nothing y) ≡ true
          by (inl e) = or_left (is_nothing x) (is_nothing y) (still_nothing x x' p e)
          by (inr e) = or_right (is_nothing x) (is_nothing y) (still_nothing y y' q e)

  two-sound : (x y : Info) (a b z : ℕ) → a < 2 → b < 2 → z < 2 → Holds x (Element a)
      → Holds y (Element b) → related a b z → Holds (truth_of test x y) (Element z)
  two-sound x y a b z k l m h i r =
      (two-just x y z m).1 (record {
        first = a;
        second = b;
        first_is_truth = k;
        second_is_truth = l;
        first_left = h;
        second_left = i;
        belongs = r;
      })

-- ---- and

back_and : (z y x : ℕ) → Decides (is_and x y z) (IsAnd x y z)
back_and z y x = and-Decides x y z

back_or : (z y x : ℕ) → Decides (is_or x y z) (IsOr x y z)
back_or z y x = or-Decides x y z

pub and_monotone : (x y x' y' : Info) → Below x x' → Below y y' → Below (and_of x y) (and_of x' y')
and_monotone = two-monotone is_and IsAnd and-Decides

pub and_kind : (x y : Info) → IsOf (kinds.Set 0) 2 (and_of x y)
and_kind = two-kind is_and IsAnd and-Decides

pub and_just : (x y : Info) → LeavesJust (IsLeftByTwo IsAnd x y) (and_of x y)
and_just = two-just is_and IsAnd and-Decides

pub and_sound : (x y : Info) (a b z : ℕ) → a < 2 → b < 2 → z < 2 → Holds x (Element a)
    → Holds y (Element b) → IsAnd a b z → Holds (and_of x y) (Element z)
and_sound = two-sound is_and IsAnd and-Decides

pub and_back_monotone : (z y z' y' : Info) → Below z z' → Below y y'
    → Below (and_back_of z y) (and_back_of z' y')
and_back_monotone = two-monotone (λ z y x. is_and x y z) (λ z y x. IsAnd x y z) back_and

pub and_back_kind : (z y : Info) → IsOf (kinds.Set 0) 2 (and_back_of z y)
and_back_kind = two-kind (λ z y x. is_and x y z) (λ z y x. IsAnd x y z) back_and

pub and_back_just : (z y : Info)
    → LeavesJust (IsLeftByTwo (λ z y x. IsAnd x y z) z y) (and_back_of z y)
and_back_just = two-just (λ z y x. is_and x y z) (λ z y x. IsAnd x y z) back_and

pub and_back_sound : (z y : Info) (c b a : ℕ) → c < 2 → b < 2 → a < 2 → Holds z (Element c)
    → Holds y (Element b) → IsAnd a b c → Holds (and_back_of z y) (Element a)
and_back_sound = two-sound (λ z y x. is_and x y z) (λ z y x. IsAnd x y z) back_and

-- ---- or

pub or_monotone : (x y x' y' : Info) → Below x x' → Below y y' → Below (or_of x y) (or_of x' y')
or_monotone = two-monotone is_or IsOr or-Decides

pub or_kind : (x y : Info) → IsOf (kinds.Set 0) 2 (or_of x y)
or_kind = two-kind is_or IsOr or-Decides

pub or_just : (x y : Info) → LeavesJust (IsLeftByTwo IsOr x y) (or_of x y)
or_just = two-just is_or IsOr or-Decides

pub or_sound : (x y : Info) (a b z : ℕ) → a < 2 → b < 2 → z < 2 → Holds x (Element a)
    → Holds y (Element b) → IsOr a b z → Holds (or_of x y) (Element z)
or_sound = two-sound is_or IsOr or-Decides

pub or_back_monotone : (z y z' y' : Info) → Below z z' → Below y y'
    → Below (or_back_of z y) (or_back_of z' y')
or_back_monotone = two-monotone (λ z y x. is_or x y z) (λ z y x. IsOr x y z) back_or

pub or_back_kind : (z y : Info) → IsOf (kinds.Set 0) 2 (or_back_of z y)
or_back_kind = two-kind (λ z y x. is_or x y z) (λ z y x. IsOr x y z) back_or

pub or_back_just : (z y : Info)
    → LeavesJust (IsLeftByTwo (λ z y x. IsOr x y z) z y) (or_back_of z y)
or_back_just = two-just (λ z y x. is_or x y z) (λ z y x. IsOr x y z) back_or

pub or_back_sound : (z y : Info) (c b a : ℕ) → c < 2 → b < 2 → a < 2 → Holds z (Element c)
    → Holds y (Element b) → IsOr a b c → Holds (or_back_of z y) (Element a)
or_back_sound = two-sound (λ z y x. is_or x y z) (λ z y x. IsOr x y z) back_or

-- ---- not

pub not_monotone : (x x' : Info) → Below x x' → Below (not_of x) (not_of x')
not_monotone x x' p = two-monotone (λ a b y. is_not a y) (λ a b y. IsNot a y) not-Decides x x x' x'
    p p

pub not_kind : (x : Info) → IsOf (kinds.Set 0) 2 (not_of x)
not_kind x = two-kind (λ a b y. is_not a y) (λ a b y. IsNot a y) not-Decides x x

pub not_just : (x : Info) → LeavesJust (IsLeftByOne IsNot x) (not_of x)
not_just x t l = (
  (λ h.
      let p = (just t l).0 h in
      record {
        input = p.first;
        is_truth = p.first_is_truth;
        left = p.first_left;
        belongs = p.belongs;
      }),
  (λ p. (just t l).1 (record {
    first = p.input;
    second = p.input;
    first_is_truth = p.is_truth;
    second_is_truth = p.is_truth;
    first_left = p.left;
    second_left = p.left;
    belongs = p.belongs;
  })),
)
  where
    just : LeavesJust (IsLeftByTwo (λ a b y. IsNot a y) x x) (not_of x)
    just = two-just (λ a b y. is_not a y) (λ a b y. IsNot a y) not-Decides x x

pub not_sound : (x : Info) (a y : ℕ) → a < 2 → y < 2 → Holds x (Element a) → IsNot a y
    → Holds (not_of x) (Element y)
not_sound x a y k l h r = (not_just x y l).1
    (record { input = a; is_truth = k; left = h; belongs = r })
