-- Hall's theorem: where each selection of some words has no fewer bits than members, there are different bits, one of
-- each word.
use Rattle.std.proofs.Common.{◌≡◌, ◌⊎◌, ℕ, zero, suc, ◌+◌, ◌^◌, ◌<◌, ◌≤◌, Bool, true, false, ◌&&◌, ◌||◌, cond, List, []}
use Rattle.std.proofs.Common.{◌∷◌}
use Rattle.std.proofs.Common.{bit_and, bit_or, arith, ap, sym, subst, refl, ◌∙◌, inl, inr}
use Rattle.std.specs.Prelude.{count_ones}
use Rattle.std.specs.Int.{bit_at}
use Rattle.std.specs.List.{AllByRecursion as Each, AllZip}
use Rattle.std.proofs.Math.Pow.{pow-lt}
use Rattle.std.proofs.lemmas.Bool.{cases_eq, cases_lt}
use Rattle.std.proofs.lemmas.Nat.{or_lt, and_le_l, pow_pos}
use Rattle.std.proofs.lemmas.Nat.Bits.{bit_at-zero, bit_at_above, bit_at-pow_same}
use Rattle.prop_lattice.specs.laws.Parts.{HasBitsOf}
use Rattle.prop_lattice.specs.laws.PartLaws.{same_parts}
use Rattle.prop_lattice.proofs.PartLemmas.{ones_part}
use Rattle.prop_hall.specs.Points.{AreDifferent, IsNoneOf}
use Rattle.prop_hall.specs.laws.SelectionLaws.{each_weaker}
use Rattle.prop_hall.proofs.CountLemmas.{in_left, in_right, in_one, in_both, ones_shared, ones_more}

-- ---- selections by a test of places

abbrev pub members_of : List ℕ → (ℕ → Bool) → ℕ
members_of [] test = 0
members_of (w ∷ ws) test = cond (test 0) 1 0 + members_of ws (λ i. test (suc i))

abbrev pub union_of : List ℕ → (ℕ → Bool) → ℕ
union_of [] test = 0
union_of (w ∷ ws) test = cond (test 0) (bit_or w (union_of ws (λ i. test (suc i)))) (union_of ws (λ i. test (suc i)))

-- the test with another first answer
abbrev put : Bool → (ℕ → Bool) → ℕ → Bool
put b test zero = b
put b test (suc i) = test i

abbrev either : (ℕ → Bool) → (ℕ → Bool) → ℕ → Bool
either f g i = f i || g i

abbrev both : (ℕ → Bool) → (ℕ → Bool) → ℕ → Bool
both f g i = f i && g i

members_shared : (ws : List ℕ) (f g : ℕ → Bool)
    → members_of ws (either f g) + members_of ws (both f g) ≡ members_of ws f + members_of ws g
members_shared [] f g = refl
members_shared (w ∷ ws) f g = by (f 0) (g 0) (members_shared ws (λ i. f (suc i)) (λ i. g (suc i)))
  where
    by : (s t : Bool) → members_of ws (either (λ i. f (suc i)) (λ i. g (suc i)))
        + members_of ws (both (λ i. f (suc i)) (λ i. g (suc i)))
        ≡ members_of ws (λ i. f (suc i)) + members_of ws (λ i. g (suc i))
        → (cond (s || t) 1 0 + members_of ws (either (λ i. f (suc i)) (λ i. g (suc i))))
        + (cond (s && t) 1 0 + members_of ws (both (λ i. f (suc i)) (λ i. g (suc i))))
        ≡ (cond s 1 0 + members_of ws (λ i. f (suc i))) + (cond t 1 0 + members_of ws (λ i. g (suc i)))
    by true true ih = omega (arith, ih)
    by true false ih = omega (arith, ih)
    by false true ih = omega (arith, ih)
    by false false ih = omega (arith, ih)

-- what a wider selection has of the bits
abbrev Implies : (ℕ → Bool) → (ℕ → Bool) → Type 0
Implies f g = (i : ℕ) → f i ≡ true → g i ≡ true

union_part : (ws : List ℕ) (f g : ℕ → Bool) → Implies f g → HasBitsOf (union_of ws g) (union_of ws f)
union_part [] f g p = λ i h. h
union_part (w ∷ ws) f g p =
    by (f 0) refl (g 0) refl (union_part ws (λ i. f (suc i)) (λ i. g (suc i)) (λ i. p (suc i)))
  where
    by : (s : Bool) → f 0 ≡ s → (t : Bool) → g 0 ≡ t
        → HasBitsOf (union_of ws (λ i. g (suc i))) (union_of ws (λ i. f (suc i)))
        → HasBitsOf (cond t (bit_or w (union_of ws (λ i. g (suc i)))) (union_of ws (λ i. g (suc i))))
        (cond s (bit_or w (union_of ws (λ i. f (suc i)))) (union_of ws (λ i. f (suc i))))
    by true e true k ih i h = elim (in_one w (union_of ws (λ i. f (suc i))) i h) [
      | inl first ↦ in_left w (union_of ws (λ i. g (suc i))) i first
      | inr rest ↦ in_right w (union_of ws (λ i. g (suc i))) i (ih i rest)
    ]
    by true e false k ih i h = let no : false ≡ true = sym k ∙ p 0 e in absurd (cc)
    by false e true k ih i h = in_right w (union_of ws (λ i. g (suc i))) i (ih i h)
    by false e false k ih i h = ih i h

union_either : (ws : List ℕ) (f g : ℕ → Bool)
    → HasBitsOf (bit_or (union_of ws f) (union_of ws g)) (union_of ws (either f g))
union_either [] f g = λ i h. absurd (omega (arith, h, bit_at-zero i))
union_either (w ∷ ws) f g = by (f 0) (g 0) (union_either ws (λ i. f (suc i)) (λ i. g (suc i)))
  where
    u : ℕ
    u = union_of ws (λ i. f (suc i))

    v : ℕ
    v = union_of ws (λ i. g (suc i))

    by : (s t : Bool) → HasBitsOf (bit_or u v) (union_of ws (either (λ i. f (suc i)) (λ i. g (suc i))))
        → HasBitsOf (bit_or (cond s (bit_or w u) u) (cond t (bit_or w v) v))
        (cond (s || t) (bit_or w (union_of ws (either (λ i. f (suc i)) (λ i. g (suc i)))))
        (union_of ws (either (λ i. f (suc i)) (λ i. g (suc i)))))
    by true t ih i h = elim (in_one w (union_of ws (either (λ i. f (suc i)) (λ i. g (suc i)))) i h) [
      | inl first ↦ in_left (bit_or w u) (cond t (bit_or w v) v) i (in_left w u i first)
      | inr rest ↦ elim (in_one u v i (ih i rest)) [
        | inl l ↦ in_left (bit_or w u) (cond t (bit_or w v) v) i (in_right w u i l)
        | inr r ↦ in_right (bit_or w u) (cond t (bit_or w v) v) i (more t i r)
      ]
    ]
      where
        more : (t : Bool) (i : ℕ) → bit_at v i ≡ 1 → bit_at (cond t (bit_or w v) v) i ≡ 1
        more true i r = in_right w v i r
        more false i r = r
    by false true ih i h = elim (in_one w (union_of ws (either (λ i. f (suc i)) (λ i. g (suc i)))) i h) [
      | inl first ↦ in_right u (bit_or w v) i (in_left w v i first)
      | inr rest ↦ elim (in_one u v i (ih i rest)) [
        | inl l ↦ in_left u (bit_or w v) i l
        | inr r ↦ in_right u (bit_or w v) i (in_right w v i r)
      ]
    ]
    by false false ih i h = ih i h

pub union_fits : (k : ℕ) (ws : List ℕ) (f : ℕ → Bool) → Each (λ w. w < 2 ^ k) ws → union_of ws f < 2 ^ k
union_fits k [] f fit = pow_pos k
union_fits k (w ∷ ws) f fit = by (f 0) (union_fits k ws (λ i. f (suc i)) fit.1)
  where
    by : (s : Bool) → union_of ws (λ i. f (suc i)) < 2 ^ k
        → cond s (bit_or w (union_of ws (λ i. f (suc i)))) (union_of ws (λ i. f (suc i))) < 2 ^ k
    by true rest = or_lt k w (union_of ws (λ i. f (suc i))) fit.0 rest
    by false rest = rest

none_chosen : (ws : List ℕ) → (members_of ws (λ i. false) ≡ 0) × (union_of ws (λ i. false) ≡ 0)
none_chosen [] = (refl, refl)
none_chosen (w ∷ ws) = let rest = none_chosen ws in (omega (arith, rest.0), rest.1)

-- ---- Hall's condition beside a word that is taken

abbrev points : ℕ → List ℕ → (ℕ → Bool) → ℕ
points taken ws f = count_ones (bit_or taken (union_of ws f))

-- each selection has with what is taken no fewer bits than members and bits that are taken
abbrev pub IsRoomy : ℕ → List ℕ → Type 0
IsRoomy taken ws = (f : ℕ → Bool) → count_ones taken + members_of ws f ≤ points taken ws f

-- whether it has, for a word and a number of bits that are taken
abbrev Fails : ℕ → ℕ → List ℕ → Type 0
Fails n taken ws = (f : ℕ → Bool) × (points taken ws f < n + members_of ws f)

abbrev Holds : ℕ → ℕ → List ℕ → Type 0
Holds n taken ws = (f : ℕ → Bool) → n + members_of ws f ≤ points taken ws f

or_more : (a b c : ℕ) → bit_or a (bit_or b c) ≡ bit_or (bit_or a b) c
or_more a b c = same_parts (bit_or a (bit_or b c)) (bit_or (bit_or a b) c) there back
  where
    there : HasBitsOf (bit_or a (bit_or b c)) (bit_or (bit_or a b) c)
    there i h = elim (in_one (bit_or a b) c i h) [
      | inl l ↦ elim (in_one a b i l) [
        | inl x ↦ in_left a (bit_or b c) i x
        | inr y ↦ in_right a (bit_or b c) i (in_left b c i y)
      ]
      | inr z ↦ in_right a (bit_or b c) i (in_right b c i z)
    ]

    back : HasBitsOf (bit_or (bit_or a b) c) (bit_or a (bit_or b c))
    back i h = elim (in_one a (bit_or b c) i h) [
      | inl x ↦ in_left (bit_or a b) c i (in_left a b i x)
      | inr r ↦ elim (in_one b c i r) [
        | inl y ↦ in_left (bit_or a b) c i (in_right a b i y)
        | inr z ↦ in_right (bit_or a b) c i z
      ]
    ]

try : (ws : List ℕ) (n taken : ℕ) → Holds n taken ws ⊎ Fails n taken ws
try [] n taken = elim (cases_lt (count_ones (bit_or taken 0)) n) [
  | inl l ↦ inr ((λ i. false), omega (arith, l))
  | inr le ↦ inl (λ f. omega (arith, le))
]
try (w ∷ ws) n taken = by (try ws n taken) (try ws (n + 1) (bit_or taken w))
  where
    by : Holds n taken ws ⊎ Fails n taken ws → Holds (n + 1) (bit_or taken w) ws ⊎ Fails (n + 1) (bit_or taken w) ws
        → Holds n taken (w ∷ ws) ⊎ Fails n taken (w ∷ ws)
    by (inr without) r = inr (put false without.0, omega (arith, without.1))
    by (inl without) (inr with_it) = inr (
      put true with_it.0,
      omega (arith, with_it.1, ap count_ones (or_more taken w (union_of ws with_it.0))),
    )
    by (inl without) (inl with_it) = inl each
      where
        each : (f : ℕ → Bool) → n + members_of (w ∷ ws) f ≤ points taken (w ∷ ws) f
        each f = this (f 0)
          where
            this : (s : Bool) → n + (cond s 1 0 + members_of ws (λ i. f (suc i)))
                ≤ count_ones (bit_or taken (cond s (bit_or w (union_of ws (λ i. f (suc i))))
                (union_of ws (λ i. f (suc i)))))
            this true =
                omega (arith, with_it (λ i. f (suc i)), ap count_ones (or_more taken w (union_of ws (λ i. f (suc i)))))
            this false = omega (arith, without (λ i. f (suc i)))

-- ---- tight selections

-- a selection that has just as many bits
abbrev IsTight : ℕ → List ℕ → (ℕ → Bool) → Type 0
IsTight taken ws f = points taken ws f ≡ count_ones taken + members_of ws f

or_true : (a b : Bool) → a ≡ true → (a || b) ≡ true
or_true true b e = refl
or_true false b e = let f : false ≡ true = e in absurd (cc)

true_or : (a b : Bool) → b ≡ true → (a || b) ≡ true
true_or true b e = refl
true_or false b e = e

first_of_both : (a b : Bool) → (a && b) ≡ true → a ≡ true
first_of_both true b e = refl
first_of_both false b e = e

second_of_both : (a b : Bool) → (a && b) ≡ true → b ≡ true
second_of_both true b e = e
second_of_both false b e = let f : false ≡ true = e in absurd (cc)

-- two of them together are one
tight_either : (size taken : ℕ) (ws : List ℕ) → taken < 2 ^ size → Each (λ w. w < 2 ^ size) ws → IsRoomy taken ws
    → (f g : ℕ → Bool) → IsTight taken ws f → IsTight taken ws g → IsTight taken ws (either f g)
tight_either size taken ws fits fit roomy f g tf tg =
    let a = bit_or taken (union_of ws f) in
    let b = bit_or taken (union_of ws g) in
    let a_fits : a < 2 ^ size = or_lt size taken (union_of ws f) fits (union_fits size ws f fit) in
    let b_fits : b < 2 ^ size = or_lt size taken (union_of ws g) fits (union_fits size ws g fit) in
    let more = (ones_part size (bit_or a b) (bit_or taken (union_of ws (either f g)))
    (or_lt size a b a_fits b_fits) in_either).0 in
    let fewer = (ones_part size (bit_and a b) (bit_or taken (union_of ws (both f g)))
    (omega (arith, a_fits, and_le_l a b)) in_shared).0 in
    omega (
      arith,
      tf,
      tg,
      more,
      fewer,
      ones_shared size a b a_fits b_fits,
      members_shared ws f g,
      roomy (either f g),
      roomy (both f g),
    )
  where
    in_either : HasBitsOf (bit_or (bit_or taken (union_of ws f)) (bit_or taken (union_of ws g)))
        (bit_or taken (union_of ws (either f g)))
    in_either i h = elim (in_one taken (union_of ws (either f g)) i h) [
      | inl l ↦ in_left (bit_or taken (union_of ws f)) (bit_or taken (union_of ws g)) i
          (in_left taken (union_of ws f) i l)
      | inr r ↦ elim (in_one (union_of ws f) (union_of ws g) i (union_either ws f g i r)) [
        | inl x ↦ in_left (bit_or taken (union_of ws f)) (bit_or taken (union_of ws g)) i
            (in_right taken (union_of ws f) i x)
        | inr y ↦ in_right (bit_or taken (union_of ws f)) (bit_or taken (union_of ws g)) i
            (in_right taken (union_of ws g) i y)
      ]
    ]

    in_shared : HasBitsOf (bit_and (bit_or taken (union_of ws f)) (bit_or taken (union_of ws g)))
        (bit_or taken (union_of ws (both f g)))
    in_shared i h = elim (in_one taken (union_of ws (both f g)) i h) [
      | inl l ↦ in_both (bit_or taken (union_of ws f)) (bit_or taken (union_of ws g)) i
          (in_left taken (union_of ws f) i l) (in_left taken (union_of ws g) i l)
      | inr r ↦ in_both (bit_or taken (union_of ws f)) (bit_or taken (union_of ws g)) i
          (in_right taken (union_of ws f) i
          (union_part ws (both f g) f (λ k e. first_of_both (f k) (g k) e) i r))
          (in_right taken (union_of ws g) i
          (union_part ws (both f g) g (λ k e. second_of_both (f k) (g k) e) i r))
    ]

-- ---- a bit for the first word

-- a bit of the word that is not taken, beside which the other words are roomy
abbrev IsFree : ℕ → ℕ → List ℕ → ℕ → Type 0
IsFree taken w ws x = (bit_at w x ≡ 1) × (¬ (bit_at taken x ≡ 1)) × IsRoomy (bit_or taken (2 ^ x)) ws

abbrev Free : ℕ → ℕ → List ℕ → Type 0
Free taken w ws = (x : ℕ) × IsFree taken w ws x

-- a tight selection has the bits of the word below a bound, or they are taken
abbrev Covers : ℕ → ℕ → List ℕ → ℕ → (ℕ → Bool) → Type 0
Covers taken w ws bound f = (x : ℕ) → x < bound → bit_at w x ≡ 1 → bit_at (bit_or taken (union_of ws f)) x ≡ 1

abbrev Covered : ℕ → ℕ → List ℕ → ℕ → Type 0
Covered taken w ws bound = (f : ℕ → Bool) × IsTight taken ws f × Covers taken w ws bound f

pub or_zero : (a : ℕ) → bit_or a 0 ≡ a
or_zero a = same_parts (bit_or a 0) a (λ i h. in_left a 0 i h) (λ i h. elim (in_one a 0 i h) [
  | inl l ↦ l
  | inr r ↦ absurd (omega (arith, r, bit_at-zero i))
])

none_tight : (taken : ℕ) (ws : List ℕ) → IsTight taken ws (λ i. false)
none_tight taken ws =
    let none = none_chosen ws in
    omega (arith, none.0, ap (λ u. count_ones (bit_or taken u)) none.1, ap count_ones (or_zero taken))

-- a selection that has no room beside one bit more is tight, and has the bit
tight_from : (size taken k : ℕ) (ws : List ℕ) → taken < 2 ^ size → 2 ^ k < 2 ^ size → Each (λ w. w < 2 ^ size) ws
    → ¬ (bit_at taken k ≡ 1) → IsRoomy taken ws → (g : ℕ → Bool)
    → points (bit_or taken (2 ^ k)) ws g < count_ones (bit_or taken (2 ^ k)) + members_of ws g
    → IsTight taken ws g × (bit_at (bit_or taken (union_of ws g)) k ≡ 1)
tight_from size taken k ws fits low fit free roomy g l =
    let small = bit_or taken (union_of ws g) in
    let big = bit_or (bit_or taken (2 ^ k)) (union_of ws g) in
    let big_fits : big < 2 ^ size = or_lt size (bit_or taken (2 ^ k)) (union_of ws g)
    (or_lt size taken (2 ^ k) fits low) (union_fits size ws g fit) in
    let part = ones_part size big small big_fits within in
    let tight : count_ones small ≡ count_ones taken + members_of ws g =
    omega (arith, l, part.0, roomy g, ones_more size taken k fits low free) in
    let same : big ≡ small =
    part.1 (omega (arith, l, part.0, roomy g, ones_more size taken k fits low free)) in (
      tight,
      subst (λ n. bit_at n k ≡ 1) same
          (in_left (bit_or taken (2 ^ k)) (union_of ws g) k (in_right taken (2 ^ k) k (bit_at-pow_same k))),
    )
  where
    within : HasBitsOf (bit_or (bit_or taken (2 ^ k)) (union_of ws g)) (bit_or taken (union_of ws g))
    within i h = elim (in_one taken (union_of ws g) i h) [
      | inl x ↦ in_left (bit_or taken (2 ^ k)) (union_of ws g) i (in_left taken (2 ^ k) i x)
      | inr y ↦ in_right (bit_or taken (2 ^ k)) (union_of ws g) i y
    ]

-- a bit is free, or there is a tight selection that covers the word
cover : (size taken w : ℕ) (ws : List ℕ) → taken < 2 ^ size → Each (λ v. v < 2 ^ size) ws → IsRoomy taken ws
    → (bound : ℕ) → bound ≤ size → Free taken w ws ⊎ Covered taken w ws bound
cover size taken w ws fits fit roomy zero le =
    inr ((λ i. false), none_tight taken ws, λ x l h. absurd (omega (arith, l)))
cover size taken w ws fits fit roomy (suc k) le = by (cover size taken w ws fits fit roomy k (omega (arith, le)))
  where
    low : 2 ^ k < 2 ^ size
    low = let below : k < size = omega (arith, le) in pow-lt below

    more : (f g : ℕ → Bool) → Covers taken w ws k f → bit_at (bit_or taken (union_of ws g)) k ≡ 1
        → Covers taken w ws (suc k) (either f g)
    more f g covers here x l h = elim (cases_eq x k) [
      | inl same ↦ elim (in_one taken (union_of ws g) k here) [
        | inl a ↦ in_left taken (union_of ws (either f g)) x (ap (bit_at taken) same ∙ a)
        | inr b ↦ in_right taken (union_of ws (either f g)) x (union_part ws g (either f g)
            (λ i e. true_or (f i) (g i) e) x (ap (bit_at (union_of ws g)) same ∙ b))
      ]
      | inr other ↦ elim (in_one taken (union_of ws f) x (covers x (omega (arith, l, other)) h)) [
        | inl a ↦ in_left taken (union_of ws (either f g)) x a
        | inr b ↦ in_right taken (union_of ws (either f g)) x
            (union_part ws f (either f g) (λ i e. or_true (f i) (g i) e) x b)
      ]
    ]

    by_bit : Covered taken w ws k → (bit_at w k ≡ 1) ⊎ (¬ (bit_at w k ≡ 1))
        → (bit_at taken k ≡ 1) ⊎ (¬ (bit_at taken k ≡ 1))
        → Holds (count_ones (bit_or taken (2 ^ k))) (bit_or taken (2 ^ k)) ws
        ⊎ Fails (count_ones (bit_or taken (2 ^ k))) (bit_or taken (2 ^ k)) ws
        → Free taken w ws ⊎ Covered taken w ws (suc k)
    by_bit c (inr lacks) t r = inr (
      c.0,
      c.1,
      λ x l h. elim (cases_eq x k) [
        | inl same ↦ absurd (lacks (sym (ap (bit_at w) same) ∙ h))
        | inr other ↦ c.2 x (omega (arith, l, other)) h
      ],
    )
    by_bit c (inl has) (inl used) r = inr (
      c.0,
      c.1,
      λ x l h. elim (cases_eq x k) [
        | inl same ↦ in_left taken (union_of ws c.0) x (ap (bit_at taken) same ∙ used)
        | inr other ↦ c.2 x (omega (arith, l, other)) h
      ],
    )
    by_bit c (inl has) (inr free) (inl room) = inl (k, (has, free, room))
    by_bit c (inl has) (inr free) (inr fails) =
        let tight = tight_from size taken k ws fits low fit free roomy fails.0 fails.1 in
        inr (
          either c.0 fails.0,
          tight_either size taken ws fits fit roomy c.0 fails.0 c.1 tight.0,
          more c.0 fails.0 c.2 tight.1,
        )

    by : Free taken w ws ⊎ Covered taken w ws k → Free taken w ws ⊎ Covered taken w ws (suc k)
    by (inl free) = inl free
    by (inr covered) = by_bit covered (cases_eq (bit_at w k) 1) (cases_eq (bit_at taken k) 1)
        (try ws (count_ones (bit_or taken (2 ^ k))) (bit_or taken (2 ^ k)))

free_bit : (size taken w : ℕ) (ws : List ℕ) → taken < 2 ^ size → w < 2 ^ size → Each (λ v. v < 2 ^ size) ws
    → IsRoomy taken (w ∷ ws) → Free taken w ws
free_bit size taken w ws fits wide fit roomy = by (cover size taken w ws fits fit others size (omega arith))
  where
    others : IsRoomy taken ws
    others f = omega (arith, roomy (put false f))

    by : Free taken w ws ⊎ Covered taken w ws size → Free taken w ws
    by (inl free) = free
    by (inr c) =
        let few = (ones_part size (bit_or taken (union_of ws c.0)) (bit_or taken (bit_or w (union_of ws c.0)))
        (or_lt size taken (union_of ws c.0) fits (union_fits size ws c.0 fit)) within).0 in
        absurd (omega (arith, few, c.1, roomy (put true c.0)))
      where
        bit_low : (i : ℕ) → bit_at w i ≡ 1 → i < size
        bit_low i h = elim (cases_lt i size) [
          | inl l ↦ l
          | inr high ↦ absurd (omega (arith, h, bit_at_above w size i wide high))
        ]

        within : HasBitsOf (bit_or taken (union_of ws c.0)) (bit_or taken (bit_or w (union_of ws c.0)))
        within i h = elim (in_one taken (bit_or w (union_of ws c.0)) i h) [
          | inl a ↦ in_left taken (union_of ws c.0) i a
          | inr r ↦ elim (in_one w (union_of ws c.0) i r) [
            | inl x ↦ c.2 i (bit_low i x) x
            | inr y ↦ in_right taken (union_of ws c.0) i y
          ]
        ]

-- ---- different bits

-- one bit of each word, none of them taken, all different
pub record IsChoice (taken : ℕ) (ws : List ℕ) (bits : List ℕ) : Type 0 where
  pub each : AllZip (λ w i. bit_at w i ≡ 1) ws bits
  pub free : Each (λ i. ¬ (bit_at taken i ≡ 1)) bits
  pub different : AreDifferent bits

chosen_none : (taken x : ℕ) (bits : List ℕ) → Each (λ i. ¬ (bit_at (bit_or taken (2 ^ x)) i ≡ 1)) bits → IsNoneOf x bits
chosen_none taken x [] h = tt
chosen_none taken x (i ∷ bits) h = (
  λ same. h.0 (in_right taken (2 ^ x) i (ap (bit_at (2 ^ x)) (sym same) ∙ bit_at-pow_same x)),
  chosen_none taken x bits h.1,
)

pub hall : (size : ℕ) (ws : List ℕ) (taken : ℕ) → taken < 2 ^ size → Each (λ w. w < 2 ^ size) ws → IsRoomy taken ws
    → (bits : List ℕ) × IsChoice taken ws bits
hall size [] taken fits fit roomy = ([], record { each = tt; free = tt; different = tt })
hall size (w ∷ ws) taken fits fit roomy =
    let free = free_bit size taken w ws fits fit.0 fit.1 roomy in
    let x = free.0 in
    let low : x < size = bit_low x free.1.0 in
    let rest = hall size ws (bit_or taken (2 ^ x)) (or_lt size taken (2 ^ x) fits (pow-lt low)) fit.1 free.1.2 in (
      x ∷ rest.0,
      record {
        each = (free.1.0, rest.1.each);
        free = (
          free.1.1,
          each_weaker (λ i. ¬ (bit_at (bit_or taken (2 ^ x)) i ≡ 1)) (λ i. ¬ (bit_at taken i ≡ 1))
              (λ i h k. h (in_left taken (2 ^ x) i k)) rest.0 rest.1.free,
        );
        different = (chosen_none taken x rest.0 rest.1.free, rest.1.different);
      },
    )
  where
    bit_low : (i : ℕ) → bit_at w i ≡ 1 → i < size
    bit_low i h = elim (cases_lt i size) [
      | inl l ↦ l
      | inr high ↦ absurd (omega (arith, h, bit_at_above w size i fit.0 high))
    ]
