-- Words of consecutive bits: where no run of bits holds too many of them, no selection has too few bits.
use Rattle.std.proofs.Common.{◌≡◌, ◌⊎◌, ℕ, zero, suc, ◌+◌, ◌-◌, ◌/◌, ◌%◌, ◌^◌, ◌<◌, ◌≤◌, Bool, true, false, ◌&&◌, cond}
use Rattle.std.proofs.Common.{List, [], ◌∷◌, map}
use Rattle.std.proofs.Common.{bit_or, arith, ap, sym, subst, refl, ◌∙◌, inl, inr, pow-suc}
use Rattle.std.specs.Prelude.{count_ones, nat_lt, nat_le}
use Rattle.std.specs.Int.{bit_at}
use Rattle.std.specs.Int.Count.{ones_step}
use Rattle.std.specs.List.{AllByRecursion as Each}
use Rattle.std.proofs.Math.Pow.{pow-lt}
use Rattle.std.proofs.lemmas.Bool.{cases_eq, cases_lt}
use Rattle.std.proofs.lemmas.Bool.Decides.{nat_tests}
use Rattle.std.proofs.lemmas.Nat.{or_lt, ones_le_self, pow_pos}
use Rattle.std.proofs.lemmas.Nat.Bits.{bit_at-suc, bit_at_lowest, bit_at-pow_same, bit_at_mask_inside}
use Rattle.prop_lattice.specs.laws.Parts.{HasBitsOf}
use Rattle.prop_hall.proofs.CountLemmas.{in_left, in_right}
use Rattle.prop_hall.proofs.HallLemmas.{members_of, union_of, union_fits}

-- ---- words of the bits from one end to another

abbrev pub Ends : Type 0
Ends = ℕ × ℕ

abbrev pub word_of : Ends → ℕ
word_of e = 2 ^ (e.1 + 1) - 2 ^ e.0

abbrev pub counted : ℕ → ℕ → Ends → ℕ
counted g k e = cond (nat_le g e.0 && nat_le e.1 k) 1 0

-- how many lie from g to k
abbrev pub inside : ℕ → ℕ → List Ends → ℕ
inside g k [] = 0
inside g k (e ∷ es) = counted g k e + inside g k es

pub counted_in : (g k : ℕ) (e : Ends) → g ≤ e.0 → e.1 ≤ k → counted g k e ≡ 1
counted_in g k e l h =
    let first : nat_le g e.0 ≡ true = grind (arith, nat_tests) in
    let second : nat_le e.1 k ≡ true = grind (arith, nat_tests) in rw (first, second) refl

pub counted_out : (g k : ℕ) (e : Ends) → ¬ ((g ≤ e.0) × (e.1 ≤ k)) → counted g k e ≡ 0
counted_out g k e no_more = by (cases_lt e.0 g) (cases_lt k e.1)
  where
    by : (e.0 < g) ⊎ (g ≤ e.0) → (k < e.1) ⊎ (e.1 ≤ k) → counted g k e ≡ 0
    by (inl l) r = let first : nat_le g e.0 ≡ false = grind (arith, nat_tests) in rw first refl
    by (inr l) (inl h) =
        let first : nat_le g e.0 ≡ true = grind (arith, nat_tests) in
        let second : nat_le e.1 k ≡ false = grind (arith, nat_tests) in rw (first, second) refl
    by (inr l) (inr h) = absurd (no_more (l, h))

-- ---- members that end before a place

abbrev ends_before : Bool → ℕ → ℕ → ℕ
ends_before b k hi = cond (b && nat_lt hi k) 1 0

abbrev ending : List Ends → (ℕ → Bool) → ℕ → ℕ
ending [] f k = 0
ending (e ∷ es) f k = ends_before (f 0) k e.1 + ending es (λ i. f (suc i)) k

before_yes : (hi k : ℕ) → hi < k → ends_before true k hi ≡ 1
before_yes hi k l = let is : nat_lt hi k ≡ true = grind (arith, nat_tests) in rw is refl

before_no : (hi k : ℕ) → k ≤ hi → ends_before true k hi ≡ 0
before_no hi k l = let is : nat_lt hi k ≡ false = grind (arith, nat_tests) in rw is refl

in_word : (e : Ends) (x : ℕ) → e.0 ≤ x → x ≤ e.1 → bit_at (word_of e) x ≡ 1
in_word e x l h = bit_at_mask_inside e.0 (e.1 + 1) x l (omega (arith, h))

-- the bits of the selected words are among those of u
abbrev AreIn : ℕ → List Ends → (ℕ → Bool) → Type 0
AreIn u es f = HasBitsOf u (union_of (map word_of es) f)

first_in : (u : ℕ) (e : Ends) (es : List Ends) (f : ℕ → Bool) → f 0 ≡ true → AreIn u (e ∷ es) f
    → HasBitsOf u (word_of e)
first_in u e es f yes_first p i h = p i (by (f 0) yes_first)
  where
    by : (s : Bool) → s ≡ true → bit_at (cond s (bit_or (word_of e) (union_of (map word_of es) (λ i. f (suc i))))
        (union_of (map word_of es) (λ i. f (suc i)))) i ≡ 1
    by true q = in_left (word_of e) (union_of (map word_of es) (λ i. f (suc i))) i h
    by false q = absurd (cc)

rest_in : (u : ℕ) (e : Ends) (es : List Ends) (f : ℕ → Bool) → AreIn u (e ∷ es) f → AreIn u es (λ i. f (suc i))
rest_in u e es f p i h = p i (by (f 0))
  where
    by : (s : Bool) → bit_at (cond s (bit_or (word_of e) (union_of (map word_of es) (λ i. f (suc i))))
        (union_of (map word_of es) (λ i. f (suc i)))) i ≡ 1
    by true = in_right (word_of e) (union_of (map word_of es) (λ i. f (suc i))) i h
    by false = h

none_ending : (es : List Ends) (f : ℕ → Bool) → ending es f 0 ≡ 0
none_ending [] f = refl
none_ending (e ∷ es) f = by (f 0) (none_ending es (λ i. f (suc i)))
  where
    by : (s : Bool) → ending es (λ i. f (suc i)) 0 ≡ 0 → ends_before s 0 e.1 + ending es (λ i. f (suc i)) 0 ≡ 0
    by true ih = omega (arith, ih, before_no e.1 0 (omega arith))
    by false ih = omega (arith, ih)

-- at a place without a bit no member ends
ending_gap : (u k : ℕ) → ¬ (bit_at u k ≡ 1) → (es : List Ends) (f : ℕ → Bool) → Each (λ e. e.0 ≤ e.1) es
    → AreIn u es f → ending es f (suc k) ≤ ending es f k
ending_gap u k gap [] f o p = omega arith
ending_gap u k gap (e ∷ es) f o p =
    by (f 0) refl (ending_gap u k gap es (λ i. f (suc i)) o.1 (rest_in u e es f p))
  where
    by : (s : Bool) → f 0 ≡ s → ending es (λ i. f (suc i)) (suc k) ≤ ending es (λ i. f (suc i)) k
        → ends_before s (suc k) e.1 + ending es (λ i. f (suc i)) (suc k)
        ≤ ends_before s k e.1 + ending es (λ i. f (suc i)) k
    by false q ih = omega (arith, ih)
    by true q ih = elim (cases_lt e.1 k) [
      | inl l ↦ omega (arith, ih, before_yes e.1 k l, before_yes e.1 (suc k) (omega (arith, l)))
      | inr h ↦ elim (cases_eq e.1 k) [
        | inl same ↦ absurd (gap (ap (bit_at u) (sym same)
            ∙ first_in u e es f q p e.1 (in_word e e.1 o.0 (omega arith))))
        | inr other ↦ omega (arith, ih, before_no e.1 (suc k) (omega (arith, h, other)), before_no e.1 k h)
      ]
    ]

-- before a run there is no bit
abbrev Starts : ℕ → ℕ → Type 0
Starts u g = (x : ℕ) → suc x ≡ g → ¬ (bit_at u x ≡ 1)

-- a member that ends in a run lies in it
ending_run : (u g k : ℕ) → Starts u g → (es : List Ends) (f : ℕ → Bool) → AreIn u es f
    → ending es f (suc k) ≤ ending es f g + inside g k es
ending_run u g k starts [] f p = omega arith
ending_run u g k starts (e ∷ es) f p =
    by (f 0) refl (ending_run u g k starts es (λ i. f (suc i)) (rest_in u e es f p))
  where
    lies : f 0 ≡ true → g ≤ e.1 → g ≤ e.0
    lies q h = elim (cases_lt e.0 g) [
      | inr le ↦ le
      | inl l ↦ absurd (starts (g - 1) (omega (arith, l))
          (first_in u e es f q p (g - 1) (in_word e (g - 1) (omega (arith, l)) (omega (arith, h)))))
    ]

    by : (s : Bool) → f 0 ≡ s
        → ending es (λ i. f (suc i)) (suc k) ≤ ending es (λ i. f (suc i)) g + inside g k es
        → ends_before s (suc k) e.1 + ending es (λ i. f (suc i)) (suc k)
        ≤ (ends_before s g e.1 + ending es (λ i. f (suc i)) g) + (counted g k e + inside g k es)
    by false q ih = omega (arith, ih)
    by true q ih = elim (cases_lt e.1 (suc k)) [
      | inr past ↦ omega (arith, ih, before_no e.1 (suc k) past)
      | inl l ↦ elim (cases_lt e.1 g) [
        | inl early ↦ omega (arith, ih, before_yes e.1 (suc k) l, before_yes e.1 g early)
        | inr late ↦ omega (arith, ih, before_yes e.1 (suc k) l, counted_in g k e (lies q late) (omega (arith, l)))
      ]
    ]

ending_all : (size : ℕ) (es : List Ends) (f : ℕ → Bool) → Each (λ e. e.1 < size) es
    → members_of (map word_of es) f ≤ ending es f size
ending_all size [] f l = omega arith
ending_all size (e ∷ es) f l = by (f 0) (ending_all size es (λ i. f (suc i)) l.1)
  where
    by : (s : Bool) → members_of (map word_of es) (λ i. f (suc i)) ≤ ending es (λ i. f (suc i)) size
        → cond s 1 0 + members_of (map word_of es) (λ i. f (suc i))
        ≤ ends_before s size e.1 + ending es (λ i. f (suc i)) size
    by true ih = omega (arith, ih, before_yes e.1 size l.0)
    by false ih = omega (arith, ih)

-- ---- bits below a place

abbrev below : ℕ → ℕ → ℕ
below w zero = 0
below w (suc k) = below w k + bit_at w k

below_halves : (w k : ℕ) → below w (suc k) ≡ w % 2 + below (w / 2) k
below_halves w zero = omega (arith, bit_at_lowest w)
below_halves w (suc k) = omega (arith, below_halves w k, bit_at-suc w k)

below_all : (k w : ℕ) → w < 2 ^ k → below w k ≡ count_ones w
below_all zero w l =
    let none : w ≡ 0 = omega (arith, l) in omega (arith, ap count_ones none, ones_le_self 0)
below_all (suc k) w l =
    below_halves w k ∙ omega (arith, below_all k (w / 2) (omega (arith, l, pow-suc 2 k)), ones_step w)

-- all bits from g on, before k, are there
abbrev IsRun : ℕ → ℕ → ℕ → Type 0
IsRun w g k = (x : ℕ) → g ≤ x → x < k → bit_at w x ≡ 1

below_run : (w g k : ℕ) → g ≤ k → IsRun w g k → below w k + g ≡ below w g + k
below_run w g zero le run =
    let none : g ≡ 0 = omega (arith, le) in
    subst (λ n. below w zero + n ≡ below w n + zero) (sym none) refl
below_run w g (suc k) le run =
    by (cases_eq g (suc k)) (λ l. below_run w g k l (λ x p q. run x p (omega (arith, q))))
  where
    by : (g ≡ suc k) ⊎ (¬ (g ≡ suc k)) → (g ≤ k → below w k + g ≡ below w g + k)
        → below w (suc k) + g ≡ below w g + suc k
    by (inl same) ih = subst (λ n. below w (suc k) + n ≡ below w n + suc k) (sym same) refl
    by (inr other) ih =
        omega (arith, ih (omega (arith, le, other)), run k (omega (arith, le, other)) (omega arith))

run_of : (u k : ℕ) → bit_at u k ≡ 1 → (g : ℕ) × (g ≤ k) × IsRun u g (suc k) × Starts u g
run_of u zero h = (
  0,
  omega arith,
  (λ x l m. (let is : x ≡ 0 = omega (arith, m) in ap (bit_at u) is ∙ h)),
  λ x e. absurd (omega (arith, e)),
)
run_of u (suc k) h = by (cases_eq (bit_at u k) 1) (run_of u k)
  where
    more : (g : ℕ) → IsRun u g (suc k) → IsRun u g (suc (suc k))
    more g run x l m = elim (cases_eq x (suc k)) [
      | inl same ↦ ap (bit_at u) same ∙ h
      | inr other ↦ run x l (omega (arith, m, other))
    ]

    by : (bit_at u k ≡ 1) ⊎ (¬ (bit_at u k ≡ 1)) → (bit_at u k ≡ 1 → (g : ℕ) × (g ≤ k) × IsRun u g (suc k) × Starts u g)
        → (g : ℕ) × (g ≤ suc k) × IsRun u g (suc (suc k)) × Starts u g
    by (inl here) rest =
        let r = rest here in (r.0, omega (arith, r.1), more r.0 r.2, r.3)
    by (inr gap) rest = (
      suc k,
      omega arith,
      single,
      λ x e i. gap (let same : x ≡ k = omega (arith, e) in
          ap (bit_at u) (sym same) ∙ i),
    )
      where
        single : IsRun u (suc k) (suc (suc k))
        single x l m = let same : x ≡ suc k = omega (arith, l, m) in ap (bit_at u) same ∙ h

-- ---- no run holds too many

abbrev at : ℕ → ℕ → ℕ
at v k = cond (nat_lt v k) 1 0

at_yes : (v k : ℕ) → v < k → at v k ≡ 1
at_yes v k l = let is : nat_lt v k ≡ true = grind (arith, nat_tests) in rw is refl

at_no : (v k : ℕ) → k ≤ v → at v k ≡ 0
at_no v k l = let is : nat_lt v k ≡ false = grind (arith, nat_tests) in rw is refl

-- from g to k there are no more words than places, beside v where it is one of these
pub record HasRoom (es : List Ends) (v size : ℕ) : Type 0 where
  pub free : (g k : ℕ) → g ≤ k → k < size → inside g k es + g ≤ suc k
  pub beside : (g k : ℕ) → g ≤ v → v ≤ k → k < size → inside g k es + g ≤ k

-- so many members that end before a place, and v where it lies before, have bits of their own
abbrev FitBefore : List Ends → ℕ → (ℕ → Bool) → ℕ → Type 0
FitBefore es v f k = at v k + ending es f k ≤ below (bit_or (2 ^ v) (union_of (map word_of es) f)) k

after_gap : (es : List Ends) (v : ℕ) (f : ℕ → Bool) (k : ℕ) → Each (λ e. e.0 ≤ e.1) es
    → ¬ (bit_at (union_of (map word_of es) f) k ≡ 1) → FitBefore es v f k → FitBefore es v f (suc k)
after_gap es v f k ordered gap fit =
    let u = union_of (map word_of es) f in
    let fewer = ending_gap u k gap es f ordered (λ i h. h) in
    elim (cases_eq v k) [
      | inl same ↦ (
          let here : bit_at (bit_or (2 ^ v) u) k ≡ 1 =
          in_left (2 ^ v) u k (subst (λ n. bit_at (2 ^ v) n ≡ 1) same (bit_at-pow_same v)) in
          omega (arith, fit, fewer, here, at_yes v (suc k) (omega (arith, same)), at_no v k (omega (arith, same)))
          )
      | inr other ↦ elim (cases_lt v k) [
        | inl l ↦ omega (arith, fit, fewer, at_yes v (suc k) (omega (arith, l)), at_yes v k l)
        | inr h ↦ omega (arith, fit, fewer, at_no v (suc k) (omega (arith, h, other)))
      ]
    ]

after_run : (es : List Ends) (v size : ℕ) (f : ℕ → Bool) (k : ℕ) → HasRoom es v size → k < size
    → bit_at (union_of (map word_of es) f) k ≡ 1 → ((g : ℕ) → g ≤ k → FitBefore es v f g) → FitBefore es v f (suc k)
after_run es v size f k room l here fit =
    let u = union_of (map word_of es) f in
    let w = bit_or (2 ^ v) u in
    let r = run_of u k here in
    let g = r.0 in
    let longer : below w (suc k) + g ≡ below w g + suc k =
    below_run w g (suc k) (omega (arith, r.1)) (λ x p q. in_right (2 ^ v) u x (r.2 x p q)) in
    let ends = ending_run u g k r.3 es f (λ i h. h) in
    let before = fit g r.1 in
    elim (cases_lt v g) [
      | inl early ↦ omega (
        arith,
        longer,
        ends,
        before,
        room.free g k r.1 l,
        at_yes v g early,
        at_yes v (suc k) (omega (arith, early, r.1)),
      )
      | inr from ↦ elim (cases_lt k v) [
        | inl late ↦ omega (arith, longer, ends, before, room.free g k r.1 l, at_no v (suc k) late)
        | inr to ↦ omega (
          arith,
          longer,
          ends,
          before,
          room.beside g k from to l,
          at_no v g from,
          at_yes v (suc k) (omega (arith, to)),
        )
      ]
    ]

fit_up_to : (es : List Ends) (v size : ℕ) (f : ℕ → Bool) → Each (λ e. e.0 ≤ e.1) es → HasRoom es v size → (k : ℕ)
    → k ≤ size → (j : ℕ) → j ≤ k → FitBefore es v f j
fit_up_to es v size f ordered room zero le j l =
    let none : j ≡ 0 = omega (arith, l) in
    subst (FitBefore es v f) (sym none) (omega (arith, at_no v 0 (omega arith), none_ending es f))
fit_up_to es v size f ordered room (suc k) le j l =
    by (cases_eq j (suc k)) (fit_up_to es v size f ordered room k (omega (arith, le)))
  where
    by : (j ≡ suc k) ⊎ (¬ (j ≡ suc k)) → ((i : ℕ) → i ≤ k → FitBefore es v f i) → FitBefore es v f j
    by (inr other) fit = fit j (omega (arith, l, other))
    by (inl same) fit =
        subst (FitBefore es v f) (sym same) (elim (cases_eq (bit_at (union_of (map word_of es) f) k) 1) [
          | inl here ↦ after_run es v size f k room (omega (arith, le)) here fit
          | inr gap ↦ after_gap es v f k ordered gap (fit k (omega arith))
        ])

pub words_fit : (size : ℕ) (es : List Ends) → Each (λ e. e.1 < size) es → Each (λ w. w < 2 ^ size) (map word_of es)
words_fit size [] l = tt
words_fit size (e ∷ es) l = (fits (eq-or-lt l.0), words_fit size es l.1)
  where
    eq-or-lt : e.1 < size → (e.1 + 1 ≡ size) ⊎ (e.1 + 1 < size)
    eq-or-lt h = elim (cases_eq (e.1 + 1) size) [ inl same ↦ inl same | inr other ↦ inr (omega (arith, h, other)) ]

    fits : (e.1 + 1 ≡ size) ⊎ (e.1 + 1 < size) → word_of e < 2 ^ size
    fits (inl same) = subst (λ n. 2 ^ n - 2 ^ e.0 < 2 ^ size) (sym same) (omega (arith, pow_pos size, pow_pos e.0))
    fits (inr h) = let wider : 2 ^ (e.1 + 1) < 2 ^ size = pow-lt h in omega (arith, wider)

-- and so each selection has beside v no fewer bits than members
pub roomy_runs : (es : List Ends) (v size : ℕ) → v < size → Each (λ e. e.0 ≤ e.1) es → Each (λ e. e.1 < size) es
    → HasRoom es v size → (f : ℕ → Bool)
    → 1 + members_of (map word_of es) f ≤ count_ones (bit_or (2 ^ v) (union_of (map word_of es) f))
roomy_runs es v size low ordered within room f =
    let u = union_of (map word_of es) f in
    let power : 2 ^ v < 2 ^ size = pow-lt low in
    let fits : bit_or (2 ^ v) u < 2 ^ size =
    or_lt size (2 ^ v) u power (union_fits size (map word_of es) f (words_fit size es within)) in
    omega (
      arith,
      fit_up_to es v size f ordered room size (omega arith) size (omega arith),
      at_yes v size low,
      ending_all size es f within,
      below_all size (bit_or (2 ^ v) u) fits,
    )
