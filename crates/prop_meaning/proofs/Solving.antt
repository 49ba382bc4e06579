-- What fresh cells become is solved just where each is what it is made of.
use Rattle.std.proofs.Common.{◌≡◌, ◌∙◌, ℕ, zero, suc, ◌+◌, ◌-◌, ◌<◌, ◌≤◌, List, [], ◌∷◌, ◌++◌}
use Rattle.std.proofs.Common.{Bool, true, false, cond, nat_lt, ◌==◌, Option, Some, None, slice_get}
use Rattle.std.proofs.Common.{refl, ap, sym, subst, arith}
use Rattle.std.specs.List.{AllByRecursion}
use Rattle.std.specs.Option.{option_map}
use Rattle.std.proofs.lemmas.Bool.{ltb-true, ltb-false}
use Rattle.std.proofs.lemmas.Bool.Decides.{Decides-eqb}
use Rattle.prop_lattice.specs.Points.{Point, Holds, IsPointOf}
use Rattle.prop_procedures.specs.declared.shape.Kinded.{Kinded}
use Rattle.prop_meaning.specs.Acts.{RelatedBy, TellsBy, HoldsAt}
use Rattle.prop_meaning.specs.Words.{Lexicon, Fits}
use Rattle.prop_meaning.specs.declared.draft.Made.{Made}
use Rattle.prop_meaning.specs.declared.steps.Step.{Step}
use Rattle.prop_meaning.specs.declared.steps.Step.TheVariants as steps
use Rattle.prop_meaning.specs.inner.Drafts.{Has, Suits, Follows, IsSound}
use Rattle.prop_meaning.specs.inner.Expanding.{acts_of, constants_of, all_acts, all_constants}
use Rattle.prop_meaning.specs.inner.Steps.{made_by, IsBehind, of_one, of_two, chosen}
use Rattle.prop_meaning.specs.inner.Steps.{quotient_point, left_point}
use Rattle.prop_meaning.proofs.Quotients.{quotient_forth, quotient_back, left_forth, left_back}
use Rattle.prop_meaning.proofs.StepLemmas.{pair_forth, pair_back, single_forth, single_back, choice_forth, choice_back}
use Rattle.prop_meaning.proofs.ConstantLemmas.{constant_forth, number_back, element_back, symbol_back}

-- ---- lists

all_append : {X : Type 0} (P : X → Type 0) (xs ys : List X) → AllByRecursion P xs → AllByRecursion P ys
    → AllByRecursion P (xs ++ ys)
all_append P [] ys h g = g
all_append P (x ∷ xs) ys h g = (h.0, all_append P xs ys h.1 g)

all_left : {X : Type 0} (P : X → Type 0) (xs ys : List X) → AllByRecursion P (xs ++ ys) → AllByRecursion P xs
all_left P [] ys h = tt
all_left P (x ∷ xs) ys h = (h.0, all_left P xs ys h.1)

all_right : {X : Type 0} (P : X → Type 0) (xs ys : List X) → AllByRecursion P (xs ++ ys) → AllByRecursion P ys
all_right P [] ys h = h
all_right P (x ∷ xs) ys h = all_right P xs ys h.1

next : (n k : ℕ) → (n + 1) + k ≡ n + suc k
next n k = omega arith

-- what is written for each fresh cell
module _ {X : Type 0} (P : X → Type 0) (f : Step → ℕ → List X) (g : ℕ → List Made → List X)
    (none : (n : ℕ) → g n [] ≡ [])
    (more : (n : ℕ) (m : Made) (made : List Made) → g n (m ∷ made) ≡ f m.step n ++ g (n + 1) made) where
  pub gather : (n : ℕ) (made : List Made)
      → ((k : ℕ) (m : Made) → slice_get made k ≡ Some m → AllByRecursion P (f m.step (n + k)))
      → AllByRecursion P (g n made)
  gather n [] h = rw (none n) tt
  gather n (m ∷ made) h =
      let Q : ℕ → Type 0 = λ i. AllByRecursion P (f m.step i) in
      let first : AllByRecursion P (f m.step n) = subst Q (omega arith) (h 0 m refl) in
      let rest : AllByRecursion P (g (n + 1) made) = gather (n + 1) made
      (λ k o e. let R : ℕ → Type 0 = λ i. AllByRecursion P (f o.step i) in subst R (sym (next n k)) (h (suc k) o e)) in
      rw (more n m made) (all_append P (f m.step n) (g (n + 1) made) first rest)

  pub part : (n : ℕ) (made : List Made) → AllByRecursion P (g n made) → (k : ℕ) (m : Made) → slice_get made k ≡ Some m
      → AllByRecursion P (f m.step (n + k))
  part n [] h k m e = absurd (cc)
  part n (m ∷ made) h zero o e =
      let Q : ℕ → Type 0 = λ i. AllByRecursion P (f o.step i) in
      let R : Made → Type 0 = λ i. AllByRecursion P (f i.step n) in
      subst Q (omega arith) (subst R (same_in e) (all_left P (f m.step n) (g (n + 1) made) (rw (← more n m made) h)))
    where
      same_in : Some m ≡ Some o → m ≡ o
      same_in e = cc
  part n (m ∷ made) h (suc k) o e =
      let Q : ℕ → Type 0 = λ i. AllByRecursion P (f o.step i) in
      subst Q (next n k) (part (n + 1) made (all_right P (f m.step n) (g (n + 1) made) (rw (← more n m made) h)) k o e)

-- ---- points that are made

-- the point at one place is another
abbrev put_at : (ℕ → Point) → ℕ → Point → ℕ → Point
put_at a n p i = cond (i == n) p (a i)

put_there : (a : ℕ → Point) (n : ℕ) (p : Point) → put_at a n p n ≡ p
put_there a n p = by (n == n) refl
  where
    by : (b : Bool) → (n == n) ≡ b → cond b p (a n) ≡ p
    by true e = refl
    by false e = absurd (clash (sym e ∙ (Decides-eqb n n).1 refl))
      where
        clash : false ≡ true → ⊥
        clash e = cc

put_else : (a : ℕ → Point) (n : ℕ) (p : Point) (i : ℕ) → i < n → put_at a n p i ≡ a i
put_else a n p i l = by (i == n) refl
  where
    by : (b : Bool) → (i == n) ≡ b → cond b p (a i) ≡ a i
    by false e = refl
    by true e = absurd (off ((Decides-eqb i n).0 e))
      where
        off : i ≡ n → ⊥
        off e = omega (arith, e)

-- the points where fresh cells from the n-th on are what they are made of
pub made_from : ℕ → List Made → (ℕ → Point) → ℕ → Point
made_from n [] a = a
made_from n (m ∷ made) a = made_from (n + 1) made (put_at a n (made_by m.step a))

pub made_before : (n : ℕ) (made : List Made) (a : ℕ → Point) (i : ℕ) → i < n → made_from n made a i ≡ a i
unfolding made_from
made_before n [] a i l = refl
made_before n (m ∷ made) a i l =
    made_before (n + 1) made (put_at a n (made_by m.step a)) i (omega arith) ∙ put_else a n (made_by m.step a) i l

-- what a step makes depends on the cells before it
made_alike : (s : Step) (place : ℕ) (a b : ℕ → Point) → IsBehind place s → ((i : ℕ) → i < place → a i ≡ b i)
    → made_by s a ≡ made_by s b
made_alike (steps.Number z) place a b h e = refl
made_alike (steps.Element i) place a b h e = refl
made_alike (steps.Symbol n) place a b h e = refl
made_alike (steps.One op x) place a b h e = ap (of_one op) (e x h)
made_alike (steps.Two op x y) place a b h e =
    ap (λ p. of_two op p (a y)) (e x h.0) ∙ ap (of_two op (b x)) (e y h.1)
made_alike (steps.Choice t x y) place a b h e = ap (λ p. chosen p (a x) (a y)) (e t h.0)
    ∙ (ap (λ p. chosen (b t) p (a y)) (e x h.1) ∙ ap (chosen (b t) (b x)) (e y h.2))
made_alike (steps.Quotient x y) place a b h e =
    ap (λ p. quotient_point p (a y)) (e x h.0) ∙ ap (quotient_point (b x)) (e y h.1)
made_alike (steps.Left x p y) place a b h e = ap (λ q. left_point q (a p) (a y)) (e x h.0)
    ∙ (ap (λ q. left_point (b x) q (a y)) (e p h.1) ∙ ap (left_point (b x) (b p)) (e y h.2))

pub made_follows : (n : ℕ) (made : List Made) (a : ℕ → Point)
    → ((k : ℕ) (m : Made) → slice_get made k ≡ Some m → IsBehind (n + k) m.step)
    → Follows n made (made_from n made a)
unfolding made_from
made_follows n [] a h k m e = absurd (cc)
made_follows n (m ∷ made) a h zero o e =
    let b : ℕ → Point = put_at a n (made_by m.step a) in
    let same : m ≡ o = same_in e in
    let first : made_from (n + 1) made b n ≡ made_by m.step a =
    made_before (n + 1) made b n (omega arith) ∙ put_there a n (made_by m.step a) in
    let behind : IsBehind n m.step = let Q : ℕ → Type 0 = λ i. IsBehind i m.step in subst Q
    (omega arith) (h 0 m refl) in
    let later : made_by m.step a ≡ made_by m.step (made_from (n + 1) made b) =
    made_alike m.step n a (made_from (n + 1) made b) behind
    (λ i l. sym (made_before (n + 1) made b i (omega arith) ∙ put_else a n (made_by m.step a) i l)) in
    let Q : ℕ → Type 0 = λ i. made_from (n + 1) made b i ≡ made_by o.step (made_from (n + 1) made b) in
    let R : Made → Type 0 = λ i. made_from (n + 1) made b n ≡ made_by i.step (made_from (n + 1) made b) in
    subst Q (omega arith) (subst R same (first ∙ later))
  where
    same_in : Some m ≡ Some o → m ≡ o
    same_in e = cc
made_follows n (m ∷ made) a h (suc k) o e =
    let b : ℕ → Point = put_at a n (made_by m.step a) in
    let Q : ℕ → Type 0 = λ i. made_from (n + 1) made b i ≡ made_by o.step (made_from (n + 1) made b) in
    subst Q (next n k) (made_follows (n + 1) made b
    (λ j m e. let R : ℕ → Type 0 = λ i. IsBehind i m.step in subst R (sym (next n j)) (h (suc j) m e)) k o e)

-- ---- kinds

-- each fresh cell's point is of its kind
abbrev pub AreOfKinds : Lexicon → List Made → (ℕ → Point) → Type 0
AreOfKinds lexicon made a = (k : ℕ) (m : Made) → slice_get made k ≡ Some m
    → IsPointOf m.known.kinded.kind m.known.kinded.size (a (lexicon.count + k))

same_kind : {k l : Kinded} → Some k ≡ Some l → k ≡ l
same_kind e = cc

kind_by : (lexicon : Lexicon) (made : List Made) (a : ℕ → Point) (place : ℕ) (kinded : Kinded) → Fits lexicon a
    → AreOfKinds lexicon made a → (b : Bool) → nat_lt place lexicon.count ≡ b → (o : Option Made)
    → slice_get made (place - lexicon.count) ≡ o
    → option_map (λ k. k.kinded) (cond b (Some (lexicon.known place)) (option_map (λ m. m.known) o)) ≡ Some kinded
    → IsPointOf kinded.kind kinded.size (a place)
kind_by lexicon made a place kinded fits kinds true e o f h =
    let P : Kinded → Type 0 = λ n. IsPointOf n.kind n.size (a place) in
    subst P (same_kind h) (fits place (ltb-true place lexicon.count e)).0
kind_by lexicon made a place kinded fits kinds false e (Some m) f h =
    let P : Kinded → Type 0 = λ n. IsPointOf n.kind n.size (a place) in
    let Q : ℕ → Type 0 = λ n. IsPointOf m.known.kinded.kind m.known.kinded.size (a n) in
    subst P (same_kind h) (subst Q (back lexicon.count place (ltb-false place lexicon.count e))
    (kinds (place - lexicon.count) m f))
  where
    back : (c p : ℕ) → c ≤ p → c + (p - c) ≡ p
    back c p l = omega arith
kind_by lexicon made a place kinded fits kinds false e None f h = absurd (cc)

pub of_kind : (lexicon : Lexicon) (made : List Made) (a : ℕ → Point) (place : ℕ) (kinded : Kinded) → Fits lexicon a
    → AreOfKinds lexicon made a → Has lexicon made place kinded → IsPointOf kinded.kind kinded.size (a place)
of_kind lexicon made a place kinded fits kinds h =
    kind_by lexicon made a place kinded fits kinds (nat_lt place lexicon.count) refl _ refl h

-- ---- a step

step_forth : (lexicon : Lexicon) (made : List Made) (a : ℕ → Point) → Fits lexicon a → AreOfKinds lexicon made a
    → (s : Step) (kinded : Kinded) (place : ℕ) → Suits lexicon made kinded s
    → IsPointOf kinded.kind kinded.size (a place) → a place ≡ made_by s a
    → AllByRecursion (HoldsAt RelatedBy a) (acts_of s place)
step_forth lexicon made a fits kinds (steps.Number z) kinded place suits j e = tt
step_forth lexicon made a fits kinds (steps.Element i) kinded place suits j e = tt
step_forth lexicon made a fits kinds (steps.Symbol n) kinded place suits j e = tt
step_forth lexicon made a fits kinds (steps.One op x) kinded place suits j e =
    single_forth a op x place (of_kind lexicon made a x _ fits kinds suits.0) e
step_forth lexicon made a fits kinds (steps.Two op x y) kinded place suits j e =
    pair_forth a op x y place suits.0 suits.1
    (of_kind lexicon made a x _ fits kinds suits.2) (of_kind lexicon made a y _ fits kinds suits.3) e
step_forth lexicon made a fits kinds (steps.Choice t x y) kinded place suits j e =
    choice_forth a t x y place (of_kind lexicon made a t _ fits kinds suits.0) e
step_forth lexicon made a fits kinds (steps.Quotient x y) kinded place suits j e =
    let P : Kinded → Type 0 = λ n. IsPointOf n.kind n.size (a place) in
    quotient_forth a x y place (of_kind lexicon made a x _ fits kinds suits.0)
    (of_kind lexicon made a y _ fits kinds suits.1) (subst P suits.2 j) e
step_forth lexicon made a fits kinds (steps.Left x p y) kinded place suits j e =
    let P : Kinded → Type 0 = λ n. IsPointOf n.kind n.size (a place) in
    left_forth a x p y place (of_kind lexicon made a x _ fits kinds suits.0)
    (of_kind lexicon made a p _ fits kinds suits.1) (of_kind lexicon made a y _ fits kinds suits.2)
    (subst P suits.3 j) e

step_back : (lexicon : Lexicon) (made : List Made) (a : ℕ → Point) → Fits lexicon a → AreOfKinds lexicon made a
    → (s : Step) (kinded : Kinded) (place : ℕ) → Suits lexicon made kinded s
    → IsPointOf kinded.kind kinded.size (a place) → AllByRecursion (HoldsAt TellsBy a) (acts_of s place)
    → AllByRecursion (λ c. Holds c.1 (a c.0)) (constants_of s place) → a place ≡ made_by s a
step_back lexicon made a fits kinds (steps.Number z) kinded place suits j h g = number_back z a place g
step_back lexicon made a fits kinds (steps.Element i) kinded place suits j h g = element_back i a place g
step_back lexicon made a fits kinds (steps.Symbol n) kinded place suits j h g = symbol_back n a place g
step_back lexicon made a fits kinds (steps.One op x) kinded place suits j h g =
    let P : Kinded → Type 0 = λ n. IsPointOf n.kind n.size (a place) in
    single_back a op x place (of_kind lexicon made a x _ fits kinds suits.0) (subst P suits.1 j) h
step_back lexicon made a fits kinds (steps.Two op x y) kinded place suits j h g =
    let P : Kinded → Type 0 = λ n. IsPointOf n.kind n.size (a place) in
    pair_back a op x y place suits.0 suits.1 (of_kind lexicon made a x _ fits kinds suits.2)
    (of_kind lexicon made a y _ fits kinds suits.3) (subst P suits.4 j) h
step_back lexicon made a fits kinds (steps.Choice t x y) kinded place suits j h g =
    choice_back a t x y place (of_kind lexicon made a t _ fits kinds suits.0) h
step_back lexicon made a fits kinds (steps.Quotient x y) kinded place suits j h g =
    let P : Kinded → Type 0 = λ n. IsPointOf n.kind n.size (a place) in
    quotient_back a x y place (of_kind lexicon made a x _ fits kinds suits.0)
    (of_kind lexicon made a y _ fits kinds suits.1) (subst P suits.2 j) h
step_back lexicon made a fits kinds (steps.Left x p y) kinded place suits j h g =
    let P : Kinded → Type 0 = λ n. IsPointOf n.kind n.size (a place) in
    left_back a x p y place (of_kind lexicon made a x _ fits kinds suits.0)
    (of_kind lexicon made a p _ fits kinds suits.1) (of_kind lexicon made a y _ fits kinds suits.2)
    (subst P suits.3 j) h

-- ---- all steps

pub all_acts_forth : (lexicon : Lexicon) (made : List Made) (a : ℕ → Point) → IsSound lexicon made → Fits lexicon a
    → AreOfKinds lexicon made a → Follows lexicon.count made a
    → AllByRecursion (HoldsAt RelatedBy a) (all_acts lexicon.count made)
all_acts_forth lexicon made a sound fits kinds follows =
    gather (HoldsAt RelatedBy a) acts_of all_acts (λ n. refl) (λ n m made. refl) lexicon.count made
    (λ k m e. step_forth lexicon made a fits kinds m.step m.known.kinded (lexicon.count + k)
    (sound k m e).suits (kinds k m e) (follows k m e))

pub all_constants_forth : (lexicon : Lexicon) (made : List Made) (a : ℕ → Point) → IsSound lexicon made
    → AreOfKinds lexicon made a → Follows lexicon.count made a
    → AllByRecursion (λ c. Holds c.1 (a c.0)) (all_constants lexicon.count made)
all_constants_forth lexicon made a sound kinds follows =
    gather (λ c. Holds c.1 (a c.0)) constants_of all_constants (λ n. refl) (λ n m made. refl) lexicon.count made
    (λ k m e. constant_forth lexicon made m.known.kinded m.step a (lexicon.count + k)
    (sound k m e).suits (kinds k m e) (follows k m e))

-- where all is solved each fresh cell is what it is made of
pub solved_follows : (lexicon : Lexicon) (made : List Made) (a : ℕ → Point) → IsSound lexicon made → Fits lexicon a
    → AreOfKinds lexicon made a → AllByRecursion (HoldsAt TellsBy a) (all_acts lexicon.count made)
    → AllByRecursion (λ c. Holds c.1 (a c.0)) (all_constants lexicon.count made) → Follows lexicon.count made a
solved_follows lexicon made a sound fits kinds acts constants k m e =
    step_back lexicon made a fits kinds m.step m.known.kinded (lexicon.count + k) (sound k m e).suits (kinds k m e)
    (part (HoldsAt TellsBy a) acts_of all_acts (λ n. refl) (λ n m made. refl) lexicon.count made acts k m e)
    (part (λ c. Holds c.1 (a c.0)) constants_of all_constants (λ n. refl) (λ n m made. refl)
    lexicon.count made constants k m e)
