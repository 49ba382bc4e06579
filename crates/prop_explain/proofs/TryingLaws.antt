-- Premises that are tried one after the other, and left out where the others are enough.
use Rattle.std.proofs.Common.{◌≡◌, ◌⊎◌, ◌∙◌, ℕ, ◌<◌, ◌≤◌, ◌+◌, ◌*◌, Bool, true, false, ◌==◌, ◌||◌, ◌&&◌, not, IsTrue}
use Rattle.std.proofs.Common.{List, [], ◌∷◌, ◌++◌, length, All, inl, inr, refl, sym, arith}
use Rattle.std.specs.List.{AllByRecursion}
use Rattle.std.proofs.lemmas.Bool.Decides.{eqb_tells}
use Rattle.std.proofs.lemmas.List.{length-append}
use Rattle.std.proofs.lemmas.List.Elements.{All-cons, All-weaker}
use Rattle.std.proofs.lemmas.List.Folds.{list_any-append}
use Rattle.std.proofs.Math.Nat.{add-mul}
use Rattle.prop_lattice.specs.declared.info.Info.{Info}
use Rattle.prop_numbers.specs.Sets.{Members, set_of, IsPart, without}
use Rattle.prop_numbers.proofs.MergeLemmas.{Rising}
use Rattle.prop_cells.specs.Problems.{Problem, Entails}
use Rattle.prop_cells.proofs.Founding.{entails_more}

-- what is left entails the information, and each premise that was tried and is left is needed
pub record AreTried (problem : Problem) (cell : ℕ) (v : Info) (tried : List ℕ) (s : Members) : Type 0 where
  pub entails : Entails problem s cell v
  pub needed : (p : ℕ) → IsTrue (set_of tried p) → IsTrue (s p) → ¬ (Entails problem (without s p) cell v)

and_first : (b c : Bool) → (b && c) ≡ true → b ≡ true
and_first true c h = refl
and_first false c h = cc

and_second : (b c : Bool) → (b && c) ≡ true → c ≡ true
and_second true c h = h
and_second false c h = cc

and_both : (b c : Bool) → b ≡ true → c ≡ true → (b && c) ≡ true
and_both true c p q = q
and_both false c p q = cc

or_cases : (a b : Bool) → (a || (b || false)) ≡ true → (a ≡ true) ⊎ (b ≡ true)
or_cases true b e = inl refl
or_cases false true e = inr refl
or_cases false false e = cc

same : (q p : ℕ) → (q == p) ≡ true → q ≡ p
same q p h = elim (eqb_tells q p) [ inl e ↦ e.1 | inr e ↦ cc (e.0, h) ]

same_test : (p : ℕ) → (p == p) ≡ true
same_test p = elim (eqb_tells p p) [ inl e ↦ e.0 | inr e ↦ absurd (e.1 refl) ]

-- what is left without a premise is a part of what was there without it
part_without : (s t : Members) (p : ℕ) → IsPart t s → IsPart (without t p) (without s p)
part_without s t p part q h = and_both (s q) (not (p == q)) (part q (and_first (t q) (not (p == q)) h))
    (and_second (t q) (not (p == q)) h)

pub without_part : (s : Members) (p : ℕ) → IsPart (without s p) s
without_part s p q h = and_first (s q) (not (p == q)) h

-- and so of what that was a part of
pub less_is_part : (s why less : Members) (p : ℕ) → less ≡ without s p → IsPart s why → IsPart less why
less_is_part s why less p is part = rw is (λ q h. part q (without_part s p q h))

not_itself : (s : Members) (p : ℕ) → IsTrue (without s p p) → ⊥
not_itself s p h =
    let out : not (p == p) ≡ true = and_second (s p) (not (p == p)) h in
    let still : not true ≡ true = rw (same_test p) at out in
    cc

-- one more was tried: a premise was tried before, or is the last
tried_cases : (tried : List ℕ) (q p : ℕ) → IsTrue (set_of (tried ++ q ∷ []) p) → IsTrue (set_of tried p) ⊎ (q ≡ p)
tried_cases tried q p h = elim (or_cases (set_of tried p) (q == p)
    (sym (list_any-append (λ k. k == p) tried (q ∷ [])) ∙ h)) [ inl e ↦ inl e | inr e ↦ inr (same q p e) ]

-- nothing was tried
pub none_tried : (problem : Problem) (cell : ℕ) (v : Info) (s : Members) → Entails problem s cell v
    → AreTried problem cell v [] s
none_tried problem cell v s e = record { entails = e; needed = λ p h. cc }

module _ (problem : Problem) (cell : ℕ) (v : Info) (tried : List ℕ) (s : Members) (q : ℕ)
    (known : AreTried problem cell v tried s) where
  -- the others are enough, so the premise is left out
  pub left_out : Entails problem (without s q) cell v → AreTried problem cell v (tried ++ q ∷ []) (without s q)
  left_out e = record {
    entails = e;
    needed = λ p h there enough. elim (tried_cases tried q p h) as (λ _. ⊥) [
      | inl before ↦ known.needed p before (without_part s q p there)
          (entails_more problem (without (without s q) p) (without s p) cell v
          (part_without s (without s q) p (without_part s q)) enough)
      | inr last ↦ not_itself s p (rw last at there)
    ];
  }

  -- the others are not enough, so the premise stays
  pub stays : ¬ (Entails problem (without s q) cell v) → AreTried problem cell v (tried ++ q ∷ []) s
  stays few = record {
    entails = known.entails;
    needed = λ p h there enough. elim (tried_cases tried q p h) as (λ _. ⊥) [
      | inl before ↦ known.needed p before there enough
      | inr last ↦ few (rw (sym last) at enough)
    ];
  }

-- one try more, which takes at most so many steps
pub few_more : (ps : List ℕ) (p most steps calls : ℕ) → steps ≤ length ps * most → calls ≤ most
    → steps + calls ≤ length (ps ++ p ∷ []) * most
few_more ps p most steps calls few more =
    rw (length-append ps (p ∷ []), add-mul (length ps) 1 most) (omega (arith, few, more))

-- ---- which sets are tried

-- the premises that come, in order, are believed and in each set that was tried and in what is left
pub record AreHeld (believed : Members) (sets : List Members) (s : Members) (rest : List ℕ) : Type 0 where
  pub rising : Rising rest
  pub part : IsPart (set_of rest) believed
  pub tried : All (IsPart (set_of rest)) sets
  pub left : IsPart (set_of rest) s

or_first : (a b : Bool) → a ≡ true → (a || b) ≡ true
or_first true b h = refl
or_first false b h = cc

or_last : (a b : Bool) → b ≡ true → (a || b) ≡ true
or_last true b h = refl
or_last false b h = h

either_of : (a b : Bool) → (a || b) ≡ true → (a ≡ true) ⊎ (b ≡ true)
either_of true b h = inl refl
either_of false b h = inr h

first_in : (p : ℕ) (rest : List ℕ) → IsTrue (set_of (p ∷ rest) p)
first_in p rest = or_first (p == p) (set_of rest p) (same_test p)

rest_in : (p : ℕ) (rest : List ℕ) → IsPart (set_of rest) (set_of (p ∷ rest))
rest_in p rest q h = or_last (p == q) (set_of rest q) h

above : (p q : ℕ) (rest : List ℕ) → AllByRecursion (λ y. p < y) rest → IsTrue (set_of rest q) → p < q
above p q [] all h = cc
above p q (x ∷ xs) all h = elim (either_of (x == q) (set_of xs q) h) [
  | inl here ↦ omega (arith, same x q here, all.0)
  | inr later ↦ above p q xs all.1 later
]

-- what comes later is no premise that is left out now
later_stays : (s : Members) (p : ℕ) (rest : List ℕ) → AllByRecursion (λ y. p < y) rest → IsPart (set_of rest) s
    → IsPart (set_of rest) (without s p)
later_stays s p rest all part q h = and_both (s q) (not (p == q)) (part q h) (elim (eqb_tells p q) [
  | inl e ↦ (let l = above p q rest all h in absurd (omega (arith, l, e.1)))
  | inr e ↦ rw e.0 refl
])

pub lacks_itself : (s : Members) (p : ℕ) → without s p p ≡ false
lacks_itself s p = by (without s p p) refl
  where
    by : (b : Bool) → without s p p ≡ b → b ≡ false
    by true h = absurd (not_itself s p h)
    by false h = refl

module _ {believed : Members} {sets : List Members} {s : Members} (p : ℕ) (rest : List ℕ)
    (held : AreHeld believed sets s (p ∷ rest)) where
  pub next_believed : IsTrue (believed p)
  next_believed = held.part p (first_in p rest)

  pub next_held : All (λ t. IsTrue (t p)) sets
  next_held = All-weaker (IsPart (set_of (p ∷ rest))) (λ t. IsTrue (t p)) (λ t part. part p (first_in p rest)) sets
      held.tried

  pub less_holds : IsPart (set_of rest) (without s p)
  less_holds = later_stays s p rest held.rising.0 (λ q h. held.left q (rest_in p rest q h))

  pub still_left : IsPart (set_of rest) s
  still_left q h = held.left q (rest_in p rest q h)

  pub held_next : (now : Members) → IsPart (set_of rest) now → AreHeld believed (without s p ∷ sets) now rest
  held_next now left = record {
    rising = held.rising.1;
    part = λ q h. held.part q (rest_in p rest q h);
    tried = All-cons (IsPart (set_of rest)) (without s p) sets less_holds
        (All-weaker (IsPart (set_of (p ∷ rest))) (IsPart (set_of rest)) (λ t part q h. part q (rest_in p rest q h)) sets
        held.tried);
    left = left;
  }
