-- The hypothetical premises that a choice list takes, one after another.
use Rattle.std.proofs.Common.{◌≡◌, ℕ, zero, suc, ◌+◌, ◌-◌, ◌<◌, ◌≤◌, Bool, true, false, ◌||◌, ◌==◌, List, [], ◌∷◌}
use Rattle.std.proofs.Common.{length, drop, get_or, refl, sym, ap, ◌∙◌, arith, IsTrue}
use Rattle.std.proofs.Math.Seq.{drop-cons}
use Rattle.std.proofs.lemmas.Bool.Decides.{nat_tests}
use Rattle.prop_numbers.specs.Sets.{Members}
use Rattle.std.proofs.lemmas.List.Folds.{list_any_at}
use Rattle.prop_premises.specs.declared.choice.Choice.{Choice}
use Rattle.prop_premises.specs.ChoiceLists.{is_hypothetical, IsChoiceList, hypotheticals_of}
use Rattle.prop_premises.specs.inner.ChoiceLists.{is_side_of}

-- What is told of a choice of the list and the side that is taken of it.
pub record Taken (choices : List Choice) (sides : List ℕ) (k : ℕ) (d : Choice) (e : ℕ) : Type 0 where
  pub within : k < length sides
  pub least : 1 ≤ get_or sides k e
  pub most : get_or sides k e ≤ (get_or choices k d).sides

pub taken : (choices : List Choice) (sides : List ℕ) (k : ℕ) (d : Choice) (e : ℕ) → IsChoiceList choices sides
    → k < length choices →
    Taken choices sides k d e
taken [] sides k d e h l = absurd (omega (arith, l))
taken (c ∷ cs) [] k d e h l = absurd h
taken (c ∷ cs) (s ∷ ss) zero d e h l = record { within = omega arith; least = h.0.0; most = h.0.1 }
taken (c ∷ cs) (s ∷ ss) (suc k) d e h l =
    let rest = taken cs ss k d e h.1 (omega (arith, l)) in
    record { within = omega (arith, rest.within); least = rest.least; most = rest.most }

-- the premise of such a side is hypothetical
pub taken_is_hypothetical : (choices : List Choice) (sides : List ℕ) (k : ℕ) (d : Choice) (e : ℕ)
    → IsChoiceList choices sides → k < length choices →
    IsTrue (is_hypothetical choices ((get_or choices k d).first + (get_or sides k e - 1)))
taken_is_hypothetical choices sides k d e h l =
    let t = taken choices sides k d e h l in
    let low : 1 ≤ get_or sides k e = t.least in
    let high : get_or sides k e ≤ (get_or choices k d).sides = t.most in
    let own : is_side_of (get_or choices k d) ((get_or choices k d).first + (get_or sides k e - 1)) ≡ true =
    grind (arith, nat_tests) in
    list_any_at (λ c. is_side_of c ((get_or choices k d).first + (get_or sides k e - 1))) choices k d l own

or_assoc : (a b c : Bool) → ((a || b) || c) ≡ (a || (b || c))
or_assoc true b c = refl
or_assoc false b c = refl

-- one more premise of the list is believed
pub with_side : (was now : Members) (choices : List Choice) (sides : List ℕ) (k : ℕ) (d : Choice) (e n : ℕ)
    → IsChoiceList choices sides →
    k < length choices →
    n ≡ (get_or choices k d).first + (get_or sides k e - 1) → ((p : ℕ) → now p ≡ (was p || (n == p))) → (p : ℕ) →
    (now p || hypotheticals_of (drop (k + 1) choices) (drop (k + 1) sides) p)
    ≡ (was p || hypotheticals_of (drop k choices) (drop k sides) p)
with_side was now choices sides k d e n h l at one_more p =
    let t = taken choices sides k d e h l in
    let after : k + 1 ≡ suc k = omega arith in
    ap (λ b. b || hypotheticals_of (drop (k + 1) choices) (drop (k + 1) sides) p) (one_more p)
    ∙ or_assoc (was p) (n == p) (hypotheticals_of (drop (k + 1) choices) (drop (k + 1) sides) p)
    ∙ ap (λ j. was p || ((n == p) || hypotheticals_of (drop j choices) (drop j sides) p)) after
    ∙ ap (λ i. was p || ((i == p) || hypotheticals_of (drop (suc k) choices) (drop (suc k) sides) p)) at
    ∙ ap (λ l. was p || hypotheticals_of (get_or choices k d ∷ drop (suc k) choices) l p)
    (sym (drop-cons sides k e t.within))
    ∙ ap (λ l. was p || hypotheticals_of l (drop k sides) p) (sym (drop-cons choices k d l))

or_none : (b : Bool) → (b || false) ≡ b
or_none true = refl
or_none false = refl
