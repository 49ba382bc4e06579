-- What a line says of premises is read word by word.
use Rattle.std.proofs.Common.{◌≡◌, ◌∙◌, ◌≤◌, ◌<◌, ◌-◌, ℕ, Bool, true, false, List, [], ◌∷◌, length, get_or, take, drop}
use Rattle.std.proofs.Common.{arith, ap, refl, sym}
use Rattle.std.specs.Borrow.{Bor}
use Rattle.std.specs.Prelude.{Result, Ok, Err, if◌then◌else◌}
use Rattle.std.proofs.lemmas.List.{take_all}
use Rattle.prop_refusals.specs.declared.refusal.Refusal.{Refusal}
use Rattle.prop_refusals.specs.declared.refusal.Refusal.TheVariants.{WrongForm}
use Rattle.prop_premises.specs.Origins.{Origin}
use Rattle.prop_language.specs.Said.{words}
use Rattle.prop_blaming.specs.Asking.{Wish, asked_by, cheapest_asked, is_by_cost, most}
use Rattle.prop_blaming.specs.Weighing.{evenly, priced, weighed}

-- those behind the first two, or three
all_left : {X : Type 0} (a b : X) (rest : List X) → take (length (a ∷ b ∷ rest) - 2) rest ≡ rest
all_left a b rest = take_all (length (a ∷ b ∷ rest) - 2) rest (omega arith)

pub weighed_more : (premises : List Origin) (weights more : List ℕ) (listed : List (Bor (List ℕ)))
    (d e : Bor (List ℕ)) → 2 ≤ length listed
    → priced premises weights (get_or listed 0 d).now (get_or listed 1 e).now ≡ Ok more
    → weighed premises weights (words listed) ≡ weighed premises more (words (take (length listed - 2) (drop 2 listed)))
weighed_more premises weights more [] d e l is = absurd (omega (arith, l))
weighed_more premises weights more (a ∷ []) d e l is = absurd (omega (arith, l))
weighed_more premises weights more (a ∷ b ∷ rest) d e l is =
    first ∙ ap (λ r. weighed premises more (words r)) (sym (all_left a b rest))
  where
    first : weighed premises weights (words (a ∷ b ∷ rest)) ≡ weighed premises more (words rest)
    first = go (priced premises weights a.now b.now) is
      where
        go : (r : Result (List ℕ) Refusal) → r ≡ Ok more
            → (elim r [ Ok m ↦ weighed premises m (words rest) | Err refusal ↦ Err refusal ])
            ≡ weighed premises more (words rest)
        go (Ok m) e = let same : m ≡ more = cc in ap (λ x. weighed premises x (words rest)) same
        go (Err refusal) e = cc

-- words that ask for the cheapest
abbrev pub by_cost : List Origin → List ℕ → List ℕ → List ℕ → List (List ℕ) → Result Wish Refusal
by_cost premises w number by prices = if is_by_cost w by then
    elim (most number) [
      | Ok n ↦ cheapest_asked n (weighed premises (evenly premises) prices)
      | Err refusal ↦ Err refusal
    ] else Err WrongForm

pub by_cost_most : (premises : List Origin) (w number by : List ℕ) (prices : List (List ℕ)) (n : ℕ)
    → is_by_cost w by ≡ true → most number ≡ Ok n → by_cost premises w number by prices
    ≡ cheapest_asked n (weighed premises (evenly premises) prices)
by_cost_most premises w number by prices n is e = go (is_by_cost w by) (most number) is e
  where
    go : (b : Bool) (r : Result ℕ Refusal) → b ≡ true → r ≡ Ok n → (if b then elim r [
      | Ok n ↦ cheapest_asked n (weighed premises (evenly premises) prices)
      | Err refusal ↦ Err refusal
    ] else Err WrongForm) ≡ cheapest_asked n (weighed premises (evenly premises) prices)
    go true (Ok m) is e =
        let same : m ≡ n = cc in ap (λ k. cheapest_asked k (weighed premises (evenly premises) prices)) same
    go true (Err refusal) is e = cc
    go false r is e = cc

pub by_cost_none : (premises : List Origin) (w number by : List ℕ) (prices : List (List ℕ)) (refusal : Refusal)
    → is_by_cost w by ≡ true → most number ≡ Err refusal → by_cost premises w number by prices ≡ Err refusal
by_cost_none premises w number by prices refusal is e = go (is_by_cost w by) (most number) is e
  where
    go : (b : Bool) (r : Result ℕ Refusal) → b ≡ true → r ≡ Err refusal → (if b then elim r [
      | Ok n ↦ cheapest_asked n (weighed premises (evenly premises) prices)
      | Err why ↦ Err why
    ] else Err WrongForm) ≡ Err refusal
    go true (Ok m) is e = cc
    go true (Err why) is e = let same : why ≡ refusal = cc in ap Err same
    go false r is e = cc

pub asked_many : (premises : List Origin) (listed : List (Bor (List ℕ))) (d e f : Bor (List ℕ))
    → 3 ≤ length listed → (length (take (length listed - 3) (drop 3 listed)) ≡ 0 → ⊥)
    → asked_by premises (words listed) ≡ by_cost premises (get_or listed 0 d).now (get_or listed 1 e).now
    (get_or listed 2 f).now (words (take (length listed - 3) (drop 3 listed)))
asked_many premises [] d e f l some = absurd (omega (arith, l))
asked_many premises (a ∷ []) d e f l some = absurd (omega (arith, l))
asked_many premises (a ∷ b ∷ []) d e f l some = absurd (omega (arith, l))
asked_many premises (a ∷ b ∷ c ∷ []) d e f l some = absurd (some refl)
asked_many premises (a ∷ b ∷ c ∷ x ∷ rest) d e f l some =
    ap (λ r. by_cost premises a.now b.now c.now (words r))
    (sym (take_all (length (a ∷ b ∷ c ∷ x ∷ rest) - 3) (x ∷ rest) (omega arith)))

-- other words than two, and fewer than four
pub asked_few : (premises : List Origin) (listed : List (Bor (List ℕ))) → length listed < 3
    → (length listed ≡ 2 → ⊥) → asked_by premises (words listed) ≡ Err WrongForm
asked_few premises [] few other = refl
asked_few premises (a ∷ []) few other = refl
asked_few premises (a ∷ b ∷ []) few other = absurd (other refl)
asked_few premises (a ∷ b ∷ c ∷ rest) few other = absurd (omega (arith, few))

-- no word
abbrev pub nothing : Bor (List ℕ)
nothing = record { ref_ptr = (0, 0); now = [] }

module _ (premises : List Origin) (listed : List (Bor (List ℕ))) (l : 3 ≤ length listed)
    (some : length (take (length listed - 3) (drop 3 listed)) ≡ 0 → ⊥)
    (is : is_by_cost (get_or listed 0 nothing).now (get_or listed 2 nothing).now ≡ true) where
  pub asked_cheapest : (n : ℕ) → most (get_or listed 1 nothing).now ≡ Ok n → asked_by premises (words listed)
      ≡ cheapest_asked n (weighed premises (evenly premises) (words (take (length listed - 3) (drop 3 listed))))
  asked_cheapest n e = asked_many premises listed nothing nothing nothing l some
      ∙ by_cost_most premises (get_or listed 0 nothing).now (get_or listed 1 nothing).now
      (get_or listed 2 nothing).now (words (take (length listed - 3) (drop 3 listed))) n is e

  pub asked_none : (refusal : Refusal) → most (get_or listed 1 nothing).now ≡ Err refusal
      → asked_by premises (words listed) ≡ Err refusal
  asked_none refusal e = asked_many premises listed nothing nothing nothing l some
      ∙ by_cost_none premises (get_or listed 0 nothing).now (get_or listed 1 nothing).now
      (get_or listed 2 nothing).now (words (take (length listed - 3) (drop 3 listed))) refusal is e
