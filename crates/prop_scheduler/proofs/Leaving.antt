-- Who waits once one has left the line.
use Rattle.std.proofs.Common.{◌≡◌, ◌∙◌, ℕ, suc, ◌+◌, ◌-◌, ◌<◌, cond, List, [], ◌∷◌, length, get_or, drop, refl, ap}
use Rattle.std.proofs.Common.{sym, arith, All, Contains, inl, inr, sum_by, swap_remove, IsPermutation}
use Rattle.std.proofs.lemmas.Bool.Decides.{eqb_tells}
use Rattle.std.proofs.lemmas.List.{get_or_default}
use Rattle.std.proofs.lemmas.List.Elements.{All-tail, Contains-push_cases, Contains-append_cases}
use Rattle.std.proofs.lemmas.List.Sorted.{IsPermutation-remove, IsPermutation-swap_remove, length_permutation}
use Rattle.std.proofs.lemmas.List.Sorted.{All-permutation, Contains-permutation, sum_by-IsPermutation}
use Rattle.std.proofs.lemmas.List.Sums.{sum_by-cons}
use Rattle.prop_scheduler.specs.Agendas.{without}

module _ (line : List ℕ) (place j : ℕ) (l : place < length line) (e : j ≡ get_or line place j) where
  -- what waited is the one that left, and what waits still
  pub parted : IsPermutation line (j ∷ without line place)
  parted =
      elim (eqb_tells place 0) as (λ _. IsPermutation line (j ∷ without line place)) [
        | inl first ↦
            (let here : 0 < length line = omega (arith, l, first.1) in
            let at_front : j ≡ get_or line 0 j = e ∙ ap (λ p. get_or line p j) first.1 in
            let is : without line place ≡ drop 1 line = ap (λ b. cond b (drop 1 line) (swap_remove line place 0)) first.0 in
            rw is (IsPermutation-remove line 0 j here at_front))
        | inr later ↦
            (let last = get_or_default line (length line - 1) 0 j (omega (arith, l)) in
            let is : without line place ≡ swap_remove line place j =
            ap (λ b. cond b (drop 1 line) (swap_remove line place 0)) later.0 ∙ rw last refl in
            rw is (IsPermutation-swap_remove line place j l e))
      ]

  pub length-without : length (without line place) + 1 ≡ length line
  length-without =
      let counted : suc (length (without line place)) ≡ length line =
      length_permutation line (j ∷ without line place) parted in
      omega (arith, counted)

  pub sum_by-without : (f : ℕ → ℕ) → sum_by f (without line place) + f j ≡ sum_by f line
  sum_by-without f =
      let all = sum_by-IsPermutation f line (j ∷ without line place) parted in
      omega (arith, all, sum_by-cons f j (without line place))

  pub All-without : (P : ℕ → Type 0) → All P line → All P (without line place)
  All-without P h = All-tail P j (without line place) (All-permutation P line (j ∷ without line place) parted h)

  pub Contains-without : (k : ℕ) → (k ≡ j → ⊥) → Contains line k → Contains (without line place) k
  Contains-without k other c =
      elim (Contains-append_cases (j ∷ []) (without line place) k
      (Contains-permutation line (j ∷ without line place) k parted c)) [
        | inl one ↦ elim (Contains-push_cases [] j k one)
            [ inl none ↦ absurd (omega (arith, none.1)) | inr same ↦ absurd (other (sym same)) ]
        | inr rest ↦ rest
      ]
