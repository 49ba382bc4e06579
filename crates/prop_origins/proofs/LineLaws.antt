-- Who waits, and who is called next.
use Rattle.std.proofs.Common.{◌≡◌, ◌+◌, ◌-◌, ◌<◌, ◌++◌, ◌⊎◌, ℕ, suc, List, [], ◌∷◌, Contains, length}
use Rattle.std.proofs.Common.{ap, arith, inl, inr}
use Rattle.std.specs.List.{range_with_len}
use Rattle.std.proofs.lemmas.List.{length-append}
use Rattle.std.proofs.lemmas.List.Elements.{All-weaker, Contains-append_left, Contains-append_right}
use Rattle.std.proofs.lemmas.List.Elements.{Contains-append_cases}
use Rattle.prop_scheduler.specs.Agendas.{AllAlerted}

-- the same with others behind
pub alerted_before : (old new js later : List ℕ) → AllAlerted old new js
    → AllAlerted (old ++ later) (new ++ later) js
alerted_before old new js later h = record {
  kept = λ k c. elim (Contains-append_cases old later k c) as (λ _. Contains (new ++ later) k) [
    | inl was ↦ Contains-append_left new later k (h.kept k was)
    | inr more ↦ Contains-append_right new later k more
  ];
  alerted = All-weaker (Contains new) (Contains (new ++ later)) (λ k c. Contains-append_left new later k c) js
      h.alerted;
  few = (
      let f = h.few in
      let n = length-append old later in
      let m = length-append new later in
      omega (arith, f, n, m)
      );
  only = λ k c. elim (Contains-append_cases new later k c) as (λ _. Contains (old ++ later) k ⊎ Contains js k) [
    | inl is ↦ elim (h.only k is) as (λ _. Contains (old ++ later) k ⊎ Contains js k) [
      | inl was ↦ inl (Contains-append_left old later k was)
      | inr told ↦ inr told
    ]
    | inr more ↦ inl (Contains-append_right old later k more)
  ];
}

-- where none waits, the next in order is the first
pub next_fresh : (waiting : List ℕ) (from to : ℕ) → length waiting ≡ 0 → from < to
    → waiting ++ range_with_len from (to - from) ≡ from ∷ (waiting ++ range_with_len (from + 1) (to - (from + 1)))
next_fresh [] from to none l =
    let n : to - from ≡ suc (to - (from + 1)) = omega (arith, l) in
    ap (λ (k : ℕ). range_with_len from k) n
next_fresh (i ∷ waiting) from to none l = absurd (omega (arith, none))
