-- What waits where something else is believed.
use Rattle.std.proofs.Common.{◌≡◌, ◌≢◌, ◌∙◌, ◌<◌, ◌≤◌, ◌⊎◌, ◌==◌, ◌+◌, ◌-◌, ℕ, zero, suc, Bool, true, false, cond}
use Rattle.std.proofs.Common.{List, [], ◌∷◌, ◌++◌, All, Contains, refl, sym, subst, arith, inl, inr}
use Rattle.std.specs.List.{list_any}
use Rattle.std.proofs.lemmas.Bool.{eqb-true}
use Rattle.std.proofs.lemmas.Bool.Decides.{eqb_tells}
use Rattle.std.proofs.lemmas.List.Elements.{All-nil, All-cons, All-weaker, Contains-append_left, Contains-push}
use Rattle.std.proofs.lemmas.List.Elements.{Contains-push_cases, All-head, All-tail, All-contains, All-contains_itself}
use Rattle.std.proofs.lemmas.Map.Views.{Contains-from_any}
use Rattle.prop_lattice.specs.Order.{Below}
use Rattle.prop_lattice.specs.declared.info.Info.{Info}
use Rattle.prop_lattice.specs.laws.OrderLaws.{info_laws}
use Rattle.prop_numbers.specs.Sets.{is_within}
use Rattle.prop_contents.specs.Contents.{beliefs, support_of}
use Rattle.prop_cells.specs.declared.instance.Statement.{Statement}
use Rattle.prop_cells.specs.inner.Problems.{Premises}
use Rattle.prop_cells.specs.Data.{Data, States}
use Rattle.prop_cells.proofs.Adding.{adds_merges}
use Rattle.prop_scheduler.specs.Agendas.{alerted, all_alerted}
use Rattle.prop_scheduler.specs.Shifts.{Stirs}
use Rattle.prop_scheduler.specs.Shifts.Stirs.{none, as_before, stirred}

-- ---- the line after alerts

alert_kept : (line : List ℕ) (j k : ℕ) → Contains line k → Contains (alerted line j) k
alert_kept line j k w = by (list_any (λ i. i == j) line)
  where
    by : (b : Bool) → Contains (cond b line (line ++ j ∷ [])) k
    by true = w
    by false = Contains-append_left line (j ∷ []) k w

alert_here : (line : List ℕ) (j : ℕ) → Contains (alerted line j) j
alert_here line j = by (list_any (λ i. i == j) line) refl
  where
    by : (b : Bool) → list_any (λ i. i == j) line ≡ b → Contains (cond b line (line ++ j ∷ [])) j
    by true waits = Contains-from_any {K = ℕ} {eq = λ q k. k == q} (λ x y e. sym (eqb-true y x e)) j line waits
    by false waits = Contains-push line j

alert_only : (line : List ℕ) (j k : ℕ) → Contains (alerted line j) k → Contains line k ⊎ (j ≡ k)
alert_only line j k = by (list_any (λ i. i == j) line)
  where
    by : (b : Bool) → Contains (cond b line (line ++ j ∷ [])) k → Contains line k ⊎ (j ≡ k)
    by true w = inl w
    by false w = Contains-push_cases line j k w

-- each that waited waits
pub alerts_kept : (line js : List ℕ) (k : ℕ) → Contains line k → Contains (all_alerted line js) k
alerts_kept line [] k w = w
alerts_kept line (j ∷ js) k w = alerts_kept (alerted line j) js k (alert_kept line j k w)

-- and each that is alerted
pub alerts_here : (line js : List ℕ) → All (Contains (all_alerted line js)) js
alerts_here line [] = All-nil (Contains line)
alerts_here line (j ∷ js) =
    All-cons (Contains (all_alerted (alerted line j) js)) j js
    (alerts_kept (alerted line j) js j (alert_here line j)) (alerts_here (alerted line j) js)

-- and no other
pub alerts_only : (line js : List ℕ) (k : ℕ) → Contains (all_alerted line js) k → Contains line k ⊎ Contains js k
alerts_only line [] k w = inl w
alerts_only line (j ∷ js) k w = elim (alerts_only (alerted line j) js k w) as (λ _. Contains line k
    ⊎ Contains (j ∷ js) k) [
      | inl here ↦ elim (alert_only line j k here) as (λ _. Contains line k ⊎ Contains (j ∷ js) k) [
        | inl was ↦ inl was
        | inr is ↦ inr (rw (← is) (All-head (Contains (j ∷ js)) j js (All-contains_itself (j ∷ js))))
      ]
      | inr later ↦ inr (All-contains (Contains (j ∷ js)) js k
          (All-tail (Contains (j ∷ js)) j js (All-contains_itself (j ∷ js))) later)
    ]

-- ---- the line once cells were gone through

module _ (wakes : ℕ → List ℕ) (s t : Premises) (old new : Data) (line : List ℕ) where
  -- each that waited waits
  pub stirs_kept : (n : ℕ) (later : List ℕ) → Stirs wakes s t old new line n later → (j : ℕ) → Contains line j
      → Contains later j
  stirs_kept _ _ none j w = w
  stirs_kept _ _ (as_before n later h e) j w = stirs_kept n later h j w
  stirs_kept _ _ (stirred n later h other) j w = alerts_kept later (wakes n) j (stirs_kept n later h j w)

  -- of each cell is believed what was, or those that it wakes wait
  pub stirs_waits : (n : ℕ) (later : List ℕ) → Stirs wakes s t old new line n later → (cell : ℕ) → cell < n
      → (beliefs s old.contents cell ≡ beliefs t new.contents cell) ⊎ All (Contains later) (wakes cell)
  stirs_waits _ _ none cell l = absurd (omega (arith, l))
  stirs_waits _ _ (as_before n later h e) cell l = elim (eqb_tells cell n) as (λ _.
      (beliefs s old.contents cell ≡ beliefs t new.contents cell) ⊎ All (Contains later) (wakes cell)) [
        | inl is ↦ inl (rw is.1 e)
        | inr not ↦ stirs_waits n later h cell (let ne = not.1 in omega (arith, l, ne))
      ]
  stirs_waits _ _ (stirred n later h other) cell l = elim (eqb_tells cell n) as (λ _.
      (beliefs s old.contents cell ≡ beliefs t new.contents cell)
      ⊎ All (Contains (all_alerted later (wakes n))) (wakes cell)) [
        | inl is ↦ inr (rw is.1 (alerts_here later (wakes n)))
        | inr not ↦ elim (stirs_waits n later h cell (let ne = not.1 in omega (arith, l, ne))) as (λ _.
            (beliefs s old.contents cell ≡ beliefs t new.contents cell)
            ⊎ All (Contains (all_alerted later (wakes n))) (wakes cell)) [
              | inl alike ↦ inl alike
              | inr all ↦ inr (All-weaker (Contains later) (Contains (all_alerted later (wakes n)))
                  (λ j w. alerts_kept later (wakes n) j w) (wakes cell) all)
            ]
      ]

  -- no other waits than those that waited and those that some cell wakes
  pub stirs_only : (n : ℕ) (later : List ℕ) → Stirs wakes s t old new line n later → (j : ℕ) → Contains later j
      → Contains line j ⊎ ((cell : ℕ) × Contains (wakes cell) j)
  stirs_only _ _ none j w = inl w
  stirs_only _ _ (as_before n later h e) j w = stirs_only n later h j w
  stirs_only _ _ (stirred n later h other) j w = elim (alerts_only later (wakes n) j w) as (λ _. Contains line j
      ⊎ ((cell : ℕ) × Contains (wakes cell) j)) [
        | inl before ↦ stirs_only n later h j before
        | inr woken ↦ inr (n, woken)
      ]

  stirs_by : (n k : ℕ) (later : List ℕ) → Stirs wakes s t old new line n later
      → ((cell : ℕ) → n ≤ cell → cell < n + k → beliefs s old.contents cell ≡ beliefs t new.contents cell)
      → Stirs wakes s t old new line (n + k) later
  stirs_by n zero later h alike =
      let e : n ≡ n + 0 = omega arith in subst (λ m. Stirs wakes s t old new line m later) e h
  stirs_by n (suc k) later h alike =
      let e : n + k + 1 ≡ n + suc k = omega arith in
      subst (λ m. Stirs wakes s t old new line m later) e
      (as_before (n + k) later (stirs_by n k later h (λ cell from below. alike cell from (omega (arith, below))))
      (alike (n + k) (omega arith) (omega arith)))

  -- of further cells is believed what was
  pub stirs_on : (n m : ℕ) (later : List ℕ) → Stirs wakes s t old new line n later → n ≤ m
      → ((cell : ℕ) → n ≤ cell → cell < m → beliefs s old.contents cell ≡ beliefs t new.contents cell)
      → Stirs wakes s t old new line m later
  stirs_on n m later h l alike =
      let e : n + (m - n) ≡ m = omega (arith, l) in
      subst (λ k. Stirs wakes s t old new line k later) e
      (stirs_by n (m - n) later h (λ cell from below. alike cell from (omega (arith, below, l))))

  -- of every cell is
  pub stirs_none : (n : ℕ) → ((cell : ℕ) → beliefs s old.contents cell ≡ beliefs t new.contents cell)
      → Stirs wakes s t old new line n line
  stirs_none n alike = stirs_on 0 n line none (omega arith) (λ cell from below. alike cell)

  -- of every cell but one is
  pub stirs_one : (n cell : ℕ) → cell < n → beliefs s old.contents cell ≢ beliefs t new.contents cell
      → ((c : ℕ) → c ≢ cell → beliefs s old.contents c ≡ beliefs t new.contents c)
      → Stirs wakes s t old new line n (all_alerted line (wakes cell))
  stirs_one n cell l other alike =
      stirs_on (cell + 1) n (all_alerted line (wakes cell))
      (stirred cell line (stirs_on 0 cell line none (omega arith)
      (λ c from below. alike c (λ e. omega (arith, below, e)))) other) (omega (arith, l))
      (λ c from below. alike c (λ e. omega (arith, from, e)))

-- what is stated says more of its cell
pub states_more : (s : Premises) (d new : Data) (x : Statement) → States d new x
    → is_within s (support_of x.premise) ≡ true → (Below x.info (beliefs s d.contents x.cell) → ⊥)
    → beliefs s d.contents x.cell ≢ beliefs s new.contents x.cell
states_more s d new x states on more same =
    let known = beliefs s d.contents x.cell in
    let merged = (adds_merges d.contents new.contents x.cell (record { value = x.info; support = support_of x.premise })
    states.adds s on).merged in
    more (subst (λ (v : Info). Below x.info v) (sym (same ∙ merged)) (info_laws.least_above known x.info).above_second)

-- who believes the same of the cells as they were stirs the same
pub stirs_from : (wakes : ℕ → List ℕ) (s mid t : Premises) (old new : Data) (line : List ℕ) (n : ℕ) (later : List ℕ)
    → beliefs mid old.contents ≡ beliefs s old.contents → Stirs wakes mid t old new line n later
    → Stirs wakes s t old new line n later
stirs_from wakes s mid t old new line _ _ alike none = none
stirs_from wakes s mid t old new line _ _ alike (as_before n later h e) =
    as_before n later (stirs_from wakes s mid t old new line n later alike h) ((λ i. sym alike i n) ∙ e)
stirs_from wakes s mid t old new line _ _ alike (stirred n later h other) =
    stirred n later (stirs_from wakes s mid t old new line n later alike h) (λ e. other ((λ i. alike i n) ∙ e))
