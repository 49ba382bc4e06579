-- One step of settling.
use Rattle.std.proofs.Common.{◌≡◌, ◌∙◌, ℕ, zero, suc, ◌<◌, ◌≤◌, ◌==◌, IsTrue, List, [], ◌∷◌, All, length}
use Rattle.std.proofs.Common.{take, get_or, slice_get, Some, true, refl, sym, ap, subst, inl, inr}
use Rattle.std.proofs.Common.{◌+◌, ◌-◌, arith}
use Rattle.std.proofs.lemmas.Bool.{cases_eq, or_cases, eqb-true, eq-eqb}
use Rattle.std.proofs.lemmas.List.Folds.{list_any_at}
use Rattle.prop_numbers.specs.Sets.{set_of}
use Rattle.prop_premises.specs.Origins.{Origin, choices_of}
use Rattle.prop_premises.specs.declared.choice.Choice.{Choice}
use Rattle.prop_premises.specs.ChoiceLists.{hypothetical, hypotheticals_of, is_hypothetical}
use Rattle.prop_premises.specs.ChoiceLists.{IsChoiceList}
use Rattle.prop_premises.specs.inner.ChoiceLists.{is_side_of}
use Rattle.prop_premises.proofs.OriginLemmas.{in_range}
use Rattle.prop_cells.specs.Problems.{Problem}
use Rattle.prop_amb.specs.Search.{Stand, IsStand, choices_in, IsKept}
use Rattle.prop_procedures.specs.Stored.{Stored}
use Rattle.prop_cells.specs.Data.{Data, problem_of}
use Rattle.prop_amb.specs.Moving.{passed_over}
use Rattle.prop_amb.specs.Resolving.{MayAdvance}
use Rattle.prop_amb.specs.Going.{Work, work, MayCall, MayGoOn, MayPass, MayBelieve, Goes}
use Rattle.prop_amb.specs.Stepping.{IsStepTo, HasPassed, Steps}
use Rattle.prop_amb.specs.inner.Refuting.{HasStepped}
use Rattle.prop_amb.specs.declared.stepping.Move.{Move}
use Rattle.prop_amb.specs.inner.Stepping.{IsMove}
use Rattle.prop_amb.specs.declared.stepping.Step.{Step}
use Rattle.prop_amb.specs.declared.stepping.Step.TheVariants.{Called, Moved, Settled, Contradiction}
use Rattle.prop_amb.proofs.SearchLaws.{both, or_true_left, or_true_right}
use Rattle.prop_amb.proofs.LookingLaws.{its_side, is_its_side}
use Rattle.prop_amb.proofs.StandLaws.{believed_user}

-- where a step may be taken and no choice may go on, it is a call
pub may_call : {O : Type 0} (w : Work O) → (MayPass w.search → ⊥) → MayGoOn w → MayCall w
may_call w none (inl call) = call
may_call w none (inr pass) = absurd (none pass)

-- what the first choices take, all do
first_taken : (cs : List Choice) (l : List ℕ) (n p : ℕ) → IsTrue (hypotheticals_of (take n cs) (take n l) p)
    → IsTrue (hypotheticals_of cs l p)
first_taken cs l zero p t = absurd (both t refl)
first_taken [] l (suc n) p t = absurd (both t refl)
first_taken (c ∷ cs) [] (suc n) p t = absurd (both t refl)
first_taken (c ∷ cs) (s ∷ l) (suc n) p t =
    elim (or_cases (hypothetical c s == p) (hypotheticals_of (take n cs) (take n l) p) t) [
      | inl e ↦ or_true_left (hypothetical c s == p) (hypotheticals_of cs l p) e
      | inr e ↦ or_true_right (hypothetical c s == p) (hypotheticals_of cs l p) (first_taken cs l n p e)
    ]

-- and what is taken is a side
taken_is_side : (cs : List Choice) (l : List ℕ) (p : ℕ) → IsChoiceList cs l → IsTrue (hypotheticals_of cs l p)
    → IsTrue (is_hypothetical cs p)
taken_is_side [] l p h t = absurd (both t refl)
taken_is_side (c ∷ cs) [] p h t = absurd h
taken_is_side (c ∷ cs) (s ∷ l) p h t =
    elim (or_cases (hypothetical c s == p) (hypotheticals_of cs l p) t) [
      | inl e ↦ subst (λ (q : ℕ). IsTrue (is_hypothetical (c ∷ cs) q)) (eqb-true (hypothetical c s) p e)
          (its_side (c ∷ cs) 0 c s refl h.0)
      | inr e ↦ or_true_right (is_side_of c p) (is_hypothetical cs p) (taken_is_side cs l p h.1 e)
    ]

set_has : (ps : List ℕ) (k d : ℕ) → k < length ps → set_of ps (get_or ps k d) ≡ true
set_has ps k d l = list_any_at (λ q. q == get_or ps k d) ps k d l (eq-eqb (get_or ps k d) (get_or ps k d) refl)

-- the premises of a reason are there
pub reason_known : (problem : Problem) (s : Stand) (j : ℕ) (choice : Choice) (side : ℕ) (reason : List ℕ) → IsStand s
    → slice_get (choices_in s) j ≡ Some choice → slice_get s.list j ≡ Some side
    → IsKept problem s j choice side (set_of reason) → All (λ p. p < length s.premises) reason
reason_known problem s j choice side reason stand choice_at side_at kept =
    λ k d l. known (get_or reason k d) (set_has reason k d l)
  where
    here : IsTrue (is_hypothetical (choices_in s) (hypothetical choice side))
    here = its_side (choices_in s) j choice side choice_at (is_its_side s j choice side (record {
      stand = stand;
      choice_at = choice_at;
      side_at = side_at;
    }))

    known : (p : ℕ) → IsTrue (set_of reason p) → p < length s.premises
    known p t = elim (cases_eq p (hypothetical choice side)) [
      | inl e ↦ rw e (stand.numbered.below (hypothetical choice side) here)
      | inr n ↦ elim (kept.beside p t n) [
        | inl u ↦ in_range s.premises p (believed_user s.premises p u)
        | inr h ↦ stand.numbered.below p (taken_is_side (choices_in s) s.list p stand.is_list
            (first_taken (choices_in s) s.list j p h))
      ]
    ]

-- a step that is no call, with the order in which instances are called
pub move_to : {O : Type 0} (picks : O → ℕ → ℕ → O → Type 0) (library : List Stored) (problem : Problem) (s new : Stand)
    (d : Data) (line after : List ℕ) (order : O) (step : Step) → IsMove problem s d line step new after
    → IsStepTo picks library problem (work s d line order) step (work new d after order)
move_to picks library problem s new d line after order (Moved m) (moved, shifted) = (moved, refl, refl, shifted)
move_to picks library problem s new d line after order (Contradiction n) (same, idle, out, blamed) =
    ((λ i. work (same i) d (idle i) order), out, blamed)
move_to picks library problem s new d line after order (Called i) h = absurd h
move_to picks library problem s new d line after order Settled h = absurd h

-- one side of one choice
pub same_side : (c d : Choice) (a b n : ℕ) → n ≡ a - 1 → c ≡ d → a ≡ b → c.first + n ≡ hypothetical d b
same_side c d a b n one same side = ap (λ m. c.first + m) one ∙ (λ i. hypothetical (same i) (side i))

-- a choice went on, and what is told of that
pub has_passed : (s new : Stand) (m : Move) → HasStepped s m.place m.nogood new
    → ((choice : Choice) (side : ℕ) → slice_get (choices_in s) m.place ≡ Some choice
    → slice_get s.list m.place ≡ Some side → m.side ≡ hypothetical choice side)
    → All (λ p. p < length s.premises) m.nogood → m.before ≡ s.worldview → HasPassed s new m
has_passed s new m (inl ((may, culprits), is)) side known before =
    let there = may.leaves.may in
    inl (record {
      may = may;
      side_is = side there.choice there.side there.choice_at there.side_at;
      culprits = culprits;
      known = known;
      later_is = is;
      before_is = before;
    })
has_passed s new m (inr (at, skip, believes)) side known before =
    let there = skip.may in
    inr (record {
      may = skip;
      place_is = at;
      side_is = side there.choice there.side
          (subst (λ k. slice_get (choices_in s) k ≡ Some there.choice) (sym at) there.choice_at)
          (subst (λ k. slice_get s.list k ≡ Some there.side) (sym at) there.side_at);
      known = known;
      later_is = believes;
      before_is = before;
    })

-- the side of a choice that may leave it is a premise
side_there : (cs : List Choice) (j : ℕ) (c : Choice) (side : ℕ) → slice_get cs j ≡ Some c → side < c.sides
    → IsTrue (is_hypothetical cs (hypothetical c side))
side_there cs j c zero at more = its_side cs j c 1 at (omega arith, omega (arith, more))
side_there cs j c (suc k) at more = its_side cs j c (suc k) at (omega arith, omega (arith, more))

left_known : (s later : Stand) (j side : ℕ) (n : List ℕ) (may : MayAdvance s j) → IsStand later
    → later.premises ≡ s.premises → side ≡ hypothetical may.choice may.side → All (λ p. p < length s.premises) n →
    (side < length later.premises) × All (λ p. p < length later.premises) n
left_known s later j side n may stand same side_is known =
    let below = stand.numbered.below in
    let small : hypothetical may.choice may.side < length later.premises =
    below (hypothetical may.choice may.side)
    (subst (λ (os : List Origin). IsTrue (is_hypothetical (choices_of os) (hypothetical may.choice may.side)))
    (sym same)
    (side_there (choices_in s) j may.choice may.side may.choice_at may.more)) in (
      omega (arith, small, side_is),
      subst (λ (os : List Origin). All (λ p. p < length os) n) (sym same) known,
    )

premises_stay : (s later : Stand) → MayBelieve s later → later.premises ≡ s.premises
premises_stay s later (inl (some, same)) = ap (λ (x : Stand). x.premises) same
premises_stay s later (inr (unless, same)) = ap (λ (x : Stand). x.premises) same

-- what is told of a choice that went on is there
pub passed_known : (s later : Stand) (m : Move) → IsStand later → HasPassed s later m
    → (m.side < length later.premises) × All (λ p. p < length later.premises) m.nogood
passed_known s later m stand (inl moved) =
    left_known s later m.place m.side m.nogood moved.may.leaves.may stand
    (ap (λ (x : Stand). x.premises) moved.later_is) moved.side_is moved.known
passed_known s later m stand (inr skipped) =
    left_known s later s.level m.side m.nogood skipped.may.may stand
    (premises_stay (passed_over s m.nogood) later skipped.later_is) skipped.side_is skipped.known

-- what took no step
pub no_steps : {O : Type 0} {picks : O → ℕ → ℕ → O → Type 0} {library : List Stored} {start w : Work O} {n : ℕ}
    → n ≤ 0 → Goes picks library start n w → Goes picks library start 0 w
no_steps {picks = picks} {library} {start} {w} {n} few goes =
    let e : n ≡ 0 = omega (arith, few) in subst (λ m. Goes picks library start m w) e goes

-- and then one, over the same library and the same problem
pub steps_then : {O L : Type 0} (picks : O → ℕ → ℕ → O → Type 0) (stored : L → List Stored) (a b : L) → b ≡ a
    → (old mid : Data) → mid ≡ record old { contents = mid.contents }
    → {start : Work O} (w : Work O) (step : Step) (v : Work O) → Goes picks (stored a) start 0 w
    → IsStepTo picks (stored b) (problem_of (stored b) mid) w step v
    → Steps picks (stored a) (problem_of (stored a) old) start step v
steps_then picks stored a b same old mid rest w step v goes taken = record {
  ready = w;
  readied = goes;
  taken = subst (λ (P : Type 0). P)
      (λ i. IsStepTo picks (stored (same i)) (problem_of (stored (same i)) (rest i)) w step v) taken;
}
