-- One list after the other: an attempt on the way, a move to a later list, and the end.
use Rattle.std.proofs.Common.{◌≡◌, ◌∙◌, ℕ, ◌+◌, ◌-◌, ◌*◌, ◌<◌, ◌≤◌, ◌⊎◌, List, length, refl, sym, ap, subst, inl, inr}
use Rattle.std.proofs.Common.{arith}
use Rattle.std.proofs.Math.Nat.{mul-le-mul_right, mul-le-mul_left, add-mul}
use Rattle.prop_numbers.specs.Sets.{set_of}
use Rattle.prop_premises.specs.declared.choice.Choice.{Choice}
use Rattle.prop_premises.specs.Origins.{Origin, choices_of}
use Rattle.prop_premises.specs.ChoiceLists.{IsChoiceList, place_of, lists_count}
use Rattle.prop_procedures.specs.Stored.{Stored}
use Rattle.prop_contents.specs.Contents.{beliefs}
use Rattle.prop_cells.specs.Problems.{Problem, IsConsistent}
use Rattle.prop_cells.specs.Data.{Data, problem_of}
use Rattle.prop_scheduler.specs.Turns.{IsUnderWay}
use Rattle.prop_scheduler.specs.Potential.{potential, most_steps}
use Rattle.prop_scheduler.specs.Shifts.{AreShifted}
use Rattle.prop_amb.specs.Refuted.{IsFirstConsistent, IsRuledOut}
use Rattle.prop_amb.specs.Search.{Stand, IsStand, IsSearch, users_of, choices_in, believed_with, Moves}
use Rattle.prop_amb.specs.Settling.{IfContradiction}
use Rattle.prop_amb.specs.Moving.{advanced, passed_over}
use Rattle.prop_amb.specs.Resolving.{MayAdvance}
use Rattle.prop_amb.specs.Culprits.{IsBlamed}
use Rattle.prop_amb.specs.Going.{work, MayBelieve, Passes}
use Rattle.prop_amb.specs.Going.Passes.{none, next as one_more, skipped as past}
use Rattle.prop_amb.specs.Going.Goes.{none as not_gone, moved}
use Rattle.prop_amb.specs.declared.outcome.Outcome.{Outcome}
use Rattle.prop_scheduler.specs.declared.outcome.Run.{Run}
use Rattle.prop_scheduler.specs.declared.outcome.Run.TheVariants.{Quiet, Spent}
use Rattle.prop_amb.proofs.Consistent.{settled_consistent}
use Rattle.prop_amb.proofs.AdvancingLaws.{advanced_is_list}
use Rattle.prop_amb.proofs.CountLaws.{place_below, earlier_place, few_within, few_in_all}
use Rattle.prop_amb.proofs.GoingLaws.{goes_then}
use Rattle.prop_amb.proofs.LevelLaws.{whole_is}
use Rattle.prop_amb.proofs.MetLaws.{believes_worldview, advanced_later}
use Rattle.prop_amb.specs.Settling.{IsResting}
use Rattle.prop_amb.specs.inner.Trying.{Attempted}
use Rattle.prop_amb.proofs.OnWay.{IsStart, OnWay, OnTry}
use Rattle.prop_amb.proofs.RunLaws.{same_problem}
use Rattle.prop_amb.proofs.SearchLaws.{kept_refute}

-- ---- numbers

-- a list that was given up after fewer steps than the most
earned_within : (further most steps calls budget : ℕ) → steps ≤ further * (most + 1) → calls < most
    → calls ≡ budget - steps → steps ≤ budget → budget + 1 < (further + 1) * (most + 1)
earned_within further most steps calls budget few c all within =
    let e = add-mul further 1 (most + 1) in
    omega (arith, e, few, c, all, within)

-- one more step fits where there is one more list
one_list_more : (further most steps : ℕ) → steps < (further + 1) * (most + 1)
    → steps + 1 < ((further + 1) + 1) * (most + 1)
one_list_more further most steps few =
    let e = add-mul (further + 1) 1 (most + 1) in
    omega (arith, e, few)

moved_few : (further more most steps moves : ℕ) → steps < (further + 1) * (most + 1) → 1 ≤ moves
    → further + moves ≤ more → steps + moves ≤ more * (most + 1)
moved_few further more most steps moves few some le =
    let all = mul-le-mul_right {m = (further + 1) + (moves - 1)} {n = more} (most + 1) (omega (arith, le, some)) in
    let parts = add-mul (further + 1) (moves - 1) (most + 1) in
    let rest = mul-le-mul_left {m = 1} {n = most + 1} (moves - 1) (omega arith) in
    omega (arith, few, all, parts, rest, some)

-- a choice that may go on goes on to a later list
later_of : (s : Stand) (choices : List Choice) (j : ℕ) → choices_in s ≡ choices → IsChoiceList choices s.list
    → MayAdvance s j →
    (IsChoiceList choices (advanced s.list j)) × (place_of choices s.list < place_of choices (advanced s.list j))
later_of s choices j same is_list may =
    let further : IsChoiceList choices (advanced s.list j) =
    subst (λ cs. IsChoiceList cs (advanced s.list j)) same (advanced_is_list s j (rw same is_list) may)
    in (
      further,
      earlier_place choices s.list (advanced s.list j) is_list further
          (advanced_later s.list j may.side may.side_at),
    )

-- whether a side is believed is no matter of the list
list_stays : (s later : Stand) → MayBelieve s later → (choices_in later ≡ choices_in s) × (later.list ≡ s.list)
list_stays s later (inl (some, same)) = (ap (λ (x : Stand). choices_in x) same, ap (λ (x : Stand). x.list) same)
list_stays s later (inr (unless, same)) = (ap (λ (x : Stand). choices_in x) same, ap (λ (x : Stand). x.list) same)

-- moves go on in the order of the lists
pub passed_place : (old new : Stand) (n : ℕ) → IsChoiceList (choices_in old) old.list → Passes old n new
    → (choices_in new ≡ choices_in old) × IsChoiceList (choices_in old) new.list
    × (place_of (choices_in old) old.list + n ≤ place_of (choices_in old) new.list)
passed_place old _ _ is_list none = (refl, is_list, omega arith)
passed_place old _ _ is_list (one_more n j s later reason rest may culprits same) =
    let before = passed_place old s n is_list rest in
    let choices : choices_in later ≡ choices_in old = ap (λ (x : Stand). choices_in x) same ∙ before.0 in
    let list : later.list ≡ advanced s.list j = ap (λ (x : Stand). x.list) same in
    let next = later_of s (choices_in old) j before.0 before.1 may.leaves.may in
    let is_list' : IsChoiceList (choices_in old) later.list = rw list next.0 in
    let less : place_of (choices_in old) s.list < place_of (choices_in old) later.list = rw list next.1 in
    (choices, is_list', omega (arith, before.2, less))
passed_place old _ _ is_list (past n s later nogood rest may believes) =
    let before = passed_place old s n is_list rest in
    let same = list_stays (passed_over s nogood) later believes in
    let choices : choices_in later ≡ choices_in old = same.0 ∙ before.0 in
    let list : later.list ≡ advanced s.list s.level = same.1 in
    let next = later_of s (choices_in old) s.level before.0 before.1 may.may in
    let is_list' : IsChoiceList (choices_in old) later.list = rw list next.0 in
    let less : place_of (choices_in old) s.list < place_of (choices_in old) later.list = rw list next.1 in
    (choices, is_list', omega (arith, before.2, less))

-- cells whose contents alone differ pose one problem
pub same_in : (library : List Stored) (start d : Data) → d ≡ record start { contents = d.contents }
    → problem_of library d ≡ problem_of library start
same_in library start d rest = λ i. problem_of library (rest i)

-- what an attempt and a run leave as it was
pub rest_on : (start d new : Data) → d ≡ record start { contents = d.contents }
    → new ≡ record d { contents = new.contents } → new ≡ record start { contents = new.contents }
rest_on start d new first then = then ∙ (λ i. record (first i) { contents = new.contents })

pub premises_in : (s new : Stand) → new ≡ record s { level = new.level; listed = new.listed; worldview = new.worldview }
    → new.premises ≡ s.premises
premises_in s new only = λ i. (only i).premises

-- ---- the library stays

pub search_in : {L : Type 0} (stored : L → List Stored) (a b : L) (start d : Data) (s : Stand) → b ≡ a
    → d ≡ record start { contents = d.contents } → IsSearch (problem_of (stored b) d) s
    → IsSearch (problem_of (stored a) start) s
search_in stored a b start d s same rest h = subst (λ p. IsSearch p s) (same_problem stored a b start d same rest) h

pub search_from : {L : Type 0} (stored : L → List Stored) (a b : L) (start d : Data) (s : Stand) → b ≡ a
    → d ≡ record start { contents = d.contents } → IsSearch (problem_of (stored a) start) s
    → IsSearch (problem_of (stored b) d) s
search_from stored a b start d s same rest h =
    subst (λ p. IsSearch p s) (sym (same_problem stored a b start d same rest)) h

pub attempted_in : {L O : Type 0} (stored : L → List Stored) (a b : L) (picks : O → ℕ → ℕ → O → Type 0) (s : Stand)
    (d : Data) (waiting : List ℕ) (order : O) (budget : ℕ) (tried : Run) (calls : ℕ) (new : Stand) (cells : Data)
    (after : List ℕ) (next : O) → b ≡ a →
    Attempted picks (stored b) s d waiting order budget tried calls new cells after next
    → Attempted picks (stored a) s d waiting order budget tried calls new cells after next
attempted_in stored a b picks s d waiting order budget tried calls new cells after next same h =
    subst (λ l. Attempted picks (stored l) s d waiting order budget tried calls new cells after next) same h

pub contradiction_in : {L : Type 0} (stored : L → List Stored) (a b : L) (start d : Data) (s new : Stand)
    (outcome : Outcome) → b ≡ a → d ≡ record start { contents = d.contents } → new ≡ s →
    IfContradiction outcome (λ n. IsRuledOut (problem_of (stored b) d) (users_of s) (choices_in s) s.listed (set_of n))
    → IfContradiction outcome (λ n. IsRuledOut (problem_of (stored a) start) (users_of new) (choices_in new)
    new.listed (set_of n))
contradiction_in stored a b start d s new outcome same rest as_was h =
    subst (λ (x : Stand). IfContradiction outcome
    (λ n. IsRuledOut (problem_of (stored a) start) (users_of x) (choices_in x) x.listed (set_of n))) (sym as_was)
    (subst (λ p. IfContradiction outcome (λ n. IsRuledOut p (users_of s) (choices_in s) s.listed (set_of n)))
    (same_problem stored a b start d same rest) h)

pub blamed_in : (s new : Stand) (outcome : Outcome) → new ≡ s → IfContradiction outcome (λ n. IsBlamed s (set_of n))
    → IfContradiction outcome (λ n. IsBlamed new (set_of n))
blamed_in s new outcome as_was h = subst (λ (x : Stand). IfContradiction outcome (λ n. IsBlamed x (set_of n)))
    (sym as_was) h

module _ {O : Type 0} (picks : O → ℕ → ℕ → O → Type 0) (library : List Stored) (old : Stand) (start : Data)
    (line : List ℕ) (first : O) where
  abbrev choices : List Choice
  choices = choices_in old

  abbrev problem : Problem
  problem = problem_of library start

  -- ---- the start

  pub at_start : IsSearch (problem_of library start) old → IsUnderWay library (set_of old.worldview) start line
      → OnWay picks library old start line first old start line first 0
  at_start learned under_way = record {
    premises = refl;
    listed = λ m t. t;
    search = learned;
    rest = refl;
    under_way = under_way;
    gone = not_gone;
    further = 0;
    place = omega arith;
    few = omega arith;
    since = inl (record { stand = refl; cells = refl; waits = refl; none = refl });
  }

  -- ---- an attempt

  -- no list further on is the first one
  not_further : (s : Stand) (further : ℕ) → place_of choices s.list ≡ place_of choices old.list + further → 1 ≤ further
      → s.list ≡ old.list → ⊥
  not_further s further place one same =
      let e : place_of choices s.list ≡ place_of choices old.list = ap (place_of choices) same in
      omega (arith, place, one, e)

  pub after_try : (s : Stand) (d : Data) (waiting : List ℕ) (order : O) (steps budget : ℕ) (tried : Run) (calls : ℕ)
      (new : Stand) (cells : Data) (after : List ℕ) (next : O)
      → OnWay picks library old start line first s d waiting order steps → steps ≤ budget →
      Attempted picks library s d waiting order (budget - steps) tried calls new cells after next
      → OnTry picks library old start line first new cells after next (steps + calls) budget tried
  after_try s d waiting order steps budget tried calls new cells after next way within a =
      let e : problem_of library d ≡ problem = same_in library start d way.rest in
      let few : calls ≤ most_steps problem = subst (λ p. calls ≤ most_steps p) e a.few in
      record {
        premises = premises_in s new a.only ∙ way.premises;
        listed = λ m t. a.kept m (way.listed m t);
        search = subst (λ p. IsSearch p new) e a.search;
        stand = a.stand;
        rest = rest_on start d cells way.rest a.rest;
        under_way = a.under_way;
        gone = goes_then way.gone a.gone;
        further = way.further;
        place = ap (λ (x : Stand). place_of choices x.list) a.only ∙ way.place;
        few = few_within way.further (most_steps problem) steps calls way.few few;
        quiet = a.quiet;
        full = a.full;
        rests = a.rests;
        spent = λ q. all q (a.spent q);
        leaves = a.leaves;
        earned = λ q. earned_within way.further (most_steps problem) steps calls budget way.few
            (subst (λ p. calls < most_steps p) e (a.earned q)) (a.spent q) within;
        within = (let x = a.steps in omega (arith, x, within));
        at_rest = λ r. stays r way.since;
        falls = λ same. fall e (ap (λ (x : Stand). x.list) (sym a.only) ∙ same) way.since;
      }
    where
      all : tried ≡ Spent → calls ≡ budget - steps → steps + calls ≡ budget
      all q x = omega (arith, x, within)

      stays : IsResting old start line → IsStart old s start d line waiting steps
          ⊎ ((1 ≤ way.further) × (IsResting old start line → ⊥)) → (tried ≡ Quiet) × (steps + calls ≡ 0)
      stays r (inl x) =
          let here : IsResting s d waiting = rw (x.stand, x.cells, x.waits) r in
          let y : (tried ≡ Quiet) × (calls ≡ 0) = a.at_rest here in
          (y.0, omega (arith, y.1, x.none))
      stays r (inr x) = absurd (x.1 r)

      fall : problem_of library d ≡ problem → s.list ≡ old.list
          → IsStart old s start d line waiting steps ⊎ ((1 ≤ way.further) × (IsResting old start line → ⊥)) →
          potential problem (beliefs (set_of new.worldview) cells.contents) after + (steps + calls) ≤ potential problem
          (beliefs (set_of old.worldview) start.contents) line
      fall e same (inl x) =
          let h : potential problem (beliefs (set_of new.worldview) cells.contents) after + calls ≤ potential problem
          (beliefs (set_of old.worldview) start.contents) line =
          rw (x.stand, x.cells, x.waits) at a.falls in
          omega (arith, h, x.none)
      fall e same (inr x) = absurd (not_further s way.further way.place x.0 same)

  -- ---- a move

  in_old : (s : Stand) → s.premises ≡ old.premises → IsStand s → IsChoiceList choices s.list
  in_old s same stand = subst (λ (o : List Origin). IsChoiceList (choices_of o) s.list) same stand.is_list

  pub after_move : (s : Stand) (d : Data) (waiting : List ℕ) (order : O) (steps budget : ℕ) (tried : Run)
      (new : Stand) (after : List ℕ) (moves : ℕ)
      → OnTry picks library old start line first s d waiting order steps budget tried →
      (tried ≡ Quiet → ⊥) → new.premises ≡ s.premises → new.listed ≡ s.listed → IsSearch (problem_of library d) new
      → IsUnderWay library (set_of new.worldview) d after →
      1 ≤ moves → Passes s moves new → AreShifted (believed_with s) (believed_with new) d (length d.kinds) waiting after
      → OnWay picks library old start line first new d after order (steps + moves)
  after_move s d waiting order steps budget tried new after moves t restless same_premises same_listed learned under_way
      some passes shifted =
      let less : place_of choices s.list + moves ≤ place_of choices new.list =
      rw (ap (λ (o : List Origin). choices_of o) t.premises) at (passed_place s new moves t.stand.is_list passes).2
      in
      record {
        premises = same_premises ∙ t.premises;
        listed = λ m x. rw same_listed (t.listed m x);
        search = subst (λ p. IsSearch p new) (same_in library start d t.rest) learned;
        rest = t.rest;
        under_way = under_way;
        gone = moved steps moves (work s d waiting order) new after t.gone passes shifted;
        further = place_of choices new.list - place_of choices old.list;
        place = omega (arith, t.place, less);
        few = moved_few t.further (place_of choices new.list - place_of choices old.list) (most_steps problem) steps
            moves t.few some (omega (arith, t.place, less));
        since = inr (omega (arith, t.place, less, some), λ r. restless (t.at_rest r).0);
      }

  -- ---- the end

  pub ended : (s : Stand) (d : Data) (waiting : List ℕ) (order : O) (steps budget : ℕ) (tried : Run) (new : Stand)
      (after : List ℕ) → OnTry picks library old start line first s d waiting order steps budget tried → new ≡ s
      → after ≡ waiting →
      OnTry picks library old start line first new d after order steps budget tried
  ended s d waiting order steps budget tried new after t same same_line = rw (same, same_line) t

  module _ (s : Stand) (d : Data) (waiting : List ℕ) (order : O) (steps budget : ℕ) (tried : Run)
      (t : OnTry picks library old start line first s d waiting order steps budget tried) where
    same_choices : choices_in s ≡ choices
    same_choices = ap (λ (o : List Origin). choices_of o) t.premises

    pub first_consistent : tried ≡ Quiet
        → IsFirstConsistent (problem_of library start) (users_of s) (choices_in s) s.list
    first_consistent q = record {
      is_list = t.stand.is_list;
      consistent = subst (λ w. IsConsistent problem w) (believes_worldview s t.stand ∙ whole_is s (t.full q))
          (subst (λ p. IsConsistent p (set_of s.worldview)) (same_in library start d t.rest)
          (settled_consistent library (set_of s.worldview) d (t.quiet q)));
      earlier = kept_refute problem s t.stand t.search.reasons;
    }

    pub all_moves : Moves (problem_of library start) (choices_in s) old.list s.list steps
    all_moves = record { further = t.further; place = rw same_choices t.place; few = t.few }

    below_all : place_of choices s.list < lists_count choices
    below_all = place_below choices s.list (in_old s t.premises t.stand)

    in_all : budget + 1 < lists_count choices * (most_steps problem + 1)
        → budget + 1 < lists_count (choices_in s) * (most_steps (problem_of library start) + 1)
    in_all h = rw same_choices h

    pub spent_earned : tried ≡ Spent → budget + 1 < lists_count
        (choices_in s) * (most_steps (problem_of library start) + 1)
    spent_earned q = in_all (few_in_all t.further (place_of choices old.list) (lists_count choices) (most_steps problem)
        (budget + 1) (t.earned q) (omega (arith, below_all, t.place)))

    -- the same where a choice may go on to a list that could be tried
    pub held_earned : budget ≤ steps → (j : ℕ) → MayAdvance s j
        → budget + 1 < lists_count (choices_in s) * (most_steps (problem_of library start) + 1)
    held_earned used j may =
        let next = later_of s choices j same_choices (in_old s t.premises t.stand) may in
        let less = next.1 in
        let last : place_of choices (advanced s.list j) < lists_count choices =
        place_below choices (advanced s.list j) next.0 in
        let one = one_list_more t.further (most_steps problem) steps t.few in
        let within = t.within in
        let few : budget + 1 < ((t.further + 1) + 1) * (most_steps problem + 1) = omega (arith, one, used) in
        in_all (few_in_all (t.further + 1) (place_of choices old.list) (lists_count choices) (most_steps problem)
        (budget + 1) few (omega (arith, less, last, t.place)))
