-- What a session keeps where a choice is declared and its sides are stated.
use Rattle.std.proofs.Common.{◌≡◌, ◌∙◌, ℕ, suc, Bool, true, false, nat_lt, nat_le, List, [], ◌∷◌, ◌++◌, Option, Some}
use Rattle.std.proofs.Common.{None, ◌&&◌, is_none, ◌+◌, ◌<◌, ◌≤◌, map, length, get_or, arith, refl, ap}
use Rattle.std.proofs.lemmas.Bool.{lt-leb, and_left}
use Rattle.std.proofs.lemmas.Bool.Decides.{nat_tests}
use Rattle.std.proofs.lemmas.List.Elements.{All-append, All-cons, All-contains, All-weaker, Contains-get_or}
use Rattle.std.proofs.lemmas.List.Elements.{Contains-append_left}
use Rattle.prop_refusals.specs.Refusals.{most, first_of, when}
use Rattle.prop_lattice.specs.declared.info.Info.{Info}
use Rattle.prop_refusals.specs.declared.refusal.Refusal.{Refusal}
use Rattle.prop_refusals.specs.declared.refusal.Refusal.TheVariants.{LimitReached}
use Rattle.prop_refusals.specs.declared.refusal.Limit.TheVariants.{Premises}
use Rattle.prop_numbers.specs.Sets.{Members, set_of}
use Rattle.prop_premises.specs.Origins.{premise_number}
use Rattle.prop_premises.specs.declared.choice.Choice.{Choice}
use Rattle.prop_premises.proofs.ChangeLemmas.{length-with_choice}
use Rattle.prop_procedures.specs.Stored.{Stored}
use Rattle.prop_cells.specs.declared.instance.Statement.{Statement}
use Rattle.prop_cells.specs.Problems.{Problem, Extends}
use Rattle.prop_cells.specs.Reach.{Reaches}
use Rattle.prop_cells.specs.Reach.Reaches.{stated, passed}
use Rattle.prop_cells.specs.Sides.{sides_at}
use Rattle.prop_cells.specs.Data.{Data, problem_of}
use Rattle.prop_cells.specs.Instances.{constraint_of}
use Rattle.prop_scheduler.specs.Agendas.{Waiting}
use Rattle.prop_scheduler.specs.Turns.{IsUnderWay}
use Rattle.prop_amb.specs.Refuted.{IsCovered}
use Rattle.prop_amb.specs.Search.{Stand, IsStand, IsSearch, choices_in}
use Rattle.prop_amb.specs.Moving.{declared, IsFresh}
use Rattle.prop_amb.proofs.KeepingLaws.{search_extends}
use Rattle.prop_amb.proofs.RefutedLaws.{covered_choice}
use Rattle.prop_workbench.specs.Machine.{State}
use Rattle.prop_workbench.specs.inner.Refusing.{choosing_limit, telling_limit}
use Rattle.prop_scheduler.specs.Watching.{IsWatched}
use Rattle.prop_workbench.specs.Sessions.{AreKnown, IsAtWork}

-- ---- the limits

none_of : (e : Refusal) (b : Bool) (rest : List (Option Refusal)) → first_of (when e b ∷ rest) ≡ None
    → (b ≡ false) × (first_of rest ≡ None)
none_of e true rest h = cc
none_of e false rest h = (refl, h)

-- there is room for the premises of the sides
pub room_for_sides : (s : State) (sides : ℕ) → choosing_limit s sides ≡ None
    → length s.premises + sides ≤ most Premises
room_for_sides s sides fits =
    let passed = none_of (LimitReached Premises) (nat_lt (most Premises) (length s.premises + sides)) _ fits in
    grind (arith, nat_tests, passed.0)

-- there is room for a premise with a new name
pub room_for_name : (s : State) (name : List ℕ) → premise_number s.premises name ≡ None → telling_limit s name ≡ None
    → length s.premises < most Premises
room_for_name s name new fits =
    let passed = none_of (LimitReached Premises)
    (is_none (premise_number s.premises name) && nat_le (most Premises) (length s.premises)) _ fits in
    let full : nat_le (most Premises) (length s.premises) ≡ false = rw new at passed.0 in
    grind (arith, nat_tests, full)

-- ---- the premises of the sides

reaches_known : (problem : Problem) (n p cell : ℕ) → AreKnown n problem.statements → Reaches problem p cell → p < n
reaches_known problem n p _ known (stated x is_in e) =
    All-contains (λ y. (q : ℕ) → y.premise ≡ Some q → q < n) problem.statements x known is_in p e
reaches_known problem n p _ known (passed c input is_in reads r) = reaches_known problem n p input known r

-- a choice whose sides have numbers of their own reaches nothing yet
pub fresh_choice : (problem : Problem) (n : ℕ) (choice : Choice) → choice.first ≡ n → AreKnown n problem.statements
    → IsFresh problem choice
fresh_choice problem n choice first known p cell r =
    let below = reaches_known problem n p cell known r in
    and_left (nat_le choice.first p) (nat_lt p (choice.first + choice.sides))
    (lt-leb choice.first p (omega (arith, first, below)))

sides_known : (n first cell : ℕ) (infos : List Info) → first + length infos ≤ n → AreKnown n (sides_at first cell infos)
sides_known n first cell [] l = λ k d h. absurd (omega (arith, h))
sides_known n first cell (info ∷ infos) l =
    All-cons (λ y. (p : ℕ) → y.premise ≡ Some p → p < n) (record { premise = Some first; cell = cell; info = info })
    (sides_at (suc first) cell infos) (λ p e. let same : first ≡ p = cc in omega (arith, l, same))
    (sides_known n (suc first) cell infos (omega (arith, l)))

pub known_sides : (n m first cell : ℕ) (statements : List Statement) (infos : List Info) → n ≤ m
    → first + length infos ≤ m → AreKnown n statements → AreKnown m (statements ++ sides_at first cell infos)
known_sides n m first cell statements infos l within known =
    All-append (λ y. (p : ℕ) → y.premise ≡ Some p → p < m) statements (sides_at first cell infos)
    (All-weaker (λ y. (p : ℕ) → y.premise ≡ Some p → p < n) (λ y. (p : ℕ) → y.premise ≡ Some p → p < m)
    (λ y k p e. let b = k p e in omega (arith, b, l)) statements known)
    (sides_known m first cell infos within)

-- ---- the search

extends_all : (library : List Stored) (d new : Data) (xs : List Statement)
    → new ≡ record d { statements = d.statements ++ xs; contents = new.contents }
    → Extends (problem_of library d) (problem_of library new)
extends_all library d new xs e = rw e (record {
  cells = λ c k at. at;
  statements = λ k x l. Contains-append_left d.statements xs (get_or d.statements k x)
      (Contains-get_or d.statements k x l);
  constraints = λ k y l. Contains-get_or (map (constraint_of library) d.instances) k y l;
})

-- no entry rests on a side of a choice that was just declared
pub declared_under_way : (library : List Stored) (old new : Stand) (name : List ℕ) (sides : ℕ) (d : Data)
    (agenda : Waiting) → IsAtWork library old d agenda → new ≡ declared old name sides
    → IsUnderWay library (set_of new.worldview) d agenda.line
declared_under_way library old new name sides d agenda work made =
    rw (ap (λ (s : Stand). s.worldview) made) work.under_way

pub declared_watched : (library : List Stored) (old new : Stand) (name : List ℕ) (sides : ℕ) (d : Data)
    (agenda : Waiting) → IsAtWork library old d agenda → new ≡ declared old name sides
    → IsWatched (set_of new.worldview) d agenda.watched
declared_watched library old new name sides d agenda work made = rw (ap (λ (s : Stand). s.worldview) made) work.watched

-- a search with one more choice, whose sides are stated, is at work
pub chosen_at_work : (library : List Stored) (old new : Stand) (name : List ℕ) (sides cell : ℕ) (choice : Choice)
    (infos : List Info) (d after : Data) (before waiting : Waiting) → IsAtWork library old d before →
    new ≡ declared old name sides → choice.first ≡ length old.premises → length infos ≡ sides → IsStand new
    → ((problem : Problem) → IsFresh problem choice → IsSearch problem old → IsSearch problem new) →
    after ≡ record d { statements = d.statements ++ sides_at choice.first cell infos; contents = after.contents }
    → IsUnderWay library (set_of new.worldview) after waiting.line
    → IsWatched (set_of new.worldview) after waiting.watched → IsAtWork library new after waiting
chosen_at_work library old new name sides cell choice infos d after before waiting work made first count stand search
    rest under_way watch =
    let number : length new.premises ≡ length old.premises + sides = ap (λ (s : Stand). length s.premises) made
    ∙ length-with_choice old.premises name sides in
    record {
      under_way = under_way;
      well_made = stand;
      search = search_extends (problem_of library d) (problem_of library after) new (extends_all library d after _ rest)
          (search (problem_of library d) (fresh_choice (problem_of library d) (length old.premises) choice first
          work.known) work.search);
      known = rw (ap (λ (x : Data). x.statements) rest)
          (known_sides (length old.premises) (length new.premises) choice.first cell d.statements infos
          (omega (arith, number)) (omega (arith, number, first, count)) work.known);
      watched = watch;
    }

-- one more choice takes nothing from what covers
pub chosen_covers : (old new : Stand) (choice : Choice) → choices_in new ≡ choices_in old ++ choice ∷ []
    → new.listed ≡ old.listed → (m : Members) → IsCovered (choices_in old) old.listed m
    → IsCovered (choices_in new) new.listed m
chosen_covers old new choice more same m covered =
    rw (more, same) (covered_choice (choices_in old) choice old.listed m covered)
