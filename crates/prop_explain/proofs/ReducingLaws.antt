-- What a run over some premises tells of what they entail.
use Rattle.std.proofs.Common.{◌≡◌, ◌∙◌, ◌+◌, ◌-◌, ◌*◌, ◌≤◌, ◌++◌, ◌∷◌, [], ℕ, List, IsTrue, Option, Some}
use Rattle.std.proofs.Common.{None, get_or, length, refl, sym, ap, subst, arith}
use Rattle.prop_lattice.specs.declared.info.Info.{Info}
use Rattle.prop_lattice.specs.Order.{Below}
use Rattle.prop_lattice.specs.laws.OrderLaws.{info_laws}
use Rattle.prop_numbers.specs.Sets.{Members, IsPart, set_of, without}
use Rattle.prop_procedures.specs.Stored.{Stored}
use Rattle.prop_contents.specs.Contents.{beliefs}
use Rattle.prop_cells.specs.Problems.{Problem, Assignment, IsSolution, Entails, IsConsistent}
use Rattle.prop_cells.specs.Problems.{is_member}
use Rattle.prop_cells.specs.inner.Problems.{Meets}
use Rattle.prop_cells.specs.Reach.{IsConflict}
use Rattle.prop_cells.specs.Data.{Data, problem_of}
use Rattle.prop_scheduler.specs.Agendas.{Waiting}
use Rattle.prop_scheduler.specs.Potential.{most_steps}
use Rattle.prop_cells.proofs.Keeping.{All-at}
use Rattle.prop_scheduler.specs.Shifts.{AreShifted}
use Rattle.prop_scheduler.specs.Turns.{IsSettled, IsUnderWay}
use Rattle.prop_scheduler.specs.Watching.{IsWatched}
use Rattle.prop_scheduler.specs.Live.{IsReady}
use Rattle.prop_explain.specs.inner.Ready.{Called, StaysReady}
use Rattle.prop_explain.specs.Trying.{TriesOf, last_of}
use Rattle.prop_explain.specs.Trying.TriesOf.{tried}
use Rattle.prop_explain.proofs.TryingLaws.{AreHeld, few_more, held_next, lacks_itself, next_believed, next_held}

-- at rest, what is entailed is below what is believed
pub settled_below : (library : List Stored) (s : Members) (d : Data) (cell : ℕ) (v : Info) → IsSettled library s d
    → Entails (problem_of library d) s cell v → Below v (beliefs s d.contents cell)
settled_below library s d cell v settled e = e.below (beliefs s d.contents) settled.least.solves

-- and entailed where it is no more than that
pub settled_entails : (library : List Stored) (s : Members) (d : Data) (cell : ℕ) (v : Info) → IsSettled library s d
    → Below v (beliefs s d.contents cell) → Entails (problem_of library d) s cell v
settled_entails library s d cell v settled less = record {
  below = λ a sol. info_laws.transitive v (beliefs s d.contents cell) (a cell) less
      ((settled.least.least cell).below a sol);
}

member_more : (s t : Members) → IsPart s t → (p : Option ℕ) → IsTrue (is_member s p) → IsTrue (is_member t p)
member_more s t part None h = refl
member_more s t part (Some p) h = part p h

solution_fewer : (problem : Problem) (s t : Members) (a : Assignment) → IsPart s t → IsSolution problem t a
    → IsSolution problem s a
solution_fewer problem s t a part sol = record {
  kinds = sol.kinds;
  statements = λ k d l h. sol.statements k d l (member_more s t part (get_or problem.statements k d).premise h);
  instances = sol.instances;
}

-- fewer premises than consistent ones are consistent, and no conflict lies among them
pub consistent_fewer : (problem : Problem) (s t : Members) → IsPart s t → IsConsistent problem t
    → IsConsistent problem s
consistent_fewer problem s t part c =
    record { solution = c.solution; solves = solution_fewer problem s t c.solution part c.solves; free = c.free }

pub no_conflict : (problem : Problem) (s n : Members) → IsConsistent problem s → IsConflict problem s n → ⊥
no_conflict problem s n c conflict = conflict.contradictory (consistent_fewer problem n s conflict.part c)

-- a network whose cells hold other things is the same problem
pub same_problem : (library library' : List Stored) (start new : Data) → library' ≡ library
    → new ≡ record start { contents = new.contents } → problem_of library' new ≡ problem_of library start
same_problem library library' start new same rest = λ i. problem_of (same i) (rest i)

-- ---- one try after another

-- a network in which nothing was tried is ready as it was
pub as_ready : (library : List Stored) (d : Data) (agenda : Waiting) → IsReady library d agenda
    → StaysReady library d d agenda
as_ready library d agenda ready = record { rest = refl; ready = ready }

-- what a try leaves of what another left
pub stays_then : (library : List Stored) (old middle new : Data) (between after : Waiting)
    → StaysReady library old middle between → StaysReady library middle new after → StaysReady library old new after
stays_then library old middle new between after first then = record {
  rest = then.rest ∙ (λ i. record (first.rest i) { contents = new.contents });
  ready = then.ready;
}

-- the instances that were called in so many steps, each premise of the list having been tried and the rest not, the
-- last in the worldview t, and the network that this left
pub record HasTried {O : Type 0} (picks : O → ℕ → ℕ → O → Type 0) (library : List Stored) (why : Members) (start : Data)
    (before : Waiting) (first : O) (budget : ℕ) (ps rest : List ℕ) (s t : Members) (steps : ℕ) (d : Data)
    (agenda : Waiting) (order : O) : Type 0 where
  pub left : StaysReady library start d agenda
  pub within : steps ≤ budget
  pub few : steps ≤ length ps * most_steps (problem_of library start)
  pub sets : List Members
  pub last : t ≡ last_of why sets
  pub tries : TriesOf picks library why start before.line first sets steps d agenda.line order
  pub held : AreHeld why sets s rest

-- without the next premise what is left is tried, in so many calls
abbrev pub tried_on : {O : Type 0} {picks : O → ℕ → ℕ → O
    → Type 0} {start d : Data} {line now rest : List ℕ} {first order next : O} {why s : Members} {steps calls : ℕ}
    (library : List Stored) (p : ℕ) (t less : Members) (new : Data) (after : List ℕ) (sets : List Members)
    → less ≡ without s p → t ≡ last_of why sets →
    TriesOf picks library why start line first sets steps d now order → AreHeld why sets s (p ∷ rest)
    → IsPart less why → Called picks library t less d now order calls new after next
    → TriesOf picks library why start line first (less ∷ sets) (steps + calls) new after next
tried_on {d} {now} {rest} {why} {s} library p t less new after sets is last tries held part called =
    tried sets _ _ less p _ new _ called.0 after _ _ part (next_believed p rest held)
    (ap (λ (u : Members). u p) is ∙ lacks_itself s p) (next_held p rest held) tries
    (subst (λ (u : Members). AreShifted u less d (length d.kinds) now called.0) last called.1) called.2

-- one premise more was tried: the network was run without it
pub one_more : {O : Type 0} {picks : O → ℕ → ℕ → O
    → Type 0} {new : Data} {before agenda after : Waiting} {first order next : O} {why s : Members} {budget : ℕ}
    (library : List Stored) (start d : Data) (ps rest : List ℕ) (p steps calls : ℕ) (t less now : Members)
    → less ≡ without s p → HasTried picks library why start before first budget ps (p ∷ rest) s t steps d agenda order →
    IsPart less why → IsPart (set_of rest) now → StaysReady library d new after → calls ≤ budget - steps
    → calls ≤ most_steps (problem_of library d)
    → Called picks library t less d agenda.line order calls new after.line next →
    HasTried picks library why start before first budget (ps ++ p ∷ []) rest now less (steps + calls) new after next
one_more {why} library start d ps rest p steps calls t less now is so_far part holds left within falls called = record {
  left = stays_then library start d _ _ _ so_far.left left;
  within = omega (arith, within, so_far.within);
  few = few_more ps p (most_steps (problem_of library start)) steps calls so_far.few
      (subst (λ (q : Problem). calls ≤ most_steps q) (same_problem library library start d refl so_far.left.rest)
      falls);
  sets = less ∷ so_far.sets;
  last = refl;
  tries = tried_on library p t less _ _ so_far.sets is so_far.last so_far.tries so_far.held part called;
  held = subst (λ (u : Members). AreHeld why (u ∷ so_far.sets) now rest) (sym is)
      (held_next p rest so_far.held now holds);
}

-- ---- a network at rest is under way

pub under_way_at_rest : (library : List Stored) (s : Members) (d : Data) (agenda : Waiting) → IsReady library d agenda
    → IsSettled library s d → IsUnderWay library s d agenda.line
under_way_at_rest library s d agenda ready settled = record {
  kept = ready.kept;
  line_below = ready.line;
  met = record {
    met = λ j c at waits. All-at (Meets (beliefs s d.contents)) (problem_of library d).constraints j c
        settled.least.solves.instances at;
  };
}

pub watched_at_rest : (library : List Stored) (s : Members) (d : Data) (agenda : Waiting) → IsReady library d agenda
    → IsSettled library s d → IsWatched s d agenda.watched
watched_at_rest library s d agenda ready settled = record {
  below = ready.watched;
  holds = λ cell clash. absurd (settled.free cell clash);
}
