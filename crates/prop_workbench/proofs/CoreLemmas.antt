-- What is said of a core.
use Rattle.std.proofs.Common.{◌≡◌, ◌∙◌, ◌<◌, ◌≤◌, ◌+◌, ◌-◌, ◌*◌, ℕ, List, [], ◌∷◌, All, Some, codes, length, ap, arith}
use Rattle.std.proofs.Common.{refl, subst}
use Rattle.std.specs.List.{AllByRecursion}
use Rattle.std.proofs.Math.Nat.{mul-le-mul_right}
use Rattle.std.proofs.lemmas.List.Elements.{recursion_from_All}
use Rattle.std.specs.List.Sorted.{IsStrictlyIncreasing}
use Rattle.prop_numbers.specs.Sets.{Members, set_of}
use Rattle.prop_premises.specs.Origins.{Origin}
use Rattle.prop_premises.specs.ChoiceLists.{lists_count}
use Rattle.prop_numbers.proofs.MergeLemmas.{Rising, rising_from_increasing}
use Rattle.prop_procedures.specs.declared.shape.Param.{Param}
use Rattle.prop_procedures.specs.Kept.{stored_of}
use Rattle.prop_procedures.specs.Stored.{Stored}
use Rattle.prop_lattice.specs.declared.info.Info.{Info}
use Rattle.prop_contents.specs.Contents.{beliefs}
use Rattle.prop_cells.specs.Problems.{Problem}
use Rattle.prop_cells.specs.Reach.{Explains}
use Rattle.prop_cells.specs.Data.{Data, IsKept, problem_of}
use Rattle.prop_scheduler.specs.Live.{IsLiveIn}
use Rattle.prop_scheduler.specs.Turns.{IsSettled}
use Rattle.prop_scheduler.specs.Potential.{most_steps}
use Rattle.prop_explain.specs.declared.reducing.Core.{Core}
use Rattle.prop_explain.specs.declared.reducing.Core.TheVariants.{Least, NotReduced}
use Rattle.prop_explain.proofs.ReducingLaws.{same_problem}
use Rattle.prop_explain.specs.Irreducible.{IsIrreducible, IfLeast, IfNotReduced, OfCore}
use Rattle.prop_language.specs.Commands as commands
use Rattle.prop_vocabulary.specs.Vocabulary.{Vocabulary}
use Rattle.prop_vocabulary.specs.Cells.{CellNames, cell_named}
use Rattle.prop_compound.specs.Definitions.{Definitions}
use Rattle.prop_engine.specs.Answers.{Answer}
use Rattle.prop_workbench.specs.inner.Carrying.{SaysBecause}
use Rattle.prop_workbench.specs.Machine.{State, problem_in, choices_in, worldview_at}
use Rattle.prop_workbench.specs.inner.Questions.{MaySay}
use Rattle.prop_workbench.specs.Running.{Settled}
use Rattle.prop_workbench.specs.inner.Running.{IsSettledValue, IsTooFewToReduce}
use Rattle.prop_workbench.specs.declared.session.Session.{Session}
use Rattle.prop_workbench.specs.Sessions.{state_from, AreKnown, IsInOrder}
use Rattle.prop_workbench.specs.inner.Sessions.{Keeps}
use Rattle.prop_workbench.proofs.AskLemmas.{may_be_least, may_not_be_reduced, settled_value, worldview_in}
use Rattle.prop_workbench.proofs.PremiseLemmas.{support_known}

-- the premises of a core are known
pub core_known : (problem : Problem) (n : ℕ) (believed : Members) (cell : ℕ) (value : Info) (core : Core)
    → AreKnown n problem.statements → OfCore core (λ v s. (v ≡ value) × Explains problem believed cell v (set_of s))
    → OfCore core (λ v s. All (λ p. p < n) s)
core_known problem n believed cell value (Least e) known explains =
    support_known problem n cell e.support known explains.1.related
core_known problem n believed cell value (NotReduced e) known explains =
    support_known problem n cell e.support known explains.1.related

-- what it says of a network at rest is settled
pub settled_core : (library : List Stored) (names : CellNames) (words : Vocabulary) (definitions : Definitions)
    (premises : List Origin) (d : Data) (limit : ℕ) (list : List ℕ) (believed : Members) (cell : ℕ) (core : Core)
    → IsKept library d → believed ≡ worldview_in premises list → IsSettled library (worldview_in premises list) d →
    OfCore core (λ v s. (v ≡ beliefs believed d.contents cell)
    × Explains (problem_of library d) believed cell v (set_of s)) →
    OfCore core (λ v s. IsSettledValue library (state_from names words definitions premises d limit) list cell v
    × Explains (problem_of library d) (worldview_in premises list) cell v (set_of s))
settled_core library names words definitions premises d limit list believed cell (Least e) kept same rest explains = (
  settled_value library names words definitions premises d limit list cell e.value kept rest
      (explains.0 ∙ ap (λ (b : Members). beliefs b d.contents cell) same),
  subst (λ (b : Members). Explains (problem_of library d) b cell e.value (set_of e.support)) same explains.1,
)
settled_core library names words definitions premises d limit list believed cell (NotReduced e) kept same rest
    explains = (
      settled_value library names words definitions premises d limit list cell e.value kept rest
          (explains.0 ∙ ap (λ (b : Members). beliefs b d.contents cell) same),
      subst (λ (b : Members). Explains (problem_of library d) b cell e.value (set_of e.support)) same explains.1,
    )

-- a session keeps what it has to where only what its cells hold, what waits and what is watched has changed, and every
-- instance waits
pub rested_keeps : {R O : Type 0} {X : Type 0} {F : X → Type 0} {g : _} (value : R → Param → List Info → Info)
    (s new : Session R O X F g) → IsInOrder value s → new.live.network.library ≡ s.live.network.library
    → new.live.network.cells ≡ record s.live.network.cells { contents = new.live.network.cells.contents } →
    ((believed : Members) → IsLiveIn value believed new.live)
    → Keeps value s (record s { live = new.live; order = new.order })
rested_keeps value s new sound same rest alive = record {
  library = same;
  sound = record {
    at_work = record {
      under_way = (alive (set_of s.search.worldview)).under_way;
      well_made = sound.at_work.well_made;
      search = rw (same_problem (stored_of value s.live.network.library) (stored_of value new.live.network.library)
          s.live.network.cells new.live.network.cells (λ i. stored_of value (same i)) rest) sound.at_work.search;
      known = rw rest sound.at_work.known;
      watched = (alive (set_of s.search.worldview)).watched;
    };
    sized = rw rest sound.sized;
    locals = sound.locals;
    room = rw rest sound.room;
    named = rw rest sound.named;
    defined = rw same sound.defined;
  };
  steps = refl;
  covers = λ m covered. covered;
}

-- where it isn't reduced, every step of the limit was used
pub used_up : (core : Core) (steps tries limit : ℕ) → steps ≤ limit → IfNotReduced core (λ v s. tries ≡ limit - steps)
    → IfNotReduced core (λ v s. steps + tries ≡ limit)
used_up (Least e) steps tries limit within spent = tt
used_up (NotReduced e) steps tries limit within spent = omega (arith, within, spent)

-- numbers in order above one number and below another are no more than lie between them
between_few : (x : ℕ) (ps : List ℕ) (n : ℕ) → AllByRecursion (λ p. x < p) ps → Rising ps
    → AllByRecursion (λ p. p < n) ps → x < n → length ps + x < n
between_few x [] n above up below lt = omega (arith, lt)
between_few x (p ∷ ps) n above up below lt = let rest =
    between_few p ps n up.0 up.1 below.1 below.0 in omega (arith, rest, above.0)

rising_few : (ps : List ℕ) (n : ℕ) → Rising ps → AllByRecursion (λ p. p < n) ps → length ps ≤ n
rising_few [] n up below = omega arith
rising_few (p ∷ ps) n up below = let rest = between_few p ps n up.0 up.1 below.1 below.0 in omega (arith, rest)

-- where it isn't reduced, the limit is too small
pub too_few : (library : List Stored) (s : State) (believed : Members) (cell : ℕ) (core : Core) (steps : ℕ)
    → AreKnown (length s.premises) s.statements → steps ≤ s.limit
    → steps < lists_count (choices_in s) * (most_steps (problem_in library s) + 1) →
    IfNotReduced core (λ v kept. (ps : List ℕ) × IsStrictlyIncreasing ps
    × Explains (problem_in library s) believed cell v (set_of ps)
    × (s.limit - steps < length ps * most_steps (problem_in library s)))
    → IfNotReduced core (λ v kept. IsTooFewToReduce library s)
too_few library s believed cell (Least e) steps known within few earned = tt
too_few library s believed cell (NotReduced e) steps known within few (ps, up, explains, short) =
    let most = most_steps (problem_in library s) in
    let below = support_known (problem_in library s) (length s.premises) cell ps known explains.related in
    let count = rising_few ps (length s.premises) (rising_from_increasing ps up)
    (recursion_from_All (λ p. p < length s.premises) ps below) in
    omega (arith, short, few, within, mul-le-mul_right {m = length ps} {n = length s.premises} most count)

-- it may be said as it ended
pub may_core : (library : List Stored) (s : State) (list name : List ℕ) (cell : ℕ) (core : Core) (answer : Answer)
    (steps : ℕ) → cell_named s.names name ≡ Some cell →
    OfCore core (λ v ps. IsSettledValue library s list cell v
    × Explains (problem_in library s) (worldview_at s list) cell v (set_of ps))
    → IfLeast core (λ v ps. IsIrreducible (problem_in library s) (set_of ps) cell v)
    → IfNotReduced core (λ v ps. steps ≡ s.limit) → IfNotReduced core (λ v ps. IsTooFewToReduce library s) →
    IfLeast core (λ v ps. SaysBecause s cell name [] v ps answer)
    → IfNotReduced core (λ v ps. SaysBecause s cell name (codes " not reduced") v ps answer) →
    MaySay library s (commands.Command.Core name) (Settled list) steps answer
may_core library s list name cell (Least e) answer steps named settled least spent few says other =
    may_be_least library s list name cell e.value e.support answer steps named settled.0 says.0 settled.1 least says.1
may_core library s list name cell (NotReduced e) answer steps named settled least spent few other says =
    may_not_be_reduced library s list name cell e.value e.support answer steps named settled.0 says.0 settled.1 spent
    few says.1
