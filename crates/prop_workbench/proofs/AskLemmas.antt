-- What is answered when the network was run for a cell.
use Rattle.std.proofs.Common.{◌≡◌, ℕ, zero, suc, ◌+◌, ◌*◌, ◌<◌, ◌≤◌, ◌⊎◌, IsTrue, List, [], ◌∷◌, Some, None, All}
use Rattle.std.proofs.Common.{is_none}
use Rattle.std.proofs.Common.{get_or, length, take, codes, ◌∙◌, Result, Ok, Err, IfOk, inl, inr, refl, ap, subst, arith}
use Rattle.std.specs.List.Sorted.{IsStrictlyIncreasing}
use Rattle.std.proofs.lemmas.Option.{slice_get-get_or}
use Rattle.prop_lattice.specs.declared.info.Info.{Info}
use Rattle.prop_refusals.specs.declared.refusal.Refusal.TheVariants.{NoSuchCell}
use Rattle.prop_numbers.specs.Sets.{Members, IsPart, set_of}
use Rattle.prop_premises.specs.Origins.{Origin, believed_in, choices_of}
use Rattle.prop_premises.specs.declared.choice.Choice.{Choice}
use Rattle.prop_premises.specs.ChoiceLists as lists
use Rattle.prop_nogoods.specs.Stores.{has_part}
use Rattle.prop_scheduler.specs.Potential.{most_steps}
use Rattle.prop_amb.specs.Refuted.{IsNogood, IsCovered, IsRuledOut, IsFirstConsistent, AllBeforeRefuted}
use Rattle.prop_amb.specs.Search as search
use Rattle.prop_amb.specs.Search.{Stand, IsStand}
use Rattle.prop_amb.specs.Settling as settling
use Rattle.prop_amb.proofs.CountLaws.{place_below, few_in_all}
use Rattle.prop_amb.specs.declared.outcome.Outcome as ends
use Rattle.prop_amb.specs.declared.outcome.Outcome.TheVariants as ended
use Rattle.prop_workbench.specs.declared.session.Session.{Session}
use Rattle.prop_procedures.specs.declared.shape.Param.{Param}
use Rattle.prop_procedures.specs.Stored.{Stored, span_kind}
use Rattle.prop_contents.specs.Contents.{beliefs}
use Rattle.prop_cells.specs.Problems.{Problem}
use Rattle.prop_cells.specs.Points.{AreFitting}
use Rattle.prop_cells.specs.Reach.{Explains}
use Rattle.prop_cells.specs.Data.{Data, IsKept, problem_of}
use Rattle.prop_procedures.specs.Fitting.{kind_at}
use Rattle.prop_cells.proofs.Adding.{beliefs_of_kinds}
use Rattle.prop_cells.proofs.Founding.{believed_entailed}
use Rattle.prop_scheduler.specs.Turns.{IsSettled}
use Rattle.prop_scheduler.specs.declared.outcome.Ended.{Ended}
use Rattle.prop_language.specs.Commands as commands
use Rattle.prop_language.specs.Commands.{Command}
use Rattle.prop_vocabulary.specs.Vocabulary.{Vocabulary}
use Rattle.prop_engine.specs.Answers.{Answer, Says, Text}
use Rattle.prop_workbench.specs.Machine.{State, problem_in, worldview_at}
use Rattle.prop_workbench.specs.inner.Machine.{text_at}
use Rattle.prop_refusals.specs.Refusals.{first_of, when}
use Rattle.prop_workbench.specs.Refusing.{refusal_of, passed}
use Rattle.prop_workbench.proofs.LimitLemmas.{as_many}
use Rattle.prop_workbench.specs.declared.asking.Question.{Question}
use Rattle.prop_workbench.specs.declared.asking.Question.TheVariants.{Settle, Worldview, Ask, Why}
use Rattle.prop_workbench.specs.inner.Questions.{command_of, IsNamed, MaySay, HasRun}
use Rattle.prop_workbench.specs.Running.{Outcome, Settled, Unsettled, Contradiction, worldview_of, Replies}
use Rattle.prop_workbench.specs.Running.{IsValueReply, IsExplainedReply}
use Rattle.prop_workbench.specs.inner.Running.{IsHeldValue, IsSettledValue, IsUnsettledValue}
use Rattle.prop_workbench.specs.inner.Running.{IsTooFewToReduce}
use Rattle.prop_workbench.specs.inner.Running.{Explained}
use Rattle.prop_workbench.specs.inner.Carrying.{IsAtRest}
use Rattle.prop_workbench.specs.Sessions.{state_from, state_of, library_of, work_of, AreKnown, IsInOrder}
use Rattle.prop_workbench.specs.Steps.{Carries, Runs}
use Rattle.prop_explain.specs.Irreducible.{IsIrreducible}
use Rattle.prop_texts.specs.Texts.{equation, because, contradiction_text}
use Rattle.prop_vocabulary.proofs.CellLookups.{of_named}
use Rattle.prop_amb.proofs.LevelLaws.{whole_is}
use Rattle.prop_workbench.proofs.PointLemmas.{entailed_holds_points, none_satisfy}
use Rattle.prop_workbench.proofs.PremiseLemmas.{support_known, same_set, set_has}
use Rattle.prop_vocabulary.specs.Cells.{CellNames, cell_named}
use Rattle.prop_compound.specs.Definitions.{Definitions}

-- what is believed with the list
abbrev pub worldview_in : List Origin → List ℕ → Members
worldview_in premises list = lists.worldview (believed_in premises) (choices_of premises) list

pub believes_same : (s : Stand) → IsStand s → set_of s.worldview ≡ worldview_in s.premises (take s.level s.list)
believes_same s stand = same_set (set_of s.worldview) (worldview_in s.premises (take s.level s.list)) stand.believes

-- where the side of each choice is
pub believes_whole : (s : Stand) → IsStand s → s.level ≡ length s.list
    → set_of s.worldview ≡ worldview_in s.premises s.list
believes_whole s stand full = believes_same s stand ∙ whole_is s full

-- a question for a cell that is there is not refused
pub free : (library : List Stored) (s : State) (question : Question) → IsNamed s question
    → refusal_of library s (command_of question) ≡ None
free library s Settle named = as_many [] s
free library s Worldview named = as_many [] s
free library s (Ask cell name) named = (λ i. first_of (when NoSuchCell (is_none (named i)) ∷ passed s s)) ∙ as_many [] s
free library s (Why cell name) named = (λ i. first_of (when NoSuchCell (is_none (named i)) ∷ passed s s)) ∙ as_many [] s

pub carries : (library : List Stored) (s t : State) (question : Question) (answer : Answer) (steps : ℕ)
    → Runs library s (command_of question) answer t steps → Carries library s (command_of question) answer t steps
carries library s t Settle answer steps r = r
carries library s t Worldview answer steps r = r
carries library s t (Ask cell name) answer steps r = r
carries library s t (Why cell name) answer steps r = r

-- a contradiction may be said to each question
pub may_contradict : (library : List Stored) (s : State) (command : Command) (support : List ℕ) (answer : Answer)
    (steps : ℕ) → IsStrictlyIncreasing support → Says answer (contradiction_text s.premises support) →
    MaySay library s command (Contradiction support) steps answer
may_contradict library s command support answer steps in_order (inl e) =
    inl (contradiction_text s.premises support, (in_order, refl), e)
may_contradict library s command support answer steps in_order (inr m) = inr m

-- what is said of a value, and what explains one
pub may_say_value : (library : List Stored) (s : State) (command : Command) (outcome : Outcome) (name : List ℕ)
    (cell : ℕ) (v : Info) (mark : List ℕ) (answer : Answer) (steps : ℕ) → cell_named s.names name ≡ Some cell
    → IsHeldValue library s outcome cell v →
    ((text : List ℕ) → IsValueReply library s outcome name mark text → Replies library s command outcome steps text)
    → Says answer (equation name (text_at s cell v) mark) → MaySay library s command outcome steps answer
may_say_value library s command outcome name cell v mark answer steps named value replies (inl e) =
    inl (
      equation name (text_at s cell v) mark,
      replies _ (record {
        cell = cell;
        cell_is = named;
        v = v;
        value = value.0;
        points = value.1;
        text_is = refl;
      }),
      e,
    )
may_say_value library s command outcome name cell v mark answer steps named value replies (inr m) = inr m

pub may_explain : (library : List Stored) (s : State) (command : Command) (outcome : Outcome) (name : List ℕ) (cell : ℕ)
    (v : Info) (mark : List ℕ) (answer : Answer) (steps : ℕ) → cell_named s.names name ≡ Some cell
    → IsHeldValue library s outcome cell v →
    ((text : List ℕ) → IsExplainedReply library s outcome name mark text → Replies library s command outcome steps text)
    → Explained library s (worldview_of s outcome) cell v name mark answer
    → MaySay library s command outcome steps answer
may_explain library s command outcome name cell v mark answer steps named value replies
    (inl (ps, in_order, explains, e)) =
    inl (
      equation name (text_at s cell v) (because s.premises mark ps),
      replies _ (record {
        premises = ps;
        in_order = in_order;
        says = record {
          cell = cell;
          cell_is = named;
          v = v;
          value = value.0;
          points = value.1;
          text_is = refl;
        };
        explains = explains;
      }),
      e,
    )
may_explain library s command outcome name cell v mark answer steps named value replies (inr m) = inr m

-- a settled value with premises that explain it
abbrev settled_reply : (library : List Stored) (s : State) (list name : List ℕ) (cell : ℕ) (v : Info) (mark ps : List ℕ)
    → cell_named s.names name ≡ Some cell → IsSettledValue library s list cell v → IsStrictlyIncreasing ps
    → Explains (problem_in library s) (worldview_at s list) cell v (set_of ps) →
    IsExplainedReply library s (Settled list) name mark (equation name (text_at s cell v) (because s.premises mark ps))
settled_reply library s list name cell v mark ps named value in_order explains =
    record {
      premises = ps;
      in_order = in_order;
      says = record {
        cell = cell;
        cell_is = named;
        v = v;
        value = value.0;
        points = value.1;
        text_is = refl;
      };
      explains = explains;
    }

-- premises of which none can be left out, and those that were left when every step was used
pub may_be_least : (library : List Stored) (s : State) (list name : List ℕ) (cell : ℕ) (v : Info) (ps : List ℕ)
    (answer : Answer) (steps : ℕ) → cell_named s.names name ≡ Some cell → IsSettledValue library s list cell v
    → IsStrictlyIncreasing ps → Explains (problem_in library s) (worldview_at s list) cell v (set_of ps) →
    IsIrreducible (problem_in library s) (set_of ps) cell v
    → Says answer (equation name (text_at s cell v) (because s.premises [] ps))
    → MaySay library s (commands.Command.Core name) (Settled list) steps answer
may_be_least library s list name cell v ps answer steps named value in_order explains least (inl e) =
    inl (
      equation name (text_at s cell v) (because s.premises [] ps),
      inl (settled_reply library s list name cell v [] ps named value in_order explains, least),
      e,
    )
may_be_least library s list name cell v ps answer steps named value in_order explains least (inr m) = inr m

pub may_not_be_reduced : (library : List Stored) (s : State) (list name : List ℕ) (cell : ℕ) (v : Info) (ps : List ℕ)
    (answer : Answer) (steps : ℕ) → cell_named s.names name ≡ Some cell → IsSettledValue library s list cell v
    → IsStrictlyIncreasing ps → Explains (problem_in library s) (worldview_at s list) cell v (set_of ps) →
    steps ≡ s.limit → IsTooFewToReduce library s
    → Says answer (equation name (text_at s cell v) (because s.premises (codes " not reduced") ps))
    → MaySay library s (commands.Command.Core name) (Settled list) steps answer
may_not_be_reduced library s list name cell v ps answer steps named value in_order explains all few (inl e) =
    inl (
      equation name (text_at s cell v) (because s.premises (codes " not reduced") ps),
      inr (
        settled_reply library s list name cell v (codes " not reduced") ps named value in_order explains,
        all,
        few,
      ),
      e,
    )
may_not_be_reduced library s list name cell v ps answer steps named value in_order explains all few (inr m) = inr m

-- what isn't settled is said to a core as to why
pub why_so_far : (library : List Stored) (s : State) (list name : List ℕ) (answer : Answer) (steps : ℕ)
    → MaySay library s (commands.Command.Why name) (Unsettled list) steps answer
    → MaySay library s (commands.Command.Core name) (Unsettled list) steps answer
why_so_far library s list name answer steps (inl (text, replies, e)) = inl (text, replies, e)
why_so_far library s list name answer steps (inr m) = inr m

-- what is said by one text may be said
pub may_say : (library : List Stored) (s : State) (command : Command) (outcome : Outcome) (text : List ℕ)
    (answer : Answer) (steps : ℕ) → Replies library s command outcome steps text → Says answer text
    → MaySay library s command outcome steps answer
may_say library s command outcome text answer steps replies (inl e) = inl (text, replies, e)
may_say library s command outcome text answer steps replies (inr m) = inr m

pub may_say_unsettled : (library : List Stored) (s : State) (list : List ℕ) (question : Question) (answer : Answer)
    (steps : ℕ) → (question ≡ Settle) ⊎ (question ≡ Worldview) → steps ≡ s.limit → Says answer (codes "unsettled")
    → MaySay library s (command_of question) (Unsettled list) steps answer
may_say_unsettled library s list question answer steps (inl e) all says =
    rw e (may_say library s commands.Command.Settle (Unsettled list) (codes "unsettled") answer steps (refl, all) says)
may_say_unsettled library s list question answer steps (inr e) all says =
    rw e (may_say library s commands.Command.Worldview (Unsettled list) (codes "unsettled") answer steps (refl, all)
    says)

-- what is attached to the cells of a network fits
kept_fits : (library : List Stored) (d : Data) → IsKept library d
    → AreFitting library (record { kinds = d.kinds; statements = d.statements; instances = d.instances })
kept_fits library d kept = record { fitting = kept.fits; within = kept.made.within }

-- what is believed of a cell of a network at rest is its settled value
pub settled_value : (library : List Stored) (names : CellNames) (words : Vocabulary) (definitions : Definitions)
    (premises : List Origin) (d : Data) (limit : ℕ) (list : List ℕ) (cell : ℕ) (v : Info) → IsKept library d
    → IsSettled library (worldview_in premises list) d → v ≡ beliefs (worldview_in premises list) d.contents cell →
    IsSettledValue library (state_from names words definitions premises d limit) list cell v
settled_value library names words definitions premises d limit list cell v kept settled is_v = (
  (beliefs (worldview_in premises list) d.contents, (settled.least, settled.free), is_v),
  entailed_holds_points library (state_from names words definitions premises d limit)
      (worldview_in premises list) cell v (kept_fits library d kept) (rw is_v (settled.least.least cell)),
)

unsettled_value : (library : List Stored) (names : CellNames) (words : Vocabulary) (definitions : Definitions)
    (premises : List Origin) (d : Data) (limit : ℕ) (list : List ℕ) (cell : ℕ) (name : List ℕ) (v : Info)
    → cell_named names name ≡ Some cell → All (λ k. k < length d.kinds) names.cells →
    IsKept library d → v ≡ beliefs (worldview_in premises list) d.contents cell
    → IsUnsettledValue library (state_from names words definitions premises d limit) list cell v
unsettled_value library names words definitions premises d limit list cell name v found named kept is_v =
    let l : cell < length d.kinds = of_named (λ k. k < length d.kinds) names name cell named found in (
      (
        rw is_v ((beliefs_of_kinds d kept.made (worldview_in premises list)).of_kind cell (kind_at d.kinds cell)
            (slice_get-get_or d.kinds cell span_kind l)),
        rw is_v (believed_entailed library d (worldview_in premises list) kept cell),
        λ k x m believed here. rw (is_v, ← here)
            ((kept.made.stated k x m).below (worldview_in premises list) believed),
      ),
      entailed_holds_points library (state_from names words definitions premises d limit)
          (worldview_in premises list) cell v (kept_fits library d kept)
          (rw is_v (believed_entailed library d (worldview_in premises list) kept cell)),
    )

-- the cell with a name is there
pub cell_there : {R O : Type 0} {X : Type 0} {F : X → Type 0} {g : _} {value : R → Param → List Info → Info}
    (s : Session R O X F g) (name : List ℕ) (cell : ℕ) → IsInOrder value s → cell_named s.names name ≡ Some cell
    → cell < length s.live.network.cells.kinds
cell_there s name cell sound named =
    of_named (λ k. k < length s.live.network.cells.kinds) s.names name cell sound.named named

-- what a session believes of a cell is its settled value where the network is at rest, and else what is known so far
pub settled_in : {R O : Type 0} {X : Type 0} {F : X → Type 0} {g : _} (value : R → Param → List Info → Info)
    (s : Session R O X F g) (cell : ℕ) → IsInOrder value s → IsAtRest value s →
    IsSettledValue (library_of value s) (state_of s) s.search.list cell
    (beliefs (set_of s.search.worldview) s.live.network.cells.contents cell)
settled_in value s cell sound rest =
    let same = believes_whole s.search sound.at_work.well_made rest.full in
    settled_value (library_of value s) s.names s.words s.definitions s.search.premises s.live.network.cells s.limit
    s.search.list cell _ sound.at_work.under_way.kept
    (subst (λ (b : Members). IsSettled (library_of value s) b s.live.network.cells) same rest.settled)
    (ap (λ (b : Members). beliefs b s.live.network.cells.contents cell) same)

pub unsettled_in : {R O : Type 0} {X : Type 0} {F : X → Type 0} {g : _} (value : R → Param → List Info → Info)
    (s : Session R O X F g) (whole : Members) (name : List ℕ) (cell : ℕ) → IsInOrder value s
    → cell_named s.names name ≡ Some cell → whole ≡ worldview_in s.search.premises s.search.list →
    IsUnsettledValue (library_of value s) (state_of s) s.search.list cell (beliefs whole s.live.network.cells.contents
    cell)
unsettled_in value s whole name cell sound named same =
    unsettled_value (library_of value s) s.names s.words s.definitions s.search.premises s.live.network.cells s.limit
    s.search.list cell name _ named sound.named sound.at_work.under_way.kept
    (ap (λ (b : Members). beliefs b s.live.network.cells.contents cell) same)

-- and what explains it does so by what is believed with the choices as they stand
pub explained_in : {R O : Type 0} {X : Type 0} {F : X → Type 0} {g : _} (value : R → Param → List Info → Info)
    (s : Session R O X F g) (whole : Members) (cell : ℕ) (v : Info) (name mark : List ℕ) (answer : Answer)
    → whole ≡ worldview_in s.search.premises s.search.list
    → Explained (library_of value s) (state_of s) whole cell v name mark answer →
    Explained (library_of value s) (state_of s) (worldview_in s.search.premises s.search.list) cell v name mark answer
explained_in value s whole cell v name mark answer same explained =
    subst (λ (b : Members). Explained (library_of value s) (state_of s) b cell v name mark answer) same explained

-- what is answered explains
pub explained_by : (library : List Stored) (names : CellNames) (words : Vocabulary) (definitions : Definitions)
    (premises : List Origin) (d : Data) (limit : ℕ) (believed : Members) (cell : ℕ) (v : Info)
    (name mark support text : List ℕ) (answer : Answer) → v ≡ beliefs believed d.contents cell →
    IsStrictlyIncreasing support → Explains (problem_of library d) believed cell v (set_of support)
    → text ≡ because premises mark support
    → Says answer (equation name (text_at (state_from names words definitions premises d limit) cell v) text) →
    Explained library (state_from names words definitions premises d limit) believed cell
    (beliefs believed d.contents cell) name mark answer
explained_by library names words definitions premises d limit believed cell v name mark support text answer is_v
    in_order explains is_text (inl e) =
    inl (
      support,
      in_order,
      rw is_v at explains,
      e
          ∙ (λ i. Text (equation name (text_at (state_from names words definitions premises d limit) cell (is_v i))
          (is_text i))),
    )
explained_by library names words definitions premises d limit believed cell v name mark support text answer is_v
    in_order explains is_text (inr m) = inr m

-- the premises of a nogood are known
pub nogood_known : (problem : Problem) (choices : List Choice) (n : ℕ) (ps : List ℕ) → AreKnown n problem.statements
    → IsNogood problem choices (set_of ps) → All (λ p. p < n) ps
nogood_known problem choices n ps known nogood = support_known problem n nogood.cell ps known nogood.related

-- believed premises of the user's are known
believed_below : (os : List Origin) (p : ℕ) → IsTrue (believed_in os p) → p < length os
believed_below [] p h = cc
believed_below (o ∷ os) zero h = omega arith
believed_below (o ∷ os) (suc p) h = let b = believed_below os p h in omega arith

pub believed_known : (os : List Origin) (ps : List ℕ) → IsPart (set_of ps) (believed_in os)
    → All (λ p. p < length os) ps
believed_known os ps part k d l = believed_below os (get_or ps k d) (part (get_or ps k d) (set_has ps k d l))

-- ---- what a run leaves and tells of itself

-- what was covered still is, with more nogoods between the same choices
pub cover_kept : (old new : Stand) (m : Members) → new.premises ≡ old.premises
    → ((n : Members) → IsTrue (has_part old.listed n) → IsTrue (has_part new.listed n))
    → IsCovered (search.choices_in old) old.listed m → IsCovered (search.choices_in new) new.listed m
cover_kept old new m same kept covered = rw same (λ list is_list. kept _ (covered list is_list))

-- the steps of a run are fewer than all lists allow together
few_steps : (library : List Stored) (s : Stand) (before : List ℕ) (d : Data) (problem : Problem) (n : ℕ)
    → problem ≡ problem_of library d → IsStand s → search.Moves problem (search.choices_in s) before s.list n
    → n < lists.lists_count (search.choices_in s) * (most_steps (problem_of library d) + 1)
few_steps library s before d problem n same stand moves =
    let below = place_below (search.choices_in s) s.list stand.is_list in
    let few = few_in_all moves.further (lists.place_of (search.choices_in s) before)
    (lists.lists_count (search.choices_in s)) (most_steps problem) n moves.few (omega (arith, moves.place, below))
    in
    subst (λ (q : Problem). n < lists.lists_count (search.choices_in s) * (most_steps q + 1)) same few

ended_so : {R O : Type 0} {X : Type 0} {F : X → Type 0} {g : _} (value : R → Param → List Info → Info)
    (s : Session R O X F g) (before : List ℕ) (problem : Problem) (library : List Stored) (end : ends.Outcome) (n : ℕ)
    → problem ≡ problem_of (library_of value s) s.live.network.cells → library ≡ library_of value s
    → IsKept (library_of value s) s.live.network.cells → IsStand s.search →
    AllBeforeRefuted problem (search.users_of s.search) (search.choices_in s.search) s.search.list →
    (end ≡ ended.Settled → settling.HasSettled library problem s.search s.live.network.cells s.live.agenda.line) →
    settling.IfContradiction end
    (λ n. IsRuledOut problem (search.users_of s.search) (search.choices_in s.search) s.search.listed (set_of n)) →
    n ≤ s.limit → search.Moves problem (search.choices_in s.search) before s.search.list n →
    (end ≡ ended.Unsettled → settling.HasUsed problem s.limit n (work_of s)) → HasRun value s end n
ended_so value s before problem library ended.Settled n same library_is kept stand earlier settled contradiction within
    moves used =
    let here = settled refl in
    let at_rest = subst (λ l. IsSettled l (set_of s.search.worldview) s.live.network.cells) library_is here.settled in
    let rest = subst (λ (b : Members). IsSettled (library_of value s) b s.live.network.cells)
    (believes_whole s.search stand here.full) at_rest in
    record {
      ends = (
        subst (λ (q : Problem). IsFirstConsistent q (search.users_of s.search) (search.choices_in s.search)
            s.search.list) same here.first,
        beliefs (worldview_in s.search.premises s.search.list) s.live.network.cells.contents,
        (rest.least, rest.free),
      );
      covered = tt;
      full = λ e. here.full;
      settled = λ e. at_rest;
      within = within;
      few = few_steps (library_of value s) s.search before s.live.network.cells problem n same stand moves;
      spent = λ e. cc e;
    }
ended_so value s before problem library ended.Unsettled n same library_is kept stand earlier settled contradiction
    within moves used =
    let here = used refl in
    record {
      ends = (
        stand.is_list,
        subst (λ (q : Problem). AllBeforeRefuted q (search.users_of s.search) (search.choices_in s.search)
            s.search.list) same earlier,
        subst (λ (q : Problem). s.limit + 1 < lists.lists_count (search.choices_in s.search) * (most_steps q + 1))
            same here.earned,
      );
      covered = tt;
      full = λ e. cc e;
      settled = λ e. cc e;
      within = within;
      few = few_steps (library_of value s) s.search before s.live.network.cells problem n same stand moves;
      spent = λ e. here.spent;
    }
ended_so value s before problem library (ended.Contradiction ps) n same library_is kept stand earlier settled
    contradiction within moves used =
    let out = subst (λ (q : Problem). IsRuledOut q (search.users_of s.search) (search.choices_in s.search)
    s.search.listed (set_of ps)) same contradiction in
    record {
      ends = (
        out.believes,
        out.refuted,
        out.grounded,
        none_satisfy (library_of value s) (state_of s) ps (kept_fits (library_of value s)
            s.live.network.cells kept)
            stand.numbered out.believes out.refuted,
      );
      covered = out.covered;
      full = λ e. cc e;
      settled = λ e. cc e;
      within = within;
      few = few_steps (library_of value s) s.search before s.live.network.cells problem n same stand moves;
      spent = λ e. cc e;
    }

pub has_run : {R O : Type 0} {X : Type 0} {F : X → Type 0} {g : _} {E : Type 0} (value : R → Param → List Info → Info)
    (s : Session R O X F g) (before : List ℕ) (problem : Problem) (library : List Stored) (r : Result
    (Ended ends.Outcome) E)
    → problem ≡ problem_of (library_of value s) s.live.network.cells → library ≡ library_of value s
    → IsKept (library_of value s) s.live.network.cells → IsStand s.search →
    AllBeforeRefuted problem (search.users_of s.search) (search.choices_in s.search) s.search.list →
    IfOk r (λ x. x.end ≡ ended.Settled
    → settling.HasSettled library problem s.search s.live.network.cells s.live.agenda.line) →
    IfOk r (λ x. settling.IfContradiction x.end
    (λ n. IsRuledOut problem (search.users_of s.search) (search.choices_in s.search) s.search.listed (set_of n))) →
    IfOk r (λ x. x.steps ≤ s.limit) → IfOk r
    (λ x. search.Moves problem (search.choices_in s.search) before s.search.list x.steps)
    → IfOk r (λ x. x.end ≡ ended.Unsettled → settling.HasUsed problem s.limit x.steps (work_of s))
    → IfOk r (λ x. HasRun value s x.end x.steps)
has_run value s before problem library (Err e) same library_is kept stand earlier settled contradiction within moves
    used = tt
has_run value s before problem library (Ok x) same library_is kept stand earlier settled contradiction within moves
    used =
    ended_so value s before problem library x.end x.steps same library_is kept stand earlier settled contradiction
    within
    moves used

-- ---- what ends before the value

-- a cell that is not there is refused
pub nowhere : (library : List Stored) (s : State) (name : List ℕ) → cell_named s.names name ≡ None
    → refusal_of library s (commands.Command.Ask name) ≡ Some NoSuchCell
nowhere library s name none = rw none refl

pub nowhere_core : (library : List Stored) (s : State) (name : List ℕ) → cell_named s.names name ≡ None
    → refusal_of library s (commands.Command.Core name) ≡ Some NoSuchCell
nowhere_core library s name none = rw none refl

-- a core is asked for by a run
pub free_core : (library : List Stored) (s : State) (name : List ℕ) (cell : ℕ) → cell_named s.names name ≡ Some cell
    → refusal_of library s (commands.Command.Core name) ≡ None
free_core library s name cell named =
    (λ i. first_of (when NoSuchCell (is_none (named i)) ∷ passed s s)) ∙ as_many [] s

pub nowhere_why : (library : List Stored) (s : State) (name : List ℕ) → cell_named s.names name ≡ None
    → refusal_of library s (commands.Command.Why name) ≡ Some NoSuchCell
nowhere_why library s name none = rw none refl
