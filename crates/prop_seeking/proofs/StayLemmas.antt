-- What stays where a line is not carried out in silence, or sets the limit.
use Rattle.std.proofs.Common.{◌≡◌, ◌∙◌, ◌⊎◌, ℕ, Bool, true, false, List, [], sym, ap, subst, inl, inr, refl, arith}
use Rattle.std.specs.Prelude.{Option, Some, None, Result, Ok, Err, IfSome, codes, unwrap_or}
use Rattle.prop_refusals.specs.declared.refusal.Refusal.{Refusal}
use Rattle.prop_procedures.specs.declared.shape.Kinded.{Kinded}
use Rattle.prop_procedures.specs.declared.shape.Param.{Param}
use Rattle.prop_procedures.specs.Stored.{Stored}
use Rattle.prop_premises.specs.Origins.{Origin}
use Rattle.prop_contents.specs.Contents.{Entry}
use Rattle.prop_cells.specs.declared.instance.Statement.{Statement}
use Rattle.prop_cells.specs.Instances.{Instance}
use Rattle.prop_cells.specs.Data.{Data}
use Rattle.prop_language.specs.Commands.{Command}
use Rattle.prop_language.specs.Reading.{IsReading}
use Rattle.prop_engine.specs.Answers.{Answer, Silent, Done, Text, Refused}
use Rattle.prop_workbench.specs.Machine.{State}
use Rattle.prop_workbench.specs.Steps.{AtOnce, LacksMemory, Runs, Carries, CarriesUnless, Follows}
use Rattle.prop_workbench.specs.Refusing.{refusal_of}
use Rattle.prop_workbench.specs.Running.{named_by}
use Rattle.prop_workbench.specs.Engine.{Standing, Works}
use Rattle.prop_workbench.specs.Questions.{Picks}
use Rattle.prop_telling.specs.Asking.{is_step, is_how, is_list}
use Rattle.prop_telling.specs.How.{TellsHow}
use Rattle.prop_telling.specs.Listing.{SaysList}
use Rattle.prop_notes.specs.Notes.{is_done}
use Rattle.prop_telling.specs.Telling.{Told, telling, Own, TellsStep, DoesAsSession}
use Rattle.prop_plans.specs.Plans.{IsUnderWay}
use Rattle.prop_spread.specs.Proposals.{IsProposed, Proposed}
use Rattle.prop_solve.specs.Searches.{Search, IsSearch}
use Rattle.prop_solve.specs.declared.solver.Plan.{Plan as PlanOf}
use Rattle.prop_solve.specs.declared.question.Goal.TheVariants.{Differing}
use Rattle.prop_seeking.specs.Asking.{begins}
use Rattle.prop_seeking.specs.declared.inquiry.Inquiry.{Inquiry as InquiryOf}
use Rattle.prop_seeking.specs.inner.Seekers.{ground_at, IsInquiry, IsLast}
use Rattle.prop_seeking.proofs.LimitLemmas.{MaySet, limit_sets}

-- the cells, statements, instances and premises are as they were
pub record Stays (s t : State) : Type 0 where
  pub kinds : t.kinds ≡ s.kinds
  pub premises : t.premises ≡ s.premises
  pub statements : t.statements ≡ s.statements
  pub instances : t.instances ≡ s.instances

same_stays : (s t : State) → t ≡ s → Stays s t
same_stays s t e = record {
  kinds = ap (λ (u : State). u.kinds) e;
  premises = ap (λ (u : State). u.premises) e;
  statements = ap (λ (u : State). u.statements) e;
  instances = ap (λ (u : State). u.instances) e;
}

runs_stay : (library : List Stored) (s t : State) (command : Command) (answer : Answer) (steps : ℕ)
    → Runs library s command answer t steps → Stays s t
runs_stay library s t command answer steps h = record {
  kinds = ap (λ (u : State). u.kinds) h.new_is;
  premises = ap (λ (u : State). u.premises) h.new_is;
  statements = ap (λ (u : State). u.statements) h.new_is;
  instances = ap (λ (u : State). u.instances) h.new_is;
}

not_done : (answer : Answer) {A : Type 0} → answer ≡ Done → is_done answer ≡ false → A
not_done Done e h = cc
not_done Silent e h = cc
not_done (Text text) e h = cc
not_done (Refused refusal) e h = cc

-- nothing is done, or what was read may set the limit
abbrev IsCalm : Answer → Result (Option Command) Refusal → Type 0
IsCalm answer read = (is_done answer ≡ false) ⊎ MaySet read

done_stays : (after s t : State) (command : Command) (answer : Answer) (steps : ℕ) → AtOnce Done after answer t steps
    → (MaySet (Ok (Some command)) → ⊥) → IsCalm answer (Ok (Some command)) → Stays s t
done_stays after s t command answer steps h other (inl quiet) = not_done answer h.answer_is quiet
done_stays after s t command answer steps h other (inr sets) = absurd (other sets)

limit_stays : (n : ℕ) (s t : State) → t ≡ record s { limit = n } → Stays s t
limit_stays n s t e = record {
  kinds = ap (λ (u : State). u.kinds) e;
  premises = ap (λ (u : State). u.premises) e;
  statements = ap (λ (u : State). u.statements) e;
  instances = ap (λ (u : State). u.instances) e;
}

carries_stay : (library : List Stored) (s t : State) (command : Command) (answer : Answer) (steps : ℕ)
    → Carries library s command answer t steps → IsCalm answer (Ok (Some command)) → Stays s t
carries_stay library s t Command.Settle answer steps h calm = runs_stay library s t Command.Settle answer steps h
carries_stay library s t (Command.Ask x) answer steps h calm = runs_stay library s t (Command.Ask x) answer steps h
carries_stay library s t (Command.Why x) answer steps h calm = runs_stay library s t (Command.Why x) answer steps h
carries_stay library s t (Command.Core x) answer steps h calm = runs_stay library s t (Command.Core x) answer steps h
carries_stay library s t Command.Worldview answer steps h calm = runs_stay library s t Command.Worldview answer steps h
carries_stay library s t Command.Nogoods answer steps (lines, are, h) calm = same_stays s t h.new_is
carries_stay library s t (Command.Domain a b) answer steps h calm =
    done_stays _ s t (Command.Domain a b) answer steps h (λ sets. sets) calm
carries_stay library s t (Command.Relation a b c d) answer steps h calm =
    done_stays _ s t (Command.Relation a b c d) answer steps h (λ sets. sets) calm
carries_stay library s t (Command.Cell a b) answer steps h calm =
    done_stays _ s t (Command.Cell a b) answer steps h (λ sets. sets) calm
carries_stay library s t (Command.Define a b c) answer steps h calm =
    done_stays _ s t (Command.Define a b c) answer steps h (λ sets. sets) calm
carries_stay library s t (Command.Attach a b c) answer steps h calm =
    done_stays _ s t (Command.Attach a b c) answer steps h (λ sets. sets) calm
carries_stay library s t (Command.Fix a b) answer steps h calm =
    done_stays _ s t (Command.Fix a b) answer steps h (λ sets. sets) calm
carries_stay library s t (Command.Tell a b c) answer steps h calm =
    done_stays _ s t (Command.Tell a b c) answer steps h (λ sets. sets) calm
carries_stay library s t (Command.Choose a b c) answer steps h calm =
    done_stays _ s t (Command.Choose a b c) answer steps h (λ sets. sets) calm
carries_stay library s t (Command.Kick a) answer steps h calm =
    done_stays _ s t (Command.Kick a) answer steps h (λ sets. sets) calm
carries_stay library s t (Command.Bring a) answer steps h calm =
    done_stays _ s t (Command.Bring a) answer steps h (λ sets. sets) calm
carries_stay library s t (Command.Forget a) answer steps h calm =
    done_stays _ s t (Command.Forget a) answer steps h (λ sets. sets) calm
carries_stay library s t (Command.Limit a) answer steps h calm = limit_stays (unwrap_or a 0) s t h.new_is

unless_stays : (refusal : Option Refusal) (library : List Stored) (s t : State) (command : Command) (answer : Answer)
    (steps : ℕ) → CarriesUnless refusal library s command answer t steps → IsCalm answer (Ok (Some command)) → Stays s t
unless_stays (Some refusal) library s t command answer steps h calm = same_stays s t h.new_is
unless_stays None library s t command answer steps h calm = carries_stay library s t command answer steps h calm

follows_stays : (library : List Stored) (s t : State) (read : Result (Option Command) Refusal) (answer : Answer)
    (steps : ℕ) → Follows library s read answer t steps → IsCalm answer read → Stays s t
follows_stays library s t (Ok None) answer steps h calm = same_stays s t h.new_is
follows_stays library s t (Err refusal) answer steps (inl h) calm = same_stays s t h.new_is
follows_stays library s t (Err refusal) answer steps (inr h) calm = same_stays s t h.same
follows_stays library s t (Ok (Some command)) answer steps (inl h) calm =
    unless_stays (refusal_of library s command) library s t command answer steps h calm
follows_stays library s t (Ok (Some command)) answer steps (inr h) calm = same_stays s t h.same

calm_read : (line : List ℕ) (answer : Answer) (read : Result (Option Command) Refusal) → IsReading line read
    → (is_done answer ≡ false) ⊎ (begins (codes "limit") line ≡ true) → IsCalm answer read
calm_read line answer read is (inl quiet) = inl quiet
calm_read line answer read is (inr limit) = inr (limit_sets line read limit is)

works_stay : {O : Type 0} (picks : Picks O) (library : List Stored) (old : Standing O) (line : List ℕ)
    (answer : Answer) (new : Standing O) → Works picks library old line answer new
    → (is_done answer ≡ false) ⊎ (begins (codes "limit") line ≡ true) → Stays old.shown.state new.shown.state
works_stay picks library old line answer new h calm =
    let step = h.step [] (λ k d l. absurd (omega (arith, l))) in
    let stays = follows_stays library _ _ step.step.0 answer h.steps step.step.2
    (calm_read line answer step.step.0 step.step.1 calm) in
    record {
      kinds = stays.kinds;
      premises = stays.premises;
      statements = stays.statements;
      instances = stays.instances;
    }

own_stays : {O : Type 0} (picks : Picks O) (library : List Stored) (old : Told O) (line : List ℕ) (answer : Answer)
    (new : Told O) (b c d : Bool)
    → Own b ((new.notes ≡ old.notes) × TellsStep picks library old.standing answer new.standing)
    (Own c ((new.notes ≡ old.notes) × TellsHow library old.standing line answer new.standing)
    (Own d ((new ≡ old) × SaysList library old.notes old.standing answer)
    (DoesAsSession picks library old line answer new)))
    → (is_done answer ≡ false) ⊎ (begins (codes "limit") line ≡ true)
    → Stays old.standing.shown.state new.standing.shown.state
own_stays picks library old line answer new true c d h calm =
    same_stays old.standing.shown.state new.standing.shown.state h.1.state
own_stays picks library old line answer new false true d h calm =
    same_stays old.standing.shown.state new.standing.shown.state (ap (λ (s : Standing _). s.shown.state) h.1.same)
own_stays picks library old line answer new false false true h calm =
    same_stays old.standing.shown.state new.standing.shown.state (ap (λ (t : Told _). t.standing.shown.state) h.0)
own_stays picks library old line answer new false false false h calm =
    works_stay picks library old.standing line answer new.standing h.works calm

pub telling_stays : {O : Type 0} (picks : Picks O) (library : List Stored) (old : Told O) (line : List ℕ)
    (answer : Answer) (new : Told O) → telling picks library old line answer new
    → (is_done answer ≡ false) ⊎ (begins (codes "limit") line ≡ true)
    → Stays old.standing.shown.state new.standing.shown.state
telling_stays picks library old line answer new h calm =
    own_stays picks library old line answer new (is_step line) (is_how line) (is_list line) h calm

-- ---- an inquiry, wherever entries and parameters stand

abbrev moved : Data → List (List Entry) → List Param → Data
moved d contents params = record d { contents = contents; params = params }

moved_proposal : (library : List Stored) (d : Data) (contents : List (List Entry)) (params : List Param)
    (premises : List Origin) (p : Option Proposed) → IfSome p (IsProposed library d premises)
    → IfSome p (IsProposed library (moved d contents params) premises)
moved_proposal library d contents params premises (Some p) h = record {
  sides = h.sides;
  view = h.view;
  under_way = record { fitting = h.under_way.fitting; within = h.under_way.within; met = h.under_way.met };
}
moved_proposal library d contents params premises None h = tt

moved_search : (library : List Stored) (d : Data) (contents : List (List Entry)) (params : List Param)
    (premises : List Origin) (s : Search) → IsSearch library d premises s
    → IsSearch library (moved d contents params) premises s
moved_search library d contents params premises s h = record {
  root = h.root;
  nogoods = h.nogoods;
  learning = h.learning;
  proposal = moved_proposal library d contents params premises s.proposal h.proposal;
  refuted = h.refuted;
}

moved_last : (library : List Stored) (d : Data) (contents : List (List Entry)) (params : List Param)
    (premises : List Origin) (s : Search) (last : Option PlanOf) → IsLast (ground_at library d premises) s last
    → IsLast (ground_at library (moved d contents params) premises) s last
moved_last library d contents params premises s (Some p) h = h
moved_last library d contents params premises s None h = h

moved_inquiry : (library : List Stored) (d : Data) (contents : List (List Entry)) (params : List Param)
    (premises : List Origin) (i : InquiryOf) → IsInquiry (ground_at library d premises) i
    → IsInquiry (ground_at library (moved d contents params) premises) i
moved_inquiry library d contents params premises i h = record {
  search = moved_search library d contents params premises i.solver h.search;
  first = h.first;
  within = h.within;
  rows = h.rows;
  last = λ quiet. moved_last library d contents params premises i.solver i.last (h.last quiet);
  past = h.past;
}

-- where the cells, statements, instances and premises are as they were
pub stayed_inquiry : (library known : List Stored) (d e : Data) (premises later : List Origin) (i : Option InquiryOf)
    → known ≡ library → e.kinds ≡ d.kinds → e.statements ≡ d.statements → e.instances ≡ d.instances
    → later ≡ premises → IfSome i (IsInquiry (ground_at library d premises))
    → IfSome i (IsInquiry (ground_at known e later))
stayed_inquiry library known d e premises later (Some i) same kinds statements instances origins h =
    let there = moved_inquiry library d e.contents e.params premises i h in
    subst (λ (P : Type 0). P) (λ j. IsInquiry (ground_at (sym same j) (record {
      kinds = sym kinds j;
      contents = e.contents;
      params = e.params;
      statements = sym statements j;
      instances = sym instances j;
    }) (sym origins j)) i) there
stayed_inquiry library known d e premises later None same kinds statements instances origins h = tt
