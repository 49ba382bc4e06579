-- What a command that runs nothing leaves of the choices and of what waits.
use Rattle.std.proofs.Common.{◌≡◌, ◌∙◌, ◌++◌, ◌∷◌, ℕ, zero, suc, List, [], Option, Some, None, Result, Ok, Err, OnOk}
use Rattle.std.proofs.Common.{OnErr, length, map, refl, sym, ap, inl, inr}
use Rattle.std.specs.Prelude.{⊤}
use Rattle.prop_refusals.specs.declared.refusal.Refusal.{Refusal}
use Rattle.prop_numbers.specs.Sets.{set_of}
use Rattle.prop_premises.specs.Origins.{premise_number}
use Rattle.prop_procedures.specs.Stored.{Stored}
use Rattle.prop_procedures.specs.declared.shape.Kinded.{Kinded}
use Rattle.prop_contents.specs.Contents.{Entry, beliefs, content_of}
use Rattle.prop_cells.specs.declared.instance.Statement.{Statement}
use Rattle.prop_cells.specs.Data.{Data, IsKept, States}
use Rattle.prop_scheduler.specs.Shifts.{touching}
use Rattle.prop_scheduler.proofs.Line.{between_none}
use Rattle.prop_scheduler.proofs.Stirring.{stirs_none}
use Rattle.prop_amb.specs.Search.{Stand}
use Rattle.prop_amb.specs.Moving.{interned, declared}
use Rattle.prop_language.specs.Commands as commands
use Rattle.prop_language.specs.Commands.{Command, Value}
use Rattle.prop_engine.specs.Answers.{Answer, Silent, Done, Text, Refused}
use Rattle.prop_workbench.specs.declared.asking.Question.{Question}
use Rattle.prop_workbench.specs.declared.asking.Question.TheVariants.{Settle, Worldview, Ask, Why}
use Rattle.prop_workbench.specs.declared.session.Session.{Session}
use Rattle.prop_workbench.specs.Machine.{State}
use Rattle.prop_amb.specs.Going.{Work}
use Rattle.prop_workbench.specs.Sessions.{AreKnown, state_of, work_of}
use Rattle.prop_workbench.specs.Waking.{HoldsStated, IsAdded, IsShifted, StaysUnlessRun, Wakes, believed_at}
use Rattle.prop_workbench.specs.inner.Effects.{stating}
use Rattle.prop_workbench.specs.Running.{Outcome}
use Rattle.prop_workbench.specs.inner.Questions.{command_of, MaySay}
use Rattle.prop_workbench.specs.inner.Carrying.{HasLeft, HasTold, IfDone}
use Rattle.prop_workbench.proofs.PremiseLemmas.{agree_beliefs}
use Rattle.prop_workbench.proofs.StandingLemmas.{set_before, new_stand}

-- ---- where nothing is touched

-- the same stand, whatever premises there are and whatever is believed
pub stands_by : (stand new like : Stand)
    → new ≡ record stand { premises = like.premises; worldview = like.worldview }
    → new ≡ record stand { premises = new.premises; worldview = new.worldview }
stands_by stand new like is =
    is ∙ (λ i. record stand { premises = (sym is i).premises; worldview = (sym is i).worldview })

pub still_added : {O : Type 0} (w : Work O) → IsAdded w w
still_added w = record {
  search = refl;
  order = refl;
  holds = λ cell. refl;
  line = between_none w.line (length w.cells.instances);
}

pub still_shifted : {O : Type 0} (s : State) (w : Work O) → IsShifted s s w.search w w
still_shifted s w = record {
  search = refl;
  order = refl;
  holds = λ cell. refl;
  line = stirs_none (touching w.cells.instances) (believed_at s w.search) (believed_at s w.search) w.cells w.cells
      w.line (length w.cells.kinds) (λ cell. refl);
}

-- ---- what the cells hold

-- cells that are new hold nothing
pub fresh_hold : (contents : List (List Entry)) (fresh : List Kinded) (cell : ℕ)
    → content_of (contents ++ map (λ k. []) fresh) cell ≡ content_of contents cell
fresh_hold [] fresh cell = nothing fresh cell
  where
    nothing : (more : List Kinded) (k : ℕ) → content_of (map (λ each. []) more) k ≡ []
    nothing [] k = refl
    nothing (each ∷ more) zero = refl
    nothing (each ∷ more) (suc k) = nothing more k
fresh_hold (held ∷ contents) fresh zero = refl
fresh_hold (held ∷ contents) fresh (suc cell) = fresh_hold contents fresh cell

-- one statement was made
pub stated_one : (old new : Data) (x : Statement) → States old new x → HoldsStated old new
stated_one old new x states = (x ∷ [], (new, states, refl))

-- ---- whether it was done or refused

pub left_by : {R O : Type 0} {X : Type 0} {F : X → Type 0} {g : _} (old new : Session R O X F g) (command : Command)
    (r : Result ⊤ Refusal) → Wakes (state_of old) (state_of new) (work_of old) (work_of new) (Ok (Some command)) Done →
    ((e : Refusal) → Wakes (state_of old) (state_of new) (work_of old) (work_of new) (Ok (Some command)) (Refused e))
    → HasLeft old command r new
left_by old new command (Ok done) leaves refused = leaves
left_by old new command (Err e) leaves refused = refused e

pub left_where : {R O : Type 0} {X : Type 0} {F : X → Type 0} {g : _} (old new : Session R O X F g)
    (command : Command) (P : Type 0) (r : Result ⊤ Refusal) → IfDone r P (work_of new ≡ work_of old) →
    (P → Wakes (state_of old) (state_of new) (work_of old) (work_of new) (Ok (Some command)) Done) →
    ((e : Refusal) → work_of new ≡ work_of old
    → Wakes (state_of old) (state_of new) (work_of old) (work_of new) (Ok (Some command)) (Refused e))
    → HasLeft old command r new
left_where old new command P (Ok done) does leaves refused = leaves does
left_where old new command P (Err e) same leaves refused = refused e same

pub done_or_not : (r : Result ⊤ Refusal) (P Q : Type 0) → OnOk r P → OnErr r Q → IfDone r P Q
done_or_not (Ok done) P Q does refuses = does
done_or_not (Err e) P Q does refuses = refuses

pub on_ok_both : {T E P Q S : Type 0} (r : Result T E) → (P → Q → S) → OnOk r P → OnOk r Q → OnOk r S
on_ok_both (Ok t) f p q = f p q
on_ok_both (Err e) f p q = tt

pub on_err_both : {T E P Q S : Type 0} (r : Result T E) → (P → Q → S) → OnErr r P → OnErr r Q → OnErr r S
on_err_both (Ok t) f p q = tt
on_err_both (Err e) f p q = f p q

-- what is stated under a premise or under none
pub left_stating : {R O : Type 0} {X : Type 0} {F : X → Type 0} {g : _} (old new : Session R O X F g)
    (premise : Option (List ℕ)) (cell : List ℕ) (value : Value) (r : Result ⊤ Refusal)
    → HasTold old r new → HasLeft old (stating premise cell value) r new
left_stating old new None cell value r told =
    left_where old new (commands.Command.Fix cell value) _ r told (λ h. h) (λ e h. h)
left_stating old new (Some premise) cell value r told =
    left_where old new (commands.Command.Tell premise cell value) _ r told (λ h. h) (λ e h. h)

-- the list of nogoods changes nothing
pub wakes_nogoods : {O : Type 0} (s : State) (work : Work O) (answer : Answer)
    → Wakes s s work work (Ok (Some commands.Command.Nogoods)) answer
wakes_nogoods s work Silent = refl
wakes_nogoods s work Done = still_added work
wakes_nogoods s work (Text text) = refl
wakes_nogoods s work (Refused refusal) = refl

-- what runs the network says itself what it did, and memory alone is refused in a run
pub stays_said : {O : Type 0} (library : List Stored) (s : State) (command : Command) (outcome : Outcome) (steps : ℕ)
    (answer : Answer) (old new : Work O) → MaySay library s command outcome steps answer
    → StaysUnlessRun old new answer
stays_said library s command outcome steps answer old new (inl text) = rw text.2 tt
stays_said library s command outcome steps answer old new (inr memory) = rw memory tt

pub wakes_asked : {O : Type 0} (s t : State) (old new : Work O) (question : Question) (answer : Answer)
    → StaysUnlessRun old new answer → Wakes s t old new (Ok (Some (command_of question))) answer
wakes_asked s t old new Settle answer stays = stays
wakes_asked s t old new Worldview answer stays = stays
wakes_asked s t old new (Ask cell name) answer stays = stays
wakes_asked s t old new (Why cell name) answer stays = stays

-- ---- a name or a choice that is taken up changes no belief

pub named_beliefs : (library : List Stored) (old new : Stand) (name : List ℕ) (d : Data) → IsKept library d
    → AreKnown (length old.premises) d.statements → premise_number old.premises name ≡ None → new ≡ interned old name →
    beliefs (set_of new.worldview) d.contents ≡ beliefs (set_of old.worldview) d.contents
named_beliefs library old new name d kept known none made =
    let n = length old.premises in
    ap (λ (t : Stand). beliefs (set_of t.worldview) d.contents) (made ∙ new_stand old name none)
    ∙ agree_beliefs library d n (set_of old.worldview) (set_of (old.worldview ++ n ∷ [])) kept known
    (λ p l. set_before old.worldview n p l)

pub declared_beliefs : (library : List Stored) (old new : Stand) (name : List ℕ) (sides : ℕ) (d : Data)
    → IsKept library d → AreKnown (length old.premises) d.statements → new ≡ declared old name sides →
    beliefs (set_of new.worldview) d.contents ≡ beliefs (set_of old.worldview) d.contents
declared_beliefs library old new name sides d kept known made =
    ap (λ (t : Stand). beliefs (set_of t.worldview) d.contents) made
