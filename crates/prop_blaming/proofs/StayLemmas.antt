-- What stays where a line is not carried out in silence, or sets the limit.
use Rattle.std.proofs.Common.{◌≡◌, ◌⊎◌, ℕ, Bool, true, false, List, ap, sym, subst, inl, inr}
use Rattle.std.specs.Prelude.{Option, Some, None, IfSome, codes, cond, not, ◌&&◌}
use Rattle.prop_procedures.specs.Stored.{Stored}
use Rattle.prop_engine.specs.Answers.{Answer}
use Rattle.prop_workbench.specs.Questions.{Picks}
use Rattle.prop_telling.specs.Asking.{is_step}
use Rattle.prop_notes.specs.Notes.{is_done}
use Rattle.prop_telling.specs.Telling.{Told, Own, telling}
use Rattle.prop_seeking.specs.Asking.{begins, is_question}
use Rattle.prop_seeking.specs.Seeking.{Seeks, Sought, Strides, seeking}
use Rattle.prop_seeking.proofs.StayLemmas.{Stays, telling_stays}
use Rattle.prop_conflicts.specs.Conflicts.{Ground}
use Rattle.prop_conflicts.specs.declared.explorer.Explorer.{Explorer}
use Rattle.prop_conflicts.specs.inner.Explorers.{IsExplored}

told_stays : {O : Type 0} (old new : Told O) → new ≡ old → Stays old.standing.shown.state new.standing.shown.state
told_stays old new e = record {
  kinds = ap (λ (t : Told _). t.standing.shown.state.kinds) e;
  premises = ap (λ (t : Told _). t.standing.shown.state.premises) e;
  statements = ap (λ (t : Told _). t.standing.shown.state.statements) e;
  instances = ap (λ (t : Told _). t.standing.shown.state.instances) e;
}

own_stays : {O : Type 0} (picks : Picks O) (library : List Stored) (old : Sought O) (line : List ℕ) (answer : Answer)
    (new : Sought O) (b : Bool)
    → Own b ((new.told ≡ old.told) × Seeks library old line answer new.inquiry)
    (((is_step line ≡ true) × Strides old answer new)
    ⊎ (telling picks library old.told line answer new.told × (new.inquiry
    ≡ cond (is_done answer && not (begins (codes "limit") line)) None old.inquiry)))
    → (is_done answer ≡ false) ⊎ (begins (codes "limit") line ≡ true)
    → Stays old.told.standing.shown.state new.told.standing.shown.state
own_stays picks library old line answer new true h calm = told_stays old.told new.told h.0
own_stays picks library old line answer new false (inl strides) calm = told_stays old.told new.told strides.1.1
own_stays picks library old line answer new false (inr tells) calm =
    telling_stays picks library old.told line answer new.told tells.0 calm

pub seeking_stays : {O : Type 0} (picks : Picks O) (library : List Stored) (old : Sought O) (line : List ℕ)
    (answer : Answer) (new : Sought O) → seeking picks library old line answer new
    → (is_done answer ≡ false) ⊎ (begins (codes "limit") line ≡ true)
    → Stays old.told.standing.shown.state new.told.standing.shown.state
seeking_stays picks library old line answer new h calm =
    own_stays picks library old line answer new (is_question line) h calm

-- what is known of a search stays where all is as it was
pub stayed_explored : (g h : Ground) (e : Option Explorer) → h ≡ g → IfSome e (IsExplored g)
    → IfSome e (IsExplored h)
stayed_explored g h e same known = subst (λ (x : Ground). IfSome e (IsExplored x)) (sym same) known
