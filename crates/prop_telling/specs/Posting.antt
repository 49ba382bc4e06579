-- What a teller does with what a layer above posts.
use Rattle.std.specs.Prelude.{◌≡◌, ◌⊎◌, ℕ, List, Option, Result, ⊤, length}
use Rattle.prop_refusals.specs.declared.refusal.Refusal.{Refusal}
use Rattle.prop_procedures.specs.Stored.{Stored}
use Rattle.prop_workbench.specs.declared.posting.Posting.{Posting}
use Rattle.prop_workbench.specs.Engine.{WorkFits}
use Rattle.prop_workbench.specs.Posting.{IsPosted}
use Rattle.prop_workbench.specs.Steps.{Covers}
use Rattle.prop_notes.specs.Notes.{required, with_note}
use Rattle.prop_telling.specs.Telling.{Told}

-- The session takes it, and it is noted unless nothing has changed. What was learned still covers
-- what it covered.
pub record TellsPosting {O : Type 0} (library : List Stored) (old : Told O) (cells : List ℕ)
    (posting : Posting) (premise : Option (List ℕ)) (result : Result ⊤ Refusal) (new : Told O) :
    Type 0 where
  pub posted : IsPosted library old.standing.shown.state cells posting premise result
      new.standing.shown.state
  pub covers : (named : List (List ℕ)) → Covers old.standing.shown named
      → Covers new.standing.shown named
  pub fits : WorkFits library old.standing → WorkFits library new.standing
  pub noted :
      let s = old.standing.shown.state in
      (new.notes ≡ with_note old.notes (required (length s.kinds) (length s.instances)))
      ⊎ ((new.notes ≡ old.notes) × (new.standing.shown.state ≡ s))
