-- What a session keeps.
use Rattle.std.proofs.Common.{◌<◌, ℕ, List, [], ◌∷◌, ◌++◌, Result, Ok, Err, OnOk, OnErr, ◌≡◌, All, length, refl, sym}
use Rattle.std.proofs.Common.{subst, arith, ◌+◌, ◌≤◌, ◌∙◌, ◌⊎◌, inl, inr, ap, Some, None}
use Rattle.std.proofs.lemmas.Bool.{cases_lt, le-leb}
use Rattle.prop_refusals.specs.declared.refusal.Limit.TheVariants.{Cells}
use Rattle.prop_refusals.specs.declared.refusal.Refusal.TheVariants.{LimitReached}
use Rattle.prop_refusals.specs.Refusals.{most, when}
use Rattle.prop_procedures.specs.declared.shape.Kinded.{Kinded}
use Rattle.prop_cells.specs.Data.{Data}
use Rattle.prop_cells.specs.Refusing.{cell_refusal}
use Rattle.prop_scheduler.specs.Making.{with_fresh_cells}
use Rattle.prop_workbench.specs.Sessions.{HasRoom}
use Rattle.std.proofs.lemmas.List.Elements.{All-weaker, All-push}
use Rattle.std.proofs.lemmas.List.{length-append}
use Rattle.std.specs.Prelude.{⊤}
use Rattle.prop_lattice.specs.declared.info.Info.{Info}
use Rattle.prop_refusals.specs.declared.refusal.Refusal.{Refusal}
use Rattle.prop_procedures.specs.declared.shape.Param.{Param}
use Rattle.prop_workbench.specs.declared.session.Session.{Session}
use Rattle.prop_workbench.specs.Sessions.{IsInOrder}
use Rattle.prop_workbench.specs.inner.Sessions.{Keeps, Stays}

-- one cell more, with a name
pub one_more_named : {A : Type 0} (cells : List ℕ) (kinds : List A) (kind : A) → All (λ k. k < length kinds) cells
    → All (λ k. k < length (kinds ++ kind ∷ [])) (cells ++ length kinds ∷ [])
one_more_named cells kinds kind all =
    let more = length-append kinds (kind ∷ []) in
    All-push (λ k. k < length (kinds ++ kind ∷ [])) cells (length kinds)
    (All-weaker (λ k. k < length kinds) (λ k. k < length (kinds ++ kind ∷ [])) (λ k h. omega (arith, h, more)) cells
    all) (omega (arith, more))

-- there is room for it, where it is not refused
pub room_for_one : (d : Data) (kind : Kinded) → cell_refusal d ≡ None → HasRoom d
    → HasRoom (with_fresh_cells d (kind ∷ []))
room_for_one d kind fits room =
    (by (cases_lt (length d.kinds) (most Cells)) (length-append d.kinds (kind ∷ [])), room.1)
  where
    by : (length d.kinds < most Cells) ⊎ (most Cells ≤ length d.kinds)
        → length (d.kinds ++ kind ∷ []) ≡ length d.kinds + 1 → length (d.kinds ++ kind ∷ []) ≤ most Cells
    by (inl l) more = omega (arith, l, more)
    by (inr h) more =
        let full : Some (LimitReached Cells) ≡ None =
        sym (ap (when (LimitReached Cells)) (le-leb (most Cells) (length d.kinds) h)) ∙ fits in cc

-- what is true of a part before, and of what it is to become, is true of it after, whether that was made or refused
pub made_or_not : {A : Type 0} (P : A → Type 0) (old new made : A) (r : Result ⊤ Refusal) → OnOk r (new ≡ made)
    → OnErr r (new ≡ old) → P old → P made → P new
made_or_not P old new made (Ok t) e f before after = subst P (sym e) after
made_or_not P old new made (Err refusal) e f before after = subst P (sym f) before

-- a command that covers what was covered leaves the session in order
pub stays : {R O : Type 0} {X : Type 0} {F : X → Type 0} {g : _} {value : R → Param → List Info
    → Info} {old new : Session R O X F g} → Keeps value old new → Stays value old new
stays k = record { library = k.library; sound = k.sound; steps = k.steps }

-- nothing changes
pub unchanged : {R O : Type 0} {X : Type 0} {F : X → Type 0} {g : _} {value : R → Param → List Info
    → Info} {s : Session R O X F g} → IsInOrder value s → Keeps value s s
unchanged sound = record { library = refl; sound = sound; steps = refl; covers = λ m covered. covered }
