-- Why a use of a name is refused, and that it is not.
use Rattle.std.proofs.Common.{◌≡◌, ◌∙◌, ℕ, List, [], ◌∷◌, Some, None, map, length, ◌+◌, ◌-◌, ◌⊎◌, inl, inr}
use Rattle.prop_refusals.specs.declared.refusal.Refusal.{Refusal}
use Rattle.prop_refusals.specs.declared.refusal.Refusal.TheVariants.{Memory}
use Rattle.prop_refusals.specs.Refusals.{first_of}
use Rattle.prop_procedures.specs.Stored.{Stored}
use Rattle.prop_procedures.specs.Fitting.{kind_at}
use Rattle.prop_premises.specs.Origins.{Origin}
use Rattle.prop_cells.specs.Data.{Data}
use Rattle.prop_language.specs.Commands.{By}
use Rattle.prop_compound.specs.Definitions.{Definitions}
use Rattle.prop_compound.specs.Expanding.{expand_refusal}
use Rattle.prop_compound.specs.Flattened.{expansion_of_flat}
use Rattle.prop_procedures.specs.declared.flat.Flat.{Flat}
use Rattle.prop_vocabulary.specs.Cells.{CellNames}
use Rattle.prop_vocabulary.specs.Vocabulary.{Vocabulary}
use Rattle.prop_scheduler.specs.Making.{room_refusal}
use Rattle.prop_compound.specs.Compounds.{given_by}
use Rattle.prop_workbench.specs.Effects.{used}
use Rattle.prop_workbench.specs.inner.Refusing.{use_refusal}
use Rattle.prop_workbench.specs.Sessions.{state_from, AreNumbered}
use Rattle.prop_workbench.proofs.NamesLemmas.{use_refusal_is}
use Rattle.prop_workbench.proofs.AttachLemmas.{use_rows}

-- what is not expanded is not used
pub unexpanded : (library : List Stored) (names : CellNames) (words : Vocabulary) (definitions : Definitions)
    (premises : List Origin) (d : Data) (limit : ℕ) (name : List ℕ) (cells : List ℕ) (by : By) (refusal : Refusal)
    → AreNumbered words definitions →
    (expand_refusal library words definitions name (map (kind_at d.kinds) cells) (given_by words by) ≡ Some refusal)
    ⊎ (refusal ≡ Memory) →
    (use_refusal library (state_from names words definitions premises d limit) name cells by ≡ Some refusal)
    ⊎ (refusal ≡ Memory)
unexpanded library names words definitions premises d limit name cells by refusal numbered (inl e) =
    let s = state_from names words definitions premises d limit in
    inl (use_refusal_is library names words definitions premises d limit name cells by numbered
    ∙ (λ i. first_of (e i ∷ room_refusal
    (length d.kinds + (length (used library s name cells by).kinds - length cells))
    (length d.instances + length (used library s name cells by).placed) ∷ [])))
unexpanded library names words definitions premises d limit name cells by refusal numbered (inr m) = inr m

module _ (library : List Stored) (names : CellNames) (words : Vocabulary) (definitions : Definitions)
    (premises : List Origin) (d : Data) (limit : ℕ) (name : List ℕ) (cells : List ℕ) (by : By) (flat : Flat)
    (is : expansion_of_flat (map (kind_at d.kinds) cells) flat ≡ used library
    (state_from names words definitions premises d limit) name cells by)
    (fits : expand_refusal library words definitions name (map (kind_at d.kinds) cells) (given_by words by) ≡ None)
    (numbered : AreNumbered words definitions) where
  rows : use_refusal library (state_from names words definitions premises d limit) name cells by ≡ first_of
      (None ∷ room_refusal (length d.kinds + length flat.fresh.items)
      (length d.instances + length flat.instances.items) ∷ [])
  rows = use_rows library names words definitions premises d limit name cells by flat is numbered
      ∙ (λ i. first_of (fits i ∷ room_refusal (length d.kinds + length flat.fresh.items)
      (length d.instances + length flat.instances.items) ∷ []))

  -- where there is no room, for that
  pub no_room : (refusal : Refusal) → (room_refusal (length d.kinds + length flat.fresh.items)
      (length d.instances + length flat.instances.items) ≡ Some refusal) ⊎ (refusal ≡ Memory) →
      (use_refusal library (state_from names words definitions premises d limit) name cells by ≡ Some refusal)
      ⊎ (refusal ≡ Memory)
  no_room refusal (inl e) = inl (rows ∙ (λ i. first_of (None ∷ e i ∷ [])))
  no_room refusal (inr m) = inr m

  -- where there is room, for nothing
  pub with_room : room_refusal (length d.kinds + length flat.fresh.items)
      (length d.instances + length flat.instances.items) ≡ None
      → use_refusal library (state_from names words definitions premises d limit) name cells by ≡ None
  with_room e = rows ∙ (λ i. first_of (None ∷ e i ∷ []))
