-- A use by name: it stands for what the same use by numbers stands for, and is refused for the same.
use Rattle.std.proofs.Common.{◌≡◌, ◌∙◌, ℕ, ◌+◌, ◌-◌, ◌||◌, false, List, [], ◌∷◌, Option, Some, None, map, length}
use Rattle.std.proofs.Common.{is_none, nat_lt, refl, sym}
use Rattle.std.specs.List.{list_any, range_with_len}
use Rattle.std.proofs.lemmas.List.{length-map}
use Rattle.prop_refusals.specs.Refusals.{most, first_of, when}
use Rattle.prop_refusals.specs.declared.refusal.Limit.TheVariants.{Cells, Instances}
use Rattle.prop_refusals.specs.declared.refusal.Refusal.{Refusal}
use Rattle.prop_refusals.specs.declared.refusal.Refusal.TheVariants.{NoSuchProcedure, WrongCount, WrongKind}
use Rattle.prop_refusals.specs.declared.refusal.Refusal.TheVariants.{WrongParameter, LimitReached}
use Rattle.prop_procedures.specs.declared.shape.Kinded.{Kinded}
use Rattle.prop_procedures.specs.Stored.{Stored}
use Rattle.prop_procedures.specs.Fitting.{kind_at}
use Rattle.prop_premises.specs.Origins.{Origin}
use Rattle.prop_cells.specs.Data.{Data}
use Rattle.prop_language.specs.Commands.{By}
use Rattle.prop_vocabulary.specs.Cells.{CellNames}
use Rattle.prop_vocabulary.specs.Vocabulary.{Vocabulary}
use Rattle.prop_compound.specs.Definitions.{Definitions}
use Rattle.prop_compound.specs.Definitions as numbers
use Rattle.prop_compound.specs.Expansion.{Walk, expanded, start}
use Rattle.prop_compound.specs.Expanding.{expand_refusal, is_kind_wrong, is_param_wrong}
use Rattle.prop_compound.specs.Compounds.{given_by, use_added}
use Rattle.prop_compound.specs.Numbered.{compounds_of}
use Rattle.prop_compound.proofs.ByNumber.{none_numbered, miscounted_numbered}
use Rattle.prop_compound.proofs.ByName.{used_same}
use Rattle.prop_scheduler.specs.Making.{room_refusal}
use Rattle.prop_workbench.specs.Machine.{State}
use Rattle.prop_workbench.specs.Effects.{used}
use Rattle.prop_workbench.specs.inner.Refusing.{use_refusal}
use Rattle.prop_workbench.specs.Sessions.{state_from, AreNumbered}

-- refusals that are looked at in turn
in_turn : (a b c d e f r : Option Refusal) → first_of (a ∷ b ∷ c ∷ d ∷ e ∷ f ∷ r ∷ []) ≡ first_of (
    first_of (a ∷ b ∷ first_of (c ∷ d ∷ []) ∷ first_of (e ∷ f ∷ []) ∷ []) ∷ r ∷ [])
in_turn (Some x) b c d e f r = refl
in_turn None (Some x) c d e f r = refl
in_turn None None (Some x) d e f r = refl
in_turn None None None (Some x) e f r = refl
in_turn None None None None (Some x) f r = refl
in_turn None None None None None (Some x) r = refl
in_turn None None None None None None r = refl

module _ (library : List Stored) (names : CellNames) (words : Vocabulary) (definitions : Definitions)
    (premises : List Origin) (d : Data) (limit : ℕ) (name : List ℕ) (cells : List ℕ) (by : By)
    (numbered : AreNumbered words definitions) where
  abbrev state : State
  state = state_from names words definitions premises d limit

  abbrev kinds : List Kinded
  kinds = map (kind_at d.kinds) cells

  abbrev by_number : Walk
  by_number = expanded library words definitions name kinds (given_by words by)

  -- what it stands for
  pub used_is : used library state name cells by ≡ by_number
  used_is =
      (λ i. use_added library (compounds_of words.relations definitions) name
      (range_with_len 0 (sym (length-map cells (kind_at d.kinds)) i)) (given_by words by) (start kinds false))
      ∙ used_same library words numbered.relations definitions numbered.names kinds (given_by words by) name

  abbrev room : Option Refusal
  room = room_refusal (length d.kinds + (length (used library state name cells by).kinds - length cells))
      (length d.instances + length (used library state name cells by).placed)

  -- and why it is refused
  pub use_refusal_is : use_refusal library state name cells by ≡ first_of
      (expand_refusal library words definitions name kinds (given_by words by) ∷ room ∷ [])
  use_refusal_is =
      let count : length cells ≡ length kinds = sym (length-map cells (kind_at d.kinds)) in
      let e = used library state name cells by in
      let none = none_numbered words.relations library definitions numbered.names name in
      let wrong = miscounted_numbered words.relations library definitions numbered.names name (length cells) in
      (λ i. first_of (
      when NoSuchProcedure (none i)
      ∷ when WrongCount (wrong i)
      ∷ when (LimitReached Cells) (nat_lt (most Cells) (length e.kinds - length cells))
      ∷ when (LimitReached Instances) (nat_lt (most Instances) (length e.placed))
      ∷ when WrongKind (list_any (is_kind_wrong library e.kinds) e.placed)
      ∷ when WrongParameter (e.spare || list_any (is_param_wrong library) e.placed)
      ∷ room
      ∷ []
      ))
      ∙ (λ i. first_of (
      when NoSuchProcedure (is_none (numbers.used_named library definitions name))
      ∷ when WrongCount (numbers.is_miscounted library definitions name (count i))
      ∷ when (LimitReached Cells) (nat_lt (most Cells) (length (used_is i).kinds - count i))
      ∷ when (LimitReached Instances) (nat_lt (most Instances) (length (used_is i).placed))
      ∷ when WrongKind (list_any (is_kind_wrong library (used_is i).kinds) (used_is i).placed)
      ∷ when WrongParameter ((used_is i).spare || list_any (is_param_wrong library) (used_is i).placed)
      ∷ room
      ∷ []
      ))
      ∙ in_turn (when NoSuchProcedure (is_none (numbers.used_named library definitions name)))
      (when WrongCount (numbers.is_miscounted library definitions name (length kinds)))
      (when (LimitReached Cells) (nat_lt (most Cells) (length by_number.kinds - length kinds)))
      (when (LimitReached Instances) (nat_lt (most Instances) (length by_number.placed)))
      (when WrongKind (list_any (is_kind_wrong library by_number.kinds) by_number.placed))
      (when WrongParameter (by_number.spare || list_any (is_param_wrong library) by_number.placed)) room
