-- How a command that runs the network may end, and what it may answer then.
use Rattle.std.specs.Prelude.{◌≡◌, ◌≢◌, ℕ, IsTrue, ◌+◌, ◌*◌, ◌<◌, List, [], ◌∷◌, ◌++◌, length}
use Rattle.std.specs.Prelude.{codes, Some, All, ◌⊎◌}
use Rattle.std.specs.List.Sorted.{IsStrictlyIncreasing}
use Rattle.prop_lattice.specs.declared.info.Info.{Info}
use Rattle.prop_lattice.specs.declared.info.Info.TheVariants as infos
use Rattle.prop_lattice.specs.Order.{Below}
use Rattle.prop_lattice.specs.Rank.{IsOf}
use Rattle.prop_numbers.specs.Sets.{Members, set_of, IsPart}
use Rattle.prop_premises.specs.ChoiceLists.{IsChoiceList, lists_count}
use Rattle.prop_premises.specs.Origins.{believed_in}
use Rattle.prop_procedures.specs.Stored.{Stored}
use Rattle.prop_cells.specs.Problems.{Assignment, IsLeastSolution, Entails, is_member}
use Rattle.prop_cells.specs.Reach.{Explains}
use Rattle.prop_procedures.specs.Fitting.{kind_at}
use Rattle.prop_scheduler.specs.Potential.{most_steps}
use Rattle.prop_nogoods.specs.Stores.{AreMinimal}
use Rattle.prop_amb.specs.Refuted.{IsRefuted, IsNogood, IsGrounded, IsCovered, IsFirstConsistent}
use Rattle.prop_amb.specs.Refuted.{AllBeforeRefuted}
use Rattle.prop_language.specs.Commands.{Command}
use Rattle.prop_workbench.specs.Machine.{State, problem_in, choices_in, worldview_at}
use Rattle.prop_workbench.specs.Points.{Satisfy, NoneSatisfy}
use Rattle.prop_lattice.specs.Points.{Point, Holds}
use Rattle.prop_texts.specs.Texts.{equation, because, contradiction_text, worldview_text}
use Rattle.prop_vocabulary.specs.Cells.{cell_named}
use Rattle.prop_vocabulary.specs.Texts.{value_text}
use Rattle.prop_explain.specs.Irreducible.{IsIrreducible}

-- how a run ends: settled on a choice list, unsettled on one, or in a contradiction of premises
pub data Outcome : Type 0 where
  Settled : (list : List ℕ) → Outcome
  Unsettled : (list : List ℕ) → Outcome
  Contradiction : (premises : List ℕ) → Outcome

-- the worldview of the list on which a run ended; where it ended in a contradiction, the user's
-- believed premises
abbrev pub worldview_of : State → Outcome → Members
worldview_of s (Settled list) = worldview_at s list
worldview_of s (Unsettled list) = worldview_at s list
worldview_of s (Contradiction ps) = believed_in s.premises

-- the assignment is the least solution over the worldview of the list, and has no contradiction
abbrev pub IsRest : List Stored → State → List ℕ → Assignment → Type 0
IsRest library s list a = IsLeastSolution (problem_in library s) (worldview_at s list) a
    × ((cell : ℕ) → a cell ≢ infos.Contradiction)

-- more steps than a run may take: for each choice list one more than the most calls that it can
-- need
abbrev pub steps_in_all : List Stored → State → ℕ
steps_in_all library s = lists_count (choices_in s) * (most_steps (problem_in library s) + 1)

-- How a run may end. It settles on the first consistent choice list, over whose worldview there is
-- a least solution without a contradiction. Or it stops unsettled on a list: every list before that
-- one is refuted, and the limit is less than what all lists may take. Or it ends in a
-- contradiction: with these premises, which the user believes, every choice list is refuted, each
-- of them belongs to a nogood whose premises of the user's are all among them, and no points
-- satisfy them.
abbrev pub MayEnd : List Stored → State → Outcome → Type 0
MayEnd library s (Settled list) =
    IsFirstConsistent (problem_in library s) (believed_in s.premises) (choices_in s) list
    × (solution : Assignment) × IsRest library s list solution
MayEnd library s (Unsettled list) = IsChoiceList (choices_in s) list
    × AllBeforeRefuted (problem_in library s) (believed_in s.premises) (choices_in s) list
    × (s.limit + 1 < steps_in_all library s)
MayEnd library s (Contradiction ps) = IsPart (set_of ps) (believed_in s.premises)
    × IsRefuted (problem_in library s) (choices_in s) (set_of ps)
    × IsGrounded (problem_in library s) (choices_in s) (set_of ps) × NoneSatisfy library s ps

-- the contradictions that are named after a run: that in which it ended joins those named before
abbrev pub named_by : Outcome → List (List ℕ) → List (List ℕ)
named_by (Contradiction ps) named = named ++ ps ∷ []
named_by outcome named = named

-- The value may be given for the cell. After a run that settled it is the cell's information in the
-- least solution over the worldview of the list. After one that didn't, it is of the cell's kind,
-- the worldview entails it, and it says at least what the believed statements say of the cell.
-- After a contradiction there is none.
abbrev pub IsValue : List Stored → State → Outcome → ℕ → Info → Type 0
IsValue library s (Settled list) cell v =
    (solution : Assignment) × IsRest library s list solution × (v ≡ solution cell)
IsValue library s (Unsettled list) cell v =
    IsOf (kind_at s.kinds cell).kind (kind_at s.kinds cell).size v
    × Entails (problem_in library s) (worldview_at s list) cell v
    × All (λ x. IsTrue (is_member (worldview_at s list) x.premise) → x.cell ≡ cell
    → Below x.info v) s.statements
IsValue library s (Contradiction ps) cell v = ⊥

-- The text gives a value of the cell with the name, and then what stands behind it. Whichever
-- points satisfy the worldview, the cell's lies in the value.
pub record IsValueReply (library : List Stored) (s : State) (outcome : Outcome)
    (name behind text : List ℕ) : Type 0 where
  pub cell : ℕ
  pub cell_is : cell_named s.names name ≡ Some cell
  pub v : Info
  pub value : IsValue library s outcome cell v
  pub points : (p : ℕ → Point) → Satisfy library s (worldview_of s outcome) p → Holds v (p cell)
  pub text_is : text ≡ equation name (value_text s.words (kind_at s.kinds cell).kind v) behind

-- the text gives a value, the mark, and believed premises that entail the value by themselves, each
-- of which reaches the cell
pub record IsExplainedReply (library : List Stored) (s : State) (outcome : Outcome)
    (name mark text : List ℕ) : Type 0 where
  pub premises : List ℕ
  pub in_order : IsStrictlyIncreasing premises
  pub says : IsValueReply library s outcome name (because s.premises mark premises) text
  pub explains : Explains (problem_in library s) (worldview_of s outcome) says.cell says.v
      (set_of premises)

-- The text may reply to the command after a run that ended so and took these steps. An unsettled
-- reply, or premises of a core that aren't reduced, come only where each step of the limit was
-- taken. Otherwise none of the premises of a core can be left out. They may stay unreduced only
-- where the limit is less than what all lists, and a try of each premise, may take.
abbrev pub Replies : List Stored → State → Command → Outcome → ℕ → List ℕ → Type 0
Replies library s command (Contradiction ps) steps text =
    IsStrictlyIncreasing ps × (text ≡ contradiction_text s.premises ps)
Replies library s Command.Settle (Settled list) steps text = text ≡ codes "settled"
Replies library s Command.Worldview (Settled list) steps text =
    text ≡ worldview_text s.premises (worldview_at s list)
Replies library s (Command.Ask x) (Settled list) steps text =
    IsValueReply library s (Settled list) x [] text
Replies library s (Command.Ask x) (Unsettled list) steps text =
    IsValueReply library s (Unsettled list) x (codes " unsettled") text × (steps ≡ s.limit)
Replies library s (Command.Why x) (Settled list) steps text =
    IsExplainedReply library s (Settled list) x [] text
Replies library s (Command.Why x) (Unsettled list) steps text =
    IsExplainedReply library s (Unsettled list) x (codes " unsettled") text × (steps ≡ s.limit)
Replies library s (Command.Core x) (Settled list) steps text =
    ((r : IsExplainedReply library s (Settled list) x [] text)
    × IsIrreducible (problem_in library s) (set_of r.premises) r.says.cell r.says.v)
    ⊎ (IsExplainedReply library s (Settled list) x (codes " not reduced") text × (steps ≡ s.limit)
    × (s.limit < steps_in_all library s + length s.premises * most_steps (problem_in library s)))
Replies library s (Command.Core x) (Unsettled list) steps text =
    IsExplainedReply library s (Unsettled list) x (codes " unsettled") text × (steps ≡ s.limit)
Replies library s command (Unsettled list) steps text =
    (text ≡ codes "unsettled") × (steps ≡ s.limit)
Replies library s command outcome steps text = ⊥

-- ---- nogoods

-- Nogoods, each with its premises in order of number, none of which is part of another. They cover
-- each contradiction that was named: with every choice list, one of them is part of the
-- contradiction together with the list's hypothetical premises (the sides that it takes).
pub record AreNogoods (library : List Stored) (s : State) (lines : List (List ℕ)) : Type 0 where
  pub in_order : All IsStrictlyIncreasing lines
  pub refuted : All (λ n. IsNogood (problem_in library s) (choices_in s) (set_of n)) lines
  pub minimal : AreMinimal lines
  pub covers : All (λ m. IsCovered (choices_in s) lines (set_of m)) s.named
