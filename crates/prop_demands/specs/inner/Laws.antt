-- Two laws: what is understood of a term may be posted, and the term is demanded then.
use Rattle.std.specs.Prelude.{ℕ, ◌<◌, ◌≤◌, List, All, Option, Result, ⊤, length}
use Rattle.std.specs.List.{range_with_len}
use Rattle.prop_refusals.specs.declared.refusal.Refusal.{Refusal}
use Rattle.prop_premises.specs.Origins.{Origin}
use Rattle.prop_procedures.specs.Stored.{Stored}
use Rattle.prop_cells.specs.Data.{Data, IsKept}
use Rattle.prop_cells.specs.Points.{AreFitting, Attached}
use Rattle.prop_cells.specs.declared.instance.Statement.{Statement}
use Rattle.prop_compound.specs.Definitions.{Definitions}
use Rattle.prop_compound.specs.Kinds.{IsSized}
use Rattle.prop_lattice.specs.declared.span.Span.{Span}
use Rattle.prop_terms.specs.Terms.{Term}
use Rattle.prop_vocabulary.specs.Cells.{CellNames}
use Rattle.prop_vocabulary.specs.Vocabulary as vocabularies
use Rattle.prop_vocabulary.specs.Vocabulary.{Vocabulary}
use Rattle.prop_workbench.specs.Machine.{State}
use Rattle.prop_workbench.specs.Points.{attached_in}
use Rattle.prop_workbench.specs.Posting.{IsPosted, MayBePosted}
use Rattle.prop_workbench.specs.Sessions.{state_from}
use Rattle.prop_workbench.specs.declared.posting.Posting.{Posting}
use Rattle.prop_demands.specs.Demanding.{Demands, demanded}
use Rattle.prop_demands.specs.inner.Glossaries.{IsWhole, lexicon_in, seen}
use Rattle.prop_demands.specs.inner.Palettes.{IsPalette}
use Rattle.prop_demands.specs.inner.Postings.{IsUnderstood}

-- each instance fits its cells, and each statement is of a cell that is there
pub record IsSolid (library : List Stored) (n : Attached) : Type 0 where
  pub fit : AreFitting library n
  pub within : All (λ (x : Statement). x.cell < length n.kinds) n.statements

-- What is known of the parts of a session: the vocabulary is whole, kinds are of domains that are
-- there, names are of cells that are there, and each entry follows from its premises.
pub record IsGround (library : List Stored) (names : CellNames) (words : Vocabulary) (d : Data) :
    Type 0 where
  pub law : vocabularies.IsWhole words
  pub sized : All (IsSized words) d.kinds
  pub named : All (λ cell. cell < length d.kinds) names.cells
  pub kept : IsKept library d

-- what is understood of a term may be posted between the cells that are there
abbrev pub MayAllBePosted : List Stored → Type 0
MayAllBePosted library = (names : CellNames) (words : Vocabulary) (definitions : Definitions)
    (premises : List Origin) (d : Data) (limit : ℕ) (whole : Span) (domains : ℕ) (t : Term)
    (p : Posting) → IsPalette library → length d.kinds ≤ 100_000
    → IsUnderstood (lexicon_in (seen names words d whole domains)) words d.kinds t p
    → MayBePosted library (state_from names words definitions premises d limit)
    (range_with_len 0 (length d.kinds)) p

-- However the posting of what was understood ends, the new state demands what it should: the term
-- where it was done, and nothing more where it was refused.
abbrev pub PostingDemands : List Stored → Type 0
PostingDemands library = (names : CellNames) (words : Vocabulary) (definitions : Definitions)
    (premises : List Origin) (d : Data) (limit : ℕ) (whole : Span) (domains : ℕ) (t : Term)
    (p : Posting) → IsPalette library → IsGround library names words d → IsWhole whole
    → IsUnderstood (lexicon_in (seen names words d whole domains)) words d.kinds t p
    → (new : State) (premise : Option (List ℕ)) (result : Result ⊤ Refusal)
    → IsSolid library (attached_in new)
    → IsPosted library (state_from names words definitions premises d limit)
    (range_with_len 0 (length d.kinds)) p premise result new
    → Demands library (state_from names words definitions premises d limit) new
    (demanded (state_from names words definitions premises d limit) t premise result)
