-- The posting that a term becomes.
use Rattle.std.specs.Prelude.{◌≡◌, ℕ, List, map}
use Rattle.prop_lattice.specs.Ends.{elements_from}
use Rattle.prop_lattice.specs.declared.info.Info.{Info}
use Rattle.prop_lattice.specs.declared.span.Span.{Span}
use Rattle.prop_procedures.specs.declared.shape.Kinded.{Kinded}
use Rattle.prop_terms.specs.Terms.{Term}
use Rattle.prop_vocabulary.specs.Cells.{CellNames}
use Rattle.prop_vocabulary.specs.Vocabulary.{Vocabulary}
use Rattle.prop_cells.specs.Data.{Data}
use Rattle.prop_workbench.specs.declared.posting.Posting.{Posting}
use Rattle.prop_workbench.specs.declared.posting.Stated.{Stated}
use Rattle.prop_meaning.specs.Foreseeing.{IsForeseen}
use Rattle.prop_meaning.specs.Palette.{IsFlatOf}
use Rattle.prop_meaning.specs.Posting.{SaysSame}
use Rattle.prop_meaning.specs.Words.{Lexicon}
use Rattle.prop_meaning.specs.declared.known.Known.{Known}
use Rattle.prop_meaning.specs.declared.posting.Posted.{Posted}
use Rattle.prop_demands.specs.inner.Fitting.{AllFits}
use Rattle.prop_demands.specs.inner.Glossaries.{IsWhole, lexicon_in, seen}
use Rattle.prop_demands.specs.inner.Palettes.{rule_number}

-- what is stated, as a pair with its place
abbrev pub constant_of : Stated → ℕ × Info
constant_of x = (x.place, x.info)

-- the posting has the fresh cells and the instances of what was posted, states the constants, and
-- tells that the result is `yes`
pub record IsPostingOf (posted : Posted) (p : Posting) : Type 0 where
  pub flat : IsFlatOf rule_number posted p.flat
  pub fixed : map constant_of p.fixed.items ≡ posted.constants.items
  pub told : constant_of p.told ≡ (posted.result, elements_from 1)

-- the posting says the same as the term, and fits cells of these kinds
pub record IsUnderstood (lexicon : Lexicon) (words : Vocabulary) (kinds : List Kinded) (t : Term)
    (p : Posting) : Type 0 where
  pub posted : Posted
  pub says : SaysSame lexicon posted t
  pub fits : AllFits words kinds posted
  pub posting : IsPostingOf posted p

-- this posting says the term, by what is there before anything is believed
abbrev pub IsUnderstoodIn : CellNames → Vocabulary → Data → Term → Posting → Type 0
IsUnderstoodIn names words cells t p = (whole : Span) × (domains : ℕ) × IsWhole whole
    × IsUnderstood (lexicon_in (seen names words cells whole domains)) words cells.kinds t p

-- this is known of the term's value, by what is there before anything is believed
abbrev pub IsForeseenIn : CellNames → Vocabulary → Data → Term → Known → Type 0
IsForeseenIn names words cells t known = (whole : Span) × (domains : ℕ) × IsWhole whole
    × IsForeseen (lexicon_in (seen names words cells whole domains)) t known
