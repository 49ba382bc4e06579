-- What is foreseen of a term's value is known of it at points that satisfy the state.
use Rattle.std.proofs.Common.{◌≡◌, ℕ, List, Some, subst}
use Rattle.prop_lattice.specs.Points.{Point, Number, Element, Symbol, Holds, IsPointOf}
use Rattle.prop_lattice.specs.declared.info.Info.TheVariants as infos
use Rattle.prop_lattice.specs.declared.info.Kind.{Kind}
use Rattle.prop_lattice.specs.declared.info.Kind.TheVariants as kinds
use Rattle.prop_lattice.specs.declared.span.Span.{Span}
use Rattle.prop_premises.specs.Origins.{Origin}
use Rattle.prop_procedures.specs.Stored.{Stored}
use Rattle.prop_cells.specs.Data.{Data}
use Rattle.prop_compound.specs.Definitions.{Definitions}
use Rattle.prop_vocabulary.specs.Cells.{CellNames}
use Rattle.prop_vocabulary.specs.Vocabulary.{Vocabulary}
use Rattle.prop_terms.specs.Meaning.{Names, worth}
use Rattle.prop_terms.specs.Terms.{Term}
use Rattle.prop_meaning.specs.Foreseeing.{IsForeseen}
use Rattle.prop_meaning.specs.Words.{LiesIn, value_as}
use Rattle.prop_meaning.specs.declared.known.Known.{Known}
use Rattle.prop_workbench.specs.Sessions.{state_from}
use Rattle.prop_demands.specs.Foreseeing.{IsKnownIn}
use Rattle.prop_demands.specs.inner.Glossaries.{IsWhole, lexicon_in, seen}
use Rattle.prop_demands.specs.inner.Laws.{IsGround}
use Rattle.prop_demands.proofs.LexiconLemmas.{lexicon_law, names_alike, points_fit}

-- a number that lies in the span is one that it holds
holds_from : (kind : Kind) (size : ℕ) (span : Span) (p : Point) → IsPointOf kind size p → LiesIn span p
    → kind ≡ kinds.Span → Holds (infos.Span span) p
holds_from kind size span (Number z) of lies is = lies
holds_from kind size span (Element i) of lies is =
    let P : Kind → Type 0 = λ k. IsPointOf k size (Element i) in absurd (subst P is of)
holds_from kind size span (Symbol n) of lies is =
    let P : Kind → Type 0 = λ k. IsPointOf k size (Symbol n) in absurd (subst P is of)

pub foreseen_is_known : (library : List Stored) (names : CellNames) (words : Vocabulary) (definitions : Definitions)
    (premises : List Origin) (d : Data) (limit : ℕ) (whole : Span) (domains : ℕ) (t : Term) (known : Known)
    → IsGround library names words d → IsWhole whole
    → IsForeseen (lexicon_in (seen names words d whole domains)) t known
    → IsKnownIn library (state_from names words definitions premises d limit) t known.kinded known.span
foreseen_is_known library names words definitions premises d limit whole domains t known ground is_whole foreseen
    believed points q =
    let lexicon = lexicon_in (seen names words d whole domains) in
    let law = lexicon_law names words d whole domains ground.law ground.sized in
    let fits = points_fit library names words d whole domains ground.kept is_whole believed points q in
    let f = foreseen law points fits in
    let alike = names_alike names words d whole domains ground.named points f.0 f.1 in
    let P : Names → Type 0 = λ n. worth n t ≡ Some (value_as lexicon known.kinded f.2) in
    (f.2, f.3.0, holds_from known.kinded.kind known.kinded.size known.span f.2 f.3.0 f.3.1, subst P alike f.4)
