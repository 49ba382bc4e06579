-- What the words of an expression mean in a session.
use Rattle.std.specs.Prelude.{ℕ, List, [], ◌≡◌, cond, nat_lt, neg_ℤ, None, length, slice_index_or}
use Rattle.std.specs.Str.{is_utf8}
use Rattle.prop_lattice.specs.declared.info.Info.{Info}
use Rattle.prop_lattice.specs.declared.info.Info.TheVariants as infos
use Rattle.prop_lattice.specs.declared.span.Span.{Span}
use Rattle.prop_lattice.specs.declared.span.TheConstants.{B}
use Rattle.prop_numbers.specs.Sets.{set_of}
use Rattle.prop_procedures.specs.Fitting.{kind_at}
use Rattle.prop_vocabulary.specs.Cells.{CellNames, cell_named}
use Rattle.prop_vocabulary.specs.Names.{number_in}
use Rattle.prop_vocabulary.specs.Vocabulary.{Vocabulary, elements_of, relation_named}
use Rattle.prop_contents.specs.Contents.{beliefs}
use Rattle.prop_cells.specs.Data.{Data}
use Rattle.prop_meaning.specs.Words.{Lexicon}
use Rattle.prop_demands.specs.Naming.{symbol_word}
use Rattle.prop_demands.specs.declared.reading.Glossary.{Glossary}

-- the numbers that an information leaves, or the whole span where it is none of a number
abbrev pub span_in : Span → Info → Span
span_in whole (infos.Span s) = s
span_in whole info = whole

-- the span has all numbers
pub record IsWhole (s : Span) : Type 0 where
  pub least : s.lo ≡ neg_ℤ B
  pub greatest : s.hi ≡ B

-- What words are looked up in: the names, the vocabulary with the first so many domains, and the
-- cells, of which is known what one believes of them who believes just these premises.
pub record Seen : Type 0 where
  pub names : CellNames
  pub words : Vocabulary
  pub cells : Data
  pub nobody : List ℕ
  pub whole : Span
  pub domains : ℕ

abbrev pub lexicon_in : Seen → Lexicon
lexicon_in g = record {
  count = length g.cells.kinds;
  known = λ place. record {
    kinded = kind_at g.cells.kinds place;
    span = span_in g.whole (beliefs (set_of g.nobody) g.cells.contents place);
  };
  cell = λ w. cond (is_utf8 w) (cell_named g.names w) None;
  relation = λ w. cond (is_utf8 w) (relation_named g.words w) None;
  element = λ domain w.
      cond (nat_lt domain g.domains) (number_in (elements_of g.words domain) w) None;
  symbol = λ w. cond (is_utf8 w) (number_in g.words.symbols w) None;
  size = λ domain. length (elements_of g.words domain);
  element_word = λ domain i. slice_index_or (elements_of g.words domain) i [];
  symbol_word = symbol_word g.words.symbols;
}

abbrev pub seen_of : Glossary → Seen
seen_of g = record {
  names = g.names.now;
  words = g.words.now;
  cells = g.cells.now;
  nobody = g.nobody.now;
  whole = g.whole;
  domains = g.domains;
}

-- the same for one who believes no premise
abbrev pub seen : CellNames → Vocabulary → Data → Span → ℕ → Seen
seen names words cells whole domains = record {
  names = names;
  words = words;
  cells = cells;
  nobody = [];
  whole = whole;
  domains = domains;
}
