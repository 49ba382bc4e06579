-- Constants, and what words name.
use Rattle.std.proofs.Common.{◌≡◌, ◌∙◌, ℕ, ℤ, pos, ◌≤ℤ◌, ◌<◌, List, Bool, true, false, cond, nat_lt, Option, Some, None}
use Rattle.std.proofs.Common.{refl, ap, sym, subst, arith}
use Rattle.std.specs.Option.{option_map, option_map_or}
use Rattle.std.proofs.lemmas.Bool.{lt-ltb}
use Rattle.std.proofs.lemmas.Int.{ints}
use Rattle.prop_lattice.specs.Points.{Number, Element, Symbol, IsPointOf}
use Rattle.prop_lattice.specs.declared.info.Kind.{Kind}
use Rattle.prop_lattice.specs.declared.info.Kind.TheVariants.{Span as SpanKind, Set, Symbol as SymbolKind}
use Rattle.prop_lattice.specs.declared.span.Span as spans
use Rattle.prop_procedures.specs.declared.shape.Kinded.{Kinded}
use Rattle.prop_terms.specs.Meaning.{Value, Text}
use Rattle.prop_terms.specs.Terms as terms
use Rattle.prop_meaning.specs.Words.{Lexicon, value_as, domain_of}
use Rattle.prop_meaning.specs.declared.draft.Made.{Made}
use Rattle.prop_meaning.specs.declared.known.Known.{Known}
use Rattle.prop_meaning.specs.declared.steps.Step.TheVariants as steps
use Rattle.prop_meaning.specs.inner.Drafts.{IsGood, Makes, Names, Shows, number_kind}

-- ---- numbers

ends_within : (s : spans.Span) (z : ℤ) → s.lo ≡ z → s.hi ≡ z → (n : ℕ) (kind : Kind) → kind ≡ SpanKind
    → IsPointOf kind n (Number z) × ((s.lo ≤ℤ z) × (z ≤ℤ s.hi))
ends_within s z e f n kind k =
    let P : Kind → Type 0 = λ i. IsPointOf i n (Number z) in
    (subst P (sym k) (rw (← e) s.above, rw (← f) s.below), (omega (arith, ints, e), omega (arith, ints, f)))

pub good_number : (lexicon : Lexicon) (made : List Made) (place : ℕ) (z : ℤ) (k : Known) → k.kinded ≡ number_kind
    → k.span.lo ≡ z → k.span.hi ≡ z → IsGood lexicon made place (record { step = steps.Number z; known = k })
good_number lexicon made place z k kind e f = record {
  behind = tt;
  suits = kind;
  within = λ a r. record {
    within = ends_within k.span z e f k.kinded.size k.kinded.kind (ap (λ n. n.kind) kind);
    named = tt;
  };
}

pub shows_number : (lexicon : Lexicon) (made : List Made) (n place : ℕ) (z : ℤ) → z ≡ pos n
    → Makes lexicon made number_kind (λ a. Number z) place → Shows lexicon made number_kind (terms.Number n) place
shows_number lexicon made n place z e m = record {
  has = m.has;
  worth_is = λ a r. ap (λ p. Some (value_as lexicon number_kind p)) (sym (ap Number e) ∙ sym (m.is a r));
}

-- ---- elements and symbols

pub good_element : (lexicon : Lexicon) (made : List Made) (place domain i : ℕ) (word : List ℕ) (k : Known)
    → k.kinded.kind ≡ Set domain → i < k.kinded.size → i < 64 → lexicon.element domain word ≡ Some i
    → IsGood lexicon made place (record { step = steps.Element i; known = k })
good_element lexicon made place domain i word k kind l fits e = record {
  behind = tt;
  suits = fits;
  within = λ a r.
      let P : Kind → Type 0 = λ n. IsPointOf n k.kinded.size (Element i) in
      let Q : Kind → Type 0 = λ n. i < lexicon.size (domain_of n) in
      record {
        within = (subst P (sym kind) l, tt);
        named = subst Q (sym kind) (r.words.elements domain word i e).0;
      };
}

pub names_element : (lexicon : Lexicon) (made : List Made) (place domain i : ℕ) (word : List ℕ) (kinded : Kinded)
    → kinded.kind ≡ Set domain → lexicon.element domain word ≡ Some i
    → Makes lexicon made kinded (λ a. Element i) place → Names lexicon made kinded word place
names_element lexicon made place domain i word kinded kind e m = record {
  has = m.has;
  is = λ a r.
      let P : Kind → Type 0 = λ n. Text word ≡ Text (lexicon.element_word (domain_of n) i) in
      subst P (sym kind) (ap Text (sym (r.words.elements domain word i e).1))
      ∙ ap (value_as lexicon kinded) (sym (m.is a r));
}

pub good_symbol : (lexicon : Lexicon) (made : List Made) (place n : ℕ) (k : Known) → k.kinded.kind ≡ SymbolKind
    → IsGood lexicon made place (record { step = steps.Symbol n; known = k })
good_symbol lexicon made place n k kind = record {
  behind = tt;
  suits = tt;
  within = λ a r.
      let P : Kind → Type 0 = λ i. IsPointOf i k.kinded.size (Symbol n) in
      record { within = (subst P (sym kind) tt, tt); named = tt };
}

pub names_symbol : (lexicon : Lexicon) (made : List Made) (place n : ℕ) (word : List ℕ) (kinded : Kinded)
    → lexicon.symbol word ≡ Some n → Makes lexicon made kinded (λ a. Symbol n) place → Names lexicon
    made kinded word place
names_symbol lexicon made place n word kinded e m = record {
  has = m.has;
  is = λ a r. ap Text (sym (r.words.symbols word n e)) ∙ ap (value_as lexicon kinded) (sym (m.is a r));
}

-- ---- names

has_given : (b : Bool) (place c : ℕ) (k : Known) (o : Option Known) (kinded : Kinded) → nat_lt place c ≡ b → place < c
    → k.kinded ≡ kinded → option_map (λ k. k.kinded) (cond b (Some k) o) ≡ Some kinded
has_given true place c k o kinded e l f = ap Some f
has_given false place c k o kinded e l f = absurd (clash (sym (lt-ltb place c l) ∙ e))
  where
    clash : true ≡ false → ⊥
    clash e = cc

-- a word that names a given cell
pub shows_cell : (lexicon : Lexicon) (made : List Made) (place : ℕ) (word : List ℕ) (kinded : Kinded)
    → lexicon.cell word ≡ Some place → place < lexicon.count → (lexicon.known place).kinded ≡ kinded
    → Shows lexicon made kinded (terms.Name word) place
shows_cell lexicon made place word kinded e l k = record {
  has = has_given (nat_lt place lexicon.count) place lexicon.count (lexicon.known place) _ kinded refl l k;
  worth_is = λ a r.
      let at : Option ℕ → Value = λ o.
      option_map_or (λ i. value_as lexicon (lexicon.known i).kinded (a i)) o (Text word) in
      ap (λ o. Some (at o)) e ∙ ap (λ n. Some (value_as lexicon n (a place))) k;
}

-- and one that stands for itself
pub shows_label : (lexicon : Lexicon) (made : List Made) (place : ℕ) (word : List ℕ) (kinded : Kinded)
    → lexicon.cell word ≡ None → Names lexicon made kinded word place → Shows lexicon made kinded
    (terms.Name word) place
shows_label lexicon made place word kinded e names = record {
  has = names.has;
  worth_is = λ a r.
      let at : Option ℕ → Value = λ o.
      option_map_or (λ i. value_as lexicon (lexicon.known i).kinded (a i)) o (Text word) in
      ap (λ o. Some (at o)) e ∙ ap Some (names.is a r);
}
