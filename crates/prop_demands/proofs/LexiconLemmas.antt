-- What words of expressions are in a session, and that points which satisfy it fit that.
use Rattle.std.proofs.Common.{◌≡◌, ◌∙◌, ℕ, ℤ, zero, suc, ◌+◌, ◌<◌, ◌≤◌, ◌==◌, ◌≤ℤ◌, neg_ℤ, Bool, true, false, cond}
use Rattle.std.proofs.Common.{nat_lt, List, [], ◌∷◌, All, length, get_or, Option, Some, None, IsTrue}
use Rattle.std.proofs.Common.{refl, ap, sym, subst, arith, eqb-true, eq-eqb}
use Rattle.std.specs.Prelude.{slice_get, unwrap_or, bytes_eq}
use Rattle.std.specs.Option.{option_and_then, option_map_or}
use Rattle.std.specs.Str.{is_utf8}
use Rattle.std.proofs.lemmas.Int.{ints}
use Rattle.std.proofs.lemmas.List.{length-replicate}
use Rattle.std.proofs.lemmas.List.Quantifiers.{position-Some}
use Rattle.std.proofs.lemmas.Option.{get_or_from_slice_get, slice_get_within, slice_get-get_or}
use Rattle.std.proofs.lemmas.Slice.Eq.{bytes_eq-Decides}
use Rattle.prop_lattice.specs.Points.{Point, Number, Element, Symbol, Holds, IsPointOf}
use Rattle.prop_lattice.specs.declared.info.Info.{Info}
use Rattle.prop_lattice.specs.declared.info.Info.TheVariants as infos
use Rattle.prop_lattice.specs.declared.info.Kind.{Kind}
use Rattle.prop_lattice.specs.declared.info.Kind.TheVariants as kinds
use Rattle.prop_lattice.specs.declared.span.Span.{Span}
use Rattle.prop_lattice.specs.declared.span.TheConstants.{B}
use Rattle.prop_numbers.specs.Sets.{Members, set_of}
use Rattle.prop_procedures.specs.declared.shape.Kinded.{Kinded}
use Rattle.prop_procedures.specs.Fitting.{kind_at}
use Rattle.prop_procedures.specs.Stored.{Stored, span_kind}
use Rattle.prop_sets.specs.Names.{AreElements}
use Rattle.prop_sets.specs.Relation.{Relation}
use Rattle.prop_sets.proofs.NameLemmas.{position_at}
use Rattle.prop_vocabulary.specs.Cells.{CellNames, cell_named}
use Rattle.prop_vocabulary.specs.Names.{number_in}
use Rattle.prop_vocabulary.specs.Vocabulary as vocabularies
use Rattle.prop_vocabulary.specs.Vocabulary.{HasSides, Vocabulary, elements_of, relation_named}
use Rattle.prop_vocabulary.specs.Texts.{elements_of_kind}
use Rattle.prop_vocabulary.proofs.CellLookups.{of_named}
use Rattle.prop_contents.specs.Contents.{beliefs}
use Rattle.prop_cells.specs.Data.{Data, IsKept}
use Rattle.prop_cells.specs.Points.{AreFitting, ArePoints}
use Rattle.prop_cells.specs.Problems.{is_member}
use Rattle.prop_cells.proofs.Founding.{believed_entailed}
use Rattle.prop_cells.proofs.PointLaws.{entailed_holds}
use Rattle.prop_plans.specs.Held.{AreHeld, attached_of}
use Rattle.prop_compound.specs.Kinds.{IsSized}
use Rattle.prop_terms.specs.Meaning.{Value, Text}
use Rattle.prop_meaning.specs.Words.{Fits, IsLexicon, LiesIn, Lies, names_at, value_as}
use Rattle.prop_demands.specs.Naming.{is_symbol, letters, spare_word, symbol_word}
use Rattle.prop_demands.specs.inner.Glossaries.{IsWhole, lexicon_in, seen, span_in}
use Rattle.prop_demands.proofs.Singling.{held_are_sound}

-- ---- names

pub number_found : (names : List (List ℕ)) (w : List ℕ) (i : ℕ) → number_in names w ≡ Some i
    → (i < length names) × (get_or names i [] ≡ w)
number_found names w i e =
    let f = position-Some (bytes_eq w) names i [] e in
    (f.0, sym ((bytes_eq-Decides w (get_or names i [])).0 f.1))

length_in : (names : List (List ℕ)) (i : ℕ) → i < length names → length (get_or names i []) ≤ letters names
length_in [] i l = absurd (omega (arith, l))
length_in (n ∷ names) zero l = omega arith
length_in (n ∷ names) (suc i) l = omega (arith, length_in names i (omega (arith, l)))

symbol_number : (symbols : List (List ℕ)) (n : ℕ) → is_symbol symbols n ≡ true
    → number_in symbols (get_or symbols n []) ≡ Some n
symbol_number symbols n e = by (number_in symbols (get_or symbols n [])) refl e
  where
    by : (o : Option ℕ) → number_in symbols (get_or symbols n []) ≡ o → option_map_or (λ m. m == n) o false ≡ true
        → number_in symbols (get_or symbols n []) ≡ Some n
    by None f e = cc
    by (Some m) f e = f ∙ ap Some (eqb-true m n e)

symbol_length : (symbols : List (List ℕ)) (n : ℕ) → is_symbol symbols n ≡ true
    → length (get_or symbols n []) ≤ letters symbols
symbol_length symbols n e =
    length_in symbols n (number_found symbols (get_or symbols n []) n (symbol_number symbols n e)).0

spare_length : (symbols : List (List ℕ)) (k : ℕ)
    → length (spare_word symbols k) ≡ k + 1 + letters symbols
spare_length symbols k = length-replicate {A = ℕ} (k + 1 + letters symbols) 32

symbols_differ : (symbols : List (List ℕ)) (m n : ℕ) → symbol_word symbols m ≡ symbol_word symbols n → m ≡ n
symbols_differ symbols m n h = by (is_symbol symbols m) (is_symbol symbols n) refl refl h
  where
    by : (b c : Bool) → is_symbol symbols m ≡ b → is_symbol symbols n ≡ c
        → cond b (get_or symbols m []) (spare_word symbols m)
        ≡ cond c (get_or symbols n []) (spare_word symbols n) → m ≡ n
    by true true e f h =
        let a = symbol_number symbols m e in
        let b = symbol_number symbols n f in
        let k : number_in symbols (get_or symbols m []) ≡ number_in symbols (get_or symbols n []) =
        ap (number_in symbols) h in
        cc
    by false false e f h =
        omega (arith, ap (λ (w : List ℕ). length w) h, spare_length symbols m, spare_length symbols n)
    by true false e f h =
        absurd (omega (arith, ap (λ (w : List ℕ). length w) h, symbol_length symbols m e, spare_length symbols n))
    by false true e f h =
        absurd (omega (arith, ap (λ (w : List ℕ). length w) h, symbol_length symbols n f, spare_length symbols m))

-- ---- the lexicon

found_if : {X : Type 0} (b : Bool) (o : Option X) (i : X) → cond b o None ≡ Some i → o ≡ Some i
found_if true o i e = e
found_if false o i e = cc

elements_there : (words : Vocabulary) (domain i : ℕ) → vocabularies.IsWhole words
    → i < length (elements_of words domain) → AreElements (elements_of words domain)
elements_there words domain i whole l = by (slice_get words.domains domain) refl l
  where
    by : (o : Option (List (List ℕ))) → slice_get words.domains domain ≡ o → i < length (unwrap_or o [])
        → AreElements (unwrap_or o [])
    by None e l = absurd (omega (arith, l))
    by (Some es) e l = subst AreElements (get_or_from_slice_get words.domains domain es [] e)
        (whole.each_domain domain [] (slice_get_within words.domains domain es e))

-- a relation that has a name is between two of the domains
sides_there : (words : Vocabulary) (name : List ℕ) (m : Relation) → vocabularies.IsWhole words
    → relation_named words name ≡ Some m → HasSides words.domains m
sides_there words name m whole e = by (number_in words.relation_names name) e
  where
    by : (o : Option ℕ) → option_and_then (slice_get words.relations) o ≡ Some m → HasSides words.domains m
    by None e = cc
    by (Some n) e = subst (HasSides words.domains) (get_or_from_slice_get words.relations n m m e)
        (whole.each_relation n m (slice_get_within words.relations n m e))

-- a kind has no more elements than a set has
kinds_few : (words : Vocabulary) → vocabularies.IsWhole words → (kind : Kind)
    → length (elements_of_kind words kind) ≤ 64
kinds_few words whole (kinds.Set domain) = by (slice_get words.domains domain) refl
  where
    by : (o : Option (List (List ℕ))) → slice_get words.domains domain ≡ o → length (unwrap_or o []) ≤ 64
    by None e = omega arith
    by (Some es) e =
        let P : List (List ℕ) → Type 0 = λ ns. length ns ≤ 64 in
        subst P (get_or_from_slice_get words.domains domain es [] e)
        (whole.each_domain domain [] (slice_get_within words.domains domain es e)).few
kinds_few words whole kind = omega arith

pub kind_few : (words : Vocabulary) → vocabularies.IsWhole words → (k : Kinded) → IsSized words k → k.size ≤ 64
kind_few words whole k h = omega (arith, h.1, kinds_few words whole k.kind)

module _ (names : CellNames) (words : Vocabulary) (d : Data) (whole : Span) (domains : ℕ)
    (law : vocabularies.IsWhole words) (sized : All (IsSized words) d.kinds)
  where
    pub lexicon_law : IsLexicon (lexicon_in (seen names words d whole domains))
    lexicon_law = record {
      sizes = λ i domain l e. (sized i span_kind l).1 ∙ ap (λ k. length (elements_of_kind words k)) e;
      sides = λ w m e.
          let has = sides_there words w m law (found_if (is_utf8 w) (relation_named words w) m e) in
          (has.first.size_is, has.second.size_is);
      elements = λ domain w i e.
          number_found (elements_of words domain) w i (found_if (nat_lt domain domains) _ i e);
      elements_differ = λ domain i j li lj same.
          let names = elements_of words domain in
          let apart = (elements_there words domain i law li).apart in
          let a = position_at names i (get_or names i []) apart (slice_get-get_or names i [] li) in
          let b = position_at names j (get_or names j []) apart (slice_get-get_or names j [] lj) in
          let k : number_in names (get_or names i []) ≡ number_in names (get_or names j []) =
          ap (number_in names) same in
          cc;
      symbols = λ w n e.
          let found = found_if (is_utf8 w) (number_in words.symbols w) n e in
          let at = (number_found words.symbols w n found).1 in
          let own : is_symbol words.symbols n ≡ true =
          ap (λ v. option_map_or (λ m. m == n) (number_in words.symbols v) false) at
          ∙ ap (λ o. option_map_or (λ m. m == n) o false) found ∙ eq-eqb n n refl in
          ap (λ b. cond b (get_or words.symbols n []) (spare_word words.symbols n)) own ∙ at;
      symbols_differ = symbols_differ words.symbols;
      truths = ap (λ o. length (unwrap_or o [])) law.truth;
      yes = ap (λ o. get_or (unwrap_or o []) 0 []) law.truth;
      no = ap (λ o. get_or (unwrap_or o []) 1 []) law.truth;
    }

-- ---- what is known

range_of : (kind : Kind) (size : ℕ) (z : ℤ) → IsPointOf kind size (Number z) → (neg_ℤ B ≤ℤ z) × (z ≤ℤ B)
range_of kinds.Span size z h = h
range_of (kinds.Set d) size z h = absurd h
range_of kinds.Symbol size z h = absurd h

lies_whole : (whole : Span) (z : ℤ) → IsWhole whole → (neg_ℤ B ≤ℤ z) × (z ≤ℤ B) → Lies whole z
lies_whole whole z w h = (omega (arith, ints, w.least, h.0), omega (arith, ints, w.greatest, h.1))

lies_in : (whole : Span) (v : Info) (kind : Kind) (size : ℕ) (p : Point) → IsWhole whole → IsPointOf kind size p
    → Holds v p → LiesIn (span_in whole v) p
lies_in whole (infos.Span s) kind size (Number z) w of h = h
lies_in whole infos.Nothing kind size (Number z) w of h = lies_whole whole z w (range_of kind size z of)
lies_in whole (infos.Set s) kind size (Number z) w of h = absurd h
lies_in whole (infos.Sym s) kind size (Number z) w of h = absurd h
lies_in whole infos.Contradiction kind size (Number z) w of h = absurd h
lies_in whole v kind size (Element i) w of h = tt
lies_in whole v kind size (Symbol n) w of h = tt

member_less : (believed : Members) (o : Option ℕ) → IsTrue (is_member (set_of []) o) → IsTrue (is_member believed o)
member_less believed None h = refl
member_less believed (Some p) h = cc

module _ (library : List Stored) (names : CellNames) (words : Vocabulary) (d : Data) (whole : Span) (domains : ℕ)
    (kept : IsKept library d) (w : IsWhole whole)
  where
    pub points_fit : (believed : Members) (points : ℕ → Point)
        → ArePoints (AreHeld library) (attached_of d) believed points
        → Fits (lexicon_in (seen names words d whole domains)) points
    points_fit believed points p i l =
        let kind = kind_at d.kinds i in
        let of : IsPointOf kind.kind kind.size (points i) =
        p.of_kind i kind (slice_get-get_or d.kinds i span_kind l) in
        let less : ArePoints (AreHeld library) (attached_of d) (set_of []) points = record {
          of_kind = p.of_kind;
          stated = λ k e m h. p.stated k e m (member_less believed (get_or d.statements k e).premise h);
          together = p.together;
        } in
        let fit : AreFitting library (attached_of d) = record { fitting = kept.fits; within = kept.made.within } in
        let held : Holds (beliefs (set_of []) d.contents i) (points i) =
        entailed_holds library (AreHeld library) (held_are_sound library) (attached_of d) (set_of []) points fit less i
        (beliefs (set_of []) d.contents i) (believed_entailed library d (set_of []) kept i) in
        (of, lies_in whole (beliefs (set_of []) d.contents i) kind.kind kind.size (points i) w of held)

-- ---- names at points that are alike

module _ (names : CellNames) (words : Vocabulary) (d : Data) (whole : Span) (domains : ℕ)
    (named : All (λ cell. cell < length d.kinds) names.cells)
    (points all : ℕ → Point) (same : (i : ℕ) → i < length d.kinds → all i ≡ points i)
  where
    abbrev at : (ℕ → Point) → ℕ → Value
    at a i =
        let lexicon = lexicon_in (seen names words d whole domains) in
        value_as lexicon (lexicon.known i).kinded (a i)

    pub names_alike : names_at (lexicon_in (seen names words d whole domains)) all
        ≡ names_at (lexicon_in (seen names words d whole domains)) points
    names_alike = λ j. record {
      value = λ w. value_alike w j;
      related = (names_at (lexicon_in (seen names words d whole domains)) points).related;
    }
      where
        by : (w : List ℕ) (o : Option ℕ) → cond (is_utf8 w) (cell_named names w) None ≡ o
            → option_map_or (at all) o (Text w) ≡ option_map_or (at points) o (Text w)
        by w None e = refl
        by w (Some i) e =
            let below : i < length d.kinds = of_named (λ cell. cell < length d.kinds) names w i named
            (found_if (is_utf8 w) (cell_named names w) i e) in
            let lexicon = lexicon_in (seen names words d whole domains) in
            ap (λ (p : Point). value_as lexicon (lexicon.known i).kinded p) (same i below)

        value_alike : (w : List ℕ) → option_map_or (at all) (cond (is_utf8 w) (cell_named names w) None) (Text w)
            ≡ option_map_or (at points) (cond (is_utf8 w) (cell_named names w) None) (Text w)
        value_alike w = by w (cond (is_utf8 w) (cell_named names w) None) refl
