-- What is found in the rows of a table.
use Rattle.std.proofs.Common.{◌≡◌, ◌∙◌, ℕ, ℤ, pos, ◌+ℤ◌, ◌-ℤ◌, ◌≤ℤ◌, ◌<ℤ◌, ◌<◌, ◌+◌, List, [], ◌∷◌, ◌++◌}
use Rattle.std.proofs.Common.{Bool, true, false, cond, ◌||◌, Option, Some, None, refl, ap, sym, subst, arith}
use Rattle.std.specs.Prelude.{unsigned_abs}
use Rattle.std.proofs.lemmas.Int.{ints}
use Rattle.std.proofs.lemmas.Slice.Eq.{bytes_eq-Decides}
use Rattle.prop_lattice.specs.Points.{Point, Number, Element, Symbol, IsPointOf}
use Rattle.prop_lattice.specs.declared.info.Kind.{Kind}
use Rattle.prop_lattice.specs.declared.info.Kind.TheVariants.{Span as SpanKind, Set, Symbol as SymbolKind}
use Rattle.prop_lattice.specs.declared.span.Span as spans
use Rattle.prop_procedures.specs.declared.shape.Kinded.{Kinded}
use Rattle.prop_terms.specs.declared.operators.Infix.TheVariants as between
use Rattle.prop_terms.specs.declared.operators.Prefix.TheVariants as before
use Rattle.prop_terms.specs.Meaning.{Names, Value, Whole, Text, comparison, is_same, label, looked_up, rows, worth}
use Rattle.prop_terms.specs.Terms.{Term, Name, One, Two}
use Rattle.prop_meaning.specs.Words.{Lexicon, LiesIn, names_at, value_as}
use Rattle.prop_meaning.specs.declared.draft.Made.{Made}
use Rattle.prop_meaning.specs.declared.tables.Lookup.{Lookup}
use Rattle.prop_meaning.specs.inner.Drafts.{Grown, Makes, Shows, truth_kind}
use Rattle.prop_meaning.specs.inner.Lists.{is_among}
use Rattle.prop_meaning.specs.inner.Steps.{chosen, truth_point}
use Rattle.prop_meaning.specs.inner.Tables.{is_key, looked_or, key_of, found_at, HasAllKeys, Chooses, Finds}
use Rattle.prop_meaning.proofs.Growing.{runs_back}

-- ---- rows

abbrev Rows : Type 0
Rows = List (Option Value × Option Value)

more_up : (v : Option Value) (rs qs : Rows) → looked_up v (rs ++ qs) ≡ looked_or v rs (looked_up v qs)
more_up v [] qs = refl
more_up v (r ∷ rs) qs = ap (cond (comparison between.Equal v r.0) r.1) (more_up v rs qs)

more_or : (v : Option Value) (rs qs : Rows) (w : Option Value)
    → looked_or v (rs ++ qs) w ≡ looked_or v rs (looked_or v qs w)
more_or v [] qs w = refl
more_or v (r ∷ rs) qs w = ap (cond (comparison between.Equal v r.0) r.1) (more_or v rs qs w)

or_second : (b c : Bool) → b ≡ false → (b || c) ≡ true → c ≡ true
or_second true c e k = absurd (cc)
or_second false c e k = k

-- where one of the rows has the label, nothing else is told
key_found : (names : Names) (t : Term) (v w u : Option Value) → is_key t v ≡ true
    → looked_or v (rows names t) w ≡ looked_or v (rows names t) u
key_found names (Two between.Comma t s) v w u k =
    more_or v (rows names t) (rows names s) w
    ∙ (by (is_key t v) refl (λ a b e. key_found names t v a b e) (λ e. key_found names s v w u e)
    ∙ sym (more_or v (rows names t) (rows names s) u))
  where
    by : (b : Bool) → is_key t v ≡ b
        → ((x y : Option Value) → is_key t v ≡ true → looked_or v (rows names t) x ≡ looked_or v (rows names t) y)
        → (is_key s v ≡ true → looked_or v (rows names s) w ≡ looked_or v (rows names s) u)
        → looked_or v (rows names t) (looked_or v (rows names s) w)
        ≡ looked_or v (rows names t) (looked_or v (rows names s) u)
    by true e f g = f (looked_or v (rows names s) w) (looked_or v (rows names s) u) e
    by false e f g = ap (looked_or v (rows names t)) (g (or_second (is_key t v) (is_key s v) e k))
key_found names (Two between.Colon t s) v w u k =
    ap (λ b. cond b (worth names s) w) k ∙ sym (ap (λ b. cond b (worth names s) u) k)
key_found names t v w u k = absurd (cc)

found_in : (names : Names) (t s : Term) (v w u : Option Value) → is_key (Two between.Comma t s) v ≡ true
    → looked_or v (rows names t) w ≡ u → (is_key s v ≡ true → looked_up v (rows names s) ≡ w)
    → looked_up v (rows names (Two between.Comma t s)) ≡ u
found_in names t s v w u k h g = more_up v (rows names t) (rows names s) ∙ (by (is_key t v) refl ∙ h)
  where
    by : (b : Bool) → is_key t v ≡ b → looked_or v (rows names t) (looked_up v (rows names s))
        ≡ looked_or v (rows names t) w
    by true e = key_found names t v (looked_up v (rows names s)) w e
    by false e = ap (looked_or v (rows names t)) (g (or_second (is_key t v) (is_key s v) e k))

-- ---- cells

pub finds_more : (lexicon : Lexicon) (lookup : Lookup) (t s : Term) (z place : ℕ) (first second : List Made)
    → Finds lexicon first lookup s z → Grown lexicon first second → Chooses lexicon second lookup t z place
    → Finds lexicon second lookup (Two between.Comma t s) place
finds_more lexicon lookup t s z place first second f g c = record {
  has = c.has;
  is = λ a r k. found_in (names_at lexicon a) t s (key_of lexicon lookup a)
      (found_at lexicon lookup a z) (found_at lexicon lookup a place) k (c.is a r)
      (λ e. f.is a (runs_back lexicon first second a g.grows r) e);
}

pub finds_row : (lexicon : Lexicon) (lookup : Lookup) (t u : Term) (place : ℕ) (made : List Made)
    → Shows lexicon made lookup.kinded u place → Finds lexicon made lookup (Two between.Colon t u) place
finds_row lexicon lookup t u place made s = record {
  has = s.has;
  is = λ a r k. ap (λ b. cond b (worth (names_at lexicon a) u) None) k ∙ s.worth_is a r;
}

pub chooses_more : (lexicon : Lexicon) (lookup : Lookup) (t s : Term) (z y place : ℕ) (first second : List Made)
    → Chooses lexicon first lookup s z y → Grown lexicon first second → Chooses lexicon second lookup t y place
    → Chooses lexicon second lookup (Two between.Comma t s) z place
chooses_more lexicon lookup t s z y place first second f g c = record {
  has = c.has;
  is = λ a r.
      let names = names_at lexicon a in
      let v = key_of lexicon lookup a in
      more_or v (rows names t) (rows names s) (found_at lexicon lookup a z)
      ∙ (ap (looked_or v (rows names t)) (f.is a (runs_back lexicon first second a g.grows r))
      ∙ c.is a r);
}

or_none : (b : Bool) → b || false ≡ b
or_none true = refl
or_none false = refl

chosen_is : (lexicon : Lexicon) (kinded : Kinded) (b : Bool) (p q : Point)
    → cond b (Some (value_as lexicon kinded p)) (Some (value_as lexicon kinded q))
    ≡ Some (value_as lexicon kinded (chosen (truth_point b) p q))
chosen_is lexicon kinded true p q = refl
chosen_is lexicon kinded false p q = refl

pub chooses_row : (lexicon : Lexicon) (lookup : Lookup) (t u : Term) (which y z place : ℕ)
    (first second third : List Made)
    → Makes lexicon first truth_kind
    (λ a. truth_point (is_among lexicon lookup.keyed (a lookup.place) (label t ∷ []))) which
    → Grown lexicon first second → Shows lexicon second lookup.kinded u y → Grown lexicon second third
    → Makes lexicon third lookup.kinded (λ a. chosen (a which) (a y) (a z)) place
    → Chooses lexicon third lookup (Two between.Colon t u) z place
chooses_row lexicon lookup t u which y z place first second third mt g fu h m = record {
  has = m.has;
  is = λ a r.
      let second_runs = runs_back lexicon second third a h.grows r in
      let first_runs = runs_back lexicon first second a g.grows second_runs in
      let is_it = comparison between.Equal (key_of lexicon lookup a) (label t) in
      let it : a which ≡ truth_point is_it = mt.is a first_runs ∙ ap truth_point (or_none is_it) in
      ap (λ w. cond is_it w (found_at lexicon lookup a z)) (fu.worth_is a second_runs)
      ∙ (chosen_is lexicon lookup.kinded is_it (a y) (a z)
      ∙ ap (λ p. Some (value_as lexicon lookup.kinded p)) (sym (m.is a r ∙ ap (λ p. chosen p (a y) (a z)) it)));
}

pub shows_table : (lexicon : Lexicon) (lookup : Lookup) (item t : Term) (place : ℕ) (first second : List Made)
    → Shows lexicon first lookup.keyed item lookup.place → HasAllKeys lexicon first lookup t
    → Grown lexicon first second → Finds lexicon second lookup t place
    → Shows lexicon second lookup.kinded (One before.Element (Two between.Semicolon item t)) place
shows_table lexicon lookup item t place first second s keys g f = record {
  has = f.has;
  worth_is = λ a r.
      let runs = runs_back lexicon first second a g.grows r in
      ap (λ v. looked_up v (rows (names_at lexicon a) t)) (s.worth_is a runs)
      ∙ f.is a r (keys a runs);
}

-- ---- labels

same_whole : (z : ℤ) → is_same (Whole z) (Whole z) ≡ true
same_whole z = grind (arith, ints)

same_text : (w : List ℕ) → is_same (Text w) (Text w) ≡ true
same_text w = (bytes_eq-Decides w w).1 refl

pub key_number : (t s : Term) (y z : ℤ) → label t ≡ Some (Whole y) → y ≡ z
    → is_key (Two between.Colon t s) (Some (Whole z)) ≡ true
key_number t s y z e f = ap (comparison between.Equal (Some (Whole z))) e
    ∙ (ap (λ x. is_same (Whole z) (Whole x)) f ∙ same_whole z)

pub key_word : (w v : List ℕ) (s : Term) → v ≡ w → is_key (Two between.Colon (Name w) s) (Some (Text v)) ≡ true
key_word w v s e = ap (λ x. is_same (Text x) (Text w)) e ∙ same_text w

pub key_before : (t s : Term) (v : Option Value) → is_key t v ≡ true → is_key (Two between.Comma t s) v ≡ true
key_before t s v e = ap (λ b. b || is_key s v) e

pub key_behind : (t s : Term) (v : Option Value) → is_key s v ≡ true → is_key (Two between.Comma t s) v ≡ true
key_behind t s v e = by (is_key t v)
  where
    by : (b : Bool) → (b || is_key s v) ≡ true
    by true = refl
    by false = e

-- ---- rows for whatever is looked up

abbrev IsKey : Lexicon → Term → Kind → ℕ → Point → Type 0
IsKey lexicon t kind size p = is_key t (Some (value_as lexicon (record { kind = kind; size = size }) p)) ≡ true

same_domain : (d domain : ℕ) → Set d ≡ Set domain → domain ≡ d
same_domain d domain e = cc

pub each_element : (lexicon : Lexicon) (t : Term) (kind : Kind) (size domain : ℕ) → kind ≡ Set domain
    → ((i : ℕ) → i < size → is_key t (Some (Text (lexicon.element_word domain i))) ≡ true)
    → (p : Point) → IsPointOf kind size p → IsKey lexicon t kind size p
each_element lexicon t (Set d) size domain e f (Element i) h =
    let P : ℕ → Type 0 = λ k. is_key t (Some (Text (lexicon.element_word k i))) ≡ true in
    subst P (same_domain d domain e) (f i h)
each_element lexicon t (Set d) size domain e f (Number z) h = absurd h
each_element lexicon t (Set d) size domain e f (Symbol n) h = absurd h
each_element lexicon t SpanKind size domain e f p h = absurd (cc)
each_element lexicon t SymbolKind size domain e f p h = absurd (cc)

size_of : (z : ℤ) → pos 0 ≤ℤ z → pos (unsigned_abs z) ≡ z
size_of z h = omega (arith, ints)

below_count : (low high z : ℤ) (count : ℕ) → low ≤ℤ high → z ≤ℤ high
    → count ≡ unsigned_abs (high -ℤ low) + 1 → z <ℤ (low +ℤ pos count)
below_count low high z count o h e = omega (arith, ints, e, size_of (high -ℤ low) (omega (arith, ints)))

pub each_number : (lexicon : Lexicon) (t : Term) (kind : Kind) (size count : ℕ) (span : spans.Span)
    → kind ≡ SpanKind → count ≡ unsigned_abs (span.hi -ℤ span.lo) + 1
    → ((z : ℤ) → span.lo ≤ℤ z → z <ℤ (span.lo +ℤ pos count) → is_key t (Some (Whole z)) ≡ true)
    → (p : Point) → IsPointOf kind size p → LiesIn span p → IsKey lexicon t kind size p
each_number lexicon t SpanKind size count span e c f (Number z) h l =
    f z l.0 (below_count span.lo span.hi z count span.ordered l.1 c)
each_number lexicon t SpanKind size count span e c f (Element i) h l = absurd h
each_number lexicon t SpanKind size count span e c f (Symbol n) h l = absurd h
each_number lexicon t (Set d) size count span e c f p h l = absurd (cc)
each_number lexicon t SymbolKind size count span e c f p h l = absurd (cc)
