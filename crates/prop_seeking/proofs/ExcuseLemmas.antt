-- What is excused, by facts and by values.
use Rattle.std.proofs.Common.{◌≡◌, ◌∙◌, ◌<◌, ℕ, zero, suc, Bool, true, false, cond, List, [], ◌∷◌, length, map}
use Rattle.std.proofs.Common.{get_or, sym, ap, subst, refl, arith, All, Some, None}
use Rattle.std.specs.Prelude.{ℤ, ◌≤ℤ◌, nat_lt, if◌then◌else◌}
use Rattle.std.specs.List.{AllZip}
use Rattle.std.specs.Ordering.{int_eq}
use Rattle.std.proofs.lemmas.Bool.{lt-ltb}
use Rattle.std.proofs.lemmas.Int.{ints}
use Rattle.std.proofs.lemmas.Bool.Decides.{Decides-int_eq}
use Rattle.std.proofs.lemmas.List.{length-map, get_or-map}
use Rattle.std.proofs.lemmas.List.Elements.{All-head}
use Rattle.std.proofs.lemmas.Option.{get_or_from_slice_get}
use Rattle.prop_lattice.specs.Points.{Point, Number, Element, Symbol, Holds}
use Rattle.prop_lattice.specs.declared.info.Info.{Info}
use Rattle.prop_lattice.specs.declared.info.Info.TheVariants.{Nothing, Contradiction, Span, Set, Sym}
use Rattle.prop_lattice.specs.declared.span.Span.{Span as SpanOf}
use Rattle.prop_lattice.proofs.EndLemmas.{span_from-ends}
use Rattle.prop_cells.specs.Points.{Attached}
use Rattle.prop_facts.specs.Facts.{IsSo}
use Rattle.prop_facts.specs.declared.fact.Fact.{Fact}
use Rattle.prop_facts.specs.declared.fact.Fact.TheVariants.{AtLeast, AtMost, Is, Among, Same}
use Rattle.prop_facts.specs.declared.fact.Literal.{Literal}
use Rattle.prop_plans.specs.Plans.{value_in}
use Rattle.prop_refuting.specs.Places.{IsSoAt, point_at}
use Rattle.prop_deriving.specs.Known.{IsExcused}
use Rattle.prop_solve.specs.Questions.{IsValueFact, value_fact}
use Rattle.prop_seeking.specs.Asking.{Least, Greatest}
use Rattle.prop_seeking.specs.Plans.{AreTold, IsNoBetter}
use Rattle.prop_seeking.specs.inner.Seekers.{AreOf, info_of, row_of}

-- ---- facts of values

span_back : (s : SpanOf) (fact : Fact) (b : Bool) → int_eq s.lo s.hi ≡ b → cond b (Some (Is s.lo)) None ≡ Some fact
    → info_of fact ≡ Span s
span_back s fact true same e =
    let is : Is s.lo ≡ fact = cc in
    let ends : s.lo ≡ s.hi = (Decides-int_eq s.lo s.hi).0 same in
    ap info_of (sym is) ∙ span_from-ends s.lo s.lo s refl (sym ends)
span_back s fact false same e = cc

-- a fact that tells a value tells it
info_back : (info : Info) (fact : Fact) → value_fact info ≡ Some fact → info_of fact ≡ info
info_back (Span s) fact e = span_back s fact (int_eq s.lo s.hi) refl e
info_back (Set elements) fact e = let is : Among elements ≡ fact = cc in ap info_of (sym is)
info_back (Sym symbol) fact e = let is : Same symbol ≡ fact = cc in ap info_of (sym is)
info_back Nothing fact e = cc
info_back Contradiction fact e = cc

-- the facts about the values of cells are of these cells
pub facts_of : (values : List Info) (named : List ℕ) (facts : List Literal) → AllZip (IsValueFact values) named facts
    → AreOf named facts
facts_of values [] [] h = tt
facts_of values [] (fact ∷ facts) h = absurd h
facts_of values (cell ∷ named) [] h = absurd h
facts_of values (cell ∷ named) (fact ∷ facts) (is, h) = ((is.place, (is.info, is.same)), facts_of values named facts h)

-- and tell their values
pub rows_of : (values : List Info) (named : List ℕ) (facts : List Literal) → AllZip (IsValueFact values) named facts
    → row_of facts ≡ map (value_in values) named
rows_of values [] [] h = refl
rows_of values [] (fact ∷ facts) h = absurd h
rows_of values (cell ∷ named) [] h = absurd h
rows_of values (cell ∷ named) (fact ∷ facts) (is, h) =
    let told : info_of fact.fact ≡ value_in values cell =
    info_back is.info fact.fact is.same ∙ sym (get_or_from_slice_get values cell is.info Nothing is.at) in
    λ i. told i ∷ rows_of values named facts h i

-- ---- excused by rows

held_info : (info : Info) (fact : Fact) (p : Point) → value_fact info ≡ Some fact → IsSo fact p → Holds info p
held_info (Span s) fact (Number v) e h = held_span s fact v (int_eq s.lo s.hi) e h
  where
    held_span : (s : SpanOf) (fact : Fact) (v : ℤ) (b : Bool) → cond b (Some (Is s.lo)) None ≡ Some fact
        → IsSo fact (Number v) → Holds (Span s) (Number v)
    held_span s fact v true e h =
        let is : Is s.lo ≡ fact = cc in
        let at : v ≡ s.lo = subst (λ (f : Fact). IsSo f (Number v)) (sym is) h in
        let low : s.lo ≤ℤ v = omega (arith, ints) in
        let high : v ≤ℤ s.hi = let o = s.ordered in omega (arith, ints) in (low, high)
    held_span s fact v false e h = cc
held_info (Span s) fact (Element i) e h = held_span s fact i (int_eq s.lo s.hi) e h
  where
    held_span : (s : SpanOf) (fact : Fact) (i : ℕ) (b : Bool) → cond b (Some (Is s.lo)) None ≡ Some fact
        → IsSo fact (Element i) → Holds (Span s) (Element i)
    held_span s fact i true e h =
        let is : Is s.lo ≡ fact = cc in absurd (subst (λ (f : Fact). IsSo f (Element i)) (sym is) h)
    held_span s fact i false e h = cc
held_info (Span s) fact (Symbol a) e h = held_span s fact a (int_eq s.lo s.hi) e h
  where
    held_span : (s : SpanOf) (fact : Fact) (a : ℕ) (b : Bool) → cond b (Some (Is s.lo)) None ≡ Some fact
        → IsSo fact (Symbol a) → Holds (Span s) (Symbol a)
    held_span s fact a true e h =
        let is : Is s.lo ≡ fact = cc in absurd (subst (λ (f : Fact). IsSo f (Symbol a)) (sym is) h)
    held_span s fact a false e h = cc
held_info (Set elements) fact p e h =
    let is : Among elements ≡ fact = cc in held_set elements p (subst (λ (f : Fact). IsSo f p) (sym is) h)
  where
    held_set : (elements : _) (p : Point) → IsSo (Among elements) p → Holds (Set elements) p
    held_set elements (Number v) h = absurd h
    held_set elements (Element i) h = h
    held_set elements (Symbol a) h = absurd h
held_info (Sym symbol) fact p e h =
    let is : Same symbol ≡ fact = cc in held_symbol symbol p (subst (λ (f : Fact). IsSo f p) (sym is) h)
  where
    held_symbol : (symbol : ℕ) (p : Point) → IsSo (Same symbol) p → Holds (Sym symbol) p
    held_symbol symbol (Number v) h = absurd h
    held_symbol symbol (Element i) h = absurd h
    held_symbol symbol (Symbol a) h = h
held_info Nothing fact p e h = cc
held_info Contradiction fact p e h = cc

-- a value of which a fact is so is one that it tells
held_by : (fact : Fact) (p : Point) → (info : Info) × (value_fact info ≡ Some fact) → IsSo fact p
    → Holds (info_of fact) p
held_by fact p (info, e) h = subst (λ (a : Info). Holds a p) (sym (info_back info fact e)) (held_info info fact p e h)

module _ (n : Attached) (points : ℕ → Point) (list : List ℕ) where
  -- at a cell the value is the point
  pub at_cell : (cell : ℕ) → cell < length n.kinds → point_at n points list cell ≡ points cell
  at_cell cell l = rw (lt-ltb cell (length n.kinds) l) refl

  rest_holds : {A : Type 0} (P : A → Type 0) (x : A) (xs : List A) → All P (x ∷ xs) → All P xs
  rest_holds P x xs all = λ k d l. all (suc k) d (omega (arith, l))

  -- points that have all facts of these cells lie in the row that they tell
  in_row : (named : List ℕ) (facts : List Literal) → All (λ cell. cell < length n.kinds) named → AreOf named facts
      → All (IsSoAt n points list) facts → AllZip (λ cell a. Holds a (points cell)) named (row_of facts)
  in_row [] [] within are so = tt
  in_row [] (fact ∷ facts) within are so = absurd are
  in_row (cell ∷ named) [] within are so = absurd are
  in_row (cell ∷ named) (fact ∷ facts) within ((place, tells), are) so =
      let l : cell < length n.kinds = All-head (λ (c : ℕ). c < length n.kinds) cell named within in
      let is = held_by fact.fact (point_at n points list fact.place) tells
      (All-head (IsSoAt n points list) fact facts so) in
      let at : point_at n points list fact.place ≡ points cell = ap (point_at n points list) place ∙ at_cell cell l in (
        subst (Holds (info_of fact.fact)) at is,
        in_row named facts (rest_holds (λ (c : ℕ). c < length n.kinds) cell named within) are
            (rest_holds (IsSoAt n points list) fact facts so),
      )

  -- and those that are excused lie in one of the rows
  pub excused_told : (named : List ℕ) (excuses : List (List Literal)) → All (λ cell. cell < length n.kinds) named
      → All (AreOf named) excuses → IsExcused n excuses points list → AreTold named (map row_of excuses) points
  excused_told named excuses within rows (facts, (k, l, is), so) =
      let are : AreOf named facts = subst (AreOf named) is (rows k facts l) in
      let at : get_or (map row_of excuses) k (row_of facts) ≡ row_of facts =
      get_or-map row_of excuses k facts (row_of facts) l ∙ ap row_of is in
      (row_of facts, (k, omega (arith, l, length-map excuses row_of), at), in_row named facts within are so)

  -- ---- excused by numbers

  only_one : (fact : Literal) → IsExcused n ((fact ∷ []) ∷ []) points list → IsSoAt n points list fact
  only_one fact (facts, (zero, l, is), so) =
      All-head (IsSoAt n points list) fact [] (subst (All (IsSoAt n points list)) (sym is) so)
  only_one fact (facts, (suc k, l, is), so) = absurd (omega (arith, l))

  least_at : (s : SpanOf) (p : Point) (e : ℕ) (b : Bool) → IsSo (AtLeast s.lo) (if b then p else Element e)
      → IsNoBetter Least (Span s) p
  least_at s (Number v) e true h = h
  least_at s (Element i) e true h = absurd h
  least_at s (Symbol a) e true h = absurd h
  least_at s p e false h = absurd h

  greatest_at : (s : SpanOf) (p : Point) (e : ℕ) (b : Bool) → IsSo (AtMost s.hi) (if b then p else Element e)
      → IsNoBetter Greatest (Span s) p
  greatest_at s (Number v) e true h = h
  greatest_at s (Element i) e true h = absurd h
  greatest_at s (Symbol a) e true h = absurd h
  greatest_at s p e false h = absurd h

  -- points that are excused where the least is asked for are no better
  pub no_less : (cell : ℕ) (s : SpanOf) (excuses : List (List Literal))
      → excuses ≡ (record { place = cell; fact = AtLeast s.lo } ∷ []) ∷ []
      → IsExcused n excuses points list → IsNoBetter Least (Span s) (points cell)
  no_less cell s excuses is excused =
      least_at s (points cell) _ (nat_lt cell (length n.kinds))
      (only_one (record { place = cell; fact = AtLeast s.lo })
      (subst (λ (xs : List (List Literal)). IsExcused n xs points list) is excused))

  -- and where the greatest is
  pub no_more : (cell : ℕ) (s : SpanOf) (excuses : List (List Literal))
      → excuses ≡ (record { place = cell; fact = AtMost s.hi } ∷ []) ∷ []
      → IsExcused n excuses points list → IsNoBetter Greatest (Span s) (points cell)
  no_more cell s excuses is excused =
      greatest_at s (points cell) _ (nat_lt cell (length n.kinds))
      (only_one (record { place = cell; fact = AtMost s.hi })
      (subst (λ (xs : List (List Literal)). IsExcused n xs points list) is excused))

  -- nothing is excused where nothing was told
  pub none_excused : (excuses : List (List Literal)) → excuses ≡ [] → IsExcused n excuses points list → ⊥
  none_excused excuses none (facts, (k, l, is), so) =
      let few : length excuses ≡ 0 = ap length none in omega (arith, l, few)
