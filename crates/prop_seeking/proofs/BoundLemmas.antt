-- How good an answer can still be.
use Rattle.std.proofs.Common.{◌≡◌, ◌∙◌, ◌<◌, ◌≤◌, ℕ, List, [], ◌∷◌, All, ap, arith, length, refl, sym, subst}
use Rattle.std.specs.Prelude.{ℤ, pos, ◌≤ℤ◌, ◌+ℤ◌, ◌-ℤ◌, Option, Some, None, slice_get, slice_index}
use Rattle.std.proofs.lemmas.Int.{by_lt_z, ints}
use Rattle.std.proofs.lemmas.List.Elements.{All-nil, All-push}
use Rattle.std.proofs.lemmas.Option.{slice_get-get_or}
use Rattle.prop_lattice.specs.Points.{Point, Number, Element, Symbol, IsPointOf}
use Rattle.prop_lattice.specs.declared.info.Info.{Info}
use Rattle.prop_lattice.specs.declared.info.Info.TheVariants.{Span}
use Rattle.prop_lattice.specs.declared.info.Kind.{Kind}
use Rattle.prop_lattice.specs.declared.info.Kind.TheVariants.{Span as SpanKind}
use Rattle.prop_lattice.specs.declared.span.Span.{Span as SpanOf}
use Rattle.prop_numbers.specs.Sets.{set_of}
use Rattle.prop_premises.specs.ChoiceLists.{IsChoiceList, worldview}
use Rattle.prop_premises.specs.Origins.{believed_in, choices_of}
use Rattle.prop_procedures.specs.Fitting.{kind_at}
use Rattle.prop_procedures.specs.Stored.{span_kind}
use Rattle.prop_cells.specs.Points.{ArePoints}
use Rattle.prop_facts.specs.Facts.{IsSo}
use Rattle.prop_facts.specs.declared.fact.Fact.{Fact}
use Rattle.prop_facts.specs.declared.fact.Fact.TheVariants.{AtLeast, AtMost}
use Rattle.prop_facts.specs.declared.fact.Literal.{Literal}
use Rattle.prop_plans.specs.Held.{AreHeld, attached_of}
use Rattle.prop_refuting.specs.Places.{IsSoAt, point_at}
use Rattle.prop_deriving.specs.Known.{IsExcused, IsKnown}
use Rattle.prop_solve.specs.Questions.{excused_then, AreExcusing, IsBetter}
use Rattle.prop_solve.specs.Searches.{Search}
use Rattle.prop_solve.specs.declared.solver.Plan.{Plan as PlanOf}
use Rattle.prop_solve.specs.declared.question.Goal.{Goal}
use Rattle.prop_solve.specs.declared.question.Goal.TheVariants.{Any, Least, Greatest, Differing}
use Rattle.prop_seeking.specs.Asking as aims
use Rattle.prop_seeking.specs.Plans.{IsNoBetter, Refutes}
use Rattle.prop_seeking.specs.inner.Bounds.{Bounds, IsBarred, IsWithin}
use Rattle.prop_seeking.specs.inner.Seekers.{Ground, IsFirst, IsLast, aim_of, state_at}
use Rattle.prop_seeking.proofs.ExcuseLemmas.{at_cell, no_less, no_more}

-- ---- one number

-- a number that isn't below an end is no better, and one that is below is excused, and so none is
least_number : (found alone : SpanOf) (end : ℤ) (size : ℕ) (p : Point) → IsPointOf SpanKind size p
    → end ≤ℤ found.lo → alone.lo ≡ end
    → (IsSo (AtMost (end -ℤ pos 1)) p → IsNoBetter aims.Least (Span found) p) → IsNoBetter aims.Least (Span alone) p
least_number found alone end size (Number v) of above same excused =
    by_lt_z (end -ℤ pos 1) v (λ l. omega (arith, ints, same, l))
    (λ l. let least = excused l in omega (arith, ints, above, same, least))
least_number found alone end size (Element i) of above same excused = absurd of
least_number found alone end size (Symbol a) of above same excused = absurd of

greatest_number : (found alone : SpanOf) (end : ℤ) (size : ℕ) (p : Point) → IsPointOf SpanKind size p
    → found.hi ≤ℤ end → alone.hi ≡ end
    → (IsSo (AtLeast (end +ℤ pos 1)) p → IsNoBetter aims.Greatest (Span found) p)
    → IsNoBetter aims.Greatest (Span alone) p
greatest_number found alone end size (Number v) of below same excused =
    by_lt_z v (end +ℤ pos 1) (λ l. omega (arith, ints, same, l))
    (λ l. let most = excused l in omega (arith, ints, below, same, most))
greatest_number found alone end size (Element i) of below same excused = absurd of
greatest_number found alone end size (Symbol a) of below same excused = absurd of

-- ---- spans in a list

abbrev lo_of : Option Info → ℤ
lo_of (Some (Span s)) = s.lo
lo_of other = pos 0

abbrev hi_of : Option Info → ℤ
hi_of (Some (Span s)) = s.hi
hi_of other = pos 0

one_so : {A : Type 0} (P : A → Type 0) (x : A) → P x → All P (x ∷ [])
one_so P x h = All-push P [] x (All-nil P) h

-- ---- of all points

module _ (g : Ground) (s : Search) (by : List ℕ) where
  abbrev Known : Literal → Type 0
  Known x = IsKnown g.library (attached_of g.cells) (choices_of g.premises) (believed_in g.premises) s.excuses
      (record { literals = x ∷ []; premises = by })

  -- points of which the fact is so are excused
  excused_where : (x : Literal) → Known x → x.place < length g.cells.kinds → (list : List ℕ) (points : ℕ → Point)
      → IsChoiceList (choices_of g.premises) list
      → ArePoints (AreHeld g.library) (attached_of g.cells)
      (worldview (set_of by) (choices_of g.premises) list) points
      → IsSo x.fact (points x.place) → IsExcused (attached_of g.cells) s.excuses points list
  excused_where x known there list points sided are so =
      known.excluded.out list points sided (record {
        satisfied = are;
        so = one_so (IsSoAt (attached_of g.cells) points list) x
            (subst (IsSo x.fact) (sym (at_cell (attached_of g.cells) points list x.place there)) so);
      })

  -- the point of a cell for numbers is one
  is_number : (cell : ℕ) → cell < length g.cells.kinds → (kind_at g.cells.kinds cell).kind ≡ SpanKind
      → (members : _) (points : ℕ → Point) → ArePoints (AreHeld g.library) (attached_of g.cells) members points
      → IsPointOf SpanKind (kind_at g.cells.kinds cell).size (points cell)
  is_number cell there number members points are =
      let k = kind_at g.cells.kinds cell in
      subst (λ (kind : Kind). IsPointOf kind k.size (points cell)) number
      (are.of_kind cell k (slice_get-get_or g.cells.kinds cell span_kind there))

  bounded : (goal : Goal) (named : List ℕ) (values : List Info) (facts : List Literal) (end : ℤ) (cell : ℕ)
      (found alone : SpanOf) → IsFirst goal named → AreExcusing goal named values facts
      → s.excuses ≡ excused_then goal [] facts → cell < length g.cells.kinds
      → (kind_at g.cells.kinds cell).kind ≡ SpanKind
      → slice_get values cell ≡ Some (Span found) → IsWithin goal cell found end → alone.lo ≡ end → alone.hi ≡ end
      → (x : Literal) × IsBetter goal end x × Known x
      → Refutes g.library (state_at g) (λ points. IsNoBetter (aim_of goal) (Span alone)
      (points (slice_index named 0))) by
  bounded Any named values facts end cell found alone first excusing only there number value within lo hi barred =
      absurd within
  bounded (Least c) named values facts end cell found alone first (old, at, is) only there number value
      (same, above) lo hi (x, literal, known) =
      let inside : c < length g.cells.kinds = subst (λ (x : ℕ). x < length g.cells.kinds) (sym same) there in
      let number_c : (kind_at g.cells.kinds c).kind ≡ SpanKind =
      ap (λ (x : ℕ). (kind_at g.cells.kinds x).kind) same ∙ number in
      let size = (kind_at g.cells.kinds c).size in
      let known_c : Known (record { place = c; fact = AtMost (end -ℤ pos 1) }) = subst Known literal known in
      let ends : old.lo ≡ found.lo = ap lo_of (sym at ∙ ap (slice_get values) same ∙ value) in
      let above_c : end ≤ℤ old.lo = subst (λ (v : ℤ). end ≤ℤ v) (sym ends) above in (
        known.within,
        λ list points sided are.
            subst (λ (d : ℕ). IsNoBetter aims.Least (Span alone) (points d)) (sym first)
            (least_number old alone end size (points c) (is_number c inside number_c _ points are) above_c
            lo (λ so. no_less (attached_of g.cells) points list c old s.excuses (only ∙ ap (λ fs. fs ∷ []) is)
            (excused_where (record { place = c; fact = AtMost (end -ℤ pos 1) }) known_c inside list points sided are
            so))),
      )
  bounded (Greatest c) named values facts end cell found alone first (old, at, is) only there number value
      (same, below) lo hi (x, literal, known) =
      let inside : c < length g.cells.kinds = subst (λ (x : ℕ). x < length g.cells.kinds) (sym same) there in
      let number_c : (kind_at g.cells.kinds c).kind ≡ SpanKind =
      ap (λ (x : ℕ). (kind_at g.cells.kinds x).kind) same ∙ number in
      let size = (kind_at g.cells.kinds c).size in
      let known_c : Known (record { place = c; fact = AtLeast (end +ℤ pos 1) }) = subst Known literal known in
      let ends : old.hi ≡ found.hi = ap hi_of (sym at ∙ ap (slice_get values) same ∙ value) in
      let below_c : old.hi ≤ℤ end = subst (λ (v : ℤ). v ≤ℤ end) (sym ends) below in (
        known.within,
        λ list points sided are.
            subst (λ (d : ℕ). IsNoBetter aims.Greatest (Span alone) (points d)) (sym first)
            (greatest_number old alone end size (points c) (is_number c inside number_c _ points are)
            below_c hi (λ so. no_more (attached_of g.cells) points list c old s.excuses (only ∙ ap (λ fs. fs ∷ []) is)
            (excused_where (record { place = c; fact = AtLeast (end +ℤ pos 1) }) known_c inside list points sided are
            so))),
      )
  bounded Differing named values facts end cell found alone first excusing only there number value within lo hi
      barred = absurd within

-- where a plan was found, none are better than what is told
pub refutes_bound : (g : Ground) (s : Search) (last : Option PlanOf) (p : PlanOf) (end : ℤ) (cell : ℕ) (a : Info)
    (by : List ℕ) → last ≡ Some p → IsFirst s.goal s.named → IsLast g s last
    → Bounds g.cells.kinds s.goal p.values.items end cell a → IsBarred g s end by
    → Refutes g.library (state_at g) (λ points. IsNoBetter (aim_of s.goal) a (points (slice_index s.named 0))) by
refutes_bound g s last p end cell a by some first h b barred =
    let k = subst (λ (o : Option PlanOf). IsLast g s o) some h in
    subst (λ (i : Info). Refutes g.library (state_at g)
    (λ points. IsNoBetter (aim_of s.goal) i (points (slice_index s.named 0))) by) (sym b.is)
    (bounded g s by s.goal s.named p.values.items k.1.0 end cell b.found b.alone first k.1.1 k.1.2
    b.there b.number b.value b.within b.same.0 b.same.1 barred)
