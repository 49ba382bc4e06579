-- Points that satisfy everything lie in all that is entailed: the points alone are a solution.
use Rattle.std.proofs.Common.{◌≡◌, ◌≢◌, ℕ, ◌<◌, ◌^◌, Bool, true, false, ◌==◌, ◌||◌, List, [], ◌∷◌, ◌++◌, length, map}
use Rattle.std.proofs.Common.{zip, refl, subst, arith, rules, All, get_or, inl, inr, ◌⊎◌, eqb-true, eq-eqb, ℤ}
use Rattle.std.specs.List.{list_any, list_all}
use Rattle.std.specs.Int.{bit_at}
use Rattle.std.proofs.Math.Pow.{pow-lt}
use Rattle.std.proofs.lemmas.Int.{ints}
use Rattle.std.proofs.lemmas.Nat.{pow_pos}
use Rattle.std.proofs.lemmas.Nat.Bits.{bit_at-pow_same, bit_at-pow_other}
use Rattle.std.proofs.lemmas.List.Elements.{All-map, All-head, All-tail, All-weaker}
use Rattle.std.proofs.lemmas.Option.{slice_get-get_or}
use Rattle.prop_lattice.specs.declared.info.Info.{Info}
use Rattle.prop_lattice.specs.declared.info.Info.TheVariants.{Nothing, Span, Set, Sym, Contradiction}
use Rattle.prop_lattice.specs.declared.info.Kind.{Kind}
use Rattle.prop_lattice.specs.declared.info.Kind.TheVariants as kinds
use Rattle.prop_lattice.specs.Ends.{AreEnds, ends_or_not, some_or_not}
use Rattle.prop_lattice.specs.inner.Ends.{AreSome}
use Rattle.prop_lattice.specs.Order.{Below, HasElement, is_contradiction}
use Rattle.prop_lattice.specs.laws.OrderLaws.{info_laws}
use Rattle.prop_lattice.specs.declared.span.Span as spans
use Rattle.prop_lattice.specs.declared.elements.Elements as sets
use Rattle.prop_lattice.specs.Rank.{IsOf}
use Rattle.prop_lattice.specs.Points.{Point, Number, Element, Symbol, Holds, IsPointOf}
use Rattle.prop_lattice.proofs.PartLemmas.{below_top}
use Rattle.prop_procedures.specs.declared.shape.Kinded.{Kinded}
use Rattle.prop_procedures.specs.declared.shape.Param.{Param}
use Rattle.prop_procedures.specs.declared.shape.Shape.{Shape}
use Rattle.prop_procedures.specs.Rules.{kind_of, EachHolds}
use Rattle.prop_procedures.specs.inner.Places.{ArePointsOf}
use Rattle.prop_procedures.specs.Stored.{Stored, span_kind}
use Rattle.prop_procedures.specs.inner.Places.{is_same}
use Rattle.prop_cells.specs.Problems.{IsSolution}
use Rattle.prop_cells.specs.inner.Problems.{Premises, AreOfKinds, Meets}
use Rattle.prop_procedures.specs.Fitting.{kind_at}
use Rattle.prop_cells.specs.Instances.{Instance, IsFitting, IsWithin, constraint_of}
use Rattle.prop_cells.specs.Points.{AreSoundBy, Attached, AreFitting, problem_of, ArePoints, EntailedHoldsPoints}
use Rattle.prop_cells.specs.Points.{PointsAreConsistent}
use Rattle.prop_cells.proofs.Fitted.{and_both, same_kinded, any_at, right_at, is_call_at}

-- ---- the information that holds one point

number_if : (v : ℤ) → AreEnds v v ⊎ ¬ (AreEnds v v) → Info
number_if v (inl e) = Span (record { lo = v; hi = v; above = e.0; ordered = e.1; below = e.2 })
number_if v (inr f) = Nothing

element_if : (bits : ℕ) → AreSome bits ⊎ ¬ (AreSome bits) → Info
element_if bits (inl e) = Set (record { bits = bits; some = e.0; fits = e.1 })
element_if bits (inr f) = Nothing

-- nothing where no information but that holds it
single : Point → Info
single (Number v) = number_if v (ends_or_not v v)
single (Element i) = element_if (2 ^ i) (some_or_not (2 ^ i))
single (Symbol n) = Sym n

element_fits : (bits i : ℕ) → bits < 2 ^ 64 → bit_at bits i ≡ 1 → AreSome (2 ^ i)
element_fits bits i l h = (pow_pos i, pow-lt (below_top bits l i h))

-- what is below neither a span nor nothing is not below the information of a number
no_number : (v : Info) (w : ℤ) → (Below v Nothing → ⊥) → ((t : spans.Span) → Below v (Span t) → ⊥)
    → Below v (single (Number w)) → ⊥
unfolding single number_if
no_number v w f g h = by (ends_or_not w w) h
  where
    by : (d : AreEnds w w ⊎ ¬ (AreEnds w w)) → Below v (number_if w d) → ⊥
    by (inl e) k = g _ k
    by (inr e) k = f k

no_element : (v : Info) (i : ℕ) → (Below v Nothing → ⊥) → ((t : sets.Elements) → Below v (Set t) → ⊥)
    → Below v (single (Element i)) → ⊥
unfolding single element_if
no_element v i f g h = by (some_or_not (2 ^ i)) h
  where
    by : (d : AreSome (2 ^ i) ⊎ ¬ (AreSome (2 ^ i))) → Below v (element_if (2 ^ i) d) → ⊥
    by (inl e) k = g _ k
    by (inr e) k = f k

only_element : (i j : ℕ) → bit_at (2 ^ i) j ≡ 1 → j ≡ i
only_element i j h = by (j == i) refl
  where
    differs : (j == i) ≡ false → (j == i) ≡ true → ⊥
    differs e f = cc

    by : (t : Bool) → (j == i) ≡ t → j ≡ i
    by true e = eqb-true j i e
    by false e = absurd (omega (arith, h, bit_at-pow_other i j (λ q. absurd (differs e (eq-eqb j i q)))))

single_above : (v : Info) (p : Point) → Holds v p → Below v (single p)
unfolding single number_if element_if
single_above Nothing p h = tt
single_above (Span s) (Number v) h = by (ends_or_not v v)
  where
    by : (d : AreEnds v v ⊎ ¬ (AreEnds v v)) → Below (Span s) (number_if v d)
    by (inl e) = (h.0, h.1)
    by (inr f) = absurd (f (omega (arith, ints, s.above), omega (arith, ints), omega (arith, ints, s.below)))
single_above (Set s) (Element i) h = by (some_or_not (2 ^ i))
  where
    by : (d : AreSome (2 ^ i) ⊎ ¬ (AreSome (2 ^ i))) → Below (Set s) (element_if (2 ^ i) d)
    by (inl e) = λ j k. rw (only_element i j k) h
    by (inr f) = absurd (f (element_fits s.bits i s.fits h))
single_above (Sym a) (Symbol b) h = h
single_above v p h = search rules

single_holding : (v : Info) (p : Point) → Below v (single p) → Holds v p
unfolding single number_if element_if
single_holding Nothing p h = tt
single_holding (Span s) (Number v) h = by (ends_or_not v v) h
  where
    by : (d : AreEnds v v ⊎ ¬ (AreEnds v v)) → Below (Span s) (number_if v d) → Holds (Span s) (Number v)
    by (inl e) h = (h.0, h.1)
    by (inr f) h = absurd h
single_holding (Set s) (Element i) h = by (some_or_not (2 ^ i)) h
  where
    by : (d : AreSome (2 ^ i) ⊎ ¬ (AreSome (2 ^ i))) → Below (Set s) (element_if (2 ^ i) d) → HasElement s i
    by (inl e) h = h i (bit_at-pow_same i)
    by (inr f) h = absurd h
single_holding (Sym a) (Symbol b) h = h
single_holding (Span s) (Element i) h = no_element (Span s) i (λ k. k) (λ t k. k) h
single_holding (Sym a) (Element i) h = no_element (Sym a) i (λ k. k) (λ t k. k) h
single_holding Contradiction (Element i) h = no_element Contradiction i (λ k. k) (λ t k. k) h
single_holding (Set s) (Number w) h = no_number (Set s) w (λ k. k) (λ t k. k) h
single_holding (Sym a) (Number w) h = no_number (Sym a) w (λ k. k) (λ t k. k) h
single_holding Contradiction (Number w) h = no_number Contradiction w (λ k. k) (λ t k. k) h
single_holding v (Symbol n) h = search rules

single_of_kind : (kind : Kind) (size : ℕ) (p : Point) → IsPointOf kind size p → IsOf kind size (single p)
unfolding single number_if element_if
single_of_kind kinds.Span size (Number v) h = by (ends_or_not v v)
  where
    by : (d : AreEnds v v ⊎ ¬ (AreEnds v v)) → IsOf kinds.Span size (number_if v d)
    by (inl e) = tt
    by (inr f) = tt
single_of_kind (kinds.Set n) size (Element i) h = by (some_or_not (2 ^ i))
  where
    by : (d : AreSome (2 ^ i) ⊎ ¬ (AreSome (2 ^ i))) → IsOf (kinds.Set n) size (element_if (2 ^ i) d)
    by (inl e) = λ j k. rw (only_element i j k) h
    by (inr f) = tt
single_of_kind kinds.Symbol size (Symbol n) h = tt
single_of_kind kind size p h = search rules

single_clear : (p : Point) → is_contradiction (single p) ≡ false
unfolding single number_if element_if
single_clear (Number v) = by (ends_or_not v v)
  where
    by : (d : AreEnds v v ⊎ ¬ (AreEnds v v)) → is_contradiction (number_if v d) ≡ false
    by (inl e) = refl
    by (inr f) = refl
single_clear (Element i) = by (some_or_not (2 ^ i))
  where
    by : (d : AreSome (2 ^ i) ⊎ ¬ (AreSome (2 ^ i))) → is_contradiction (element_if (2 ^ i) d) ≡ false
    by (inl e) = refl
    by (inr f) = refl
single_clear (Symbol n) = refl

not_contradiction : (v : Info) → is_contradiction v ≡ false → v ≢ Contradiction
not_contradiction Contradiction e = cc
not_contradiction v e = λ h. cc

-- ---- the points of an instance

singles_clear : (points : ℕ → Point) (cells : List ℕ)
    → list_any is_contradiction (map (λ c. single (points c)) cells) ≡ false
singles_clear points [] = refl
singles_clear points (c ∷ cs) = neither _ _ (single_clear (points c)) (singles_clear points cs)
  where
    neither : (a b : Bool) → a ≡ false → b ≡ false → (a || b) ≡ false
    neither true b e f = cc
    neither false b e f = f

each_holds : (points : ℕ → Point) (cells : List ℕ) → EachHolds (map (λ c. single (points c)) cells) (map points cells)
each_holds points [] = tt
each_holds points (c ∷ cs) = (
  single_holding (single (points c)) (points c) (info_laws.reflexive (single (points c))),
  each_holds points cs,
)

abbrev is_place : (Shape → Kinded) → (Shape × Kinded) → Bool
is_place any place = is_same place.1 (kind_of any place.0)

abbrev IsPointAt : List Kinded → (ℕ → Point) → ℕ → Type 0
IsPointAt kinds points c = IsPointOf (kind_at kinds c).kind (kind_at kinds c).size (points c)

points_of : (any : Shape → Kinded) (ins : List Shape) (out : Shape) (kinds : List Kinded) (points : ℕ → Point)
    (inputs : List ℕ) (o : ℕ) → length inputs ≡ length ins
    → list_all (is_place any) (zip (ins ++ out ∷ []) (map (kind_at kinds) (inputs ++ o ∷ []))) ≡ true
    → All (IsPointAt kinds points) inputs → IsPointAt kinds points o
    → ArePointsOf any ins (map points inputs) × IsPointOf (kind_of any out).kind (kind_of any out).size (points o)
points_of any [] out kinds points [] o l e h k =
    let P : Kinded → Type 0 = λ d. IsPointOf d.kind d.size (points o) in
    (tt, subst P (same_kinded _ _ (and_both (is_same (kind_at kinds o) (kind_of any out)) true e).0) k)
points_of any [] out kinds points (c ∷ cs) o l e h k = absurd (omega (arith, l))
points_of any (s ∷ ss) out kinds points [] o l e h k = absurd (omega (arith, l))
points_of any (s ∷ ss) out kinds points (c ∷ cs) o l e h k =
    let both = and_both (is_same (kind_at kinds c) (kind_of any s))
    (list_all (is_place any) (zip (ss ++ out ∷ []) (map (kind_at kinds) (cs ++ o ∷ [])))) e in
    let here : IsPointAt kinds points c = All-head (IsPointAt kinds points) c cs h in
    let P : Kinded → Type 0 = λ d. IsPointOf d.kind d.size (points c) in
    let rest = points_of any ss out kinds points cs o (omega (arith, l)) both.1
    (All-tail (IsPointAt kinds points) c cs h) k in
    ((subst P (same_kinded _ _ both.0) here, rest.0), rest.1)

module _ (library : List Stored) (related : ℕ → Param → List Point → Point → Type 0)
    (sound : AreSoundBy library related) (n : Attached) (s : Premises) (points : ℕ → Point) (fit : AreFitting library n)
    (p : ArePoints related n s points) where
  in_range : (c : ℕ) → c < length n.kinds → IsPointAt n.kinds points c
  in_range c l = p.of_kind c (kind_at n.kinds c) (slice_get-get_or n.kinds c span_kind l)

  singles_are_of_kinds : AreOfKinds n.kinds (λ c. single (points c))
  singles_are_of_kinds = record { of_kind = λ c k at. single_of_kind k.kind k.size (points c) (p.of_kind c k at) }

  met : (x : Instance) → IsFitting library n.kinds x → IsWithin (length n.kinds) x
      → related x.procedure x.param (map points x.inputs) (points x.output)
      → Meets (λ c. single (points c)) (constraint_of library x)
  met x f w r =
      let q = f.procedure in
      let call = is_call_at q n.kinds x (λ c. single (points c)) f.fits w singles_are_of_kinds
      (singles_clear points x.inputs) in
      let inputs = All-weaker (λ c. c < length n.kinds) (IsPointAt n.kinds points) in_range x.inputs w.inputs in
      let at = points_of (any_at q n.kinds x) q.ins q.out n.kinds points x.inputs x.output f.fits.count
      (right_at q n.kinds x f.fits) inputs (in_range x.output w.output) in
      let holds = sound x.procedure q f.at (any_at q n.kinds x) x.param (map (λ c. single (points c)) x.inputs)
      (map points x.inputs) (points x.output) call at.0 at.1 (each_holds points x.inputs) r in
      rw (f.at, singles_clear points x.inputs) (single_above _ _ holds)

  solved : IsSolution (problem_of library n) s (λ c. single (points c))
  solved = record {
    kinds = singles_are_of_kinds.of_kind;
    statements = λ k d l h. single_above _ _ (p.stated k d l h);
    instances = All-map (Meets (λ c. single (points c))) (constraint_of library) n.instances
        (λ k d l. met (get_or n.instances k d) (fit.fitting k d l) (fit.within k d l) (p.together k d l));
  }

pub entailed_holds : (library : List Stored) (related : ℕ → Param → List Point → Point → Type 0)
    → AreSoundBy library related → EntailedHoldsPoints library related
entailed_holds library related sound n s points fit p cell v e =
    single_holding v (points cell) (e.below (λ c. single (points c)) (solved library related sound n s points fit p))

pub points_consistent : (library : List Stored) (related : ℕ → Param → List Point → Point → Type 0)
    → AreSoundBy library related → PointsAreConsistent library related
points_consistent library related sound n s points fit p = record {
  solution = λ c. single (points c);
  solves = solved library related sound n s points fit p;
  free = λ c. not_contradiction (single (points c)) (single_clear (points c));
}
