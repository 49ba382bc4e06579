-- What single points tell: where points satisfy a state, each cell may be pinned to its own.
use Rattle.std.proofs.Common.{◌≡◌, ◌≢◌, ◌⊎◌, ◌∙◌, ℕ, ℤ, ◌^◌, ◌<◌, ◌≤◌, ◌≤ℤ◌, neg_ℤ, List, ◌++◌, map}
use Rattle.std.proofs.Common.{All, length, get_or, refl, ap, sym, subst, inl, inr, arith, rules, None, IsTrue}
use Rattle.std.specs.Prelude.{count_ones}
use Rattle.std.specs.Int.{bit_at}
use Rattle.std.specs.List.{range_with_len}
use Rattle.std.proofs.lemmas.Bool.{cases_eq}
use Rattle.std.proofs.lemmas.Int.{ints}
use Rattle.std.proofs.lemmas.Nat.{pow_pos, zero_from_ones}
use Rattle.std.proofs.lemmas.Nat.Bits.{bit_at-pow_same}
use Rattle.std.proofs.lemmas.List.Elements.{All-append, All-map}
use Rattle.std.proofs.lemmas.List.FromFn.{get_or-range_with_len, length-range_with_len, get_or-map-range_with_len}
use Rattle.std.proofs.lemmas.List.FromFn.{length-map-range_with_len}
use Rattle.std.proofs.lemmas.Option.{slice_get-get_or}
use Rattle.std.proofs.Math.Pow.{pow-lt}
use Rattle.prop_lattice.proofs.PartLemmas.{ones_part}
use Rattle.prop_lattice.specs.Ends.{AreEnds, ends_or_not, some_or_not, span_from, elements_from}
use Rattle.prop_lattice.specs.inner.Ends.{AreSome, span_if, elements_if}
use Rattle.prop_lattice.specs.Order.{Below, HasElement}
use Rattle.prop_lattice.specs.Points.{Point, Number, Element, Symbol, Holds, IsPointOf}
use Rattle.prop_lattice.specs.declared.elements.Elements as sets
use Rattle.prop_lattice.specs.declared.info.Info.{Info}
use Rattle.prop_lattice.specs.declared.info.Info.TheVariants.{Nothing, Span, Set, Sym, Contradiction}
use Rattle.prop_lattice.specs.declared.info.Kind.{Kind}
use Rattle.prop_lattice.specs.declared.info.Kind.TheVariants as kinds
use Rattle.prop_lattice.specs.declared.span.TheConstants.{B}
use Rattle.prop_intervals.specs.laws.ClipLaws.{span_from_holds}
use Rattle.prop_sets.specs.laws.NarrowestLaws.{elements_hold}
use Rattle.prop_hall.proofs.CountLemmas.{ones_one}
use Rattle.prop_numbers.specs.Sets.{Members}
use Rattle.prop_procedures.specs.declared.shape.Kinded.{Kinded}
use Rattle.prop_procedures.specs.declared.shape.Param.{Param}
use Rattle.prop_procedures.specs.Fitting.{kind_at}
use Rattle.prop_procedures.specs.Stored.{Stored, span_kind}
use Rattle.prop_cells.specs.Points.{AreSoundBy, Attached, AreFitting, ArePoints, problem_of}
use Rattle.prop_cells.specs.Problems.{IsSolution, is_member}
use Rattle.prop_cells.specs.declared.instance.Statement.{Statement}
use Rattle.prop_cells.proofs.PointLaws.{points_consistent}
use Rattle.prop_points.specs.Networks.{AreSettled, SinglesSolve}
use Rattle.prop_points.specs.Singles.{IsSingle}
use Rattle.prop_plans.specs.Held.{AreHeld}
use Rattle.prop_demands.proofs.Lists.{all_first, all_second}

-- ---- one point

-- what leaves a point alone
pub alone : Point → Info
alone (Number z) = span_from z z
alone (Element i) = elements_from (2 ^ i)
alone (Symbol n) = Sym n

alone_holds : (kind : Kind) (size : ℕ) (p : Point) → IsPointOf kind size p → size ≤ 64 → Holds (alone p) p
unfolding alone
alone_holds kinds.Span size (Number z) h l =
    span_from_holds z z z (omega (arith, ints)) (omega (arith, ints)) h.0 h.1
alone_holds (kinds.Set d) size (Element i) h l =
    let few : i < 64 = omega (arith, h, l) in elements_hold (2 ^ i) (pow-lt few) i (bit_at-pow_same i)
alone_holds kinds.Symbol size (Symbol n) h l = refl
alone_holds kind size p h l = search rules

single_set : (i : ℕ) (t : sets.Elements) → i < 64 → ((j : ℕ) → HasElement t j → bit_at (2 ^ i) j ≡ 1)
    → IsSingle (Set t) (Element i)
single_set i t few h =
    let part = ones_part 64 (2 ^ i) t.bits (pow-lt few) h in
    let one : count_ones t.bits ≡ 1 = by part.0 (cases_eq (count_ones t.bits) 0) in
    let same : 2 ^ i ≡ t.bits = part.1 (one ∙ sym (ones_one i)) in
    (one, ap (λ (n : ℕ). bit_at n i) (sym same) ∙ bit_at-pow_same i)
  where
    by : count_ones t.bits ≤ count_ones (2 ^ i) → (count_ones t.bits ≡ 0) ⊎ (count_ones t.bits ≢ 0)
        → count_ones t.bits ≡ 1
    by l (inl none) = absurd (omega (arith, t.some, zero_from_ones t.bits none))
    by l (inr some) = omega (arith, l, some, ones_one i)

of_number : (z : ℤ) (a : Info) → (neg_ℤ B ≤ℤ z) × (z ≤ℤ B) → Below (span_from z z) a → a ≢ Contradiction
    → IsSingle a (Number z)
unfolding span_from
of_number z a range below clear = by (ends_or_not z z) a below clear
  where
    by : (d : AreEnds z z ⊎ ¬ (AreEnds z z)) (a : Info) → Below (span_if z z d) a → a ≢ Contradiction
        → IsSingle a (Number z)
    by (inl e) (Span t) b c = (omega (arith, ints, b.0, b.1, t.ordered), omega (arith, ints, b.0, b.1, t.ordered))
    by (inl e) Contradiction b c = absurd (c refl)
    by (inl e) Nothing b c = absurd b
    by (inl e) (Set t) b c = absurd b
    by (inl e) (Sym t) b c = absurd b
    by (inr f) a b c = absurd (f (range.0, omega (arith, ints), range.1))

of_element : (i : ℕ) (a : Info) → i < 64 → Below (elements_from (2 ^ i)) a → a ≢ Contradiction → IsSingle a (Element i)
unfolding elements_from
of_element i a few below clear = by (some_or_not (2 ^ i)) a below clear
  where
    by : (d : AreSome (2 ^ i) ⊎ ¬ (AreSome (2 ^ i))) (a : Info) → Below (elements_if (2 ^ i) d) a → a ≢ Contradiction
        → IsSingle a (Element i)
    by (inl e) (Set t) b c = single_set i t few b
    by (inl e) Contradiction b c = absurd (c refl)
    by (inl e) Nothing b c = absurd b
    by (inl e) (Span t) b c = absurd b
    by (inl e) (Sym t) b c = absurd b
    by (inr f) a b c = absurd (f (pow_pos i, pow-lt few))

of_symbol : (n : ℕ) (a : Info) → Below (Sym n) a → a ≢ Contradiction → IsSingle a (Symbol n)
of_symbol n (Sym m) b c = sym b
of_symbol n Contradiction b c = absurd (c refl)
of_symbol n Nothing b c = absurd b
of_symbol n (Span t) b c = absurd b
of_symbol n (Set t) b c = absurd b

single_from : (kind : Kind) (size : ℕ) (p : Point) (a : Info) → IsPointOf kind size p → size ≤ 64 → Below (alone p) a
    → a ≢ Contradiction → IsSingle a p
unfolding alone
single_from kinds.Span size (Number z) a h l b c = of_number z a h b c
single_from (kinds.Set d) size (Element i) a h l b c = of_element i a (omega (arith, h, l)) b c
single_from kinds.Symbol size (Symbol n) a h l b c = of_symbol n a b c
single_from kind size p a h l b c = search rules

-- ---- all cells

-- each procedure's answers hold the points that it holds
pub held_are_sound : (library : List Stored) → AreSoundBy library (AreHeld library)
held_are_sound library n p at any param args points point call of_kinds of_kind each held =
    held n p at any param args points point call of_kinds of_kind each (refl, refl, refl, refl)

-- the kinds have no more elements than a set has
abbrev pub AreFew : List Kinded → Type 0
AreFew kinds = (cell : ℕ) → cell < length kinds → (kind_at kinds cell).size ≤ 64

module _ (library : List Stored) (related : ℕ → Param → List Point → Point → Type 0)
    (single : SinglesSolve library related) (n : Attached) (s : Members) (points : ℕ → Point)
    (fit : AreFitting library n) (within : All (λ (x : Statement). x.cell < length n.kinds) n.statements)
    (few : AreFew n.kinds) (held : ArePoints (AreHeld library) n s points)
  where
    in_range : (cell : ℕ) → cell < length n.kinds
        → IsPointOf (kind_at n.kinds cell).kind (kind_at n.kinds cell).size (points cell)
    in_range cell l = held.of_kind cell (kind_at n.kinds cell) (slice_get-get_or n.kinds cell span_kind l)

    pin : ℕ → Statement
    pin cell = record { premise = None; cell = cell; info = alone (points cell) }

    pins : List Statement
    pins = map pin (range_with_len 0 (length n.kinds))

    pinned : Attached
    pinned = record { kinds = n.kinds; statements = n.statements ++ pins; instances = n.instances }

    abbrev IsStated : Statement → Type 0
    IsStated x = IsTrue (is_member s x.premise) → Holds x.info (points x.cell)

    pins_stated : All IsStated pins
    unfolding pins pin
    pins_stated = All-map IsStated pin (range_with_len 0 (length n.kinds)) each
      where
        each : All (λ (c : ℕ). IsStated (pin c)) (range_with_len 0 (length n.kinds))
        each k d l h =
            let at = get_or-range_with_len 0 (length n.kinds) k d
            (rw (length-range_with_len 0 (length n.kinds)) at l) in
            let below : get_or (range_with_len 0 (length n.kinds)) k d < length n.kinds =
            omega (arith, at, l, length-range_with_len 0 (length n.kinds)) in
            let c = get_or (range_with_len 0 (length n.kinds)) k d in
            alone_holds _ _ (points c) (in_range c below) (few c below)

    pinned_held : ArePoints (AreHeld library) pinned s points
    unfolding pinned
    pinned_held = record {
      of_kind = held.of_kind;
      stated = All-append IsStated n.statements pins held.stated pins_stated;
      together = held.together;
    }

    pinned_fit : AreFitting library pinned
    unfolding pinned
    pinned_fit = record { fitting = fit.fitting; within = fit.within }

    pub told_by_single : ArePoints related n s points
    unfolding pinned pins pin
    told_by_single =
        let free = points_consistent library (AreHeld library) (held_are_sound library) pinned s points pinned_fit
        pinned_held in
        let a = free.solution in
        let S : Statement → Type 0 = λ x. IsTrue (is_member s x.premise) → Below x.info (a x.cell) in
        let solves : IsSolution (problem_of library n) s a = record {
          kinds = free.solves.kinds;
          statements = all_first S n.statements pins free.solves.statements;
          instances = free.solves.instances;
        } in
        let pinned_below : (cell : ℕ) → cell < length n.kinds → Below (alone (points cell)) (a cell) =
        λ cell l.
        let k : cell < length pins = omega (arith, l, length-map-range_with_len pin 0 (length n.kinds)) in
        let at : get_or pins cell (pin 0) ≡ pin cell =
        get_or-map-range_with_len pin 0 (length n.kinds) cell cell (pin 0) l (omega arith) in
        subst S at (all_second S n.statements pins free.solves.statements cell (pin 0) k) refl in
        let settled : AreSettled n a points = record {
          single = λ cell l. single_from _ _ (points cell) (a cell) (in_range cell l) (few cell l) (pinned_below cell l)
              (free.free cell);
          within = within;
        } in
        single n s a points fit solves settled
