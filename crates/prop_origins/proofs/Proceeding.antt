-- How what is known goes on, and where it ends.
use Rattle.std.proofs.Common.{◌≡◌, ◌≢◌, ◌∙◌, ◌+◌, ◌<◌, ◌≤◌, ◌⊎◌, ◌==◌, ℕ, zero, suc, Bool, true, false}
use Rattle.std.proofs.Common.{List, [], ◌∷◌, if◌then◌else◌, All, Contains, Some, length, slice_get}
use Rattle.std.proofs.Common.{refl, sym, ap, subst, arith, inl, inr, zero-add}
use Rattle.std.specs.List.{range_with_len}
use Rattle.std.proofs.lemmas.Bool.Decides.{eqb_tells}
use Rattle.std.proofs.lemmas.List.{length-map}
use Rattle.std.proofs.lemmas.List.Elements.{All-contains, All-weaker}
use Rattle.std.proofs.lemmas.List.Elements.{Contains-append_cases}
use Rattle.std.proofs.lemmas.List.FromFn.{length-range_with_len, get_or-range_with_len}
use Rattle.std.proofs.lemmas.Option.{get_or_from_slice_get, slice_get-get_or, slice_get_within}
use Rattle.prop_lattice.specs.declared.info.Info.{Info}
use Rattle.prop_lattice.specs.Order.{Below, merge_of}
use Rattle.prop_lattice.specs.Rank.{IsOf}
use Rattle.prop_lattice.specs.laws.OrderLaws.{info_laws}
use Rattle.prop_procedures.specs.declared.shape.Kinded.{Kinded}
use Rattle.prop_procedures.specs.Stored.{Stored, span_kind}
use Rattle.prop_procedures.specs.Fitting.{kind_at}
use Rattle.prop_cells.specs.declared.instance.Statement.{Statement}
use Rattle.prop_cells.specs.Problems.{Problem, Assignment, Constraint, Entails, MergesAt}
use Rattle.prop_cells.specs.inner.Problems.{Premises, AreOfKinds, Meets}
use Rattle.prop_cells.specs.Problems.{OthersMeet, value_at}
use Rattle.prop_cells.specs.inner.Problems.{Satisfies}
use Rattle.prop_cells.specs.Instances.{Instance, constraint_of, readers_of}
use Rattle.prop_cells.specs.Data.{Data, problem_of}
use Rattle.prop_cells.proofs.Fitted.{merge_of_kind}
use Rattle.prop_cells.proofs.Fixpoint.{others_meet-step, merges_grow}
use Rattle.prop_cells.proofs.Reading.{readers_are, few_readers}
use Rattle.prop_scheduler.proofs.Bounds.{most_ranks}
use Rattle.prop_scheduler.specs.Agendas.{AllAlerted}
use Rattle.prop_scheduler.specs.Potential.{input_places, potential, most_steps}
use Rattle.prop_scheduler.proofs.Falls.{ranks_fall}
use Rattle.prop_scheduler.proofs.Steps.{from_map}
use Rattle.prop_origins.specs.Parts.{Part, made}
use Rattle.prop_origins.specs.inner.Proceeding.{Proceeds}
use Rattle.prop_origins.proofs.LogLaws.{same_test}

-- ---- steps after steps

pub proceeds_none : (problem : Problem) (line : List ℕ) (a : Assignment) → AreOfKinds problem.cells a
    → Proceeds problem 0 line line a a
proceeds_none problem line a kinds = record {
  of_kinds = kinds;
  grows = λ cell. info_laws.reflexive (a cell);
  falls = omega arith;
  met = λ o. o;
}

pub proceeds_then : (problem : Problem) (n m : ℕ) (line mid after : List ℕ) (a b c : Assignment)
    → Proceeds problem n line mid a b → Proceeds problem m mid after b c → Proceeds problem (n + m) line after a c
proceeds_then problem n m line mid after a b c first next = record {
  of_kinds = next.of_kinds;
  grows = λ cell. info_laws.transitive (a cell) (b cell) (c cell) (first.grows cell) (next.grows cell);
  falls = (let f = first.falls in let g = next.falls in omega (arith, f, g));
  met = λ o. next.met (first.met o);
}

-- what paid for more calls paid for fewer
pub proceeds_fewer : (problem : Problem) (n m : ℕ) (line after : List ℕ) (a b : Assignment) → m ≤ n
    → Proceeds problem n line after a b → Proceeds problem m line after a b
proceeds_fewer problem n m line after a b fewer went = record {
  of_kinds = went.of_kinds;
  grows = went.grows;
  falls = (let f = went.falls in omega (arith, f, fewer));
  met = went.met;
}

-- ---- one more part

pub made_merges : (p : Part) (ps : List Part) → MergesAt (made ps) (made (p ∷ ps)) p.cell p.value
made_merges p ps = record {
  merged = ap (λ (b : Bool). if b then merge_of (made ps p.cell) p.value else made ps p.cell) (same_test p.cell);
  others = λ c ne. elim (eqb_tells p.cell c) as (λ _. made (p ∷ ps) c ≡ made ps c) [
    | inl own ↦ absurd (ne (sym own.1))
    | inr other ↦ ap (λ (b : Bool). if b then merge_of (made ps c) p.value else made ps c) other.0
  ];
}

merged_of_kinds : (kinds : List Kinded) (a b : Assignment) (cell : ℕ) (v : Info) → MergesAt a b cell v
    → AreOfKinds kinds a → IsOf (kind_at kinds cell).kind (kind_at kinds cell).size v → AreOfKinds kinds b
merged_of_kinds kinds a b cell v m are of_kind = record { of_kind = at }
  where
    at : (c : ℕ) (k : Kinded) → slice_get kinds c ≡ Some k → IsOf k.kind k.size (b c)
    at c k e = elim (eqb_tells c cell) as (λ _. IsOf k.kind k.size (b c)) [
      | inl own ↦
          (let here = subst (λ (x : ℕ). IsOf (kind_at kinds x).kind (kind_at kinds x).size v) (sym own.1) of_kind in
          let value = subst (λ (q : Kinded). IsOf q.kind q.size v) (get_or_from_slice_get kinds c k span_kind e) here in
          let merged : b c ≡ merge_of (a c) v =
          subst (λ (x : ℕ). b x ≡ merge_of (a x) v) (sym own.1) m.merged in
          subst (λ (w : Info). IsOf k.kind k.size w) (sym merged)
          (merge_of_kind k.kind k.size (a c) v (are.of_kind c k e) value))
      | inr other ↦ subst (λ (w : Info). IsOf k.kind k.size w) (sym (m.others c other.1)) (are.of_kind c k e)
    ]

pub merged_above : (a b : Assignment) (cell : ℕ) (v : Info) → MergesAt a b cell v → Below v (b cell)
merged_above a b cell v m =
    subst (λ (w : Info). Below v w) (sym m.merged) (info_laws.least_above (a cell) v).above_second

behind : (i j : ℕ) (line : List ℕ) → Contains (i ∷ line) j → j ≢ i → Contains line j
behind i j line w ne = elim (Contains-append_cases (i ∷ []) line j w) as (λ _. Contains line j) [
  | inl here ↦ absurd (ne (only here))
  | inr there ↦ there
]
  where
    only : Contains (i ∷ []) j → j ≡ i
    only (zero, l, e) = sym e
    only (suc k, l, e) = absurd (omega (arith, l))

module _ (library : List Stored) (d : Data) (line after : List ℕ) (p : Part) (ps : List Part)
    (within : p.cell < length d.kinds) (are : AreOfKinds d.kinds (made ps))
    (of_kind : IsOf (kind_at d.kinds p.cell).kind (kind_at d.kinds p.cell).size p.value)
    (more : ¬ (Below p.value (made ps p.cell)))
    (alerted : AllAlerted line after (readers_of d.instances p.cell)) where
  abbrev problem : Problem
  problem = problem_of library d

  now_of_kinds : AreOfKinds d.kinds (made (p ∷ ps))
  now_of_kinds = merged_of_kinds d.kinds (made ps) (made (p ∷ ps)) p.cell p.value (made_merges p ps) are of_kind

  changed : made (p ∷ ps) p.cell ≢ made ps p.cell
  changed e = more (subst (λ (w : Info). Below p.value w) e
      (merged_above (made ps) (made (p ∷ ps)) p.cell p.value (made_merges p ps)))

  paid : potential problem (made (p ∷ ps)) after ≤ potential problem (made ps) line
  paid =
      let f = alerted.few in
      let r = ranks_fall d.kinds (made ps) (made (p ∷ ps)) p.cell p.value (made_merges p ps) within are now_of_kinds
      changed (input_places problem) in
      let n = few_readers library p.cell 0 d.instances in
      omega (arith, f, r, n)

  -- where the instance was called whose value it is, or none
  met_by : (i : ℕ) (waiting : List ℕ) → ((c : Constraint) → slice_get problem.constraints i ≡ Some c
      → (p.cell ≡ c.output) × (p.value ≡ value_at c (made ps)))
      → ((j : ℕ) → Contains waiting j → j ≢ i → Contains line j)
      → OthersMeet problem.constraints waiting (made ps) → OthersMeet problem.constraints after (made (p ∷ ps))
  met_by i waiting is_value kept o =
      others_meet-step problem.constraints waiting after (made ps) (made (p ∷ ps)) i p.cell p.value true is_value
      (made_merges p ps) (λ f. let t : true ≡ false = f in cc)
      (record {
        kept = λ j w ne. alerted.kept j (kept j w ne);
        readers = λ g j c at reads. let y = from_map (constraint_of library) d.instances j c at in
            All-contains (Contains after) (readers_of d.instances p.cell) j alerted.alerted
            ((readers_are d.instances p.cell).covers j y.0 y.1 (rw y.2 at reads));
      })
      o

  pub proceeds_told : Proceeds problem 0 line after (made ps) (made (p ∷ ps))
  proceeds_told = record {
    of_kinds = now_of_kinds;
    grows = merges_grow (made ps) (made (p ∷ ps)) p.cell p.value (made_merges p ps);
    falls = (let f = paid in omega (arith, f));
    met = met_by (length problem.constraints) line
        (λ c at. absurd (omega (arith, slice_get_within problem.constraints (length problem.constraints) c at)))
        (λ j w ne. w);
  }

  pub proceeds_called : (i : ℕ) (x : Instance) → slice_get d.instances i ≡ Some x → p.cell ≡ x.output
      → p.value ≡ value_at (constraint_of library x) (made ps)
      → Proceeds problem 1 (i ∷ line) after (made ps) (made (p ∷ ps))
  proceeds_called i x at cell value = record {
    of_kinds = now_of_kinds;
    grows = merges_grow (made ps) (made (p ∷ ps)) p.cell p.value (made_merges p ps);
    falls = (let f = paid in omega (arith, f));
    met = met_by i (i ∷ line)
        (λ c e. let y = from_map (constraint_of library) d.instances i c e in
        let same : y.0 ≡ x = (let a = y.1 in cc) in
        let is : c ≡ constraint_of library x = y.2 ∙ ap (constraint_of library) same in (
          cell ∙ sym (ap (λ (z : Constraint). z.output) is),
          value ∙ sym (ap (λ (z : Constraint). value_at z (made ps)) is),
        ))
        (λ j w ne. behind i j line w ne);
  }

-- what a statement says, or none, and what a call says
pub told_goes_on : (library : List Stored) (d : Data) (line after : List ℕ) (p : Part) (ps : List Part) (x : Statement)
    → p.cell ≡ x.cell → p.value ≡ x.info → x.cell < length d.kinds → AreOfKinds d.kinds (made ps)
    → IsOf (kind_at d.kinds x.cell).kind (kind_at d.kinds x.cell).size x.info → ¬ (Below x.info (made ps x.cell))
    → AllAlerted line after (readers_of d.instances x.cell)
    → Proceeds (problem_of library d) 0 line after (made ps) (made (p ∷ ps))
told_goes_on library d line after p ps x cell value within are of_kind more alerted =
    proceeds_told library d line after p ps (rw cell within) are (rw (cell, value) of_kind) (rw (cell, value) more)
    (rw cell alerted)

pub called_goes_on : (library : List Stored) (d : Data) (line after : List ℕ) (p : Part) (ps : List Part) (i : ℕ)
    (x : Instance) (v : Info) → p.cell ≡ x.output → p.value ≡ v → x.output < length d.kinds
    → AreOfKinds d.kinds (made ps) → IsOf (kind_at d.kinds x.output).kind (kind_at d.kinds x.output).size v
    → ¬ (Below v (made ps x.output)) → AllAlerted line after (readers_of d.instances x.output)
    → slice_get d.instances i ≡ Some x → v ≡ value_at (constraint_of library x) (made ps)
    → Proceeds (problem_of library d) 1 (i ∷ line) after (made ps) (made (p ∷ ps))
called_goes_on library d line after p ps i x v cell value within are of_kind more alerted at is =
    proceeds_called library d line after p ps (rw cell within) are (rw (cell, value) of_kind) (rw (cell, value) more)
    (rw cell alerted) i x at cell (value ∙ is)

-- a call that says nothing new
pub proceeds_idle : (library : List Stored) (d : Data) (line : List ℕ) (a : Assignment) (i : ℕ) (x : Instance)
    → AreOfKinds d.kinds a → slice_get d.instances i ≡ Some x
    → Below (value_at (constraint_of library x) a) (a x.output)
    → Proceeds (problem_of library d) 1 (i ∷ line) line a a
proceeds_idle library d line a i x are at below = record {
  of_kinds = are;
  grows = λ cell. info_laws.reflexive (a cell);
  falls = omega arith;
  met = λ o. record { met = λ j c e idle. by o j c e idle (eqb_tells j i) };
}
  where
    by : OthersMeet (problem_of library d).constraints (i ∷ line) a → (j : ℕ) (c : Constraint)
        → slice_get (problem_of library d).constraints j ≡ Some c → (Contains line j → ⊥)
        → (((j == i) ≡ true) × (j ≡ i)) ⊎ (((j == i) ≡ false) × (j ≢ i)) → Meets a c
    by o j c e idle (inl own) =
        let y = from_map (constraint_of library) d.instances i c (rw own.1 at e) in
        let same : y.0 ≡ x = (let b = y.1 in cc) in
        let is : c ≡ constraint_of library x = y.2 ∙ ap (constraint_of library) same in
        subst (λ (z : Constraint). Meets a z) (sym is) below
    by o j c e idle (inr other) = o.met j c e (λ w. idle (behind i j line w other.1))

-- ---- statements

pub heard_still : (s : Premises) (a b : Assignment) (xs : List Statement) → ((cell : ℕ) → Below (a cell) (b cell))
    → All (Satisfies s a) xs → All (Satisfies s b) xs
heard_still s a b xs grows all = All-weaker (Satisfies s a) (Satisfies s b) (λ x h member.
    info_laws.transitive x.info (a x.cell) (b x.cell) (h member) (grows x.cell)) xs all

-- ---- from the start to the end

-- at the start all wait, and nothing is known
pub all_wait : (library : List Stored) (d : Data) (count : ℕ) (a : Assignment) → count ≡ length d.instances
    → OthersMeet (problem_of library d).constraints (range_with_len 0 count) a
all_wait library d count a is = record {
  met = λ j c at idle.
      let l = slice_get_within (problem_of library d).constraints j c at in
      let n = length-map d.instances (constraint_of library) in
      let m = length-range_with_len 0 count in
      absurd (idle (
        j,
        omega (arith, l, n, m, is),
        get_or-range_with_len 0 count j j (omega (arith, l, n, is)) ∙ zero-add j,
      ));
}

pub most_at_start : (library : List Stored) (d : Data) (count : ℕ) → count ≡ length d.instances
    → potential (problem_of library d) (made []) (range_with_len 0 count) ≡ most_steps (problem_of library d)
most_at_start library d count is =
    let n = length-map d.instances (constraint_of library) in
    let m = length-range_with_len 0 count in
    omega (arith, n, m, is, most_ranks (problem_of library d))

none_left : (line : List ℕ) → length line ≡ 0 → line ≡ []
none_left [] e = refl
none_left (i ∷ line) e = absurd (omega (arith, e))

-- where nothing waits, all that is entailed is known
pub known_at_rest : (library : List Stored) (d : Data) (s : Premises) (cell : ℕ) (v : Info) (a : Assignment)
    (start line : List ℕ) (n : ℕ) → Entails (problem_of library d) s cell v
    → All (Satisfies s a) d.statements → (b : Assignment) → OthersMeet (problem_of library d).constraints start b
    → Proceeds (problem_of library d) n start line b a → line ≡ [] → Below v (a cell)
known_at_rest library d s cell v a start line n entails heard b waited went none = entails.below a (record {
  kinds = went.of_kinds.of_kind;
  statements = heard;
  instances = λ k c l.
      (subst (λ (w : List ℕ). OthersMeet (problem_of library d).constraints w a) none (went.met waited)).met k _
      (slice_get-get_or (problem_of library d).constraints k c l) (λ w. absurd (omega (arith, w.1)));
})

-- the budget is used up, and was as much as there can be
pub rests_at_most : (library : List Stored) (d : Data) (count n budget : ℕ) (line : List ℕ) (a : Assignment)
    → count ≡ length d.instances → Proceeds (problem_of library d) n (range_with_len 0 count) line (made []) a
    → budget ≤ n → most_steps (problem_of library d) ≤ budget → line ≡ []
rests_at_most library d count n budget line a is went used most =
    let f = went.falls in
    let m = most_at_start library d count is in
    none_left line (omega (arith, f, m, used, most))
