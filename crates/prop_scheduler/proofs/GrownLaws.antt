-- What is kept as the readers of cells of which more is believed are alerted, and that no potential rises.
use Rattle.std.proofs.Common.{◌≡◌, ◌≢◌, ◌∙◌, ◌<◌, ◌≤◌, ℕ, ◌+◌, if◌then◌else◌, List, Some, All, Contains, length}
use Rattle.std.proofs.Common.{slice_get, sym, ap, subst, arith, inl, inr}
use Rattle.std.specs.Prelude.{nat_le}
use Rattle.std.proofs.lemmas.Bool.Decides.{leb_tells}
use Rattle.std.proofs.lemmas.List.Elements.{All-contains}
use Rattle.prop_lattice.specs.declared.info.Info.{Info}
use Rattle.prop_lattice.specs.Order.{Below, merge_of}
use Rattle.prop_lattice.specs.laws.OrderLaws.{info_laws}
use Rattle.prop_numbers.specs.Sets.{IsPart}
use Rattle.prop_tms.proofs.BeliefUses.{belief_of-more}
use Rattle.prop_procedures.specs.Stored.{Stored}
use Rattle.prop_contents.specs.Contents.{beliefs, content_of}
use Rattle.prop_contents.proofs.Lists.{All-from_contains}
use Rattle.prop_cells.specs.Problems.{Assignment, MergesAt, Constraint, value_at}
use Rattle.prop_cells.specs.inner.Problems.{Premises, AreOfKinds, Meets}
use Rattle.prop_cells.specs.Instances.{Instance, IsWithin, constraint_of, readers_of}
use Rattle.prop_cells.specs.Data.{Data, IsWellMade, problem_of}
use Rattle.prop_cells.proofs.Adding.{beliefs_of_kinds}
use Rattle.prop_cells.proofs.Fixpoint.{map_agree, meets_same}
use Rattle.prop_cells.proofs.Keeping.{All-at}
use Rattle.prop_cells.proofs.Reading.{readers_are, few_readers}
use Rattle.prop_scheduler.specs.Agendas.{AllAlerted, all_alerted}
use Rattle.prop_scheduler.specs.Turns.{IsUnderWay}
use Rattle.prop_scheduler.specs.Potential.{input_places, potential}
use Rattle.prop_scheduler.specs.Shifts.{AreGrown}
use Rattle.prop_scheduler.specs.Shifts.Stirs.{stirred}
use Rattle.prop_scheduler.proofs.Stirring.{stirs_kept, stirs_waits, stirs_only}
use Rattle.prop_scheduler.proofs.Falls.{ranks_fall, ranks_same}
use Rattle.prop_scheduler.proofs.Steps.{from_map}
use Rattle.prop_scheduler.proofs.WatchLaws.{beyond}

-- ---- who waits

-- the readers of the next cell wait too
pub grown_more : (s t : Premises) (d : Data) (n : ℕ) (old new after : List ℕ) → AreGrown s t d n old new
    → beliefs s d.contents n ≢ beliefs t d.contents n → after ≡ all_alerted new (readers_of d.instances n)
    → AreGrown s t d (n + 1) old after
grown_more s t d n old new after h other read =
    subst (λ line. AreGrown s t d (n + 1) old line) (sym read) (stirred n new h other)

-- the waiting instances stay instances
grown_below : (s t : Premises) (d : Data) (n : ℕ) (old new : List ℕ) → AreGrown s t d n old new
    → All (λ j. j < length d.instances) old → All (λ j. j < length d.instances) new
grown_below s t d n old new h below =
    All-from_contains (λ j. j < length d.instances) new
    (λ j w. elim (stirs_only (readers_of d.instances) s t d d old n new h j w) as (λ _. j < length d.instances) [
      | inl was ↦ All-contains (λ i. i < length d.instances) old j below was
      | inr woken ↦ All-contains (λ i. i < length d.instances) (readers_of d.instances woken.0) j
          (readers_are d.instances woken.0).below woken.1
    ])

-- ---- what is met

-- who believes more knows more of each cell
beliefs_rise : (s t : Premises) (d : Data) → IsPart s t → (cell : ℕ)
    → Below (beliefs s d.contents cell) (beliefs t d.contents cell)
beliefs_rise s t d more cell = belief_of-more info_laws (content_of d.contents cell) s t more

module _ (library : List Stored) (s t : Premises) (d : Data) (old new : List ℕ) (more : IsPart s t)
    (within : All (IsWithin (length d.kinds)) d.instances) (u : IsUnderWay library s d old)
    (h : AreGrown s t d (length d.kinds) old new) where
  -- what no waiting instance reads is believed as before
  read_same : (j : ℕ) (x : Instance) → slice_get d.instances j ≡ Some x → (Contains new j → ⊥) → (cell : ℕ)
      → Contains x.inputs cell → beliefs s d.contents cell ≡ beliefs t d.contents cell
  read_same j x at idle cell reads =
      let w = All-at (IsWithin (length d.kinds)) d.instances j x within at in
      elim (stirs_waits (readers_of d.instances) s t d d old (length d.kinds) new h cell
      (All-contains (λ k. k < length d.kinds) x.inputs cell w.inputs reads)) as (λ _.
      beliefs s d.contents cell ≡ beliefs t d.contents cell) [
        | inl same ↦ same
        | inr all ↦ absurd (idle (All-contains (Contains new) (readers_of d.instances cell) j all
            ((readers_are d.instances cell).covers j x at reads)))
      ]

  -- and what it writes may only be known better
  met_still : (j : ℕ) (x : Instance) → slice_get d.instances j ≡ Some x → (Contains new j → ⊥)
      → Meets (beliefs s d.contents) (constraint_of library x) → Meets (beliefs t d.contents) (constraint_of library x)
  met_still j x at idle met =
      let a = beliefs s d.contents in
      let b = beliefs t d.contents in
      meets_same a b (constraint_of library x)
      (map_agree a b x.inputs (All-from_contains (λ k. a k ≡ b k) x.inputs (read_same j x at idle)))
      (info_laws.transitive (value_at (constraint_of library x) a) (a x.output) (b x.output) met
      (beliefs_rise s t d more x.output))

  pub under_way_grown : IsUnderWay library t d new
  under_way_grown = record {
    kept = u.kept;
    line_below = grown_below s t d (length d.kinds) old new h u.line_below;
    met = record {
      met = λ j c at idle.
          let x = from_map (constraint_of library) d.instances j c at in
          let same : c ≡ constraint_of library x.0 = x.2 in
          let was : Meets (beliefs s d.contents) (constraint_of library x.0) =
          subst (λ (q : Constraint). Meets (beliefs s d.contents) q) same
          (u.met.met j c at (λ w. idle (stirs_kept (readers_of d.instances) s t d d old (length d.kinds) new h j w))) in
          subst (λ (q : Constraint). Meets (beliefs t d.contents) q) (sym same) (met_still j x.0 x.1 idle was);
    };
  }

-- ---- the potential

-- what the second premises believe of the first n cells, and the first premises of the others
pub partly : Premises → Premises → Data → ℕ → Assignment
partly s t d n cell = if nat_le n cell then beliefs s d.contents cell else beliefs t d.contents cell

from_there : (s t : Premises) (d : Data) (n cell : ℕ) → n ≤ cell → partly s t d n cell ≡ beliefs s d.contents cell
unfolding partly
from_there s t d n cell past = elim (leb_tells n cell) as (λ _. partly s t d n cell ≡ beliefs s d.contents cell) [
  | inl h ↦ ap (λ b. if b then beliefs s d.contents cell else beliefs t d.contents cell) h.0
  | inr h ↦ absurd (let below = h.1 in omega (arith, past, below))
]

before_it : (s t : Premises) (d : Data) (n cell : ℕ) → cell < n → partly s t d n cell ≡ beliefs t d.contents cell
unfolding partly
before_it s t d n cell below = elim (leb_tells n cell) as (λ _. partly s t d n cell ≡ beliefs t d.contents cell) [
  | inl h ↦ absurd (let past = h.1 in omega (arith, past, below))
  | inr h ↦ ap (λ b. if b then beliefs s d.contents cell else beliefs t d.contents cell) h.0
]

-- but for the next cell, one cell more changes nothing
but_for_it : (s t : Premises) (d : Data) (n cell : ℕ) → cell ≢ n → partly s t d (n + 1) cell ≡ partly s t d n cell
but_for_it s t d n cell other = elim (leb_tells n cell) as (λ _. partly s t d (n + 1) cell ≡ partly s t d n cell) [
  | inl h ↦ (let past = h.1 in from_there s t d (n + 1) cell (omega (arith, past, other))
      ∙ sym (from_there s t d n cell past))
  | inr h ↦ (let below = h.1 in before_it s t d (n + 1) cell (omega (arith, below))
      ∙ sym (before_it s t d n cell below))
]

-- the least above two of which the second knows more is the second
merged_rises : (a b : Info) → Below a b → b ≡ merge_of a b
merged_rises a b rises =
    let joint = info_laws.least_above a b in
    info_laws.antisymmetric b (merge_of a b) joint.above_second (joint.least b rises (info_laws.reflexive b))

module _ (library : List Stored) (s t : Premises) (d : Data) (made : IsWellMade d) (more : IsPart s t) where
  of_kinds : (n : ℕ) → AreOfKinds d.kinds (partly s t d n)
  of_kinds n = record {
    of_kind = λ cell k at. elim (leb_tells n cell) [
      | inl h ↦ rw (from_there s t d n cell h.1) ((beliefs_of_kinds d made s).of_kind cell k at)
      | inr h ↦ rw (before_it s t d n cell h.1) ((beliefs_of_kinds d made t).of_kind cell k at)
    ];
  }

  pub potential_at_first : (line : List ℕ)
      → potential (problem_of library d) (partly s t d 0) line ≤ potential (problem_of library d) (beliefs s d.contents)
      line
  potential_at_first line =
      let same = ranks_same d.kinds (beliefs s d.contents) (partly s t d 0) (λ k. from_there s t d 0 k (omega arith))
      (input_places (problem_of library d)) in
      omega (arith, same)

  -- further cells are believed as before
  pub potential_on : (n m : ℕ) (line : List ℕ) → n ≤ m
      → ((cell : ℕ) → n ≤ cell → cell < m → beliefs s d.contents cell ≡ beliefs t d.contents cell)
      → potential (problem_of library d) (partly s t d m) line
      ≤ potential (problem_of library d) (partly s t d n) line
  potential_on n m line l alike =
      let each : (k : ℕ) → partly s t d m k ≡ partly s t d n k =
      λ k. elim (leb_tells n k) as (λ _. partly s t d m k ≡ partly s t d n k) [
        | inl past ↦ elim (leb_tells m k) as (λ _. partly s t d m k ≡ partly s t d n k) [
          | inl beyond ↦ from_there s t d m k beyond.1 ∙ sym (from_there s t d n k past.1)
          | inr below ↦ before_it s t d m k below.1 ∙ sym (alike k past.1 below.1)
              ∙ sym (from_there s t d n k past.1)
        ]
        | inr below ↦ (let low = below.1 in before_it s t d m k (omega (arith, l, low)))
            ∙ sym (before_it s t d n k below.1)
      ] in
      let same = ranks_same d.kinds (partly s t d n) (partly s t d m) each (input_places (problem_of library d)) in
      omega (arith, same)

  -- each reader that now waits is paid for by its places
  pub potential_falls : (n : ℕ) (line after : List ℕ) → n < length d.kinds
      → beliefs s d.contents n ≢ beliefs t d.contents n → AllAlerted line after (readers_of d.instances n) →
      potential (problem_of library d) (partly s t d (n + 1)) after ≤ potential (problem_of library d) (partly s t d n)
      line
  potential_falls n line after within shifted read =
      let a = partly s t d n in
      let b = partly s t d (n + 1) in
      let was : a n ≡ beliefs s d.contents n = from_there s t d n n (omega arith) in
      let is : b n ≡ beliefs t d.contents n = before_it s t d (n + 1) n (omega arith) in
      let merges : MergesAt a b n (beliefs t d.contents n) = record {
        merged = is ∙ merged_rises (beliefs s d.contents n) (beliefs t d.contents n) (beliefs_rise s t d more n)
            ∙ ap (λ v. merge_of v (beliefs t d.contents n)) (sym was);
        others = but_for_it s t d n;
      } in
      let ranks = ranks_fall d.kinds a b n (beliefs t d.contents n) merges within (of_kinds n) (of_kinds (n + 1))
      (λ same. shifted (sym was ∙ sym same ∙ is)) (input_places (problem_of library d)) in
      let readers = few_readers library n 0 d.instances in
      let few = read.few in
      omega (arith, few, ranks, readers)

  pub potential_at_last : (line : List ℕ) → length d.contents ≡ length d.kinds
      → potential (problem_of library d) (beliefs t d.contents) line ≤ potential (problem_of library d)
      (partly s t d (length d.kinds)) line
  potential_at_last line contents =
      let each : (k : ℕ) → beliefs t d.contents k ≡ partly s t d (length d.kinds) k =
      λ k. elim (leb_tells (length d.kinds) k) as (λ _. beliefs t d.contents k ≡ partly s t d (length d.kinds) k) [
        | inl h ↦ beyond t d k contents h.1 ∙ sym (beyond s d k contents h.1)
            ∙ sym (from_there s t d (length d.kinds) k h.1)
        | inr h ↦ sym (before_it s t d (length d.kinds) k h.1)
      ] in
      let same = ranks_same d.kinds (partly s t d (length d.kinds)) (beliefs t d.contents) each
      (input_places (problem_of library d)) in
      omega (arith, same)
