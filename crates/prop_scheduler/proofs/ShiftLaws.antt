-- What is kept as the readers and the writers of shifted cells are alerted.
use Rattle.std.proofs.Common.{◌≡◌, ◌≢◌, ◌∙◌, ◌<◌, ℕ, ◌+◌, List, Some, All, Contains, length, slice_get, refl, sym}
use Rattle.std.proofs.Common.{ap, subst, inl, inr}
use Rattle.std.proofs.lemmas.List.Elements.{All-contains, Contains-append_left, Contains-append_right}
use Rattle.std.proofs.lemmas.List.Elements.{Contains-append_cases}
use Rattle.std.proofs.lemmas.List.Sums.{fold-append}
use Rattle.prop_lattice.specs.declared.info.Info.{Info}
use Rattle.prop_lattice.specs.Order.{Below}
use Rattle.prop_procedures.specs.Stored.{Stored}
use Rattle.prop_contents.specs.Contents.{beliefs}
use Rattle.prop_contents.proofs.Lists.{All-from_contains}
use Rattle.prop_cells.specs.Problems.{Constraint, value_at}
use Rattle.prop_cells.specs.inner.Problems.{Premises, Meets}
use Rattle.prop_cells.specs.Instances.{Instance, IsWithin, constraint_of, readers_of, writers_of}
use Rattle.prop_cells.specs.Data.{Data}
use Rattle.prop_cells.proofs.Fixpoint.{map_agree, meets_same}
use Rattle.prop_cells.proofs.Reading.{readers_are, writers_cover, writers_below}
use Rattle.prop_cells.proofs.Keeping.{All-at}
use Rattle.prop_scheduler.specs.Agendas.{alerted, all_alerted}
use Rattle.prop_scheduler.specs.Turns.{IsUnderWay}
use Rattle.prop_scheduler.specs.Shifts.{touching, AreShifted}
use Rattle.prop_scheduler.specs.Shifts.Stirs.{stirred}
use Rattle.prop_scheduler.proofs.Stirring.{stirs_kept, stirs_waits, stirs_only}
use Rattle.prop_scheduler.proofs.Steps.{from_map}

-- the readers and the writers of the next cell wait too
pub shifted_more : (s t : Premises) (d : Data) (n : ℕ) (old new mid after : List ℕ) → AreShifted s t d n old new
    → beliefs s d.contents n ≢ beliefs t d.contents n → mid ≡ all_alerted new (readers_of d.instances n)
    → after ≡ all_alerted mid (writers_of d.instances n) → AreShifted s t d (n + 1) old after
shifted_more s t d n old new mid after h other read written =
    let both : all_alerted new (touching d.instances n) ≡ after =
    fold-append alerted new (readers_of d.instances n) (writers_of d.instances n)
    ∙ ap (λ line. all_alerted line (writers_of d.instances n)) (sym read) ∙ sym written in
    subst (λ line. AreShifted s t d (n + 1) old line) both (stirred n new h other)

-- the instances that a cell wakes are instances
touching_below : (instances : List Instance) (cell j : ℕ) → Contains (touching instances cell) j
    → j < length instances
touching_below instances cell j w =
    elim (Contains-append_cases (readers_of instances cell) (writers_of instances cell) j w) as (λ _.
    j < length instances) [
      | inl reads ↦ All-contains (λ i. i < length instances) (readers_of instances cell) j
          (readers_are instances cell).below reads
      | inr writes ↦ All-contains (λ i. i < length instances) (writers_of instances cell) j
          (writers_below instances cell) writes
    ]

-- the waiting instances stay instances
pub shifted_below : (s t : Premises) (d : Data) (n : ℕ) (old new : List ℕ) → AreShifted s t d n old new
    → All (λ j. j < length d.instances) old → All (λ j. j < length d.instances) new
shifted_below s t d n old new h below =
    All-from_contains (λ j. j < length d.instances) new
    (λ j w. elim (stirs_only (touching d.instances) s t d d old n new h j w) as (λ _. j < length d.instances) [
      | inl was ↦ All-contains (λ i. i < length d.instances) old j below was
      | inr woken ↦ touching_below d.instances woken.0 j woken.1
    ])

module _ (library : List Stored) (s t : Premises) (d : Data) (old new : List ℕ)
    (within : All (IsWithin (length d.kinds)) d.instances) (u : IsUnderWay library s d old)
    (h : AreShifted s t d (length d.kinds) old new) where
  -- what no waiting instance reads or writes is believed as before
  read_same : (j : ℕ) (x : Instance) → slice_get d.instances j ≡ Some x → (Contains new j → ⊥) → (cell : ℕ)
      → Contains x.inputs cell → beliefs s d.contents cell ≡ beliefs t d.contents cell
  read_same j x at idle cell reads =
      let w = All-at (IsWithin (length d.kinds)) d.instances j x within at in
      elim (stirs_waits (touching d.instances) s t d d old (length d.kinds) new h cell
      (All-contains (λ k. k < length d.kinds) x.inputs cell w.inputs reads)) as (λ _.
      beliefs s d.contents cell ≡ beliefs t d.contents cell) [
        | inl same ↦ same
        | inr all ↦ absurd (idle (All-contains (Contains new) (touching d.instances cell) j all
            (Contains-append_left (readers_of d.instances cell) (writers_of d.instances cell) j
            ((readers_are d.instances cell).covers j x at reads))))
      ]

  written_same : (j : ℕ) (x : Instance) → slice_get d.instances j ≡ Some x → (Contains new j → ⊥)
      → beliefs s d.contents x.output ≡ beliefs t d.contents x.output
  written_same j x at idle =
      let w = All-at (IsWithin (length d.kinds)) d.instances j x within at in
      elim (stirs_waits (touching d.instances) s t d d old (length d.kinds) new h x.output w.output) as (λ _. beliefs s d.contents x.output ≡ beliefs t d.contents x.output) [
        | inl same ↦ same
        | inr all ↦ absurd (idle (All-contains (Contains new) (touching d.instances x.output) j all
            (Contains-append_right (readers_of d.instances x.output) (writers_of d.instances x.output) j
            (writers_cover d.instances x.output j x at refl))))
      ]

  met_still : (j : ℕ) (x : Instance) → slice_get d.instances j ≡ Some x → (Contains new j → ⊥)
      → Meets (beliefs s d.contents) (constraint_of library x) → Meets (beliefs t d.contents) (constraint_of library x)
  met_still j x at idle met =
      let a = beliefs s d.contents in
      let b = beliefs t d.contents in
      meets_same a b (constraint_of library x)
      (map_agree a b x.inputs (All-from_contains (λ k. a k ≡ b k) x.inputs (read_same j x at idle)))
      (subst (λ (v : Info). Below (value_at (constraint_of library x) a) v) (written_same j x at idle) met)

  pub under_way_shifted : IsUnderWay library t d new
  under_way_shifted = record {
    kept = u.kept;
    line_below = shifted_below s t d (length d.kinds) old new h u.line_below;
    met = record {
      met = λ j c at idle.
          let x = from_map (constraint_of library) d.instances j c at in
          let same : c ≡ constraint_of library x.0 = x.2 in
          let was : Meets (beliefs s d.contents) (constraint_of library x.0) =
          subst (λ (q : Constraint). Meets (beliefs s d.contents) q) same
          (u.met.met j c at (λ w. idle (stirs_kept (touching d.instances) s t d d old (length d.kinds) new h j w))) in
          subst (λ (q : Constraint). Meets (beliefs t d.contents) q) (sym same) (met_still j x.0 x.1 idle was);
    };
  }
