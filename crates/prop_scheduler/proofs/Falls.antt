-- A call that changes a cell takes at least one from each input place with the cell.
use Rattle.std.proofs.Common.{◌≡◌, ◌≢◌, ℕ, ◌+◌, ◌<◌, ◌≤◌, ◌==◌, Bool, true, false, cond, List, [], ◌∷◌, Some, length}
use Rattle.std.proofs.Common.{slice_get, count_by, sum_by, refl, sym, arith, inl, inr}
use Rattle.std.proofs.lemmas.List.Sums.{sum_by-cons}
use Rattle.std.proofs.lemmas.Bool.Decides.{eqb_tells}
use Rattle.std.proofs.lemmas.Option.{slice_get-get_or}
use Rattle.prop_lattice.specs.declared.info.Info.{Info}
use Rattle.prop_lattice.proofs.RankLemmas.{rank_falls}
use Rattle.prop_procedures.specs.declared.shape.Kinded.{Kinded}
use Rattle.prop_procedures.specs.Stored.{Stored, span_kind}
use Rattle.prop_contents.specs.Contents.{Entry, beliefs}
use Rattle.prop_cells.specs.Problems.{Assignment, MergesAt}
use Rattle.prop_cells.specs.inner.Problems.{Premises, AreOfKinds}
use Rattle.prop_procedures.specs.Fitting.{kind_at}
use Rattle.prop_cells.specs.Instances.{Instance, readers_of}
use Rattle.prop_cells.specs.Data.{Data, Merges, problem_of}
use Rattle.prop_cells.proofs.Fixpoint.{merges_grow}
use Rattle.prop_cells.proofs.Reading.{few_readers}
use Rattle.prop_scheduler.specs.Potential.{rank_in, input_places, potential}

-- the rank of what is believed at a place with the cell
abbrev rank_at : List Kinded → Assignment → ℕ → ℕ
rank_at kinds a cell = rank_in (slice_get kinds cell) (a cell)

module _ (kinds : List Kinded) (a b : Assignment) (cell : ℕ) (v : Info) (m : MergesAt a b cell v)
    (within : cell < length kinds) (ha : AreOfKinds kinds a) (hb : AreOfKinds kinds b) (changed : b cell ≢ a cell) where
  falls_here : rank_at kinds b cell + 1 ≤ rank_at kinds a cell
  falls_here =
      let k = kind_at kinds cell in
      let at : slice_get kinds cell ≡ Some k = slice_get-get_or kinds cell span_kind within in
      let less = rank_falls k.kind k.size (a cell) (b cell) (ha.of_kind cell k at) (hb.of_kind cell k at)
      (merges_grow a b cell v m cell) (λ e. changed (sym e)) in
      rw at (omega (arith, less))

  falls_at : (k : ℕ) → rank_at kinds b k + cond (k == cell) 1 0 ≤ rank_at kinds a k
  falls_at k =
      elim (eqb_tells k cell) as (λ _. rank_at kinds b k + cond (k == cell) 1 0 ≤ rank_at kinds a k) [
        | inl same ↦ rw (same.0, same.1) falls_here
        | inr other ↦ rw (other.0, m.others k other.1) (omega arith)
      ]

  pub ranks_fall : (places : List ℕ) → sum_by (rank_at kinds b) places + count_by (λ k. k == cell) places ≤ sum_by
      (rank_at kinds a) places
  ranks_fall [] = omega arith
  ranks_fall (k ∷ ks) =
      let h = falls_at k in
      let ih = ranks_fall ks in
      rw (
        sum_by-cons (rank_at kinds b) k ks,
        sum_by-cons (rank_at kinds a) k ks,
        sum_by-cons (λ x. cond (x == cell) 1 0) k ks,
      ) (omega (arith, h, ih))

-- what is believed alike ranks alike
pub ranks_same : (kinds : List Kinded) (a b : Assignment) → ((k : ℕ) → b k ≡ a k) → (places : List ℕ)
    → sum_by (rank_at kinds b) places ≡ sum_by (rank_at kinds a) places
ranks_same kinds a b h [] = refl
ranks_same kinds a b h (k ∷ ks) =
    let e = h k in
    let ih = ranks_same kinds a b h ks in
    rw (sum_by-cons (rank_at kinds b) k ks, sum_by-cons (rank_at kinds a) k ks, e, ih)

pub same_everywhere : (a b : Assignment) (cell : ℕ) (v : Info) → MergesAt a b cell v → b cell ≡ a cell → (k : ℕ)
    → b k ≡ a k
same_everywhere a b cell v m e k = elim (eqb_tells k cell) [ inl h ↦ rw h.1 e | inr h ↦ m.others k h.1 ]

-- The called instance no longer waits, and each reader that now waits is paid for by its places.
pub turn_falls : (library : List Stored) (s : Premises) (d : Data) (contents : List (List Entry)) (x : Instance)
    (v : Info) (grown : Bool) (line rest after : List ℕ) →
    AreOfKinds d.kinds (beliefs s d.contents) → AreOfKinds d.kinds (beliefs s contents) → x.output < length d.kinds
    → Merges (beliefs s d.contents) (beliefs s contents) x.output v grown →
    length rest + 1 ≡ length line → (grown ≡ false → length after ≤ length rest)
    → (grown ≡ true → length after ≤ length rest + length (readers_of d.instances x.output)) →
    potential (problem_of library (record d { contents = contents })) (beliefs s contents) after + 1 ≤ potential
    (problem_of library d) (beliefs s d.contents) line
turn_falls library s d contents x v true line rest after ha hb within m one quiet few =
    let f = few refl in
    let r = ranks_fall d.kinds (beliefs s d.contents) (beliefs s contents) x.output v m.at within ha hb (m.changed refl)
    (input_places (problem_of library d)) in
    let n = few_readers library x.output 0 d.instances in
    omega (arith, f, r, n, one)
turn_falls library s d contents x v false line rest after ha hb within m one quiet few =
    let q = quiet refl in
    let e = ranks_same d.kinds (beliefs s d.contents) (beliefs s contents)
    (same_everywhere (beliefs s d.contents) (beliefs s contents) x.output v m.at (m.unchanged refl))
    (input_places (problem_of library d)) in
    omega (arith, q, e, one)
