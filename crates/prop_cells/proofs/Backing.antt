-- What the cells keep where the last of them, of the parameters and of the instances are taken back.
use Rattle.std.proofs.Common.{◌==◌, ◌≡◌, ◌∙◌, ℕ, ◌<◌, ◌≤◌, false, List, [], ◌∷◌, ◌++◌, length, take, refl, Some, sym}
use Rattle.std.proofs.Common.{ap, arith, All}
use Rattle.std.specs.List.{list_any}
use Rattle.std.proofs.lemmas.Bool.{ne_eqb}
use Rattle.std.proofs.lemmas.List.{length-take, take-append-le}
use Rattle.std.proofs.lemmas.List.Elements.{All-head, All-tail, All-weaker, All-pop}
use Rattle.std.proofs.Math.Seq.{take-length}
use Rattle.prop_procedures.specs.declared.shape.Kinded.{Kinded}
use Rattle.prop_procedures.specs.declared.shape.Param.{Param}
use Rattle.prop_cells.specs.Instances.{Instance, IsWithin, readers_of, writers_of}
use Rattle.prop_cells.specs.Data.{Data, IsWellMade}
use Rattle.prop_cells.specs.inner.Data.{IsStored}
use Rattle.prop_cells.specs.inner.Rooms.{TakenBack}
use Rattle.prop_cells.specs.inner.Back.{GoesBackTo}
use Rattle.prop_cells.proofs.Telling.{told_taken}
use Rattle.prop_cells.proofs.RowLemmas.{or_none, rows_taken_back, rows_taken, numbers_none}

-- ---- back to what was there before

pub take_more_of : {X : Type 0} (before xs more : List X) → take (length before) xs ≡ before
    → take (length before) (xs ++ more) ≡ before
take_more_of before xs more e =
    let n : length (take (length before) xs) ≡ length before = ap length e in
    take-append-le (length before) xs more (omega (arith, n, length-take (length before) xs)) ∙ e

pub goes_back-same : (d : Data) → IsWellMade d → GoesBackTo d d
goes_back-same d h = λ i. record d {
  kinds = take-length d.kinds i;
  contents = (ap (λ n. take n d.contents) (sym h.contents_length) ∙ take-length d.contents) i;
  params = take-length d.params i;
  instances = take-length d.instances i;
}

module _ (before d : Data) (h : GoesBackTo before d) where
  -- one more of each
  pub goes_back-cell : (k : Kinded) → IsWellMade before
      → GoesBackTo before (record d { kinds = d.kinds ++ k ∷ []; contents = d.contents ++ [] ∷ [] })
  goes_back-cell k made =
      let old : take (length before.contents) d.contents ≡ before.contents =
      ap (λ n. take n d.contents) made.contents_length ∙ ap (λ x. x.contents) h in
      let entries : take (length before.kinds) (d.contents ++ [] ∷ []) ≡ before.contents =
      ap (λ n. take n (d.contents ++ [] ∷ [])) (sym made.contents_length)
      ∙ take_more_of before.contents d.contents ([] ∷ []) old in
      λ i. record (h i) {
        kinds = take_more_of before.kinds d.kinds (k ∷ []) (ap (λ x. x.kinds) h) i;
        contents = entries i;
      }

  pub goes_back-param : (param : Param) → GoesBackTo before (record d { params = d.params ++ param ∷ [] })
  goes_back-param param = λ i. record (h i) {
    params = take_more_of before.params d.params (param ∷ [])
        (ap (λ x. x.params) h) i;
  }

  pub goes_back-instances : (more : List Instance) → GoesBackTo before (record d { instances = d.instances ++ more })
  goes_back-instances more = λ i. record (h i) {
    instances = take_more_of before.instances d.instances more
        (ap (λ x. x.instances) h) i;
  }

-- ---- the last instance

pub stored_taken_back : (d : Data) (old_reading old_writing reading writing told : List (List ℕ)) (x : Instance)
    → TakenBack old_reading reading x.inputs → TakenBack old_writing writing (x.output ∷ []) →
    IsStored (record d { instances = d.instances ++ x ∷ [] }) old_reading old_writing told
    → IsStored d reading writing told
stored_taken_back d old_reading old_writing reading writing told x read written h = record {
  made = record {
    contents_length = h.made.contents_length;
    within = (All-pop (IsWithin (length d.kinds)) (d.instances ++ x ∷ []) d.instances (Some x) refl h.made.within).0;
    of_kinds = h.made.of_kinds;
    stated = h.made.stated;
  };
  readers = rows_taken_back (length d.kinds) (λ cell y. list_any (λ input. input == cell) y.inputs) d.instances x
      x.inputs old_reading reading h.readers read (λ cell. refl);
  writers = rows_taken_back (length d.kinds) (λ cell y. y.output == cell) d.instances x (x.output ∷ []) old_writing
      writing h.writers written (λ cell. sym (or_none (x.output == cell)));
  told = record { count = h.told.count; each = h.told.each };
}

-- ---- the last cells

none_is : (cells : List ℕ) (cell : ℕ) → All (λ c. c < cell) cells → list_any (λ c. c == cell) cells ≡ false
none_is [] cell h = refl
none_is (c ∷ cs) cell h =
    let below : c < cell = All-head (λ k. k < cell) c cs h in
    let other : (c == cell) ≡ false = ne_eqb c cell (omega (arith, below)) in
    rw other (none_is cs cell (All-tail (λ k. k < cell) c cs h))

module _ (n cell : ℕ) (l : n ≤ cell) (instances : List Instance) (h : All (IsWithin n) instances) where
  -- no instance reads a cell that lies above those of every instance
  none_reads : readers_of instances cell ≡ []
  none_reads = numbers_none (λ x. list_any (λ input. input == cell) x.inputs) 0 instances
      (All-weaker (IsWithin n) (λ x. list_any (λ input. input == cell) x.inputs ≡ false)
      (λ x w. none_is x.inputs cell (All-weaker (λ c. c < n) (λ c. c < cell) (λ c m. omega (arith, m, l)) x.inputs
      w.inputs)) instances h)

  none_writes : writers_of instances cell ≡ []
  none_writes = numbers_none (λ x. x.output == cell) 0 instances
      (All-weaker (IsWithin n) (λ x. x.output == cell ≡ false)
      (λ x w. let o = w.output in ne_eqb x.output cell (omega (arith, o, l))) instances h)

pub stored_taken : (d : Data) (reading writing told : List (List ℕ)) (count : ℕ)
    → IsWellMade (record d { kinds = take count d.kinds; contents = take count d.contents })
    → IsStored d reading writing told →
    IsStored (record d { kinds = take count d.kinds; contents = take count d.contents }) (take count reading)
    (take count writing) (take count told)
stored_taken d reading writing told count made h =
    let n = length-take count d.kinds in
    record {
      made = made;
      readers = rw n (rows_taken (length d.kinds) count (readers_of d.instances) reading h.readers
          (λ cell l. none_reads (length (take count d.kinds)) cell (omega (arith, n, l)) d.instances made.within));
      writers = rw n (rows_taken (length d.kinds) count (writers_of d.instances) writing h.writers
          (λ cell l. none_writes (length (take count d.kinds)) cell (omega (arith, n, l)) d.instances made.within));
      told = told_taken d told count made h.told;
    }
