-- What a network between runs keeps, as cells, instances and statements are added.
use Rattle.std.proofs.Common.{◌≡◌, ◌≢◌, ◌∙◌, suc, subst, ◌<◌, ◌≤◌, ◌⊎◌, ℕ, append-nil, Bool, true, false, List, [], ◌∷◌}
use Rattle.std.proofs.Common.{◌++◌, Some, All, Contains, map, length, slice_get, refl, sym, ap, arith, inl, inr}
use Rattle.std.proofs.lemmas.List.Elements.{All-contains}
use Rattle.std.proofs.lemmas.List.{append_assoc, get_or_append_left, map-append, length-map}
use Rattle.std.proofs.lemmas.Bool.{cases_lt}
use Rattle.std.proofs.lemmas.Bool.Decides.{eqb_tells}
use Rattle.std.proofs.lemmas.Option.{slice_get_within, slice_get-get_or, get_or_from_slice_get}
use Rattle.prop_lattice.specs.declared.info.Info.{Info}
use Rattle.prop_lattice.specs.declared.info.Info.TheVariants.{Nothing, Contradiction}
use Rattle.prop_lattice.specs.Order.{Below, merge_of}
use Rattle.prop_lattice.specs.laws.OrderLaws.{info_laws}
use Rattle.prop_refusals.specs.declared.refusal.Refusal.{Refusal}
use Rattle.std.specs.Prelude.{⊤, Result, Ok, Err, OnOk, OnErr}
use Rattle.prop_numbers.specs.Sets.{is_within}
use Rattle.prop_tms.proofs.MergedLemmas.{join-bottom}
use Rattle.prop_procedures.specs.declared.shape.Kinded.{Kinded}
use Rattle.prop_procedures.specs.declared.shape.Param.{Param}
use Rattle.prop_procedures.specs.Stored.{Stored}
use Rattle.prop_contents.specs.Contents.{Entry, beliefs, support_of}
use Rattle.prop_contents.proofs.Lists.{All-from_contains}
use Rattle.prop_cells.specs.declared.instance.Statement.{Statement}
use Rattle.prop_cells.specs.Problems.{OthersMeet, Constraint, MergesAt}
use Rattle.prop_cells.specs.inner.Problems.{Premises, Meets}
use Rattle.prop_cells.specs.Instances.{Instance, constraint_of, readers_of}
use Rattle.prop_cells.specs.Data.{Data, IsKept, States}
use Rattle.prop_cells.proofs.Adding.{adds_merges, adds_same}
use Rattle.prop_cells.proofs.Making.{beliefs-push}
use Rattle.prop_cells.specs.Sides.{sides_at, StatesAll}
use Rattle.prop_cells.proofs.Fixpoint.{others_meet-step, merges_grow, below_same, meets_same, map_agree}
use Rattle.prop_cells.proofs.Reading.{readers_are}
use Rattle.prop_scheduler.specs.Agendas.{AllAlerted}
use Rattle.prop_scheduler.specs.Turns.{IsUnderWay}
use Rattle.prop_scheduler.proofs.Steps.{from_map, all_after_alerts}

-- ---- one more cell

pub under_way_cell : (library : List Stored) (s : Premises) (d new : Data) (line : List ℕ) (k : Kinded)
    → IsUnderWay library s d line → IsKept library new →
    new ≡ record d { kinds = d.kinds ++ k ∷ []; contents = d.contents ++ [] ∷ [] } → IsUnderWay library s new line
under_way_cell library s d new line k u kept e = record {
  kept = kept;
  line_below = rw e u.line_below;
  met = rw (e, beliefs-push s d.contents) u.met;
}

-- the same where a cell is made or refused
pub under_way_one_cell : (library library' : List Stored) (s : Premises) (d new : Data) (line : List ℕ) (k : Kinded)
    (r : Result ⊤ Refusal) → library' ≡ library → IsKept library' new →
    OnOk r (new ≡ record d { kinds = d.kinds ++ k ∷ []; contents = d.contents ++ [] ∷ [] }) → OnErr r (new ≡ d)
    → IsUnderWay library s d line → IsUnderWay library' s new line
under_way_one_cell library library' s d new line k (Ok t) same kept e f u =
    rw same (under_way_cell library s d new line k u (rw same at kept) e)
under_way_one_cell library library' s d new line k (Err refusal) same kept e f u = rw (same, f) u

-- ---- more cells, parameters and instances, which wait

-- cells of which nothing is known change no belief
pub beliefs_fresh : (t : Premises) (contents : List (List Entry)) (fresh : List Kinded)
    → beliefs t (contents ++ map (λ k. []) fresh) ≡ beliefs t contents
beliefs_fresh t contents [] = ap (beliefs t) (append-nil contents)
beliefs_fresh t contents (k ∷ fresh) =
    ap (beliefs t) (sym (append_assoc contents ([] ∷ []) (map (λ k. []) fresh)))
    ∙ beliefs_fresh t (contents ++ [] ∷ []) fresh ∙ beliefs-push t contents

front_get : {X : Type 0} (xs ys : List X) (i : ℕ) (x : X) → slice_get (xs ++ ys) i ≡ Some x → i < length xs
    → slice_get xs i ≡ Some x
front_get xs ys i x at l =
    slice_get-get_or xs i x l ∙ ap Some
    (sym (get_or_append_left xs ys x i l) ∙ get_or_from_slice_get (xs ++ ys) i x x at)

-- where all instances that are new wait, the others are met as before
others_met : (old new : List Constraint) (line line' : List ℕ) (a : ℕ → Info) → OthersMeet old line a
    → ((i : ℕ) → Contains line i → Contains line' i) →
    ((i : ℕ) → length old ≤ i → i < length (old ++ new) → Contains line' i) → OthersMeet (old ++ new) line' a
others_met old new line line' a o kept waits = record { met = λ j c at idle. by j c at idle (cases_lt j (length old)) }
  where
    by : (j : ℕ) (c : Constraint) → slice_get (old ++ new) j ≡ Some c → (Contains line' j → ⊥)
        → (j < length old) ⊎ (length old ≤ j) → Meets a c
    by j c at idle (inl h) = o.met j c (front_get old new j c at h) (λ w. idle (kept j w))
    by j c at idle (inr h) = absurd (idle (waits j h (slice_get_within (old ++ new) j c at)))

pub under_way_made : (library : List Stored) (s : Premises) (d new : Data) (line line' : List ℕ) (fresh : List Kinded)
    (params : List Param) (xs : List Instance) → IsUnderWay library s d line → IsKept library new →
    new ≡ record d {
      kinds = d.kinds ++ fresh;
      contents = d.contents ++ map (λ k. []) fresh;
      params = d.params ++ params;
      instances = d.instances ++ xs;
    } →
    ((i : ℕ) → Contains line i → Contains line' i)
    → ((i : ℕ) → length d.instances ≤ i → i < length (d.instances ++ xs) → Contains line' i)
    → All (λ k. k < length (d.instances ++ xs)) line' → IsUnderWay library s new line'
under_way_made library s d new line line' fresh params xs u kept e before waits below =
    let of = constraint_of library in
    let n = length-map d.instances of in
    let m : length (map of d.instances ++ map of xs) ≡ length (d.instances ++ xs) =
    ap length (sym (map-append of d.instances xs)) ∙ length-map (d.instances ++ xs) of in
    record {
      kept = kept;
      line_below = rw e below;
      met = rw (e, map-append, beliefs_fresh s d.contents fresh)
          (others_met (map of d.instances) (map of xs) line line' (beliefs s d.contents) u.met before
          (λ i l h. waits i (rw n at l) (rw m at h)));
    }

-- ---- one more statement: the readers of its cell wait, where what is believed of the cell changed

-- whatever its premise, something was merged into its cell
pub states_merge : (s : Premises) (d new : Data) (x : Statement) → States d new x
    → (v : Info) × MergesAt (beliefs s d.contents) (beliefs s new.contents) x.cell v
states_merge s d new x states = by (is_within s (support_of x.premise)) refl
  where
    e : Entry
    e = record { value = x.info; support = support_of x.premise }

    by : (b : Bool) → is_within s (support_of x.premise) ≡ b
        → (v : Info) × MergesAt (beliefs s d.contents) (beliefs s new.contents) x.cell v
    by true on = (x.info, adds_merges d.contents new.contents x.cell e states.adds s on)
    by false off = (
      Nothing,
      record {
        merged = adds_same d.contents new.contents x.cell e states.adds s off x.cell
            ∙ sym (join-bottom info_laws (beliefs s d.contents x.cell));
        others = λ c ne. adds_same d.contents new.contents x.cell e states.adds s off c;
      },
    )

-- one that is believed is merged into its cell
pub states_believed : (s : Premises) (d new : Data) (x : Statement) → States d new x
    → is_within s (support_of x.premise) ≡ true → MergesAt (beliefs s d.contents) (beliefs s new.contents) x.cell x.info
states_believed s d new x states on =
    adds_merges d.contents new.contents x.cell
    (record { value = x.info; support = support_of x.premise }) states.adds s on

-- what isn't believed, or follows from what is believed of its cell, changes no belief there
pub states_same : (s : Premises) (d new : Data) (x : Statement) → States d new x
    → (is_within s (support_of x.premise) ≡ false) ⊎ Below x.info (beliefs s d.contents x.cell) →
    beliefs s new.contents x.cell ≡ beliefs s d.contents x.cell
states_same s d new x states less = by (is_within s (support_of x.premise)) refl
  where
    e : Entry
    e = record { value = x.info; support = support_of x.premise }

    known : Info
    known = beliefs s d.contents x.cell

    by : (b : Bool) → is_within s (support_of x.premise) ≡ b → beliefs s new.contents x.cell ≡ known
    by false off = adds_same d.contents new.contents x.cell e states.adds s off x.cell
    by true on = elim less [
      | inl off ↦ cc (on, off)
      | inr below ↦
          let join = info_laws.least_above known x.info in
          (adds_merges d.contents new.contents x.cell e states.adds s on).merged
          ∙ info_laws.antisymmetric _ known (join.least known (info_laws.reflexive known) below) join.above_first
    ]

-- no more than what was believed and what is stated say together
pub states_clear : (s : Premises) (d new : Data) (x : Statement) → States d new x
    → merge_of (beliefs s d.contents x.cell) x.info ≢ Contradiction → beliefs s new.contents x.cell ≢ Contradiction
states_clear s d new x states clear clash = by (is_within s (support_of x.premise)) refl
  where
    e : Entry
    e = record { value = x.info; support = support_of x.premise }

    known : Info
    known = beliefs s d.contents x.cell

    by : (b : Bool) → is_within s (support_of x.premise) ≡ b → ⊥
    by true on = clear (sym (adds_merges d.contents new.contents x.cell e states.adds s on).merged ∙ clash)
    by false off =
        let is : known ≡ Contradiction = sym (adds_same d.contents new.contents x.cell e states.adds s off x.cell)
        ∙ clash in
        let both = merge_of known x.info in
        clear (info_laws.antisymmetric both Contradiction (info_laws.to_top both)
        (subst (λ v. Below v both) is (info_laws.least_above known x.info).above_first))

under_way_states : (library : List Stored) (s : Premises) (d new : Data) (line line' : List ℕ) (x : Statement)
    (grown : Bool) → IsUnderWay library s d line → IsKept library new → States d new x →
    (grown ≡ false → beliefs s new.contents x.cell ≡ beliefs s d.contents x.cell)
    → ((k : ℕ) → Contains line k → Contains line' k) → All (λ k. k < length d.instances) line' →
    (grown ≡ true → (j : ℕ) (y : Instance) → slice_get d.instances j ≡ Some y → Contains y.inputs x.cell
    → Contains line' j) → IsUnderWay library s new line'
under_way_states library s d new line line' x grown u kept states same_belief keep below readers =
    let same : new.instances ≡ d.instances = ap (λ n. n.instances) states.rest in
    let merge = states_merge s d new x states in
    record {
      kept = kept;
      line_below = rw same below;
      met = rw same (others_meet-step (map (constraint_of library) d.instances) line line' (beliefs s d.contents)
          (beliefs s new.contents) (length (map (constraint_of library) d.instances)) x.cell merge.0 grown
          (λ c at. absurd (omega (
            arith,
            slice_get_within (map (constraint_of library) d.instances)
                (length (map (constraint_of library) d.instances)) c at,
          )))
          merge.1 same_belief
          (record {
            kept = λ j c ne. keep j c;
            readers = λ g j c at_j reads. let y =
                from_map (constraint_of library) d.instances j c at_j in readers g j y.0 y.1 (rw y.2 at reads);
          })
          u.met);
    }

pub under_way_same : (library : List Stored) (s : Premises) (d new : Data) (line : List ℕ) (x : Statement)
    → IsUnderWay library s d line → IsKept library new → States d new x →
    beliefs s new.contents x.cell ≡ beliefs s d.contents x.cell → IsUnderWay library s new line
under_way_same library s d new line x u kept states same =
    under_way_states library s d new line line x false u kept states (λ f. same) (λ k c. c) u.line_below
    (λ g. let t : true ≡ false = sym g in cc)

pub under_way_grown : (library : List Stored) (s : Premises) (d new : Data) (line line' row : List ℕ) (x : Statement)
    → IsUnderWay library s d line → IsKept library new → States d new x →
    AllAlerted line line' row → row ≡ readers_of new.instances x.cell → IsUnderWay library s new line'
under_way_grown library s d new line line' row x u kept states all is_row =
    let same : new.instances ≡ d.instances = ap (λ n. n.instances) states.rest in
    let are = readers_are d.instances x.cell in
    let row_is : row ≡ readers_of d.instances x.cell = is_row ∙ ap (λ xs. readers_of xs x.cell) same in
    let alerted : AllAlerted line line' (readers_of d.instances x.cell) = rw row_is at all in
    under_way_states library s d new line line' x true u kept states (λ f. let t : true ≡ false = f in cc)
    (λ k c. alerted.kept k c)
    (all_after_alerts (λ k. k < length d.instances) (readers_of d.instances x.cell) line line' are.below u.line_below
    alerted)
    (λ g j y at_j reads. All-contains (Contains line') (readers_of d.instances x.cell) j alerted.alerted
    (are.covers j y at_j reads))

-- ---- more statements at one cell: its readers wait, where what is believed of it changed

-- the statements of sides change what is believed of their cell alone, and it grows
pub record AreGrownAt (s : Premises) (d new : Data) (cell : ℕ) : Type 0 where
  pub grown : (k : ℕ) → Below (beliefs s d.contents k) (beliefs s new.contents k)
  pub others : (k : ℕ) → k ≢ cell → beliefs s new.contents k ≡ beliefs s d.contents k

pub grown_sides : (s : Premises) (d new : Data) (first cell : ℕ) (infos : List Info)
    → StatesAll d new (sides_at first cell infos) → AreGrownAt s d new cell
grown_sides s d new first cell [] same = record {
  grown = λ k. below_same _ _ _ (ap (λ (n : Data). beliefs s n.contents k) (sym same))
      (info_laws.reflexive (beliefs s d.contents k));
  others = λ k ne. ap (λ (n : Data). beliefs s n.contents k) same;
}
grown_sides s d new first cell (info ∷ infos) (next, states, rest) =
    let merge = states_merge s d next (record { premise = Some first; cell = cell; info = info }) states in
    let later = grown_sides s next new (suc first) cell infos rest in
    record {
      grown = λ k. info_laws.transitive _ _ _
          (merges_grow (beliefs s d.contents) (beliefs s next.contents) cell merge.0 merge.1 k) (later.grown k);
      others = λ k ne. later.others k ne ∙ merge.1.others k ne;
    }

pub under_way_sides : (library : List Stored) (s : Premises) (d new : Data) (line line' : List ℕ) (first cell : ℕ)
    (infos : List Info) → IsUnderWay library s d line → IsKept library new →
    new.instances ≡ d.instances → StatesAll d new (sides_at first cell infos)
    → ((k : ℕ) → Contains line k → Contains line' k) → All (λ k. k < length d.instances) line' →
    (Below (beliefs s new.contents cell) (beliefs s d.contents cell)
    ⊎ All (Contains line') (readers_of d.instances cell)) → IsUnderWay library s new line'
under_way_sides library s d new line line' first cell infos u kept same states keep below waits =
    let of = constraint_of library in
    let a = beliefs s d.contents in
    let b = beliefs s new.contents in
    let at_cell = grown_sides s d new first cell infos states in
    let agree : (j : ℕ) (x : Instance) → slice_get d.instances j ≡ Some x → (Contains line' j → ⊥) → (k : ℕ)
    → Contains x.inputs k → a k ≡ b k = λ j x at idle k reads.
    elim (eqb_tells k cell) as (λ _. a k ≡ b k) [
      | inl e ↦ rw e.1 (elim waits as (λ _. a cell ≡ b cell) [
        | inl less ↦ info_laws.antisymmetric (a cell) (b cell) (at_cell.grown cell) less
        | inr all ↦ absurd (idle (All-contains (Contains line') (readers_of d.instances cell) j all
            ((readers_are d.instances cell).covers j x at (subst (λ (c : ℕ). Contains x.inputs c) e.1 reads))))
      ])
      | inr e ↦ sym (at_cell.others k e.1)
    ] in
    let met : (j : ℕ) (x : Instance) → slice_get d.instances j ≡ Some x → (Contains line' j → ⊥) → Meets a (of x)
    → Meets b (of x) = λ j x at idle m.
    meets_same a b (of x) (map_agree a b x.inputs (All-from_contains (λ k. a k ≡ b k) x.inputs (agree j x at idle)))
    (info_laws.transitive _ _ _ m (at_cell.grown x.output)) in
    record {
      kept = kept;
      line_below = rw same below;
      met = rw same (record {
        met = λ j c at idle.
            let x = from_map of d.instances j c at in
            let is : c ≡ of x.0 = x.2 in
            subst (λ (q : Constraint). Meets b q) (sym is)
            (met j x.0 x.1 idle (subst (λ (q : Constraint). Meets a q) is
            (u.met.met j c at (λ w. idle (keep j w)))));
      });
    }

-- ---- another worldview

-- where every instance waits, any worldview is under way
pub under_way_all : (library : List Stored) (s : Premises) (d : Data) (line : List ℕ) → IsKept library d
    → All (λ j. j < length d.instances) line → ((j : ℕ) → j < length d.instances → Contains line j) →
    IsUnderWay library s d line
under_way_all library s d line kept below all = record {
  kept = kept;
  line_below = below;
  met = record {
    met = λ j c at idle. let x = from_map (constraint_of library) d.instances j c at in absurd
        (idle (all j (slice_get_within d.instances j x.0 x.1)));
  };
}

-- where another worldview believes the same of every cell, it is as far
pub under_way_believed : (library : List Stored) (s t : Premises) (d : Data) (line : List ℕ)
    → beliefs t d.contents ≡ beliefs s d.contents → IsUnderWay library s d line → IsUnderWay library t d line
under_way_believed library s t d line same u = record { kept = u.kept; line_below = u.line_below; met = rw same u.met }
