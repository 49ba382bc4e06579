-- The premises under which something was told of each cell.
use Rattle.std.proofs.Common.{◌≡◌, ◌≢◌, ◌∙◌, ℕ, ◌<◌, ◌≤◌, ◌==◌, ◌&&◌, ◌||◌, not, cond, Bool, true, false, IsTrue}
use Rattle.std.proofs.Common.{Contains, List, [], ◌∷◌, ◌++◌, length, take, get_or, slice_index_or, slice_set, refl, sym}
use Rattle.std.proofs.Common.{ap, subst, arith, inl, inr, Option, Some, None, All}
use Rattle.std.proofs.lemmas.Bool.{eqb-true}
use Rattle.std.proofs.lemmas.Bool.Decides.{eqb_tells}
use Rattle.std.proofs.lemmas.List.{get_or_default, get_or-set_other, get_or-set_same, get_or-take, length-append}
use Rattle.std.proofs.lemmas.List.{length-set, length-take}
use Rattle.std.proofs.lemmas.List.Folds.{Any-from_list_any}
use Rattle.std.proofs.lemmas.List.Elements.{All-weaker, All-push, All-contains}
use Rattle.prop_lattice.specs.Order.{Below}
use Rattle.prop_lattice.specs.laws.OrderLaws.{info_laws}
use Rattle.prop_lattice.specs.Rank.{IsOf}
use Rattle.prop_numbers.specs.Sets.{set_of, union, is_within, is_at_most_one_of, IsSame, IsPart}
use Rattle.prop_tms.proofs.BeliefLemmas.{belief_below, below_belief}
use Rattle.prop_tms.proofs.BeliefUses.{belief_of-more}
use Rattle.prop_procedures.specs.declared.shape.Kinded.{Kinded}
use Rattle.prop_procedures.specs.Fitting.{kind_at}
use Rattle.prop_contents.specs.Contents.{Entry, beliefs, content_of, support_of}
use Rattle.prop_contents.specs.Changes.{TrimsAt, derived_of}
use Rattle.prop_contents.proofs.Lists.{get_or-push_default}
use Rattle.prop_cells.specs.declared.instance.Statement.{Statement}
use Rattle.prop_cells.specs.Problems.{is_member}
use Rattle.prop_cells.specs.inner.Problems.{Premises}
use Rattle.prop_cells.specs.Data.{Data, IsStated, IsWellMade, told_of}
use Rattle.prop_cells.specs.inner.Data.{IsStored, AreTold}

-- a cell was told of under these premises too
pub record TellsAt (old new : List (List ℕ)) (cell : ℕ) (support : List ℕ) : Type 0 where
  pub same_length : length new ≡ length old
  pub more : (p : ℕ) → IsTrue (set_of (slice_index_or old cell []) p) → IsTrue (set_of (slice_index_or new cell []) p)
  pub told : (p : ℕ) → IsTrue (set_of support p) → IsTrue (set_of (slice_index_or new cell []) p)
  pub others : (c : ℕ) → c ≢ cell → slice_index_or new c [] ≡ slice_index_or old c []

or_left : (a b : Bool) → a ≡ true → (a || b) ≡ true
or_left true b h = refl
or_left false b h = cc

or_right : (a b : Bool) → b ≡ true → (a || b) ≡ true
or_right true b h = refl
or_right false b h = h

pub tells_at : (telling : List (List ℕ)) (cell : ℕ) (here now support : List ℕ) → cell < length telling
    → here ≡ slice_index_or telling cell here → IsSame (set_of now) (union (set_of here) (set_of support))
    → TellsAt telling (slice_set telling cell now) cell support
tells_at telling cell here now support l at same =
    let is : here ≡ slice_index_or telling cell [] = at ∙ get_or_default telling cell here [] l in
    record {
      same_length = length-set telling cell now;
      more = λ p h. rw (get_or-set_same telling cell now [] l)
          (same p ∙ or_left (set_of here p) (set_of support p) (rw (← is) at h));
      told = λ p h. rw (get_or-set_same telling cell now [] l) (same p ∙ or_right (set_of here p) (set_of support p) h);
      others = λ c ne. get_or-set_other telling cell c now [] ne;
    }

own : (p : ℕ) → set_of (p ∷ []) p ≡ true
own p = elim (eqb_tells p p) [ inl e ↦ rw e.0 refl | inr e ↦ absurd (e.1 refl) ]

still_told : (old new : List (List ℕ)) (s : Statement) → TellsAt old new s.cell (support_of s.premise) → (x : Statement)
    → ((p : ℕ) → x.premise ≡ Some p → IsTrue (set_of (slice_index_or old x.cell []) p)) →
    (p : ℕ) → x.premise ≡ Some p → IsTrue (set_of (slice_index_or new x.cell []) p)
still_told old new s tells x told p is =
    elim (eqb_tells x.cell s.cell) as (λ _. IsTrue (set_of (slice_index_or new x.cell []) p)) [
      | inl same ↦ rw same.1 (tells.more p (rw same.1 at told p is))
      | inr other ↦ rw (tells.others x.cell other.1) (told p is)
    ]

pub told_statement : (d : Data) (contents : List (List Entry)) (old new : List (List ℕ)) (s : Statement)
    → TellsAt old new s.cell (support_of s.premise) → AreTold d old
    → AreTold (record d { contents = contents; statements = d.statements ++ s ∷ [] }) new
told_statement d contents old new s tells h = record {
  count = tells.same_length ∙ h.count;
  each = All-push (λ x. (p : ℕ) → x.premise ≡ Some p → IsTrue (set_of (slice_index_or new x.cell []) p)) d.statements s
      (All-weaker (λ x. (p : ℕ) → x.premise ≡ Some p → IsTrue (set_of (slice_index_or old x.cell []) p))
      (λ x. (p : ℕ) → x.premise ≡ Some p → IsTrue (set_of (slice_index_or new x.cell []) p))
      (still_told old new s tells) d.statements h.each)
      (λ p is. tells.told p (rw is (own p)));
}

pub told_cell : (d : Data) (told : List (List ℕ)) (k : Kinded) → AreTold d told
    → AreTold (record d { kinds = d.kinds ++ k ∷ []; contents = d.contents ++ [] ∷ [] }) (told ++ [] ∷ [])
told_cell d told k h = record {
  count = (let n = h.count in omega (arith, n, length-append told ([] ∷ []), length-append d.kinds (k ∷ [])));
  each = All-weaker (λ x. (p : ℕ) → x.premise ≡ Some p → IsTrue (set_of (slice_index_or told x.cell []) p))
      (λ x. (p : ℕ) → x.premise ≡ Some p → IsTrue (set_of (slice_index_or (told ++ [] ∷ []) x.cell []) p))
      (λ x h p is. rw (get_or-push_default told [] x.cell) (h p is)) d.statements h.each;
}

pub told_taken : (d : Data) (told : List (List ℕ)) (count : ℕ)
    → IsWellMade (record d { kinds = take count d.kinds; contents = take count d.contents }) → AreTold d told →
    AreTold (record d { kinds = take count d.kinds; contents = take count d.contents }) (take count told)
told_taken d told count made h = record {
  count = (let n = h.count in omega (arith, n, length-take count told, length-take count d.kinds));
  each = λ k x l p is.
      let s = get_or d.statements k x in
      let within = (made.stated k x l).within in
      let same : slice_index_or (take count told) s.cell [] ≡ slice_index_or told s.cell [] =
      get_or-take count told s.cell [] (omega (arith, within, length-take count d.kinds)) in
      rw same (h.each k x l p is);
}

-- ---- entries that go

-- what rests on one of some premises alone rests on one of more
one_of_more : (s t : Premises) → IsPart s t → (support : List ℕ) → is_at_most_one_of s support ≡ true
    → is_at_most_one_of t support ≡ true
one_of_more s t part [] h = refl
one_of_more s t part (p ∷ ps) h = and_same (s p) (t p) (is_within (set_of (p ∷ [])) ps) (part p) h
  where
    and_same : (a b c : Bool) → (a ≡ true → b ≡ true) → (a && c) ≡ true → (b && c) ≡ true
    and_same true b c f h = rw (f refl) h
    and_same false b c f h = cc

-- so no fewer are derived where less was told
pub more_derived : (s t : Premises) → IsPart s t → (entries : List Entry)
    → length (derived_of t entries) ≤ length (derived_of s entries)
more_derived s t part [] = omega arith
more_derived s t part (e ∷ es) = by (is_at_most_one_of s e.support) (is_at_most_one_of t e.support)
    (one_of_more s t part e.support) (more_derived s t part es)
  where
    by : (a b : Bool) → (a ≡ true → b ≡ true) → length (derived_of t es) ≤ length (derived_of s es) →
        length (cond (not b) (e ∷ derived_of t es) (derived_of t es)) ≤ length
        (cond (not a) (e ∷ derived_of s es) (derived_of s es))
    by true true f ih = ih
    by true false f ih = let no = f refl in cc
    by false true f ih = omega (arith, ih)
    by false false f ih = omega (arith, ih)

-- what went where some premises tell of the cell went where no more do
pub trims_told : (s told fewer : Premises) (old new : List (List Entry)) (cell : ℕ) → IsPart fewer told
    → TrimsAt s told old new cell → TrimsAt s fewer old new cell
trims_told s told fewer old new cell part t = record {
  same_length = t.same_length;
  among = t.among;
  belief = t.belief;
  few = λ le. t.few (let more = more_derived fewer told part (content_of old cell) in omega (arith, le, more));
  others = t.others;
}

-- an entry that is believed with the premise of a statement alone rests on nothing or on it
own_alone : (told : List ℕ) (o : Option ℕ) (support : List ℕ) → ((p : ℕ) → o ≡ Some p → IsTrue (set_of told p))
    → is_within (set_of (support_of o)) support ≡ true → is_at_most_one_of (set_of told) support ≡ true
own_alone told o [] h on = refl
own_alone told None (q ∷ qs) h on = cc
own_alone told (Some p) (q ∷ qs) h on = by (p == q) refl on
  where
    by : (b : Bool) → (p == q) ≡ b → ((b || false) && is_within (set_of (p ∷ [])) qs) ≡ true
        → (set_of told q && is_within (set_of (q ∷ [])) qs) ≡ true
    by true e on = let same : p ≡ q = eqb-true p q e in rw (sym same, h p refl) on
    by false e on = cc

own_member : (o : Option ℕ) → IsTrue (is_member (set_of (support_of o)) o)
own_member None = refl
own_member (Some p) = own p

member_has : (t : Premises) (o : Option ℕ) → IsTrue (is_member t o) → (q : ℕ) → set_of (support_of o) q ≡ true
    → t q ≡ true
member_has t None m q h = cc
member_has t (Some p) m q h = elim (eqb_tells p q) [ inl e ↦ rw (sym e.1) m | inr e ↦ cc (e.0, h) ]

and_parts : (a b : Bool) → (a && b) ≡ true → (a ≡ true) × (b ≡ true)
and_parts true b h = (refl, h)
and_parts false b h = cc

or_none : (a : Bool) → (a || false) ≡ true → a ≡ true
or_none true h = refl
or_none false h = h

premise_is : (o : Option ℕ) (p : ℕ) → set_of (support_of o) p ≡ true → o ≡ Some p
premise_is None p h = cc
premise_is (Some q) p h = ap Some (eqb-true q p (or_none (q == p) h))

-- the premises under which something is stated of a cell are among those that are kept for it
pub told_part : (d : Data) (told : List (List ℕ)) (cell : ℕ) → AreTold d told
    → IsPart (told_of d.statements cell) (set_of (slice_index_or told cell []))
told_part d told cell h p any =
    let some = Any-from_list_any (λ x. (x.cell == cell) && set_of (support_of x.premise) p) d.statements any in
    let x : Statement = some.1 in
    let both = and_parts (x.cell == cell) (set_of (support_of x.premise) p) some.4 in
    let each : (q : ℕ) → x.premise ≡ Some q
    → IsTrue (set_of (slice_index_or told x.cell []) q) =
    subst (λ (y : Statement). (q : ℕ) → y.premise ≡ Some q → IsTrue (set_of (slice_index_or told y.cell []) q))
    some.3 (h.each some.0 x some.2) in
    subst (λ (c : ℕ). IsTrue (set_of (slice_index_or told c []) p)) (eqb-true x.cell cell both.0)
    (each p (premise_is x.premise p both.1))

module _ (d : Data) (contents : List (List Entry)) (told : List (List ℕ)) (s telling : Premises) (cell : ℕ)
    (trims : TrimsAt s telling d.contents contents cell)
    (kept : (e : Entry) → Contains (content_of d.contents cell) e
    → IsTrue (is_at_most_one_of (set_of (slice_index_or told cell [])) e.support)
    → Contains (content_of contents cell) e) where
  -- what is told of the cell is believed as before
  still_stated : (x : Statement) → ((p : ℕ) → x.premise ≡ Some p → IsTrue (set_of (slice_index_or told x.cell []) p))
      → IsStated d.kinds d.contents x → IsStated d.kinds contents x
  still_stated x under h = record {
    within = h.within;
    of_kind = h.of_kind;
    below = λ t m. elim (eqb_tells x.cell cell) as (λ _. Below x.info (beliefs t contents x.cell)) [
      | inl same ↦
          (let u = set_of (support_of x.premise) in
          let alone = rw same.1 at h.below u (own_member x.premise) in
          let here = rw same.1 at under in
          let less : Below (beliefs u d.contents cell) (beliefs u contents cell) =
          belief_below info_laws u (content_of d.contents cell) (beliefs u contents cell)
          (λ e c on. below_belief info_laws u (content_of contents cell) e
          (kept e c (own_alone (slice_index_or told cell []) x.premise e.support here on)) on) in
          let more : Below (beliefs u contents cell) (beliefs t contents cell) =
          belief_of-more info_laws (content_of contents cell) u t (member_has t x.premise m) in
          rw same.1 (info_laws.transitive _ _ _ alone (info_laws.transitive _ _ _ less more)))
      | inr other ↦ rw (trims.others x.cell other.1) (h.below t m)
    ];
  }

  pub stored_trim : (reading writing : List (List ℕ)) → IsStored d reading writing told
      → IsStored (record d { contents = contents }) reading writing told
  stored_trim reading writing h = record {
    made = record {
      contents_length = trims.same_length ∙ h.made.contents_length;
      within = h.made.within;
      of_kinds = λ c. elim (eqb_tells c cell) as (λ _.
          All (λ e. IsOf (kind_at d.kinds c).kind (kind_at d.kinds c).size e.value) (content_of contents c)) [
            | inl same ↦ rw same.1 (All-weaker (Contains (content_of d.contents cell))
                (λ e. IsOf (kind_at d.kinds cell).kind (kind_at d.kinds cell).size e.value)
                (λ e there. All-contains (λ y. IsOf (kind_at d.kinds cell).kind (kind_at d.kinds cell).size y.value)
                (content_of d.contents cell) e (h.made.of_kinds cell) there) (content_of contents cell) trims.among)
            | inr other ↦ rw (trims.others c other.1) (h.made.of_kinds c)
          ];
      stated = λ k y l. still_stated (get_or d.statements k y) (h.told.each k y l) (h.made.stated k y l);
    };
    readers = h.readers;
    writers = h.writers;
    told = record { count = h.told.count; each = h.told.each };
  }
