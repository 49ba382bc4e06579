-- Statements of the sides of a choice: what they leave, and that nothing of them is left where they are taken back.
use Rattle.std.proofs.Common.{◌≡◌, ◌≢◌, ◌∙◌, ◌+◌, ◌<◌, ◌≤◌, ℕ, zero, suc, Bool, true, false, nat_lt, IsTrue, List, []}
use Rattle.std.proofs.Common.{◌∷◌, ◌++◌, length, take, filter, get_or, set, slice_set, refl, sym, ap, Some, arith, All}
use Rattle.std.proofs.lemmas.Bool.{eq-eqb, le-ltb, lt-ltb}
use Rattle.std.proofs.lemmas.List.{append-nil, append_assoc, ext_get_or, length-take, set-get_or, take_more}
use Rattle.std.proofs.lemmas.List.Elements.{All-contains, All-head, All-tail, All-weaker}
use Rattle.std.proofs.Math.Seq.{take-length}
use Rattle.prop_lattice.specs.declared.info.Info.{Info}
use Rattle.prop_lattice.specs.declared.info.Info.TheVariants.{Nothing}
use Rattle.prop_lattice.specs.Order.{Below, merge_of}
use Rattle.prop_lattice.specs.Rank.{IsOf}
use Rattle.prop_numbers.specs.Sets.{set_of, is_below}
use Rattle.prop_numbers.proofs.WithinLemmas.{within_has, within_from}
use Rattle.prop_tms.specs.Beliefs.{Subsumes, joined_with}
use Rattle.prop_tms.proofs.KeptLemmas.{grown_filter}
use Rattle.prop_procedures.specs.Fitting.{kind_at}
use Rattle.prop_procedures.specs.Stored.{Stored}
use Rattle.prop_contents.specs.Contents.{Entry, content_of}
use Rattle.prop_contents.specs.Changes.{StandsAt, entries_below}
use Rattle.prop_cells.specs.declared.instance.Statement.{Statement}
use Rattle.prop_cells.specs.Problems.{Problem}
use Rattle.prop_cells.specs.Reach.{Reaches}
use Rattle.prop_cells.specs.Reach.Reaches.{stated, passed}
use Rattle.prop_cells.specs.Data.{Data, IsFounded, IsKept, States, problem_of}
use Rattle.prop_cells.specs.Sides.{sides_at, StatesAll, AreUnderBelow}
use Rattle.prop_cells.specs.inner.Sides.{statements_back}
use Rattle.prop_cells.proofs.Backing.{take_more_of}
use Rattle.prop_cells.proofs.Keeping.{kept_statement}

abbrev side_at : ℕ → ℕ → Info → Statement
side_at premise cell info = record { premise = Some premise; cell = cell; info = info }

-- ---- one side more

sides_push : (infos : List Info) (info : Info) (first cell p : ℕ) → p ≡ first + length infos
    → sides_at first cell (infos ++ info ∷ []) ≡ sides_at first cell infos ++ side_at p cell info ∷ []
sides_push [] info first cell p e = let same : p ≡ first = omega (arith, e) in rw same refl
sides_push (x ∷ infos) info first cell p e =
    ap (λ xs. side_at first cell x ∷ xs) (sides_push infos info (suc first) cell p (omega (arith, e)))

states_push : (xs : List Statement) (x : Statement) (old mid new : Data) → StatesAll old mid xs → States mid new x
    → StatesAll old new (xs ++ x ∷ [])
states_push [] x old mid new h s = (new, rw h at s, refl)
states_push (y ∷ ys) x old mid new h s = (h.0, h.1, states_push ys x h.0 mid new h.2 s)

pub states_more : (old mid new : Data) (first cell i p : ℕ) (infos : List Info) (info d : Info) → i < length infos
    → p ≡ first + i → info ≡ get_or infos i d → StatesAll old mid (sides_at first cell (take i infos)) →
    States mid new (side_at p cell info) → StatesAll old new (sides_at first cell (take (i + 1) infos))
states_more old mid new first cell i p infos info d l e is h s =
    let n = length-take i infos in
    let many : sides_at first cell (take (i + 1) infos) ≡ sides_at first cell (take i infos) ++ side_at p cell
    (get_or infos i d) ∷ [] =
    ap (sides_at first cell) (take_more infos i d l)
    ∙ sides_push (take i infos) (get_or infos i d) first cell p (omega (arith, e, n, l)) in
    rw (many, ← is) (states_push (sides_at first cell (take i infos)) (side_at p cell info) old mid new h s)

-- ---- what the statements leave

pub states_rest : (xs : List Statement) (old new : Data) → StatesAll old new xs
    → new ≡ record old { statements = old.statements ++ xs; contents = new.contents }
states_rest [] old new h = rw h (λ i. record old { statements = sym (append-nil old.statements) i })
states_rest (x ∷ xs) old new h =
    states_rest xs h.0 new h.2 ∙ (λ i. record (h.1.rest i) {
      statements = (h.1.rest i).statements ++ xs;
      contents = new.contents;
    }) ∙
    (λ i. record old { statements = append_assoc old.statements (x ∷ []) xs i; contents = new.contents })

pub states_kept : (library : List Stored) (first cell : ℕ) (infos : List Info) (old new : Data)
    → cell < length old.kinds → All (IsOf (kind_at old.kinds cell).kind (kind_at old.kinds cell).size) infos →
    IsKept library old → StatesAll old new (sides_at first cell infos) → IsKept library new
states_kept library first cell [] old new within of_kind kept h = rw h kept
states_kept library first cell (info ∷ infos) old new within of_kind kept h =
    let same : h.0.kinds ≡ old.kinds = ap (λ (d : Data). d.kinds) h.1.rest in
    let here = All-head (IsOf (kind_at old.kinds cell).kind (kind_at old.kinds cell).size) info infos of_kind in
    let rest = All-tail (IsOf (kind_at old.kinds cell).kind (kind_at old.kinds cell).size) info infos of_kind in
    states_kept library (suc first) cell infos h.0 new (rw same within) (rw same rest)
    (kept_statement library old h.0 (side_at first cell info) within here kept h.1.rest h.1.adds) h.2

-- ---- premises that no statement has

reaches_below : (p : Problem) (first q cell : ℕ) → AreUnderBelow first p.statements → Reaches p q cell → q < first
reaches_below p first q _ h (stated x is_in e) =
    All-contains (λ x. (k : ℕ) → x.premise ≡ Some k → k < first) p.statements x h is_in q e
reaches_below p first q _ h (passed c input is_in reads r) = reaches_below p first q input h r

-- no entry rests on them
pub kept_below : (library : List Stored) (d : Data) (first cell : ℕ) → IsKept library d
    → AreUnderBelow first d.statements → All (λ e. IsTrue (is_below first e.support)) (content_of d.contents cell)
kept_below library d first cell kept h =
    All-weaker (IsFounded (problem_of library d) cell) (λ e. IsTrue (is_below first e.support))
    (λ e f. within_from (λ q. nat_lt q first) e.support
    (λ q t. lt-ltb q first (reaches_below (problem_of library d) first q cell h (f.related q t))))
    (content_of d.contents cell) (kept.founded cell)

-- ---- back

filter_all : {X : Type 0} (t : X → Bool) (xs : List X) → All (λ x. IsTrue (t x)) xs → filter t xs ≡ xs
filter_all t [] h = refl
filter_all t (x ∷ xs) h = rw (All-head (λ y. IsTrue (t y)) x xs h)
    (ap (λ ys. x ∷ ys) (filter_all t xs (All-tail (λ y. IsTrue (t y)) x xs h)))

-- lists that agree but at one place are the same once that is written
set_agree : {X : Type 0} (xs ys : List X) (i : ℕ) (v d : X) → length xs ≡ length ys
    → ((c : ℕ) → c ≢ i → get_or xs c d ≡ get_or ys c d) → set xs i v ≡ set ys i v
set_agree [] [] i v d n h = refl
set_agree [] (y ∷ ys) i v d n h = absurd (omega (arith, n))
set_agree (x ∷ xs) [] i v d n h = absurd (omega (arith, n))
set_agree (x ∷ xs) (y ∷ ys) zero v d n h =
    ap (λ zs. v ∷ zs) (ext_get_or d xs ys (omega (arith, n)) (λ c l. h (suc c) (λ e. absurd (omega (arith, e)))))
set_agree (x ∷ xs) (y ∷ ys) (suc i) v d n h =
    let here : x ≡ y = h 0 (λ e. absurd (omega (arith, e))) in
    let rest : set xs i v ≡ set ys i v =
    set_agree xs ys i v d (omega (arith, n)) (λ c ne. h (suc c) (λ e. ne (omega (arith, e)))) in
    cc

-- what has just been stated nothing of is as it was
pub back_start : (d : Data) (cell first : ℕ) → All (λ e. IsTrue (is_below first e.support)) (content_of d.contents cell)
    → statements_back (length d.statements) cell first d ≡ d
back_start d cell first h =
    let entries : entries_below first d.contents cell ≡ d.contents =
    ap (slice_set d.contents cell) (filter_all (λ e. is_below first e.support) (content_of d.contents cell) h)
    ∙ set-get_or d.contents cell [] in
    λ i. record d { statements = take-length d.statements i; contents = entries i }

module _ (first p : ℕ) (l : first ≤ p) where
  above : nat_lt p first ≡ false
  above = le-ltb p first l

  rests : is_below first (p ∷ []) ≡ false
  rests = rw above refl

  subsumed_rest : (info : Info) (y : Entry) → Subsumes Below (record { value = info; support = p ∷ [] }) y
      → is_below first y.support ≡ false
  subsumed_rest info y s = by (is_below first y.support) refl
    where
      holds : set_of y.support p ≡ true
      holds = within_has (set_of y.support) (p ∷ []) p s.support (rw (eq-eqb p p refl) refl)

      by : (b : Bool) → is_below first y.support ≡ b → b ≡ false
      by true e = let low : nat_lt p first ≡ true =
          within_has (λ q. nat_lt q first) y.support p e holds in let no : nat_lt p first ≡ false = above in cc
      by false e = refl

  -- and stays so as one side more is stated
  pub back_more : (old cur new : Data) (cell : ℕ) (info : Info)
      → statements_back (length old.statements) cell first cur ≡ old → States cur new (side_at p cell info) →
      StandsAt cur.contents new.contents cell (record { value = info; support = p ∷ [] })
      → statements_back (length old.statements) cell first new ≡ old
  back_more old cur new cell info h s stands =
      let x : Statement = side_at p cell info in
      let before : take (length old.statements) cur.statements ≡ old.statements = ap (λ d. d.statements) h in
      let statements : take (length old.statements) (cur.statements ++ x ∷ []) ≡ take (length old.statements)
      cur.statements = take_more_of old.statements cur.statements (x ∷ []) before ∙ sym before in
      let stood : Entry = joined_with Nothing merge_of (content_of cur.contents cell)
      (record { value = info; support = p ∷ [] }) in
      let left = grown_filter (Subsumes Below stood) (λ e. is_below first e.support) stood rests
      (subsumed_rest stood.value)
      (content_of cur.contents cell) (content_of new.contents cell) stands in
      let entries : entries_below first new.contents cell ≡ entries_below first cur.contents cell =
      ap (slice_set new.contents cell) left
      ∙ set_agree new.contents cur.contents cell
      (filter (λ e. is_below first e.support) (content_of cur.contents cell)) [] s.adds.same_length s.adds.others in
      ap (statements_back (length old.statements) cell first) s.rest
      ∙ (λ i. record cur { statements = statements i; contents = entries i }) ∙ h
