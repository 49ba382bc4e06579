-- A use equals its flat list put in place: what is expanded of a flat list and what is expanded in its place go side by
-- side.
use Rattle.std.proofs.Common.{◌≡◌, ◌∙◌, ℕ, ◌+◌, ◌-◌, ◌<◌, ◌≤◌, List, [], ◌∷◌, ◌++◌, All, Bool, false, cond, length, map}
use Rattle.std.proofs.Common.{drop, get_or, Option, refl, sym, ap, subst, arith, inl, inr, add-zero}
use Rattle.std.specs.Prelude.{◌⊎◌, reverse, slice_get}
use Rattle.std.specs.List.{range_with_len}
use Rattle.std.specs.Option.{option_map_or}
use Rattle.std.proofs.lemmas.Bool.{cases_lt, cases_eq, lt-ltb, le-ltb, eq-eqb, ne_eqb}
use Rattle.std.proofs.lemmas.List.{append-nil, append_assoc, ext_get_or, get_or_append_left, get_or-append-add}
use Rattle.std.proofs.lemmas.List.{get_or-map, length-append, length-map, length-reverse, map-append}
use Rattle.std.proofs.lemmas.List.Elements.{All-head, All-tail, All-push, All-weaker}
use Rattle.std.proofs.Math.Seq.{drop-append_seam}
use Rattle.std.proofs.lemmas.List.FromFn.{length-range_with_len, length-map-range_with_len, get_or-map-range_with_len}
use Rattle.prop_procedures.specs.declared.shape.Kinded.{Kinded}
use Rattle.prop_procedures.specs.declared.shape.Param.{Param}
use Rattle.prop_procedures.specs.Stored.{span_kind}
use Rattle.prop_procedures.specs.Fitting.{kind_at}
use Rattle.prop_procedures.specs.Flats.{cell_placed}
use Rattle.prop_vocabulary.specs.Vocabulary.{Vocabulary}
use Rattle.prop_compound.specs.declared.definition.KeptDefinition.{KeptDefinition}
use Rattle.prop_compound.specs.declared.definition.Passing.{Passing}
use Rattle.prop_compound.specs.declared.definition.Passing.TheVariants.{Own}
use Rattle.prop_compound.specs.declared.definition.Used.{Used}
use Rattle.prop_compound.specs.declared.definition.Used.TheVariants as uses
use Rattle.prop_compound.specs.declared.definition.NumberedStep.{NumberedStep}
use Rattle.prop_compound.specs.declared.definition.NumberedStep.TheVariants.{Local, Like, Use}
use Rattle.prop_compound.specs.Definitions.{Definition}
use Rattle.prop_compound.specs.Expansion.{Placed, Expansion, Walk, start, cell_at, cells_at, with_fresh, param_passed}
use Rattle.prop_compound.specs.Expansion.{use_expanded, steps_expanded, definition_expanded, expanded_in}
use Rattle.prop_compound.specs.InPlace.{placed_at, put_in_place, UsesArePutInPlace}
use Rattle.prop_compound.specs.Kept.{all_bare, IsUseThere}
use Rattle.prop_compound.specs.inner.Kept.{AreInScope, IsUseBelow, AreKept}
use Rattle.prop_compound.specs.Shortcuts.{passed}
use Rattle.prop_compound.proofs.Ranges.{chosen_within}
use Rattle.prop_compound.proofs.Shorter.{passed_twice}
use Rattle.prop_compound.proofs.Unrolling.{Adds}
use Rattle.prop_compound.proofs.Using.{range_within}
use Rattle.prop_compound.proofs.WellMade.{AreWellMade, well_made_tail, well_made}

-- ---- cells at places

given_placed : (cells : List ℕ) (next place : ℕ) → place < length cells
    → cell_placed cells next place ≡ get_or cells place 0
given_placed cells next place h =
    ap (λ (b : Bool). cond b (get_or cells place 0) (next + (place - length cells))) (lt-ltb place (length cells) h)

fresh_placed : (cells : List ℕ) (next place : ℕ) → length cells ≤ place
    → cell_placed cells next place ≡ next + (place - length cells)
fresh_placed cells next place h =
    ap (λ (b : Bool). cond b (get_or cells place 0) (next + (place - length cells))) (le-ltb place (length cells) h)

-- a cell at a place has the kind of the place
pub kind_placed : (kinds fresh : List Kinded) (cells : List ℕ) (place : ℕ) → All (λ c. c < length kinds) cells
    → place < length cells + length fresh →
    kind_at (kinds ++ fresh) (cell_placed cells (length kinds) place) ≡ kind_at (map (kind_at kinds) cells ++ fresh)
    place
kind_placed kinds fresh cells place below l = by (cases_lt place (length cells))
  where
    n : length (map (kind_at kinds) cells) ≡ length cells
    n = length-map cells (kind_at kinds)

    by : (place < length cells) ⊎ (length cells ≤ place)
        → kind_at (kinds ++ fresh) (cell_placed cells (length kinds) place) ≡ kind_at
        (map (kind_at kinds) cells ++ fresh) place
    by (inl h) =
        ap (kind_at (kinds ++ fresh)) (given_placed cells (length kinds) place h)
        ∙ get_or_append_left kinds fresh span_kind (get_or cells place 0) (below place 0 h)
        ∙ sym (get_or_append_left (map (kind_at kinds) cells) fresh span_kind place (omega (arith, h, n))
        ∙ get_or-map (kind_at kinds) cells place 0 span_kind h)
    by (inr h) =
        let there : place ≡ length (map (kind_at kinds) cells) + (place - length cells) = omega (arith, h, n) in
        ap (kind_at (kinds ++ fresh)) (fresh_placed cells (length kinds) place h)
        ∙ get_or-append-add kinds fresh (place - length cells) span_kind
        ∙ sym (ap (kind_at (map (kind_at kinds) cells ++ fresh)) there
        ∙ get_or-append-add (map (kind_at kinds) cells) fresh (place - length cells) span_kind)

-- the first places are those of the given cells
all_placed : (cells : List ℕ) (next : ℕ) → map (cell_placed cells next) (range_with_len 0 (length cells)) ≡ cells
all_placed cells next =
    let n = length-map-range_with_len (cell_placed cells next) 0 (length cells) in
    ext_get_or 0 (map (cell_placed cells next) (range_with_len 0 (length cells))) cells n
    (λ i l. let m : i < length cells = omega (arith, l, n) in get_or-map-range_with_len (cell_placed cells next) 0
    (length cells) i i 0 m (omega arith) ∙ given_placed cells next i m)

-- cells at places are those at the places
chosen_placed : (f : ℕ → ℕ) (cells places : List ℕ) → All (λ place. place < length cells) places
    → cells_at (map f cells) places ≡ map f (cells_at cells places)
chosen_placed f cells [] h = refl
chosen_placed f cells (place ∷ places) h =
    λ i. get_or-map f cells place 0 0 (All-head (λ place. place < length cells) place places h) i ∷ chosen_placed f
    cells places (All-tail (λ place. place < length cells) place places h) i

-- ---- side by side

abbrev FlatAdds : Type 0
FlatAdds = ℕ → List ℕ → Passing → Expansion Passing → Expansion Passing

module _ (definitions : List Definition) (words : Vocabulary) (given : Option Param) (cells : List ℕ) (e : Walk)
    (below : All (λ cell. cell < length e.kinds) cells) where
  abbrev put : ℕ → ℕ
  put = cell_placed cells (length e.kinds)

  abbrev put_instance : Placed Passing → Placed (Option Param)
  put_instance = placed_at words given cells (length e.kinds)

  abbrev pass : Passing → Option Param
  pass = param_passed words given

  -- the flat list has so many cells at least, and it was put in place behind e
  record IsBeside (n : ℕ) (flat : Expansion Passing) (here : Walk) : Type 0 where
    fresh : List Kinded
    enough : n ≤ length flat.kinds
    flat_kinds : flat.kinds ≡ map (kind_at e.kinds) cells ++ fresh
    kinds : here.kinds ≡ e.kinds ++ fresh
    placed : here.placed ≡ e.placed ++ map put_instance flat.placed
    spare : here.spare ≡ e.spare

  beside_less : (n m : ℕ) (flat : Expansion Passing) (here : Walk) → n ≤ m → IsBeside m flat here → IsBeside n flat here
  beside_less n m flat here l h = record {
    fresh = h.fresh;
    enough = let enough = h.enough in omega (arith, l, enough);
    flat_kinds = h.flat_kinds;
    kinds = h.kinds;
    placed = h.placed;
    spare = h.spare;
  }

  -- the next cell of the flat list is the next one in its place
  module _ (n : ℕ) (flat : Expansion Passing) (here : Walk) (h : IsBeside n flat here) where
    flat_count : length flat.kinds ≡ length cells + length h.fresh
    flat_count =
        ap length h.flat_kinds ∙ length-append (map (kind_at e.kinds) cells) h.fresh
        ∙ ap (λ k. k + length h.fresh) (length-map cells (kind_at e.kinds))

    next_placed : put (length flat.kinds) ≡ length here.kinds
    next_placed =
        let count = flat_count in
        let here_count : length here.kinds ≡ length e.kinds + length h.fresh = ap length h.kinds
        ∙ length-append e.kinds h.fresh in
        fresh_placed cells (length e.kinds) (length flat.kinds) (omega (arith, count))
        ∙ omega (arith, count, here_count)

    fresh_beside : (kind kind' : Kinded) → kind' ≡ kind
        → IsBeside (length flat.kinds + 1) (with_fresh flat kind) (with_fresh here kind')
    fresh_beside kind kind' same = record {
      fresh = h.fresh ++ kind ∷ [];
      enough = omega (arith, length-append flat.kinds (kind ∷ []));
      flat_kinds = ap (λ ks. ks ++ kind ∷ []) h.flat_kinds
          ∙ append_assoc (map (kind_at e.kinds) cells) h.fresh (kind ∷ []);
      kinds = (λ i. h.kinds i ++ same i ∷ []) ∙ append_assoc e.kinds h.fresh (kind ∷ []);
      placed = h.placed;
      spare = h.spare;
    }

    instance_beside : (x : Placed Passing) (y : Placed (Option Param)) → y ≡ put_instance x
        → IsBeside n (record flat { placed = flat.placed ++ x ∷ [] }) (record here { placed = here.placed ++ y ∷ [] })
    instance_beside x y same = record {
      fresh = h.fresh;
      enough = h.enough;
      flat_kinds = h.flat_kinds;
      kinds = h.kinds;
      placed = (λ i. h.placed i ++ same i ∷ [])
          ∙ append_assoc e.placed (map put_instance flat.placed) (put_instance x ∷ [])
          ∙ ap (λ xs. e.placed ++ xs) (sym (map-append put_instance flat.placed (x ∷ [])));
      spare = h.spare;
    }

    like_placed : (cell : ℕ) → cell < length flat.kinds → kind_at here.kinds (put cell) ≡ kind_at flat.kinds cell
    like_placed cell l =
        let count = flat_count in
        ap (λ ks. kind_at ks (put cell)) h.kinds
        ∙ kind_placed e.kinds h.fresh cells cell below (omega (arith, l, count))
        ∙ ap (λ ks. kind_at ks cell) (sym h.flat_kinds)

  -- uses of definitions below b go side by side
  abbrev Follows : FlatAdds → Adds → ℕ → Type 0
  Follows f g b = (m : ℕ) → m < b → (chosen : List ℕ)
      → option_map_or (λ (d : Definition). d.params) (slice_get definitions m) 0 ≡ length chosen
      → (own : Passing) (n : ℕ) (flat : Expansion Passing) (here : Walk) →
      All (λ cell. cell < n) chosen → IsBeside n flat here
      → IsBeside n (f m chosen own flat) (g m (map put chosen) (pass own) here)

  use_follows : (f : FlatAdds) (g : Adds) (b : ℕ) → Follows f g b → (used : Used) (places : List ℕ) (passing : Passing)
      → IsUseBelow definitions b (Use used places passing) → (chosen : List ℕ) → length chosen ≡ length places →
      (own : Passing) (n : ℕ) (flat : Expansion Passing) (here : Walk) → All (λ cell. cell < n) chosen
      → IsBeside n flat here → IsBeside n (use_expanded f used chosen own flat)
      (use_expanded g used (map put chosen) (pass own) here)
  use_follows f g b follows (uses.Procedure k) places passing early chosen same own n flat here within h =
      instance_beside n flat here h (record { procedure = k; given = own; cells = chosen })
      (record { procedure = k; given = pass own; cells = map put chosen }) refl
  use_follows f g b follows (uses.Definition m) places passing early chosen same own n flat here within h =
      follows m early.0 chosen (early.1 ∙ sym same) own n flat here within h

  one_more_within : (n m : ℕ) (flat_cells : List ℕ) → n ≤ m → All (λ cell. cell < n) flat_cells
      → All (λ cell. cell < m + 1) (flat_cells ++ m ∷ [])
  one_more_within n m flat_cells l within =
      All-push (λ cell. cell < m + 1) flat_cells m
      (All-weaker (λ cell. cell < n) (λ cell. cell < m + 1) (λ cell c. omega (arith, c, l)) flat_cells within)
      (omega arith)

  one_more_put : (flat_cells : List ℕ) (m m' : ℕ) → put m ≡ m'
      → map put (flat_cells ++ m ∷ []) ≡ map put flat_cells ++ m' ∷ []
  one_more_put flat_cells m m' same = map-append put flat_cells (m ∷ [])
      ∙ ap (λ cell. map put flat_cells ++ cell ∷ []) same

  steps_follow : (f : FlatAdds) (g : Adds) (b : ℕ) → Follows f g b → (steps : List NumberedStep)
      → All (IsUseBelow definitions b) steps → (chosen : List ℕ) → AreInScope (length chosen) steps →
      (own : Passing) (n : ℕ) (flat : Expansion Passing) (here : Walk) → All (λ cell. cell < n) chosen
      → IsBeside n flat here →
      IsBeside n (steps_expanded passed f own chosen steps flat)
      (steps_expanded (param_passed words) g (pass own) (map put chosen) steps here)
  steps_follow f g b follows [] early chosen scope own n flat here within h = h
  steps_follow f g b follows (Local kind ∷ steps) early chosen scope own n flat here within h =
      let next = length flat.kinds in
      let enough = h.enough in
      let more = steps_follow f g b follows steps (All-tail (IsUseBelow definitions b) (Local kind) steps early)
      (chosen ++ next ∷ []) (rw (length-append chosen (next ∷ [])) scope.1) own (next + 1) (with_fresh flat kind)
      (with_fresh here kind)
      (one_more_within n next chosen enough within) (fresh_beside n flat here h kind kind refl) in
      beside_less n (next + 1) _ _ (omega (arith, enough))
      (subst (λ cs. IsBeside (next + 1) (steps_expanded passed f own (chosen ++ next ∷ []) steps (with_fresh flat kind))
      (steps_expanded (param_passed words) g (pass own) cs steps (with_fresh here kind)))
      (one_more_put chosen next (length here.kinds) (next_placed n flat here h)) more)
  steps_follow f g b follows (Like place ∷ steps) early chosen scope own n flat here within h =
      let next = length flat.kinds in
      let enough = h.enough in
      let there : place < length chosen = scope.0 in
      let inside : cell_at chosen place < n = within place 0 there in
      let kind = kind_at flat.kinds (cell_at chosen place) in
      let kind' = kind_at here.kinds (cell_at (map put chosen) place) in
      let same : kind' ≡ kind = ap (kind_at here.kinds) (get_or-map put chosen place 0 0 there)
      ∙ like_placed n flat here h (cell_at chosen place) (omega (arith, inside, enough)) in
      let more = steps_follow f g b follows steps (All-tail (IsUseBelow definitions b) (Like place) steps early)
      (chosen ++ next ∷ []) (rw (length-append chosen (next ∷ [])) scope.1) own (next + 1) (with_fresh flat kind)
      (with_fresh here kind')
      (one_more_within n next chosen enough within) (fresh_beside n flat here h kind kind' same) in
      beside_less n (next + 1) _ _ (omega (arith, enough))
      (subst (λ cs. IsBeside (next + 1) (steps_expanded passed f own (chosen ++ next ∷ []) steps (with_fresh flat kind))
      (steps_expanded (param_passed words) g (pass own) cs steps (with_fresh here kind')))
      (one_more_put chosen next (length here.kinds) (next_placed n flat here h)) more)
  steps_follow f g b follows (Use used places passing ∷ steps) early chosen scope own n flat here within h =
      let step = Use used places passing in
      let inner = cells_at chosen places in
      let behind = use_follows f g b follows used places passing (All-head (IsUseBelow definitions b) step steps early)
      inner (length-map places (cell_at chosen)) (passed own passing) n flat here
      (chosen_within n chosen places within scope.0) h in
      let more = steps_follow f g b follows steps (All-tail (IsUseBelow definitions b) step steps early) chosen
      (rw add-zero at (scope.1)) own n (use_expanded f used inner (passed own passing) flat)
      (use_expanded g used (map put inner) (pass (passed own passing)) here) within behind in
      subst (λ e'. IsBeside n (steps_expanded passed f own chosen steps
      (use_expanded f used inner (passed own passing) flat))
      (steps_expanded (param_passed words) g (pass own) (map put chosen) steps e'))
      (λ i. use_expanded g used (sym (chosen_placed put chosen places scope.0) i)
      (passed_twice words given own passing i) here) more

  definitions_follow : (latest : List Definition) → AreWellMade definitions latest
      → Follows (definition_expanded passed latest) (definition_expanded (param_passed words) latest) (length latest)
  definitions_follow [] made m l chosen count own n flat here within h = h
  definitions_follow (d ∷ earlier) made m l chosen count own n flat here within h =
      let later = definitions_follow earlier (well_made_tail definitions d earlier made) in
      elim (cases_eq m (length earlier)) [
        | inl same ↦
            (let is_it = eq-eqb m (length earlier) same in
            let it = made m d l in
            let params : d.params ≡ length chosen = sym (rw is_it at it.params) ∙ count in
            let early : All (IsUseBelow definitions (length earlier)) d.steps = rw same at (rw is_it at it.below) in
            rw is_it (steps_follow (definition_expanded passed earlier)
            (definition_expanded (param_passed words) earlier) (length earlier) later d.steps early chosen
            (rw params at (rw is_it at it.scope)) own n flat here within h))
        | inr other ↦
            rw (ne_eqb m (length earlier) other)
            (later m (omega (arith, l, other)) chosen count own n flat here within h)
      ]

  -- so what was put in place is all that was added
  beside_is : (n : ℕ) (flat : Expansion Passing) (here : Walk) → IsBeside n flat here
      → here ≡ put_in_place words given cells flat e
  beside_is n flat here h =
      let kinds = map (kind_at e.kinds) cells in
      let fresh : h.fresh ≡ drop (length cells) flat.kinds =
      sym (ap (drop (length cells)) h.flat_kinds
      ∙ ap (λ k. drop k (kinds ++ h.fresh)) (sym (length-map cells (kind_at e.kinds)))
      ∙ drop-append_seam kinds h.fresh) in
      λ i. record {
        kinds = (h.kinds ∙ ap (λ ks. e.kinds ++ ks) fresh) i;
        placed = h.placed i;
        spare = h.spare i;
      }

-- ---- a whole use

module _ (ks : List KeptDefinition) (kept : AreKept ks) (words : Vocabulary) (cells : List ℕ) (given : Option Param)
    (e : Walk) (below : All (λ cell. cell < length e.kinds) cells) where
  abbrev over : Expansion Passing
  over = start (map (kind_at e.kinds) cells) false

  begins_beside : IsBeside (all_bare ks) words given cells e below (length cells) over e
  begins_beside = record {
    fresh = [];
    enough = omega (arith, length-map cells (kind_at e.kinds));
    flat_kinds = sym (append-nil (map (kind_at e.kinds) cells));
    kinds = sym (append-nil e.kinds);
    placed = sym (append-nil e.placed);
    spare = refl;
  }

  all_beside : (used : Used) → IsUseThere (all_bare ks) used (length cells) →
      IsBeside (all_bare ks) words given cells e below (length cells)
      (expanded_in passed (all_bare ks) used (range_with_len 0 (length cells)) Own over)
      (expanded_in (param_passed words) (all_bare ks) used cells given e)
  all_beside (uses.Procedure k) there =
      instance_beside (all_bare ks) words given cells e below (length cells) over e begins_beside
      (record { procedure = k; given = Own; cells = range_with_len 0 (length cells) })
      (record { procedure = k; given = given; cells = cells })
      (λ i. record { procedure = k; given = given; cells = sym (all_placed cells (length e.kinds)) i })
  all_beside (uses.Definition m) there =
      let ds = all_bare ks in
      let early : m < length (reverse ds) = omega (arith, there.0, length-reverse ds) in
      subst (λ cs. IsBeside ds words given cells e below (length cells)
      (definition_expanded passed (reverse ds) m (range_with_len 0 (length cells)) Own over)
      (definition_expanded (param_passed words) (reverse ds) m cs given e))
      (all_placed cells (length e.kinds))
      (definitions_follow ds words given cells e below (reverse ds) (well_made ks kept) m early
      (range_with_len 0 (length cells)) (there.1 ∙ sym (length-range_with_len 0 (length cells))) Own (length cells)
      over e (range_within (length cells)) begins_beside)

pub uses_in_place : (ks : List KeptDefinition) → AreKept ks → UsesArePutInPlace (all_bare ks)
uses_in_place ks kept words used cells given e there below =
    let ds = all_bare ks in
    let kinds = map (kind_at e.kinds) cells in
    let flat = expanded_in passed ds used (range_with_len 0 (length cells)) Own (start kinds false) in
    beside_is ds words given cells e below (length cells) flat (expanded_in (param_passed words) ds used cells given e)
    (all_beside ks kept words cells given e below used there)
    ∙ ap (λ n. put_in_place words given cells (expanded_in passed ds used (range_with_len 0 n) Own (start kinds false))
    e) (sym (length-map cells (kind_at e.kinds)))
