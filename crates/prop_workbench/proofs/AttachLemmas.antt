-- Putting procedures and definitions between cells: what is refused and made is what the machine says.
use Rattle.std.proofs.Common.{◌≡◌, ◌∙◌, ℕ, ◌<◌, ◌≤◌, ◌+◌, ◌-◌, ◌^◌, Bool, true, false, not, List, [], ◌∷◌, ◌++◌, Option}
use Rattle.std.proofs.Common.{Some, None, All, map, drop, length, get_or, take, zip, is_none, unwrap_or, slice_get}
use Rattle.std.proofs.Common.{Result}
use Rattle.std.proofs.Common.{Ok, Err, OnOk, OnErr, IfErr, ◌||◌, cond, ◌⊎◌, inl, inr, refl, sym, ap, subst, arith}
use Rattle.std.specs.Prelude.{⊤, nat_lt}
use Rattle.std.specs.List.{list_any}
use Rattle.std.specs.Option.{option_map_or, option_and_then, option_or}
use Rattle.std.proofs.lemmas.Bool.{cases_lt, lt-ltb, le-ltb, ltb-false}
use Rattle.std.proofs.lemmas.List.{length-append, length-map, length-drop}
use Rattle.std.proofs.Math.Seq.{drop-append_seam}
use Rattle.std.proofs.lemmas.List.Elements.{All-append, All-cons, All-head, All-tail, All-map, All-weaker}
use Rattle.prop_refusals.specs.Refusals.{most, first_of, when}
use Rattle.prop_refusals.specs.declared.refusal.Limit.TheVariants.{Cells, Instances}
use Rattle.prop_refusals.specs.declared.refusal.Refusal.{Refusal}
use Rattle.prop_refusals.specs.declared.refusal.Refusal.TheVariants.{NoSuchRelation, NoSuchCell, NoSuchProcedure}
use Rattle.prop_refusals.specs.declared.refusal.Refusal.TheVariants.{WrongCount, WrongKind, WrongParameter, Memory}
use Rattle.prop_refusals.specs.declared.refusal.Refusal.TheVariants.{LimitReached}
use Rattle.prop_procedures.specs.declared.shape.Kinded.{Kinded}
use Rattle.prop_procedures.specs.declared.shape.Param.{Param}
use Rattle.prop_procedures.specs.declared.shape.Param.TheVariants.{Plain}
use Rattle.prop_procedures.specs.Stored.{Stored, span_kind, are_right}
use Rattle.prop_procedures.specs.Rules.{sides_of}
use Rattle.prop_premises.specs.Origins.{Origin}
use Rattle.prop_cells.specs.Data.{Data}
use Rattle.prop_procedures.specs.Fitting.{kind_at, kinds_fit}
use Rattle.prop_procedures.specs.Rules.{fitting_param}
use Rattle.prop_language.specs.Commands as commands
use Rattle.prop_language.specs.Commands.{By}
use Rattle.prop_compound.specs.Definitions.{Definitions, used_named, is_miscounted}
use Rattle.prop_compound.specs.Expansion.{Expansion, expanded}
use Rattle.prop_compound.specs.Expanding.{expand_refusal, size_refusal, fit_refusal, is_kind_wrong, is_param_wrong}
use Rattle.prop_compound.specs.Expanding.{are_params_wrong}
use Rattle.prop_compound.specs.Flattened.{placed_of, expansion_of_flat, IsFlatOver, IsInstanceOver}
use Rattle.prop_compound.proofs.InPlace.{kind_placed}
use Rattle.prop_procedures.specs.declared.flat.Placed as flats
use Rattle.prop_procedures.specs.declared.flat.Flat.{Flat}
use Rattle.prop_procedures.specs.Flats.{cells_of, param_at, cell_placed}
use Rattle.prop_engine.specs.Answers.{Done, Refused, answer_done}
use Rattle.prop_vocabulary.specs.Cells.{CellNames, cells_named, is_cell_missing}
use Rattle.prop_vocabulary.specs.Vocabulary.{Vocabulary}
use Rattle.prop_scheduler.specs.Making.{room_refusal, made_of, with_flat, MayBeMade, MayMake}
use Rattle.prop_workbench.specs.Effects.{instance_placed}
use Rattle.prop_workbench.specs.inner.Effects.{with_use}
use Rattle.prop_workbench.specs.Machine.{State}
use Rattle.prop_compound.specs.Compounds.{given_by}
use Rattle.prop_workbench.specs.Refusing.{refusal_of, passed}
use Rattle.prop_workbench.specs.inner.Refusing.{is_unknown}
use Rattle.prop_workbench.specs.inner.Refusing.{use_reasons, use_refusal}
use Rattle.prop_workbench.specs.Effects.{used}
use Rattle.prop_workbench.specs.Sessions.{state_from, AreNumbered, HasRoom}
use Rattle.prop_workbench.proofs.NamesLemmas.{use_refusal_is}
use Rattle.prop_compound.specs.Numbered.{compounds_of}
use Rattle.prop_compound.specs.Kinds.{IsSized, AreLocalsOf}
use Rattle.prop_workbench.specs.inner.Steps.{Obeys}
use Rattle.prop_workbench.proofs.UseLemmas.{kind_of_place, kinds_of_use}
use Rattle.prop_workbench.proofs.StepLemmas.{obeys, refuses_or_lacks, first_of-one}
use Rattle.prop_workbench.proofs.LimitLemmas.{more_used}

-- ---- the rows of refusals

both_none : (a b : Option Refusal) → first_of (a ∷ b ∷ []) ≡ None → (a ≡ None) × (b ≡ None)
both_none (Some x) b e = cc
both_none None (Some y) e = cc
both_none None None e = (refl, refl)

holds_not : (refusal : Refusal) (b : Bool) → when refusal b ≡ None → b ≡ false
holds_not refusal true e = cc
holds_not refusal false e = refl

small_if : (refusal : Refusal) (k n : ℕ) → when refusal (nat_lt k n) ≡ None → n ≤ k
small_if refusal k n e = ltb-false k n (holds_not refusal (nat_lt k n) e)

none_of : (a b : Option Refusal) → option_or a b ≡ None → (a ≡ None) × (b ≡ None)
none_of (Some x) b e = cc
none_of None b e = (refl, e)

-- the first of some, and then of others
first_behind : (rs others : List (Option Refusal)) → first_of (rs ++ others) ≡ first_of (rs ++ first_of others ∷ [])
first_behind [] others = sym (first_of-one (first_of others))
first_behind (None ∷ rs) others = first_behind rs others
first_behind (Some refusal ∷ rs) others = refl

-- what passes a limit is that for which there is no room
used_passes : (library : List Stored) (s : State) (name : List ℕ) (cells : List ℕ) (by : By)
    → length s.kinds ≤ most Cells → length s.instances ≤ most Instances →
    first_of (passed s (with_use library s cells (used library s name cells by))) ≡ room_refusal
    (length s.kinds + (length (used library s name cells by).kinds - length cells))
    (length s.instances + length (used library s name cells by).placed)
used_passes library s name cells by few_cells few_instances =
    let e = used library s name cells by in
    let fresh = drop (length cells) e.kinds in
    let made = map (instance_placed library cells (length s.kinds)) e.placed in
    let all_kinds : length (s.kinds ++ fresh) ≡ length s.kinds + (length e.kinds - length cells) =
    length-append s.kinds fresh ∙ ap (λ n. length s.kinds + n) (length-drop (length cells) e.kinds) in
    let all_made : length (s.instances ++ made) ≡ length s.instances + length e.placed =
    length-append s.instances made
    ∙ ap (λ n. length s.instances + n) (length-map e.placed (instance_placed library cells (length s.kinds))) in
    more_used s (s.kinds ++ fresh) (s.instances ++ made) (length e.kinds - length cells) (length e.placed) few_cells
    few_instances all_kinds all_made

attach_rows : (library : List Stored) (s : State) (name : List ℕ) (cells : List (List ℕ)) (by : By) (numbers : List ℕ)
    → is_unknown s.words by ≡ false → is_cell_missing s.names cells ≡ false → numbers ≡ cells_named s.names cells →
    (length s.kinds ≤ most Cells) × (length s.instances ≤ most Instances)
    → refusal_of library s (commands.Command.Attach name cells by) ≡ use_refusal library s name numbers by
attach_rows library s name cells by numbers relation missing same room =
    (λ i. first_of (when NoSuchRelation (relation i) ∷ when NoSuchCell (missing i)
    ∷ use_reasons library s name (sym same i) by
    ++ passed s (with_use library s (sym same i) (used library s name (sym same i) by))))
    ∙ first_behind (use_reasons library s name numbers by)
    (passed s (with_use library s numbers (used library s name numbers by)))
    ∙ (λ i. first_of (use_reasons library s name numbers by
    ++ used_passes library s name numbers by room.0 room.1 i ∷ []))

-- there is room for what is made, where it is not refused
pub room_made : (library : List Stored) (d new : Data) (cells : List ℕ) (flat : Flat) (r : Result ⊤ Refusal)
    → OnOk r (room_refusal (length d.kinds + length flat.fresh.items) (length d.instances
    + length flat.instances.items) ≡ None) → OnOk r (new ≡ with_flat library d cells flat) → OnErr r (new ≡ d)
    → HasRoom d → HasRoom new
room_made library d new cells flat (Err refusal) fits ok err room = subst HasRoom (sym err) room
room_made library d new cells flat (Ok t) fits ok err room =
    let apart = none_of (when (LimitReached Cells) (nat_lt (most Cells) (length d.kinds + length flat.fresh.items)))
    (when (LimitReached Instances) (nat_lt (most Instances) (length d.instances + length flat.instances.items))) fits in
    let kinds = small_if (LimitReached Cells) (most Cells) (length d.kinds + length flat.fresh.items) apart.0 in
    let instances = small_if (LimitReached Instances) (most Instances)
    (length d.instances + length flat.instances.items) apart.1 in
    let made = map (made_of library flat.params.items cells (length d.kinds)) flat.instances.items in
    let all_kinds = length-append d.kinds flat.fresh.items in
    let all_made = length-append d.instances made in
    let of_made = length-map flat.instances.items (made_of library flat.params.items cells (length d.kinds)) in
    subst HasRoom (sym ok) (omega (arith, kinds, all_kinds), omega (arith, instances, all_made, of_made))

attached_step : (library : List Stored) (s new : State) (name : List ℕ) (cells : List (List ℕ)) (by : By)
    (numbers : List ℕ) → is_unknown s.words by ≡ false → is_cell_missing s.names cells ≡ false
    → numbers ≡ cells_named s.names cells → (length s.kinds ≤ most Cells) × (length s.instances ≤ most Instances) →
    use_refusal library s name numbers by ≡ None → new ≡ with_use library s numbers (used library s name numbers by)
    → Obeys library s (commands.Command.Attach name cells by) Done new 0
attached_step library s new name cells by numbers relation missing same room fits e =
    obeys library s new (commands.Command.Attach name cells by) Done 0
    (attach_rows library s name cells by numbers relation missing same room ∙ fits)
    (record {
      answer_is = refl;
      new_is = e
          ∙ ap (λ (l : List ℕ). with_use library s l (used library s name l by)) same;
      no_steps = refl;
    })

unattached_step : (library : List Stored) (s new : State) (name : List ℕ) (cells : List (List ℕ)) (by : By)
    (numbers : List ℕ) (refusal : Refusal) → is_unknown s.words by ≡ false → is_cell_missing s.names cells ≡ false
    → numbers ≡ cells_named s.names cells → (length s.kinds ≤ most Cells) × (length s.instances ≤ most Instances) →
    (use_refusal library s name numbers by ≡ Some refusal) ⊎ (refusal ≡ Memory) → new ≡ s
    → Obeys library s (commands.Command.Attach name cells by) (Refused refusal) new 0
unattached_step library s new name cells by numbers refusal relation missing same room (inl e) back =
    refuses_or_lacks library s new (commands.Command.Attach name cells by) refusal
    (inl (attach_rows library s name cells by numbers relation missing same room ∙ e)) back
unattached_step library s new name cells by numbers refusal relation missing same room (inr m) back =
    refuses_or_lacks library s new (commands.Command.Attach name cells by) refusal (inr m) back

pub attached_or_not : (library : List Stored) (s new : State) (name : List ℕ) (cells : List (List ℕ)) (by : By)
    (numbers : List ℕ) → is_unknown s.words by ≡ false → is_cell_missing s.names cells ≡ false
    → numbers ≡ cells_named s.names cells → (length s.kinds ≤ most Cells) × (length s.instances ≤ most Instances) →
    (r : Result ⊤ Refusal) → OnOk r (use_refusal library s name numbers by ≡ None)
    → OnOk r (new ≡ with_use library s numbers (used library s name numbers by))
    → IfErr r (λ e. (use_refusal library s name numbers by ≡ Some e) ⊎ (e ≡ Memory)) → OnErr r (new ≡ s) →
    Obeys library s (commands.Command.Attach name cells by) (answer_done r) new 0
attached_or_not library s new name cells by numbers relation missing same room (Ok t) fits made why back =
    attached_step library s new name cells by numbers relation missing same room fits made
attached_or_not library s new name cells by numbers relation missing same room (Err refusal) fits made why back =
    unattached_step library s new name cells by numbers refusal relation missing same room why back

pub no_relation_step : (library : List Stored) (s : State) (name : List ℕ) (cells : List (List ℕ)) (by : By)
    → is_unknown s.words by ≡ true → refusal_of library s (commands.Command.Attach name cells by) ≡ Some NoSuchRelation
no_relation_step library s name cells by e = rw e refl

pub no_cell_step : (library : List Stored) (s : State) (name : List ℕ) (cells : List (List ℕ)) (by : By)
    → is_unknown s.words by ≡ false → is_cell_missing s.names cells ≡ true
    → refusal_of library s (commands.Command.Attach name cells by) ≡ Some NoSuchCell
no_cell_step library s name cells by e f = rw (e, f) refl

-- a name is no cell's, or there was no memory for the numbers
pub no_cells : (library : List Stored) (s : State) (name : List ℕ) (cells : List (List ℕ)) (by : By) (refusal : Refusal)
    → is_unknown s.words by ≡ false
    → (refusal ≡ Memory) ⊎ ((refusal ≡ NoSuchCell) × (is_cell_missing s.names cells ≡ true)) →
    (refusal_of library s (commands.Command.Attach name cells by) ≡ Some refusal) ⊎ (refusal ≡ Memory)
no_cells library s name cells by refusal e (inl m) = inr m
no_cells library s name cells by refusal e (inr (r, f)) =
    inl (no_cell_step library s name cells by e f ∙ sym (ap Some r))

-- ---- what a use stands for, as it is handed out

behind_push : (f : ℕ → ℕ) (ins : List ℕ) (out : ℕ) → length (map f (ins ++ out ∷ [])) - 1 ≡ length ins
behind_push f ins out =
    let placed = length-map (ins ++ out ∷ []) f in
    let all = length-append ins (out ∷ []) in
    omega (arith, placed, all)

inputs-push : (f : ℕ → ℕ) (ins : List ℕ) (out : ℕ)
    → take (length (map f (ins ++ out ∷ [])) - 1) (map f (ins ++ out ∷ [])) ≡ map f ins
inputs-push f ins out = ap (λ n. take n (map f (ins ++ out ∷ []))) (behind_push f ins out) ∙ by ins
  where
    by : (ins : List ℕ) → take (length ins) (map f (ins ++ out ∷ [])) ≡ map f ins
    by [] = refl
    by (a ∷ ins) = ap (λ l. f a ∷ l) (by ins)

output-push : (f : ℕ → ℕ) (ins : List ℕ) (out : ℕ)
    → get_or (map f (ins ++ out ∷ [])) (length (map f (ins ++ out ∷ [])) - 1) 0 ≡ f out
output-push f ins out = ap (λ n. get_or (map f (ins ++ out ∷ [])) n 0) (behind_push f ins out) ∙ by ins
  where
    by : (ins : List ℕ) → get_or (map f (ins ++ out ∷ [])) (length ins) 0 ≡ f out
    by [] = refl
    by (a ∷ ins) = by ins

-- the instance that is made is the one that stands at its places
is_placed : (library : List Stored) (params : List Param) (cells : List ℕ) (next : ℕ) (x : flats.Placed)
    → made_of library params cells next x ≡ instance_placed library cells next (placed_of params x)
is_placed library params cells next x =
    let at = map (cell_placed cells next) (cells_of x) in
    let inputs : map (cell_placed cells next) x.inputs.items ≡ take (length at - 1) at =
    sym (inputs-push (cell_placed cells next) x.inputs.items x.output) in
    let output : cell_placed cells next x.output ≡ get_or at (length at - 1) 0 =
    sym (output-push (cell_placed cells next) x.inputs.items x.output) in
    λ i. record {
      procedure = x.procedure;
      param = unwrap_or (option_and_then (λ p. fitting_param p.need (param_at params x.param))
          (slice_get library x.procedure)) Plain;
      inputs = inputs i;
      output = output i;
    }

module _ (library : List Stored) (names : CellNames) (words : Vocabulary) (definitions : Definitions)
    (premises : List Origin) (d : Data) (limit : ℕ) (name : List ℕ) (cells : List ℕ) (by : By) (flat : Flat)
    (is : expansion_of_flat (map (kind_at d.kinds) cells) flat ≡ used library
    (state_from names words definitions premises d limit) name cells by) where
  fresh_count : length (map (kind_at d.kinds) cells ++ flat.fresh.items) - length cells ≡ length flat.fresh.items
  fresh_count =
      let all = length-append (map (kind_at d.kinds) cells) flat.fresh.items in
      let given = length-map cells (kind_at d.kinds) in
      omega (arith, all, given)

  -- the rows of its refusals
  pub use_rows : AreNumbered words definitions
      → use_refusal library (state_from names words definitions premises d limit) name cells by
      ≡ first_of (expand_refusal library words definitions name (map (kind_at d.kinds) cells) (given_by words by)
      ∷ room_refusal (length d.kinds + length flat.fresh.items) (length d.instances + length flat.instances.items) ∷ [])
  use_rows numbered =
      let expand = expand_refusal library words definitions name (map (kind_at d.kinds) cells) (given_by words by) in
      let fresh : length (used library (state_from names words definitions premises d limit) name cells by).kinds -
      length cells ≡ length flat.fresh.items =
      ap (λ (e : Expansion (Option Param)). length e.kinds - length cells) (sym is) ∙ fresh_count in
      let count : length (used library (state_from names words definitions premises d limit) name cells by).placed
      ≡ length flat.instances.items = ap (λ (e : Expansion (Option Param)). length e.placed) (sym is)
      ∙ length-map flat.instances.items (placed_of flat.params.items) in
      use_refusal_is library names words definitions premises d limit name cells by numbered
      ∙ (λ i. first_of (expand ∷ room_refusal (length d.kinds + fresh i) (length d.instances + count i) ∷ []))

  kinds_used : (used library (state_from names words definitions premises d limit) name cells by).kinds ≡ map
      (kind_at d.kinds) cells ++ flat.fresh.items
  kinds_used = ap (λ (e : Expansion (Option Param)). e.kinds) (sym is)

  placed_used : (used library (state_from names words definitions premises d limit) name cells by).placed ≡ map
      (placed_of flat.params.items) flat.instances.items
  placed_used = ap (λ (e : Expansion (Option Param)). e.placed) (sym is)

  -- what is made is what the use stands for
  pub state_made : (new : Data) → new ≡ with_flat library d cells flat →
      state_from names words definitions premises new limit ≡ with_use library
      (state_from names words definitions premises d limit) cells
      (used library (state_from names words definitions premises d limit) name cells by)
  state_made new e =
      let seam : drop (length cells) (map (kind_at d.kinds) cells ++ flat.fresh.items) ≡ flat.fresh.items =
      ap (λ n. drop n (map (kind_at d.kinds) cells ++ flat.fresh.items)) (sym (length-map cells (kind_at d.kinds)))
      ∙ drop-append_seam (map (kind_at d.kinds) cells) flat.fresh.items in
      let kinds : new.kinds ≡ d.kinds ++ drop (length cells)
      (used library (state_from names words definitions premises d limit) name cells by).kinds =
      ap (λ (x : Data). x.kinds) e ∙ ap (λ l. d.kinds ++ l) (sym seam ∙ ap (drop (length cells)) (sym kinds_used)) in
      let instances : new.instances ≡ d.instances ++ map (instance_placed library cells (length d.kinds))
      (used library (state_from names words definitions premises d limit) name cells by).placed =
      ap (λ (x : Data). x.instances) e ∙ ap (λ l. d.instances ++ l)
      (map_twice flat.instances.items ∙ ap (map (instance_placed library cells (length d.kinds))) (sym placed_used))
      in
      let statements : new.statements ≡ d.statements = ap (λ (x : Data). x.statements) e in
      λ i. record {
        names = names;
        words = words;
        definitions = compounds_of words.relations definitions;
        kinds = kinds i;
        premises = premises;
        statements = statements i;
        instances = instances i;
        limit = limit;
        named = [];
      }
    where
      map_twice : (xs : List flats.Placed)
          → map (made_of library flat.params.items cells (length d.kinds)) xs ≡ map
          (instance_placed library cells (length d.kinds)) (map (placed_of flat.params.items) xs)
      map_twice [] = refl
      map_twice (x ∷ xs) = λ i. is_placed library flat.params.items cells (length d.kinds) x i ∷ map_twice xs i

-- ---- the places of a use

-- there is a cell at each place
pub there_placed : (kinds fresh : List Kinded) (cells : List ℕ) (place : ℕ) → All (λ c. c < length kinds) cells
    → place < length cells + length fresh → cell_placed cells (length kinds) place < length (kinds ++ fresh)
there_placed kinds fresh cells place below l = by (cases_lt place (length cells))
  where
    n : length (kinds ++ fresh) ≡ length kinds + length fresh
    n = length-append kinds fresh

    by : (place < length cells) ⊎ (length cells ≤ place)
        → cell_placed cells (length kinds) place < length (kinds ++ fresh)
    by (inl h) =
        let given : cell_placed cells (length kinds) place ≡ get_or cells place 0 =
        ap (λ (b : Bool). cond b (get_or cells place 0) (length kinds + (place - length cells)))
        (lt-ltb place (length cells) h) in
        let b = below place 0 h in omega (arith, n, given, b)
    by (inr h) =
        let behind : cell_placed cells (length kinds) place ≡ length kinds + (place - length cells) =
        ap (λ (b : Bool). cond b (get_or cells place 0) (length kinds + (place - length cells)))
        (le-ltb place (length cells) h) in
        omega (arith, n, behind, h, l)

kinds_placed : (kinds fresh : List Kinded) (cells places : List ℕ) → All (λ c. c < length kinds) cells
    → All (λ place. place < length cells + length fresh) places →
    map (kind_at (kinds ++ fresh)) (map (cell_placed cells (length kinds)) places) ≡ map
    (kind_at (map (kind_at kinds) cells ++ fresh)) places
kinds_placed kinds fresh cells [] below l = refl
kinds_placed kinds fresh cells (place ∷ places) below l = λ i.
    kind_placed kinds fresh cells place below (All-head (λ p. p < length cells + length fresh) place places l) i
    ∷ kinds_placed kinds fresh cells places below (All-tail (λ p. p < length cells + length fresh) place places l) i

-- ---- that all of it may be made

or_false : (a b : Bool) → (a || b) ≡ false → (a ≡ false) × (b ≡ false)
or_false true b h = cc
or_false false b h = (refl, h)

not_false : (b : Bool) → not b ≡ false → b ≡ true
not_false true e = refl
not_false false e = cc

module _ (library : List Stored) (d : Data) (cells : List ℕ) (flat : Flat) (below : All (λ c. c < length d.kinds) cells)
    (few : length d.kinds + length flat.fresh.items ≤ most Cells) where
  one_may : (x : flats.Placed) → IsInstanceOver library (length cells + length flat.fresh.items) x →
      is_kind_wrong library (map (kind_at d.kinds) cells ++ flat.fresh.items) (placed_of flat.params.items x) ≡ false
      → is_param_wrong library (placed_of flat.params.items x) ≡ false →
      MayBeMade library (d.kinds ++ flat.fresh.items) flat.params.items cells (length d.kinds) x
  one_may x over placed given =
      let p = over.procedure in
      let sides = option_and_then sides_of (param_at flat.params.items x.param) in
      let e_kinds = map (kind_at d.kinds) cells ++ flat.fresh.items in
      let right : kinds_fit p e_kinds sides (cells_of x) ≡ true =
      not_false (kinds_fit p e_kinds sides (cells_of x))
      (sym (ap (λ (o : Option Stored). option_map_or (λ q. not (kinds_fit q e_kinds sides (cells_of x))) o false)
      over.at) ∙ placed) in
      record {
        procedure = p;
        at = over.at;
        count = over.count;
        small = All-weaker (λ place. place < length cells + length flat.fresh.items)
            (λ place. length d.kinds + (place - length cells) < 2 ^ 64) (λ place l. omega (arith, few, l)) (cells_of x)
            over.cells;
        below = All-map (λ c. c < length (d.kinds ++ flat.fresh.items)) (cell_placed cells (length d.kinds))
            (cells_of x)
            (All-weaker (λ place. place < length cells + length flat.fresh.items)
            (λ place. cell_placed cells (length d.kinds) place < length (d.kinds ++ flat.fresh.items))
            (λ place l. there_placed d.kinds flat.fresh.items cells place below l) (cells_of x) over.cells);
        right = ap (λ (l : List Kinded). are_right p.need sides (zip (p.ins ++ p.out ∷ []) l))
            (kinds_placed d.kinds flat.fresh.items cells (cells_of x) below over.cells) ∙ right;
        takes = sym (ap (λ (o : Option Stored).
            option_map_or (λ q. is_none (fitting_param q.need (param_at flat.params.items x.param))) o false) over.at)
            ∙ given;
      }

  each_may : (xs : List flats.Placed) → All (IsInstanceOver library (length cells + length flat.fresh.items)) xs →
      list_any (is_kind_wrong library (map (kind_at d.kinds) cells ++ flat.fresh.items))
      (map (placed_of flat.params.items) xs) ≡ false
      → list_any (is_param_wrong library) (map (placed_of flat.params.items) xs) ≡ false →
      All (MayBeMade library (d.kinds ++ flat.fresh.items) flat.params.items cells (length d.kinds)) xs
  each_may [] over placed given = λ k d l. absurd (omega (arith, l))
  each_may (x ∷ xs) over placed given =
      let misplaced = or_false (is_kind_wrong library (map (kind_at d.kinds) cells ++ flat.fresh.items)
      (placed_of flat.params.items x)) _ placed in
      let misgiven = or_false (is_param_wrong library (placed_of flat.params.items x)) _ given in
      All-cons (MayBeMade library (d.kinds ++ flat.fresh.items) flat.params.items cells (length d.kinds)) x xs
      (one_may x (All-head (IsInstanceOver library (length cells + length flat.fresh.items)) x xs over) misplaced.0
      misgiven.0)
      (each_may xs (All-tail (IsInstanceOver library (length cells + length flat.fresh.items)) x xs over) misplaced.1
      misgiven.1)

-- the fit of what is not refused
fit_of : (a b c f : Option Refusal) → first_of (a ∷ b ∷ c ∷ f ∷ []) ≡ None → f ≡ None
fit_of (Some x) b c f e = cc
fit_of None (Some x) c f e = cc
fit_of None None (Some x) f e = cc
fit_of None None None (Some x) e = cc
fit_of None None None None e = refl

pub may_make : (library : List Stored) (words : Vocabulary) (definitions : Definitions) (d : Data) (name : List ℕ)
    (cells : List ℕ) (given : Option Param) (flat : Flat) → All (λ c. c < length d.kinds) cells →
    expand_refusal library words definitions name (map (kind_at d.kinds) cells) given ≡ None
    → expansion_of_flat (map (kind_at d.kinds) cells) flat ≡ expanded library words definitions name
    (map (kind_at d.kinds) cells) given →
    IsFlatOver library (length cells) flat → length d.kinds + length flat.fresh.items ≤ most Cells
    → MayMake library d cells flat
may_make library words definitions d name cells given flat below fits is safe few =
    let e = expansion_of_flat (map (kind_at d.kinds) cells) flat in
    let fit : fit_refusal library e ≡ None =
    subst (λ (x : Expansion (Option Param)). fit_refusal library x ≡ None) (sym is)
    (fit_of (when NoSuchProcedure (is_none (used_named library definitions name)))
    (when WrongCount (is_miscounted library definitions name (length (map (kind_at d.kinds) cells))))
    (size_refusal (length (expanded library words definitions name (map (kind_at d.kinds) cells) given).kinds - length
    (map (kind_at d.kinds) cells)) (length
    (expanded library words definitions name (map (kind_at d.kinds) cells) given).placed))
    (fit_refusal library (expanded library words definitions name (map (kind_at d.kinds) cells) given)) fits) in
    let rows = both_none (when WrongKind (list_any (is_kind_wrong library e.kinds) e.placed))
    (when WrongParameter (are_params_wrong library e)) fit in
    each_may library d cells flat below few flat.instances.items safe (holds_not WrongKind _ rows.0)
    (holds_not WrongParameter _ rows.1)

-- ---- what stays sound

all_behind : {X : Type 0} (P : X → Type 0) (xs ys : List X) → All P (xs ++ ys) → All P ys
all_behind P [] ys all = all
all_behind P (x ∷ xs) ys all = all_behind P xs ys (All-tail P x (xs ++ ys) all)

-- the fresh cells are of kinds that are there
pub sized_made : (library : List Stored) (words : Vocabulary) (definitions : Definitions) (d : Data) (name : List ℕ)
    (cells : List ℕ) (given : Option Param) (flat : Flat) →
    expansion_of_flat (map (kind_at d.kinds) cells) flat ≡ expanded library words definitions name
    (map (kind_at d.kinds) cells) given → All (IsSized words) d.kinds → AreLocalsOf (IsSized words) definitions
    → All (IsSized words) (d.kinds ++ flat.fresh.items)
sized_made library words definitions d name cells given flat is sized locals =
    let span : IsSized words span_kind = (tt, refl) in
    let of_cells : All (IsSized words) (map (kind_at d.kinds) cells) =
    All-map (IsSized words) (kind_at d.kinds) cells
    (λ k n l. kind_of_place (IsSized words) span d.kinds (get_or cells k n) sized) in
    let of_all = kinds_of_use (IsSized words) span library words definitions name (map (kind_at d.kinds) cells) given
    locals of_cells in
    let here : All (IsSized words) (map (kind_at d.kinds) cells ++ flat.fresh.items) =
    subst (λ (e : Expansion (Option Param)). All (IsSized words) e.kinds) (sym is) of_all in
    All-append (IsSized words) d.kinds flat.fresh.items sized
    (all_behind (IsSized words) (map (kind_at d.kinds) cells) flat.fresh.items here)

-- names of cells stay names of cells
pub named_made : (cells : List ℕ) (kinds fresh : List Kinded) → All (λ cell. cell < length kinds) cells
    → All (λ cell. cell < length (kinds ++ fresh)) cells
named_made cells kinds fresh all = All-weaker (λ cell. cell < length kinds) (λ cell. cell < length (kinds ++ fresh))
    (λ cell l. omega (arith, l, length-append kinds fresh)) cells all
