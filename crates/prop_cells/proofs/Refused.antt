-- What the tests before a statement and an attachment tell.
use Rattle.std.proofs.Common.{◌≡◌, ◌∙◌, ◌<◌, ◌≤◌, ◌^◌, ◌/◌, ◌==◌, ◌↔◌, ℕ, min, Bool, true, false, not, is_none, nat_le}
use Rattle.std.proofs.Common.{◌||◌, IsTrue, List, [], ◌∷◌, ◌++◌, Option, Some, None, All, length, slice_get, get_or}
use Rattle.std.proofs.Common.{refl, sym, ap, arith, inl, inr}
use Rattle.std.specs.List.{list_any}
use Rattle.std.specs.Option.{option_map_or, option_or}
use Rattle.std.specs.Bool.{Decides}
use Rattle.std.proofs.lemmas.Bool.{cases_lt, le-leb, lt-leb, leb-false, eq-eqb, ne_eqb, eqb-true, both_ways}
use Rattle.std.proofs.lemmas.Bool.Decides.{same_from_decides}
use Rattle.std.proofs.lemmas.List.Elements.{All-pop}
use Rattle.std.proofs.lemmas.List.Folds.{list_any_at, list_any-append}
use Rattle.prop_refusals.specs.Refusals.{most, when}
use Rattle.prop_lattice.specs.Rank.{IsOf}
use Rattle.prop_lattice.specs.Parts.{AllBelow}
use Rattle.prop_lattice.proofs.PartLemmas.{below_test, below_top}
use Rattle.prop_lattice.specs.declared.elements.Elements as sets
use Rattle.prop_lattice.specs.declared.info.Info.{Info}
use Rattle.prop_lattice.specs.declared.info.Info.TheVariants.{Nothing, Span, Set, Sym, Contradiction}
use Rattle.prop_lattice.specs.declared.info.Kind.{Kind}
use Rattle.prop_lattice.specs.declared.info.Kind.TheVariants as kinds
use Rattle.prop_refusals.specs.declared.refusal.Limit.TheVariants.{Instances, Statements}
use Rattle.prop_refusals.specs.declared.refusal.Refusal.{Refusal}
use Rattle.prop_refusals.specs.declared.refusal.Refusal.TheVariants.{NoSuchCell, WrongCount, WrongKind, WrongParameter}
use Rattle.prop_refusals.specs.declared.refusal.Refusal.TheVariants.{LimitReached}
use Rattle.prop_lattice.specs.Order.{is_contradiction}
use Rattle.prop_procedures.specs.declared.shape.Param.{Param}
use Rattle.prop_procedures.specs.declared.shape.Kinded.{Kinded}
use Rattle.prop_procedures.specs.declared.shape.Need.{Need}
use Rattle.prop_procedures.specs.declared.shape.Shape.{Shape}
use Rattle.prop_procedures.specs.Stored.{Stored}
use Rattle.prop_procedures.specs.Fitting.{kind_at, kinds_fit}
use Rattle.prop_cells.specs.Instances.{Instance, IsFitting, IsWithin, sides_given, param_in, instance_of, attached}
use Rattle.prop_cells.specs.Data.{Data}
use Rattle.prop_cells.proofs.RowLemmas.{or_none}
use Rattle.prop_cells.proofs.Keeping.{fit_attached}
use Rattle.prop_cells.specs.Refusing.{may_be_stated, state_refusal, refusal_at, attach_refusal}

-- ---- statements

elements_test : (s : sets.Elements) (size m : ℕ) (b : Bool) → m ≡ min size 64 → (IsTrue b ↔ AllBelow m s.bits)
    → b ≡ (s.bits / 2 ^ size == 0)
elements_test s size m b e h =
    let tells : Decides (s.bits / 2 ^ size == 0) (AllBelow m s.bits) = (
      λ t i x. let l = (below_test s.bits size).0 t i x in let k =
          below_top s.bits s.fits i x in omega (arith, l, k, e),
      λ p. (below_test s.bits size).1 (λ i x. let l = p i x in omega (arith, l, e)),
    )
    in same_from_decides b (s.bits / 2 ^ size == 0) h tells

pub no_contradiction : (v : Info) → (v ≡ Contradiction → ⊥) → is_contradiction v ≡ false
no_contradiction Contradiction h = absurd (h refl)
no_contradiction v h = refl

no_kind : (b : Bool) → (IsTrue b ↔ ⊥) → b ≡ false
no_kind true h = absurd (h.0 refl)
no_kind false h = refl

pub stated_test : (kind : Kind) (size m : ℕ) (info : Info) (b : Bool) → m ≡ min size 64 → is_contradiction info ≡ false
    → (IsTrue b ↔ IsOf kind m info) → b ≡ may_be_stated kind size info
stated_test kind size m Nothing b e n h = h.1 tt
stated_test kinds.Span size m (Span s) b e n h = h.1 tt
stated_test (kinds.Set d) size m (Set s) b e n h = elements_test s size m b e h
stated_test kinds.Symbol size m (Sym s) b e n h = h.1 tt
stated_test kind size m Contradiction b e n h = cc
stated_test kind size m info b e n h = no_kind b h

pub stated_of_kind : (kind : Kind) (size : ℕ) (info : Info) → may_be_stated kind size info ≡ true → IsOf kind size info
stated_of_kind kind size Nothing h = tt
stated_of_kind kinds.Span size (Span s) h = tt
stated_of_kind (kinds.Set d) size (Set s) h = (below_test s.bits size).0 h
stated_of_kind kinds.Symbol size (Sym s) h = tt
stated_of_kind kind size Contradiction h = tt
stated_of_kind kind size info h = cc

none_of_three : (a b c : Bool) (x y z : Refusal) → option_or (when x a) (option_or (when y (not b)) (when z c)) ≡ None
    → (a ≡ false) × (b ≡ true)
none_of_three true b c x y z e = cc
none_of_three false true c x y z e = (refl, refl)
none_of_three false false c x y z e = cc

pub stated_fits : (d : Data) (cell : ℕ) (info : Info) → state_refusal d cell info ≡ None
    → IsOf (kind_at d.kinds cell).kind (kind_at d.kinds cell).size info
stated_fits d cell info e =
    let h = none_of_three (nat_le (length d.kinds) cell)
    (may_be_stated (kind_at d.kinds cell).kind (kind_at d.kinds cell).size info)
    (nat_le (most Statements) (length d.statements)) NoSuchCell WrongKind (LimitReached Statements) e in
    stated_of_kind (kind_at d.kinds cell).kind (kind_at d.kinds cell).size info h.1

pub stated_within : (d : Data) (cell : ℕ) (info : Info) → state_refusal d cell info ≡ None → cell < length d.kinds
stated_within d cell info e =
    let h = none_of_three (nat_le (length d.kinds) cell)
    (may_be_stated (kind_at d.kinds cell).kind (kind_at d.kinds cell).size info)
    (nat_le (most Statements) (length d.statements)) NoSuchCell WrongKind (LimitReached Statements) e in
    leb-false (length d.kinds) cell h.0

-- ---- attachments

pub missing_last : (n : ℕ) (ins : List ℕ) (out : ℕ) → list_any (λ cell. nat_le n cell) ins ≡ false
    → nat_le n out ≡ list_any (λ cell. nat_le n cell) (ins ++ out ∷ [])
missing_last n ins out e = sym (list_any-append (λ cell. nat_le n cell) ins (out ∷ [])
    ∙ ap (λ b. b || (nat_le n out || false)) e ∙ or_none (nat_le n out))

pub none_missing_before : (kinds : List Kinded) (n : ℕ) (cells : List ℕ) → n ≡ length kinds
    → false ≡ list_any (λ cell. nat_le n cell) cells → All (λ cell. cell < length kinds) cells
none_missing_before kinds n cells same e k d l =
    elim (cases_lt (get_or cells k d) n) [
      | inl h ↦ omega (arith, h, same)
      | inr h ↦ absurd (both_ways (list_any (λ cell. nat_le n cell) cells) (sym e)
          (list_any_at (λ cell. nat_le n cell) cells k d l (le-leb n (get_or cells k d) h)))
    ]

abbrev table : Bool → Bool → Bool → Bool → Bool → Option Refusal
table a b c e f =
    option_or (when NoSuchCell a)
    (option_or (when WrongCount (not b))
    (option_or (when WrongKind (not c))
    (option_or (when WrongParameter e) (when (LimitReached Instances) f))))

-- where the table has no refusal, each test passed
none_in_table : (a b c e f : Bool) → table a b c e f ≡ None → (a ≡ false) × (b ≡ true) × (c ≡ true) × (e ≡ false)
none_in_table true b c e f h = cc
none_in_table false false c e f h = cc
none_in_table false true false e f h = cc
none_in_table false true true true f h = cc
none_in_table false true true false f h = (refl, refl, refl, refl)

module _ (library : List Stored) (n : ℕ) (p : Stored) (d : Data) (param : Option ℕ) (ins : List ℕ) (out : ℕ)
    (at : slice_get library n ≡ Some p) where
  by_table : (a b c e f : Bool) → list_any (λ cell. nat_le (length d.kinds) cell) (ins ++ out ∷ []) ≡ a
      → (length ins == length p.ins) ≡ b → kinds_fit p d.kinds (sides_given d.params param) (ins ++ out ∷ []) ≡ c →
      is_none (param_in p.need d.params param) ≡ e → nat_le (most Instances) (length d.instances) ≡ f
      → attach_refusal library d n param ins out ≡ table a b c e f
  by_table a b c e f ha hb hc he hf = ap (λ o. option_map_or (λ q. refusal_at q d param ins out) o None)
      at ∙ (λ i. table (ha i) (hb i) (hc i) (he i) (hf i))

  pub refused_9 : (cells : ℕ) → cells ≡ length d.kinds → true ≡ list_any (λ cell. nat_le cells cell) (ins ++ out ∷ [])
      → Some NoSuchCell ≡ attach_refusal library d n param ins out
  refused_9 cells same ha =
      sym (by_table true (length ins == length p.ins)
      (kinds_fit p d.kinds (sides_given d.params param) (ins ++ out ∷ []))
      (is_none (param_in p.need d.params param)) (nat_le (most Instances) (length d.instances))
      (none_among cells true same ha) refl refl refl refl)
    where
      none_among : (cells : ℕ) (b : Bool) → cells ≡ length d.kinds
          → b ≡ list_any (λ cell. nat_le cells cell) (ins ++ out ∷ [])
          → list_any (λ cell. nat_le (length d.kinds) cell) (ins ++ out ∷ []) ≡ b
      none_among cells b same h = sym (h ∙ ap (λ k. list_any (λ cell. nat_le k cell) (ins ++ out ∷ [])) same)

  -- once the cells are there and as many as the procedure takes
  module _ (cells : ℕ) (same : cells ≡ length d.kinds)
      (missing : false ≡ list_any (λ cell. nat_le cells cell) (ins ++ out ∷ [])) (shapes : List Shape)
      (shapes_are : shapes ≡ p.ins) where
    there : list_any (λ cell. nat_le (length d.kinds) cell) (ins ++ out ∷ []) ≡ false
    there = sym (missing ∙ ap (λ k. list_any (λ cell. nat_le k cell) (ins ++ out ∷ [])) same)

    pub refused_12 : (length ins ≡ length shapes → ⊥) → Some WrongCount ≡ attach_refusal library d n param ins out
    refused_12 hb =
        sym (by_table false false (kinds_fit p d.kinds (sides_given d.params param) (ins ++ out ∷ []))
        (is_none (param_in p.need d.params param)) (nat_le (most Instances) (length d.instances)) there
        (ne_eqb (length ins) (length p.ins) (λ e. hb (e ∙ sym (ap length shapes_are)))) refl refl refl)

    module _ (count : length ins ≡ length shapes) where
      counted : (length ins == length p.ins) ≡ true
      counted = eq-eqb (length ins) (length p.ins) (count ∙ ap length shapes_are)

      pub refused_13 : (right : Bool) → right ≡ kinds_fit p d.kinds (sides_given d.params param) (ins ++ out ∷ [])
          → right ≡ false → Some WrongKind ≡ attach_refusal library d n param ins out
      refused_13 right hc e = sym (by_table false true false (is_none (param_in p.need d.params param))
          (nat_le (most Instances) (length d.instances)) there counted (sym hc ∙ e) refl refl)

      -- and fit it
      module _ (right : Bool) (right_is : right ≡ kinds_fit p d.kinds (sides_given d.params param) (ins ++ out ∷ []))
          (right_holds : right ≡ true) (need : Need) (need_is : need ≡ p.need) (params : List Param)
          (params_are : params ≡ d.params) where
        lacking : (b : Bool) → b ≡ is_none (param_in need params param) → is_none (param_in p.need d.params param) ≡ b
        lacking b h = sym (h ∙ (λ i. is_none (param_in (need_is i) (params_are i) param)))

        pub refused_14 : true ≡ is_none (param_in need params param)
            → Some WrongParameter ≡ attach_refusal library d n param ins out
        refused_14 he = sym (by_table false true true true (nat_le (most Instances) (length d.instances)) there counted
            (sym right_is ∙ right_holds) (lacking true he) refl)

        pub refused_16 : false ≡ is_none (param_in need params param) → (held : ℕ) → held ≡ length d.instances
            → most Instances ≤ held → Some (LimitReached Instances) ≡ attach_refusal library d n param ins out
        refused_16 he held held_is hf =
            sym (by_table false true true false true there counted (sym right_is ∙ right_holds) (lacking false he)
            (le-leb (most Instances) (length d.instances) (omega (arith, hf, held_is))))

        pub not_refused : false ≡ is_none (param_in need params param) → (held : ℕ) → held ≡ length d.instances
            → held < most Instances → None ≡ attach_refusal library d n param ins out
        not_refused he held held_is hf =
            sym (by_table false true true false false there counted (sym right_is ∙ right_holds) (lacking false he)
            (lt-leb (most Instances) (length d.instances) (omega (arith, hf, held_is))))

  -- where nothing refuses it, each test passed
  pub tests_passed : attach_refusal library d n param ins out ≡ None →
      (list_any (λ cell. nat_le (length d.kinds) cell) (ins ++ out ∷ []) ≡ false) × (length ins ≡ length p.ins)
      × (kinds_fit p d.kinds (sides_given d.params param) (ins ++ out ∷ []) ≡ true)
      × (is_none (param_in p.need d.params param) ≡ false)
  tests_passed h =
      let missing = list_any (λ cell. nat_le (length d.kinds) cell) (ins ++ out ∷ []) in
      let counted = length ins == length p.ins in
      let right = kinds_fit p d.kinds (sides_given d.params param) (ins ++ out ∷ []) in
      let lacking = is_none (param_in p.need d.params param) in
      let full = nat_le (most Instances) (length d.instances) in
      let passed = none_in_table missing counted right lacking full
      (sym (by_table missing counted right lacking full refl refl refl refl refl) ∙ h) in
      (passed.0, eqb-true (length ins) (length p.ins) passed.1, passed.2, passed.3)

  pub attached_is : (given : Param) → param_in p.need d.params param ≡ Some given
      → attached library d.params n param ins out ≡ instance_of n ins out given ∷ []
  attached_is given he =
      ap (λ o. option_map_or (λ q. option_map_or (λ fitting. instance_of n ins out fitting ∷ [])
      (param_in q.need d.params param) []) o []) at ∙
      ap (λ o. option_map_or (λ fitting. instance_of n ins out fitting ∷ []) o []) he

  pub takes_one : attach_refusal library d n param ins out ≡ None → (need : Need) → need ≡ p.need
      → (params : List Param) → params ≡ d.params → is_none (param_in need params param) ≡ false
  takes_one h need need_is params params_are = (λ i. is_none (param_in (need_is i) (params_are i) param))
      ∙ (tests_passed h).3

  -- and what is made fits, stands on cells that are there, and is what is to be attached
  pub fitting_made : attach_refusal library d n param ins out ≡ None → (need : Need) → need ≡ p.need
      → (params : List Param) → params ≡ d.params → (given : Param) → param_in need params param ≡ Some given
      → (x : Instance) → x ≡ instance_of n ins out given →
      IsFitting library d.kinds x × IsWithin (length d.kinds) x × (attached library d.params n param ins out ≡ x ∷ [])
  fitting_made h need need_is params params_are given found x x_is =
      let passed = tests_passed h in
      let given_is : param_in p.need d.params param ≡ Some given = sym (λ i. param_in (need_is i) (params_are i) param)
      ∙ found in
      let below = All-pop (λ cell. cell < length d.kinds) (ins ++ out ∷ []) ins (Some out) refl
      (none_missing_before d.kinds (length d.kinds) (ins ++ out ∷ []) refl (sym passed.0)) in (
        rw x_is (fit_attached library n p d.kinds d.params param given ins out at passed.1 passed.2 given_is),
        rw x_is (record { inputs = below.0; output = below.1 }),
        rw x_is (attached_is given given_is),
      )

-- the one instance that was made is what is attached
pub as_attached : (d new : Data) (x : Instance) (xs : List Instance)
    → new ≡ record d { instances = d.instances ++ x ∷ [] } → xs ≡ x ∷ []
    → new ≡ record d { instances = d.instances ++ xs }
as_attached d new x xs made one = rw one made
