-- Making the instances of a use: the network refuses none of them, and what it makes is what the use stands for.
use Rattle.std.proofs.Common.{◌≡◌, ◌∙◌, ℕ, ◌<◌, ◌≤◌, ◌+◌, ◌-◌, ◌==◌, Bool, true, false, cond, not, List, [], ◌∷◌, ◌++◌}
use Rattle.std.proofs.Common.{Option, Some, None, All, map, drop, length, slice_get, nat_le, is_none, unwrap_or, get_or}
use Rattle.std.proofs.Common.{◌⊎◌, inl, inr, refl, sym, ap, arith, suc, zero, zero-add, append_assoc}
use Rattle.std.specs.Prelude.{⊤, Result, Ok, Err, OnOk}
use Rattle.std.specs.List.{list_any}
use Rattle.std.specs.Option.{option_map_or, option_and_then, option_or}
use Rattle.std.proofs.lemmas.Bool.{lt-leb, lt-ltb, le-ltb, cases_lt}
use Rattle.std.proofs.lemmas.Bool.Decides.{nat_tests}
use Rattle.std.proofs.lemmas.List.{map-append, length-map, length_push}
use Rattle.std.proofs.lemmas.List.Folds.{list_any_none}
use Rattle.std.proofs.lemmas.Option.{slice_get_cases, slice_get_past}
use Rattle.prop_refusals.specs.Refusals.{most, when}
use Rattle.prop_refusals.specs.declared.refusal.Limit.TheVariants.{Instances}
use Rattle.prop_refusals.specs.declared.refusal.Refusal.{Refusal}
use Rattle.prop_refusals.specs.declared.refusal.Refusal.TheVariants.{NoSuchCell, WrongCount, WrongKind, WrongParameter}
use Rattle.prop_refusals.specs.declared.refusal.Refusal.TheVariants.{LimitReached}
use Rattle.prop_procedures.specs.declared.shape.Param.{Param}
use Rattle.prop_procedures.specs.declared.shape.Param.TheVariants.{Plain}
use Rattle.prop_procedures.specs.declared.shape.Need.{Need}
use Rattle.prop_procedures.specs.Stored.{Stored}
use Rattle.prop_procedures.specs.Rules.{sides_of}
use Rattle.prop_cells.specs.Data.{Data}
use Rattle.prop_procedures.specs.Fitting.{kinds_fit}
use Rattle.prop_procedures.specs.Rules.{fitting_param}
use Rattle.prop_cells.specs.Instances.{Instance, sides_given, param_in, attached, instance_of}
use Rattle.prop_cells.specs.Refusing.{refusal_at, attach_refusal}
use Rattle.prop_procedures.specs.declared.flat.Placed as flats
use Rattle.prop_procedures.specs.Flats.{param_at, cell_placed}
use Rattle.prop_scheduler.specs.inner.Making.{param_number}
use Rattle.prop_scheduler.specs.Making.{cells_made, made_of, MayBeMade}

-- ---- parameters

eq-refl : (n : ℕ) → (n == n) ≡ true
eq-refl n = grind (arith, nat_tests)

drop_get : {X : Type 0} (first n : ℕ) (xs : List X) → slice_get (drop first xs) n ≡ slice_get xs (first + n)
drop_get zero n xs = ap (slice_get xs) (sym (zero-add n))
drop_get (suc k) n [] = refl
drop_get (suc k) n (x ∷ xs) = let up : suc (k + n) ≡ suc k + n = omega arith in drop_get k n xs
    ∙ ap (slice_get (x ∷ xs)) up

-- a place of the use's parameters that is there, and one that is not
inside : (first count n : ℕ) → n < count - first → param_number first count (Some n) ≡ Some (first + n)
inside first count n l = ap (λ b. cond b (Some (first + n)) None) (lt-ltb n (count - first) l)

outside : (first count n : ℕ) → count - first ≤ n → param_number first count (Some n) ≡ None
outside first count n l = ap (λ b. cond b (Some (first + n)) None) (le-ltb n (count - first) l)

no_param : (params : List Param) (first n : ℕ) → length params - first ≤ n
    → param_at (drop first params) (Some n) ≡ None
no_param params first n l = drop_get first n params ∙ slice_get_past params (first + n) (omega (arith, l))

-- the parameter at a place of the use's is the one with that number in the network
pub param_behind : (params : List Param) (first : ℕ) (need : Need) (place : Option ℕ)
    → param_in need params (param_number first (length params) place) ≡ fitting_param need
    (param_at (drop first params) place)
param_behind params first need None = refl
param_behind params first need (Some n) = by (cases_lt n (length params - first))
  where
    found : (o : Option Param) → slice_get params (first + n) ≡ o → (n < length params - first)
        → option_and_then (λ param. fitting_param need (Some param)) o ≡ fitting_param need o
    found None e l = absurd (past e)
      where
        past : slice_get params (first + n) ≡ None → ⊥
        past e = elim (slice_get_cases params (first + n)).1 as (λ _. ⊥) [
          | inl h ↦ let same : Some h.0 ≡ None = sym h.2 ∙ e in cc
          | inr h ↦ omega (arith, h.0, l)
        ]
    found (Some param) e l = refl

    by : (n < length params - first) ⊎ (length params - first ≤ n)
        → param_in need params (param_number first (length params) (Some n)) ≡ fitting_param need
        (param_at (drop first params) (Some n))
    by (inl l) =
        ap (param_in need params) (inside first (length params) n l) ∙ found (slice_get params (first + n)) refl l
        ∙ ap (fitting_param need) (sym (drop_get first n params))
    by (inr l) = ap (param_in need params) (outside first (length params) n l)
        ∙ ap (fitting_param need) (sym (no_param params first n l))

pub sides_behind : (params : List Param) (first : ℕ) (place : Option ℕ)
    → sides_given params (param_number first (length params) place) ≡ option_and_then sides_of
    (param_at (drop first params) place)
sides_behind params first None = refl
sides_behind params first (Some n) = by (cases_lt n (length params - first))
  where
    by : (n < length params - first) ⊎ (length params - first ≤ n)
        → sides_given params (param_number first (length params) (Some n)) ≡ option_and_then sides_of
        (param_at (drop first params) (Some n))
    by (inl l) = ap (sides_given params) (inside first (length params) n l)
        ∙ ap (option_and_then sides_of) (sym (drop_get first n params))
    by (inr l) = ap (sides_given params) (outside first (length params) n l)
        ∙ ap (option_and_then sides_of) (sym (no_param params first n l))

-- ---- the network's tests

none_strange : (n : ℕ) (cells : List ℕ) → All (λ c. c < n) cells → list_any (λ cell. nat_le n cell) cells ≡ false
none_strange n cells h = list_any_none (λ cell. nat_le n cell) cells (λ k d l. lt-leb n (get_or cells k d) (h k d l))

rows : (strange count kind param full : Bool) → Option Refusal
rows strange count kind param full =
    option_or (when NoSuchCell strange)
    (option_or (when WrongCount (not count))
    (option_or (when WrongKind (not kind))
    (option_or (when WrongParameter param) (when (LimitReached Instances) full))))

rows_none : (strange count kind param full : Bool) → strange ≡ false → count ≡ true → kind ≡ true → param ≡ false
    → full ≡ false → rows strange count kind param full ≡ None
unfolding rows
rows_none strange count kind param full a b c d e = rw (a, b, c, d, e) refl

module _ (library : List Stored) (d : Data) (cells : List ℕ) (next first : ℕ) (x : flats.Placed)
    (may : MayBeMade library d.kinds (drop first d.params) cells next x)
    (places ins : List ℕ) (out : ℕ) (places_are : places ≡ x.inputs.items)
    (ins_are : ins ≡ map (cell_placed cells next) places) (out_is : out ≡ cell_placed cells next x.output)
    (held : Data) (params : List Param) (number : Option ℕ) (held_is : held ≡ d) (params_are : params ≡ held.params)
    (number_is : number ≡ param_number first (length params) x.param) where
  placed : ins ≡ map (cell_placed cells next) x.inputs.items
  placed = ins_are ∙ ap (map (cell_placed cells next)) places_are

  numbered : number ≡ param_number first (length d.params) x.param
  numbered = number_is ∙ (λ i. param_number first (length ((params_are ∙ ap (λ (h : Data). h.params) held_is) i))
      x.param)

  cells_are : ins ++ out ∷ [] ≡ cells_made cells next x
  cells_are = (λ i. placed i ++ out_is i ∷ [])
      ∙ sym (map-append (cell_placed cells next) x.inputs.items (x.output ∷ []))

  -- the network refuses nothing of it
  pub made_fits : length d.instances < most Instances → attach_refusal library d x.procedure number ins out ≡ None
  unfolding rows
  made_fits room =
      let p = may.procedure in
      let here = param_number first (length d.params) x.param in
      ap (λ (n : Option ℕ). attach_refusal library d x.procedure n ins out) numbered
      ∙ ap (λ (o : Option Stored). option_map_or (λ p. refusal_at p d here ins out) o None) may.at
      ∙ rows_none (list_any (λ cell. nat_le (length d.kinds) cell) (ins ++ out ∷ [])) (length ins == length p.ins)
      (kinds_fit p d.kinds (sides_given d.params here) (ins ++ out ∷ [])) (is_none (param_in p.need d.params here))
      (nat_le (most Instances) (length d.instances))
      (none_strange (length d.kinds) (ins ++ out ∷ []) (rw cells_are may.below))
      (rw (ap length placed ∙ length-map x.inputs.items (cell_placed cells next), may.count) (eq-refl (length p.ins)))
      (rw (sides_behind d.params first x.param, cells_are) may.right)
      (rw (param_behind d.params first p.need x.param) may.takes)
      (lt-leb (most Instances) (length d.instances) room)

  -- what it makes is what the use stands for
  made_is : attached library d.params x.procedure number ins out ≡ made_of library (drop first d.params) cells next
      x ∷ []
  made_is = ap (λ (n : Option ℕ). attached library d.params x.procedure n ins out) numbered
      ∙ with_fitting (fitting_param may.procedure.need (param_at (drop first d.params) x.param)) refl
    where
      p : Stored
      p = may.procedure

      given : Option Param
      given = param_at (drop first d.params) x.param

      with_fitting : (f : Option Param) → fitting_param p.need given ≡ f
          → attached library d.params x.procedure (param_number first (length d.params) x.param) ins out ≡ made_of
          library (drop first d.params) cells next x ∷ []
      with_fitting None e = let none : true ≡ false = sym (ap is_none e) ∙ may.takes in cc
      with_fitting (Some f) e =
          let here = param_number first (length d.params) x.param in
          let in_network : param_in p.need d.params here ≡ Some f = param_behind d.params first p.need x.param ∙ e in
          let param : unwrap_or (option_and_then (λ q. fitting_param q.need given) (slice_get library x.procedure))
          Plain ≡ f =
          ap (λ (o : Option Stored). unwrap_or (option_and_then (λ q. fitting_param q.need given) o) Plain) may.at
          ∙ ap (λ (o : Option Param). unwrap_or o Plain) e in
          ap (λ (o : Option Stored). option_map_or
          (λ q. option_map_or (λ f. instance_of x.procedure ins out f ∷ []) (param_in q.need d.params here) []) o
          []) may.at
          ∙ ap (λ (o : Option Param). option_map_or (λ f. instance_of x.procedure ins out f ∷ []) o []) in_network
          ∙ (λ i. record { procedure = x.procedure; param = sym param i; inputs = placed i; output = out_is i } ∷ [])

  pub made_ok : (r : Result ⊤ Refusal) (new : Data) →
      OnOk r (new ≡ record d { instances = d.instances ++ attached library d.params x.procedure number ins out })
      → OnOk r (new ≡ record d {
        instances = d.instances ++ made_of library (drop first d.params) cells next
            x ∷ [];
      })
  made_ok (Ok u) new h = h ∙ ap (λ (xs : List Instance). record d { instances = d.instances ++ xs }) made_is
  made_ok (Err refusal) new h = tt

-- ---- one instance after another

-- one more is made of those that are left
pub one_made : (library library' : List Stored) (old now new : Data) (cells : List ℕ) (next first : ℕ)
    (x : flats.Placed) (left rest all : List flats.Placed) → library' ≡ library
    → now ≡ record old { instances = now.instances } → left ≡ x ∷ rest →
    new ≡ record now {
      instances = now.instances ++ made_of library' (drop first now.params) cells next x ∷ [];
    } → now.instances ++ map (made_of library (drop first old.params) cells next) left ≡ old.instances ++ map
    (made_of library (drop first old.params) cells next) all →
    (new ≡ record old { instances = new.instances })
    × (new.instances ++ map (made_of library (drop first old.params) cells next) rest ≡ old.instances ++ map
    (made_of library (drop first old.params) cells next) all) × (length new.instances ≡ length now.instances + 1)
one_made library library' old now new cells next first x left rest all l r here ok h =
    let f = made_of library (drop first old.params) cells next in
    let made : new.instances ≡ now.instances ++ f x ∷ [] = ap (λ (d : Data). d.instances) ok
    ∙ (λ i. now.instances ++ made_of (l i) (drop first (r i).params) cells next x ∷ []) in (
      ok ∙ (λ i. record (r i) { instances = sym (ap (λ (d : Data). d.instances) ok) i }),
      ap (λ xs. xs ++ map f rest) made ∙ append_assoc now.instances (f x ∷ []) (map f rest)
          ∙ ap (λ xs. now.instances ++ map f xs) (sym here) ∙ h,
      ap length made ∙ length_push now.instances (f x),
    )
