-- What is at hand of a use while it is expanded: more parameters change no instance so far, and each instance is right.
use Rattle.std.proofs.Common.{◌≡◌, ◌∙◌, ℕ, zero, suc, ◌+◌, ◌<◌, List, [], ◌∷◌, ◌++◌, All, length, map, get_or, Option}
use Rattle.std.proofs.Common.{Some, None, refl, sym, ap, subst, arith, inl, inr}
use Rattle.std.specs.Prelude.{slice_get}
use Rattle.std.specs.Option.{option_map_or}
use Rattle.std.proofs.lemmas.List.{length-map, length-append, get_or-map, map-append, append-nil, append_assoc}
use Rattle.std.proofs.lemmas.List.Elements.{All-head, All-tail, All-weaker}
use Rattle.std.proofs.lemmas.Option.{slice_get_cases}
use Rattle.prop_procedures.specs.declared.shape.Param.{Param}
use Rattle.prop_procedures.specs.Stored.{Stored}
use Rattle.prop_procedures.specs.declared.flat.Placed as instances
use Rattle.prop_procedures.specs.Flats.{param_at, cells_of}
use Rattle.prop_compound.specs.declared.walk.Walk as walks
use Rattle.prop_compound.specs.Expansion.{Placed, with_placed}
use Rattle.prop_compound.specs.Flattened.{placed_of, IsInstanceOver}
use Rattle.prop_compound.specs.inner.Flattened.{walk_of, IsPlaceIn, ArePlaced, IsFurther, AreRight}
use Rattle.prop_compound.proofs.Ranges as ranges

same_at : (params more : List Param) (n : ℕ) → n < length params → slice_get (params ++ more) n ≡ slice_get params n
same_at [] more n l = absurd (omega (arith, l))
same_at (p ∷ params) more zero l = refl
same_at (p ∷ params) more (suc n) l = same_at params more n (omega (arith, l))

-- ---- more parameters

module _ (params params' more : List Param) (grown : params' ≡ params ++ more) where
  pub param_still : (place : Option ℕ) → IsPlaceIn params place → param_at params' place ≡ param_at params place
  param_still None h = refl
  param_still (Some n) h = ap (λ ps. slice_get ps n) grown ∙ same_at params more n h

  pub place_still : (place : Option ℕ) → IsPlaceIn params place → IsPlaceIn params' place
  place_still None h = h
  place_still (Some n) h = omega (arith, h, ap length grown, length-append params more)

  pub places_still : (xs : List instances.Placed) → All (λ (x : instances.Placed). IsPlaceIn params x.param) xs
      → All (λ (x : instances.Placed). IsPlaceIn params' x.param) xs
  places_still xs h = All-weaker (λ (x : instances.Placed). IsPlaceIn params x.param)
      (λ (x : instances.Placed). IsPlaceIn params' x.param) (λ x. place_still x.param) xs h

  -- more parameters change no instance so far
  pub placed_still : (xs : List instances.Placed) → All (λ (x : instances.Placed). IsPlaceIn params x.param) xs
      → map (placed_of params') xs ≡ map (placed_of params) xs
  placed_still [] h = refl
  placed_still (x ∷ xs) h =
      λ i. record {
        procedure = x.procedure;
        given = param_still x.param (All-head (λ (x : instances.Placed). IsPlaceIn params x.param) x xs h) i;
        cells =
            cells_of x;
      } ∷ placed_still xs (All-tail (λ (x : instances.Placed). IsPlaceIn params x.param) x xs h) i

-- ---- going further

-- parameters and instances are the same
pub none_further : (walk : walks.Walk) → ArePlaced walk → IsFurther walk walk
none_further walk h = record { more = []; params = sym (append-nil walk.params.items); placed = h }

-- parameters are put behind those that are there
module _ (old mid : walks.Walk) (more : List Param) (grown : mid.params.items ≡ old.params.items ++ more)
    (same : mid.instances.items ≡ old.instances.items) (kinds : mid.kinds.items ≡ old.kinds.items)
    (spare : mid.spare ≡ old.spare) (h : ArePlaced old) where
  pub mid_same : walk_of mid ≡ walk_of old
  mid_same i = record {
    kinds = kinds i;
    placed = (ap (map (placed_of mid.params.items)) same
        ∙ placed_still old.params.items mid.params.items more grown old.instances.items h) i;
    spare = spare i;
  }

  -- and an instance behind them
  module _ (new : walks.Walk) (x : instances.Placed) (params : new.params.items ≡ mid.params.items)
      (pushed : new.instances.items ≡ mid.instances.items ++ x ∷ []) where
    pub pushed_means : (n : ℕ) (place : Option ℕ) (cells : List ℕ) → new.kinds.items ≡ mid.kinds.items
        → new.spare ≡ mid.spare → x.procedure ≡ n → x.param ≡ place → cells_of x ≡ cells →
        walk_of new ≡ with_placed (walk_of old)
        (record { procedure = n; given = param_at mid.params.items place; cells = cells })
    pushed_means n place cells k s is_n is_place is_cells =
        let it : placed_of mid.params.items
        x ≡ record { procedure = n; given = param_at mid.params.items place; cells = cells } =
        λ i. record { procedure = is_n i; given = param_at mid.params.items (is_place i); cells = is_cells i } in
        (λ i. record {
          kinds = k i;
          placed = ((λ j. map (placed_of (params j)) (pushed j))
              ∙ map-append (placed_of mid.params.items) mid.instances.items (x ∷ [])
              ∙ ap (λ z. map (placed_of mid.params.items) mid.instances.items ++ z ∷ []) it) i;
          spare = s i;
        }) ∙ ap (λ e. with_placed e (record { procedure = n; given = param_at mid.params.items place; cells = cells }))
        mid_same

-- each step goes further
pub further_on : (old mid new : walks.Walk) → IsFurther old mid → IsFurther mid new → IsFurther old new
further_on old mid new f g = record {
  more = f.more ++ g.more;
  params = g.params ∙ ap (λ ps. ps ++ g.more) f.params ∙ append_assoc old.params.items f.more g.more;
  placed = g.placed;
}

-- ---- right instances

none : Placed (Option Param)
none = record { procedure = 0; given = None; cells = [] }

-- each instance is one of a procedure of the library, since it is one in what the walk means
pub right_of : (library : List Stored) (walk : walks.Walk) → ranges.AreRight library (walk_of walk)
    → AreRight library walk
right_of library walk right k d l =
    let xs = walk.instances.items in
    let params = walk.params.items in
    let x = get_or xs k d in
    let it : get_or (map (placed_of params) xs) k none ≡ placed_of params x =
    get_or-map (placed_of params) xs k d none l in
    let h = right k none (omega (arith, l, length-map xs (placed_of params))) in
    let here : ranges.IsRight library (length walk.kinds.items) (placed_of params x) =
    subst (ranges.IsRight library (length walk.kinds.items)) it h in
    elim (slice_get_cases library x.procedure).1 as (λ _. IsInstanceOver library (length walk.kinds.items) x) [
      | inl found ↦
          (let s = found.0 in
          let at : slice_get library x.procedure ≡ Some s = found.2 in
          let wants : length s.ins + 1 ≡ length (cells_of x) =
          sym (ap (λ o. option_map_or (λ (s : Stored). length s.ins + 1) o 0) at) ∙ here.count in record {
            procedure = s;
            at = at;
            count = omega (arith, wants, length-append x.inputs.items (x.output ∷ []));
            cells = here.cells;
          })
      | inr past ↦ absurd (let m = here.procedure in omega (arith, past.0, m))
    ]
