-- What a check that has looked at everything has shown, and what one that failed has.
use Rattle.std.specs.Prelude.{◌≡◌, ◌<◌, ◌≤◌, ◌+◌, ℕ, zero, suc, List, [], ◌∷◌, All, Some, length, map, slice_get, take}
use Rattle.std.proofs.Common.{subst, sym, ap, ◌∙◌, arith, get_or}
use Rattle.std.proofs.lemmas.List.{get_or-map, length-map, length-take-le, take_all}
use Rattle.std.proofs.lemmas.List.Elements.{All-map, All-more, All-weaker}
use Rattle.std.proofs.lemmas.Option.{get_or_from_slice_get, none-some, same_Some, slice_get-get_or, slice_get_within}
use Rattle.prop_lattice.specs.Order.{Below}
use Rattle.prop_lattice.specs.declared.info.Info.{Info}
use Rattle.prop_numbers.specs.Sets.{Members}
use Rattle.prop_procedures.specs.declared.library.Library.{Library}
use Rattle.prop_procedures.specs.declared.procedure.Procedure.{Procedure}
use Rattle.prop_procedures.specs.declared.shape.Kinded.{Kinded}
use Rattle.prop_procedures.specs.declared.shape.Param.{Param}
use Rattle.prop_procedures.specs.declared.shape.Param.TheVariants.{Plain}
use Rattle.prop_procedures.specs.Fitting.{kind_at}
use Rattle.prop_procedures.specs.Kept.{stored_as, stored_of}
use Rattle.prop_procedures.specs.Stored.{Stored, IsLawful, span_kind, value_of}
use Rattle.prop_cells.specs.Data.{Data, IsKept, IsStated}
use Rattle.prop_cells.specs.Instances.{Instance, IsFitting, IsWithin, constraint_of}
use Rattle.prop_cells.specs.Problems.{value_at}
use Rattle.prop_cells.specs.inner.Problems.{Meets, Satisfies}
use Rattle.prop_cells.proofs.Keeping.{All-at}
use Rattle.prop_plans.specs.Held.{attached_of}
use Rattle.prop_plans.specs.Plans.{AreMet, AreValues, IsPlan, Satisfy, value_in}
use Rattle.prop_plans.proofs.Held.{singles_satisfy}
use Rattle.prop_plans.proofs.Values.{point_of, point_single, value_single, values_clear, values_of_kinds}

-- ---- a plan

pub planned : (library : List Stored) (d : Data) (s : Members) (values : List Info) (n : ℕ) → IsKept library d
    → AreValues d.kinds values → All (Satisfies s (value_in values)) d.statements → length d.instances ≤ n
    → AreMet library d values n → IsPlan library d s values
planned library d s values n kept v told all met =
    let each : All (λ (x : Instance). Meets (value_in values) (constraint_of library x)) d.instances =
    subst (λ (xs : List Instance). All (λ x. Meets (value_in values) (constraint_of library x)) xs)
    (take_all n d.instances all) met in
    record {
      count = v.count;
      points = λ cell. point_of (value_in values cell);
      settled = record {
        single = λ cell h. point_single (value_in values cell)
            (value_single (kind_at d.kinds cell) (value_in values cell) (v.each cell h));
        within = All-weaker (IsStated d.kinds d.contents) (λ x. x.cell < length d.kinds) (λ x h. h.within)
            d.statements kept.made.stated;
      };
      solves = record {
        kinds = (values_of_kinds d.kinds values v).of_kind;
        statements = told;
        instances = All-map (Meets (value_in values)) (constraint_of library) d.instances each;
      };
    }

pub satisfied : (library : List Stored) (d : Data) (s : Members) (values : List Info) → All IsLawful library
    → IsKept library d → IsPlan library d s values → Satisfy library d s values
satisfied library d s values law kept plan points single =
    singles_satisfy library law (attached_of d) s (value_in values) points
    (record { fitting = kept.fits; within = kept.made.within }) plan.solves
    (record { single = single; within = plan.settled.within })

-- ---- none

pub plan_values : (library : List Stored) (d : Data) (s : Members) (values : List Info) → IsPlan library d s values
    → AreValues d.kinds values
plan_values library d s values plan = record {
  count = plan.count;
  each = λ cell h. record {
    of_kind = plan.solves.kinds cell (kind_at d.kinds cell) (slice_get-get_or d.kinds cell span_kind h);
    single = (plan.points cell, plan.settled.single cell h);
  };
}

plan_meets : (library : List Stored) (d : Data) (s : Members) (values : List Info) (n : ℕ) (x : Instance)
    → slice_get d.instances n ≡ Some x → IsPlan library d s values → Meets (value_in values) (constraint_of library x)
plan_meets library d s values n x at plan =
    let l = slice_get_within d.instances n x at in
    subst (λ (y : Instance). Meets (value_in values) (constraint_of library y))
    (get_or_from_slice_get d.instances n x x at)
    (subst (Meets (value_in values)) (get_or-map (constraint_of library) d.instances n x (constraint_of library x) l)
    (plan.solves.instances n (constraint_of library x)
    (omega (arith, l, length-map d.instances (constraint_of library)))))

-- stands where there is no instance
pub nobody : Instance
nobody = record { procedure = 0; param = Plain; inputs = []; output = 0 }

pub unmet_is_none : (library : List Stored) (d : Data) (s : Members) (values : List Info) (n : ℕ)
    → n < length d.instances → ((x : Instance) → slice_get d.instances n ≡ Some x
    → ¬ (Meets (value_in values) (constraint_of library x))) → ¬ (IsPlan library d s values)
unmet_is_none library d s values n l unmet plan =
    let at = slice_get-get_or d.instances n nobody l in
    unmet (get_or d.instances n nobody) at (plan_meets library d s values n (get_or d.instances n nobody) at plan)

-- ---- one instance

-- a procedure has no more than 384 inputs
few_inputs : {R : Type 0} {X : Type 0} {F : X → Type 0} {g : _} → (value : R → Param → List Info → Info)
    (library : Library R X F g) (kinds : List Kinded) (x : Instance) → IsFitting (stored_of value library) kinds x
    → length x.inputs ≤ 384
few_inputs {R} {X} {F} {g} value library kinds x f =
    rw f.fits.count (by library.procedures.items x.procedure f.procedure f.at)
  where
    by : (procedures : List (Procedure R X F g)) (n : ℕ) (p : Stored)
        → slice_get (map (stored_as value) procedures) n ≡ Some p → length p.ins ≤ 384
    by [] n p at = absurd (none-some p at)
    by (q ∷ rest) zero p at =
        let same : stored_as value q ≡ p = same_Some (stored_as value q) p at in rw (← same) q.few
    by (q ∷ rest) (suc k) p at = by rest k p at

pub few_at : {R : Type 0} {X : Type 0} {F : X → Type 0} {g : _} → (value : R → Param → List Info → Info)
    (library : Library R X F g) (d : Data) (n : ℕ) (x : Instance) → IsKept (stored_of value library) d
    → slice_get d.instances n ≡ Some x → length x.inputs ≤ 384
few_at value library d n x kept at =
    few_inputs value library d.kinds x
    (All-at (IsFitting (stored_of value library) d.kinds) d.instances n x kept.fits at)

-- one more is met
pub one_more : (library : List Stored) (d : Data) (values : List Info) (n : ℕ) → n < length d.instances
    → AreMet library d values n → ((x : Instance) → slice_get d.instances n ≡ Some x
    → Meets (value_in values) (constraint_of library x)) → AreMet library d values (n + 1)
one_more library d values n l met here =
    All-more (λ (x : Instance). Meets (value_in values) (constraint_of library x)) d.instances n nobody l met
    (here (get_or d.instances n nobody) (slice_get-get_or d.instances n nobody l))

-- there is room for the inputs
pub room_for : (n : ℕ) (room : List Info) → n ≤ length room → length (take n room) ≡ n
room_for n room l = length-take-le n room l

-- what is answered on the values is the value of the instance
pub answered : (library : List Stored) (kinds : List Kinded) (values : List Info) (x : Instance) (args : List Info)
    (answer output : Info) → AreValues kinds values → IsWithin (length kinds) x → args ≡ map (value_in values) x.inputs
    → answer ≡ value_of library x.procedure x.param args → output ≡ value_in values x.output
    → (Below answer output → Meets (value_in values) (constraint_of library x))
    × (Meets (value_in values) (constraint_of library x) → Below answer output)
answered library kinds values x args answer output v w same is there = (
  λ h. subst (λ (a : Info). Below a (value_in values x.output)) value (subst (λ (o : Info). Below answer o) there h),
  λ m. subst (λ (o : Info). Below answer o) (sym there)
      (subst (λ (a : Info). Below a (value_in values x.output)) (sym value) m),
)
  where
    value : answer ≡ value_at (constraint_of library x) (value_in values)
    value = rw (values_clear kinds values x.inputs v w.inputs)
        (is ∙ ap (λ (infos : List Info). value_of library x.procedure x.param infos) same)
