-- The points of a solution in points satisfy all that is stated and attached.
use Rattle.std.specs.Prelude.{◌≡◌, ◌≢◌, ℕ, zero, suc, ◌<◌, Bool, true, false, ◌||◌, List, [], ◌∷◌, ◌++◌, map, zip}
use Rattle.std.specs.Prelude.{length, All, Some, slice_get}
use Rattle.std.specs.List.{list_all, list_any}
use Rattle.std.proofs.Common.{arith, refl, subst, get_or}
use Rattle.std.proofs.lemmas.List.{get_or-map, length-map}
use Rattle.std.proofs.lemmas.List.Elements.{All-head, All-tail}
use Rattle.std.proofs.lemmas.Option.{none-some, same_Some, slice_get-get_or}
use Rattle.prop_lattice.specs.Order.{is_contradiction}
use Rattle.prop_lattice.specs.Points.{Point, Holds, IsPointOf}
use Rattle.prop_lattice.specs.declared.info.Info.{Info}
use Rattle.prop_lattice.specs.declared.info.Info.TheVariants.{Contradiction}
use Rattle.prop_procedures.specs.declared.shape.Kinded.{Kinded}
use Rattle.prop_procedures.specs.declared.shape.Param.{Param}
use Rattle.prop_procedures.specs.declared.shape.Shape.{Shape}
use Rattle.prop_procedures.specs.Fitting.{kind_at}
use Rattle.prop_procedures.specs.Forms.{Form, library_of, related_in, stored_rule}
use Rattle.prop_procedures.specs.Rules.{kind_of}
use Rattle.prop_procedures.specs.Stored.{Stored, span_kind}
use Rattle.prop_procedures.specs.inner.Places.{is_same}
use Rattle.prop_cells.specs.Instances.{Instance, IsFitting, IsWithin, constraint_of}
use Rattle.prop_cells.specs.Points.{Attached, AreFitting, ArePoints, problem_of}
use Rattle.prop_cells.specs.Problems.{Assignment, IsSolution}
use Rattle.prop_cells.specs.inner.Problems.{Meets, Premises}
use Rattle.prop_cells.proofs.Fitted.{and_both, same_kinded, any_at, right_at, is_call_at}
use Rattle.prop_points.specs.Networks.{AreExactBy, AreSettled, SinglesSolve}
use Rattle.prop_points.specs.Singles.{IsExact, AreSingle}
use Rattle.prop_points.proofs.Singles.{below_single, single_clear, single_of_kind}

-- ---- the arguments of an instance

clear_is : (a : Info) → a ≢ Contradiction → is_contradiction a ≡ false
clear_is Contradiction n = absurd (n refl)
clear_is a n = refl

module _ (n : Attached) (a : Assignment) (points : ℕ → Point) (settled : AreSettled n a points) where
  singles : (cells : List ℕ) → All (λ c. c < length n.kinds) cells → AreSingle (map a cells) (map points cells)
  singles [] h = tt
  singles (c ∷ cs) h = (
    settled.single c (All-head (λ c. c < length n.kinds) c cs h),
    singles cs (All-tail (λ c. c < length n.kinds) c cs h),
  )

  clear : (cells : List ℕ) → All (λ c. c < length n.kinds) cells
      → list_any is_contradiction (map a cells) ≡ false
  clear [] h = refl
  clear (c ∷ cs) h =
      neither _ _ (clear_is (a c) (single_clear (a c) (points c)
      (settled.single c (All-head (λ c. c < length n.kinds) c cs h))))
      (clear cs (All-tail (λ c. c < length n.kinds) c cs h))
    where
      neither : (b d : Bool) → b ≡ false → d ≡ false → (b || d) ≡ false
      neither true d e f = cc
      neither false d e f = f

-- the kind of the output's cell is that of its place
out_kind : (any : Shape → Kinded) (ins : List Shape) (out : Shape) (kinds : List Kinded) (inputs : List ℕ) (o : ℕ)
    → length inputs ≡ length ins
    → list_all (λ place. is_same place.1 (kind_of any place.0)) (zip (ins ++ out ∷ [])
    (map (kind_at kinds) (inputs ++ o ∷ []))) ≡ true → kind_at kinds o ≡ kind_of any out
out_kind any [] out kinds [] o l e =
    same_kinded _ _ (and_both (is_same (kind_at kinds o) (kind_of any out)) true e).0
out_kind any [] out kinds (c ∷ cs) o l e = absurd (omega (arith, l))
out_kind any (s ∷ ss) out kinds [] o l e = absurd (omega (arith, l))
out_kind any (s ∷ ss) out kinds (c ∷ cs) o l e =
    out_kind any ss out kinds cs o (omega (arith, l)) (and_both (is_same (kind_at kinds c) (kind_of any s))
    (list_all (λ place. is_same place.1 (kind_of any place.0))
    (zip (ss ++ out ∷ []) (map (kind_at kinds) (cs ++ o ∷ [])))) e).1

-- ---- the network

module _ (library : List Stored) (related : ℕ → Param → List Point → Point → Type 0)
    (exact : AreExactBy library related) (n : Attached) (s : Premises) (a : Assignment) (points : ℕ → Point)
    (fit : AreFitting library n) (solves : IsSolution (problem_of library n) s a) (settled : AreSettled n a points)
  where
    of_kind : (cell : ℕ) (k : Kinded) → slice_get n.kinds cell ≡ Some k → IsPointOf k.kind k.size (points cell)
    of_kind cell k at =
        single_of_kind k.kind k.size (a cell) (points cell) (solves.kinds cell k at)
        (settled.single cell (in_list n.kinds cell k at))
      where
        in_list : (kinds : List Kinded) (cell : ℕ) (k : Kinded) → slice_get kinds cell ≡ Some k → cell < length kinds
        in_list [] cell k at = absurd (none-some k at)
        in_list (d ∷ kinds) zero k at = omega arith
        in_list (d ∷ kinds) (suc cell) k at = omega (arith, in_list kinds cell k at)

    together : (x : Instance) → IsFitting library n.kinds x → IsWithin (length n.kinds) x
        → Meets a (constraint_of library x)
        → related x.procedure x.param (map points x.inputs) (points x.output)
    together x f w m =
        let p = f.procedure in
        let any = any_at p n.kinds x in
        let none = clear n a points settled x.inputs w.inputs in
        let call = is_call_at p n.kinds x a f.fits w (record { of_kind = solves.kinds }) none in
        let held : Holds (p.value x.param (map a x.inputs)) (points x.output) =
        below_single _ (a x.output) (points x.output) (rw (f.at, none) at m)
        (settled.single x.output w.output) in
        let kind = out_kind any p.ins p.out n.kinds x.inputs x.output f.fits.count (right_at p n.kinds x f.fits) in
        exact x.procedure p f.at any x.param (map a x.inputs) (map points x.inputs) (points x.output) call
        (singles n a points settled x.inputs w.inputs)
        (subst (λ d. IsPointOf d.kind d.size (points x.output)) kind
        (of_kind x.output (kind_at n.kinds x.output) (slice_get-get_or n.kinds x.output span_kind w.output))) held

    solved : ArePoints related n s points
    solved = record {
      of_kind = of_kind;
      stated = λ k d l h. below_single _ _ _ (solves.statements k d l h)
          (settled.single (get_or n.statements k d).cell (settled.within k d l));
      together = λ k d l. together (get_or n.instances k d) (fit.fitting k d l) (fit.within k d l)
          (subst (Meets a)
          (get_or-map (constraint_of library) n.instances k d (constraint_of library d) l)
          (solves.instances k (constraint_of library d)
          (omega (arith, l, length-map n.instances (constraint_of library)))));
    }

pub singles_solve : (library : List Stored) (related : ℕ → Param → List Point → Point → Type 0)
    → AreExactBy library related → SinglesSolve library related
singles_solve library related exact n s a points fit solves settled =
    solved library related exact n s a points fit solves settled

-- ---- libraries of rules in one form each

pub library_is_exact : {R : Type 0} → (form_of : R → Form) (value : R → Param → List Info → Info)
    (related : R → Param → List Point → Point → Type 0)
    → ((rule : R) → IsExact (value rule) (related rule) (form_of rule).ins (form_of rule).out (form_of rule).need)
    → (rules : List R) → AreExactBy (library_of form_of value rules) (related_in related rules)
library_is_exact form_of value related exact [] n p at = absurd (none-some p at)
library_is_exact form_of value related exact (rule ∷ rest) zero p at =
    let same : stored_rule form_of value rule ≡ p = same_Some (stored_rule form_of value rule) p at in
    rw (← same) (exact rule)
library_is_exact form_of value related exact (rule ∷ rest) (suc k) p at =
    library_is_exact form_of value related exact rest k p at
