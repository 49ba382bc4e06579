-- What a call of an instance tells of points.
use Rattle.std.proofs.Common.{◌≡◌, ◌≢◌, ℕ, ◌<◌, Bool, true, false, List, [], ◌∷◌, ◌++◌, length, map, zip}
use Rattle.std.proofs.Common.{refl, subst, arith, All, Contains}
use Rattle.std.specs.List.{AllByRecursion, AllZip, list_all, list_any}
use Rattle.std.proofs.lemmas.List.Elements.{All-contains, All-head, All-tail, All-weaker}
use Rattle.prop_lattice.specs.Points.{Point, Holds, IsPointOf}
use Rattle.prop_lattice.specs.Order.{is_contradiction}
use Rattle.prop_lattice.specs.Rank.{IsOf}
use Rattle.prop_lattice.specs.declared.info.Info.{Info}
use Rattle.prop_lattice.specs.declared.info.Info.TheVariants.{Nothing, Contradiction}
use Rattle.prop_numbers.specs.Sets.{Members}
use Rattle.prop_procedures.specs.Fitting.{kind_at}
use Rattle.prop_procedures.specs.Rules.{IsCall, IsCallAt, kind_of}
use Rattle.prop_procedures.specs.Stored.{Stored, value_of}
use Rattle.prop_procedures.specs.declared.shape.Kinded.{Kinded}
use Rattle.prop_procedures.specs.declared.shape.Shape.{Shape}
use Rattle.prop_procedures.specs.inner.Places.{AreOf, ArePointsOf, is_same}
use Rattle.prop_cells.specs.Instances.{Fits, Instance, IsFitting, IsWithin}
use Rattle.prop_cells.specs.Points.{Attached, ArePoints}
use Rattle.prop_cells.proofs.Fitted.{and_both, any_at, is_call_at, right_at, same_kinded}
use Rattle.prop_refuting.specs.Calls.{Answers, AreArguments}
use Rattle.prop_plans.specs.Held.{AreHeld}
use Rattle.prop_refuting.proofs.PlaceLemmas.{cell_in_range}

abbrev is_place : (Shape → Kinded) → (Shape × Kinded) → Bool
is_place any place = is_same place.1 (kind_of any place.0)

-- the kinds of an instance's cells are those of its procedure's places
abbrev AreRight : (Shape → Kinded) → List Kinded → List Shape → Shape → List ℕ → ℕ → Type 0
AreRight any kinds ins out inputs o =
    list_all (is_place any) (zip (ins ++ out ∷ []) (map (kind_at kinds) (inputs ++ o ∷ []))) ≡ true

arguments_of : (any : Shape → Kinded) (kinds : List Kinded) (ins : List Shape) (out : Shape) (inputs : List ℕ) (o : ℕ)
    (args : List Info) → length inputs ≡ length ins → AreRight any kinds ins out inputs o
    → AreArguments kinds inputs args → AreOf any ins args × AllByRecursion (λ a. a ≢ Contradiction) args
arguments_of any kinds [] out [] o [] l e h = (tt, tt)
arguments_of any kinds [] out [] o (a ∷ args) l e h = absurd h
arguments_of any kinds [] out (c ∷ cs) o args l e h = absurd (omega (arith, l))
arguments_of any kinds (s ∷ ss) out [] o args l e h = absurd (omega (arith, l))
arguments_of any kinds (s ∷ ss) out (c ∷ cs) o [] l e h = absurd h
arguments_of any kinds (s ∷ ss) out (c ∷ cs) o (a ∷ args) l e h =
    let both = and_both (is_same (kind_at kinds c) (kind_of any s))
    (list_all (is_place any) (zip (ss ++ out ∷ []) (map (kind_at kinds) (cs ++ o ∷ [])))) e in
    let rest = arguments_of any kinds ss out cs o args (omega (arith, l)) both.1 h.1 in
    let P : Kinded → Type 0 = λ k. IsOf k.kind k.size a in
    ((subst P (same_kinded _ _ both.0) h.0.0, rest.0), (h.0.1, rest.1))

points_of : (any : Shape → Kinded) (kinds : List Kinded) (ins : List Shape) (out : Shape) (inputs : List ℕ) (o : ℕ)
    (points : ℕ → Point) → length inputs ≡ length ins → AreRight any kinds ins out inputs o
    → All (λ c. IsPointOf (kind_at kinds c).kind (kind_at kinds c).size (points c)) inputs
    → IsPointOf (kind_at kinds o).kind (kind_at kinds o).size (points o)
    → ArePointsOf any ins (map points inputs) × IsPointOf (kind_of any out).kind (kind_of any out).size (points o)
points_of any kinds [] out [] o points l e h k =
    let P : Kinded → Type 0 = λ d. IsPointOf d.kind d.size (points o) in
    (tt, subst P (same_kinded _ _ (and_both (is_same (kind_at kinds o) (kind_of any out)) true e).0) k)
points_of any kinds [] out (c ∷ cs) o points l e h k = absurd (omega (arith, l))
points_of any kinds (s ∷ ss) out [] o points l e h k = absurd (omega (arith, l))
points_of any kinds (s ∷ ss) out (c ∷ cs) o points l e h k =
    let Q : ℕ → Type 0 = λ i. IsPointOf (kind_at kinds i).kind (kind_at kinds i).size (points i) in
    let both = and_both (is_same (kind_at kinds c) (kind_of any s))
    (list_all (is_place any) (zip (ss ++ out ∷ []) (map (kind_at kinds) (cs ++ o ∷ [])))) e in
    let P : Kinded → Type 0 = λ d. IsPointOf d.kind d.size (points c) in
    let rest = points_of any kinds ss out cs o points (omega (arith, l)) both.1 (All-tail Q c cs h) k in
    ((subst P (same_kinded _ _ both.0) (All-head Q c cs h), rest.0), rest.1)

none_clash : (cells : List ℕ) → list_any is_contradiction (map (λ c. Nothing) cells) ≡ false
none_clash [] = refl
none_clash (c ∷ cs) = none_clash cs

-- arguments of the cells' kinds make a call of the instance's procedure
pub call_at : (p : Stored) (kinds : List Kinded) (x : Instance) (args : List Info) → Fits p kinds x
    → IsWithin (length kinds) x → AreArguments kinds x.inputs args
    → IsCallAt (any_at p kinds x) p.ins p.need x.param args
call_at p kinds x args f w h =
    let blank = is_call_at p kinds x (λ c. Nothing) f w (record { of_kind = λ c k e. tt }) (none_clash x.inputs) in
    let own = arguments_of (any_at p kinds x) kinds p.ins p.out x.inputs x.output args f.count (right_at p kinds x f) h
    in record { admits = blank.admits; sides = blank.sides; of_kinds = own.0; clear = own.1 }

module _ (library : List Stored) (n : Attached) (x : Instance) (f : IsFitting library n.kinds x)
    (w : IsWithin (length n.kinds) x) where
  pub is_call : (args : List Info) → AreArguments n.kinds x.inputs args
      → IsCall f.procedure.ins f.procedure.need x.param args
  is_call args h = (any_at f.procedure n.kinds x, call_at f.procedure n.kinds x args f.fits w h)

  -- the answer leaves what the arguments leave of points that belong together
  pub answers : (args : List Info) → AreArguments n.kinds x.inputs args → Contains n.instances x
      → Answers library n x args (value_of library x.procedure x.param args)
  answers args h c = record { arguments = h; holds = λ s points p held. value_holds s points p held }
    where
      value_holds : (s : Members) (points : ℕ → Point) → ArePoints (AreHeld library) n s points
          → AllZip Holds args (map points x.inputs)
          → Holds (value_of library x.procedure x.param args) (points x.output)
      value_holds s points p held =
          let q = f.procedure in
          let inputs = All-weaker (λ c. c < length n.kinds)
          (λ i. IsPointOf (kind_at n.kinds i).kind (kind_at n.kinds i).size (points i))
          (cell_in_range n points p) x.inputs w.inputs in
          let at = points_of (any_at q n.kinds x) n.kinds q.ins q.out x.inputs x.output points f.fits.count
          (right_at q n.kinds x f.fits) inputs (cell_in_range n points p x.output w.output) in
          let together = All-contains (λ (y : Instance). AreHeld library y.procedure y.param (map points y.inputs)
          (points y.output)) n.instances x p.together c in
          let holds = together x.procedure q f.at (any_at q n.kinds x) x.param args (map points x.inputs)
          (points x.output) (call_at q n.kinds x args f.fits w h) at.0 at.1 held (refl, refl, refl, refl) in
          rw f.at holds
