-- The values of places.
use Rattle.std.proofs.Common.{◌≡◌, ℕ, ◌-◌, ◌<◌, zero, suc, Bool, true, false, nat_lt, if◌then◌else◌, List, [], ◌∷◌}
use Rattle.std.proofs.Common.{length, Option, Some, None, slice_get, slice_index, refl, sym, subst, arith}
use Rattle.std.specs.Option.{option_map_or}
use Rattle.std.proofs.lemmas.Bool.{ltb-true, lt-ltb}
use Rattle.std.proofs.lemmas.Option.{none-some, same_Some, slice_get-get_or}
use Rattle.prop_lattice.specs.Points.{Point, Number, Element, Symbol, IsPointOf}
use Rattle.prop_lattice.specs.declared.info.Kind.{Kind}
use Rattle.prop_lattice.specs.declared.info.Kind.TheVariants as kinds
use Rattle.prop_numbers.specs.Sets.{Members}
use Rattle.prop_premises.specs.ChoiceLists.{IsChoiceList, IsSide}
use Rattle.prop_premises.specs.declared.choice.Choice.{Choice}
use Rattle.prop_procedures.specs.Fitting.{kind_at}
use Rattle.prop_procedures.specs.Stored.{span_kind}
use Rattle.prop_procedures.specs.declared.shape.Kinded.{Kinded}
use Rattle.prop_procedures.specs.declared.shape.Param.{Param}
use Rattle.prop_cells.specs.Points.{Attached, ArePoints}
use Rattle.prop_facts.specs.Facts.{IsInRange}
use Rattle.prop_refuting.specs.Places.{kind_at_place, kind_of_sides, point_at}

pub in_range_of : (kind : Kind) (size : ℕ) (p : Point) → IsPointOf kind size p → IsInRange p
in_range_of kinds.Span size (Number v) h = h
in_range_of kind size (Element i) h = tt
in_range_of kind size (Symbol i) h = tt
in_range_of kind size (Number v) h = absurd h

-- a place is a cell, or it lies behind all cells
pub which_place : (n : Attached) (place : ℕ) (P : Type 0) → (place < length n.kinds → P)
    → (nat_lt place (length n.kinds) ≡ false → P) → P
which_place n place P f g = by (nat_lt place (length n.kinds)) refl
  where
    by : (t : Bool) → nat_lt place (length n.kinds) ≡ t → P
    by true e = f (ltb-true place (length n.kinds) e)
    by false e = g e

pub at_cell : (n : Attached) (points : ℕ → Point) (list : List ℕ) (cell : ℕ) → cell < length n.kinds
    → point_at n points list cell ≡ points cell
at_cell n points list cell l = rw (lt-ltb cell (length n.kinds) l) refl

pub behind_cells : (n : Attached) (points : ℕ → Point) (list : List ℕ) (place : ℕ)
    → nat_lt place (length n.kinds) ≡ false
    → point_at n points list place ≡ Element (slice_index list (place - length n.kinds) - 1)
behind_cells n points list place e = rw e refl

module _ {related : ℕ → Param → List Point → Point → Type 0} (n : Attached) {s : Members} (points : ℕ → Point)
    (p : ArePoints related n s points) where
  pub cell_in_range : (cell : ℕ) → cell < length n.kinds
      → IsPointOf (kind_at n.kinds cell).kind (kind_at n.kinds cell).size (points cell)
  cell_in_range cell l = p.of_kind cell (kind_at n.kinds cell) (slice_get-get_or n.kinds cell span_kind l)

  pub place_in_range : (list : List ℕ) (place : ℕ) → IsInRange (point_at n points list place)
  place_in_range list place = which_place n place (IsInRange (point_at n points list place))
      (λ l. let P : Point → Type 0 = IsInRange in subst P (sym (at_cell n points list place l))
      (in_range_of (kind_at n.kinds place).kind (kind_at n.kinds place).size (points place) (cell_in_range place l)))
      (λ e. let P : Point → Type 0 = IsInRange in subst P (sym (behind_cells n points list place e)) tt)

-- the side that a list takes of a choice is one of its sides
pub side_taken : (choices : List Choice) (list : List ℕ) (c : ℕ) (choice : Choice) → IsChoiceList choices list
    → slice_get choices c ≡ Some choice → IsSide choice (slice_index list c)
side_taken [] list c choice h e = absurd (none-some choice e)
side_taken (x ∷ choices) [] c choice h e = absurd h
side_taken (x ∷ choices) (side ∷ list) zero choice h e =
    let P : Choice → Type 0 = λ y. IsSide y side in subst P (same_Some x choice e) h.0
side_taken (x ∷ choices) (side ∷ list) (suc c) choice h e = side_taken choices list c choice h.1 e

-- the value of a place is of the place's kind
pub of_place_kind : {related : ℕ → Param → List Point → Point → Type 0} (n : Attached) {s : Members}
    (points : ℕ → Point) → ArePoints related n s points → (choices : List Choice) (list : List ℕ)
    → IsChoiceList choices list → (place : ℕ) (k : Kinded) → kind_at_place n choices place ≡ Some k
    → IsPointOf k.kind k.size (point_at n points list place)
of_place_kind {related} n {s} points p choices list h place k e = by (nat_lt place (length n.kinds)) refl e
  where
    behind : (o : Option Choice) → slice_get choices (place - length n.kinds) ≡ o
        → option_map_or (λ choice. Some (kind_of_sides choice)) o None ≡ Some k
        → IsPointOf k.kind k.size (Element (slice_index list (place - length n.kinds) - 1))
    behind None at e = absurd (none-some k e)
    behind (Some choice) at e =
        let side = side_taken choices list (place - length n.kinds) choice h at in
        let P : Kinded → Type 0 = λ y. IsPointOf y.kind y.size
        (Element (slice_index list (place - length n.kinds) - 1)) in
        subst P (same_Some (kind_of_sides choice) k e) (omega (arith, side.0, side.1))

    by : (t : Bool) → nat_lt place (length n.kinds) ≡ t
        → (if t then slice_get n.kinds place else
        option_map_or (λ choice. Some (kind_of_sides choice)) (slice_get choices (place - length n.kinds)) None)
        ≡ Some k → IsPointOf k.kind k.size (if t then points place else
        Element (slice_index list (place - length n.kinds) - 1))
    by true t e = p.of_kind place k e
    by false t e = behind (slice_get choices (place - length n.kinds)) refl e
