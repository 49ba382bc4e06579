-- Which premises can't all hold (conflicts), and which of them have to be given up (repairs).
use Rattle.std.specs.Prelude.{ℕ, List, not, ◌&&◌, IsTrue}
use Rattle.prop_lattice.specs.Points.{Point}
use Rattle.prop_numbers.specs.Sets.{Members, IsPart, set_of, without}
use Rattle.prop_premises.specs.ChoiceLists.{IsChoiceList, worldview}
use Rattle.prop_premises.specs.Origins.{Origin, believed_in, choices_of}
use Rattle.prop_procedures.specs.Stored.{Stored}
use Rattle.prop_cells.specs.Data.{Data}
use Rattle.prop_cells.specs.Points.{ArePoints, Attached}
use Rattle.prop_plans.specs.Held.{AreHeld, attached_of}
use Rattle.prop_hitting.specs.declared.conflict.Conflict.{Conflict}

-- a library of procedures, cells with statements and instances, and premises
pub record Ground : Type 0 where
  pub library : List Stored
  pub attached : Attached
  pub premises : List Origin

abbrev pub ground_at : List Stored → Data → List Origin → Ground
ground_at library d premises =
    record { library = library; attached = attached_of d; premises = premises }

-- the premises fit: some points satisfy what they say, with a side of each choice
abbrev pub Fits : Ground → Members → Type 0
Fits g s = (list : List ℕ) × (points : ℕ → Point) × IsChoiceList (choices_of g.premises) list
    × ArePoints (AreHeld g.library) g.attached
    (worldview s (choices_of g.premises) list) points

-- the premises are believed, and can't all hold
pub record IsRefuted (g : Ground) (by : List ℕ) : Type 0 where
  pub believed : IsPart (set_of by) (believed_in g.premises)
  pub none : Fits g (set_of by) → ⊥

-- without any one of these premises the others fit
abbrev pub IsLeast : Ground → List ℕ → Type 0
IsLeast g by = (p : ℕ) → IsTrue (set_of by p) → Fits g (without (set_of by) p)

-- the premises of a conflict can't all hold; where it is known to be least, the others fit without
-- any one of them
pub record IsConflict (g : Ground) (c : Conflict) : Type 0 where
  pub refuted : IsRefuted g c.premises
  pub least : IsTrue c.is_least → IsLeast g c.premises

-- what is in the first and not in the second
abbrev pub less : Members → Members → Members
less s t p = s p && not (t p)

-- A repair: without these believed premises the other believed ones fit. If any one of these is not
-- given up, they don't.
pub record IsRepair (g : Ground) (out : List ℕ) : Type 0 where
  pub believed : IsPart (set_of out) (believed_in g.premises)
  pub fits : Fits g (less (believed_in g.premises) (set_of out))
  pub least : (p : ℕ) → IsTrue (set_of out p)
      → Fits g (less (believed_in g.premises) (without (set_of out) p)) → ⊥
