-- What is entailed holds the points that satisfy a state, and none satisfy what is refuted.
use Rattle.std.proofs.Common.{ℕ, List, get_or, map, refl}
use Rattle.prop_lattice.specs.declared.info.Info.{Info}
use Rattle.prop_lattice.specs.Points.{Point}
use Rattle.prop_numbers.specs.Sets.{Members, IsPart, set_of}
use Rattle.prop_premises.specs.Origins.{IsNumbered}
use Rattle.prop_premises.specs.ChoiceLists.{worldview}
use Rattle.prop_procedures.specs.declared.shape.Param.{Param}
use Rattle.prop_procedures.specs.Stored.{Stored}
use Rattle.prop_cells.specs.Problems.{Entails}
use Rattle.prop_cells.specs.Points.{AreSoundBy, AreFitting}
use Rattle.prop_cells.proofs.PointLaws.{entailed_holds, points_consistent}
use Rattle.prop_amb.specs.Refuted.{IsRefuted}
use Rattle.prop_amb.proofs.RefutedLaws.{believed_refutes}
use Rattle.prop_workbench.specs.Machine.{State, problem_in, choices_in}
use Rattle.prop_workbench.specs.inner.Machine.{users_in}
use Rattle.prop_workbench.specs.Points.{attached_in, AreHeld, NoneSatisfy, RelatedSatisfy}
use Rattle.prop_workbench.specs.inner.Points.{HoldsPoints}
use Rattle.prop_workbench.proofs.AgreeLaws.{believed_is_user}

-- each procedure's answers hold the points that it holds
held_are_sound : (library : List Stored) → AreSoundBy library (AreHeld library)
held_are_sound library n p at any param args points point call of_kinds of_kind each held =
    held n p at any param args points point call of_kinds of_kind each (refl, refl, refl, refl)

-- points that belong together are held, where each procedure's answers hold such
related_are_held : (library : List Stored) (related : ℕ → Param → List Point → Point → Type 0)
    → AreSoundBy library related → (n : ℕ) (param : Param) (points : List Point) (point : Point)
    → related n param points point → AreHeld library n param points point
related_are_held library related sound n param points point together m p at any q args ps x call of_kinds of_kind each
    (here, to, of, so) =
    sound m p at any q args ps x call of_kinds of_kind each (rw (here, to, of, so) together)

pub related_satisfy : (library : List Stored) (related : ℕ → Param → List Point → Point → Type 0)
    → AreSoundBy library related → RelatedSatisfy library related
related_satisfy library related sound s believed points p = record {
  of_kind = p.of_kind;
  stated = p.stated;
  together = λ k d l. let x = get_or s.instances k d in related_are_held library related sound x.procedure x.param
      (map points x.inputs) (points x.output) (p.together k d l);
}

-- what the worldview entails holds the points that satisfy it
pub entailed_holds_points : (library : List Stored) (s : State) (believed : Members) (cell : ℕ) (v : Info)
    → AreFitting library (attached_in s) → Entails (problem_in library s) believed cell v
    → HoldsPoints library s believed cell v
entailed_holds_points library s believed cell v fit entailed points satisfy =
    entailed_holds library (AreHeld library) (held_are_sound library) (attached_in s) believed points fit satisfy cell v
    entailed

-- no points satisfy refuted premises of the user's, with any side of each choice
pub none_satisfy : (library : List Stored) (s : State) (ps : List ℕ) → AreFitting library (attached_in s)
    → IsNumbered s.premises → IsPart (set_of ps) (users_in s)
    → IsRefuted (problem_in library s) (choices_in s) (set_of ps) → NoneSatisfy library s ps
none_satisfy library s ps fit numbered believes refuted list is_list points satisfy =
    believed_refutes (problem_in library s) (choices_in s) (set_of ps) (set_of ps)
    (λ q h. numbered.users q (believed_is_user s.premises q (believes q h))) (λ q h. h) refuted list is_list
    (points_consistent library (AreHeld library) (held_are_sound library) (attached_in s)
    (worldview (set_of ps) (choices_in s) list) points fit satisfy)
