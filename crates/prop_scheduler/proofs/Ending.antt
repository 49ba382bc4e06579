-- How runs end.
use Rattle.std.proofs.Common.{◌≡◌, ℕ, ◌<◌, ◌≤◌, List, length, map, refl, arith}
use Rattle.std.proofs.lemmas.List.{length-map}
use Rattle.std.proofs.lemmas.List.Elements.{All-weaker}
use Rattle.std.proofs.lemmas.Option.{slice_get_within}
use Rattle.prop_procedures.specs.Stored.{Stored}
use Rattle.prop_contents.specs.Contents.{beliefs}
use Rattle.prop_cells.proofs.Adding.{beliefs_of_kinds}
use Rattle.prop_cells.specs.inner.Problems.{Premises}
use Rattle.prop_cells.specs.Instances.{constraint_of}
use Rattle.prop_cells.specs.Data.{Data, problem_of}
use Rattle.prop_scheduler.specs.Agendas.{Waiting, IsLine}
use Rattle.prop_scheduler.specs.Turns.{IsUnderWay, Turns}
use Rattle.prop_scheduler.specs.Turns.Turns.{none, more}
use Rattle.prop_scheduler.specs.Potential.{potential, most_steps}
use Rattle.prop_scheduler.proofs.Bounds.{most_is_most}

-- where nothing waits there is no turn
pub no_turns : {O : Type 0} (picks : O → ℕ → ℕ → O → Type 0) (library : List Stored) (s : Premises) (start : Data)
    (line : List ℕ) (order : O) (n : ℕ) (d : Data) (after : List ℕ) (last : O) →
    Turns picks library s start line order n d after last → length line ≡ 0 → (n ≡ 0) × (length after ≡ 0)
no_turns picks library s start line order _ _ _ _ none e = (refl, e)
no_turns picks library s start line order _ _ _ _ (more n place d new waiting after before next turns picked turn) e =
    let idle = no_turns picks library s start line order n d waiting before turns e in
    absurd (omega (arith, idle.1, slice_get_within waiting place turn.called turn.waits))

-- a network under way, whose line has no instance twice, can take no more than the most steps
pub under_way_within : (library : List Stored) (s : Premises) (d : Data) (a : Waiting) → IsLine a.line a.room
    → IsUnderWay library s d a.line →
    potential (problem_of library d) (beliefs s d.contents) a.line ≤ most_steps (problem_of library d)
under_way_within library s d a line under_way =
    let n = length-map d.instances (constraint_of library) in
    most_is_most (problem_of library d) (beliefs s d.contents) a.line (beliefs_of_kinds d under_way.kept.made s)
    (record {
      once = line.once;
      below = All-weaker (λ j. j < length d.instances) (λ j. j < length (map (constraint_of library) d.instances))
          (λ j h. omega (arith, h, n)) a.line under_way.line_below;
    })
