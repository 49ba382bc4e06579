-- A settled network is consistent.
use Rattle.std.proofs.Common.{List}
use Rattle.prop_procedures.specs.Stored.{Stored}
use Rattle.prop_contents.specs.Contents.{beliefs}
use Rattle.prop_cells.specs.Problems.{IsConsistent}
use Rattle.prop_cells.specs.inner.Problems.{Premises}
use Rattle.prop_cells.specs.Data.{Data, problem_of}
use Rattle.prop_scheduler.specs.Turns.{IsSettled}

pub settled_consistent : (library : List Stored) (s : Premises) (d : Data) → IsSettled library s d
    → IsConsistent (problem_of library d) s
settled_consistent library s d settled =
    record { solution = beliefs s d.contents; solves = settled.least.solves; free = settled.free }
