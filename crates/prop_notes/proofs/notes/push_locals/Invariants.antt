use Rattle.std.proofs.Common.{map, take, string_bytes}
use Rattle.prop_notes.specs.Notes.{path_within}
use Rattle.prop_notes.specs.inner.Notes.{AddsPaths}
use Rattle.prop_notes.proofs.notes.push_locals.Given as goal

abbrev pub invariant-loop-path : goal.invariant-loop-path
invariant-loop-path l = AddsPaths (map string_bytes l.initial.locals.items)
    (map (path_within l.number) (map string_bytes (take l.path-index l.inner))) (map string_bytes l.locals.items)
