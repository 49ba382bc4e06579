use Rattle.std.proofs.Common.{map, take}
use Rattle.prop_language.specs.Said.{passed_of}
use Rattle.prop_notes.specs.Notes.{part_within}
use Rattle.prop_notes.specs.inner.Notes.{AddsPaths}
use Rattle.prop_notes.proofs.notes.push_parts.Given as goal

abbrev pub invariant-loop-part : goal.invariant-loop-part
invariant-loop-part l = AddsPaths l.initial.parts.items
    (map (part_within l.number (passed_of l.passed)) (take l.part-index l.inner)) l.parts.items
