use Rattle.std.proofs.Common.{◌≡◌, ◌++◌, map, take, string_bytes}
use Rattle.prop_seeking.specs.inner.Pieces.{lines_text}
use Rattle.prop_seeking.proofs.texts.push_lines.Given as goal

abbrev pub invariant-loop-line : goal.invariant-loop-line
invariant-loop-line l = string_bytes l.text ≡ string_bytes l.initial.text
    ++ lines_text (map string_bytes (take l.line-index l.lines))
