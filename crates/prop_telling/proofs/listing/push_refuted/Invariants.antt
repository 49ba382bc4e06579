use Rattle.std.proofs.Common.{◌≡◌, ◌++◌, map, string_bytes}
use Rattle.std.specs.List.{range_with_len}
use Rattle.prop_telling.specs.Listing.{refuted_line}
use Rattle.prop_telling.proofs.listing.push_refuted.Given as goal

abbrev pub invariant-loop-number : goal.invariant-loop-number
invariant-loop-number l = map string_bytes l.lines.items ≡ map string_bytes l.initial.lines.items
    ++ map (refuted_line l.premises l.fn.choice l.reasons) (range_with_len 0 l.number)
