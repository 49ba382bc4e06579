use Rattle.std.proofs.Common.{◌≡◌, ◌++◌, ◌∷◌, map, take, length, codes, decimal, string_bytes}
use Rattle.std.specs.Prelude.{flat_map}
use Rattle.prop_telling.proofs.listing.lines_text.Given as goal

abbrev pub invariant-loop-line : goal.invariant-loop-line
invariant-loop-line l = string_bytes l.text ≡ (codes "list " ++ decimal (length l.lines))
    ++ flat_map (λ line. 10 ∷ line) (map string_bytes (take l.line-index l.lines))
