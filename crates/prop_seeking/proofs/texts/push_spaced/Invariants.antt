use Rattle.std.proofs.Common.{◌≡◌, ◌++◌, ◌∷◌, map, take, string_bytes}
use Rattle.std.specs.Prelude.{flat_map}
use Rattle.prop_seeking.proofs.texts.push_spaced.Given as goal

abbrev pub invariant-loop-other : goal.invariant-loop-other
invariant-loop-other l = string_bytes l.text ≡ string_bytes l.initial.text
    ++ flat_map (λ other. 32 ∷ other) (map string_bytes (take l.other-index l.others))
