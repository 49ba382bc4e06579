use Rattle.std.proofs.Common.{◌≡◌, ◌&&◌, filter, is_some, string_bytes}
use Rattle.std.specs.List.{range_with_len}
use Rattle.prop_numbers.specs.Sets.{set_of}
use Rattle.prop_premises.specs.Origins.{side_at}
use Rattle.prop_texts.specs.Texts.{premises_text}
use Rattle.prop_notes.proofs.texts.sides_text.Given as goal

abbrev pub invariant-loop-number : goal.invariant-loop-number
invariant-loop-number l = string_bytes l.text ≡ premises_text l.premises
    (filter (λ p. set_of l.worldview p && is_some (side_at l.premises p)) (range_with_len 0 l.number))
