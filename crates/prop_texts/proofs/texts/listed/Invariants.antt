use Rattle.std.proofs.Common.{◌≡◌, filter, string_bytes}
use Rattle.std.specs.List.{range_with_len}
use Rattle.prop_numbers.specs.Sets.{set_of}
use Rattle.prop_texts.specs.Texts.{premises_text}
use Rattle.prop_texts.specs.inner.Listed.{is_listed}
use Rattle.prop_texts.proofs.texts.listed.Given as goal

abbrev pub invariant-loop-number : goal.invariant-loop-number
invariant-loop-number l = string_bytes l.text ≡ premises_text l.premises
    (filter (is_listed l.believed (set_of l.worldview)) (range_with_len 0 l.number))
