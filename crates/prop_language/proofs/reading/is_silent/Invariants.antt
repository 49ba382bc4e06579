use Rattle.std.proofs.Common.{◌≡◌, drop}
use Rattle.prop_language.specs.Reading.{is_silent}
use Rattle.prop_language.proofs.reading.is_silent.Given as goal

abbrev pub invariant-loop-byte : goal.invariant-loop-byte
invariant-loop-byte l = is_silent (drop l.byte-index l.text) ≡ is_silent l.text
