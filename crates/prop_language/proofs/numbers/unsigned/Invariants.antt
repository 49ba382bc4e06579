use Rattle.std.proofs.Common.{◌≡◌, ◌<◌, ◌^◌, drop}
use Rattle.prop_language.specs.inner.Digits.{number_after}
use Rattle.prop_language.proofs.numbers.unsigned.Given as goal

abbrev pub invariant-loop-byte : goal.invariant-loop-byte
invariant-loop-byte l = record {
  rest : number_after l.number (drop l.byte-index l.digits) ≡ number_after 0 l.digits;
  fits : l.number < 2 ^ 64;
}
