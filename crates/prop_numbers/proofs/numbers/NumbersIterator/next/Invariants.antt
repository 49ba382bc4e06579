use Rattle.std.proofs.Common.{◌≡◌, ◌+◌, ◌*◌, ◌≤◌, ◌∷◌, length}
use Rattle.prop_numbers.specs.Words.{numbers_from}
use Rattle.prop_numbers.proofs.numbers.NumbersIterator.next.Given as goal

abbrev pub invariant-loop-self : goal.invariant-loop-self
invariant-loop-self l = record {
  same : numbers_from l.self-inside.base (l.self-inside.word ∷ l.self-inside.rest.now) ≡ l.fn.self;
  room : l.self-inside.base + 64 * (1 + length l.self-inside.rest.now) ≤ 65_536;
}

abbrev pub decreases-loop-self : goal.decreases-loop-self
decreases-loop-self l = length l.self-inside.rest.now
