use Rattle.std.proofs.Common.{◌≡◌, ◌||◌, ℕ, length, take}
use Rattle.prop_numbers.specs.Words.{has_bit}
use Rattle.prop_premises.specs.Origins.{believed_in}
use Rattle.prop_premises.specs.inner.Named.{origins_of}
use Rattle.prop_premises.proofs.table.Table.set_believed.Given as goal

abbrev pub invariant-loop-place : goal.invariant-loop-place
invariant-loop-place l = record {
  len : length l.words ≡ length l.fn.words;
  bits : (p : ℕ) → has_bit l.words p ≡ (has_bit l.fn.words p || believed_in
      (origins_of (take l.place l.self-inside.names.entries)) p);
}
