use Rattle.std.proofs.Common.{◌≡◌, ◌-◌, arith, subst}
use Rattle.std.specs.Int.{w64}
use Rattle.std.proofs.Math.Facts.{Fits-lt-pow}
use Rattle.prop_numbers.specs.inner.Words.{HasFrom}
use Rattle.prop_numbers.proofs.WordLemmas.{HasFrom-word}
use Rattle.prop_numbers.proofs.bits.trimmed_len.Goals as goal

pub returns-else-words-len-eq0-clause-last : goal.returns-else-words-len-eq0-clause-last
returns-else-words-len-eq0-clause-last c n e =
    let last : c.loop-len.len - 1 ≡ n = omega (arith, e) in
    subst (HasFrom c.args.words.now) last
    (HasFrom-word c.args.words.now (c.loop-len.len - 1) (Fits-lt-pow {w = w64} (c.type_inv.words
    (c.loop-len.len - 1))) c.if-words-len-eq0.false)
