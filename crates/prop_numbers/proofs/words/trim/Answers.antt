use Rattle.std.proofs.Common.{◌∙◌, ap}
use Rattle.prop_numbers.specs.Words.{has_bit}
use Rattle.prop_numbers.proofs.WordLemmas.{has_bit-trimmed, IsTrimmed-cut}
use Rattle.prop_numbers.proofs.words.trim.Goals as goal

pub returns-clause-bits : goal.returns-clause-bits
returns-clause-bits c p =
    ap (λ ws. has_bit ws p) c.truncate.ensures.items ∙ has_bit-trimmed c.args.words.now.items c.trimmed_len-len.result
    (rw c.deref.ensures at c.trimmed_len-len.ensures.rest) p

pub returns-clause-trimmed : goal.returns-clause-trimmed
returns-clause-trimmed c =
    let cut = rw c.deref.ensures at c.trimmed_len-len.ensures in
    IsTrimmed-cut c.args.words.now.items c.truncate.new.self.items c.trimmed_len-len.result c.truncate.ensures.items
    cut.within cut.rest cut.last
