use Rattle.std.proofs.Common.{◌∙◌, ◌&&◌, ◌==◌, not, ap, length}
use Rattle.prop_numbers.specs.Words.{has_bit}
use Rattle.prop_numbers.proofs.WordLemmas.{refilled}
use Rattle.prop_numbers.proofs.words.unset.Goals as goal

pub returns-clause-bits : goal.returns-clause-bits
returns-clause-bits c p =
    c.trim.ensures.bits p ∙ ap (λ ws. has_bit ws p)
    (refilled c.args.words.now.items c.clear.new.words (c.clear.ensures.len ∙ ap length c.deref_mut.ensures.value))
    ∙ c.clear.ensures.bits p ∙ ap (λ ws. has_bit ws p && not (c.args.number == p)) c.deref_mut.ensures.value
