use Rattle.std.proofs.Common.{◌∙◌, ◌*◌, ◌+◌, ◌-◌, sym, ap, get_or}
use Rattle.prop_numbers.specs.Sets.{set_of}
use Rattle.prop_numbers.proofs.PlaceLemmas.{word_bit}
use Rattle.prop_numbers.proofs.words.Words.word_at.Goals as goal

pub returns : goal.returns
returns c i l =
    let first = c.self.inside.first in
    let place = c.args.place in
    sym (word_bit first place c.word_from.result i c.self.inside.words.items c.word_from.ensures.before
    (λ from. c.word_from.ensures.from from ∙ ap (λ ws. get_or ws (place - first) 0) c.deref.ensures) l)
    ∙ ap (λ ns. set_of ns (64 * place + i)) c.self.view_is
