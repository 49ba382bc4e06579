use Rattle.std.proofs.Common.{◌∙◌, sym, arith}
use Rattle.prop_numbers.specs.Sets.{set_of}
use Rattle.prop_numbers.proofs.ChangeLemmas.{covered, no_place}
use Rattle.prop_numbers.proofs.number_set.NumberSet.change.Goals as goal

pub returns : goal.returns
returns c =
    covered (set_of c.args.self.now) (set_of c.args.other.now) c.in-Some.place c.word_at.result c.word_at-2.result
    c.word_at-3.result c.word_at-4.result c.is_some.result c.word_at.ensures c.word_at-2.ensures c.word_at-3.ensures
    c.word_at-4.ensures (λ p low. c.in-Some.ensures.alike p (omega arith) low)
    (λ none p past. c.apart_from-2.ensures.none (no_place c.apart_from-2.result (sym c.is_some.ensures ∙ none)) p past)
