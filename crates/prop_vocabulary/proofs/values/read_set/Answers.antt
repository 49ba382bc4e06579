use Rattle.std.proofs.Common.{refl, sym, ap, ◌∙◌, Ok}
use Rattle.prop_vocabulary.proofs.Choosing.{no_word, none_named, known_more, bits_more, no_element, all_elements}
use Rattle.prop_vocabulary.proofs.values.read_set.Goals as goal

pub returns-then-is_empty : goal.returns-then-is_empty
returns-then-is_empty c = no_word c.args.domain.now c.args.chosen.now c.if-is_empty.ensures

pub loop-word-init : goal.loop-word-init
loop-word-init c = record { known = refl; bits = none_named c.args.domain.now }

pub returns-in_default : goal.returns-in_default
returns-in_default c =
    no_element c.args.domain.now c.args.chosen.now c.loop-word.word-index _ c.loop-word-test.true
    (sym c.in_default.ensures)

pub loop-word-preserved : goal.loop-word-preserved
loop-word-preserved c =
    let names = c.args.domain.now in
    let chosen = c.args.chosen.now in
    let found = sym c.in-Some.ensures in
    record {
      known = known_more names chosen c.loop-word.word-index _ c.in-Some.element c.loop-word-test.true found
          c.loop-word.invariant.known;
      bits = bits_more names chosen c.loop-word.word-index _ c.in-Some.element c.loop-word.bits c.loop-word-test.true
          c.size.ensures.elements found c.loop-word.invariant.bits;
    }

pub returns : goal.returns
returns c =
    ap Ok c.from_bits.ensures ∙ all_elements c.args.domain.now c.args.chosen.now c.loop-word.word-index c.loop-word.bits
    c.loop-word-test.false c.if-is_empty.ensures c.loop-word.invariant.known c.loop-word.invariant.bits
