use Rattle.std.proofs.Common.{◌≡◌, ◌∙◌, ◌*◌, ◌-◌, false, nat_le, sym, ap, arith, get_or}
use Rattle.std.proofs.lemmas.Bool.Decides.{nat_tests}
use Rattle.prop_numbers.proofs.PlaceLemmas.{below_from, tested_from}
use Rattle.prop_numbers.proofs.words.Words.has.Goals as goal

pub returns-then-place-self : goal.returns-then-place-self
returns-then-place-self c =
    let words = c.self.inside.words.items in
    let first = c.self.inside.first in
    rw (← c.self.view_is) (tested_from first c.place_of-place.result c.args.number c.word_at.result c.bit_of.result
    words c.place_of-place.ensures c.bit_of.ensures
    c.if-place-self.true (c.word_at.ensures ∙ ap (λ ws. get_or ws (c.place_of-place.result - first) 0) c.deref.ensures))

pub returns-else-place-self : goal.returns-else-place-self
returns-else-place-self c =
    let before = c.if-place-self.false in
    let out : nat_le c.self.inside.first c.place_of-place.result ≡ false = grind (arith, nat_tests) in
    rw (← c.self.view_is) (out ∙ sym (below_from (64 * c.self.inside.first) c.args.number c.self.inside.words.items
    (omega
    (arith, before, c.place_of-place.ensures))))
