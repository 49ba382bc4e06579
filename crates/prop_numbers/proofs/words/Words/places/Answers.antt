use Rattle.std.proofs.Common.{◌∙◌, ◌*◌, ◌-◌, ap, arith}
use Rattle.prop_numbers.specs.Sets.{set_of}
use Rattle.prop_numbers.proofs.PlaceLemmas.{from_in}
use Rattle.prop_numbers.proofs.WordLemmas.{within_words}
use Rattle.prop_numbers.proofs.words.Words.places.Goals as goal

pub returns-clause-all : goal.returns-clause-all
returns-clause-all c p h =
    let first = c.self.inside.first in
    let words = c.self.inside.words.items in
    let there = from_in (64 * first) p words (ap (λ ns. set_of ns p) c.self.view_is ∙ h) in
    let within = within_words words (p - 64 * first) there.1 in
    (omega (arith, there.0), omega (arith, there.0, within))
