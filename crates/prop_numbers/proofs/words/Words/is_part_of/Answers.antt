use Rattle.std.proofs.Common.{◌∙◌, ◌*◌, sym, ap}
use Rattle.prop_numbers.specs.Sets.{set_of}
use Rattle.prop_numbers.specs.Words.{numbers_from}
use Rattle.prop_numbers.proofs.WithinLemmas.{is_within-told}
use Rattle.prop_numbers.proofs.words.Words.is_part_of.Goals as goal

pub returns : goal.returns
returns c =
    let own = 64 * c.self.inside.first in
    let theirs = 64 * c.other.inside.first in
    rw (← c.self.view_is, ← c.other.view_is)
    (is_within-told (set_of (numbers_from theirs c.other.inside.words.items))
    (numbers_from own c.self.inside.words.items) c.is_part.result
    (λ t p h. ap (λ ws. set_of (numbers_from theirs ws) p) (sym c.deref-2.ensures)
    ∙ c.is_part.ensures.part t p (ap (λ ws. set_of (numbers_from own ws) p) c.deref.ensures ∙ h))
    (λ f. (
    let out = c.is_part.ensures.apart f in (
      out.0,
      ap (λ ws. set_of (numbers_from own ws) out.0) (sym c.deref.ensures) ∙ out.1,
      ap (λ ws. set_of (numbers_from theirs ws) out.0) (sym c.deref-2.ensures) ∙ out.2,
    ))))
