use Rattle.std.proofs.Common.{◌∙◌, ap, sym}
use Rattle.prop_numbers.specs.Sets.{set_of, is_within, IsPart}
use Rattle.prop_numbers.specs.Signatures.{remainders}
use Rattle.prop_numbers.proofs.SignatureLemmas.{no_part}
use Rattle.prop_nogoods.proofs.listed.Listed.is_believed.Goals as goal

pub returns-else-is_part_of : goal.returns-else-is_part_of
returns-else-is_part_of c =
    let w = set_of c.args.worldview.now in
    let apart : ¬ (IsPart (remainders c.self.inside.signature) (remainders c.args.signature)) =
    (λ part. cc (c.is_part_of.ensures.1 part, c.if-is_part_of.false)) in
    c.if-is_part_of.false
    ∙ sym (no_part w c.self.inside.counted (remainders c.self.inside.signature) (remainders c.args.signature)
    c.self.invariant.1 c.requires apart)
    ∙ ap (is_within w) c.self.view_is
