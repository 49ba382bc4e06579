use Rattle.std.proofs.Common.{◌∙◌, ap, sym}
use Rattle.prop_numbers.specs.Sets.{set_of, is_within, IsPart}
use Rattle.prop_numbers.specs.Signatures.{remainders}
use Rattle.prop_numbers.proofs.SignatureLemmas.{no_part}
use Rattle.prop_nogoods.proofs.listed.Listed.is_part_of.Goals as goal

pub returns-else-is_part_of : goal.returns-else-is_part_of
returns-else-is_part_of c =
    let apart : ¬ (IsPart (remainders c.self.inside.signature) (remainders c.other.inside.signature)) =
    (λ part. cc (c.is_part_of.ensures.1 part, c.if-is_part_of.false)) in
    c.if-is_part_of.false
    ∙ sym (no_part (set_of c.other.inside.counted) c.self.inside.counted
    (remainders c.self.inside.signature) (remainders c.other.inside.signature) c.self.invariant.1 c.other.invariant.1
    apart)
    ∙ ap (λ s. is_within (set_of s) c.self.inside.counted) c.other.view_is
    ∙ ap (is_within (set_of c.args.other.now)) c.self.view_is
