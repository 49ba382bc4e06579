use Rattle.std.proofs.Common.{◌≡◌, ◌∙◌, ◌+◌, ◌&&◌, sym, ap, filter, is_some}
use Rattle.std.specs.List.{range_with_len}
use Rattle.std.specs.String.{string_bytes}
use Rattle.prop_numbers.specs.Sets.{Members, set_of}
use Rattle.prop_premises.specs.Origins.{side_at}
use Rattle.prop_texts.specs.Texts.{premises_text}
use Rattle.prop_texts.proofs.TextLemmas.{members_more, members_same}
use Rattle.prop_notes.proofs.texts.sides_text.Goals as goal
use Rattle.prop_notes.proofs.texts.sides_text.Goals.{then-is_side_in+in_ok-push_label, else-is_side_in}

pub loop-number-preserved : goal.loop-number-preserved
loop-number-preserved c =
    let premises = c.args.premises.now in
    let s : Members = λ p. set_of c.args.worldview.now p && is_some (side_at premises p) in
    let k = c.loop-number.number in
    let tested = sym c.is_side_in.ensures in
    elim c.if-is_side_in.branch as (λ _.
    string_bytes c.if-is_side_in.text ≡ premises_text premises (filter s (range_with_len 0 (k + 1)))) [
      | then-is_side_in+in_ok-push_label w ↦
          ap string_bytes w.text-is ∙ w.in_ok-push_label.ensures
          ∙ members_more premises s k (string_bytes c.loop-number.text) (tested ∙ w.if-is_side_in.true)
          c.loop-number.invariant
      | else-is_side_in w ↦ ap string_bytes w.text-is
          ∙ members_same premises s k (string_bytes c.loop-number.text) (tested ∙ w.if-is_side_in.false)
          c.loop-number.invariant
    ]
