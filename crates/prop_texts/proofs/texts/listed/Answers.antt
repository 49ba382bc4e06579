use Rattle.std.proofs.Common.{◌≡◌, ◌∙◌, ◌+◌, sym, ap, filter, not, if◌then◌else◌}
use Rattle.std.specs.List.{range_with_len}
use Rattle.std.specs.String.{string_bytes}
use Rattle.prop_numbers.specs.Sets.{set_of}
use Rattle.prop_texts.specs.Texts.{premises_text}
use Rattle.prop_texts.specs.inner.Listed.{is_listed}
use Rattle.prop_texts.proofs.TextLemmas.{members_more, members_same}
use Rattle.prop_texts.proofs.texts.listed.Goals as goal
use Rattle.prop_texts.proofs.texts.listed.Goals.{then-is_listed+in_ok-push_label, else-is_listed}

pub loop-number-preserved : goal.loop-number-preserved
loop-number-preserved c =
    let premises = c.args.premises.now in
    let s = is_listed c.args.believed (set_of c.args.worldview.now) in
    let k = c.loop-number.number in
    let tested = ap (λ b. if c.args.believed then b else not b) (sym c.has.ensures) ∙ sym c.is_listed.ensures in
    elim c.if-is_listed.branch as (λ _.
    string_bytes c.if-is_listed.text ≡ premises_text premises (filter s (range_with_len 0 (k + 1)))) [
      | then-is_listed+in_ok-push_label w ↦
          ap string_bytes w.text-is ∙ w.in_ok-push_label.ensures
          ∙ members_more premises s k (string_bytes c.loop-number.text) (tested ∙ w.if-is_listed.true)
          c.loop-number.invariant
      | else-is_listed w ↦ ap string_bytes w.text-is
          ∙ members_same premises s k (string_bytes c.loop-number.text) (tested ∙ w.if-is_listed.false)
          c.loop-number.invariant
    ]
