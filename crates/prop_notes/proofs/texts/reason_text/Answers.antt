use Rattle.std.proofs.Common.{◌∙◌, ◌∷◌, [], ap, sym, append_assoc, append-nil}
use Rattle.std.specs.String.{string_bytes}
use Rattle.prop_texts.specs.Texts.{premises_text}
use Rattle.prop_texts.proofs.TextLemmas.{premises_text_more}
use Rattle.prop_notes.proofs.texts.reason_text.Goals as goal

pub loop-premise-init : goal.loop-premise-init
loop-premise-init c = record {
  so_far = c.into_iter-premise-iterator.ensures.into_iter_gives ∙ c.iter-premise-items.ensures.all;
  text = c.new-text.ensures.bytes;
}

pub loop-premise-preserved : goal.loop-premise-preserved
loop-premise-preserved c =
    let step = c.in-Some.ensures.steps in
    let kept = c.loop-premise.invariant in
    let whole = rw step at kept.so_far in
    record {
      so_far = append_assoc c.loop-premise.yielded (c.in-Some.premise ∷ []) c.next.new.self ∙ whole;
      text = c.in_ok-push_any.ensures ∙ premises_text_more c.args.premises.now c.loop-premise.yielded
          c.in-Some.premise (string_bytes c.loop-premise.text) kept.text;
    }

pub returns : goal.returns
returns c =
    let end = c.in-None.ensures.steps.0 in
    let whole = rw end at c.loop-premise.invariant.so_far in
    c.loop-premise.invariant.text ∙ ap (premises_text c.args.premises.now)
    (sym (append-nil c.loop-premise.yielded) ∙ whole)
