use Rattle.std.proofs.Common.{◌∙◌, ◌∷◌, [], ap, sym, append_assoc, append-nil}
use Rattle.std.proofs.lemmas.List.Elements.{recursion_from_All}
use Rattle.std.specs.String.{string_bytes}
use Rattle.prop_texts.specs.Texts.{premises_text}
use Rattle.prop_texts.proofs.TextLemmas.{premises_text_more}
use Rattle.prop_texts.proofs.labels.premises_text.Goals as goal

pub loop-premise-init : goal.loop-premise-init
loop-premise-init c =
    let all = c.into_iter-premise-iterator.ensures.into_iter_gives ∙ c.iter-premise-items.ensures.all in
    record {
      so_far = all;
      text = c.new-text.ensures.bytes;
      known = rw all (recursion_from_All _ c.args.set.now c.requires);
    }

pub loop-premise-preserved : goal.loop-premise-preserved
loop-premise-preserved c =
    let step = c.in-Some.ensures.steps in
    let kept = c.loop-premise.invariant in
    let known = rw step at kept.known in
    let whole = rw step at kept.so_far in
    record {
      so_far = append_assoc c.loop-premise.yielded (c.in-Some.premise ∷ []) c.next.new.self ∙ whole;
      text = c.in_ok-push_label.ensures ∙ premises_text_more c.args.premises.now c.loop-premise.yielded
          c.in-Some.premise (string_bytes c.loop-premise.text) kept.text;
      known = known.1;
    }

pub push_label-requires : goal.push_label-requires
push_label-requires c = (rw c.in-Some.ensures.steps at c.loop-premise.invariant.known).0

pub returns-clause-text : goal.returns-clause-text
returns-clause-text c =
    let end = c.in-None.ensures.steps.0 in
    let whole = rw end at c.loop-premise.invariant.so_far in
    c.loop-premise.invariant.text ∙ ap (premises_text c.args.premises.now)
    (sym (append-nil c.loop-premise.yielded) ∙ whole)
