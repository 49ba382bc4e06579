use Rattle.prop_texts.proofs.texts.value_reply.Goals as goal

pub returns : goal.returns
returns c = c.saying.ensures _ c.format.ensures.ok
