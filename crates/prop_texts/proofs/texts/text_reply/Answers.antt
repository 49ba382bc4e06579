use Rattle.prop_texts.proofs.texts.text_reply.Goals as goal

pub returns : goal.returns
returns c = c.saying.ensures _ c.from_str.ensures.ok
