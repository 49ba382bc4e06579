use Rattle.prop_texts.proofs.texts.worldview_reply.Goals as goal

pub returns : goal.returns
returns c = c.saying.ensures _ c.worldview_text.ensures
