use Rattle.prop_texts.proofs.texts.contradiction_reply.Goals as goal

pub returns-in-Ok-clause-says : goal.returns-in-Ok-clause-says
returns-in-Ok-clause-says c = rw (← c.in-Ok.ensures.text) (c.saying.ensures _ c.format.ensures.ok)
