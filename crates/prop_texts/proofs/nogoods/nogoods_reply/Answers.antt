use Rattle.prop_texts.proofs.nogoods.nogoods_reply.Goals as goal

pub returns-clause-says : goal.returns-clause-says
returns-clause-says c = c.saying.ensures _ c.nogoods_text.ensures.text
