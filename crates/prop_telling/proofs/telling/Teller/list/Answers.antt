use Rattle.prop_telling.proofs.telling.Teller.list.Goals as goal

pub returns : goal.returns
returns g c = c.saying.ensures _ c.listed.ensures
