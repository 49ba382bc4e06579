use Rattle.prop_compound.proofs.definitions.Definitions.made.Goals as goal

pub made_in-requires : goal.made_in-requires
made_in-requires g c = c.new-scope.ensures

pub returns-clause-definition : goal.returns-clause-definition
returns-clause-definition g c = c.made_in.ensures.definition

pub returns-clause-kept : goal.returns-clause-kept
returns-clause-kept g c = c.made_in.ensures.kept

pub returns-clause-over : goal.returns-clause-over
returns-clause-over g c = c.made_in.ensures.over

pub returns-clause-locals : goal.returns-clause-locals
returns-clause-locals g c = c.made_in.ensures.locals

pub returns-clause-fits : goal.returns-clause-fits
returns-clause-fits g c = c.made_in.ensures.fits

pub returns-clause-err : goal.returns-clause-err
returns-clause-err g c = c.made_in.ensures.err
