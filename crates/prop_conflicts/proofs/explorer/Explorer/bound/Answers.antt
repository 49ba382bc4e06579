use Rattle.prop_conflicts.proofs.explorer.Explorer.bound.Goals as goal

pub returns : goal.returns
returns c = λ g h. c.floor.ensures c.args.self.now.conflicts.items c.args.self.now.repairs.items h.knows.sought
