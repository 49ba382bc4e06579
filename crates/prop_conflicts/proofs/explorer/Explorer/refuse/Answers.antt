use Rattle.prop_conflicts.proofs.explorer.Explorer.refuse.Goals as goal

pub returns : goal.returns
returns c = λ g h refuted. record { knows = h.knows; stands = c.new.ensures g refuted }
