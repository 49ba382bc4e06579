use Rattle.std.proofs.Common.{None}
use Rattle.std.proofs.lemmas.Map.Text.{btree_map_updates_text}
use Rattle.prop_vocabulary.proofs.sorted.forget.Goals as goal

pub returns-then-found-number-clause-gone : goal.returns-then-found-number-clause-gone
returns-then-found-number-clause-gone c = λ e. btree_map_updates_text c.args.name.now c.args.numbers.now
    c.remove.new.self None c.remove.ensures.updates
