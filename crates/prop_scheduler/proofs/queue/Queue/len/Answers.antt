use Rattle.std.specs.VecDeque.{deque_capacity}
use Rattle.prop_scheduler.proofs.Flags.{is_line}
use Rattle.prop_scheduler.proofs.queue.Queue.len.Goals as goal

pub returns-clause-line : goal.returns-clause-line
returns-clause-line c = let n = c.self.inside in rw (← c.self.view_is)
    (is_line n.line.items n.flags.items (deque_capacity n.line) c.self.invariant)
