use Rattle.std.proofs.Common.{◌<◌, length, arith}
use Rattle.std.specs.VecDeque.{deque_capacity}
use Rattle.prop_scheduler.proofs.Flags.{listed, flag_within, taken}
use Rattle.prop_scheduler.proofs.queue.Queue.take.Goals as goal

pub index_mut-requires : goal.index_mut-requires
index_mut-requires c =
    let n = c.self.inside in
    let l : c.args.place < length n.line.items = rw (← c.self.view_is) at c.requires in
    let on = listed n.line.items n.flags.items (deque_capacity n.line) c.args.place c.in-Some.number c.self.invariant l
    c.in-Some.ensures.value in
    omega (arith, n.flags.ok, flag_within n.flags.items c.in-Some.number on)

pub invariant_of-self : goal.invariant_of-self
invariant_of-self c =
    let n = c.self.inside in
    let l : c.args.place < length n.line.items = rw (← c.self.view_is) at c.requires in
    rw (c.in-Some.ensures.items, c.leave.ensures.capacity)
    (taken n.line.items n.flags.items (deque_capacity n.line) c.args.place c.in-Some.number c.self.invariant l
    c.in-Some.ensures.value)
