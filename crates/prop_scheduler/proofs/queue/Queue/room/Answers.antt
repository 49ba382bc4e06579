use Rattle.std.proofs.Common.{◌≡◌, ◌∙◌, ◌++◌, ◌-◌, ◌+◌, ◌≤◌, false, length, ap, arith}
use Rattle.std.proofs.Math.ListN.{replicate}
use Rattle.std.specs.VecDeque.{deque_capacity}
use Rattle.std.proofs.lemmas.List.{take_all}
use Rattle.prop_scheduler.proofs.Flags.{filled, short_line}
use Rattle.prop_scheduler.proofs.queue.Queue.room.Goals as goal

pub invariant_of-self-2 : goal.invariant_of-self-2
invariant_of-self-2 c =
    let n = c.self.inside in
    let more = c.args.count - n.flags.len in
    let below : length n.flags.items ≤ c.args.count = omega (arith, c.len.ensures, c.if-count-len.false, n.flags.ok) in
    let flags : c.resize.new.self.items ≡ n.flags.items ++ replicate more false = c.in_ok-resize.ensures.items
    ∙ ap (λ xs. xs ++ replicate more false) (take_all c.args.count n.flags.items below) in
    let short = short_line n.line.items n.flags.items (deque_capacity n.line) c.self.invariant in
    let room : length n.flags.items + more ≤ deque_capacity c.reserve.new.self =
    omega (
      arith,
      below,
      short,
      c.len-2.ensures,
      c.in_ok-reserve.ensures.ok,
      c.in_ok-reserve.ensures.len,
      n.flags.ok,
      n.line.ok,
    ) in
    rw (flags, c.in_ok-reserve.ensures.items)
    (filled n.line.items n.flags.items (deque_capacity n.line) (deque_capacity c.reserve.new.self) more
    c.self.invariant room)
