use Rattle.std.proofs.Common.{◌≡◌, ◌∙◌, ◌<◌, ◌≤◌, true, false, length, get_or, sym, arith}
use Rattle.std.specs.VecDeque.{deque_capacity}
use Rattle.std.proofs.lemmas.List.{get_or_read, length-set}
use Rattle.prop_trail.proofs.FlagLaws.{flag_tells, has_room, pushed, joined_there, joined_last}
use Rattle.prop_trail.proofs.queue.Queue.join.Goals as goal

pub returns-then-index : goal.returns-then-index
returns-then-index c =
    let n = c.self.inside in
    let j = c.args.number in
    let l : j < length n.flags.items = rw (← c.self.view_is) at c.requires in
    let on : get_or n.flags.items j false ≡ true =
    sym (get_or_read n.flags.items j c.index.result.now l c.index.ensures false) ∙ c.if-index.true in
    let there = flag_tells n.line.items n.flags.items (deque_capacity n.line) j true c.self.invariant on in
    joined_there c.args.self.now j (rw (← c.self.view_is) there)

pub push_back_reserved-requires : goal.push_back_reserved-requires
push_back_reserved-requires c =
    let n = c.self.inside in
    let j = c.args.number in
    let l : j < length n.flags.items = rw (← c.self.view_is) at c.requires in
    let off : get_or n.flags.items j false ≡ false =
    sym (get_or_read n.flags.items j c.index.result.now l c.index.ensures false) ∙ c.if-index.false in
    let room : length n.line.items < deque_capacity n.line =
    has_room n.line.items n.flags.items (deque_capacity n.line) j c.self.invariant l off in
    omega (arith, room, n.line.ok)

pub invariant_of-self : goal.invariant_of-self
invariant_of-self c =
    let n = c.self.inside in
    let j = c.args.number in
    let l : j < length n.flags.items = rw (← c.self.view_is) at c.requires in
    let off : get_or n.flags.items j false ≡ false =
    sym (get_or_read n.flags.items j c.index.result.now l c.index.ensures false) ∙ c.if-index.false in
    let same : deque_capacity n.line ≤ deque_capacity c.push_back_reserved.new.self =
    omega (arith, c.push_back_reserved.ensures.capacity) in
    rw c.push_back_reserved.ensures.items
    (pushed n.line.items n.flags.items (deque_capacity n.line) j c.self.invariant l off
    (deque_capacity c.push_back_reserved.new.self) same)

pub returns : goal.returns
returns c =
    let n = c.self.inside in
    let j = c.args.number in
    let q = c.args.self.now in
    let l : j < length n.flags.items = rw (← c.self.view_is) at c.requires in
    let off : get_or n.flags.items j false ≡ false =
    sym (get_or_read n.flags.items j c.index.result.now l c.index.ensures false) ∙ c.if-index.false in
    let gone = flag_tells n.line.items n.flags.items (deque_capacity n.line) j false c.self.invariant off in
    rw (← c.self.view_is)
    (joined_last _ j c.push_back_reserved.new.self.items _ c.push_back_reserved.ensures.items
    (length-set n.flags.items j true) gone)
