use Rattle.std.proofs.Common.{◌≡◌, ◌∙◌, ◌<◌, ◌++◌, ◌∷◌, [], true, false, length, get_or, refl, sym, arith, inl, inr}
use Rattle.std.specs.VecDeque.{deque_capacity}
use Rattle.std.proofs.lemmas.Grind.{common_steps}
use Rattle.std.proofs.lemmas.List.{get_or_read}
use Rattle.prop_scheduler.proofs.Flags.{has_room, is_listed, not_listed, pushed}
use Rattle.prop_scheduler.proofs.queue.Queue.join.Goals as goal

pub returns-then-index-clause-alerted : goal.returns-then-index-clause-alerted
returns-then-index-clause-alerted c =
    let n = c.self.inside in
    let j = c.args.number in
    let l : j < length n.flags.items = rw (← c.self.view_is) at c.requires in
    let on : get_or n.flags.items j false ≡ true =
    sym (get_or_read n.flags.items j c.index.result.now l c.index.ensures false) ∙ c.if-index.true in
    rw (← c.self.view_is) (inl (
      is_listed n.line.items n.flags.items (deque_capacity n.line) j c.self.invariant on,
      refl,
    ))

pub invariant_of-self : goal.invariant_of-self
invariant_of-self c =
    let n = c.self.inside in
    let j = c.args.number in
    let l : j < length n.flags.items = rw (← c.self.view_is) at c.requires in
    let off : get_or n.flags.items j false ≡ false =
    sym (get_or_read n.flags.items j c.index.result.now l c.index.ensures false) ∙ c.if-index.false in
    let room : length n.line.items < deque_capacity n.line =
    has_room n.line.items n.flags.items (deque_capacity n.line) j c.self.invariant l off in
    let last : c.push_back.new.self.items ≡ n.line.items ++ j ∷ [] =
    grind (arith, common_steps, room, c.push_back.ensures.items, c.push_back.ensures.succeeds, n.line.ok) in
    rw last (pushed n.line.items n.flags.items (deque_capacity n.line) j c.self.invariant l off
    (deque_capacity c.push_back.new.self) c.push_back.ensures.capacity)

pub returns-clause-alerted : goal.returns-clause-alerted
returns-clause-alerted c =
    let n = c.self.inside in
    let j = c.args.number in
    let l : j < length n.flags.items = rw (← c.self.view_is) at c.requires in
    let off : get_or n.flags.items j false ≡ false =
    sym (get_or_read n.flags.items j c.index.result.now l c.index.ensures false) ∙ c.if-index.false in
    let room : length n.line.items < deque_capacity n.line =
    has_room n.line.items n.flags.items (deque_capacity n.line) j c.self.invariant l off in
    let last : c.push_back.new.self.items ≡ n.line.items ++ j ∷ [] =
    grind (arith, common_steps, room, c.push_back.ensures.items, c.push_back.ensures.succeeds, n.line.ok) in
    rw (← c.self.view_is) (inr (
      not_listed n.line.items n.flags.items (deque_capacity n.line) j c.self.invariant l off,
      last,
    ))
