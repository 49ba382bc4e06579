use Rattle.std.proofs.Common.{◌∷◌, ℕ, List, arith, subst}
use Rattle.std.specs.VecDeque.{deque_capacity}
use Rattle.prop_trail.specs.inner.Flags.{IsFlagged}
use Rattle.prop_trail.proofs.FlagLaws.{first_within, first_once, left}
use Rattle.prop_trail.proofs.queue.Queue.leave.Goals as goal

pub index_mut-requires : goal.index_mut-requires
index_mut-requires c =
    let n = c.self.inside in
    let j = c.in_ok-number.number in
    let a : IsFlagged (j ∷ c.pop_front.new.self.items) n.flags.items (deque_capacity n.line) =
    subst (λ (line : List ℕ). IsFlagged line n.flags.items (deque_capacity n.line)) c.in_ok-number.ensures.items
    c.self.invariant in
    let l = first_within j c.pop_front.new.self.items n.flags.items (deque_capacity n.line) a in
    omega (arith, n.flags.ok, l)

pub invariant_of-self-2 : goal.invariant_of-self-2
invariant_of-self-2 c =
    let n = c.self.inside in
    let j = c.in_ok-number.number in
    let a : IsFlagged (j ∷ c.pop_front.new.self.items) n.flags.items (deque_capacity n.line) =
    subst (λ (line : List ℕ). IsFlagged line n.flags.items (deque_capacity n.line)) c.in_ok-number.ensures.items
    c.self.invariant in
    rw c.pop_front.ensures.capacity (left j c.pop_front.new.self.items n.flags.items (deque_capacity n.line) a)

pub returns-clause-within : goal.returns-clause-within
returns-clause-within c =
    let n = c.self.inside in
    let j = c.in_ok-number.number in
    let a : IsFlagged (j ∷ c.pop_front.new.self.items) n.flags.items (deque_capacity n.line) =
    subst (λ (line : List ℕ). IsFlagged line n.flags.items (deque_capacity n.line)) c.in_ok-number.ensures.items
    c.self.invariant in
    rw (← c.self.view_is) (first_within j c.pop_front.new.self.items n.flags.items (deque_capacity n.line) a)

pub returns-clause-once : goal.returns-clause-once
returns-clause-once c =
    let n = c.self.inside in
    let j = c.in_ok-number.number in
    let a : IsFlagged (j ∷ c.pop_front.new.self.items) n.flags.items (deque_capacity n.line) =
    subst (λ (line : List ℕ). IsFlagged line n.flags.items (deque_capacity n.line)) c.in_ok-number.ensures.items
    c.self.invariant in
    first_once j c.pop_front.new.self.items n.flags.items (deque_capacity n.line) a
