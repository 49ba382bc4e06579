use Rattle.std.proofs.Common.{◌≡◌, ◌<◌, get_or, length, List, ap, arith, sym, subst, ◌∙◌}
use Rattle.std.proofs.lemmas.List.Elements.{All-same}
use Rattle.prop_numbers.specs.Sets.{set_of}
use Rattle.prop_premises.specs.Origins.{believed_in, choices_of}
use Rattle.prop_plans.specs.Held.{attached_of}
use Rattle.prop_refuting.specs.Nogoods.{Nogood}
use Rattle.prop_lessons.specs.Lessons.{AreTaught, Stands, Taught}
use Rattle.prop_lessons.proofs.StandLemmas.{recalled_more}
use Rattle.prop_lessons.proofs.lessons.Lessons.recall.Goals as goal
use Rattle.prop_lessons.proofs.lessons.Lessons.recall.Goals.{then-leaves+in_ok-copy+in_ok-push, else-leaves}

pub loop-nogood-preserved : goal.loop-nogood-preserved
loop-nogood-preserved c library taught =
    let T : Taught → Type 0 = AreTaught library in
    let known = subst T (sym c.self.view_is) taught in
    let there = rw c.in-Some.is at c.in_ok-standing.ensures.there in
    let believed = rw c.in-Some.is at c.in_ok-standing.ensures.believed in
    let l : c.loop-nogood.nogood-index < length c.self.inside.nogoods.items =
    omega (arith, c.loop-nogood-test.true, ap length c.deref-nogood-items.ensures.value) in
    elim c.if-leaves.branch [
      | then-leaves+in_ok-copy+in_ok-push w ↦ recalled_more library c.self.inside.past (attached_of c.args.cells.now)
          (choices_of c.args.premises.now) (set_of c.in-Some.standing) (believed_in c.args.premises.now)
          c.self.inside.nogoods.items c.loop-nogood.recalled.items c.if-leaves.recalled.items
          c.loop-nogood.nogood-index c.len.result c.nogood-item.result w.in_ok-copy.field-0 there believed
          (c.leaves.ensures.premises w.if-leaves.true) c.len.ensures.count (c.leaves.ensures.meant w.if-leaves.true)
          known l
          (let P : List Nogood → Type 0 =
          λ xs. c.nogood-item.result ≡ get_or xs c.loop-nogood.nogood-index c.nogood-item.result
          in subst P c.deref-nogood-items.ensures.value c.nogood-item.is)
          w.in_ok-copy.ensures (ap (λ v. v.items) w.recalled-is ∙ w.in_ok-push.ensures.items)
          (c.loop-nogood.invariant library taught)
      | else-leaves w ↦ All-same
          (Stands library (attached_of c.args.cells.now) (choices_of c.args.premises.now)
          (believed_in c.args.premises.now)) c.if-leaves.recalled.items c.loop-nogood.recalled.items
          (ap (λ v. v.items) w.recalled-is) (c.loop-nogood.invariant library taught)
    ]
