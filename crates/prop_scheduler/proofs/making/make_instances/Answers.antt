use Rattle.std.proofs.Common.{◌≡◌, ◌≤◌, ◌+◌, ◌∷◌, ◌∙◌, All, ap, arith, drop, length, subst, sym}
use Rattle.std.specs.Vec.Iter.{into_iter_items}
use Rattle.std.proofs.lemmas.List.Elements.{All-tail}
use Rattle.prop_refusals.specs.Refusals.{most}
use Rattle.prop_refusals.specs.declared.refusal.Limit.TheVariants.{Instances}
use Rattle.prop_procedures.specs.Kept.{stored_of}
use Rattle.prop_cells.specs.inner.Back.{GoesBackTo}
use Rattle.prop_cells.proofs.Backing.{goes_back-instances}
use Rattle.prop_scheduler.specs.Making.{MayBeMade}
use Rattle.prop_scheduler.proofs.Placing.{one_made}
use Rattle.prop_scheduler.proofs.making.make_instances.Goals as goal

pub loop-x-preserved : goal.loop-x-preserved
loop-x-preserved g c =
    let library = stored_of g.R.Rule.value_of c.args.network.now.library in
    let old = c.args.network.now.cells in
    let h = c.loop-x.invariant in
    let rest = into_iter_items c.next.new.self in
    let here : into_iter_items c.loop-x.x-iterator ≡ c.in-Some.x ∷ rest =
    c.in-Some.ensures.steps.0 in
    let made = one_made library (stored_of g.R.Rule.value_of c.loop-x.network.library) old c.loop-x.network.cells
    c.make_instance.new.network.cells c.args.cells.now c.args.base.cell c.args.base.param c.in-Some.x
    (into_iter_items c.loop-x.x-iterator) rest c.args.instances.items
    (λ i. stored_of g.R.Rule.value_of (h.same i)) h.rest here c.in_ok-make_instance.ensures.ok h.made in
    let May = MayBeMade library old.kinds (drop c.args.base.param old.params) c.args.cells.now c.args.base.cell in
    let room : length c.make_instance.new.network.cells.instances + length rest ≤ most Instances =
    omega (arith, made.2, ap length here, h.room) in record {
      can = tt;
      finite = tt;
      same = c.in_ok-make_instance.ensures.same ∙ h.same;
      kept = c.in_ok-make_instance.ensures.kept;
      rest = made.0;
      made = made.1;
      may = All-tail May c.in-Some.x rest (subst (All May) here h.may);
      room = room;
      back = λ before back. subst (GoesBackTo before) (sym c.in_ok-make_instance.ensures.ok)
          (goes_back-instances before c.loop-x.network.cells (h.back before back) _);
    }
