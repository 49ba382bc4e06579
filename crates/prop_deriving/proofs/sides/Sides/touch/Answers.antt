use Rattle.std.proofs.Common.{arith, refl}
use Rattle.prop_deriving.proofs.SidingLemmas.{sidings_touched, touched}
use Rattle.prop_deriving.proofs.sides.Sides.touch.Goals as goal

pub returns-in_ok-push : goal.returns-in_ok-push
returns-in_ok-push c = sidings_touched c.args.self.now _ _ c.args.place c.args.number c.self.view_is refl
    (touched (λ row. row.items) c.self.inside.touching.items c.args.place c.args.number c.index_mut.result.now
    c.push.new.self (omega arith) c.index_mut.ensures.value c.in_ok-push.ensures.items)
