use Rattle.std.proofs.Common.{rules, ◌≡◌, ◌∙◌, true, false, sym}
use Rattle.prop_hall.specs.Excluder.{ins_of, out_of}
use Rattle.prop_arith.proofs.Shapes.{same_shape, same_shapes}
use Rattle.prop_hall.proofs.excluder.ExcluderRule.has_form.Goals.{then-eq, else-eq}
use Rattle.prop_hall.proofs.excluder.ExcluderRule.has_form.Goals as goal

pub returns-then-eq-2 : goal.returns-then-eq-2
returns-then-eq-2 c =
    elim c.if-eq.branch [
      | then-eq w ↦ (
          let ins : c.args.ins.now ≡ ins_of c.args.self.now = same_shapes _ _ (sym c.eq.ensures ∙ w.if-eq.true)
          ∙ c.ins.ensures in
          let out : c.args.out ≡ out_of c.args.self.now =
          same_shape _ _ (sym w.eq-then-eq.ensures ∙ sym w.value-is ∙ c.if-eq-2.true) ∙ w.out.ensures in
          let told = c.eq-then-eq-2.ensures in
          let need = c.need.ensures in
          search rules
          )
      | else-eq w ↦ (
          let f : false ≡ true = sym w.if-eq.false ∙ sym w.value-is ∙ c.if-eq-2.true in
          cc
          )
    ]
