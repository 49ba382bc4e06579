use Rattle.std.proofs.Common.{◌∙◌, ◌++◌, ap, subst}
use Rattle.prop_refuting.specs.Nogoods.{Nogood}
use Rattle.prop_solve.specs.Leaving.{NarrowsAll}
use Rattle.prop_solve.proofs.earlier.with_more.Goals as goal

pub returns : goal.returns
returns c =
    let g = c.args.nogood.now in
    let P : Nogood → Type 0 = λ x. NarrowsAll x c.without_implied.result in
    let is = c.new.ensures ∙ (λ i. record {
      literals = (c.in_ok-extend_from_slice.ensures.items
          ∙ ap (λ l. l ++ c.args.more.now) (c.in_ok-literals.ensures.items ∙ c.literals.ensures)) i;
      premises = (c.in_ok-premises.ensures ∙ c.premises.ensures) i;
    }) in
    subst P is c.without_implied.ensures
