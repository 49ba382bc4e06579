use Rattle.std.proofs.Common.{◌∙◌, sym}
use Rattle.prop_lessons.proofs.PairLemmas.{same_relations}
use Rattle.prop_lessons.proofs.params.is_same_relation.Goals as goal
use Rattle.prop_lessons.proofs.params.is_same_relation.Goals.{then-is_same_side, else-is_same_side}

pub returns-then-is_same_side-2 : goal.returns-then-is_same_side-2
returns-then-is_same_side-2 c h = elim c.if-is_same_side.branch [
  | then-is_same_side w ↦ same_relations c.args.one.now c.args.other.now c.from.ensures.whole c.from-2.ensures.whole
      (sym c.from.ensures.from ∙ (c.is_same_side.ensures w.if-is_same_side.true ∙ c.from-2.ensures.from))
      (sym w.to.ensures ∙ (w.is_same_side-then-is_same_side.ensures (sym w.value-is ∙ c.if-is_same_side-2.true)
      ∙ w.to-then-is_same_side.ensures)) (c.have_same_pairs.ensures h)
  | else-is_same_side w ↦ (let no : ⊥ = cc in absurd no)
]
