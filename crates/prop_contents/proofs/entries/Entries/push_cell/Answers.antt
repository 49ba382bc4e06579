use Rattle.std.proofs.Common.{◌≡◌, ◌∙◌, ◌++◌, ◌∷◌, [], ap}
use Rattle.prop_contents.proofs.BearingLemmas.{bear_cell, bear_equal}
use Rattle.prop_contents.proofs.entries.Entries.push_cell.Goals as goal

pub invariant_of-self-2 : goal.invariant_of-self-2
invariant_of-self-2 c =
    let n = c.self.inside in
    let pushed : c.push.new.self.items ≡ n.cells.items ++ [] ∷ [] = c.in_ok-push.ensures.items
    ∙ ap (λ x. n.cells.items ++ x ∷ []) c.new.ensures in (
      bear_equal 64 (n.cells.items ++ [] ∷ []) c.push.new.self.items n.blocks.items pushed
          (bear_cell 64 n.cells.items n.blocks.items c.self.invariant.0),
      bear_equal 4_096 (n.cells.items ++ [] ∷ []) c.push.new.self.items n.regions.items pushed
          (bear_cell 4_096 n.cells.items n.regions.items c.self.invariant.1),
    )
