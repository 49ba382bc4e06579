use Rattle.std.proofs.Common.{◌≤◌, IsTrue, length}
use Rattle.std.proofs.lemmas.List.Elements.{All-filter}
use Rattle.std.proofs.lemmas.List.Kept.{IsNonDecreasingBy-filter}
use Rattle.prop_numbers.specs.Sets.{set_of, is_within}
use Rattle.prop_nogoods.specs.inner.Endings.{EndsSo}
use Rattle.prop_nogoods.proofs.StoreLemmas.{is_without}
use Rattle.prop_nogoods.proofs.ending.Ending.purge.Goals as goal

pub invariant_of-self : goal.invariant_of-self
invariant_of-self c =
    let sets = c.self.inside.nogoods.items in
    let kept = is_without c.args.premise in
    rw c.drop_holding.ensures.left (
      All-filter kept (EndsSo c.self.inside.last) sets c.self.invariant.0,
      IsNonDecreasingBy-filter length kept sets c.self.invariant.1,
      All-filter kept (λ line. IsTrue (is_within (set_of line) c.self.inside.common)) sets c.self.invariant.2,
      All-filter kept (λ line. length line ≤ c.self.inside.largest) sets c.self.invariant.3,
    )
