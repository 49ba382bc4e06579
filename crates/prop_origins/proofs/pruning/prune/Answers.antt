use Rattle.std.proofs.Common.{◌≡◌, ◌∙◌, ◌++◌, ◌∷◌, List, All, length, ap, subst, arith}
use Rattle.std.proofs.lemmas.List.Elements.{All-tail}
use Rattle.prop_origins.specs.Parts.{Part}
use Rattle.prop_origins.specs.Pruned.{pruned, marked_in}
use Rattle.prop_origins.specs.inner.Logs.{IsPartWithin}
use Rattle.prop_origins.proofs.pruning.prune.Goals as goal

pub loop-preserved : goal.loop-preserved
loop-preserved c =
    let p = c.in-Some.part in
    let behind = c.pop_front.new.self.items in
    let items : c.loop.parts.items ≡ p ∷ behind = c.in-Some.ensures.items in
    let n = ap (λ (xs : List Part). length xs) items in
    let left = c.loop.invariant.left in
    record {
      count = c.look.ensures.count ∙ c.loop.invariant.count;
      left = omega (arith, left, n);
      within = All-tail (IsPartWithin c.args.cells) p behind
          (subst (λ (xs : List Part). All (IsPartWithin c.args.cells) xs) items c.loop.invariant.within);
      kept = c.loop.invariant.kept
          ∙ ap (λ (xs : List Part). c.loop.kept.items ++ pruned (marked_in c.loop.marks.items) xs) items
          ∙ c.in_ok-look.ensures.step behind;
    }
