use Rattle.std.proofs.Common.{◌≡◌, ◌∙◌, sym, subst}
use Rattle.prop_lattice.specs.Order.{Below}
use Rattle.prop_numbers.specs.Sets.{Members, set_of}
use Rattle.prop_procedures.specs.Kept.{stored_of}
use Rattle.prop_contents.specs.Contents.{beliefs}
use Rattle.prop_cells.specs.Problems.{Problem, IsConsistent, Entails}
use Rattle.prop_cells.specs.Reach.{IsConflict}
use Rattle.prop_scheduler.specs.Turns.{IsSettled}
use Rattle.prop_explain.proofs.ReducingLaws.{no_conflict, same_problem, settled_below, settled_entails}
use Rattle.prop_explain.proofs.reducing.attempt.Goals as goal
use Rattle.prop_explain.proofs.reducing.attempt.Goals.{in-Quiet, in-Clash, in-Spent}

no_clash : (old new : Problem) (s n : Members) → new ≡ old → IsConsistent old s → IsConflict new s n → ⊥
no_clash old new s n same consistent conflict =
    no_conflict old s n consistent (subst (λ p. IsConflict p s n) same conflict)

pub returns-clause-enough : goal.returns-clause-enough
returns-clause-enough g c is =
    let library = stored_of g.R.Rule.value_of c.args.live.now.network.library in
    let after = stored_of g.R.Rule.value_of c.run.new.live.network.library in
    let d = c.args.live.now.network.cells in
    let new = c.run.new.live.network.cells in
    let s = set_of c.args.worldview.now in
    let same : c.run.new.live.network.library ≡ c.args.live.now.network.library = c.in_ok-end.ensures.ran.library in
    let rest : new ≡ record d { contents = new.contents } = c.in_ok-end.ensures.ran.rest in
    let problem = same_problem library after d new (λ i. stored_of g.R.Rule.value_of (same i)) rest in
    elim c.match-end.branch [
      | in-Quiet w ↦ (
          let settled : IsSettled after s new = c.in_ok-end.ensures.quiet w.in-Quiet.is in
          let below : Below c.args.claim.value (beliefs s new.contents c.args.claim.cell) =
          rw (w.belief.ensures, w.network.ensures) at w.enough-tried.ensures.enough (sym w.tried-is ∙ is) in
          subst (λ p. Entails p s c.args.claim.cell c.args.claim.value) problem
          (settled_entails after s new c.args.claim.cell c.args.claim.value settled below))
      | in-Clash w ↦ (let e = sym w.tried-is ∙ is in cc)
      | in-Spent w ↦ (let e = sym w.tried-is ∙ is in cc)
    ]

pub returns-clause-too_few : goal.returns-clause-too_few
returns-clause-too_few g c few entailed =
    let library = stored_of g.R.Rule.value_of c.args.live.now.network.library in
    let after = stored_of g.R.Rule.value_of c.run.new.live.network.library in
    let d = c.args.live.now.network.cells in
    let new = c.run.new.live.network.cells in
    let s = set_of c.args.worldview.now in
    let same : c.run.new.live.network.library ≡ c.args.live.now.network.library = c.in_ok-end.ensures.ran.library in
    let rest : new ≡ record d { contents = new.contents } = c.in_ok-end.ensures.ran.rest in
    let problem = same_problem library after d new (λ i. stored_of g.R.Rule.value_of (same i)) rest in
    elim c.match-end.branch [
      | in-Quiet w ↦ (
          let settled : IsSettled after s new = c.in_ok-end.ensures.quiet w.in-Quiet.is in
          let below : Below c.args.claim.value (beliefs s new.contents c.args.claim.cell) =
          settled_below after s new c.args.claim.cell c.args.claim.value settled
          (subst (λ p. Entails p s c.args.claim.cell c.args.claim.value) (sym problem) entailed) in
          w.enough-tried.ensures.too_few (sym w.tried-is ∙ few) (rw (w.belief.ensures, w.network.ensures) below))
      | in-Clash w ↦ no_clash _ _ _ _ problem c.requires.consistent
          (rw w.in-Clash.is at c.in_ok-end.ensures.conflict)
      | in-Spent w ↦ (let e = sym w.tried-is ∙ few in cc)
    ]
