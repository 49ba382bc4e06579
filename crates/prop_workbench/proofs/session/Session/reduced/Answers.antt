use Rattle.std.proofs.Common.{◌≡◌, ◌∙◌, ◌+◌, ap, length, refl, inr, arith, subst, codes, []}
use Rattle.prop_numbers.specs.Sets.{Members, set_of}
use Rattle.prop_procedures.specs.Kept.{stored_of}
use Rattle.prop_cells.specs.Data.{Data, problem_of}
use Rattle.prop_scheduler.specs.Turns.{IsSettled}
use Rattle.prop_explain.specs.Irreducible.{IfLeast, IfNotReduced}
use Rattle.prop_engine.specs.Answers.{answer_of}
use Rattle.prop_workbench.specs.inner.Carrying.{SaysBecause}
use Rattle.prop_workbench.specs.Machine.{State}
use Rattle.prop_workbench.specs.Sessions.{state_from, state_of}
use Rattle.prop_workbench.proofs.AskLemmas.{believes_whole, cell_there}
use Rattle.prop_workbench.proofs.CoreLemmas.{core_known, rested_keeps, may_core, settled_core, too_few, used_up}
use Rattle.prop_workbench.proofs.session.Session.reduced.Goals as goal

pub reduce-ended-requires-clause-ready : goal.reduce-ended-requires-clause-ready
reduce-ended-requires-clause-ready g c = record {
  kept = c.requires.sound.at_work.under_way.kept;
  line = c.requires.sound.at_work.under_way.line_below;
  watched = c.requires.sound.at_work.watched.below;
}

pub reduce-ended-requires-clause-cell : goal.reduce-ended-requires-clause-cell
reduce-ended-requires-clause-cell g c =
    cell_there c.args.self.now c.args.name.now c.args.cell c.requires.sound c.requires.named

pub reduce-ended-requires-clause-settled : goal.reduce-ended-requires-clause-settled
reduce-ended-requires-clause-settled g c = rw c.worldview.ensures.same c.requires.rest.settled

pub core_text-requires-clause-cell : goal.core_text-requires-clause-cell
core_text-requires-clause-cell g c =
    rw c.reduce-ended.ensures.ran.rest (cell_there c.args.self.now c.args.name.now c.args.cell c.requires.sound
    c.requires.named)

pub core_text-requires-clause-known : goal.core_text-requires-clause-known
core_text-requires-clause-known g c =
    let s = c.args.self.now in
    core_known (problem_of (stored_of g.R.Rule.value_of s.live.network.library) s.live.network.cells) (length
    s.search.premises) _
    c.args.cell _ c.in-Ok.core.end c.requires.sound.at_work.known c.in-Ok.ensures.explains

pub returns-in-Ok-clause-keeps : goal.returns-in-Ok-clause-keeps
returns-in-Ok-clause-keeps g c =
    let s = c.args.self.now in
    let e = c.reduce-ended.ensures in
    let t = c.reduce-ended.new in
    rested_keeps g.R.Rule.value_of s (record s { live = t.live; order = t.order })
    c.requires.sound e.ran.library e.ran.rest e.alive

pub returns-in-Ok-clause-state : goal.returns-in-Ok-clause-state
returns-in-Ok-clause-state g c =
    let s = c.args.self.now in
    ap (λ (d : Data). state_from s.names s.words s.definitions s.search.premises d s.limit)
    c.reduce-ended.ensures.ran.rest

pub returns-in-Ok-clause-says : goal.returns-in-Ok-clause-says
returns-in-Ok-clause-says g c =
    let s = c.args.self.now in
    let library = stored_of g.R.Rule.value_of s.live.network.library in
    let core = c.in-Ok.core.end in
    let name = c.args.name.now in
    let answer = answer_of c.core_text.result in
    let same = c.worldview.ensures.same ∙ refl in
    let believed = believes_whole s.search c.requires.sound.at_work.well_made c.requires.rest.full in
    let rest = subst (λ (b : Members). IsSettled library b s.live.network.cells) believed c.requires.rest.settled in
    let state : state_of (record s { live = c.reduce-ended.new.live }) ≡ state_of s =
    ap (λ (d : Data). state_from s.names s.words s.definitions s.search.premises d s.limit)
    c.reduce-ended.ensures.ran.rest in
    may_core library (state_of s) s.search.list name c.args.cell core answer (c.args.steps + c.in-Ok.core.steps)
    c.requires.named
    (settled_core library s.names s.words s.definitions s.search.premises s.live.network.cells s.limit s.search.list
    (set_of s.search.worldview) c.args.cell core c.requires.sound.at_work.under_way.kept believed rest
    (rw c.worldview.ensures.same at c.in-Ok.ensures.explains))
    c.in-Ok.ensures.least (used_up core c.args.steps c.in-Ok.core.steps s.limit c.requires.within c.in-Ok.ensures.spent)
    (too_few library (state_of s) (set_of c.worldview.result.now) c.args.cell core c.args.steps
    c.requires.sound.at_work.known c.requires.within c.requires.few c.in-Ok.ensures.earned)
    (subst (λ (t : State). IfLeast core (λ v ps. SaysBecause t c.args.cell name [] v ps answer)) state
    c.core_text.ensures.least)
    (subst (λ (t : State). IfNotReduced core
    (λ v ps. SaysBecause t c.args.cell name (codes " not reduced") v ps answer)) state
    c.core_text.ensures.not_reduced)

pub returns-in-Ok-clause-within : goal.returns-in-Ok-clause-within
returns-in-Ok-clause-within g c = omega (arith, c.in-Ok.ensures.steps, c.requires.within)

pub returns-in-Ok-clause-tried : goal.returns-in-Ok-clause-tried
returns-in-Ok-clause-tried g c =
    let s = c.args.self.now in
    let e = c.in-Ok.ensures in
    let believed = believes_whole s.search c.requires.sound.at_work.well_made c.requires.rest.full in
    let tries = rw (c.worldview.ensures.same, believed) at e.tries.1 in
    λ text is. (
      c.in-Ok.core.steps,
      refl,
      record {
        search = refl;
        line = e.tries.0;
        tries = tries;
        woken = e.tries.2;
      },
    )

pub returns-in-Err-clause-keeps : goal.returns-in-Err-clause-keeps
returns-in-Err-clause-keeps g c =
    let s = c.args.self.now in
    let e = c.reduce-ended.ensures in
    let t = c.reduce-ended.new in
    rested_keeps g.R.Rule.value_of s (record s { live = t.live; order = t.order })
    c.requires.sound e.ran.library e.ran.rest e.alive

pub returns-in-Err-clause-state : goal.returns-in-Err-clause-state
returns-in-Err-clause-state g c =
    let s = c.args.self.now in
    ap (λ (d : Data). state_from s.names s.words s.definitions s.search.premises d s.limit)
    c.reduce-ended.ensures.ran.rest

pub returns-in-Err-clause-says : goal.returns-in-Err-clause-says
returns-in-Err-clause-says g c = inr refl

pub returns-in-Err-clause-tried : goal.returns-in-Err-clause-tried
returns-in-Err-clause-tried g c = λ text is. cc is
