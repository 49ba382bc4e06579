use Rattle.std.proofs.Common.{◌≡◌, [], ap, codes, refl, inl, Some}
use Rattle.prop_numbers.specs.Sets.{set_of}
use Rattle.prop_procedures.specs.Kept.{stored_of}
use Rattle.prop_contents.specs.Contents.{beliefs}
use Rattle.prop_language.specs.Commands as commands
use Rattle.prop_vocabulary.specs.Cells.{cell_named}
use Rattle.prop_texts.specs.Texts.{worldview_text}
use Rattle.prop_workbench.specs.Running.{Settled}
use Rattle.prop_workbench.specs.Sessions.{state_of}
use Rattle.prop_workbench.proofs.AskLemmas.{may_say, may_say_value, may_explain, cell_there, settled_in, explained_in}
use Rattle.prop_workbench.proofs.AskLemmas.{believes_whole}
use Rattle.prop_workbench.proofs.ReasonLemmas.{lean_answer}
use Rattle.prop_workbench.proofs.session.Session.settled.Goals as goal

pub belief-info-requires : goal.belief-info-requires
belief-info-requires g c = rw c.network.ensures (cell_there c.args.self.now c.in-Ask.name.now c.in-Ask.cell
    c.requires.sound (rw c.in-Ask.is at c.requires.named))

pub value_of-requires : goal.value_of-requires
value_of-requires g c = cell_there c.args.self.now c.in-Ask.name.now c.in-Ask.cell c.requires.sound
    (rw c.in-Ask.is at c.requires.named)

pub explained-requires-clause-cell : goal.explained-requires-clause-cell
explained-requires-clause-cell g c =
    cell_there c.args.self.now c.in-Why.name.now c.in-Why.cell c.requires.sound (rw c.in-Why.is at c.requires.named)

pub explained-requires-clause-sound : goal.explained-requires-clause-sound
explained-requires-clause-sound g c = c.requires.sound

pub returns-in-Settle-clause-says : goal.returns-in-Settle-clause-says
returns-in-Settle-clause-says g c =
    let s = c.args.self.now in
    let library = stored_of g.R.Rule.value_of s.live.network.library in
    λ steps. rw c.in-Settle.is (may_say library (state_of s) commands.Command.Settle (Settled s.search.list)
    (codes "settled") _ steps refl c.text_reply.ensures)

pub returns-in-Worldview-clause-says : goal.returns-in-Worldview-clause-says
returns-in-Worldview-clause-says g c =
    let s = c.args.self.now in
    let library = stored_of g.R.Rule.value_of s.live.network.library in
    let same = believes_whole s.search c.requires.sound.at_work.well_made c.requires.rest.full in
    λ steps. rw c.in-Worldview.is (may_say library (state_of s) commands.Command.Worldview (Settled s.search.list)
    (worldview_text s.search.premises (set_of s.search.worldview)) _ steps
    (ap (worldview_text s.search.premises) same)
    (rw (c.premises.ensures, c.worldview.ensures.same) at c.worldview_reply.ensures))

pub returns-in-Ask-clause-says : goal.returns-in-Ask-clause-says
returns-in-Ask-clause-says g c =
    let s = c.args.self.now in
    let value = g.R.Rule.value_of in
    let cell = c.in-Ask.cell in
    let name = c.in-Ask.name.now in
    let v = beliefs (set_of s.search.worldview) s.live.network.cells.contents cell in
    let named : cell_named s.names name ≡ Some cell = rw c.in-Ask.is at c.requires.named in
    λ steps. rw c.in-Ask.is (may_say_value (stored_of value s.live.network.library) (state_of s) (commands.Command.Ask
    name)
    (Settled s.search.list) name cell v [] _ steps named
    (settled_in value s cell c.requires.sound c.requires.rest) (λ text r. r)
    (rw (c.belief-info.ensures, c.network.ensures, c.worldview-in-Ask.ensures.same) at c.value_of.ensures))

pub returns-in-Why-clause-says : goal.returns-in-Why-clause-says
returns-in-Why-clause-says g c =
    let s = c.args.self.now in
    let value = g.R.Rule.value_of in
    let cell = c.in-Why.cell in
    let name = c.in-Why.name.now in
    let v = beliefs (set_of s.search.worldview) s.live.network.cells.contents cell in
    let named : cell_named s.names name ≡ Some cell = rw c.in-Why.is at c.requires.named in
    λ steps. rw c.in-Why.is (may_explain (stored_of value s.live.network.library) (state_of s) (commands.Command.Why
    name)
    (Settled s.search.list) name cell v [] _ steps named
    (settled_in value s cell c.requires.sound c.requires.rest) (λ text r. r)
    (explained_in value s (set_of s.search.worldview) cell v name [] _
    (believes_whole s.search c.requires.sound.at_work.well_made c.requires.rest.full)
    (rw c.worldview-in-Why.ensures.same at c.explained.ensures.explained)))

pub returns-in-Settle-clause-lean : goal.returns-in-Settle-clause-lean
returns-in-Settle-clause-lean g c = rw c.in-Settle.is tt

pub returns-in-Worldview-clause-lean : goal.returns-in-Worldview-clause-lean
returns-in-Worldview-clause-lean g c = rw c.in-Worldview.is tt

pub returns-in-Ask-clause-lean : goal.returns-in-Ask-clause-lean
returns-in-Ask-clause-lean g c = rw c.in-Ask.is tt

pub returns-in-Why-clause-lean : goal.returns-in-Why-clause-lean
returns-in-Why-clause-lean g c =
    let s = c.args.self.now in
    let named : cell_named c.args.self.now.names c.in-Why.name.now ≡ Some c.in-Why.cell =
    rw c.in-Why.is at c.requires.named in
    let whole = believes_whole s.search c.requires.sound.at_work.well_made c.requires.rest.full in
    rw c.in-Why.is (lean_answer _ _ _ _ _
    (λ text e. inl (
      c.in-Why.cell,
      named,
      inl (rw (c.worldview-in-Why.ensures.same, whole) at c.explained.ensures.lean text e),
    )))
