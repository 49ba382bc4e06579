use Rattle.std.proofs.Common.{◌≡◌, ◌∙◌, List, ℕ, codes, refl, ap, inl, inr, Some}
use Rattle.prop_numbers.specs.Sets.{Members, set_of}
use Rattle.prop_procedures.specs.Kept.{stored_of}
use Rattle.prop_contents.specs.Contents.{beliefs}
use Rattle.prop_language.specs.Commands as commands
use Rattle.prop_vocabulary.specs.Cells.{cell_named}
use Rattle.prop_texts.specs.Texts.{equation, because}
use Rattle.prop_workbench.specs.Machine.{worldview_at}
use Rattle.prop_workbench.specs.inner.Machine.{text_at}
use Rattle.prop_workbench.specs.Running.{Unsettled}
use Rattle.prop_workbench.specs.Sessions.{state_of, work_of}
use Rattle.prop_workbench.proofs.AskLemmas.{may_say_unsettled, may_say_value, may_explain, cell_there, unsettled_in}
use Rattle.prop_workbench.proofs.AskLemmas.{explained_in}
use Rattle.prop_workbench.proofs.PremiseLemmas.{same_set}
use Rattle.prop_workbench.proofs.ReasonLemmas.{the_text, lean_answer, lean_bare, so_far_bare}
use Rattle.prop_workbench.proofs.session.Session.so_far.Goals as goal

pub belief-requires : goal.belief-requires
belief-requires g c = rw c.network.ensures (cell_there c.args.self.now c.in-Ask.name.now c.in-Ask.cell
    c.requires.sound (rw c.in-Ask.is at c.requires.named))

pub value_of-requires : goal.value_of-requires
value_of-requires g c = cell_there c.args.self.now c.in-Ask.name.now c.in-Ask.cell c.requires.sound
    (rw c.in-Ask.is at c.requires.named)

pub explained-requires-clause-cell : goal.explained-requires-clause-cell
explained-requires-clause-cell g c =
    cell_there c.args.self.now c.in-Why.name.now c.in-Why.cell c.requires.sound (rw c.in-Why.is at c.requires.named)

pub explained-requires-clause-sound : goal.explained-requires-clause-sound
explained-requires-clause-sound g c = c.requires.sound

pub returns-in-Settle-clause-says : goal.returns-in-Settle-clause-says
returns-in-Settle-clause-says g c =
    let s = c.args.self.now in
    may_say_unsettled (stored_of g.R.Rule.value_of s.live.network.library) (state_of s) s.search.list c.args.question _
    s.limit c.in-Settle.is refl c.text_reply.ensures

pub returns-in-Ask-clause-says : goal.returns-in-Ask-clause-says
returns-in-Ask-clause-says g c =
    let s = c.args.self.now in
    let value = g.R.Rule.value_of in
    let cell = c.in-Ask.cell in
    let name = c.in-Ask.name.now in
    let whole = set_of c.args.whole.now in
    let same = same_set whole (worldview_at (state_of s) s.search.list) c.requires.whole in
    let v = beliefs whole s.live.network.cells.contents cell in
    let named : cell_named s.names name ≡ Some cell = rw c.in-Ask.is at c.requires.named in
    rw c.in-Ask.is (may_say_value (stored_of value s.live.network.library) (state_of s) (commands.Command.Ask name)
    (Unsettled s.search.list) name cell v (codes " unsettled") _ s.limit named
    (unsettled_in value s whole name cell c.requires.sound named same) (λ text r. (r, refl))
    (rw (c.belief.ensures, c.network.ensures) at c.value_of.ensures))

pub returns-in-Why-clause-says : goal.returns-in-Why-clause-says
returns-in-Why-clause-says g c =
    let s = c.args.self.now in
    let value = g.R.Rule.value_of in
    let cell = c.in-Why.cell in
    let name = c.in-Why.name.now in
    let whole = set_of c.args.whole.now in
    let same = same_set whole (worldview_at (state_of s) s.search.list) c.requires.whole in
    let v = beliefs whole s.live.network.cells.contents cell in
    let named : cell_named s.names name ≡ Some cell = rw c.in-Why.is at c.requires.named in
    rw c.in-Why.is (may_explain (stored_of value s.live.network.library) (state_of s) (commands.Command.Why name)
    (Unsettled s.search.list) name cell v (codes " unsettled") _ s.limit named
    (unsettled_in value s whole name cell c.requires.sound named same) (λ text r. (r, refl))
    (explained_in value s whole cell v name (codes " unsettled") _ same c.explained.ensures.explained))

pub returns-in-Settle-clause-lean : goal.returns-in-Settle-clause-lean
returns-in-Settle-clause-lean g c = lean_bare (worldview_at (state_of c.args.self.now) c.args.self.now.search.list)
    c.args.self.now.live.network.cells (state_of c.args.self.now) c.args.question _ c.in-Settle.is

pub returns-in-Ask-clause-lean : goal.returns-in-Ask-clause-lean
returns-in-Ask-clause-lean g c = rw c.in-Ask.is tt

pub returns-in-Why-clause-lean : goal.returns-in-Why-clause-lean
returns-in-Why-clause-lean g c =
    let named : cell_named c.args.self.now.names c.in-Why.name.now ≡ Some c.in-Why.cell =
    rw c.in-Why.is at c.requires.named in
    let same = same_set (set_of c.args.whole.now) (worldview_at (state_of c.args.self.now) c.args.self.now.search.list)
    c.requires.whole in
    rw c.in-Why.is (lean_answer _ _ _ _ _
    (λ text e. inl (c.in-Why.cell, named, inr (rw same at c.explained.ensures.lean text e))))

pub returns-in-Settle-clause-believed : goal.returns-in-Settle-clause-believed
returns-in-Settle-clause-believed g c =
    so_far_bare (state_of c.args.self.now) (work_of c.args.self.now) c.args.question _ c.in-Settle.is

pub returns-in-Ask-clause-believed : goal.returns-in-Ask-clause-believed
returns-in-Ask-clause-believed g c =
    let s = c.args.self.now in
    let cell = c.in-Ask.cell in
    let name = c.in-Ask.name.now in
    let named : cell_named s.names name ≡ Some cell = rw c.in-Ask.is at c.requires.named in
    let says = λ (b : Members). equation name (text_at (state_of s) cell (beliefs b s.live.network.cells.contents cell))
    (codes " unsettled") in
    rw c.in-Ask.is (λ (text : List ℕ) is. (
      cell,
      named,
      the_text _ (says (set_of c.args.whole.now)) text (rw (c.belief.ensures, c.network.ensures) at
          c.value_of.ensures) is
          ∙ ap says (same_set (set_of c.args.whole.now) (worldview_at (state_of s) s.search.list) c.requires.whole),
    ))

pub returns-in-Why-clause-believed : goal.returns-in-Why-clause-believed
returns-in-Why-clause-believed g c =
    let s = c.args.self.now in
    let cell = c.in-Why.cell in
    let name = c.in-Why.name.now in
    let named : cell_named s.names name ≡ Some cell = rw c.in-Why.is at c.requires.named in
    rw c.in-Why.is (λ (text : List ℕ) is.
    let lean = c.explained.ensures.lean text is in
    let says = λ (b : Members). equation name (text_at (state_of s) cell (beliefs b s.live.network.cells.contents cell))
    (because s.search.premises (codes " unsettled") lean.premises) in (
      lean.premises,
      (
        cell,
        named,
        lean.text_is
            ∙ ap says (same_set (set_of c.args.whole.now) (worldview_at (state_of s) s.search.list) c.requires.whole),
      ),
    ))
