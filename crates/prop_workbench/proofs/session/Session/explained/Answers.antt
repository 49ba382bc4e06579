use Rattle.std.proofs.Common.{length, refl}
use Rattle.prop_procedures.specs.Kept.{stored_of}
use Rattle.prop_numbers.specs.Sets.{set_of}
use Rattle.prop_cells.specs.Data.{problem_of}
use Rattle.prop_texts.specs.Texts.{because}
use Rattle.prop_workbench.proofs.PremiseLemmas.{support_known}
use Rattle.prop_workbench.proofs.AskLemmas.{explained_by}
use Rattle.prop_workbench.proofs.ReasonLemmas.{lean_explained}
use Rattle.prop_workbench.proofs.session.Session.explained.Goals as goal

pub said_because-requires-clause-known : goal.said_because-requires-clause-known
said_because-requires-clause-known g c =
    let s = c.args.self.now in
    let explains = rw c.network.ensures at c.in-Ok.ensures.explains in
    support_known (problem_of (stored_of g.R.Rule.value_of s.live.network.library) s.live.network.cells)
    (length s.search.premises) c.args.cell c.in-Ok.why.support c.requires.sound.at_work.known
    explains.related

pub returns-clause-explained : goal.returns-clause-explained
returns-clause-explained g c =
    let s = c.args.self.now in
    explained_by (stored_of g.R.Rule.value_of s.live.network.library) s.names s.words s.definitions s.search.premises
    s.live.network.cells s.limit (set_of c.args.worldview.now) c.args.cell c.in-Ok.why.value c.args.name.now
    c.args.mark.now c.in-Ok.why.support
    (because s.search.premises c.args.mark.now c.in-Ok.why.support) _
    (rw c.network.ensures at c.in-Ok.ensures.value) c.said_because.ensures.0
    (rw c.network.ensures at c.in-Ok.ensures.explains) refl c.said_because.ensures.1

pub returns-clause-lean : goal.returns-clause-lean
returns-clause-lean g c =
    let s = c.args.self.now in
    lean_explained (set_of c.args.worldview.now) s.names s.words s.definitions s.search.premises s.live.network.cells
    s.limit
    c.args.cell c.in-Ok.why.value c.args.name.now c.args.mark.now c.in-Ok.why.support
    (because s.search.premises c.args.mark.now c.in-Ok.why.support) _
    (rw c.network.ensures at c.in-Ok.ensures.value) (rw c.network.ensures at c.in-Ok.ensures.lean) refl
    c.said_because.ensures.1
