use Rattle.std.proofs.Common.{refl, sym}
use Rattle.std.proofs.lemmas.Result.{IfOk-weaker}
use Rattle.prop_procedures.specs.Kept.{stored_of}
use Rattle.prop_explain.proofs.ReducingLaws.{same_problem}
use Rattle.prop_workbench.proofs.AskLemmas.{cover_kept, has_run}
use Rattle.prop_workbench.proofs.session.Session.run_network.Goals as goal

pub returns-clause-keeps : goal.returns-clause-keeps
returns-clause-keeps g c =
    let s = c.args.self.now in
    let e = c.settle.ensures in
    let t = c.settle.new in
    let library = stored_of g.R.Rule.value_of s.live.network.library in
    let library' = stored_of g.R.Rule.value_of t.live.network.library in
    let rest = e.ran.rest in
    let same = e.ran.library in
    let alive = e.alive in
    let learns = e.learns in
    record {
      library = same;
      sound = record {
        at_work = record {
          under_way = alive.under_way;
          well_made = learns.stand;
          search = rw (same_problem library library' s.live.network.cells t.live.network.cells
              (λ i. stored_of g.R.Rule.value_of (same i)) rest) learns.search;
          known = rw (learns.premises, rest) c.requires.sound.at_work.known;
          watched = alive.watched;
        };
        sized = rw rest c.requires.sound.sized;
        locals = c.requires.sound.locals;
        room = rw rest c.requires.sound.room;
        named = rw rest c.requires.sound.named;
        defined = rw same c.requires.sound.defined;
      };
      steps = refl;
      covers = λ m covered. cover_kept s.search t.search m learns.premises learns.listed covered;
    }

pub returns-clause-run : goal.returns-clause-run
returns-clause-run g c =
    let s = c.args.self.now in
    let e = c.settle.ensures in
    let t = c.settle.new in
    let library = stored_of g.R.Rule.value_of s.live.network.library in
    let library' = stored_of g.R.Rule.value_of t.live.network.library in
    let problem = same_problem library library' s.live.network.cells t.live.network.cells
    (λ i. stored_of g.R.Rule.value_of (e.ran.library i)) e.ran.rest in
    has_run g.R.Rule.value_of _ s.search.list _ library c.settle.result (sym problem)
    (sym (λ i. stored_of g.R.Rule.value_of (e.ran.library i))) e.alive.under_way.kept e.learns.stand e.learns.earlier
    e.settled e.contradiction e.steps e.moves e.unsettled

pub returns-clause-left : goal.returns-clause-left
returns-clause-left g c =
    IfOk-weaker c.settle.result _ _ (λ x used e. (used e).left) c.settle.ensures.unsettled
