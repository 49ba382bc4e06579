use Rattle.std.proofs.lemmas.List.Elements.{All-weaker}
use Rattle.prop_procedures.specs.Kept.{stored_of}
use Rattle.prop_numbers.specs.Sets.{set_of}
use Rattle.prop_explain.proofs.ReducingLaws.{same_problem}
use Rattle.prop_workbench.proofs.AskLemmas.{cover_kept}
use Rattle.prop_workbench.proofs.session.Session.step.Goals as goal

pub returns-clause-sound : goal.returns-clause-sound
returns-clause-sound g c =
    let s = c.args.self.now in
    let e = c.step_once.ensures in
    let t = c.step_once.new in
    let library = stored_of g.R.Rule.value_of s.live.network.library in
    let library' = stored_of g.R.Rule.value_of t.live.network.library in
    let rest = e.ran.rest in
    let same = e.ran.library in
    let order = c.requires.sound.in_order in
    record {
      in_order = record {
        at_work = record {
          under_way = e.alive.under_way;
          well_made = e.stand;
          search = rw (same_problem library library' s.live.network.cells t.live.network.cells
              (λ i. stored_of g.R.Rule.value_of (same i)) rest) e.search;
          known = rw (e.premises, rest) order.at_work.known;
          watched = e.alive.watched;
        };
        sized = rw rest order.sized;
        locals = order.locals;
        room = rw rest order.room;
        named = rw rest order.named;
        defined = rw same order.defined;
      };
      within = c.requires.sound.within;
    }

pub returns-clause-covers : goal.returns-clause-covers
returns-clause-covers g c = λ named covers.
    let s = c.args.self.now.search in
    let e = c.step_once.ensures in
    let t = c.step_once.new.search in
    All-weaker _ _ (λ m. cover_kept s t (set_of m) e.premises e.listed) named covers
