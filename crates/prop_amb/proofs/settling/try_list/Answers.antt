use Rattle.std.proofs.Common.{◌≢◌, ◌∙◌, ◌+◌, ◌-◌, ◌<◌, length, refl, sym, ap, subst, arith}
use Rattle.std.proofs.lemmas.Bool.{false≢true}
use Rattle.prop_procedures.specs.Kept.{stored_of}
use Rattle.prop_amb.specs.Search.{Stand}
use Rattle.prop_amb.specs.inner.Trying.{Attempted}
use Rattle.prop_amb.proofs.OnWay.{AtLevel}
use Rattle.prop_amb.proofs.SettlingLaws.{search_from}
use Rattle.prop_amb.proofs.DeepeningLaws.{at_level, at_first, list_tried, deepened_on}
use Rattle.prop_amb.proofs.settling.try_list.Goals as goal

pub loop-tried-init : goal.loop-tried-init
loop-tried-init g c = record {
  same = refl;
  alive = c.requires.alive;
  within = omega arith;
  way = at_first g.O.Order.picks (stored_of g.R.Rule.value_of c.args.live.now.network.library) c.args.search.now
      c.args.live.now.network.cells c.args.live.now.agenda.line c.args.order.now c.requires.search
      c.requires.alive.under_way;
}

pub attempt-requires-clause-search : goal.attempt-requires-clause-search
attempt-requires-clause-search g c =
    search_from (stored_of g.R.Rule.value_of) c.args.live.now.network.library c.loop-tried.live.network.library
    c.args.live.now.network.cells c.loop-tried.live.network.cells c.loop-tried.search c.loop-tried.invariant.same
    c.loop-tried.invariant.way.rest c.loop-tried.invariant.way.search

pub believe_more-requires-clause-unblocked : goal.believe_more-requires-clause-unblocked
believe_more-requires-clause-unblocked g c =
    let met = c.in_ok-tried.ensures in
    rw (ap (λ (s : Stand). s.worldview) met.only) (met.unblocked c.in-Quiet.is)

pub loop-tried-preserved : goal.loop-tried-preserved
loop-tried-preserved g c =
    let a : AtLevel g.O.Order.picks (stored_of g.R.Rule.value_of c.args.live.now.network.library) c.loop-tried.search
    c.loop-tried.live.network.cells c.loop-tried.live.agenda.line c.loop-tried.order (c.args.budget -
    c.loop-tried.steps)
    c.in_ok-tried.tried.end c.in_ok-tried.tried.steps c.attempt.new.search c.attempt.new.live.network.cells
    c.attempt.new.live.agenda.line c.attempt.new.order =
    at_level (stored_of g.R.Rule.value_of) c.args.live.now.network.library c.loop-tried.live.network.library
    g.O.Order.picks
    c.loop-tried.search c.loop-tried.live.network.cells c.loop-tried.live.agenda.line c.loop-tried.order
    (c.args.budget - c.loop-tried.steps) c.in_ok-tried.tried.end c.in_ok-tried.tried.steps
    c.attempt.new.search c.attempt.new.live.network.cells c.attempt.new.live.agenda.line c.attempt.new.order
    c.loop-tried.invariant.same
    (record {
      only = c.in_ok-tried.ensures.only;
      kept = c.in_ok-tried.ensures.listed;
      search = c.in_ok-tried.ensures.search;
      stand = c.in_ok-tried.ensures.stand;
      rest = c.in_ok-tried.ensures.ran.rest;
      under_way = rw c.in_ok-tried.ensures.ran.library at c.in_ok-tried.ensures.alive.under_way;
      gone = c.in_ok-tried.ensures.gone;
      quiet = c.in_ok-tried.ensures.quiet;
      rests = c.in_ok-tried.ensures.rests;
      unblocked = c.in_ok-tried.ensures.unblocked;
      spent = c.in_ok-tried.ensures.spent;
      leaves = c.in_ok-tried.ensures.left;
      earned = c.in_ok-tried.ensures.earned;
      steps = c.in_ok-tried.ensures.steps;
      at_rest = c.in_ok-tried.ensures.at_rest;
      falls = c.in_ok-tried.ensures.falls;
      few = c.in_ok-tried.ensures.few;
      most = c.in_ok-tried.ensures.most;
    }) in
    let both = c.attempt.ensures.ran.library ∙ c.loop-tried.invariant.same in
    let more = c.in_ok-believe_more-in-Quiet.ensures in
    let apart : c.attempt.new.search.level ≢ length c.attempt.new.search.list =
    λ e. false≢true (sym c.if-is_whole.false ∙ c.is_whole.ensures.whole.1 e) in
    let left : c.attempt.new.search.level < length c.attempt.new.search.list =
    omega (arith, apart, c.is_whole.ensures.stand.level) in
    record {
      same = ap (λ n. n.library) more.network ∙ both;
      alive = more.alive;
      within = (let few = a.steps in omega (arith, few, c.loop-tried.invariant.within));
      way = rw (ap (λ n. n.cells) more.network) (deepened_on g.O.Order.picks (stored_of g.R.Rule.value_of
          c.args.live.now.network.library) c.args.search.now
          c.args.live.now.network.cells c.args.live.now.agenda.line c.args.order.now c.loop-tried.search
          c.loop-tried.live.network.cells c.loop-tried.live.agenda.line c.loop-tried.order c.loop-tried.steps
          c.args.budget
          c.loop-tried.invariant.way c.loop-tried.invariant.within c.in_ok-tried.tried.end c.in_ok-tried.tried.steps
          c.attempt.new.search c.attempt.new.live.network.cells c.attempt.new.live.agenda.line c.attempt.new.order a
          c.believe_more.new.search c.believe_more.new.live.agenda.line c.in-Quiet.is left more.ok more.search
          (rw (more.network, both) at more.alive.under_way) more.grown (rw (more.network, both) at more.falls));
    }

pub returns-in_default-clause-tried : goal.returns-in_default-clause-tried
returns-in_default-clause-tried g c =
    let a : AtLevel g.O.Order.picks (stored_of g.R.Rule.value_of c.args.live.now.network.library) c.loop-tried.search
    c.loop-tried.live.network.cells c.loop-tried.live.agenda.line c.loop-tried.order (c.args.budget -
    c.loop-tried.steps)
    c.in_ok-tried.tried.end c.in_ok-tried.tried.steps c.attempt.new.search c.attempt.new.live.network.cells
    c.attempt.new.live.agenda.line c.attempt.new.order =
    at_level (stored_of g.R.Rule.value_of) c.args.live.now.network.library c.loop-tried.live.network.library
    g.O.Order.picks
    c.loop-tried.search c.loop-tried.live.network.cells c.loop-tried.live.agenda.line c.loop-tried.order
    (c.args.budget - c.loop-tried.steps) c.in_ok-tried.tried.end c.in_ok-tried.tried.steps
    c.attempt.new.search c.attempt.new.live.network.cells c.attempt.new.live.agenda.line c.attempt.new.order
    c.loop-tried.invariant.same
    (record {
      only = c.in_ok-tried.ensures.only;
      kept = c.in_ok-tried.ensures.listed;
      search = c.in_ok-tried.ensures.search;
      stand = c.in_ok-tried.ensures.stand;
      rest = c.in_ok-tried.ensures.ran.rest;
      under_way = rw c.in_ok-tried.ensures.ran.library at c.in_ok-tried.ensures.alive.under_way;
      gone = c.in_ok-tried.ensures.gone;
      quiet = c.in_ok-tried.ensures.quiet;
      rests = c.in_ok-tried.ensures.rests;
      unblocked = c.in_ok-tried.ensures.unblocked;
      spent = c.in_ok-tried.ensures.spent;
      leaves = c.in_ok-tried.ensures.left;
      earned = c.in_ok-tried.ensures.earned;
      steps = c.in_ok-tried.ensures.steps;
      at_rest = c.in_ok-tried.ensures.at_rest;
      falls = c.in_ok-tried.ensures.falls;
      few = c.in_ok-tried.ensures.few;
      most = c.in_ok-tried.ensures.most;
    }) in
    list_tried g.O.Order.picks (stored_of g.R.Rule.value_of c.args.live.now.network.library) c.args.search.now
    c.args.live.now.network.cells c.args.live.now.agenda.line c.args.order.now c.loop-tried.search
    c.loop-tried.live.network.cells
    c.loop-tried.live.agenda.line c.loop-tried.order c.loop-tried.steps c.args.budget c.loop-tried.invariant.way
    c.loop-tried.invariant.within c.in_ok-tried.tried.end c.in_ok-tried.tried.steps c.attempt.new.search
    c.attempt.new.live.network.cells c.attempt.new.live.agenda.line c.attempt.new.order a
    (λ quiet. absurd (c.in_default.not-Quiet quiet))

pub returns-then-is_whole-clause-tried : goal.returns-then-is_whole-clause-tried
returns-then-is_whole-clause-tried g c =
    let a : AtLevel g.O.Order.picks (stored_of g.R.Rule.value_of c.args.live.now.network.library) c.loop-tried.search
    c.loop-tried.live.network.cells c.loop-tried.live.agenda.line c.loop-tried.order (c.args.budget -
    c.loop-tried.steps)
    c.in_ok-tried.tried.end c.in_ok-tried.tried.steps c.attempt.new.search c.attempt.new.live.network.cells
    c.attempt.new.live.agenda.line c.attempt.new.order =
    at_level (stored_of g.R.Rule.value_of) c.args.live.now.network.library c.loop-tried.live.network.library
    g.O.Order.picks
    c.loop-tried.search c.loop-tried.live.network.cells c.loop-tried.live.agenda.line c.loop-tried.order
    (c.args.budget - c.loop-tried.steps) c.in_ok-tried.tried.end c.in_ok-tried.tried.steps
    c.attempt.new.search c.attempt.new.live.network.cells c.attempt.new.live.agenda.line c.attempt.new.order
    c.loop-tried.invariant.same
    (record {
      only = c.in_ok-tried.ensures.only;
      kept = c.in_ok-tried.ensures.listed;
      search = c.in_ok-tried.ensures.search;
      stand = c.in_ok-tried.ensures.stand;
      rest = c.in_ok-tried.ensures.ran.rest;
      under_way = rw c.in_ok-tried.ensures.ran.library at c.in_ok-tried.ensures.alive.under_way;
      gone = c.in_ok-tried.ensures.gone;
      quiet = c.in_ok-tried.ensures.quiet;
      rests = c.in_ok-tried.ensures.rests;
      unblocked = c.in_ok-tried.ensures.unblocked;
      spent = c.in_ok-tried.ensures.spent;
      leaves = c.in_ok-tried.ensures.left;
      earned = c.in_ok-tried.ensures.earned;
      steps = c.in_ok-tried.ensures.steps;
      at_rest = c.in_ok-tried.ensures.at_rest;
      falls = c.in_ok-tried.ensures.falls;
      few = c.in_ok-tried.ensures.few;
      most = c.in_ok-tried.ensures.most;
    }) in
    subst (λ tried. Attempted g.O.Order.picks (stored_of g.R.Rule.value_of c.args.live.now.network.library)
    c.args.search.now
    c.args.live.now.network.cells c.args.live.now.agenda.line c.args.order.now c.args.budget tried
    (c.loop-tried.steps + c.in_ok-tried.tried.steps) c.attempt.new.search c.attempt.new.live.network.cells
    c.attempt.new.live.agenda.line c.attempt.new.order) c.in-Quiet.is
    (list_tried g.O.Order.picks (stored_of g.R.Rule.value_of c.args.live.now.network.library) c.args.search.now
    c.args.live.now.network.cells c.args.live.now.agenda.line c.args.order.now c.loop-tried.search
    c.loop-tried.live.network.cells
    c.loop-tried.live.agenda.line c.loop-tried.order c.loop-tried.steps c.args.budget c.loop-tried.invariant.way
    c.loop-tried.invariant.within c.in_ok-tried.tried.end c.in_ok-tried.tried.steps c.attempt.new.search
    c.attempt.new.live.network.cells c.attempt.new.live.agenda.line c.attempt.new.order a
    (λ quiet. c.is_whole.ensures.whole.0 c.if-is_whole.true))
