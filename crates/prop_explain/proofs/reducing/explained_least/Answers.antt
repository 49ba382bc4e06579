use Rattle.prop_numbers.specs.Sets.{set_of}
use Rattle.prop_procedures.specs.Kept.{stored_of}
use Rattle.prop_contents.specs.Contents.{beliefs}
use Rattle.prop_cells.specs.Data.{problem_of}
use Rattle.prop_explain.proofs.ReducingLaws.{consistent_fewer, under_way_at_rest, watched_at_rest}
use Rattle.prop_explain.proofs.reducing.explained_least.Goals as goal

pub alert_shifted-requires : goal.alert_shifted-requires
alert_shifted-requires g c = record {
  alive = record {
    under_way = under_way_at_rest (stored_of g.R.Rule.value_of c.args.live.now.network.library)
        (set_of c.args.worldview.now) c.args.live.now.network.cells c.args.live.now.agenda c.requires.ready
        c.requires.settled;
    watched = watched_at_rest (stored_of g.R.Rule.value_of c.args.live.now.network.library)
        (set_of c.args.worldview.now) c.args.live.now.network.cells c.args.live.now.agenda c.requires.ready
        c.requires.settled;
  };
}

pub left_of-requires-clause-alive : goal.left_of-requires-clause-alive
left_of-requires-clause-alive g c = rw c.in_ok-alone.ensures.of at c.alert_shifted.ensures.alive

pub left_of-requires-clause-entails : goal.left_of-requires-clause-entails
left_of-requires-clause-entails g c =
    let explains = rw c.network.ensures at c.in_ok-why.ensures.explains in
    rw c.alert_shifted.ensures.network explains.entails

pub left_of-requires-clause-consistent : goal.left_of-requires-clause-consistent
left_of-requires-clause-consistent g c =
    let explains = rw c.network.ensures at c.in_ok-why.ensures.explains in
    let s = set_of c.args.worldview.now in
    let d = c.args.live.now.network.cells in
    rw c.alert_shifted.ensures.network
    (consistent_fewer (problem_of (stored_of g.R.Rule.value_of c.args.live.now.network.library) d)
    (set_of c.in_ok-why.why.support) s explains.part
    (record {
      solution = beliefs s d.contents;
      solves = c.requires.settled.least.solves;
      free = c.requires.settled.free;
    }))

pub returns-clause-left : goal.returns-clause-left
returns-clause-left g c = rw c.alert_shifted.ensures.network at c.in_ok-left.ensures.left

pub returns-then-left-clause-left : goal.returns-then-left-clause-left
returns-then-left-clause-left g c = rw c.alert_shifted.ensures.network at c.in_ok-left.ensures.left

pub returns-clause-explains : goal.returns-clause-explains
returns-clause-explains g c =
    let explains = rw c.network.ensures at c.in_ok-why.ensures.explains in (
      rw c.network.ensures at c.in_ok-why.ensures.value,
      record {
        part = λ p t. explains.part p (c.in_ok-left.ensures.part p t);
        entails = rw c.alert_shifted.ensures.network at c.in_ok-left.ensures.entails;
        related = λ p t. explains.related p (c.in_ok-left.ensures.part p t);
      },
    )

pub returns-then-left-clause-explains : goal.returns-then-left-clause-explains
returns-then-left-clause-explains g c =
    let explains = rw c.network.ensures at c.in_ok-why.ensures.explains in (
      rw c.network.ensures at c.in_ok-why.ensures.value,
      record {
        part = λ p t. explains.part p (c.in_ok-left.ensures.part p t);
        entails = rw c.alert_shifted.ensures.network at c.in_ok-left.ensures.entails;
        related = λ p t. explains.related p (c.in_ok-left.ensures.part p t);
      },
    )

pub returns-then-left-clause-least : goal.returns-then-left-clause-least
returns-then-left-clause-least g c =
    rw c.alert_shifted.ensures.network at c.in_ok-left.ensures.least c.if-left.true

pub returns-clause-earned : goal.returns-clause-earned
returns-clause-earned g c = (
  c.in_ok-why.why.support,
  c.in_ok-left.ensures.in_order,
  rw c.network.ensures at c.in_ok-why.ensures.explains,
  rw c.alert_shifted.ensures.network at c.in_ok-left.ensures.earned c.if-left.false,
)

pub returns-then-left-clause-tries : goal.returns-then-left-clause-tries
returns-then-left-clause-tries g c =
    let explains = rw c.network.ensures at c.in_ok-why.ensures.explains in
    let tries = rw c.alert_shifted.ensures.network at c.in_ok-left.ensures.tries in
    record {
      why = set_of c.in_ok-why.why.support;
      within = explains.part;
      waiting = c.alert_shifted.new.live.agenda.line;
      shifted = rw c.in_ok-alone.ensures.of at c.alert_shifted.ensures.shifted;
      sets = tries.0;
      tries = tries.1;
    }

pub returns-clause-tries : goal.returns-clause-tries
returns-clause-tries g c =
    let explains = rw c.network.ensures at c.in_ok-why.ensures.explains in
    let tries = rw c.alert_shifted.ensures.network at c.in_ok-left.ensures.tries in
    record {
      why = set_of c.in_ok-why.why.support;
      within = explains.part;
      waiting = c.alert_shifted.new.live.agenda.line;
      shifted = rw c.in_ok-alone.ensures.of at c.alert_shifted.ensures.shifted;
      sets = tries.0;
      tries = tries.1;
    }
