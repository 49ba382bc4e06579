use Rattle.prop_seeking.specs.inner.Explored.{ground_in}
use Rattle.prop_seeking.proofs.seeker.Seeker.explore.Goals as goal

pub advance-requires-clause-explored : goal.advance-requires-clause-explored
advance-requires-clause-explored g c =
    rw (
      c.network-network.ensures,
      c.live.ensures,
      c.premises-premises.ensures,
      c.search.ensures,
      c.session-session.ensures,
    )
    (c.in_ok-explorer.ensures (ground_in g.R.Rule.value_of c.args.self.now.teller.session) c.requires.explored)
