use Rattle.prop_amb.proofs.DeepeningLaws.{grown_believed}
use Rattle.prop_amb.proofs.settling.believe_more.Goals as goal

pub returns-clause-grown : goal.returns-clause-grown
returns-clause-grown g c =
    grown_believed c.args.live.now.network.cells c.args.search.now c.deepen.new.self c.args.live.now.agenda.line
    c.alert_grown.new.live.agenda.line c.requires.stand c.worldview.ensures.stand
    (rw (c.in_ok-before.ensures.before, c.worldview.ensures.same) at c.alert_grown.ensures.grown)
