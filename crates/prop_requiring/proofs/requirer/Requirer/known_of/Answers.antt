use Rattle.prop_procedures.specs.Kept.{stored_of}
use Rattle.prop_terms.specs.Terms.{term_of}
use Rattle.prop_demands.proofs.Foreseeing.{foreseen_is_known}
use Rattle.prop_requiring.proofs.PostLemmas.{sound_ground}
use Rattle.prop_requiring.proofs.requirer.Requirer.known_of.Goals as goal

pub foreseen-requires : goal.foreseen-requires
foreseen-requires g c =
    let order = c.requires.ready.blamer.seeker.sound.in_order in
    record {
      few = rw c.cells.ensures order.room.0;
      named = rw (c.cells.ensures, c.names.ensures) order.named;
      sized = rw (c.cells.ensures, c.words.ensures) order.sized;
    }

pub returns-in-None-clause-known : goal.returns-in-None-clause-known
returns-in-None-clause-known g c =
    let session = c.args.self.now.blamer.seeker.teller.session in
    let library = stored_of g.R.Rule.value_of session.live.network.library in
    let u = rw (c.cells.ensures, c.words.ensures, c.names.ensures) at c.in-Ok.ensures.foreseen in
    let law = rw c.words.ensures at c.foreseen.ensures.words in
    foreseen_is_known library session.names session.words session.definitions session.search.premises
    session.live.network.cells session.limit u.0 u.1 (term_of c.args.term.now) c.in-Ok.foreseen.known
    (sound_ground g.R.Rule.value_of session c.requires.ready.blamer.seeker.sound law) u.2 u.3
