use Rattle.std.proofs.Common.{length}
use Rattle.std.specs.List.{range_with_len}
use Rattle.std.proofs.lemmas.Result.{IfOk-weaker}
use Rattle.prop_procedures.specs.Kept.{stored_of}
use Rattle.prop_workbench.specs.Posting.{MayBePosted}
use Rattle.prop_workbench.specs.Sessions.{state_of}
use Rattle.prop_terms.specs.Terms.{term_of}
use Rattle.prop_demands.specs.inner.Postings.{IsUnderstoodIn}
use Rattle.prop_demands.proofs.Allowing.{all_may_be_posted}
use Rattle.prop_requiring.proofs.requirer.Requirer.posting.Goals as goal

pub understood-requires : goal.understood-requires
understood-requires g c =
    let order = c.requires.ready.blamer.seeker.sound.in_order in
    record {
      few = rw c.cells.ensures order.room.0;
      named = rw (c.cells.ensures, c.names.ensures) order.named;
      sized = rw (c.cells.ensures, c.words.ensures) order.sized;
    }

pub returns-clause-understood : goal.returns-clause-understood
returns-clause-understood g c =
    let session = c.args.self.now.blamer.seeker.teller.session in
    let t = term_of c.args.term.now in
    IfOk-weaker c.understood.result (IsUnderstoodIn c.names.result.now c.words.result.now c.cells.result.now t)
    (IsUnderstoodIn session.names session.words session.live.network.cells t)
    (λ p there. rw (c.cells.ensures, c.words.ensures, c.names.ensures) at there) c.understood.ensures.understood

pub returns-clause-may : goal.returns-clause-may
returns-clause-may g c =
    let session = c.args.self.now.blamer.seeker.teller.session in
    let library = stored_of g.R.Rule.value_of session.live.network.library in
    let order = c.requires.ready.blamer.seeker.sound.in_order in
    let t = term_of c.args.term.now in
    IfOk-weaker c.understood.result (IsUnderstoodIn c.names.result.now c.words.result.now c.cells.result.now t)
    (MayBePosted library (state_of session) (range_with_len 0 (length session.live.network.cells.kinds)))
    (λ p there. let u = rw (c.cells.ensures, c.words.ensures, c.names.ensures) at there in
    all_may_be_posted library session.names session.words session.definitions session.search.premises
    session.live.network.cells session.limit u.0 u.1 t p c.requires.ready.palette order.room.0 u.3)
    c.understood.ensures.understood
