use Rattle.std.proofs.Common.{◌≡◌, sym, ◌∙◌, List, IfSome, refl, subst}
use Rattle.prop_procedures.specs.Kept.{stored_of}
use Rattle.prop_procedures.specs.Stored.{Stored}
use Rattle.prop_lessons.specs.Lessons.{AreTaught}
use Rattle.prop_seeking.specs.inner.Seekers.{ground_in}
use Rattle.prop_seeking.proofs.InquiryLemmas.{ends_known}
use Rattle.prop_engine.specs.Answers.{answer_of}
use Rattle.prop_telling.specs.inner.Telling.{told_of}
use Rattle.std.proofs.Common.{ap}
use Rattle.std.specs.Prelude.{codes}
use Rattle.prop_notes.specs.Notes.{is_done}
use Rattle.prop_seeking.specs.Asking.{begins}
use Rattle.prop_seeking.proofs.LimitLemmas.{calm_line}
use Rattle.prop_seeking.proofs.StayLemmas.{telling_stays, stayed_inquiry}
use Rattle.prop_seeking.proofs.seeker.Seeker.tell.Goals as goal

pub returns-clause-ready : goal.returns-clause-ready
returns-clause-ready g c =
    let old = c.args.self.now.teller in
    let new = c.command-reply.new.self in
    let library = stored_of g.R.Rule.value_of old.session.live.network.library in
    let same = c.command-reply.ensures.same in
    let stays = telling_stays g.O.Order.picks library (told_of old) c.args.line.now (answer_of c.command-reply.result)
    (told_of new) c.command-reply.ensures.tells
    (calm_line (is_done (answer_of c.command-reply.result)) (begins (codes "limit") c.args.line.now)
    (sym c.ends.ensures ∙ c.if-ends.false)) in
    record {
      means = rw same c.requires.ready.means;
      sound = c.command-reply.ensures.sound;
      inquiry = stayed_inquiry library (stored_of g.R.Rule.value_of new.session.live.network.library)
          old.session.live.network.cells new.session.live.network.cells old.session.search.premises
          new.session.search.premises c.args.self.now.inquiry (ap (stored_of g.R.Rule.value_of) same) stays.kinds
          stays.statements stays.instances stays.premises c.requires.ready.inquiry;
      earlier = subst (λ (l : List Stored). IfSome c.args.self.now.earlier (AreTaught l))
          (ap (stored_of g.R.Rule.value_of) (sym same)) c.requires.ready.earlier;
    }

pub returns-then-ends-clause-ready : goal.returns-then-ends-clause-ready
returns-then-ends-clause-ready g c =
    let self = c.args.self.now in
    let old = self.teller.session in
    let library = stored_of g.R.Rule.value_of old.live.network.library in
    let same = c.command-reply.ensures.same in
    let left = c.put_by.ensures.left library
    (ends_known library (ground_in g.R.Rule.value_of old) self.inquiry refl c.requires.ready.inquiry)
    c.requires.ready.earlier in
    record {
      means = rw same c.requires.ready.means;
      sound = c.command-reply.ensures.sound;
      inquiry = rw c.put_by.ensures.ended tt;
      earlier = subst (λ (l : List Stored). IfSome c.put_by.new.earlier (AreTaught l))
          (ap (stored_of g.R.Rule.value_of) (sym same)) left;
    }
