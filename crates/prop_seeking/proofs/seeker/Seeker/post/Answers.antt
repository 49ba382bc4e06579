use Rattle.std.proofs.Common.{◌≡◌, ◌∙◌, List, IfSome, refl, sym, ap, subst}
use Rattle.prop_procedures.specs.Kept.{stored_of}
use Rattle.prop_procedures.specs.Stored.{Stored}
use Rattle.prop_lessons.specs.Lessons.{AreTaught}
use Rattle.prop_workbench.specs.Machine.{State}
use Rattle.prop_workbench.specs.Sessions.{state_of}
use Rattle.prop_workbench.specs.inner.Effects.{name_of}
use Rattle.prop_telling.proofs.PostingLemmas.{no_trace}
use Rattle.prop_seeking.specs.inner.Seekers.{ground_in}
use Rattle.prop_seeking.proofs.InquiryLemmas.{ends_known}
use Rattle.prop_seeking.proofs.StayLemmas.{stayed_inquiry}
use Rattle.prop_seeking.proofs.seeker.Seeker.post.Goals as goal

pub returns-then-is_without_trace-clause-ready : goal.returns-then-is_without_trace-clause-ready
returns-then-is_without_trace-clause-ready g c =
    let old = c.args.self.now.teller.session in
    let new = c.post-end.new.self.session in
    let library = stored_of g.R.Rule.value_of old.live.network.library in
    let e = c.post-end.ensures in
    let stays = no_trace library (state_of old) (state_of new) c.args.cells.now c.args.posting
    (name_of c.args.premise) c.post-end.result e.tells.posted (sym c.is_without_trace.ensures
    ∙ c.if-is_without_trace.true) in
    record {
      means = rw e.same c.requires.ready.means;
      sound = e.sound;
      inquiry = stayed_inquiry library (stored_of g.R.Rule.value_of new.live.network.library)
          old.live.network.cells new.live.network.cells old.search.premises new.search.premises
          c.args.self.now.inquiry (ap (stored_of g.R.Rule.value_of) e.same) (ap (λ (s : State). s.kinds) stays)
          (ap (λ (s : State). s.statements) stays) (ap (λ (s : State). s.instances) stays)
          (ap (λ (s : State). s.premises) stays) c.requires.ready.inquiry;
      earlier = subst (λ (l : List Stored). IfSome c.args.self.now.earlier (AreTaught l))
          (ap (stored_of g.R.Rule.value_of) (sym e.same)) c.requires.ready.earlier;
    }

pub returns-clause-ready : goal.returns-clause-ready
returns-clause-ready g c =
    let self = c.args.self.now in
    let old = self.teller.session in
    let library = stored_of g.R.Rule.value_of old.live.network.library in
    let same = c.post-end.ensures.same in
    let left = c.put_by.ensures.left library
    (ends_known library (ground_in g.R.Rule.value_of old) self.inquiry refl c.requires.ready.inquiry)
    c.requires.ready.earlier in
    record {
      means = rw same c.requires.ready.means;
      sound = c.post-end.ensures.sound;
      inquiry = rw c.put_by.ensures.ended tt;
      earlier = subst (λ (l : List Stored). IfSome c.put_by.new.earlier (AreTaught l))
          (ap (stored_of g.R.Rule.value_of) (sym same)) left;
    }
