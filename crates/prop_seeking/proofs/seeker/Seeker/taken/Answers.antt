use Rattle.std.proofs.Common.{refl}
use Rattle.prop_procedures.specs.Kept.{stored_of}
use Rattle.prop_seeking.specs.inner.Seekers.{ground_in}
use Rattle.prop_seeking.proofs.InquiryLemmas.{ends_known}
use Rattle.prop_seeking.proofs.seeker.Seeker.taken.Goals as goal

pub returns-clause-ready : goal.returns-clause-ready
returns-clause-ready g c =
    let self = c.args.self.now in
    let s = self.teller.session in
    let library = stored_of g.R.Rule.value_of s.live.network.library in
    record {
      means = c.requires.ready.means;
      sound = c.requires.ready.sound;
      inquiry = rw c.put_by.ensures.ended tt;
      earlier = c.put_by.ensures.left library
          (ends_known library (ground_in g.R.Rule.value_of s) self.inquiry refl c.requires.ready.inquiry)
          c.requires.ready.earlier;
    }
