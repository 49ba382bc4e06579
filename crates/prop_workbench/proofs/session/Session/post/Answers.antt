use Rattle.std.proofs.Common.{refl, inl}
use Rattle.prop_workbench.specs.Sessions.{state_of, shown_of}
use Rattle.prop_workbench.specs.inner.Effects.{name_of}
use Rattle.prop_workbench.proofs.CoveringLemmas.{covers_still}
use Rattle.prop_workbench.proofs.PostLemmas.{unposted}
use Rattle.prop_workbench.proofs.session.Session.post.Goals as goal

pub returns-in-Err-clause-posted : goal.returns-in-Err-clause-posted
returns-in-Err-clause-posted g c = inl (
  unposted (state_of c.args.self.now) c.args.posting (name_of c.args.premise) c.in-Err.refusal c.in-Err.ensures.err,
  refl,
)

pub returns-clause-covers : goal.returns-clause-covers
returns-clause-covers g c = λ named covers. covers_still (shown_of c.args.self.now) (shown_of c.post_under.new.self)
    named c.post_under.ensures.keeps.covers covers
