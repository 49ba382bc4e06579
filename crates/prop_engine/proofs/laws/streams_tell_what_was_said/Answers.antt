use Rattle.prop_engine.proofs.Streaming.{streams_tell}
use Rattle.prop_engine.proofs.laws.streams_tell_what_was_said.Goals as goal

pub returns : goal.returns
returns g c = λ calls new l. streams_tell g.Rd.Read.remaining g.W.Write.contents c.args.streams.now calls new l
