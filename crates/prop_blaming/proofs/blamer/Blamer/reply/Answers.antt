use Rattle.std.proofs.Common.{List, ℕ}
use Rattle.std.specs.String.{string_bytes}
use Rattle.prop_engine.specs.Answers.{answer_of}
use Rattle.prop_workbench.specs.Sessions.{library_of, state_of}
use Rattle.prop_telling.proofs.TellingLemmas.{said_by}
use Rattle.prop_blaming.specs.Blame.{Says}
use Rattle.prop_blaming.specs.inner.Blamers.{asked_of}
use Rattle.prop_blaming.proofs.blamer.Blamer.reply.Goals as goal

pub returns-clause-replies : goal.returns-clause-replies
returns-clause-replies g c =
    let session = c.args.self.now.seeker.teller.session in
    let P : List ℕ → Type 0 = Says (library_of g.R.Rule.value_of session) (state_of session)
    (asked_of c.args.asked) in
    said_by string_bytes c.answered.result (answer_of c.saying.result) P c.saying.ensures c.answered.ensures.says
