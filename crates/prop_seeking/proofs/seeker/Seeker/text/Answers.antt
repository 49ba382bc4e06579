use Rattle.std.proofs.lemmas.Result.{IfOk-weaker}
use Rattle.prop_seeking.proofs.seeker.Seeker.text.Goals as goal

pub returns-in-Any-clause-answers : goal.returns-in-Any-clause-answers
returns-in-Any-clause-answers g c =
    IfOk-weaker c.points.result _ _ (λ text answers. answers c.args.asked.now.most) c.points.ensures.answers

pub returns-in_default-clause-answers : goal.returns-in_default-clause-answers
returns-in_default-clause-answers g c =
    IfOk-weaker c.optimum.result _ _ (λ text answers. answers c.args.asked.now.most) c.optimum.ensures.answers
