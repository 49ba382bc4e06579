use Rattle.std.proofs.Common.{◌∙◌, ap, subst, sym}
use Rattle.std.proofs.lemmas.List.Elements.{All-nil}
use Rattle.prop_refuting.specs.Nogoods.{IsNeverMet}
use Rattle.prop_lessons.specs.Lessons.{AreTaught, PastOf, Taught}
use Rattle.prop_solve.proofs.solver.Solver.leave.Goals as goal

pub returns : goal.returns
returns c = λ library d premises of search.
    let new = c.new-lessons.ensures in
    let P : Taught → Type 0 = AreTaught library in
    let past = c.args.past in
    c.in_ok-teach.ensures.taught library d premises
    (ap (λ (t : Taught). t.attached) new ∙ ap (λ (p : PastOf). p.attached) of)
    (ap (λ (t : Taught). t.choices) new ∙ ap (λ (p : PastOf). p.choices) of) search
    (subst P (sym new) (All-nil (IsNeverMet library past.attached past.choices)))
