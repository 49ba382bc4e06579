use Rattle.std.proofs.Common.{◌≡◌, [], ap, drop, inr, pos, refl, subst, sym}
use Rattle.std.specs.Prelude.{slice_index_or}
use Rattle.prop_language.specs.Names.{number_in}
use Rattle.prop_language.specs.Said.{words}
use Rattle.prop_seeking.specs.Asking.{Differing, asking}
use Rattle.prop_seeking.specs.inner.Pieces.{named_so}
use Rattle.prop_seeking.specs.inner.Seekers.{Gives, asked_of}
use Rattle.prop_seeking.proofs.question.asking_many.Goals as goal

pub returns-clause-asked : goal.returns-clause-asked
returns-clause-asked c =
    let s = named_so c.args.names.now c.args.cells.now.kinds in
    subst (λ l. Gives asked_of c.asking.result (asking s Differing
    (number_in (pos 1) (pos 1_000_000_000) (slice_index_or (words l) 0 [])) (drop 1 (words l))))
    (sym c.in-Some.ensures.cases.0)
    (subst (λ most. Gives asked_of c.asking.result (asking s Differing most (words c.in-Some.others.now)))
    c.number_in.ensures c.asking.ensures.asked)
