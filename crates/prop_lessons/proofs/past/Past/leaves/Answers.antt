use Rattle.std.proofs.Common.{ℕ, List, subst, sym}
use Rattle.prop_numbers.specs.Sets.{IsPart, set_of}
use Rattle.prop_lessons.proofs.GoneLemmas.{within_part}
use Rattle.prop_lessons.proofs.past.Past.leaves.Goals as goal

pub returns-then-believes-clause-premises : goal.returns-then-believes-clause-premises
returns-then-believes-clause-premises c h =
    let P : List ℕ → Type 0 = λ ps. IsPart (set_of ps) (set_of c.args.standing.now) in
    subst P c.premises.ensures
    (within_part (set_of c.args.standing.now) c.premises.result.now (sym c.if-believes.ensures))
