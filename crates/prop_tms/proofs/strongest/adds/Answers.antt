use Rattle.std.proofs.Common.{◌∙◌, sym, inl}
use Rattle.prop_tms.proofs.strongest.adds.Goals as goal

pub returns-then-not-implies-clause-none : goal.returns-then-not-implies-clause-none
returns-then-not-implies-clause-none g c =
    let some = rw c.as_slice.ensures at c.believes_any.ensures in
    (λ off. inl (sym some ∙ off))
