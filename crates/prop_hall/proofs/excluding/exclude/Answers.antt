use Rattle.std.proofs.Common.{List, neg_ℤ, take, map, sym, subst, ap, ◌∙◌}
use Rattle.prop_lattice.specs.declared.info.Info.TheVariants.{Span}
use Rattle.prop_lattice.specs.declared.span.Span as spans
use Rattle.prop_lattice.specs.declared.span.TheConstants.{B}
use Rattle.prop_hall.specs.Excluding.{excluded_of}
use Rattle.prop_hall.specs.inner.ByEnd.{AreByEnd}
use Rattle.prop_hall.proofs.ByEndLemmas.{gathered_tells}
use Rattle.prop_hall.proofs.excluding.exclude.Goals as goal

pub exclude_numbers-requires : goal.exclude_numbers-requires
exclude_numbers-requires c =
    let all = take c.in-Some.by_end.count c.in-Some.by_end.spans in
    subst (AreByEnd (neg_ℤ B)) (sym c.as_slice.ensures)
    (gathered_tells c.args.y c.args.others.now all c.requires c.in-Some.ensures).0

pub returns-in-Some : goal.returns-in-Some
returns-in-Some c =
    let all = take c.in-Some.by_end.count c.in-Some.by_end.spans in
    c.exclude_numbers.ensures
    ∙ ap (λ (ss : List spans.Span). excluded_of c.args.y (map Span ss)) c.as_slice.ensures
    ∙ (gathered_tells c.args.y c.args.others.now all c.requires c.in-Some.ensures).1
