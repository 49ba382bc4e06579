use Rattle.std.proofs.Common.{ℕ, ◌+◌, ◌-◌, length, take, drop, rules, arith, sym, ap, subst, ◌∙◌}
use Rattle.prop_lattice.specs.Order.{Below}
use Rattle.prop_lattice.specs.declared.info.Info.{Info}
use Rattle.prop_hall.specs.inner.Extensions.{GainsLittle, extended}
use Rattle.prop_hall.proofs.ExtensionLemmas.{cut, with_or_without, with_alone, more_known, first_and_rest}
use Rattle.prop_hall.proofs.excluding.+extended.Goals as goal

pub returns-then-chosen-rest : goal.returns-then-chosen-rest
returns-then-chosen-rest t c =
    sym (cut c.args.known c.args.y c.args.chosen.members c.args.chosen.hull c.args.rest.now c.requires.above
    (omega (arith, c.if-chosen-rest.true, c.args.chosen.counted)))

pub extended-requires : goal.extended-requires
extended-requires t c =
    let tail = take (length c.args.rest.now - 1) (drop 1 c.args.rest.now) in
    let is = first_and_rest c.args.rest.now c.first-item.result c.in-len1-up.len_at_least c.first-item.is in (
      search rules,
      (
        omega (arith, c.requires.few, ap length is),
        subst (Below c.args.y) (sym c.extended-known.ensures)
            (more_known c.args.known c.args.y c.with-wider.result.members c.with-wider.result.hull tail
            c.requires.above),
      ),
    )

pub returns-then-gains_little : goal.returns-then-gains_little
returns-then-gains_little t c =
    let tail = take (length c.args.rest.now - 1) (drop 1 c.args.rest.now) in
    let is = first_and_rest c.args.rest.now c.first-item.result c.in-len1-up.len_at_least c.first-item.is in
    let gains = c.gains_little.ensures.0 c.if-gains_little.true in
    c.extended-known.ensures
    ∙ ap (λ (n : ℕ). extended c.args.known c.args.y n c.with-wider.result.hull tail)
    c.with-wider.ensures.members
    ∙ ap (λ (h : Info). extended c.args.known c.args.y (c.args.chosen.members + 1) h tail)
    c.with-wider.ensures.hull
    ∙ with_alone c.args.known c.args.y c.args.chosen.members c.args.chosen.hull c.first-item.result tail
    (omega (arith, c.requires.few, ap length is))
    (subst (GainsLittle c.args.chosen.hull) c.with-wider.ensures.hull gains)
    ∙ ap (extended c.args.known c.args.y c.args.chosen.members c.args.chosen.hull) is

pub returns-else-gains_little : goal.returns-else-gains_little
returns-else-gains_little t c =
    let tail = take (length c.args.rest.now - 1) (drop 1 c.args.rest.now) in
    let is = first_and_rest c.args.rest.now c.first-item.result c.in-len1-up.len_at_least c.first-item.is in
    let known = c.extended-known.ensures
    ∙ ap (λ (n : ℕ). extended c.args.known c.args.y n c.with-wider.result.hull tail)
    c.with-wider.ensures.members
    ∙ ap (λ (h : Info). extended c.args.known c.args.y (c.args.chosen.members + 1) h tail)
    c.with-wider.ensures.hull in
    c.extended.ensures
    ∙ ap (λ (k : Info). extended k c.args.y c.args.chosen.members c.args.chosen.hull tail) known
    ∙ with_or_without c.args.known c.args.y c.args.chosen.members c.args.chosen.hull c.first-item.result tail
    ∙ ap (extended c.args.known c.args.y c.args.chosen.members c.args.chosen.hull) is
