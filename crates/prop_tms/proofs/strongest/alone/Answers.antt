use Rattle.std.proofs.Common.{◌<◌, sym, subst, length, arith}
use Rattle.std.proofs.lemmas.List.Elements.{All-more}
use Rattle.prop_tms.specs.inner.Gains.{entry_of, gained_of}
use Rattle.prop_tms.proofs.GainLemmas.{gained_at, gained_of-length, first_is_shortest, not_before}
use Rattle.prop_tms.proofs.strongest.alone.Goals as goal

pub returns-then-implies-clause-few : goal.returns-then-implies-clause-few
returns-then-implies-clause-few g c x here says =
    let i = c.loop-gain.gain-index in
    let gained = gained_of c.args.gains.now in
    let l : i < length gained = (let n = gained_of-length c.args.gains.now in omega (arith, n, c.loop-gain-test.true))
    in
    first_is_shortest (λ e. g.V.Partial.below c.args.value e.value) gained i (entry_of c.gain-item.result.entry) x
    c.requires l (gained_at c.args.gains.now i c.gain-item.result c.gain-item.is) c.loop-gain.invariant here says

pub loop-gain-preserved : goal.loop-gain-preserved
loop-gain-preserved g c =
    let i = c.loop-gain.gain-index in
    let gained = gained_of c.args.gains.now in
    let e = (entry_of c.gain-item.result.entry) in
    let l : i < length gained = (let n = gained_of-length c.args.gains.now in omega (arith, n, c.loop-gain-test.true))
    in
    let no : ¬ (g.V.Partial.below c.args.value e.value) = λ h. cc (c.implies.ensures.1 h, c.if-implies.false) in
    All-more (λ x. ¬ (g.V.Partial.below c.args.value x.value)) gained i e l c.loop-gain.invariant
    (subst (λ x. ¬ (g.V.Partial.below c.args.value x.value))
    (sym (gained_at c.args.gains.now i c.gain-item.result c.gain-item.is)) no)

pub returns-clause-few : goal.returns-clause-few
returns-clause-few g c x here says =
    let gained = gained_of c.args.gains.now in
    let n = gained_of-length c.args.gains.now in
    let later = not_before (λ e. g.V.Partial.below c.args.value e.value) gained c.loop-gain.gain-index x
    c.loop-gain.invariant here says in
    omega (arith, n, later.1, later.2, c.loop-gain-test.false)
