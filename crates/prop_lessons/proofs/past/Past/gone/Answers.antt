use Rattle.std.proofs.Common.{◌≡◌, ◌+◌, ◌<◌, ◌≤◌, length, List, ap, arith, get_or, inl, inr, subst, sym, take, ◌∙◌, All}
use Rattle.prop_numbers.specs.Sets.{set_of}
use Rattle.prop_premises.specs.declared.worldview.Worldview.{Worldview}
use Rattle.prop_cells.specs.declared.instance.Statement.{Statement}
use Rattle.prop_lessons.specs.inner.Standing.{IsThereOrGone}
use Rattle.prop_lessons.proofs.GoneLemmas.{more_has, more_part, there_all, there_more}
use Rattle.prop_lessons.proofs.past.Past.gone.Goals as goal
use Rattle.prop_lessons.proofs.past.Past.gone.Goals.{then-stands_at, else-stands_at+in-Some+in_ok-believe}

pub loop-statement-preserved : goal.loop-statement-preserved
loop-statement-preserved c =
    let statements = c.args.self.now.attached.statements in
    let now = c.args.cells.now.statements in
    let i = c.loop-statement.statement-index in
    let x = c.statement-item.result in
    let gone = set_of c.loop-statement.gone in
    let same : c.deref-statement-items.result.now ≡ statements =
    c.deref-statement-items.ensures.value ∙ ap (λ p. p.attached.statements) c.self.view_is in
    let P : List Statement → Type 0 = λ xs. x ≡ get_or xs i x in
    let at = subst P same c.statement-item.is in
    let within : i < length statements = omega (arith, ap length same, c.loop-statement-test.true) in
    let Q : Worldview → Type 0 = λ g. All (IsThereOrGone now (set_of g)) (take (i + 1) statements) in
    record {
      passed = elim c.if-stands_at.branch [
        | then-stands_at w ↦ omega (arith, w.at-is, c.loop-statement.invariant.passed)
        | else-stands_at+in-Some+in_ok-believe w ↦ omega (arith, w.at-is, c.loop-statement.invariant.passed)
      ];
      there = elim c.if-stands_at.branch [
        | then-stands_at w ↦ subst Q (sym w.gone-is)
            (there_more now statements i x gone gone within at (λ q h. h)
            (inl (c.stands_at.ensures.there w.if-stands_at.true)) c.loop-statement.invariant.there)
        | else-stands_at+in-Some+in_ok-believe w ↦
            let premise = w.in-Some.premise in
            let more = set_of w.believe.new.self in
            let has = w.in_ok-believe.ensures.has in
            subst Q (sym w.gone-is)
            (there_more now statements i x gone more within at (more_part gone more premise has)
            (inr (premise, w.in-Some.is, more_has gone more premise has)) c.loop-statement.invariant.there)
      ];
    }

pub returns : goal.returns
returns c =
    let same : c.deref-statement-items.result.now ≡ c.args.self.now.attached.statements =
    c.deref-statement-items.ensures.value ∙ ap (λ p. p.attached.statements) c.self.view_is in
    let end : length c.args.self.now.attached.statements ≤ c.loop-statement.statement-index =
    omega (arith, ap length same, c.loop-statement-test.false) in
    there_all (IsThereOrGone c.args.cells.now.statements (set_of c.loop-statement.gone))
    c.args.self.now.attached.statements c.loop-statement.statement-index end c.loop-statement.invariant.there
