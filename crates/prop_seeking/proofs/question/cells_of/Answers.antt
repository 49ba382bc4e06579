use Rattle.std.proofs.Common.{◌≡◌, ◌∙◌, inl, inr, refl, sym, false, true}
use Rattle.std.proofs.lemmas.Result.{err_from_is_err_and}
use Rattle.prop_refusals.specs.declared.refusal.Refusal.TheVariants.{NotAName}
use Rattle.prop_seeking.proofs.AskLemmas.{missing_all, named_all, unnamed_here}
use Rattle.prop_seeking.proofs.question.cells_of.Goals as goal

pub returns-in_err-name-clause-err : goal.returns-in_err-name-clause-err
returns-in_err-name-clause-err c =
    let p = err_from_is_err_and c.from_residual.result c.from_residual.ensures.1 in
    let said = c.in_err-name.ensures.err in
    let passed = p.2 in
    let is : p.0 ≡ NotAName = cc in
    rw p.1 (inr (inl (
      is,
      unnamed_here c.args.names.now c.args.listed.now c.loop-word.word-index _
          c.loop-word-test.true said.1,
    )))

pub returns-then-is_missing-2-clause-err : goal.returns-then-is_missing-2-clause-err
returns-then-is_missing-2-clause-err c =
    let names = c.args.names.now in
    let words = c.args.listed.now in
    inr (inr (
      refl,
      named_all names words c.loop-word.word-index c.loop-word-test.false c.loop-word.invariant.named,
      missing_all names words c.loop-word.word-index c.loop-word-test.false true
          (sym c.if-is_missing-2.true ∙ c.loop-word.invariant.missing),
    ))

pub returns-clause-named : goal.returns-clause-named
returns-clause-named c =
    named_all c.args.names.now c.args.listed.now c.loop-word.word-index c.loop-word-test.false
    c.loop-word.invariant.named

pub returns-clause-found : goal.returns-clause-found
returns-clause-found c =
    missing_all c.args.names.now c.args.listed.now c.loop-word.word-index c.loop-word-test.false false
    (sym c.if-is_missing-2.false ∙ c.loop-word.invariant.missing)
