use Rattle.std.proofs.Common.{◌≡◌, ◌∙◌, ◌⊎◌, ◌<◌, All, ℕ, Ok, Err, None, Some, ap, arith, inl, inr, subst, sym}
use Rattle.std.specs.Prelude.{unsigned_abs}
use Rattle.std.proofs.lemmas.Int.{to_z-of_z}
use Rattle.std.proofs.lemmas.Result.{err_from_is_err_and}
use Rattle.prop_refusals.specs.declared.refusal.Refusal.{Refusal}
use Rattle.prop_refusals.specs.declared.refusal.Refusal.TheVariants.{Memory}
use Rattle.prop_language.specs.Said.{words}
use Rattle.prop_vocabulary.proofs.CellLookups.{of_all_named}
use Rattle.prop_seeking.specs.Asking.{asking, unfit}
use Rattle.prop_seeking.specs.inner.Pieces.{named_so}
use Rattle.prop_seeking.specs.inner.Seekers.{IsFirst, aim_said}
use Rattle.prop_seeking.proofs.AskLemmas.{asking_refused, asking_so, asking_uncounted, asking_unfit}
use Rattle.prop_seeking.proofs.question.asking.Goals as goal

pub returns-in_err-named-clause-asked : goal.returns-in_err-named-clause-asked
returns-in_err-named-clause-asked c =
    let s = named_so c.args.names.now c.args.cells.now.kinds in
    let aim = aim_said c.args.wish.aim in
    let ws = words c.args.listed.now in
    let p = err_from_is_err_and c.from_residual.result c.from_residual.ensures.1 in
    let passed = p.2 in
    let is : c.in_err-named.field-0.0 ≡ p.0 = cc in
    rw p.1 (subst (λ (e : Refusal). (e ≡ Memory) ⊎ (asking s aim c.args.wish.most ws ≡ Err e)) is
    (asking_refused s aim c.args.wish.most ws c.in_err-named.field-0.0 c.in_err-named.ensures.err))

pub returns-in-Some-default-clause-asked : goal.returns-in-Some-default-clause-asked
returns-in-Some-default-clause-asked c =
    let s = named_so c.args.names.now c.args.cells.now.kinds in
    let aim = aim_said c.args.wish.aim in
    let ws = words c.args.listed.now in
    let cells = c.in_ok-named.ensures in
    inr (asking_unfit s aim c.args.wish.most ws cells.named cells.found c.in-Some-default.refusal
    (ap (unfit s aim) (sym (c.deref.ensures.value ∙ cells.cells)) ∙ sym c.unfit.ensures ∙ c.in-Some-default.is-0))

pub returns-in-None-None-clause-asked : goal.returns-in-None-None-clause-asked
returns-in-None-None-clause-asked c =
    let s = named_so c.args.names.now c.args.cells.now.kinds in
    let aim = aim_said c.args.wish.aim in
    let ws = words c.args.listed.now in
    let cells = c.in_ok-named.ensures in
    inr (asking_uncounted s aim c.args.wish.most ws cells.named cells.found
    (ap (unfit s aim) (sym (c.deref.ensures.value ∙ cells.cells)) ∙ sym c.unfit.ensures ∙ c.in-None-None.is-0)
    c.in-None-None.is-1)

pub returns-in-None-Some-clause-asked : goal.returns-in-None-Some-clause-asked
returns-in-None-Some-clause-asked c =
    let s = named_so c.args.names.now c.args.cells.now.kinds in
    let aim = aim_said c.args.wish.aim in
    let ws = words c.args.listed.now in
    let cells = c.in_ok-named.ensures in
    let number : unsigned_abs c.in-None-Some.most ≡ c.unsigned_abs.result = grind (arith, to_z-of_z) in
    asking_so s aim c.args.wish.most ws cells.named cells.found c.in-None-Some.most
    (ap (unfit s aim) (sym (c.deref.ensures.value ∙ cells.cells)) ∙ sym c.unfit.ensures ∙ c.in-None-Some.is-0)
    c.in-None-Some.is-1
    ∙ (λ i. Ok (record { aim = sym c.goal_of.ensures.aim i; named = sym cells.cells i }, number i))

pub returns-in-None-Some-clause-first : goal.returns-in-None-Some-clause-first
returns-in-None-Some-clause-first c =
    subst (λ named. IsFirst c.goal_of.result named) c.deref-in-None-Some.ensures.value c.goal_of.ensures.first

pub returns-in-None-Some-clause-within : goal.returns-in-None-Some-clause-within
returns-in-None-Some-clause-within c = λ n all.
    subst (All (λ (cell : ℕ). cell < n)) (sym c.in_ok-named.ensures.cells)
    (of_all_named (λ cell. cell < n) c.args.names.now (words c.args.listed.now) all c.in_ok-named.ensures.found)
