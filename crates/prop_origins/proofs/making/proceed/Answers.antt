use Rattle.std.proofs.Common.{◌∙◌, refl, sym, subst, ap, inl}
use Rattle.prop_procedures.specs.Kept.{stored_of}
use Rattle.prop_cells.specs.Data.{problem_of}
use Rattle.prop_origins.specs.Founded.{AreFounded}
use Rattle.prop_origins.specs.Parts.{made}
use Rattle.prop_origins.specs.inner.Lines.{Lined}
use Rattle.prop_origins.specs.inner.Logs.{Logged}
use Rattle.prop_origins.specs.inner.Proceeding.{Proceeds}
use Rattle.prop_origins.proofs.making.proceed.Goals as goal

pub returns-in_err-call-clause-founded : goal.returns-in_err-call-clause-founded
returns-in_err-call-clause-founded g c = λ s f.
    let library = stored_of g.R.Rule.value_of c.args.network.now.library in
    c.in_err-call.ensures.founded s (subst (λ (q : Logged). AreFounded library c.args.network.now.cells s q.parts)
    (sym c.loop-number.invariant.log) f)

pub returns-then-branch-clause-founded : goal.returns-then-branch-clause-founded
returns-then-branch-clause-founded g c = λ s f.
    let library = stored_of g.R.Rule.value_of c.args.network.now.library in
    c.in_ok-call.ensures.founded s (subst (λ (q : Logged). AreFounded library c.args.network.now.cells s q.parts)
    (sym c.loop-number.invariant.log) f)

pub returns-clause-proceeds : goal.returns-clause-proceeds
returns-clause-proceeds g c =
    let problem = problem_of (stored_of g.R.Rule.value_of c.args.network.now.library) c.args.network.now.cells in
    let was = made c.args.log.now.parts in
    let line = subst (λ (q : Lined). Proceeds problem 0 c.args.line.now.line q.line was was)
    (sym (c.in_default.ensures.same refl)) c.loop-number.invariant.proceeds in
    subst (λ (q : Logged). Proceeds problem 0 c.args.line.now.line c.next.new.self.line was (made q.parts))
    (sym c.loop-number.invariant.log) line

pub returns-clause-more : goal.returns-clause-more
returns-clause-more g c =
    inl (
      ap (λ (q : Lined). q.line) (c.in_default.ensures.same refl) ∙ c.in_default.ensures.none refl,
      c.loop-number.invariant.log,
    )
