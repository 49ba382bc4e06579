use Rattle.std.proofs.Common.{◌≡◌, ◌∙◌, [], ℕ, All, arith, length, ap, subst, sym, refl, inl, inr}
use Rattle.std.specs.List.{range_with_len}
use Rattle.prop_lattice.specs.Order.{Below}
use Rattle.prop_lattice.specs.laws.OrderLaws.{info_laws}
use Rattle.prop_numbers.specs.Sets.{set_of}
use Rattle.prop_procedures.specs.Kept.{stored_of}
use Rattle.prop_cells.specs.Data.{Data, problem_of}
use Rattle.prop_cells.specs.inner.Problems.{Satisfies}
use Rattle.prop_origins.specs.Founded.{AreFounded}
use Rattle.prop_origins.specs.Parts.{made, calls_in}
use Rattle.prop_origins.specs.inner.Lines.{Lined}
use Rattle.prop_origins.specs.inner.Logs.{Logged}
use Rattle.prop_origins.specs.inner.Proceeding.{Proceeds}
use Rattle.prop_origins.proofs.Proceeding.{proceeds_then, heard_still, known_at_rest, rests_at_most, all_wait}
use Rattle.prop_origins.proofs.making.make.Goals as goal
use Rattle.prop_origins.proofs.making.make.Goals.{else-loop-test, then-loop-test+then-implies}

pub tell-requires-clause-made : goal.tell-requires-clause-made
tell-requires-clause-made g c = rw c.data.ensures c.requires.kept.made

pub proceed-requires-clause-of_kinds : goal.proceed-requires-clause-of_kinds
proceed-requires-clause-of_kinds g c = c.loop.invariant.proceeds.of_kinds

pub loop-init : goal.loop-init
loop-init g c =
    let library = stored_of g.R.Rule.value_of c.args.network.now.library in
    let s = set_of c.args.premises.now in
    let d = c.args.network.now.cells in
    let parts = c.tell.new.log.parts in
    let line = c.tell.new.line.line in
    let start = subst (λ (q : Logged). AreFounded library c.data.result.now s q.parts) (sym c.in_ok-log.ensures) tt in
    let told : AreFounded library c.data.result.now s parts = c.tell.ensures.founded library start in
    let from_log = subst (λ (q : Logged). Proceeds (problem_of library c.data.result.now) 0 c.in_ok-line.line.line line
    (made q.parts) (made parts)) c.in_ok-log.ensures (c.in_ok-tell.ensures.proceeds library) in
    let from_line = subst (λ (q : Lined). Proceeds (problem_of library c.data.result.now) 0 q.line line (made [])
    (made parts)) c.in_ok-line.ensures from_log in
    let none = ap (λ (q : Logged). calls_in q.parts) c.in_ok-log.ensures in
    let calls = c.in_ok-tell.ensures.calls in
    let counted = subst (λ (n : ℕ). Proceeds (problem_of library c.data.result.now) 0 (range_with_len 0 n) line
    (made []) (made parts)) c.instances.ensures.count from_line in
    record {
      cells = c.tell.ensures.cells ∙ ap (λ (q : Logged). q.cells) c.in_ok-log.ensures ∙ c.cells.ensures.count;
      line = c.tell.ensures.line ∙ ap (λ (q : Lined). q.count) c.in_ok-line.ensures ∙ c.instances.ensures.count;
      founded = subst (λ (e : Data). AreFounded library e s parts) c.data.ensures told;
      proceeds = subst (λ (e : Data). Proceeds (problem_of library e) 0 (range_with_len 0 (length d.instances)) line
          (made []) (made parts)) c.data.ensures counted;
      went = inr (
        calls ∙ none,
        subst (λ (e : Data). Proceeds (problem_of library e) 0
            (range_with_len 0 (length d.instances)) line (made []) (made parts)) c.data.ensures counted,
      );
      few = omega (arith, calls, none);
      heard = subst (λ (e : Data). All (Satisfies s (made parts)) e.statements) c.data.ensures
          c.in_ok-tell.ensures.heard;
    }

pub loop-preserved : goal.loop-preserved
loop-preserved g c =
    let library = stored_of g.R.Rule.value_of c.args.network.now.library in
    let d = c.args.network.now.cells in
    let problem = problem_of library d in
    let s = set_of c.args.premises.now in
    let cell = c.args.claim.cell in
    let value = c.args.claim.value in
    let was = made c.loop.log.parts in
    let now = made c.proceed.new.log.parts in
    let count = length d.instances in
    let start = range_with_len 0 count in
    let kept = c.loop.invariant in
    let step = c.in_ok-proceed.ensures.proceeds in
    let went = proceeds_then problem 0 0 start c.loop.line.line c.proceed.new.line.line (made []) was now kept.proceeds
    step in
    let heard = heard_still s was now d.statements step.grows kept.heard in
    let rest : c.proceed.new.line.line ≡ [] → Below value (now cell) =
    known_at_rest library d s cell value now start c.proceed.new.line.line 0 c.requires.entails heard (made [])
    (all_wait library d count (made []) refl) went in
    let same : c.proceed.new.log ≡ c.loop.log → calls_in c.proceed.new.log.parts ≡ calls_in c.loop.log.parts =
    λ e. ap (λ (q : Logged). calls_in q.parts) e in
    record {
      cells = c.proceed.ensures.cells ∙ kept.cells;
      line = c.proceed.ensures.line ∙ kept.line;
      founded = c.proceed.ensures.founded s kept.founded;
      proceeds = went;
      went = elim c.in_ok-proceed.ensures.more [
        | inl idle ↦ inl (rest idle.0)
        | inr more ↦ elim kept.went [
          | inl known ↦ inl (info_laws.transitive value (was cell) (now cell) known (step.grows cell))
          | inr counted ↦ inr (
            (let n = more.0 in let m = counted.0 in omega (arith, n, m)),
            proceeds_then problem c.loop.counter 1 start c.loop.line.line c.proceed.new.line.line (made []) was now
                counted.1 more.1,
          )
        ]
      ];
      few = elim c.in_ok-proceed.ensures.more [
        | inl idle ↦ (let n = same idle.1 in omega (arith, n, kept.few))
        | inr more ↦ (let n = more.0 in omega (arith, n, kept.few))
      ];
      heard = heard;
    }

pub returns-clause-enough : goal.returns-clause-enough
returns-clause-enough g c = λ most.
    let library = stored_of g.R.Rule.value_of c.args.network.now.library in
    let d = c.args.network.now.cells in
    let s = set_of c.args.premises.now in
    let cell = c.args.claim.cell in
    let value = c.args.claim.value in
    let count = length d.instances in
    let known = made c.loop.log.parts in
    let kept = c.loop.invariant in
    elim c.loop-test.branch as (λ _. Below value (known cell)) [
      | else-loop-test w ↦ elim kept.went [
        | inl says ↦ says
        | inr counted ↦ known_at_rest library d s cell value known (range_with_len 0 count) c.loop.line.line 0
            c.requires.entails kept.heard (made []) (all_wait library d count (made []) refl) kept.proceeds
            (rests_at_most library d count c.loop.counter c.args.budget c.loop.line.line known refl counted.1
            (omega (arith, w.loop-test.false)) most)
      ]
      | then-loop-test+then-implies w ↦ rw w.made.ensures at w.implies.ensures.0 w.if-implies.true
    ]

pub returns-clause-few : goal.returns-clause-few
returns-clause-few g c = omega (arith, c.loop.invariant.few)

pub returns-clause-used : goal.returns-clause-used
returns-clause-used g c = λ short.
    let known = made c.loop.log.parts in
    let value = c.args.claim.value in
    let cell = c.args.claim.cell in
    let kept = c.loop.invariant in
    elim c.loop-test.branch as (λ _. calls_in c.loop.log.parts ≡ c.args.budget) [
      | else-loop-test w ↦ elim kept.went [
        | inl says ↦ absurd (short says)
        | inr counted ↦ (let n = counted.0 in omega (arith, n, w.loop-test.false))
      ]
      | then-loop-test+then-implies w ↦ absurd (short (rw w.made.ensures at w.implies.ensures.0 w.if-implies.true))
    ]
