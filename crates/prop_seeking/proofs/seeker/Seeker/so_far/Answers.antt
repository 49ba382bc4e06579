use Rattle.std.proofs.Common.{◌≡◌, ◌∙◌, Some, rules, subst, sym}
use mir.Syntax.{w64}
use mir.Val.{SFits, of_z, to_z}
use Rattle.std.specs.Prelude.{ℤ, slice_index}
use Rattle.std.proofs.lemmas.Int.{to_z-of_z}
use Rattle.std.specs.String.{string_bytes}
use Rattle.std.proofs.lemmas.Result.{IfOk-weaker}
use Rattle.prop_workbench.specs.Sessions.{library_of, state_of}
use Rattle.prop_solve.specs.declared.question.Goal.{Goal}
use Rattle.prop_solve.specs.declared.question.Goal.TheVariants.{Differing}
use Rattle.prop_seeking.specs.Plans.{Fits}
use Rattle.prop_seeking.specs.inner.Seekers.{ground_in, plan_of, state_at}
use Rattle.prop_seeking.specs.Plans.{SaysOne}
use Rattle.prop_seeking.specs.inner.Bounds.{Bounds, IsBarred}
use Rattle.prop_seeking.specs.inner.Seekers.{aim_of}
use Rattle.prop_seeking.proofs.BoundLemmas.{refutes_bound}
use Rattle.prop_seeking.proofs.ReplyLemmas.{last_fits, optimum_quiet, says_bounded, says_so_far}
use Rattle.prop_seeking.proofs.seeker.Seeker.so_far.Goals as goal

pub returns-in_default : goal.returns-in_default
returns-in_default g c =
    let s = c.args.self.now.teller.session in
    let library = library_of g.R.Rule.value_of s in
    let ground = ground_in g.R.Rule.value_of s in
    let search = c.args.inquiry.now.solver in
    let quiet : search.goal ≡ Differing → ⊥ =
    λ e. optimum_quiet c.args.goal c.requires.optimum (sym c.requires.goal ∙ e) in
    let fits = last_fits ground search c.args.inquiry.now.last c.args.plan.now c.requires.plan
    (c.requires.inquiry.last quiet) in
    IfOk-weaker c.plan.result _ _
    (λ t is. says_so_far library (state_of s) search 0 search.excuses search.excuses (string_bytes t) c.args.goal
    (slice_index search.named 0) (plan_of c.args.plan.now) c.requires.optimum fits is) c.plan.ensures

pub returns : goal.returns
returns g c =
    let s = c.args.self.now.teller.session in
    let library = library_of g.R.Rule.value_of s in
    let ground = ground_in g.R.Rule.value_of s in
    let search = c.args.inquiry.now.solver in
    let quiet : search.goal ≡ Differing → ⊥ =
    λ e. optimum_quiet c.args.goal c.requires.optimum (sym c.requires.goal ∙ e) in
    let fits = last_fits ground search c.args.inquiry.now.last c.args.plan.now c.requires.plan
    (c.requires.inquiry.last quiet) in
    IfOk-weaker c.plan-in-None.result _ _
    (λ t is. says_so_far library (state_of s) search 0 search.excuses search.excuses (string_bytes t) c.args.goal
    (slice_index search.named 0) (plan_of c.args.plan.now) c.requires.optimum fits is) c.plan-in-None.ensures

pub returns-in-Some-bounding : goal.returns-in-Some-bounding
returns-in-Some-bounding g c =
    let s = c.args.self.now.teller.session in
    let library = library_of g.R.Rule.value_of s in
    let ground = ground_in g.R.Rule.value_of s in
    let asked = c.args.inquiry.now.solver in
    let plan = c.args.plan.now in
    let bound = c.in-Some.bound in
    let cell = c.in-Some-bounding.cell in
    let end = c.in-Some-bounding.end in
    let quiet : asked.goal ≡ Differing → ⊥ =
    λ e. optimum_quiet c.args.goal c.requires.optimum (sym c.requires.goal ∙ e) in
    let last = c.requires.inquiry.last quiet in
    let fits = last_fits ground asked c.args.inquiry.now.last plan c.requires.plan last in
    let barred : IsBarred ground asked bound.end bound.by =
    rw (
      c.in-Some.is,
      c.network-network.ensures,
      c.live.ensures,
      c.premises-premises.ensures,
      c.search.ensures,
      c.session-session.ensures,
    ) at c.in_ok-bound.ensures in
    let fits_end : SFits w64 bound.end = search rules in
    let told : Bounds ground.cells.kinds c.args.goal plan.values.items (to_z w64 (of_z w64 bound.end)) cell end =
    rw (c.data.ensures, c.network-network.ensures, c.live.ensures, c.session-session.ensures) at
    c.in-Some-bounding.ensures in
    let of_end : Bounds ground.cells.kinds c.args.goal plan.values.items bound.end cell end =
    subst (λ (z : ℤ). Bounds ground.cells.kinds c.args.goal plan.values.items z cell end)
    (to_z-of_z w64 bound.end fits_end) told in
    let bounds = subst (λ (x : Goal). Bounds ground.cells.kinds x plan.values.items bound.end cell end)
    (sym c.requires.goal) of_end in
    let refutes = refutes_bound ground asked c.args.inquiry.now.last plan bound.end cell end bound.by
    c.requires.plan c.requires.inquiry.first last bounds barred in
    IfOk-weaker c.bounded.result _ _
    (λ t is. subst (λ (x : Goal). SaysOne library (state_of s) (aim_of x) (slice_index asked.named 0)
    (string_bytes t)) c.requires.goal
    (says_bounded library (state_of s) asked 0 asked.excuses asked.excuses (string_bytes t) asked.goal
    asked.named (plan_of plan) bounds.found bound.end cell end bound.by c.requires.inquiry.first bounds.within fits
    refutes is)) c.bounded.ensures
