use Rattle.std.proofs.Common.{◌≡◌, ◌≤◌, ◌∙◌, ◌==◌, List, ap, subst, sym, arith}
use Rattle.prop_lattice.specs.Order.{Below}
use Rattle.prop_numbers.specs.Sets.{set_of}
use Rattle.prop_procedures.specs.Kept.{stored_of}
use Rattle.prop_origins.specs.Parts.{Part, made, calls_in}
use Rattle.prop_origins.specs.Founded.{MakeUp}
use Rattle.prop_origins.specs.Pruned.{pruned}
use Rattle.prop_origins.proofs.Founding.{made_up}
use Rattle.prop_origins.proofs.PrunedLaws.{pruned_calls}
use Rattle.prop_origins.proofs.making.origins.Goals as goal

pub returns : goal.returns
returns g c =
    let library = stored_of g.R.Rule.value_of c.args.network.now.library in
    let d = c.args.network.now.cells in
    let s = set_of c.args.why.now.support in
    let cell = c.args.cell in
    let log = c.in_ok-log.log in
    let is : c.in_ok-parts.parts.items ≡ pruned (λ k. k == cell) log.parts = c.in_ok-parts.ensures
    ∙ ap (λ (ps : List Part). pruned (λ k. k == cell) ps) c.into_parts.ensures.parts in
    let enough : Below c.args.why.now.value (made log.parts cell) =
    rw c.made.ensures at (c.implies.ensures.0 c.if-not-implies.false) in
    record {
      whole = subst (λ (ps : List Part). MakeUp library d s cell c.args.why.now.value ps) (sym is)
          (made_up library d s cell c.args.why.now.value log.parts c.in_ok-log.ensures.founded enough);
      few = subst (λ (ps : List Part). calls_in ps ≤ c.args.budget) (sym is)
          (let fewer = pruned_calls (λ k. k == cell) log.parts in
          omega (arith, fewer, c.in_ok-log.ensures.few));
      cut = tt;
      short = tt;
    }

pub returns-then-not-implies-clause-short : goal.returns-then-not-implies-clause-short
returns-then-not-implies-clause-short g c =
    let log = c.in_ok-log.log in
    let value = c.args.why.now.value in
    let short : ¬ (Below value (made log.parts c.args.cell)) =
    λ h. absurd (cc (c.implies.ensures.1 (rw c.made.ensures h), c.if-not-implies.true)) in
    record {
      parts = log.parts;
      founded = c.in_ok-log.ensures.founded;
      calls_are = c.in_ok-log.ensures.used short;
      heard = c.in_ok-log.ensures.heard;
      short = short;
    }
