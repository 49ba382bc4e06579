use Rattle.std.proofs.Common.{◌≡◌, ◌+◌, ◌∙◌, ap, refl, length, arith}
use Rattle.prop_cells.specs.Data.{Data}
use Rattle.prop_cells.proofs.SideLemmas.{back_start, back_more, states_more}
use Rattle.prop_cells.proofs.cells.Cells.push_sides.Goals as goal

pub loop-i-init : goal.loop-i-init
loop-i-init c = record {
  kinds = refl;
  stated = refl;
  back = rw (c.len-count.ensures ∙ c.self.inside.statements.ok.0
      ∙ ap (λ (d : Data). length d.statements) c.self.view_is)
      (back_start c.args.self.now c.args.cell c.args.first c.requires.below);
}

pub loop-i-preserved : goal.loop-i-preserved
loop-i-preserved c =
    let d = c.args.self.now in
    let cur = c.loop-i.self in
    let new = c.push_statement.new.self in
    let info = c.index-infos-i.result in
    let p = c.args.first + c.loop-i.i in
    let before = c.loop-i.invariant in
    let count : c.len-count.result ≡ length d.statements = c.len-count.ensures ∙ c.self.inside.statements.ok.0
    ∙ ap (λ (d : Data). length d.statements) c.self.view_is in
    let states = c.in_default.ensures.ok in
    record {
      kinds = ap (λ n. n.kinds) states.rest ∙ before.kinds;
      stated = states_more d cur new c.args.first c.args.cell c.loop-i.i p c.args.infos.now info info c.loop-i-test.true
          refl c.index-infos-i.is before.stated states;
      back = rw count (back_more c.args.first p (omega arith) d cur new c.args.cell info (rw count at before.back)
          states c.in_default.ensures.stands);
    }
