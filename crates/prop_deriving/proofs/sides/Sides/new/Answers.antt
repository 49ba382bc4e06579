use Rattle.std.proofs.Common.{◌∙◌, ◌+◌, ap, length}
use Rattle.prop_plans.specs.Held.{attached_of}
use Rattle.prop_deriving.proofs.SidingLemmas.{no_sidings}
use Rattle.prop_deriving.proofs.sides.Sides.new.Goals as goal

pub loop-statement-init : goal.loop-statement-init
loop-statement-init g c = no_sidings (attached_of c.args.network.now.cells) c.args.choices.now c.new.result.items
    (λ row. row.items) c.in_ok-no_numbers.field-0.items c.new.ensures.items
    (c.in_ok-no_numbers.ensures.places ∙ ap (λ k. k + length c.args.choices.now) c.cells.ensures.count)
    c.in_ok-no_numbers.ensures.none
