use Rattle.std.proofs.Common.{◌∙◌, ◌-◌, take, drop, length, rules, sym}
use mir.Syntax.{w64, w128}
use mir.Val.{SFits}
use Rattle.std.proofs.lemmas.Int.{to_z-of_z}
use Rattle.prop_many.specs.Loads.{is_free, keeps_room}
use Rattle.prop_many.proofs.Steps.{keeps_room_step}
use Rattle.prop_many.proofs.loads.+keeps_room.Goals as goal

pub returns-then-leaves_room : goal.returns-then-leaves_room
returns-then-leaves_room t c =
    let tail = take (length c.args.starting.now - 3) (drop 3 c.args.starting.now) in
    let room = to_z-of_z w128 c.args.room c.ranges.room in
    let from = to_z-of_z w64 c.args.from c.ranges.from in
    let to = to_z-of_z w128 c.args.to c.ranges.to in
    let fits : SFits w64 c.high_of.result = search rules in
    let time = to_z-of_z w64 c.high_of.result fits in
    keeps_room_step c.args.tasks.now c.args.starting.now c.args.room c.args.from c.args.to c.high_of.result
    c.start-item.result c.keeps_room.result c.in-len3-up.len_at_least c.start-item.is c.high_of.ensures.value
    (sym c.if-leaves_room.true ∙ c.is_free-leaves_room.ensures
    ∙ (λ i. is_free c.args.tasks.now (room i) (from i) (to i) (time i)))
    (c.keeps_room.ensures ∙ (λ i. keeps_room c.args.tasks.now tail (room i) (from i) (to i)))
