use Rattle.std.proofs.Common.{◌≡◌, ◌∙◌, ◌+◌, ◌-◌, ap, arith, refl, length, length-drop, drop, take, slice_set}
use Rattle.std.proofs.Common.{slice_index_or}
use Rattle.std.proofs.Math.ListN.{replicate}
use Rattle.std.proofs.lemmas.List.{length-set, take_all}
use Rattle.prop_amb.proofs.ReasonLaws.{sides_advanced}
use Rattle.prop_amb.proofs.lists.move_on.Goals as goal

pub returns : goal.returns
returns c =
    let list = c.args.list.now in
    let place = c.args.place in
    let next = slice_index_or list place 0 + 1 in
    let set = slice_set list place next in
    let all = take_all (length set - (place + 1)) (drop (place + 1) set) (omega (arith, length-drop (place + 1) set)) in
    let rest : length (take (length set - (place + 1)) (drop (place + 1) set)) ≡ length list - (place + 1) =
    omega (arith, ap length all, length-drop (place + 1) set, length-set list place next) in
    sides_advanced list c.fill.new.self place next c.requires.place refl
    (c.fill.ensures.after (λ y e. e) ∙ ap (λ n. replicate n 1) rest)
