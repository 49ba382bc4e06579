use Rattle.std.proofs.Common.{◌≡◌, ◌∙◌, ℕ, ◌+◌, ◌-◌, ◌<◌, List, [], ◌∷◌, ◌++◌, length, take, drop, slice_set}
use Rattle.std.proofs.Common.{slice_index_or, refl, sym, arith, add-one, length-drop}
use Rattle.std.proofs.lemmas.List.{take_all}
use borrow.Rule.Slice.PartMut.{put_mid}
use Rattle.prop_amb.specs.Moving.{no_reasons, reasons_advanced}
use Rattle.prop_amb.proofs.ReasonLaws.{put_end, advanced_reasons}
use Rattle.prop_amb.proofs.reasons.advance_reasons.Goals as goal

put_advanced : (reasons whole later : List (List (List ℕ))) (each : List (List ℕ)) (j : ℕ) (n : List ℕ)
    (d : List (List ℕ)) → j < length reasons → each ≡ slice_index_or reasons j d ++ n ∷ []
    → whole ≡ slice_set reasons j each →
    later ≡ no_reasons (take (length whole - (j + 1)) (drop (j + 1) whole))
    → put_mid (j + 1) (length whole - (j + 1)) whole later ≡ reasons_advanced reasons j n
put_advanced reasons whole later each j n d l added put none =
    let all : take (length whole - (j + 1)) (drop (j + 1) whole) ≡ drop (j + 1) whole =
    take_all (length whole - (j + 1)) (drop (j + 1) whole) (omega (arith, length-drop (j + 1) whole)) in
    put_end (j + 1) whole later ∙ rw (none, all, add-one, put, added) (sym (advanced_reasons reasons j n d l))

pub returns-clause-ok : goal.returns-clause-ok
returns-clause-ok c =
    put_advanced c.args.reasons.now _ c.forget.new.reasons c.add.new.self c.args.place c.args.reason
    c.index-reasons-place.result c.requires c.in_ok-add.ensures.ok refl c.forget.ensures
