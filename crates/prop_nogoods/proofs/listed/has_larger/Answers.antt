use Rattle.std.proofs.Common.{rules, ◌≡◌, ◌∙◌, take, drop, length-drop, ap, sym}
use Rattle.std.proofs.Math.Seq.{take-length}
use Rattle.std.specs.List.{list_any}
use Rattle.std.proofs.lemmas.Iterator.{YieldsList-from_slice}
use Rattle.std.proofs.lemmas.Iterator.Search.{any_from_yields_List}
use Rattle.prop_numbers.specs.Sets.{set_of, is_within}
use Rattle.prop_nogoods.proofs.PlaceLemmas.{part_of_none}
use Rattle.prop_nogoods.proofs.listed.has_larger.Goals as goal

pub returns : goal.returns
returns c none =
    let listed = c.args.listed.now in
    let n = c.args.nogood.now in
    let behind = drop c.place_of-place.result listed in
    let rest = c.iter.ensures.rest ∙ ap (λ m. take m behind) (sym (length-drop c.place_of-place.result listed))
    ∙ take-length behind in
    let tells : c.any.result ≡ list_any (λ line. is_within (set_of line) n) behind =
    any_from_yields_List (λ line. is_within (set_of line) n) _ _ c.any.result c.any.ensures.ran
    (YieldsList-from_slice behind rest) (λ x b q k. search rules) in
    part_of_none listed n c.place_of-place.result c.requires.in_order c.place_of-place.ensures.between
    c.requires.no_part (sym tells ∙ none)
