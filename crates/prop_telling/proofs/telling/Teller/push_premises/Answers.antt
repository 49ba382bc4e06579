use Rattle.std.proofs.Common.{◌≡◌, ◌∙◌, ◌++◌, ◌+◌, ap, sym, map, take, not, is_some, ◌∷◌, []}
use Rattle.std.specs.Prelude.{flat_map}
use Rattle.std.specs.String.{string_bytes}
use Rattle.std.proofs.lemmas.List.{map-append}
use Rattle.prop_premises.specs.Origins.{side_at}
use Rattle.prop_telling.specs.Listing.{premise_lines}
use Rattle.prop_telling.proofs.ListingLemmas.{user_more, side_more}
use Rattle.prop_telling.proofs.telling.Teller.push_premises.Goals as goal
use Rattle.prop_telling.proofs.telling.Teller.push_premises.Goals.{else-is_none}
use Rattle.prop_telling.proofs.telling.Teller.push_premises.Goals.{then-is_none+in_ok-premise_line+in_ok-push}

pub loop-number-preserved : goal.loop-number-preserved
loop-number-preserved g c =
    let premises = c.args.self.now.session.search.premises in
    let k = c.loop-number.number in
    let old = map string_bytes c.args.lines.now.items in
    let now = map string_bytes c.loop-number.lines.items in
    let l = rw (c.len-number-end.ensures.len, c.premises-premises.ensures, c.search.ensures) at c.loop-number-test.true
    in
    let side : c.side.result ≡ side_at premises k = c.side.ensures
    ∙ ap (λ ps. side_at ps k) (c.premises-premises.ensures ∙ ap (λ u. u.premises) c.search.ensures) in
    let tested : is_some (side_at premises k) ≡ not c.is_none.result = sym (ap is_some side) ∙ c.is_none.ensures in
    elim c.if-is_none.branch as (λ _.
    map string_bytes c.if-is_none.lines.items ≡ old ++ flat_map premise_lines (take (k + 1) premises)) [
      | then-is_none+in_ok-premise_line+in_ok-push w ↦ ap (λ v. map string_bytes v.items) w.lines-is
          ∙ user_more premises old now (map string_bytes w.push.new.self.items) k
          (string_bytes w.in_ok-premise_line.field-0) l (tested ∙ ap not w.if-is_none.true) c.loop-number.invariant
          (ap (map string_bytes) w.in_ok-push.ensures.items
          ∙ map-append string_bytes c.loop-number.lines.items (w.in_ok-premise_line.field-0 ∷ []))
          w.in_ok-premise_line.ensures
      | else-is_none w ↦ ap (λ v. map string_bytes v.items) w.lines-is
          ∙ side_more premises old now k l (tested ∙ ap not w.if-is_none.false) c.loop-number.invariant
    ]
