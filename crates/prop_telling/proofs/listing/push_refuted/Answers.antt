use Rattle.std.proofs.Common.{◌≡◌, ◌∙◌, ◌++◌, ◌+◌, ap, sym, slice_get, slice_index_or, codes, decimal, []}
use Rattle.std.specs.Option.{option_map_or}
use Rattle.std.specs.String.{string_bytes}
use Rattle.prop_premises.specs.Origins.{name_of}
use Rattle.prop_texts.specs.Texts.{premises_text}
use Rattle.prop_telling.specs.Listing.{refuted_line}
use Rattle.prop_telling.proofs.ListingLemmas.{lines_pushed, named_or, get_same}
use Rattle.prop_telling.proofs.listing.push_refuted.Goals as goal

pub loop-number-preserved : goal.loop-number-preserved
loop-number-preserved c =
    let premises = c.args.premises.now in
    let reasons = c.args.reasons.now in
    let n = c.loop-number.number in
    let named : option_map_or name_of (slice_get premises c.args.choice.first) [] ≡ c.name-name.result.now =
    named_or (slice_get premises c.args.choice.first) c.name-name.result.now c.name-name.ensures.name in
    let reason : string_bytes c.in_ok-reason.reason ≡ premises_text premises (slice_index_or reasons n []) =
    c.in_ok-reason.ensures ∙ ap (premises_text premises) (c.index-reasons-number.is
    ∙ get_same reasons n _ [] c.loop-number-test.true) in
    let line : string_bytes c.in_ok-format.field-0 ≡ refuted_line premises c.args.choice reasons n =
    c.in_ok-format.ensures.ok ∙ (λ i. codes "refuted " ++ (sym named i ++ (codes "="
    ++ (decimal (n + 1) ++ (codes " because" ++ reason i))))) in
    lines_pushed string_bytes (refuted_line premises c.args.choice reasons) c.args.lines.now.items
    c.loop-number.lines.items c.push.new.self.items c.in_ok-format.field-0 n c.loop-number.invariant
    c.in_ok-push.ensures.items line
