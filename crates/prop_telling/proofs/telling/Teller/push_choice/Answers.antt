use Rattle.std.proofs.Common.{◌≡◌, ◌∙◌, ◌<◌, ◌++◌, ◌∷◌, [], ap, sym, arith, length, map, slice_get, append_assoc}
use Rattle.std.proofs.Common.{slice_index_or}
use Rattle.std.specs.Option.{option_map_or}
use Rattle.std.specs.String.{string_bytes}
use Rattle.std.proofs.lemmas.List.{map-append}
use Rattle.std.proofs.lemmas.Option.{slice_get_within}
use Rattle.prop_numbers.specs.Sets.{set_of}
use Rattle.prop_premises.specs.Origins.{choices_of}
use Rattle.prop_amb.proofs.ZipLemmas.{index_at, zip_length}
use Rattle.prop_telling.specs.Listing.{choice_line, refuted_lines}
use Rattle.prop_telling.proofs.ListingLemmas.{place_there, on_ok}
use Rattle.prop_telling.proofs.telling.Teller.push_choice.Goals as goal

pub bounds-choices-place : goal.bounds-choices-place
bounds-choices-place g c =
    let s = c.args.self.now.session.search in
    let p = place_there s c.args.place c.requires.sound.in_order.at_work.well_made c.requires.place in
    rw (c.choices.ensures, c.premises-premises.ensures, c.search.ensures)
    (slice_get_within (choices_of s.premises) c.args.place p.choice p.choice_at)

pub offset_bounds-choices-place : goal.offset_bounds-choices-place
offset_bounds-choices-place g c =
    let below : c.args.place < length c.choices.result.now = bounds-choices-place g c in
    omega (arith, below, c.choices.type_inv)

pub reasons_at-requires : goal.reasons_at-requires
reasons_at-requires g c =
    let s = c.args.self.now.session.search in
    omega (
      arith,
      c.requires.place,
      zip_length _ s.list s.reasons c.requires.sound.in_order.at_work.well_made.reasoned,
    )

pub push_refuted-requires : goal.push_refuted-requires
push_refuted-requires g c =
    let s = c.args.self.now.session.search in
    let p = place_there s c.args.place c.requires.sound.in_order.at_work.well_made c.requires.place in
    record {
      first = rw (
        c.choices.ensures,
        c.premises-premises.ensures,
        c.search.ensures,
        index_at (choices_of s.premises) c.args.place p.choice _ p.choice_at,
      ) p.first;
    }

pub returns : goal.returns
returns g c =
    let s = c.args.self.now.session.search in
    let place = c.args.place in
    let old = map string_bytes c.args.lines.now.items in
    let p = place_there s place c.requires.sound.in_order.at_work.well_made c.requires.place in
    let premises = c.premises-premises.ensures ∙ ap (λ u. u.premises) c.search.ensures in
    let choice : slice_index_or c.choices.result.now place (record { first = 0; sides = 0 }) ≡ p.choice =
    ap (λ cs. slice_index_or cs place (record { first = 0; sides = 0 })) (c.choices.ensures ∙ ap choices_of premises)
    ∙ index_at (choices_of s.premises) place p.choice _ p.choice_at in
    let line = choice_line s.premises (set_of s.worldview) s.list place in
    let pushed : map string_bytes c.push.new.self.items ≡ old ++ line ∷ [] =
    ap (map string_bytes) c.in_ok-push.ensures.items
    ∙ map-append string_bytes c.args.lines.now.items (c.in_ok-choice_line.field-0 ∷ [])
    ∙ ap (λ t. old ++ t ∷ []) c.in_ok-choice_line.ensures in
    let refuted : refuted_lines c.premises-premises.result.now
    (slice_index_or c.choices.result.now place (record { first = 0; sides = 0 })) c.reasons_at.result.now
    ≡ option_map_or (λ (h : _). refuted_lines s.premises h (slice_index_or s.reasons place []))
    (slice_get (choices_of s.premises) place) [] =
    (λ i. refuted_lines (premises i) (choice i) (c.reasons_at.ensures i))
    ∙ sym (ap (λ o. option_map_or (λ (h : _). refuted_lines s.premises h (slice_index_or s.reasons place [])) o [])
    p.choice_at) in
    on_ok c.push_refuted.result
    (λ e. e ∙ (λ i. pushed i ++ refuted i) ∙ append_assoc old (line ∷ []) _) c.push_refuted.ensures
