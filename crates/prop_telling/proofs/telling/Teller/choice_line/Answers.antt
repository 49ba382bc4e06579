use Rattle.std.proofs.Common.{◌≡◌, ◌∙◌, ◌<◌, ◌+◌, ◌-◌, ap, sym, arith, slice_index_or, slice_get, IfOk, length, Some}
use Rattle.std.specs.Option.{option_map}
use Rattle.std.specs.String.{string_bytes}
use Rattle.std.specs.Prelude.{codes, decimal, ◌++◌}
use Rattle.std.proofs.lemmas.Option.{slice_get_within}
use Rattle.std.proofs.lemmas.Result.{IfOk-weaker}
use Rattle.prop_premises.specs.Origins.{choices_of, name_of}
use Rattle.prop_premises.specs.ChoiceLists.{hypothetical}
use Rattle.prop_numbers.specs.Sets.{set_of}
use Rattle.prop_telling.specs.Listing.{belief_text}
use Rattle.prop_amb.proofs.ZipLemmas.{index_at}
use Rattle.prop_telling.proofs.ListingLemmas.{place_there, choice_said}
use Rattle.prop_telling.proofs.telling.Teller.choice_line.Goals as goal

pub bounds-choices-place : goal.bounds-choices-place
bounds-choices-place g c =
    let s = c.args.self.now.session.search in
    let p = place_there s c.args.place c.requires.sound.in_order.at_work.well_made c.requires.place in
    rw (c.choices.ensures, c.premises.ensures, c.search-search.ensures)
    (slice_get_within (choices_of s.premises) c.args.place p.choice p.choice_at)

pub name-name-requires : goal.name-name-requires
name-name-requires g c =
    let s = c.args.self.now.session.search in
    let p = place_there s c.args.place c.requires.sound.in_order.at_work.well_made c.requires.place in
    rw (
      c.choices.ensures,
      c.premises.ensures,
      c.premises-2.ensures,
      c.search-search.ensures,
      index_at (choices_of s.premises) c.args.place p.choice _ p.choice_at,
    ) p.first

pub overflow_sub-side : goal.overflow_sub-side
overflow_sub-side g c =
    let s = c.args.self.now.session.search in
    let p = place_there s c.args.place c.requires.sound.in_order.at_work.well_made c.requires.place in
    rw (c.list.ensures, c.search-search.ensures, index_at s.list c.args.place p.side 0 p.side_at) p.is_side.0

pub offset_bounds-choices-place : goal.offset_bounds-choices-place
offset_bounds-choices-place g c =
    let below : c.args.place < length c.choices.result.now = bounds-choices-place g c in
    omega (arith, below, c.choices.type_inv)

pub returns : goal.returns
returns g c =
    let s = c.args.self.now.session.search in
    let p = place_there s c.args.place c.requires.sound.in_order.at_work.well_made c.requires.place in
    let choices = c.choices.ensures
    ∙ ap choices_of (c.premises.ensures ∙ ap (λ u. u.premises) c.search-search.ensures) in
    let choice : slice_index_or c.choices.result.now c.args.place (record { first = 0; sides = 0 }) ≡ p.choice =
    ap (λ cs. slice_index_or cs c.args.place (record { first = 0; sides = 0 })) choices
    ∙ index_at (choices_of s.premises) c.args.place p.choice _ p.choice_at in
    let side : slice_index_or c.list.result.now c.args.place 0 ≡ p.side =
    ap (λ l. slice_index_or l c.args.place 0) (c.list.ensures ∙ ap (λ u. u.list) c.search-search.ensures)
    ∙ index_at s.list c.args.place p.side 0 p.side_at in
    let believed : c.has.result ≡ set_of s.worldview (hypothetical p.choice p.side) = c.has.ensures
    ∙ (λ i. set_of ((c.worldview.ensures.same ∙ ap (λ u. u.worldview) c.search-search.ensures) i)
    ((choice i).first + (c.from.ensures ∙ ap (λ n. n - 1) side) i)) in
    let named : option_map name_of (slice_get s.premises p.choice.first) ≡ Some c.name-name.result.now =
    sym (λ i. option_map name_of (slice_get ((c.premises-2.ensures ∙ ap (λ u. u.premises) c.search-search.ensures) i)
    (choice i).first)) ∙ c.name-name.ensures.name in
    let written : IfOk c.format.result (λ text. string_bytes text ≡ codes "choice " ++ (c.name-name.result.now
    ++ (codes " " ++ (decimal (slice_index_or c.list.result.now c.args.place 0) ++ (codes " of "
    ++ (decimal (slice_index_or c.choices.result.now c.args.place (record { first = 0; sides = 0 })).sides
    ++ (codes " " ++ c.belief_text-belief.result.now))))))) = c.format.ensures.ok in
    IfOk-weaker c.format.result _ _
    (λ text is. is ∙ (λ i. codes "choice " ++ (c.name-name.result.now ++ (codes " " ++ (decimal (side i)
    ++ (codes " of "
    ++ (decimal (choice i).sides ++ (codes " " ++ (c.belief_text-belief.ensures ∙ ap belief_text believed) i)))))))
    ∙ sym (choice_said s.premises (set_of s.worldview) s.list c.args.place p.choice p.side c.name-name.result.now
    p.choice_at p.side_at named)) written
