use Rattle.std.proofs.Common.{map}
use Rattle.std.specs.String.{string_bytes}
use Rattle.prop_telling.specs.Listing.{choice_lines}
use Rattle.prop_telling.proofs.ListingLemmas.{pieces_more}
use Rattle.prop_telling.proofs.telling.Teller.push_choices.Goals as goal

pub loop-place-preserved : goal.loop-place-preserved
loop-place-preserved g c =
    pieces_more (choice_lines c.args.self.now.session.search) (map string_bytes c.args.lines.now.items)
    (map string_bytes c.loop-place.lines.items) (map string_bytes c.push_choice.new.lines.items) c.loop-place.place
    c.loop-place.invariant c.in_ok-push_choice.ensures
