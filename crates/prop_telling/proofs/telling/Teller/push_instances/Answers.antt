use Rattle.std.proofs.Common.{◌∙◌, ap, sym, []}
use Rattle.std.specs.String.{string_bytes}
use Rattle.std.specs.Option.{option_map_or}
use Rattle.prop_procedures.specs.Kept.{stored_of}
use Rattle.prop_workbench.specs.Sessions.{state_of}
use Rattle.prop_telling.specs.Listing.{instance_line, instance_text}
use Rattle.prop_telling.proofs.TellingLemmas.{there}
use Rattle.prop_telling.proofs.ListingLemmas.{lines_pushed}
use Rattle.prop_telling.proofs.telling.Teller.push_instances.Goals as goal

pub loop-number-preserved : goal.loop-number-preserved
loop-number-preserved g c =
    let s = c.args.self.now.session in
    let n = c.args.self.now.notes in
    let library = stored_of g.R.Rule.value_of s.live.network.library in
    let k = c.loop-number.number in
    let l = rw (c.instances-number-end.ensures.count, c.network-network.ensures, c.live.ensures) at
    c.loop-number-test.true in
    let x = there s.live.network.cells.instances k l in
    let texts = rw (c.names-names.ensures, c.network-network.ensures, c.live.ensures) at
    c.in_ok-instance_text.ensures in
    lines_pushed string_bytes (instance_line n library (state_of s)) c.args.lines.now.items c.loop-number.lines.items
    c.push.new.self.items c.in_ok-instance_text.field-0 k c.loop-number.invariant c.in_ok-push.ensures.items
    (texts x.0 x.1 ∙ sym (ap (λ o. option_map_or (instance_text n library s.names k) o []) x.1))
