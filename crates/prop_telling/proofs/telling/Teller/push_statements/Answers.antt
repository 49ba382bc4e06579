use Rattle.std.specs.String.{string_bytes}
use Rattle.prop_workbench.specs.Sessions.{state_of}
use Rattle.prop_telling.specs.Listing.{statement_line}
use Rattle.prop_telling.proofs.ListingLemmas.{lines_pushed}
use Rattle.prop_telling.proofs.telling.Teller.push_statements.Goals as goal

pub loop-number-preserved : goal.loop-number-preserved
loop-number-preserved g c =
    let s = c.args.self.now.session in
    let n = c.args.self.now.notes in
    lines_pushed string_bytes (statement_line n (state_of s)) c.args.lines.now.items c.loop-number.lines.items
    c.push.new.self.items
    c.in_ok-statement_line.field-0 c.loop-number.number c.loop-number.invariant c.in_ok-push.ensures.items
    c.in_ok-statement_line.ensures
