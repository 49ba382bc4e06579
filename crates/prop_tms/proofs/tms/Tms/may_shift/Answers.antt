use Rattle.std.proofs.Common.{◌∙◌, sym}
use Rattle.prop_numbers.specs.Sets.{set_of}
use Rattle.prop_tms.proofs.ShiftLemmas.{belief_alike, some_in_one}
use Rattle.prop_tms.proofs.tms.Tms.may_shift.Goals as goal

pub returns-clause-some : goal.returns-clause-some
returns-clause-some g c = rw (← c.self.view_is, c.may_shift.ensures, c.deref.ensures)
    (some_in_one (set_of c.args.shift.now.before.now) (set_of c.args.shift.now.after.now) c.self.inside.values.items)

pub returns-clause-stays : goal.returns-clause-stays
returns-clause-stays g c = λ none. rw (← c.self.view_is)
    (belief_alike g.V.Partial.bottom g.V.Partial.join (set_of c.args.shift.now.before.now)
    (set_of c.args.shift.now.after.now)
    c.self.inside.values.items (sym (rw c.deref.ensures at c.may_shift.ensures) ∙ none))
