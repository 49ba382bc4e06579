use Rattle.std.proofs.Common.{rules, ◌≡◌, None, Some, All, arith}
use Rattle.std.proofs.lemmas.Bool.Decides.{nat_tests}
use Rattle.prop_numbers.specs.Sets.{set_of}
use Rattle.prop_nogoods.specs.inner.Endings.{EndsSo}
use Rattle.prop_nogoods.proofs.EndingLemmas.{ends_below, end_below_where_none}
use Rattle.prop_nogoods.proofs.CommonLemmas.{none_without_common}
use Rattle.prop_nogoods.proofs.ending.Ending.first_believed.Goals as goal
use Rattle.prop_nogoods.proofs.ending.Ending.first_believed.Goals.{then-last-from-via-then-last-from}
use Rattle.prop_nogoods.proofs.ending.Ending.first_believed.Goals.{then-last-from-via-else-last-from+then-not-is_believed}

pub returns-in_err-last-clause-none : goal.returns-in_err-last-clause-none
returns-in_err-last-clause-none c none =
    let is : c.self.inside.last ≡ None = search rules in
    rw (← c.self.view_is) (ends_below (set_of c.args.worldview.now) None c.args.from c.self.inside.nogoods.items
    (omega arith) (rw is at c.self.invariant.0))

pub returns-then-last-from-clause-none : goal.returns-then-last-from-clause-none
returns-then-last-from-clause-none c none =
    let w = set_of c.args.worldview.now in
    let sets = c.self.inside.nogoods.items in
    let is : c.self.inside.last ≡ Some c.in_ok-last.last = search rules in
    let ends : All (EndsSo (Some c.in_ok-last.last)) sets = rw is at c.self.invariant.0 in
    rw (← c.self.view_is) (elim c.then-last-from.branch [
      | then-last-from-via-then-last-from v ↦
          let early = v.if-last-from.true in
          ends_below w (Some c.in_ok-last.last) c.args.from sets (grind (arith, nat_tests)) ends
      | then-last-from-via-else-last-from+then-not-is_believed v ↦
          end_below_where_none w c.args.from sets
          (none_without_common w c.self.inside.common sets (cc (v.is_believed.ensures, v.if-not-is_believed.true))
          c.self.invariant.2)
    ])

pub returns-clause-listed : goal.returns-clause-listed
returns-clause-listed c = rw (← c.self.view_is) (rw c.deref.ensures.value at c.first_believed.ensures.listed)
