use Rattle.std.proofs.Common.{rules}
use Rattle.std.specs.List.{list_any}
use Rattle.std.proofs.lemmas.Iterator.{YieldsList-from_slice}
use Rattle.std.proofs.lemmas.Iterator.Search.{any_from_yields_List}
use Rattle.prop_numbers.specs.Sets.{set_of}
use Rattle.prop_tms.specs.inner.Values.{is_in_one}
use Rattle.prop_tms.proofs.shifting.may_shift.Goals as goal

pub returns : goal.returns
returns g c =
    any_from_yields_List
    (λ x. list_any (is_in_one (set_of c.args.shift.now.before.now) (set_of c.args.shift.now.after.now))
    x.supports.items) _ _ c.any.result
    c.any.ensures.ran (YieldsList-from_slice c.args.values.now (cc)) (λ x b q k. search rules)
