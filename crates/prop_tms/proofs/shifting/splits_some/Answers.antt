use Rattle.std.proofs.Common.{rules}
use Rattle.std.proofs.lemmas.Iterator.{YieldsList-from_slice}
use Rattle.std.proofs.lemmas.Iterator.Search.{any_from_yields_List}
use Rattle.prop_numbers.specs.Sets.{set_of}
use Rattle.prop_tms.specs.inner.Values.{is_in_one}
use Rattle.prop_tms.proofs.shifting.splits_some.Goals as goal

pub returns : goal.returns
returns c =
    any_from_yields_List (is_in_one (set_of c.args.shift.now.before.now) (set_of c.args.shift.now.after.now)) _ _
    c.any.result
    c.any.ensures.ran (YieldsList-from_slice c.args.supports.now (cc)) (λ x b q k. search rules)
