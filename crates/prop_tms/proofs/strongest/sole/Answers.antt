use Rattle.std.proofs.Common.{◌≡◌, ◌++◌, ◌∙◌, sym, ap, take, length, arith}
use Rattle.std.proofs.Math.Seq.{take-length}
use Rattle.std.proofs.lemmas.List.Elements.{filter-append}
use Rattle.prop_numbers.specs.Sets.{set_of, is_within}
use Rattle.prop_tms.specs.Beliefs.{believed_of}
use Rattle.prop_tms.specs.Values.{entries_of, entries_of_one}
use Rattle.prop_tms.proofs.ValueLemmas.{with_value, entries_of-more}
use Rattle.prop_tms.proofs.strongest.sole.Goals as goal

pub loop-valued-preserved : goal.loop-valued-preserved
loop-valued-preserved g c =
    let w = set_of c.args.worldview.now in
    let xs = c.args.values.now in
    let i = c.loop-valued.valued-index in
    let x = c.valued-item.result in
    let ss = x.supports.items in
    let before = entries_of (take i xs) in
    let here = c.as_slice-support-items.ensures in
    let all : take c.loop-support.support-index ss ≡ ss =
    (let n = ap length here in let e : c.loop-support.support-index ≡ length ss = omega
    (arith, n, c.loop-support.auto.support-index-end, c.loop-support-test.false) in rw e (take-length ss)) in
    c.loop-support.invariant ∙ ap (λ ts. believed_of w before ++ believed_of w (with_value x.value ts)) all ∙
    sym (ap (believed_of w) (entries_of-more xs i x c.loop-valued-test.true c.valued-item.is)
    ∙ filter-append (λ e. is_within w e.support) before (entries_of_one x))
