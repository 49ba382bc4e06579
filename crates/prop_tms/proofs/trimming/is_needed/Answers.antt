use Rattle.std.proofs.Common.{◌∙◌, ◌<◌, length, sym, subst}
use Rattle.prop_tms.specs.declared.values.Valued.{Valued}
use Rattle.prop_numbers.specs.Sets.{set_of}
use Rattle.prop_tms.specs.Values.{entries_of}
use Rattle.prop_tms.specs.inner.Values.{place_of}
use Rattle.prop_tms.proofs.TrimLemmas.{is_needless, unbelieved_removed}
use Rattle.prop_tms.proofs.ValueLemmas.{entry_at}
use Rattle.prop_tms.proofs.trimming.is_needed.Goals as goal

pub returns-then-believes-clause-needless : goal.returns-then-believes-clause-needless
returns-then-believes-clause-needless g c =
    is_needless g.met.V.Partial.laws (set_of c.args.worldview.now) (entries_of c.args.values.now)
    (place_of c.args.values.now c.args.at c.args.place) c.implies.result
    (rw (c.requires.value, c.belief_without.ensures) at c.implies.ensures.0)

pub returns-else-believes-clause-needless : goal.returns-else-believes-clause-needless
returns-else-believes-clause-needless g c off =
    let w = set_of c.args.worldview.now in
    let xs = c.args.values.now in
    let x = c.index-values-at.result in
    let s = c.index-deref-place.result in
    let is = c.index-values-at.is in
    let l : c.args.place < length x.supports.items =
    subst (λ (y : Valued _). c.args.place < length y.supports.items) (sym is) (c.requires.place x) in
    let at = entry_at xs c.args.at c.args.place x s c.requires.at is l
    (rw (c.deref.ensures, ← is) at c.index-deref-place.is) in
    unbelieved_removed g.met.V.Partial.laws w (entries_of xs) (place_of xs c.args.at c.args.place) _
    at (sym c.believes.ensures ∙ off)
