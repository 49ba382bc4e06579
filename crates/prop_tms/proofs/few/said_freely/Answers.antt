use Rattle.std.proofs.Common.{◌∙◌, true, false, sym, ap}
use Rattle.std.proofs.lemmas.List.{take_all}
use Rattle.prop_numbers.specs.Sets.{is_within}
use Rattle.prop_tms.specs.Beliefs.{belief_of}
use Rattle.prop_tms.specs.inner.Gains.{nobody}
use Rattle.prop_tms.specs.Values.{entries_of}
use Rattle.prop_tms.proofs.ValueLemmas.{said_more}
use Rattle.prop_tms.proofs.few.said_freely.Goals as goal
use Rattle.prop_tms.proofs.few.said_freely.Goals.{then-any_free, else-any_free}

pub loop-valued-init : goal.loop-valued-init
loop-valued-init g c = c.nothing-said.ensures

pub loop-valued-preserved : goal.loop-valued-preserved
loop-valued-preserved g c =
    let laws = g.met.V.Partial.laws in
    let xs = c.args.values.now in
    let i = c.loop-valued.valued-index in
    let x = c.valued-item.result in
    let l = c.loop-valued-test.true in
    let some = rw c.deref.ensures at (sym c.any_free.ensures) in
    elim c.if-any_free.branch [
      | then-any_free t ↦ t.said-is ∙ t.merge-said.ensures
          ∙ ap (λ v. g.V.Partial.join v x.value) c.loop-valued.invariant
          ∙ sym (said_more laws (λ s. is_within nobody s) xs i x true l c.valued-item.is (some ∙ t.if-any_free.true))
      | else-any_free t ↦ t.said-is ∙ c.loop-valued.invariant
          ∙ sym (said_more laws (λ s. is_within nobody s) xs i x false l c.valued-item.is (some ∙ t.if-any_free.false))
    ]

pub returns : goal.returns
returns g c = c.loop-valued.invariant
    ∙ ap (λ xs. belief_of g.V.Partial.bottom g.V.Partial.join nobody (entries_of xs))
    (take_all c.loop-valued.valued-index c.args.values.now c.loop-valued-test.false)
