use Rattle.std.proofs.Common.{◌≡◌, ◌∙◌, false, sym, subst, arith, refl, All}
use Rattle.std.proofs.lemmas.List.Elements.{All-more}
use Rattle.std.proofs.lemmas.List.{take_all}
use Rattle.prop_numbers.specs.Sets.{is_within}
use Rattle.prop_tms.specs.Beliefs.{belief_of}
use Rattle.prop_tms.specs.inner.Gains.{nobody}
use Rattle.prop_tms.specs.Values.{entries_of}
use Rattle.prop_tms.proofs.ValueLemmas.{said_more}
use Rattle.prop_tms.proofs.few.all_say_less_on_premises.Goals as goal

pub loop-valued-init : goal.loop-valued-init
loop-valued-init g c = record { less = λ k d l. absurd (omega (arith, l)); freely = refl }

pub loop-valued-preserved : goal.loop-valued-preserved
loop-valued-preserved g c =
    let xs = c.args.values.now in
    let i = c.loop-valued.valued-index in
    let x = c.valued-item.result in
    let l = c.loop-valued-test.true in
    let no : ¬ (g.V.Partial.below c.args.value x.value) = λ h. cc (c.implies.ensures.1 h, c.if-implies.false) in
    let off = rw c.deref.ensures at (sym c.any_free.ensures ∙ c.if-any_free.false) in
    record {
      less = All-more (λ y. ¬ (g.V.Partial.below c.args.value y.value)) xs i x l c.loop-valued.invariant.less
          (subst (λ y. ¬ (g.V.Partial.below c.args.value y.value)) c.valued-item.is no);
      freely = said_more g.met.V.Partial.laws (λ s. is_within nobody s) xs i x false l c.valued-item.is off
          ∙ c.loop-valued.invariant.freely;
    }

pub returns-clause-less : goal.returns-clause-less
returns-clause-less g c sure =
    let xs = c.args.values.now in
    subst (λ ys. All (λ y. ¬ (g.V.Partial.below c.args.value y.value)) ys)
    (take_all c.loop-valued.valued-index xs c.loop-valued-test.false) c.loop-valued.invariant.less

pub returns-clause-freely : goal.returns-clause-freely
returns-clause-freely g c sure =
    let xs = c.args.values.now in
    subst (λ ys. belief_of g.V.Partial.bottom g.V.Partial.join nobody (entries_of ys) ≡ g.V.Partial.bottom)
    (take_all c.loop-valued.valued-index xs c.loop-valued-test.false) c.loop-valued.invariant.freely
