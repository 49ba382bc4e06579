use Rattle.std.proofs.Common.{ℕ, List, subst}
use Rattle.prop_numbers.specs.Sets.{IsSame, set_of}
use Rattle.prop_premises.specs.ChoiceLists.{IsChoiceList, worldview}
use Rattle.prop_premises.specs.Origins.{believed_in, choices_of}
use Rattle.prop_premises.specs.declared.choice.Choice.{Choice}
use Rattle.prop_spread.proofs.proposal.Proposal.new.Goals as goal

pub returns : goal.returns
returns g c = λ library d.
    let believed = believed_in c.args.premises.now in
    let choices = choices_of c.args.premises.now in
    let P : List Choice → Type 0 = λ cs. IsChoiceList cs c.deref.result.now in
    let Q : List ℕ → Type 0 = IsChoiceList choices in
    let R : List ℕ → Type 0 = λ sides. IsSame (set_of c.in_ok-view.view) (worldview believed choices sides) in
    record {
      sides = subst Q c.deref.ensures.value
          (subst P c.choices.ensures (c.are_sides.ensures c.if-not-are_sides.false));
      view = subst R c.deref-2.ensures.value c.in_ok-view.ensures;
      under_way = c.new-check.ensures.under_way library d;
    }
