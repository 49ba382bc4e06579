use Rattle.std.proofs.Common.{subst, sym}
use Rattle.prop_lattice.specs.Points.{Holds}
use Rattle.prop_lattice.specs.declared.info.Info.{Info}
use Rattle.prop_facts.proofs.FactLemmas.{merge_first, merge_holds, merge_second}
use Rattle.prop_facts.proofs.fact.Fact.narrow.Goals as goal

pub returns-in_default : goal.returns-in_default
returns-in_default c = record {
  left = λ p r k h. let P : Info → Type 0 = λ i. Holds i p in subst P (sym c.merge.ensures)
      (merge_holds c.args.info c.info.result p h (c.info.ensures.holds p r k));
  within = λ p h. let P : Info → Type 0 = λ i. Holds i p in merge_first c.args.info c.info.result p
      (subst P c.merge.ensures h);
  so = λ n p h. let P : Info → Type 0 = λ i. Holds i p in c.info.ensures.says n p
      (merge_second c.args.info c.info.result p (subst P c.merge.ensures h));
}
