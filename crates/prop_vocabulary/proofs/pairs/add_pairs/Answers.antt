use Rattle.std.proofs.Common.{◌∙◌, ap}
use Rattle.prop_sets.specs.Relation.{Relation}
use Rattle.prop_vocabulary.proofs.PairLemmas.{pairs_more}
use Rattle.prop_vocabulary.proofs.pairs.add_pairs.Goals as goal

pub loop-pair-preserved : goal.loop-pair-preserved
loop-pair-preserved c =
    let kept = c.loop-pair.invariant in
    record {
      made = pairs_more c.args.first.now c.args.second.now c.args.rows.now c.loop-pair.rows c.set.new.self
          c.args.pairs.now c.loop-pair.pair-index _ c.place_of.result c.place_of-in-loop-pair.result
          c.loop-pair-test.true kept.made c.place_of.ensures.place c.place_of-in-loop-pair.ensures.place
          c.set.ensures.value;
      from = ap (λ (m : Relation). m.from) c.set.ensures.value ∙ kept.from;
      to = ap (λ (m : Relation). m.to) c.set.ensures.value ∙ kept.to;
    }
