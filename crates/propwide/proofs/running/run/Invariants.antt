use Rattle.std.proofs.Common.{◌≡◌, take, map}
use Rattle.prop_procedures.specs.Kept.{AllMean, stored_as}
use Rattle.propwide.specs.Kits.{answer_of, shown}
use Rattle.propwide.proofs.Making.{stored_made}
use Rattle.propwide.proofs.running.run.Given as goal

abbrev pub invariant-loop-entry : goal.invariant-loop-entry
invariant-loop-entry g l = record {
  means : AllMean answer_of l.procedures.items;
  listed : map (stored_as answer_of) l.procedures.items
      ≡ map (λ e. stored_made (shown e)) (take l.entry-index l.entry-items);
}
