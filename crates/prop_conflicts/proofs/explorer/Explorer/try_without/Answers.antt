use Rattle.std.proofs.Common.{List, ap, subst, sym}
use Rattle.prop_numbers.specs.Sets.{set_of}
use Rattle.prop_procedures.specs.Kept.{stored_of}
use Rattle.prop_hitting.specs.Hitting.{HitsAll, IsLean}
use Rattle.prop_hitting.specs.declared.conflict.Conflict.{Conflict}
use Rattle.prop_conflicts.specs.Conflicts.{ground_at}
use Rattle.prop_conflicts.specs.declared.explorer.Explorer.{Explorer}
use Rattle.prop_conflicts.proofs.ExploringLemmas.{left_tried}
use Rattle.prop_conflicts.proofs.explorer.Explorer.try_without.Goals as goal

pub returns : goal.returns
returns g c =
    let network = c.args.network.now in
    let same = ap (λ (e : Explorer). e.conflicts.items) (sym c.in_ok-begin.ensures.others) in
    record {
      knows = c.in_ok-begin.ensures.knows;
      stands = (
        subst (HitsAll (set_of c.args.out)) same c.requires.hits,
        subst (λ (cs : List Conflict). IsLean cs c.args.out) same c.requires.lean,
        left_tried (ground_at (stored_of g.R.Rule.value_of network.library) network.cells c.args.premises.now)
            c.args.out c.in_ok-kept.kept c.begin.new.self.trial c.in_ok-begin.ensures.kept c.in_ok-kept.ensures,
      );
    }
