use Rattle.std.proofs.Common.{◌∙◌, sym, ap, subst}
use Rattle.prop_numbers.specs.Sets.{set_of}
use Rattle.prop_premises.specs.Origins.{IsNumbered}
use Rattle.prop_nogoods.specs.Stores.{lacking}
use Rattle.prop_nogoods.proofs.StoreLemmas.{minimal_lacking}
use Rattle.prop_amb.specs.Search.{Stand, IsSearch}
use Rattle.prop_amb.proofs.ForgettingLaws.{search_forgotten}
use Rattle.prop_amb.proofs.FromLaws.{none_below_lacking}
use Rattle.prop_amb.proofs.search.Search.forget.Goals as goal

pub invariant_of-self : goal.invariant_of-self
invariant_of-self c =
    let kept = c.self.invariant.0 in (
      record {
        numbered = kept.numbered;
        few = kept.few;
        is_list = kept.is_list;
        reasoned = kept.reasoned;
        level = kept.level;
        believes = kept.believes;
        minimal = rw c.purge.ensures (minimal_lacking c.args.premise c.self.inside.store kept.minimal);
      },
      rw c.purge.ensures (none_below_lacking c.self.inside.store (set_of c.self.inside.worldview) c.self.inside.from
          c.args.premise c.self.invariant.1),
      tt,
    )

pub returns-clause-stand : goal.returns-clause-stand
returns-clause-stand c = (invariant_of-self c).0

pub returns-clause-search : goal.returns-clause-search
returns-clause-search c old new less h =
    let restarted_is = c.self.view_is ∙ c.restart.ensures.only in
    let numbered : IsNumbered c.args.self.now.premises =
    subst IsNumbered (ap (λ (t : Stand). t.premises) restarted_is) c.self.invariant.0.numbered in
    rw c.purge.ensures
    (subst (IsSearch new) (sym (ap (λ (t : Stand). record t { listed = lacking t.listed c.args.premise }) restarted_is))
    (search_forgotten old new c.args.premise c.args.self.now c.restart.new.self.worldview numbered c.requires less h))
