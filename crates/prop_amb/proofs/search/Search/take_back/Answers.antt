use Rattle.std.proofs.Common.{◌∙◌}
use Rattle.prop_numbers.specs.Sets.{set_of}
use Rattle.prop_amb.proofs.NamingLaws.{last_start, stand_taken_back, taken_back_undoes}
use Rattle.prop_amb.proofs.FromLaws.{none_below_zero}
use Rattle.prop_amb.proofs.search.Search.take_back.Goals as goal

pub back-requires : goal.back-requires
back-requires c = rw c.from.ensures (last_start c.self.inside.premises c.args.premise
    (rw (← c.self.view_is) at c.requires.user))

pub invariant_of-self : goal.invariant_of-self
invariant_of-self c = (
  rw (c.back.ensures, c.from.ensures, c.back-2.ensures)
      (stand_taken_back _ c.args.premise c.self.invariant.0 (rw (← c.self.view_is) at c.requires.user)
      (rw (← c.self.view_is) at c.requires.last)),
  none_below_zero c.self.inside.store (set_of c.back-2.new.self),
  tt,
)

pub returns-clause-undoes : goal.returns-clause-undoes
returns-clause-undoes c before name stand none e =
    rw (c.back.ensures, c.from.ensures, c.back-2.ensures)
    (taken_back_undoes _ c.args.premise before name c.self.invariant.0.numbered
    (rw (← c.self.view_is) at c.requires.user) (rw (← c.self.view_is) at c.requires.last) stand none
    (c.self.view_is ∙ e))
