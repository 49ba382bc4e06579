use Rattle.std.proofs.Common.{◌∙◌, ap, min, arith}
use Rattle.prop_numbers.specs.Sets.{set_of}
use Rattle.prop_amb.specs.contracts.search.Search.{the_view}
use Rattle.prop_amb.proofs.LastChoiceLaws.{last_choice_starts, level_left, stand_undeclared, undeclared_undoes}
use Rattle.prop_amb.proofs.FromLaws.{none_below_zero}
use Rattle.prop_amb.proofs.search.Search.undeclare.Goals as goal

pub back-requires : goal.back-requires
back-requires c = rw c.from.ensures (last_choice_starts c.self.inside.premises c.requires.earlier c.args.choice
    (rw (← c.self.view_is) at c.requires.last))

pub invariant_of-self : goal.invariant_of-self
invariant_of-self c = (
  rw (c.back.ensures, c.from.ensures, c.back-2.ensures)
      (stand_undeclared (the_view c.self.inside) c.args.choice c.requires.earlier c.pop.new.self.items _
      c.pop-2.new.self.items c.self.inside.list.len c.self.inside.reasons.len c.self.invariant.0
      (level_left (the_view c.self.inside) c.pop.new.self.items _
      (c.min-self-inside.ensures ∙ ap (λ n. min c.self.inside.level n) (c.len.ensures ∙ c.pop.new.self.ok.0)))
      (rw (← c.self.view_is) at c.requires.last)
      (omega (arith, rw (← c.self.view_is) at c.requires.end)) c.pop.ensures.rest c.self.inside.list.ok.0
      c.pop-2.ensures.rest c.self.inside.reasons.ok.0),
  none_below_zero c.self.inside.store (set_of c.back-2.new.self),
  tt,
)

pub returns-clause-undoes : goal.returns-clause-undoes
returns-clause-undoes c before name stand e =
    rw (c.back.ensures, c.from.ensures, c.back-2.ensures)
    (undeclared_undoes (the_view c.self.inside) c.args.choice c.requires.earlier c.pop.new.self.items _
    c.pop-2.new.self.items c.self.inside.list.len c.self.inside.reasons.len before name c.self.invariant.0
    (level_left (the_view c.self.inside) c.pop.new.self.items _
    (c.min-self-inside.ensures ∙ ap (λ n. min c.self.inside.level n) (c.len.ensures ∙ c.pop.new.self.ok.0)))
    (rw (← c.self.view_is) at c.requires.last) (rw (← c.self.view_is) at c.requires.end) c.pop.ensures.rest
    c.self.inside.list.ok.0 c.pop-2.ensures.rest c.self.inside.reasons.ok.0 stand (c.self.view_is ∙ e))
