use Rattle.std.proofs.Common.{◌∙◌, ◌+◌, sym, subst}
use Rattle.prop_amb.specs.Search.{Stand, IsSearch}
use Rattle.prop_amb.specs.contracts.search.Search.{the_view}
use Rattle.prop_amb.proofs.BelievingLaws.{search_deeper}
use Rattle.prop_amb.proofs.search.Search.deepen.Goals as goal

pub returns-clause-search : goal.returns-clause-search
returns-clause-search c problem h = search_deeper problem (the_view c.self.inside) (c.self.inside.level + 1)
    c.replace.new.dest
    (subst (λ (s : Stand). IsSearch problem s) (sym (c.self.view_is ∙ c.in_ok-deeper.ensures.same)) h)
