use Rattle.std.proofs.Common.{ℕ, List, inl, refl, subst}
use Rattle.prop_amb.specs.Search.{Stand}
use Rattle.prop_amb.specs.Going.{MaySkip}
use Rattle.prop_amb.proofs.RefutingLaws.{blocking_here, none_passes}
use Rattle.prop_amb.proofs.settling.found.Goals as goal

pub returns-clause-found : goal.returns-clause-found
returns-clause-found c =
    inl (blocking_here c.args.search.now c.in_ok-copy.field-0 c.in-Some.nogood.now c.in_ok-copy.ensures
    c.in-Some.ensures.listed c.in-Some.ensures.believed)

pub returns-in_default-clause-none : goal.returns-in_default-clause-none
returns-in_default-clause-none c = λ same.
    none_passes c.args.search.now c.in_default.ensures.stand (c.in_default.ensures.none refl)
    (subst (λ (s : Stand). (n : List ℕ) → MaySkip s n → ⊥) c.pass_over.ensures (c.refuted_next.ensures.none same))
