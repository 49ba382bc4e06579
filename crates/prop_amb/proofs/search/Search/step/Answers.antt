use Rattle.std.proofs.Common.{◌≡◌, ap, subst, arith}
use Rattle.prop_numbers.specs.Sets.{set_of}
use Rattle.prop_amb.specs.Search.{Stand}
use Rattle.prop_amb.specs.Resolving.{IsReason}
use Rattle.prop_amb.proofs.SkippingLaws.{skips_at}
use Rattle.prop_amb.proofs.search.Search.step.Goals as goal

pub returns-clause-search : goal.returns-clause-search
returns-clause-search c problem reason h =
    let level : c.self.inside.level ≡ c.args.self.now.level = ap (λ (s : Stand). s.level) c.self.view_is in
    let skip = skips_at c.args.self.now c.args.place c.args.reason c.requires
    (omega (arith, c.if-place-self.false, level)) in
    c.skip.ensures.search problem
    (subst (λ k. IsReason problem c.args.self.now k (set_of c.args.reason)) skip.0 reason) h
