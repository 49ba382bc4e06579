use Rattle.std.proofs.Common.{◌≡◌, ◌<◌, ◌∙◌, subst}
use Rattle.prop_terms.specs.inner.Machine.{demand}
use Rattle.prop_terms.specs.inner.Parts.{stack_of}
use Rattle.prop_terms.proofs.Taking.{one_made}
use Rattle.prop_terms.proofs.frames.shut.Goals as goal

pub making-preserved : goal.making-preserved
making-preserved c =
    let asked : c.demand.result ≡ demand (stack_of c.making.frames.items) =
    cc (c.demand.ensures, c.deref.ensures.value) in
    one_made c.args.coming c.making.frames.items c.pop.new.self.items c.in-Some.frame c.making.held c.in_ok-held.held
    c.in-Some.ensures.items (subst (λ n. c.args.coming < n) asked c.making-test.true) c.in_ok-held.ensures.term
    c.in_ok-held.ensures.level
    ∙ c.making.invariant
