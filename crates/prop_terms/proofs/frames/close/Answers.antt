use Rattle.std.proofs.Common.{◌≡◌, true, ap, ◌∙◌}
use Rattle.prop_terms.specs.Terms.{term_of}
use Rattle.prop_terms.specs.inner.Machine.{close, is_open}
use Rattle.prop_terms.specs.inner.Parts.{stack_of}
use Rattle.prop_terms.proofs.Taking.{closed_is}
use Rattle.prop_terms.proofs.frames.close.Goals as goal

pub returns : goal.returns
returns c =
    let opens : is_open c.args.shape (stack_of c.shut.new.frames.items) ≡ true =
    cc (c.is_open.ensures, c.if-not-is_open.false, c.deref.ensures.value) in
    ap (close c.args.shape) c.in_ok-held.ensures.ok
    ∙ closed_is c.args.shape c.shut.new.frames.items c.pop.new.self.items c.in-Some._bracket
    (term_of c.in_ok-held.held.term) c.in_ok-inside.field-0 c.in-Some.ensures.items opens
    c.in_ok-inside.ensures.ok.0 c.in_ok-inside.ensures.ok.1
