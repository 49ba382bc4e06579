use Rattle.std.proofs.Common.{Option, Some, None, IfSome}
use Rattle.prop_tms.specs.inner.Gains.{entry_of}
use Rattle.prop_tms.specs.Values.{entries_of}
use Rattle.prop_tms.proofs.LightLemmas.{light_beside_free, light_beside_few}
use Rattle.prop_tms.proofs.few.partner.Goals as goal

if_some : {X : Type 0} {P Q : X → Type 0} (o : Option X) → ((x : X) → P x → Q x) → IfSome o P → IfSome o Q
if_some None f h = tt
if_some (Some x) f h = f x h

pub returns-then-implies-clause-light : goal.returns-then-implies-clause-light
returns-then-implies-clause-light g c =
    if_some c.free_partner.result (λ e free. light_beside_free g.met.V.Partial.laws (entries_of c.args.values.now)
    (entry_of e) c.args.other c.args.value free c.requires.other) c.free_partner.ensures.free

pub returns-clause-light : goal.returns-clause-light
returns-clause-light g c =
    let no : ¬ (g.V.Partial.below c.args.value (g.V.Partial.join c.args.other c.args.freely)) =
    λ h. cc (c.implies.ensures.1 (rw c.merge.ensures h), c.if-implies.false) in
    if_some c.told_partner.result (λ e few. light_beside_few g.met.V.Partial.laws (entries_of c.args.values.now)
    (entry_of e) c.args.other c.args.freely c.args.value c.requires.freely few no) c.told_partner.ensures.few
