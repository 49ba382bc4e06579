use Rattle.std.proofs.Common.{◌≡◌, take}
use Rattle.prop_tms.specs.Beliefs.{belief_of}
use Rattle.prop_tms.specs.inner.Gains.{nobody}
use Rattle.prop_tms.specs.Values.{entries_of}
use Rattle.prop_tms.proofs.few.said_freely.Given as goal

abbrev pub invariant-loop-valued : goal.invariant-loop-valued
invariant-loop-valued g l =
    l.said ≡ belief_of g.V.Partial.bottom g.V.Partial.join nobody (entries_of (take l.valued-index l.values))
