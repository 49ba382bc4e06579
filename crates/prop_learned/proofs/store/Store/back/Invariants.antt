use Rattle.std.proofs.Common.{ℕ}
use Rattle.prop_refuting.specs.Nogoods.{Nogood}
use Rattle.prop_learned.specs.Stores.{IsKeptAt}
use Rattle.prop_learned.proofs.store.Store.back.Given as goal

abbrev pub invariant-loop : goal.invariant-loop
invariant-loop l = (k : ℕ) (g : Nogood) → IsKeptAt l.self k g → IsKeptAt l.fn.self k g
