-- What is known of the procedures that are kept.
use Rattle.std.specs.Prelude.{◌≡◌, ℕ, zero, suc, List, [], ◌∷◌, ◌++◌, All, map, Some, slice_get}
use Rattle.std.specs.Prelude.{IsSomeAnd}
use Rattle.std.proofs.lemmas.List.Elements.{All-head, All-tail, All-push, All-map, All-weaker}
use Rattle.std.proofs.lemmas.Option.{none-some, same_Some}
use Rattle.prop_lattice.specs.Points.{Point}
use Rattle.prop_lattice.specs.declared.info.Info.{Info}
use Rattle.prop_procedures.specs.declared.shape.Param.{Param}
use Rattle.prop_procedures.specs.declared.procedure.Procedure.{Procedure}
use Rattle.prop_procedures.specs.declared.library.Library.{Library}
use Rattle.prop_procedures.specs.Rules.{IsSound}
use Rattle.prop_procedures.specs.Stored.{Stored, IsLawful}
use Rattle.prop_procedures.specs.Kept.{AllMean, AreSound, IsMeant, IsSoundFor, related_of}
use Rattle.prop_procedures.specs.Kept.{stored_as, stored_of}

-- one more that does
pub AllMean-push : {R : Type 0} {X : Type 0} {F : X → Type 0} {g : _}
    → (value : R → Param → List Info → Info) (procedures : List (Procedure R X F g))
    (p : Procedure R X F g) (all : List (Procedure R X F g)) → all ≡ procedures ++ p ∷ []
    → AllMean value procedures → IsMeant value p → AllMean value all
AllMean-push value procedures p all e h m = rw e (All-push (IsMeant value) procedures p h m)

-- what the procedures mean keeps the laws
pub all_lawful : {R : Type 0} {X : Type 0} {F : X → Type 0} {g : _}
    → (value : R → Param → List Info → Info) (library : Library R X F g)
    → AllMean value library.procedures.items → All IsLawful (stored_of value library)
all_lawful value library h =
    All-map IsLawful (stored_as value) library.procedures.items
    (All-weaker (IsMeant value) (λ p. IsLawful (stored_as value p)) (λ p m. m.lawful)
    library.procedures.items h)

-- ---- the points that belong together

-- a stored procedure's value holds the points that belong together at its number
pub sound_at : {R : Type 0} {X : Type 0} {F : X → Type 0} {g : _}
    → (value : R → Param → List Info → Info) (related : R → Param → List Point → Point → Type 0)
    (library : Library R X F g) (n : ℕ) (p : Stored)
    → AreSound value related library.procedures.items
    → slice_get (stored_of value library) n ≡ Some p
    → IsSound p.value (related_of related library n) p.ins p.out p.need
sound_at {R} {X} {F} {g} value related library n p all at = by library.procedures.items n all at
  where
    by : (procedures : List (Procedure R X F g)) (n : ℕ) → AreSound value related procedures
        → slice_get (map (stored_as value) procedures) n ≡ Some p
        → IsSound p.value (λ param points point.
        IsSomeAnd (slice_get procedures n) (λ q. related q.rule param points point)) p.ins p.out
        p.need
    by [] n all at = absurd (none-some p at)
    by (q ∷ rest) zero all at = let same : stored_as value q ≡ p =
        same_Some (stored_as value q) p at in rw (← same)
        ((All-head (IsSoundFor value related) q rest all).holds)
    by (q ∷ rest) (suc k) all at = by rest k (All-tail (IsSoundFor value related) q rest all) at
