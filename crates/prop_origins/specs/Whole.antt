-- What a search for parts gives: all parts (`Whole`), or none since its budget of calls was used
-- (`Cut`).
use Rattle.std.specs.Prelude.{List}
use Rattle.prop_origins.specs.declared.making.Composition.{Composition}
use Rattle.prop_origins.specs.declared.making.Composition.TheVariants.{Whole, Cut}
use Rattle.prop_origins.specs.Parts.{Part}

-- where the parts are given, P holds of them
abbrev pub IfWhole : Composition → (List Part → Type 0) → Type 0
IfWhole (Whole parts) P = P parts.items
IfWhole Cut P = Unit {0}

-- where they are not given, P holds
abbrev pub IfCut : Composition → Type 0 → Type 0
IfCut (Whole parts) P = Unit {0}
IfCut Cut P = P
