-- The bits of what two inputs tell of an output, and what they make.
use Rattle.std.specs.Prelude.{ℕ, Bool, ◌&&◌, ◌==◌, if◌then◌else◌}
use Rattle.prop_lattice.specs.Ends.{elements_from}
use Rattle.prop_lattice.specs.declared.info.Info.{Info}
use Rattle.prop_lattice.specs.declared.info.Info.TheVariants.{Nothing}
use Rattle.prop_sets.specs.Chosen.{bits_where, any_below}

-- the bits of the truths that go with truths that two inputs leave
abbrev pub outputs_of : (ℕ → ℕ → ℕ → Bool) → (ℕ → Bool) → (ℕ → Bool) → ℕ
outputs_of related x y =
    bits_where 2 (λ z. any_below 2 (λ a. any_below 2 (λ b. (x a && y b) && related a b z)))

-- the truths with these bits, a contradiction where there are none; both, found where an input is
-- unknown, are nothing
abbrev pub told : Bool → ℕ → Info
told unknown bits = if unknown && (bits == 3) then Nothing else elements_from bits
