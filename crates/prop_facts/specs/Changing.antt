-- In which ways one information grew into another.
use Rattle.std.specs.Prelude.{◌≡◌, ◌≢◌, ◌<ℤ◌, ◌↔◌, IsTrue, true, false, count_ones}
use Rattle.prop_lattice.specs.declared.info.Info.{Info}
use Rattle.prop_lattice.specs.declared.info.Info.TheVariants.{Span, Set}
use Rattle.prop_facts.specs.declared.changes.Changes.{Changes}

abbrev pub all_ways : Changes
all_ways = record { low = true; high = true; point = true; hole = true }

-- the changes are those from the first to the second: of spans which ends moved and whether one
-- number came to be left, of sets whether elements went and whether one came to be left; between
-- others they are all
abbrev pub AreBetween : Info → Info → Changes → Type 0
AreBetween (Span a) (Span b) c =
    (IsTrue c.low ↔ (a.lo <ℤ b.lo)) × (IsTrue c.high ↔ (b.hi <ℤ a.hi))
    × (IsTrue c.point ↔ ((b.lo ≡ b.hi) × (a.lo <ℤ a.hi))) × (c.hole ≡ false)
AreBetween (Set a) (Set b) c =
    (c.low ≡ false) × (c.high ≡ false)
    × (IsTrue c.point ↔ ((count_ones b.bits ≡ 1) × (a.bits ≢ b.bits)))
    × (IsTrue c.hole ↔ (a.bits ≢ b.bits))
AreBetween was is c = c ≡ all_ways
