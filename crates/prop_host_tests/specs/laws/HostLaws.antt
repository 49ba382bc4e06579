-- The laws of the host's rule.
use Rattle.std.specs.Prelude.{ℕ, ℤ, ◌≤ℤ◌, List, [], ◌∷◌}
use Rattle.std.specs.Int.{int_max}
use Rattle.std.proofs.Common.{arith, refl, rules}
use Rattle.std.proofs.lemmas.Int.{ints, clamps}
use Rattle.prop_intervals.specs.laws.ClipLaws.{clip_below, clip_of_span, clip_holds}
use Rattle.prop_lattice.specs.Order.{Below}
use Rattle.prop_lattice.specs.Points.{Point, Number, Holds, IsPointOf}
use Rattle.prop_lattice.specs.Rank.{IsOf}
use Rattle.prop_lattice.specs.declared.info.Info.{Info}
use Rattle.prop_lattice.specs.declared.info.Info.TheVariants.{Span, Contradiction}
use Rattle.prop_lattice.specs.declared.info.Kind.TheVariants as kinds
use Rattle.prop_procedures.specs.declared.shape.Param.{Param}
use Rattle.prop_procedures.specs.declared.shape.Shape.{Shape}
use Rattle.prop_procedures.specs.declared.shape.Need.{Need}
use Rattle.prop_procedures.specs.Rules.{IsMonotone, KeepsKind, IsSound, EachBelow, EachHolds}
use Rattle.prop_procedures.specs.Rules.{AreClear}
use Rattle.prop_host_tests.specs.declared.host.Host.{Host}
use Rattle.prop_host_tests.specs.declared.host.Host.TheVariants.{Maxer}
use Rattle.prop_host_tests.specs.Host.{FormOf, value_of, Related}

larger_grows : (a b c d : ℤ) → a ≤ℤ c → b ≤ℤ d → int_max a b ≤ℤ int_max c d
larger_grows a b c d p q = omega (arith, ints, clamps)

larger_below : (param : Param) (olds news : List Info) → EachBelow olds news → AreClear news
    → Below (value_of Maxer param olds) (value_of Maxer param news)
larger_below param (Span a ∷ Span b ∷ []) (Span c ∷ Span d ∷ []) p n =
    clip_below (int_max a.lo b.lo) (int_max a.hi b.hi) (int_max c.lo d.lo) (int_max c.hi d.hi)
    (larger_grows a.lo b.lo c.lo d.lo p.0.0 p.1.0.0)
    (larger_grows c.hi d.hi a.hi b.hi p.0.1 p.1.0.1)
larger_below param (Span a ∷ Span b ∷ []) (Contradiction ∷ ds) p n = absurd (n.0 refl)
larger_below param (Span a ∷ Span b ∷ []) (Span c ∷ Contradiction ∷ ds) p n = absurd (n.1.0 refl)
larger_below param olds news p n = search rules

larger_of_span : (size : ℕ) (param : Param) (args : List Info)
    → IsOf kinds.Span size (value_of Maxer param args)
larger_of_span size param (Span a ∷ Span b ∷ []) =
    clip_of_span size (int_max a.lo b.lo) (int_max a.hi b.hi)
larger_of_span size param args = tt

larger_sound : (param : Param) (args : List Info) (points : List Point) (point : Point)
    → IsPointOf kinds.Span 0 point → EachHolds args points → Related Maxer param points point
    → Holds (value_of Maxer param args) point
larger_sound param (Span a ∷ Span b ∷ []) (Number x ∷ Number y ∷ []) (Number z) k h r =
    clip_holds (int_max a.lo b.lo) (int_max a.hi b.hi) z
    (rw r (larger_grows a.lo b.lo x y h.0.0 h.1.0.0))
    (rw r (larger_grows x y a.hi b.hi h.0.1 h.1.0.1)) k.0 k.1
larger_sound param args points point k h r = search rules

pub host_monotone : (rule : Host) (ins : List Shape) (out : Shape) (need : Need)
    → FormOf rule ins out need → IsMonotone (value_of rule) ins need
host_monotone Maxer ins out need f any param olds news c d p =
    larger_below param olds news p d.clear

pub host_keeps_kind : (rule : Host) (ins : List Shape) (out : Shape) (need : Need)
    → FormOf rule ins out need → KeepsKind (value_of rule) ins out need
host_keeps_kind Maxer ins out need f any param args c = rw f.1 (larger_of_span 0 param args)

pub host_sound : (rule : Host) (ins : List Shape) (out : Shape) (need : Need)
    → FormOf rule ins out need → IsSound (value_of rule) (Related rule) ins out need
host_sound Maxer ins out need f any param args points point c ps p h r =
    larger_sound param args points point (rw f.1 at p) h r
