use Rattle.std.proofs.Common.{◌≡◌, ℤ, sym, subst, arith, rules, SFits, w64}
use Rattle.std.proofs.lemmas.Int.{ints, to_z-of_z}
use Rattle.prop_lattice.specs.Ends.{span_from}
use Rattle.prop_lattice.specs.declared.info.Info.{Info}
use Rattle.prop_lattice.specs.declared.info.Info.TheVariants.{Span}
use Rattle.prop_trail.specs.Narrowing.{IsNarrowed}
use Rattle.prop_trail.specs.Windows.{IsOut}
use Rattle.prop_trail.proofs.NarrowingLaws.{narrowed_is}
use Rattle.prop_trail.proofs.window.Window.narrowed.Goals as goal

pub returns : goal.returns
returns c =
    let s = c.in-Span.span in
    let lo = c.first_left-lo.result in
    let hi = c.last_left-hi.result in
    let lo_fits : SFits w64 lo = search rules in
    let hi_fits : SFits w64 hi = search rules in
    let is : c.between.result ≡ span_from lo hi = simp to_z-of_z at c.between.ensures in
    let Out : ℤ → Type 0 = IsOut c.args.self.now in
    subst (λ (i : Info). IsNarrowed Out i c.between.result) (sym c.in-Span.is)
    (subst (IsNarrowed Out (Span s)) (sym is)
    (narrowed_is Out s lo hi (omega (arith, ints)) (omega (arith, ints))
    (λ m a b. c.first_left-lo.ensures.passed m (omega (arith, ints)) (omega (arith, ints)))
    (λ m a b. c.last_left-hi.ensures.passed m (omega (arith, ints)) (omega (arith, ints)))
    (λ le out. c.first_left-lo.ensures.left (omega (arith, ints)) out)
    (λ le out. c.last_left-hi.ensures.left (omega (arith, ints)) out)))
