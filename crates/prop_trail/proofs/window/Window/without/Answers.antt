use Rattle.std.proofs.Common.{◌≡◌, ◌≢◌, ◌∙◌, ℤ, pos, ◌+ℤ◌, ◌-ℤ◌, ap, subst, arith, inl, inr, SFits, w64}
use Rattle.std.proofs.Common.{to_z, of_z}
use Rattle.std.proofs.lemmas.Bool.{false≢true}
use Rattle.std.proofs.lemmas.Int.{ints, to_z-of_z}
use Rattle.prop_lattice.specs.Ends.{span_from}
use Rattle.prop_lattice.specs.declared.info.Info.{Info}
use Rattle.prop_trail.specs.Narrowing.{IsNarrowed}
use Rattle.prop_trail.specs.Windows.{IsOut, Covers}
use Rattle.prop_trail.proofs.NarrowingLaws.{without_first, without_last, without_inner}
use Rattle.prop_trail.proofs.window.Window.without.Goals as goal

pub returns-then-number-lo-clause-some : goal.returns-then-number-lo-clause-some
returns-then-number-lo-clause-some c =
    let s = c.args.span in
    let n = c.args.number in
    let Out : ℤ → Type 0 = IsOut c.args.self.now in
    let end : n ≡ s.lo = omega (arith, ints) in
    let first : to_z w64 (of_z w64 (to_z w64 (of_z w64 n) +ℤ pos 1)) ≡ n +ℤ pos 1 = omega (arith, ints) in
    let last : to_z w64 (of_z w64 c.hi.result) ≡ s.hi = omega (arith, ints) in
    let is = c.between.ensures ∙ ap (λ (z : ℤ). span_from z (to_z w64 (of_z w64 c.hi.result))) first
    ∙ ap (span_from (n +ℤ pos 1)) last in
    without_first Out s n c.narrowed.result c.requires.two c.requires.tight end
    (subst (λ (i : Info). IsNarrowed Out i c.narrowed.result) is c.narrowed.ensures)

pub returns-then-number-hi-clause-some : goal.returns-then-number-hi-clause-some
returns-then-number-hi-clause-some c =
    let s = c.args.span in
    let n = c.args.number in
    let Out : ℤ → Type 0 = IsOut c.args.self.now in
    let end : n ≡ s.hi = omega (arith, ints) in
    let first : to_z w64 (of_z w64 c.lo-then-number-hi.result) ≡ s.lo = omega (arith, ints) in
    let last : to_z w64 (of_z w64 (to_z w64 (of_z w64 n) -ℤ pos 1)) ≡ n -ℤ pos 1 = omega (arith, ints) in
    let is = c.between-then-number-hi.ensures
    ∙ ap (λ (z : ℤ). span_from z (to_z w64 (of_z w64 (to_z w64 (of_z w64 n) -ℤ pos 1)))) first
    ∙ ap (span_from s.lo) last in
    without_last Out s n c.narrowed-then-number-hi.result c.requires.two c.requires.tight end
    (subst (λ (i : Info). IsNarrowed Out i c.narrowed-then-number-hi.result) is c.narrowed-then-number-hi.ensures)

pub returns-then-covers-clause-some : goal.returns-then-covers-clause-some
returns-then-covers-clause-some c =
    let s = c.args.span in
    let low : c.args.number ≢ s.lo = λ e. omega (arith, ints) in
    let high : c.args.number ≢ s.hi = λ e. omega (arith, ints) in
    without_inner (IsOut c.args.self.now) s c.args.number c.requires.tight low high

pub returns-else-covers-clause-none : goal.returns-else-covers-clause-none
returns-else-covers-clause-none c = λ _ o. elim o [
  | inl e ↦ omega (arith, ints)
  | inr more ↦ elim more [
    | inl e ↦ omega (arith, ints)
    | inr here ↦ (
        let fits : SFits w64 c.args.number = c.ranges.number in
        let there : Covers c.args.self.now (to_z w64 (of_z w64 c.args.number)) = simp to_z-of_z here in
        false≢true (c.if-covers.ensures.1 there))
  ]
]
