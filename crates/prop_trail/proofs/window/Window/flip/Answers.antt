use Rattle.std.proofs.Common.{◌≡◌, ◌∙◌, ℕ, get_or, ◌/◌, ◌*◌, ◌%◌, ◌^◌, ◌<◌, ap, arith, bit_xor, refl, SFits, w64}
use Rattle.std.proofs.Math.ListN.{set}
use Rattle.std.proofs.lemmas.Int.{to_z-of_z}
use Rattle.prop_trail.specs.Windows.{Ruled, Covers, bit_of}
use Rattle.prop_trail.specs.inner.Words.{cat}
use Rattle.prop_trail.proofs.WindowLaws.{flipped_is}
use Rattle.prop_trail.proofs.WordLaws.{one_at, window_turned, bits_turned}
use Rattle.prop_trail.proofs.window.Window.flip.Goals as goal

pub invariant_of-self : goal.invariant_of-self
invariant_of-self c =
    let n = c.self.inside in
    let at = c.bit_of-at.result in
    let small : at % 64 < 64 = omega arith in
    window_turned n.first n.last n.out at (1 * 2 ^ (at % 64) % 2 ^ 64) c.self.invariant c.bit_of-at.ensures.within
    (one_at (at % 64) small)

pub returns : goal.returns
returns c =
    let n = c.self.inside in
    let w = c.args.self.now in
    let at = c.bit_of-at.result in
    let small : at % 64 < 64 = omega arith in
    let fits : SFits w64 c.args.number = c.ranges.number in
    let bit_is : at ≡ bit_of c.args.self.now c.args.number = simp to_z-of_z at c.bit_of-at.ensures.bit in
    let here : Covers w c.args.number = simp to_z-of_z at (c.if-not-covers.ensures.0 refl) in
    let bits : cat n.out ≡ w.bits = ap (λ (r : Ruled). r.bits) c.self.view_is in
    let turned = bits_turned n.first n.last n.out at (1 * 2 ^ (at % 64) % 2 ^ 64) c.self.invariant
    c.bit_of-at.ensures.within (one_at (at % 64) small) in
    let now = turned ∙ ap (λ (b : ℕ). bit_xor b (2 ^ at)) bits
    ∙ ap (λ (k : ℕ). bit_xor w.bits (2 ^ k)) bit_is in
    let bits_now = cat (set n.out (at / 64) (bit_xor (get_or n.out (at / 64) 0) (1 * 2 ^ (at % 64) % 2 ^ 64))) in
    ap (λ (r : Ruled). record r { bits = bits_now }) c.self.view_is ∙ flipped_is w c.args.number bits_now here now
