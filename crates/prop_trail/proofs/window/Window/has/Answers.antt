use Rattle.std.proofs.Common.{◌≡◌, ◌∙◌, ℕ, ◌/◌, ◌%◌, ◌^◌, ap, get_or, bit_and, refl, SFits, w64}
use Rattle.std.specs.Int.{bit_at}
use Rattle.std.proofs.lemmas.Nat.Bits.{shr_and_one}
use Rattle.std.proofs.lemmas.Int.{to_z-of_z}
use Rattle.prop_trail.specs.Windows.{Ruled, Covers, bit_of}
use Rattle.prop_trail.specs.inner.Words.{cat}
use Rattle.prop_trail.proofs.WindowLaws.{bit_tells}
use Rattle.prop_trail.proofs.WordLaws.{bit_by_word}
use Rattle.prop_trail.proofs.window.Window.has.Goals as goal

pub returns : goal.returns
returns c =
    let n = c.self.inside in
    let at = c.bit_of-at.result in
    let word = get_or n.out (at / 64) 0 in
    let fits : SFits w64 c.args.number = c.ranges.number in
    let bit_is : at ≡ bit_of c.args.self.now c.args.number = simp to_z-of_z at c.bit_of-at.ensures.bit in
    let here : Covers c.args.self.now c.args.number = simp to_z-of_z at (c.if-not-covers.ensures.0 refl) in
    let bits : cat n.out ≡ c.args.self.now.bits = ap (λ (w : Ruled). w.bits) c.self.view_is in
    let bit : bit_and (word / 2 ^ (at % 64)) 1 ≡ bit_at c.args.self.now.bits (bit_of c.args.self.now c.args.number) =
    shr_and_one word (at % 64) ∙ bit_by_word n.first n.last n.out at c.self.invariant
    ∙ ap (λ (b : ℕ). bit_at b at) bits ∙ ap (bit_at c.args.self.now.bits) bit_is in
    bit_tells c.args.self.now c.args.number _ here bit
