-- What a side is by its domain and its size.
use Rattle.std.proofs.Common.{◌≡◌, ℕ, ◌≤◌, length, sym, ◌∙◌, ap, arith}
use Rattle.std.specs.Prelude.{min}
use Rattle.std.proofs.Math.Nat.{min-eq_left}
use Rattle.std.proofs.Props.{props}
use mathlib.Core.HLevel.{is_prop→PathP}
use Rattle.prop_sets.specs.declared.side.Side as sides
use Rattle.prop_vocabulary.specs.Vocabulary.{Vocabulary, elements_of, side_at}

-- sides of the same domain with the same size are one
pub same_side : (a b : sides.Side) → a.domain ≡ b.domain → a.size ≡ b.size → a ≡ b
same_side a b p q = λ i. record {
  domain = p i;
  size = q i;
  fits = is_prop→PathP (λ j. q j ≤ 64) (λ j. hlevel props) a.fits b.fits i;
}

-- a side is the one of its domain and its size
pub side_is : (v : Vocabulary) (d : ℕ) (s : sides.Side) → s.domain ≡ d → s.size ≡ length (elements_of v d)
    → s ≡ side_at v d
side_is v d s p q =
    same_side s (side_at v d) p (sym (min-eq_left (omega (arith, s.fits, q))) ∙ ap (λ n. min n 64) q)

-- where the size fits, the side has it
pub side_at-size : (v : Vocabulary) (d : ℕ) → length (elements_of v d) ≤ 64
    → (side_at v d).size ≡ length (elements_of v d)
side_at-size v d l = min-eq_left l
