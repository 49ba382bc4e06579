-- Nogoods and grounded sets through an added choice.
use Rattle.std.proofs.Common.{◌≡◌, ℕ, ◌≤◌, IsTrue, Bool, true, false, List, [], ◌∷◌, ◌++◌, ◌||◌, refl, arith}
use Rattle.std.proofs.lemmas.Bool.{true≢false}
use Rattle.prop_numbers.specs.Sets.{Members}
use Rattle.prop_premises.specs.declared.choice.Choice.{Choice}
use Rattle.prop_premises.specs.ChoiceLists.{hypothetical, is_hypothetical}
use Rattle.prop_premises.specs.inner.ChoiceLists.{is_side_of}
use Rattle.prop_cells.specs.Problems.{Problem}
use Rattle.prop_amb.specs.Moving.{IsFresh}
use Rattle.prop_amb.specs.Refuted.{IsNogood, IsGrounded}
use Rattle.prop_amb.specs.inner.Refuted.{IsUserPart}
use Rattle.prop_amb.proofs.RefutedLaws.{refuted_choice}
use Rattle.prop_amb.proofs.SearchLaws.{both, side_is_of}

pub nogood_choice : (problem : Problem) (choices : List Choice) (choice : Choice) (n : Members) → 1 ≤ choice.sides
    → IsFresh problem choice →
    IsNogood problem choices n → IsNogood problem (choices ++ choice ∷ []) n
nogood_choice problem choices choice n some fresh x = record {
  refuted = refuted_choice problem choices choice n 1 (omega arith, some)
      (λ i side in_n. absurd (both (side_is_of choice i side)
      (fresh (hypothetical choice i) x.cell (x.related (hypothetical choice i) in_n))))
      x.refuted;
  cell = x.cell;
  related = x.related;
}

or_none : (x y : Bool) → (x || y) ≡ false → (x ≡ false) × (y ≡ false)
or_none true y h = absurd (true≢false h)
or_none false y h = (refl, h)

or_false : (x y : Bool) → x ≡ false → y ≡ false → (x || y) ≡ false
or_false x y e f = cc

still_user : (choices more : List Choice) (p : ℕ) → is_hypothetical (choices ++ more) p ≡ false
    → is_hypothetical choices p ≡ false
still_user [] more p h = refl
still_user (c ∷ cs) more p h =
    let x : (is_side_of c p ≡ false) × (is_hypothetical (cs ++ more) p ≡ false) =
    or_none (is_side_of c p) (is_hypothetical (cs ++ more) p) h in
    or_false (is_side_of c p) (is_hypothetical cs p) x.0 (still_user cs more p x.1)

pub grounded_choice : (problem : Problem) (choices : List Choice) (choice : Choice) (n : Members) → 1 ≤ choice.sides
    → IsFresh problem choice →
    IsGrounded problem choices n → IsGrounded problem (choices ++ choice ∷ []) n
grounded_choice problem choices choice n some fresh g p in_n user =
    let x : (m : Members) × IsTrue (m p) × IsNogood problem choices m × IsUserPart choices m n =
    g p in_n (still_user choices (choice ∷ []) p user) in (
      x.0,
      x.1,
      nogood_choice problem choices choice x.0 some fresh x.2,
      λ q in_m user_q. x.3 q in_m (still_user choices (choice ∷ []) q user_q),
    )
