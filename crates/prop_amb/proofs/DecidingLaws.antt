-- What is known where a list is refuted: that a choice may go on, or that it went on.
use Rattle.std.proofs.Common.{◌≡◌, ◌∙◌, ◌+◌, ℕ, List, Contains, length, sym, subst, inl, inr, arith}
use Rattle.prop_numbers.specs.Sets.{Members, IsPart, set_of}
use Rattle.prop_cells.specs.Data.{Data}
use Rattle.prop_scheduler.specs.Shifts.{AreShifted}
use Rattle.prop_amb.specs.Search.{Stand, IsStand, believed_with}
use Rattle.prop_amb.specs.Culprits.{MayLeave, MayMove}
use Rattle.prop_amb.specs.Going.{Passes}
use Rattle.prop_amb.specs.Going.Passes.{none, next, skipped}
use Rattle.prop_amb.specs.inner.Refuting.{HasStepped}
use Rattle.prop_amb.proofs.MetLaws.{believes_worldview}

-- a choice may go on for a noted nogood that is believed
abbrev pub may_move : (s : Stand) (n : List ℕ) (j : ℕ) → IsStand s → Contains s.listed n
    → IsPart (set_of n) (set_of s.worldview) → MayLeave s n j → MayMove s j
may_move s n j stand noted believed leaves = record {
  nogood = n;
  noted = noted;
  believed = λ p t. sym (stand.believes p) ∙ believed p t;
  leaves = leaves;
}

-- a choice went on
pub goes_by : (s new : Stand) (j : ℕ) (reason : List ℕ) → HasStepped s j reason new → Passes s 1 new
goes_by s new j reason (inl ((may, culprits), is)) = next 0 j s new reason none may culprits is
goes_by s new j reason (inr (at, may, believes)) = skipped 0 s new reason none may believes

-- moves after moves
pub passes_on : {old mid new : Stand} {n k : ℕ} → Passes old n mid → Passes mid k new → Passes old (n + k) new
passes_on {old} {mid} {n = n} first none = let e : n ≡ n + 0 = omega arith in subst (λ m. Passes old m mid) e first
passes_on {old} {new = new} {n = n} first (next k j s later reason rest may culprits same) =
    let e : (n + k) + 1 ≡ n + (k + 1) = omega arith in
    subst (λ m. Passes old m later) e (next (n + k) j s later reason (passes_on first rest) may culprits same)
passes_on {old} {new = new} {n = n} first (skipped k s later nogood rest may believes) =
    let e : (n + k) + 1 ≡ n + (k + 1) = omega arith in
    subst (λ m. Passes old m later) e (skipped (n + k) s later nogood (passes_on first rest) may believes)

-- of the cells that a move shifted the readers and writers wait
pub are_shifted : (d : Data) (s new : Stand) (waiting line : List ℕ) → IsStand s → IsStand new
    → AreShifted (set_of s.worldview) (set_of new.worldview) d (length d.kinds) waiting line →
    AreShifted (believed_with s) (believed_with new) d (length d.kinds) waiting line
are_shifted d s new waiting line stand stand' shifted =
    subst (λ (u : Members). AreShifted u (believed_with new) d (length d.kinds) waiting line)
    (believes_worldview s stand)
    (subst (λ (v : Members). AreShifted (set_of s.worldview) v d (length d.kinds) waiting line)
    (believes_worldview new stand') shifted)
