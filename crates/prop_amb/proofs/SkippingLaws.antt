-- A choice of which no side is believed, where a noted nogood would be with the one on which it stands.
use Rattle.std.proofs.Common.{◌≡◌, ◌∙◌, ◌+◌, ◌<◌, ◌==◌, ℕ, Bool, true, false, List, [], ◌∷◌, length, refl, sym, subst}
use Rattle.std.proofs.Common.{inl, inr, Contains, Option, Some, None, slice_get, ◌≤◌, ap, arith}
use Rattle.std.specs.Prelude.{is_some}
use Rattle.std.proofs.lemmas.Option.{slice_get_within}
use Rattle.std.proofs.lemmas.Bool.{eqb-true, or_cases}
use Rattle.std.proofs.lemmas.List.Elements.{All-contains}
use Rattle.prop_numbers.specs.Sets.{set_of, union, is_within, IsSame}
use Rattle.prop_numbers.proofs.WithinLemmas.{within_has}
use Rattle.prop_premises.specs.declared.choice.Choice.{Choice}
use Rattle.prop_premises.specs.ChoiceLists.{hypothetical}
use Rattle.prop_cells.specs.Problems.{Problem}
use Rattle.prop_nogoods.specs.Stores.{has_part}
use Rattle.prop_nogoods.proofs.StoreLaws.{has_part-from}
use Rattle.prop_amb.specs.Refuted.{IsNogood}
use Rattle.prop_amb.specs.Search.{Stand, IsStand, IsSearch, choices_in}
use Rattle.prop_amb.specs.Resolving.{IsReason}
use Rattle.prop_amb.specs.Moving.{deepened, passed_over}
use Rattle.prop_amb.specs.Going.{MaySkip, MayBelieve}
use Rattle.prop_amb.specs.inner.Refuting.{IsNext, MayStep}
use Rattle.prop_amb.proofs.BelievingLaws.{stand_deeper, search_deeper}
use Rattle.prop_amb.proofs.LeavingLaws.{TakenAt}
use Rattle.prop_amb.proofs.LevelLaws.{or_no}
use Rattle.prop_amb.proofs.LookingLaws.{StandsAt, looked_reason}
use Rattle.prop_amb.proofs.ResolvingLaws.{nogood_shown, believed_within}
use Rattle.prop_amb.proofs.SearchLaws.{both}
use Rattle.prop_amb.proofs.Shown.{IsWithin}

some_one : {A : Type 0} {x y : A} → Some x ≡ Some y → x ≡ y
some_one e = cc e

-- ---- where a choice isn't passed over

-- there is none left
pub not_whole : (s : Stand) → s.level ≡ length s.list → (n : List ℕ) → MaySkip s n → ⊥
not_whole s whole n skip =
    let below = slice_get_within s.list s.level skip.may.side skip.may.side_at in omega (arith, whole, below)

-- it stands on its last side
pub not_last : (s : Stand) (cs : List Choice) (c : Choice) (side : ℕ) → cs ≡ choices_in s
    → TakenAt cs s.list s.level c side → c.sides ≤ side → (n : List ℕ) → MaySkip s n → ⊥
not_last s cs c side same taken last n skip =
    let choice_at : slice_get (choices_in s) s.level ≡ Some c =
    subst (λ ds. slice_get ds s.level ≡ Some c) same taken.choice_at in
    let choice : c ≡ skip.may.choice = some_one (sym choice_at ∙ skip.may.choice_at) in
    let its : side ≡ skip.may.side = some_one (sym taken.side_at ∙ skip.may.side_at) in
    let sides : c.sides ≡ skip.may.choice.sides = ap (λ (d : Choice). d.sides) choice in
    let more = skip.may.more in
    omega (arith, last, more, its, sides)

-- no noted nogood is believed with its side
pub not_refuted : (s : Stand) (cs : List Choice) (c : Choice) (side q : ℕ) (deeper : List ℕ) → IsStand s
    → cs ≡ choices_in s → s.level < length s.list → TakenAt cs s.list s.level c side → q ≡ hypothetical c side
    → IsSame (set_of deeper) (union (set_of s.worldview) (set_of (q ∷ [])))
    → has_part s.listed (set_of deeper) ≡ false → (n : List ℕ) → MaySkip s n → ⊥
not_refuted s cs c side q deeper stand same below taken is more none n skip =
    let stands : IsStand (record s { level = s.level + 1; worldview = deeper }) =
    stand_deeper s cs c side q deeper stand same below taken is more in
    both (has_part-from s.listed (set_of deeper) n skip.noted (λ p t. stands.believes p ∙ skip.believed p t)) none

-- ---- where it is

module _ (s : Stand) (cs : List Choice) (c : Choice) (side q : ℕ) (deeper n : List ℕ) (stand : IsStand s)
    (same : cs ≡ choices_in s) (below : s.level < length s.list) (taken : TakenAt cs s.list s.level c side)
    (is : q ≡ hypothetical c side) (more : IsSame (set_of deeper) (union (set_of s.worldview) (set_of (q ∷ []))))
    (noted : Contains s.listed n) (within : is_within (set_of deeper) n ≡ true) where
  abbrev later : Stand
  later = record s { level = s.level + 1; worldview = deeper }

  stands : IsStand later
  stands = stand_deeper s cs c side q deeper stand same below taken is more

  choice_at : slice_get (choices_in s) s.level ≡ Some c
  choice_at = subst (λ ds. slice_get ds s.level ≡ Some c) same taken.choice_at

  may_skip : side < c.sides → MaySkip s n
  may_skip left = record {
    noted = noted;
    believed = λ p t. sym (stands.believes p) ∙ within_has (set_of deeper) n p within t;
    may = record {
      choice = c;
      side = side;
      choice_at = choice_at;
      side_at = taken.side_at;
      more = left;
    };
  }

  -- it holds the side, since without it no noted nogood is believed
  holds : has_part s.listed (set_of s.worldview) ≡ false → set_of n q ≡ true
  holds none = by (set_of n q) refl
    where
      known : set_of n q ≡ false → (p : ℕ) → set_of n p ≡ true → set_of s.worldview p ≡ true
      known lacks p t = elim (or_cases (set_of s.worldview p) (set_of (q ∷ []) p)
          (sym (more p) ∙ within_has (set_of deeper) n p within t)) [
            | inl h ↦ h
            | inr h ↦
                let e : q ≡ p = eqb-true q p (sym (or_no (q == p)) ∙ h) in
                cc (subst (λ r. set_of n r ≡ false) e lacks, t)
          ]

      by : (b : Bool) → set_of n q ≡ b → b ≡ true
      by true e = refl
      by false e = cc (has_part-from s.listed (set_of s.worldview) n noted (known e), none)

  skip_reason : has_part s.listed (set_of s.worldview) ≡ false → (problem : Problem) → IsSearch problem s
      → IsReason problem s s.level (set_of n)
  skip_reason none problem h d i d_at i_at =
      let here : StandsAt later s.level c side = record {
        stand = stands;
        choice_at = choice_at;
        side_at = taken.side_at;
      } in
      let nogood : IsNogood problem (choices_in s) (set_of n) =
      All-contains (λ line. IsNogood problem (choices_in s) (set_of line)) s.listed n h.nogoods noted in
      let shown = nogood_shown problem later (set_of n) nogood
      (has_part-from s.listed (set_of n) n noted (λ p t. t)) in
      let inside : IsWithin later (s.level + 1) (set_of n) =
      believed_within later (set_of n) stands (λ p t. within_has (set_of deeper) n p within t) in
      let k = looked_reason problem later s.level c side (set_of n) here
      (search_deeper problem s (s.level + 1) deeper h) inside shown
      (subst (λ r. set_of n r ≡ true) is (holds none)) d i d_at i_at in
      record {
        refuted = k.refuted;
        grounded = k.grounded;
        covered = k.covered;
        against = k.against;
        beside = k.beside;
      }

  pub is_next : side < c.sides → has_part s.listed (set_of s.worldview) ≡ false → IsNext s n
  is_next left none = record { may = may_skip left; unblocked = none; reason = skip_reason none }

pub no_some : {A : Type 0} (o : Option A) → is_some o ≡ false → o ≡ None
no_some None e = refl
no_some (Some x) e = cc e

-- the side is believed where the choice may not be passed over
pub believes_on : (s mid later : Stand) (n : List ℕ) → mid ≡ passed_over s n → ((m : List ℕ) → MaySkip mid m → ⊥)
    → later ≡ record (deepened mid) { worldview = later.worldview } → MayBelieve (passed_over s n) later
believes_on s mid later n same none is = subst (λ (t : Stand). MayBelieve t later) same (inr (none, is))

-- a choice of which no side is believed goes on by a skip
pub skips_at : (s : Stand) (j : ℕ) (reason : List ℕ) → MayStep s j reason → s.level ≤ j
    → (j ≡ s.level) × (has_part s.listed (set_of s.worldview) ≡ false) × MaySkip s reason
skips_at s j reason (inl (below, may)) high = absurd (omega (arith, below, high))
skips_at s j reason (inr skip) high = skip
