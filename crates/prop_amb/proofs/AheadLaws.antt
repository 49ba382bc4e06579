-- What would be believed with the side of one choice more.
use Rattle.std.proofs.Common.{◌≡◌, ◌≢◌, ◌∙◌, ◌<◌, ◌≤◌, ◌↔◌, ℕ, Bool}
use Rattle.std.proofs.Common.{List, [], ◌∷◌, false, true, length, sym, subst, arith}
use Rattle.std.proofs.Common.{Contains, IsTrue, Option, Some, None, inl, inr, slice_get, slice_index_or}
use Rattle.std.specs.Prelude.{is_some, IfSome}
use Rattle.std.proofs.lemmas.Bool.{false≢true}
use Rattle.prop_numbers.specs.Sets.{set_of, union, is_within, IsSame}
use Rattle.prop_premises.specs.declared.choice.Choice.{Choice}
use Rattle.prop_premises.specs.ChoiceLists.{hypothetical}
use Rattle.prop_nogoods.specs.Stores.{has_part}
use Rattle.prop_nogoods.proofs.StoreLaws.{has_part-from}
use Rattle.prop_amb.specs.Search.{Stand, IsStand, choices_in}
use Rattle.prop_amb.specs.Moving.{deepened}
use Rattle.prop_amb.specs.Going.{MaySkip}
use Rattle.prop_amb.specs.inner.Ahead.{IsAhead}
use Rattle.prop_amb.specs.inner.Refuting.{IsNext, IsFound}
use Rattle.prop_amb.proofs.BelievingLaws.{stand_deeper}
use Rattle.prop_amb.proofs.LeavingLaws.{TakenAt, taken_there}
use Rattle.prop_amb.proofs.SearchLaws.{both, or_true_left}
use Rattle.prop_amb.proofs.SkippingLaws.{is_next, not_last, not_whole}

-- there is a choice of which no side is believed
pub left_there : (s : Stand) (b : Bool) → IsStand s → IsTrue b ↔ (s.level ≡ length s.list) → b ≡ false
    → s.level < length s.list
left_there s b stand whole lacks =
    let apart : s.level ≢ length s.list = λ e. false≢true (sym lacks ∙ whole.1 e) in
    omega (arith, apart, stand.level)

-- where no noted nogood would be believed, the choice may not be passed over
pub not_ahead : (s : Stand) (w : List ℕ) → IsAhead s w → (n : List ℕ) → MaySkip s n → ⊥
not_ahead s w ahead n skip = both (has_part-from s.listed (set_of w) n skip.noted
    (λ p t. ahead.believes p ∙ skip.believed p t)) ahead.unblocked

pub some_ahead : (s : Stand) (o : Option (List ℕ)) → is_some o ≡ true → IfSome o (IsAhead s) → (n : List ℕ)
    → MaySkip s n → ⊥
some_ahead s None some ahead = cc some
some_ahead s (Some w) some ahead = not_ahead s w ahead

-- the first choice of which no side is believed stands on its last
pub none_last : (s : Stand) (cs : List Choice) (d : Choice) (e : ℕ) → IsStand s → cs ≡ choices_in s
    → s.level < length s.list → (slice_index_or cs s.level d).sides ≤ slice_index_or s.list s.level e → (n : List ℕ)
    → MaySkip s n → ⊥
none_last s cs d e stand same below last = not_last s cs (slice_index_or cs s.level d)
    (slice_index_or s.list s.level e) same (taken_there cs s.list s.level d e (rw same stand.is_list) below) last

-- what is believed, and the side on which that choice stands
module _ (s : Stand) (cs : List Choice) (d : Choice) (e q : ℕ) (w : List ℕ) (stand : IsStand s)
    (same : cs ≡ choices_in s)
    (below : s.level < length s.list)
    (is_side : (choice : Choice) (side : ℕ) → slice_get (choices_in s) s.level ≡ Some choice
    → slice_get s.list s.level ≡ Some side → q ≡ hypothetical choice side)
    (more : IsSame (set_of w) (union (set_of s.worldview) (set_of (q ∷ [])))) where
  abbrev choice : Choice
  choice = slice_index_or cs s.level d

  abbrev side : ℕ
  side = slice_index_or s.list s.level e

  taken : TakenAt cs s.list s.level choice side
  taken = taken_there cs s.list s.level d e (rw same stand.is_list) below

  side_is : q ≡ hypothetical choice side
  side_is = is_side choice side (subst (λ ds. slice_get ds s.level ≡ Some choice) same taken.choice_at) taken.side_at

  pub stand_next : IsStand (record (deepened s) { worldview = w })
  stand_next = stand_deeper s cs choice side q w stand same below taken side_is more

  pub ahead_next : has_part s.listed (set_of w) ≡ false → IsAhead s w
  ahead_next none = record {
    left = below;
    more = λ p t. more p ∙ or_true_left (set_of s.worldview p) (set_of (q ∷ []) p) t;
    believes = stand_next.believes;
    unblocked = none;
  }

  pub none_next : has_part s.listed (set_of w) ≡ false → (n : List ℕ) → MaySkip s n → ⊥
  none_next none = not_ahead s w (ahead_next none)

  pub next_refuted : (n : List ℕ) → Contains s.listed n → is_within (set_of w) n ≡ true → side < choice.sides
      → has_part s.listed (set_of s.worldview) ≡ false → IsNext s n
  next_refuted n noted within left none =
      is_next s cs choice side q w n stand same below taken side_is more noted within left none

-- where each choice's side is believed, and no noted nogood, none is found
pub none_found : (s : Stand) → s.level ≡ length s.list → has_part s.listed (set_of s.worldview) ≡ false → (n : List ℕ)
    → IsFound s n → ⊥
none_found s whole free n (inl here) =
    both (has_part-from s.listed (set_of s.worldview) n here.noted here.believed) free
none_found s whole free n (inr next) = not_whole s whole n next.may
