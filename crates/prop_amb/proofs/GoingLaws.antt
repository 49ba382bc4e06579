-- Runs and moves, one after the other.
use Rattle.std.proofs.Common.{◌≡◌, ◌∙◌, ℕ, ◌+◌, ◌<◌, false, List, length, ap, sym, subst, arith}
use Rattle.std.proofs.lemmas.Option.{slice_get_within}
use Rattle.prop_numbers.specs.Sets.{Members, set_of}
use Rattle.prop_procedures.specs.Stored.{Stored}
use Rattle.prop_cells.specs.Data.{Data, IsFree, IsClash}
use Rattle.prop_nogoods.specs.Stores.{has_part, AddsSet}
use Rattle.prop_scheduler.specs.Turns.{Turn, Turns}
use Rattle.prop_scheduler.specs.Turns.Turns.{none as no_turn, more as one_turn}
use Rattle.prop_amb.specs.Search.{Stand, IsStand, believed_with}
use Rattle.prop_amb.specs.Going.{Work, work, MayCall, Goes}
use Rattle.prop_amb.specs.Going.Goes.{none, called, noted, moved, deeper}
use Rattle.prop_amb.proofs.MetLaws.{believes_worldview}

-- a turn may be called where no noted nogood is believed
turn_may : {O : Type 0} (library : List Stored) (s : Stand) (place : ℕ) (d new : Data) (line after : List ℕ) (order : O)
    → has_part s.listed (believed_with s) ≡ false →
    Turn library (believed_with s) place d new line after → MayCall (work s d line order)
turn_may library s place d new line after order unblocked turn = record {
  waits = omega (arith, slice_get_within line place turn.called turn.waits);
  unblocked = unblocked;
  free = turn.free;
}

-- a run goes on where no noted nogood is believed
pub runs : {O : Type 0} (picks : O → ℕ → ℕ → O → Type 0) (library : List Stored) (s : Stand) (d : Data) (line : List ℕ)
    (order : O) (k : ℕ) (new : Data) (after : List ℕ) (next : O) → has_part s.listed (believed_with s) ≡ false →
    Turns picks library (believed_with s) d line order k new after next
    → Goes picks library (work s d line order) k (work s new after next)
runs picks library s d line order _ _ _ _ unblocked no_turn = none
runs picks library s d line order _ _ _ _ unblocked
    (one_turn n place mid new waiting after before next some picked turn) =
    called n place (work s mid waiting before) new after next
    (runs picks library s d line order n mid waiting before unblocked some)
    (turn_may library s place mid new waiting after before unblocked turn) picked turn

-- What an attempt does: it runs the network in a worldview in which no noted nogood is believed.
module _ (s : Stand) (w : List ℕ) (stand : IsStand s) (same : w ≡ s.worldview)
    (unblocked : has_part s.listed (set_of s.worldview) ≡ false) where
  believed : set_of w ≡ believed_with s
  believed = ap set_of same ∙ believes_worldview s stand

  none_believed : has_part s.listed (believed_with s) ≡ false
  none_believed = subst (λ (u : Members). has_part s.listed u ≡ false) (believes_worldview s stand) unblocked

  pub ran : {O : Type 0} (picks : O → ℕ → ℕ → O → Type 0) (library : List Stored) (d : Data) (line : List ℕ) (order : O)
      (k : ℕ) (new : Data) (after : List ℕ) (next : O) → Turns picks library (set_of w) d line order k new after next →
      Goes picks library (work s d line order) k (work s new after next)
  ran picks library d line order k new after next run =
      runs picks library s d line order k new after next none_believed
      (subst (λ (u : Members). Turns picks library u d line order k new after next) believed run)

  -- a clash is noted
  pub ran_noting : {O : Type 0} (picks : O → ℕ → ℕ → O → Type 0) (library : List Stored) (d : Data) (line : List ℕ)
      (order : O) (k : ℕ) (new : Data) (after : List ℕ) (next : O) (t : Stand) (copy support : List ℕ)
      → Turns picks library (set_of w) d line order k new after next →
      IsClash (set_of w) new support → copy ≡ support → AddsSet s.listed t.listed copy
      → t ≡ record s { listed = t.listed } → Goes picks library (work s d line order) k (work t new after next)
  ran_noting picks library d line order k new after next t copy support run clash copied adds only =
      let here : IsClash (believed_with s) new support =
      subst (λ (u : Members). IsClash u new support) believed clash in
      let added : AddsSet s.listed t.listed support = rw copied at adds in
      subst (λ (x : Stand). Goes picks library (work s d line order) k (work x new after next)) (sym only)
      (noted k (work s new after next) support t.listed (ran picks library d line order k new after next run) here
      added)

  -- one more instance may be called
  pub ran_may : {O : Type 0} (d : Data) (line : List ℕ) (order : O) → 0 < length line → IsFree (set_of w) d
      → MayCall (work s d line order)
  ran_may d line order waits free = record {
    waits = waits;
    unblocked = none_believed;
    free = subst (λ (u : Members). IsFree u d) believed free;
  }

-- what goes on from where the first went
pub goes_then : {O : Type 0} {picks : O → ℕ → ℕ → O → Type 0} {library : List Stored} {start w v : Work O} {n k : ℕ}
    → Goes picks library start n w → Goes picks library w k v → Goes picks library start (n + k) v
goes_then {picks = picks} {library} {start} {w} {n = n} first none = let e : n ≡ n + 0 =
    omega arith in subst (λ m. Goes picks library start m w) e first
goes_then {picks = picks} {library} {start} {n = n} first (called k place u d line next rest may picked turn) =
    let e : (n + k) + 1 ≡ n + (k + 1) = omega arith in
    subst (λ m. Goes picks library start m (record u { cells = d; line = line; order = next })) e
    (called (n + k) place u d line next (goes_then first rest) may picked turn)
goes_then {n = n} first (deeper k u later line rest may same grown) =
    deeper (n + k) u later line (goes_then first rest) may same grown
goes_then {n = n} first (noted k u nogood more rest clash adds) =
    noted (n + k) u nogood more (goes_then first rest) clash adds
goes_then {picks = picks} {library} {start} {n = n} first (moved k moves u later line rest passes shifted) =
    let e : (n + k) + moves ≡ n + (k + moves) = omega arith in
    subst (λ m. Goes picks library start m (record u { search = later; line = line })) e
    (moved (n + k) moves u later line (goes_then first rest) passes shifted)
