-- What stands at a place of a search, and what a refuted set shows of it.
use Rattle.std.proofs.Common.{◌≡◌, ◌∙◌, ℕ, zero, suc, ◌+◌, ◌<◌, ◌≤◌, IsTrue, List, [], ◌∷◌, length, Some, refl, sym, ap}
use Rattle.std.proofs.Common.{subst, false, arith, slice_get, slice_index_or}
use Rattle.prop_numbers.specs.Sets.{Members, IsSame, union, without}
use Rattle.prop_premises.specs.declared.choice.Choice.{Choice}
use Rattle.prop_premises.specs.ChoiceLists.{hypothetical, is_hypothetical, IsSide}
use Rattle.prop_premises.specs.inner.ChoiceLists.{is_side_of}
use Rattle.prop_cells.specs.Problems.{Problem}
use Rattle.prop_amb.specs.inner.Joined.{others_of}
use Rattle.prop_amb.specs.Search.{Stand, IsStand, choices_in, IsSearch}
use Rattle.prop_amb.specs.Resolving.{IsReason}
use Rattle.prop_amb.proofs.Shown.{IsShown, IsWithin}
use Rattle.prop_amb.proofs.ZipLemmas.{some_same, none_some, zip_both, zip_length}
use Rattle.prop_amb.proofs.SearchLaws.{or_true_left, or_true_right, side_is_of}
use Rattle.prop_amb.proofs.ResolvingLaws.{shown_against, within_less, within_earlier, still_shown}

-- there are as many choices as sides
pub choices_count : (s : Stand) → IsStand s → length (choices_in s) ≡ length s.list
choices_count s stand = zip_length IsSide (choices_in s) s.list stand.is_list

-- there are as many lists of reasons as sides
pub reasons_count : (s : Stand) → IsStand s → length s.reasons ≡ length s.list
reasons_count s stand = sym (zip_length (λ side reasons. length reasons + 1 ≡ side) s.list s.reasons stand.reasoned)

pub get_there : {A : Type 0} (xs : List A) (k : ℕ) (d : A) → k < length xs
    → slice_get xs k ≡ Some (slice_index_or xs k d)
get_there [] k d l = absurd (omega (arith, l))
get_there (x ∷ xs) zero d l = refl
get_there (x ∷ xs) (suc k) d l = get_there xs k d (omega (arith, l))

-- ---- the choice at a place, its side and its reasons

-- The choice at place j, and the side on which it stands.
pub record StandsAt (s : Stand) (j : ℕ) (c : Choice) (side : ℕ) : Type 0 where
  pub stand : IsStand s
  pub choice_at : slice_get (choices_in s) j ≡ Some c
  pub side_at : slice_get s.list j ≡ Some side

-- where the choice is read from a list of the choices, and the side from the list of sides
pub stands_here : (s t : Stand) (j : ℕ) (cs : List Choice) (d : Choice) (side : ℕ) → s ≡ t → IsStand s
    → j < length t.list → cs ≡ choices_in s → side ≡ slice_index_or s.list j side
    → StandsAt t j (slice_index_or cs j d) side
stands_here s t j cs d side same stand l choices_are side_is =
    subst (λ (u : Stand). StandsAt u j (slice_index_or cs j d) side) same (record {
      stand = stand;
      choice_at = rw choices_are (get_there (choices_in s) j d (omega (arith, below, choices_count s stand)));
      side_at = get_there s.list j side below ∙ ap Some (sym side_is);
    })
  where
    below : j < length s.list
    below = rw same l

-- the reasons at a place, read from the lists of reasons
pub reasons_here : (s t : Stand) (j : ℕ) (kept : List (List ℕ)) → s ≡ t → IsStand s → j < length t.list
    → kept ≡ slice_index_or s.reasons j kept → slice_get t.reasons j ≡ Some kept
reasons_here s t j kept same stand l kept_is =
    subst (λ (u : Stand). slice_get u.reasons j ≡ Some kept) same
    (get_there s.reasons j kept (omega (arith, below, reasons_count s stand)) ∙ ap Some (sym kept_is))
  where
    below : j < length s.list
    below = rw same l

pub its_side : (cs : List Choice) (j : ℕ) (c : Choice) (side : ℕ) → slice_get cs j ≡ Some c → IsSide c side
    → IsTrue (is_hypothetical cs (hypothetical c side))
its_side [] j c side e is_side = absurd (none_some e)
its_side (x ∷ cs) zero c side e is_side =
    or_true_left (is_side_of x (hypothetical c side)) (is_hypothetical cs (hypothetical c side))
    (rw (some_same e) (side_is_of c side is_side))
its_side (x ∷ cs) (suc j) c side e is_side =
    or_true_right (is_side_of x (hypothetical c side)) (is_hypothetical cs (hypothetical c side))
    (its_side cs j c side e is_side)

module _ (s : Stand) (j : ℕ) (c : Choice) (side : ℕ) (here : StandsAt s j c side) where
  pub is_its_side : IsSide c side
  is_its_side = zip_both IsSide (choices_in s) s.list j c side here.stand.is_list here.choice_at here.side_at

  -- the number of the side is as small as those of all sides
  pub side_small : (n : ℕ) → ((p : ℕ) → IsTrue (is_hypothetical (choices_in s) p) → p < n) → hypothetical c side < n
  side_small n below = below (hypothetical c side) (its_side (choices_in s) j c side here.choice_at is_its_side)

  -- against each side before there is one reason
  pub reasons_before : (kept : List (List ℕ)) → slice_get s.reasons j ≡ Some kept → length kept + 1 ≡ side
  reasons_before kept kept_at = zip_both (λ side reasons. length reasons + 1 ≡ side) s.list s.reasons j side kept
      here.stand.reasoned here.side_at kept_at

-- ---- what a shown set shows of the choice at a place, where it holds no side of a later one

module _ (problem : Problem) (s : Stand) (j : ℕ) (c : Choice) (side : ℕ) (n : Members) (here : StandsAt s j c side)
    (h : IsSearch problem s) (within : IsWithin s (j + 1) n) (shown : IsShown problem s n) where
  within_more : IsWithin s (suc j) n
  within_more =
      let e : j + 1 ≡ suc j = omega arith in
      subst (λ (k : ℕ). IsWithin s k n) e within

  -- it holds sides of earlier choices alone, where it doesn't hold the side
  pub looked_free : n (hypothetical c side) ≡ false → IsWithin s j n × IsShown problem s n
  looked_free lacks = (within_less s j c side n here.choice_at here.side_at within_more lacks, shown)

  -- it is a reason against the side that it holds
  pub looked_reason : IsTrue (n (hypothetical c side)) → IsReason problem s j n
  looked_reason holds d i d_at i_at = shown_against problem s j d i n d_at i_at within_more
      (at (some_same (sym here.choice_at ∙ d_at)) (some_same (sym here.side_at ∙ i_at))) shown
    where
      at : c ≡ d → side ≡ i → IsTrue (n (hypothetical d i))
      at e f = rw (e, f) at holds

  -- joined with the reasons it holds sides of earlier choices alone, where the side that it holds is the last
  pub looked_joined : (m : Members) (kept : List (List ℕ)) → c.sides ≤ side → slice_get s.reasons j ≡ Some kept
      → IsTrue (n (hypothetical c side)) →
      IsSame m (union (without n (hypothetical c side)) (others_of c.first kept)) → IsWithin s j m × IsShown problem s m
  looked_joined m kept last kept_at holds m_is =
      let is_side : IsSide c side = is_its_side s j c side here in
      let e : side ≡ c.sides = omega (arith, last, is_side.1) in
      let side_at : slice_get s.list j ≡ Some c.sides = rw e at here.side_at in
      let holds_last : IsTrue (n (hypothetical c c.sides)) = rw e at holds in
      let m_last : IsSame m (union (without n (hypothetical c c.sides)) (others_of c.first kept)) = rw e at m_is in (
        within_earlier problem s j c n m kept here.stand here.choice_at side_at kept_at within_more holds_last m_last h
            shown,
        still_shown problem s j c n m kept here.stand here.choice_at side_at kept_at within_more holds_last m_last h
            shown,
      )
