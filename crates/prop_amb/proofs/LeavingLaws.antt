-- The choice at a place and the side that a list takes of it.
use Rattle.std.proofs.Common.{◌≡◌, ◌∙◌, ℕ, ◌+◌, ◌<◌, ◌&&◌, ◌==◌, not, false, List, length, take, IsTrue, Some, ap}
use Rattle.std.proofs.Common.{arith, slice_get, slice_index_or}
use Rattle.prop_numbers.specs.Sets.{Members, IsSame, without}
use Rattle.prop_premises.specs.declared.choice.Choice.{Choice}
use Rattle.prop_premises.specs.ChoiceLists.{hypothetical, is_hypothetical, worldview, IsSide, IsChoiceList, AreInOrder}
use Rattle.prop_amb.proofs.ZipLemmas.{zip_both, zip_length}
use Rattle.prop_amb.proofs.LevelLaws.{higher_believes}
use Rattle.prop_amb.proofs.LookingLaws.{get_there, its_side}

pub record TakenAt (cs : List Choice) (l : List ℕ) (j : ℕ) (c : Choice) (side : ℕ) : Type 0 where
  pub choice_at : slice_get cs j ≡ Some c
  pub side_at : slice_get l j ≡ Some side
  pub is_side : IsSide c side
  pub its : IsTrue (is_hypothetical cs (hypothetical c side))

pub taken_there : (cs : List Choice) (l : List ℕ) (j : ℕ) (d : Choice) (e : ℕ) → IsChoiceList cs l → j < length l
    → TakenAt cs l j (slice_index_or cs j d) (slice_index_or l j e)
taken_there cs l j d e is_list below =
    let choice_at = get_there cs j d (omega (arith, below, zip_length IsSide cs l is_list)) in
    let side_at = get_there l j e below in
    let is_side = zip_both IsSide cs l j (slice_index_or cs j d) (slice_index_or l j e) is_list choice_at side_at in
    record {
      choice_at = choice_at;
      side_at = side_at;
      is_side = is_side;
      its = its_side cs j (slice_index_or cs j d) (slice_index_or l j e) choice_at is_side;
    }

-- where that side is believed no longer, one choice fewer is
pub left_one : (now new users : Members) (cs : List Choice) (l : List ℕ) (k j : ℕ) (c : Choice) (side : ℕ) → k ≡ j + 1
    → AreInOrder cs → IsChoiceList cs l → TakenAt cs l j c side →
    ((q : ℕ) → IsTrue (users q) → is_hypothetical cs q ≡ false) → IsSame new (without now (hypothetical c side))
    → IsSame now (worldview users cs (take k l)) → IsSame new (worldview users cs (take j l))
left_one now new users cs l k j c side one order is_list t apart new_is now_is p =
    new_is p ∙ ap (λ b. b && not (hypothetical c side == p)) (now_is p ∙ ap (λ n. worldview users cs (take n l) p) one)
    ∙ higher_believes users cs l j c side p order is_list apart t.its t.choice_at t.side_at
