-- What would be believed with the side of one choice more.
use Rattle.std.specs.Prelude.{◌≡◌, ◌<◌, ℕ, List, false, length}
use Rattle.prop_numbers.specs.Sets.{set_of, IsPart, IsSame}
use Rattle.prop_nogoods.specs.Stores.{has_part}
use Rattle.prop_amb.specs.Search.{Stand, believed_with}
use Rattle.prop_amb.specs.Moving.{deepened}

-- w is what would be believed with the side of one choice more, and with it no noted nogood would
-- be believed
pub record IsAhead (s : Stand) (w : List ℕ) : Type 0 where
  pub left : s.level < length s.list
  pub more : IsPart (set_of s.worldview) (set_of w)
  pub believes : IsSame (set_of w) (believed_with (deepened s))
  pub unblocked : has_part s.listed (set_of w) ≡ false
