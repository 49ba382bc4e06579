-- How many of some truths are `yes`.
use Rattle.std.specs.Prelude.{Bool, ℕ, ◌+◌, ℤ, pos, List, [], ◌∷◌, length, filter, not, cond}
use Rattle.std.specs.Prelude.{◌==◌, ◌&&◌, int_le}
use Rattle.prop_intervals.specs.Clip.{clip}
use Rattle.prop_lattice.specs.Points.{Point, Element}
use Rattle.prop_lattice.specs.declared.info.Info.{Info}
use Rattle.prop_sets.specs.Truth.{leaves}
use Rattle.prop_wide.specs.Ends.{low_of, high_of}
use Rattle.prop_wide.specs.Truths.{told_of}

-- how many of the points are the truth `yes`, which is 0
abbrev pub yes_among : List Point → ℕ
yes_among [] = 0
yes_among (Element t ∷ points) = cond (t == 0) 1 0 + yes_among points
yes_among (p ∷ points) = yes_among points

-- how many of the truths can't be `no`
abbrev pub sure_of : List Info → ℕ
sure_of truths = length (filter (λ t. not (leaves t 1)) truths)

-- how many of the truths may be `yes`
abbrev pub possible_of : List Info → ℕ
possible_of truths = length (filter (λ t. leaves t 0) truths)

-- how many are `yes`
abbrev pub count_of : List Info → Info
count_of truths = clip (pos (sure_of truths)) (pos (possible_of truths))

-- n may be a number from least to most
abbrev pub may_lie : Info → ℤ → ℤ → Bool
may_lie n least most = int_le (low_of n) most && int_le least (high_of n)

-- a truth where n of it and the others are `yes`
abbrev pub count_back_of : Info → List Info → Info
count_back_of n others =
    told_of (may_lie n (pos (sure_of others + 1)) (pos (possible_of others + 1)))
    (may_lie n (pos (sure_of others)) (pos (possible_of others)))
