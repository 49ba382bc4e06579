-- The texts of values and replies.
use Rattle.std.specs.Prelude.{ℕ, not, List, [], ◌∷◌, ◌++◌, length, filter, flat_map, slice_get}
use Rattle.std.specs.Prelude.{codes, decimal}
use Rattle.std.specs.List.{range_with_len}
use Rattle.std.specs.Option.{option_map_or}
use Rattle.prop_numbers.specs.Sets.{Members}
use Rattle.prop_premises.specs.Origins.{Origin, User, Side}

-- X = V, and what stands behind it
abbrev pub equation : List ℕ → List ℕ → List ℕ → List ℕ
equation name value mark = name ++ (codes " = " ++ (value ++ mark))

-- a user's premise by its name, a side of a choice by the choice's name, `=` and the side's number
abbrev pub label_of : Origin → List ℕ
label_of (User name believed) = name
label_of (Side choice side sides) = choice ++ (codes "=" ++ decimal side)

-- the labels of these premises, each with one space before it
abbrev pub premises_text : List Origin → List ℕ → List ℕ
premises_text premises ps =
    flat_map (λ p. 32 ∷ option_map_or label_of (slice_get premises p) []) ps

-- the labels of the premises that something rests on
abbrev pub support_text : List Origin → List ℕ → List ℕ
support_text premises [] = codes " no premise"
support_text premises (p ∷ ps) = premises_text premises (p ∷ ps)

abbrev pub contradiction_text : List Origin → List ℕ → List ℕ
contradiction_text premises ps = codes "contradiction:" ++ support_text premises ps

-- what stands behind a value to tell what it rests on
abbrev pub because : List Origin → List ℕ → List ℕ → List ℕ
because premises mark ps = mark ++ (codes " because" ++ support_text premises ps)

-- the labels of the premises of a set, in order of number, each with one space before it
abbrev pub members_text : List Origin → Members → List ℕ
members_text premises s = premises_text premises (filter s (range_with_len 0 (length premises)))

-- which premises are believed, and on a second line which are not
abbrev pub worldview_text : List Origin → Members → List ℕ
worldview_text premises w = codes "in:" ++ (members_text premises w
    ++ (10 ∷ codes "out:" ++ members_text premises (λ p. not (w p))))

-- how many nogoods there are, and a line for each
abbrev pub nogoods_text : List Origin → List (List ℕ) → List ℕ
nogoods_text premises nogoods = codes "nogoods " ++ (decimal (length nogoods) ++ flat_map
    (λ nogood. 10 ∷ codes "nogood:" ++ support_text premises nogood) nogoods)
