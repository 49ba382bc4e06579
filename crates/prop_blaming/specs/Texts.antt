-- The texts of replies with conflicts and repairs.
use Rattle.std.specs.Prelude.{ℕ, List, ◌++◌, Bool, codes, decimal, flat_map, length}
use Rattle.std.specs.Prelude.{if◌then◌else◌}
use Rattle.prop_texts.specs.Texts.{support_text}
use Rattle.prop_premises.specs.Origins.{Origin}
use Rattle.prop_hitting.specs.Costs.{cost}
use Rattle.prop_hitting.specs.declared.conflict.Conflict.{Conflict}

-- what is known of others: that there are none, or nothing
abbrev pub others_text : Bool → List ℕ
others_text all = if all then codes "\nothers none" else codes "\nothers unknown"

-- how the line of a conflict begins: with `conflict` where it is known to be minimal, else with
-- `unsettled`
abbrev pub heading_text : Bool → List ℕ
heading_text is_least = if is_least then codes "\nconflict:" else codes "\nunsettled:"

-- a conflict on a line of its own
abbrev pub conflict_text : List Origin → Conflict → List ℕ
conflict_text premises c = heading_text c.is_least ++ support_text premises c.premises

abbrev pub conflicts_text : List Origin → List Conflict → Bool → List ℕ
conflicts_text premises found all = codes "conflicts " ++ (decimal (length found)
    ++ (flat_map (conflict_text premises) found ++ others_text all))

-- a repair on a line of its own
abbrev pub repair_text : List Origin → List ℕ → List ℕ
repair_text premises out = codes "\nrepair:" ++ support_text premises out

abbrev pub repairs_text : List Origin → List (List ℕ) → Bool → List ℕ
repairs_text premises found all = codes "repairs " ++ (decimal (length found)
    ++ (flat_map (repair_text premises) found ++ others_text all))

-- a repair with what it costs, on a line of its own
abbrev pub costed_text : List Origin → List ℕ → List ℕ → List ℕ
costed_text premises weights out = codes "\nrepair " ++ (decimal (cost weights out)
    ++ (codes ":" ++ support_text premises out))

abbrev pub cheapest_text : List Origin → List ℕ → List (List ℕ) → Bool → List ℕ
cheapest_text premises weights found all = codes "repairs " ++ (decimal (length found)
    ++ (flat_map (costed_text premises weights) found ++ others_text all))
