-- The texts of replies to questions for plans.
use Rattle.std.specs.Prelude.{ℕ, List, [], ◌∷◌, ◌++◌, Option, Some, None, codes, decimal, flat_map}
use Rattle.std.specs.Prelude.{length, map, nat_eq, ◌-◌, ◌^◌, if◌then◌else◌}
use Rattle.std.specs.List.{join_by, range_with_len, zip}
use Rattle.std.specs.Option.{option_map_or}
use Rattle.prop_lattice.specs.declared.info.Info.{Info}
use Rattle.prop_lattice.specs.declared.info.Info.TheVariants.{Nothing, Sym}
use Rattle.prop_premises.specs.ChoiceLists.{hypothetical}
use Rattle.prop_vocabulary.specs.Cells.{name_at}
use Rattle.prop_texts.specs.Texts.{equation, support_text}
use Rattle.prop_texts.specs.inner.Listed.{label_at}
use Rattle.prop_workbench.specs.Machine.{State, choices_in}
use Rattle.prop_workbench.specs.inner.Machine.{text_at}
use Rattle.prop_seeking.specs.Asking.{Aim, Any, Least}

-- a plan: a value for each cell, and a side for each choice, where sides count from 1
pub record Plan : Type 0 where
  pub values : ℕ → Info
  pub sides : List ℕ

-- The value of a cell as text. Of the symbol with the number 2^32 - 1, which stands for any that
-- nobody named, nothing is said.
abbrev pub value_text : State → Plan → ℕ → List ℕ
value_text s p cell = text_at s cell (elim (p.values cell)
    [ Sym n ↦ if nat_eq n (2 ^ 32 - 1) then Nothing else Sym n | a ↦ a ])

-- the text of a cell with its value, if the cell has a name
abbrev pub cell_texts : State → Plan → ℕ → List (List ℕ)
cell_texts s p cell =
    option_map_or (λ name. equation name (value_text s p cell) [] ∷ []) (name_at s.names cell) []

-- the lines of a plan: each cell that has a name with its value, and the label of each choice's
-- side
abbrev pub lines_of : State → Plan → List (List ℕ)
lines_of s p = flat_map (cell_texts s p) (range_with_len 0 (length s.kinds))
    ++ map (λ c. label_at s.premises (hypothetical c.0 c.1)) (zip (choices_in s) p.sides)

-- a plan: its first line says how many more follow, and what the mark says
abbrev pub plan_text : State → List ℕ → Plan → List ℕ
plan_text s mark p = codes "plan " ++ (decimal (length (lines_of s p))
    ++ (mark ++ flat_map (λ line. 10 ∷ line) (lines_of s p)))

-- What is replied with one plan. Where any was asked for, it is the plan alone. Where it is open
-- whether another is better, the plan is marked as unsettled. Else the plan stands behind the best
-- number, or behind a bound than which none is better (then it is unsettled, too), and behind the
-- premises on which that rests.
abbrev pub one_text : State → Aim → ℕ → Plan → Option Info → Option (List ℕ) → List ℕ
one_text s Any cell p end by = plan_text s [] p
one_text s aim cell p end None = plan_text s (codes " unsettled") p
one_text s aim cell p end (Some by) = option_map_or (λ a. codes "bound " ++ text_at s cell a) end
    (elim aim [ Least ↦ codes "least " | _ ↦ codes "greatest " ] ++ value_text s p cell)
    ++ (codes "\nbecause" ++ (support_text s.premises by ++ (codes "\n"
    ++ plan_text s (option_map_or (λ a. codes " unsettled") end []) p)))

-- what is replied with many plans: for each a line with the named cells and their values, and then
-- what is known of others
abbrev pub many_text : State → List ℕ → List Plan → Option (List ℕ) → List ℕ
many_text s named ps by = codes "plans " ++ (decimal (length ps) ++ (flat_map (λ p. 10
    ∷ join_by (λ text. text) (codes " ") (flat_map (cell_texts s p) named)) ps
    ++ (codes "\n" ++ option_map_or (λ others. codes "others none:"
    ++ support_text s.premises others) by (codes "others unknown"))))
