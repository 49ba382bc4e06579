-- The texts of a seeker's replies, and what lines ask, piece by piece.
use Rattle.std.specs.Prelude.{ℕ, List, [], ◌++◌, ◌-◌, ◌^◌, Option, Some, None, codes, decimal}
use Rattle.std.specs.Prelude.{flat_map, length, nat_eq, if◌then◌else◌, ◌∷◌}
use Rattle.std.specs.Option.{option_map_or}
use Rattle.prop_lattice.specs.declared.info.Info.{Info}
use Rattle.prop_lattice.specs.declared.info.Info.TheVariants.{Nothing, Sym}
use Rattle.prop_lattice.specs.declared.info.Kind.{Kind}
use Rattle.prop_lattice.specs.declared.info.Kind.TheVariants.{Span}
use Rattle.prop_refusals.specs.declared.refusal.Refusal.{Refusal}
use Rattle.prop_refusals.specs.declared.refusal.Refusal.TheVariants.{WrongKind}
use Rattle.prop_procedures.specs.declared.shape.Kinded.{Kinded}
use Rattle.prop_vocabulary.specs.Cells.{CellNames}
use Rattle.prop_texts.specs.Texts.{support_text}
use Rattle.prop_workbench.specs.Machine.{State, new_state}
use Rattle.prop_workbench.specs.inner.Machine.{text_at}
use Rattle.prop_solve.specs.declared.question.Goal.{Goal}
use Rattle.prop_solve.specs.declared.question.Goal.TheVariants.{Least, Greatest}
use Rattle.prop_seeking.specs.Texts.{Plan, plan_text, value_text}

-- an information as it is told; the symbol that stands for any that nobody named tells nothing
abbrev pub seen : Info → Info
seen (Sym n) = if nat_eq n (2 ^ 32 - 1) then Nothing else Sym n
seen a = a

-- each line behind a line feed
abbrev pub lines_text : List (List ℕ) → List ℕ
lines_text lines = flat_map (λ line. 10 ∷ line) lines

-- lines of a plan behind a first one, which says how many follow and what the mark says
abbrev pub counted_text : List ℕ → List (List ℕ) → List ℕ
counted_text mark lines =
    codes "plan " ++ (decimal (length lines) ++ (mark ++ lines_text lines))

-- lines that tell a step behind a first one, which says how many follow
abbrev pub step_text : List (List ℕ) → List ℕ
step_text lines = codes "step " ++ (decimal (length lines) ++ lines_text lines)

-- the bound than which no other plan is better
abbrev pub bound_text : State → ℕ → Info → List ℕ
bound_text s cell a = codes "bound " ++ text_at s cell a

-- the word for a least or a greatest number, and the plan's number
abbrev pub end_text : State → Goal → Plan → List ℕ
end_text s (Least cell) p = codes "least " ++ value_text s p cell
end_text s (Greatest cell) p = codes "greatest " ++ value_text s p cell
end_text s goal p = []

-- the best plan, behind its number and the premises by which none is better
abbrev pub best_text : State → Goal → Plan → List ℕ → List ℕ
best_text s goal p by = end_text s goal p ++ (codes "\nbecause"
    ++ (support_text s.premises by ++ (codes "\n" ++ plan_text s [] p)))

-- the best plan so far, behind a bound than which none is better and the premises by which that is
-- so
abbrev pub bounded_text : State → ℕ → Info → Plan → List ℕ → List ℕ
bounded_text s cell a p by = bound_text s cell a ++ (codes "\nbecause"
    ++ (support_text s.premises by ++ (codes "\n" ++ plan_text s (codes " unsettled") p)))

-- what is known of other plans: that these premises refute them, or nothing
abbrev pub others_text : State → Option (List ℕ) → List ℕ
others_text s by = option_map_or (λ others. codes "others none:"
    ++ support_text s.premises others) by (codes "others unknown")

-- why no least or greatest number can be asked for of a cell of this kind, where none can
abbrev pub no_number : Kind → Option Refusal
no_number Span = None
no_number kind = Some WrongKind

-- a state in which cells of these kinds have these names
abbrev pub named_so : CellNames → List Kinded → State
named_so names kinds = record (new_state 0) { names = names; kinds = kinds }
