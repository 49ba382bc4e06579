-- How tightly operators bind.
use Rattle.std.specs.Prelude.{ℕ, suc, cond, ◌==◌, ◌||◌}
use Rattle.prop_terms.specs.declared.operators.Prefix.{Prefix}
use Rattle.prop_terms.specs.declared.operators.Prefix.TheVariants.{Negated, Not, If}
use Rattle.prop_terms.specs.declared.operators.Infix.{Infix}
use Rattle.prop_terms.specs.declared.operators.Infix.TheVariants.{Semicolon, Comma, Beside, Colon}
use Rattle.prop_terms.specs.declared.operators.Infix.TheVariants.{Then, Else, Iff, Implies, Xor, Or}
use Rattle.prop_terms.specs.declared.operators.Infix.TheVariants.{And, Equal, Unequal, Less, AtMost}
use Rattle.prop_terms.specs.declared.operators.Infix.TheVariants.{Greater, AtLeast, In, UpTo, Plus}
use Rattle.prop_terms.specs.declared.operators.Infix.TheVariants.{Minus, Times, Over, Remainder}
use Rattle.prop_terms.specs.declared.operators.Infix.TheVariants.{Power}

-- on which side of an operator one of its own level may stand without brackets
pub data Side : Type 0 where
  OnTheLeft OnTheRight OnNeither : Side

-- the level of what stands between two terms: the higher, the tighter
abbrev pub level_of : Infix → ℕ
level_of Semicolon = 1
level_of Comma = 2
level_of Beside = 2
level_of Colon = 3
level_of Then = 4
level_of Else = 4
level_of Iff = 5
level_of Implies = 6
level_of Xor = 7
level_of Or = 8
level_of And = 9
level_of Equal = 11
level_of Unequal = 11
level_of Less = 11
level_of AtMost = 11
level_of Greater = 11
level_of AtLeast = 11
level_of In = 11
level_of UpTo = 12
level_of Plus = 13
level_of Minus = 13
level_of Times = 14
level_of Over = 14
level_of Remainder = 14
level_of Power = 16

-- the level of what stands before a term; behind a function stand brackets
abbrev pub strength_of : Prefix → ℕ
strength_of If = 4
strength_of Not = 10
strength_of Negated = 15
strength_of op = 17

-- the level of a number and a name
abbrev pub leaf_level : ℕ
leaf_level = 17

-- the level of what stands in brackets
abbrev pub bracket_level : ℕ
bracket_level = 18

-- Signs and words before a term may stand behind each other, `if`, `then`, `else` and `implies` go
-- to the right, and rows, comparisons, ranges and powers to neither side.
abbrev pub side_at : ℕ → Side
side_at l = cond ((l == 4) || (l == 6) || (l == 10) || (l == 15)) OnTheRight
    (cond ((l == 3) || (l == 11) || (l == 12) || (l == 16)) OnNeither OnTheLeft)

-- the least level of what stands to the left of an operator, by its side and level
abbrev pub left_by : Side → ℕ → ℕ
left_by OnTheLeft l = l
left_by side l = suc l

-- the least level of what stands to the right
abbrev pub right_by : Side → ℕ → ℕ
right_by OnTheRight l = l
right_by side l = suc l

abbrev pub left_at : ℕ → ℕ
left_at l = left_by (side_at l) l

abbrev pub right_at : ℕ → ℕ
right_at l = right_by (side_at l) l
