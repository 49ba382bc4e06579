-- Which terms may stand where.
use Rattle.std.specs.Prelude.{Bool, true, false, cond, ◌&&◌, Option, Some, None}
use Rattle.prop_terms.specs.declared.operators.Prefix.{Prefix}
use Rattle.prop_terms.specs.declared.operators.Prefix.TheVariants.{Negated, Not, If, Abs, Max, Min}
use Rattle.prop_terms.specs.declared.operators.Prefix.TheVariants.{Sum, Count, Different, Element}
use Rattle.prop_terms.specs.declared.operators.Infix.{Infix}
use Rattle.prop_terms.specs.declared.operators.Infix.TheVariants.{Semicolon, Comma, Beside, Colon}
use Rattle.prop_terms.specs.declared.operators.Infix.TheVariants.{Then, Else, Iff, Implies, Xor, Or}
use Rattle.prop_terms.specs.declared.operators.Infix.TheVariants.{And, Equal, Unequal, Less, AtMost}
use Rattle.prop_terms.specs.declared.operators.Infix.TheVariants.{Greater, AtLeast, In, UpTo, Plus}
use Rattle.prop_terms.specs.declared.operators.Infix.TheVariants.{Minus, Times, Over, Remainder}
use Rattle.prop_terms.specs.declared.operators.Infix.TheVariants.{Power}
use Rattle.prop_terms.specs.declared.forming.Sort.{Sort}
use Rattle.prop_terms.specs.declared.forming.Sort.TheVariants as sort
use Rattle.prop_terms.specs.declared.forming.Place.{Place}
use Rattle.prop_terms.specs.declared.forming.Place.TheVariants.{Single, List, Choice, Ways, Lookup}
use Rattle.prop_terms.specs.declared.forming.Place.TheVariants.{Rows, Row, Range, Words, Label}
use Rattle.prop_terms.specs.declared.forming.Place.TheVariants.{Exponent}
use Rattle.prop_terms.specs.Terms.{Term, Number, Name, One, Two, Braces}

-- a place of the first sort takes what is of the other
abbrev pub admits : Sort → Sort → Bool
admits sort.Any other = true
admits sort.Number sort.Number = true
admits sort.Truth sort.Truth = true
admits s other = false

abbrev pub if_admits : {P : Type 0} → Sort → Sort → P → Option P
if_admits s other p = cond (admits s other) (Some p) None

-- what is to stand behind an operator that is worth this
abbrev pub operand : Sort → Prefix → Option Place
operand s If = Some (Choice s)
operand s Element = Some (Lookup s)
operand s Negated = if_admits s sort.Number (Single sort.Number)
operand s Abs = if_admits s sort.Number (Single sort.Number)
operand s Max = if_admits s sort.Number (List sort.Number)
operand s Min = if_admits s sort.Number (List sort.Number)
operand s Sum = if_admits s sort.Number (List sort.Number)
operand s Count = if_admits s sort.Number (List sort.Truth)
operand s Not = if_admits s sort.Truth (Single sort.Truth)
operand s Different = if_admits s sort.Truth (List sort.Any)

-- what is to stand behind an operator, where that may stand in the place
abbrev pub below : Place → Prefix → Option Place
below (Single s) op = operand s op
below (List s) op = operand s op
below Words Negated = Some Label
below Label Negated = Some Label
below place op = None

abbrev pub both : Sort → Sort → Option (Place × Place)
both s other = if_admits s other (Single other, Single other)

-- what is to stand on both sides of an operator that is worth this
abbrev pub operands : Sort → Infix → Option (Place × Place)
operands s Plus = both s sort.Number
operands s Minus = both s sort.Number
operands s Times = both s sort.Number
operands s Over = both s sort.Number
operands s Remainder = both s sort.Number
operands s Power = if_admits s sort.Number (Single sort.Number, Exponent)
operands s Equal = if_admits s sort.Truth (Single sort.Any, Single sort.Any)
operands s Unequal = if_admits s sort.Truth (Single sort.Any, Single sort.Any)
operands s Less = if_admits s sort.Truth (Single sort.Number, Single sort.Number)
operands s AtMost = if_admits s sort.Truth (Single sort.Number, Single sort.Number)
operands s Greater = if_admits s sort.Truth (Single sort.Number, Single sort.Number)
operands s AtLeast = if_admits s sort.Truth (Single sort.Number, Single sort.Number)
operands s In = if_admits s sort.Truth (List sort.Any, Range)
operands s And = both s sort.Truth
operands s Or = both s sort.Truth
operands s Xor = both s sort.Truth
operands s Implies = both s sort.Truth
operands s Iff = both s sort.Truth
operands s op = None

-- what is to stand on both sides of an operator, where that may stand in the place
abbrev pub sides : Place → Infix → Option (Place × Place)
sides (Single s) op = operands s op
sides (List s) Comma = Some (List s, Single s)
sides (List s) op = operands s op
sides (Choice s) Then = Some (Single sort.Truth, Ways s)
sides (Ways s) Else = Some (Single s, Single s)
sides (Lookup s) Semicolon = Some (Single sort.Any, Rows s)
sides (Rows s) Comma = Some (Rows s, Row s)
sides (Rows s) Colon = Some (Label, Single s)
sides (Row s) Colon = Some (Label, Single s)
sides Range UpTo = Some (Single sort.Number, Single sort.Number)
sides Words Beside = Some (Words, Label)
sides Words Comma = Some (Words, Label)
sides place op = None

abbrev pub fits_number : Place → Bool
fits_number (Single s) = admits s sort.Number
fits_number (List s) = admits s sort.Number
fits_number Words = true
fits_number Label = true
fits_number Exponent = true
fits_number place = false

abbrev pub fits_name : Place → Bool
fits_name (Single s) = true
fits_name (List s) = true
fits_name Range = true
fits_name Words = true
fits_name Label = true
fits_name place = false

-- the term may stand in the place
abbrev pub is_formed : Term → Place → Bool
is_formed (Number n) place = fits_number place
is_formed (Name w) place = fits_name place
is_formed (One op t) place = elim (below place op) [ None ↦ false | Some p ↦ is_formed t p ]
is_formed (Two op t u) place = elim (sides place op)
    [ None ↦ false | Some ps ↦ is_formed t ps.0 && is_formed u ps.1 ]
is_formed (Braces t) Range = is_formed t Words
is_formed (Braces t) place = false
