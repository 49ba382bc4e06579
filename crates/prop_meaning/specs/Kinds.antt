-- The kind of a term, as far as its words show it.
use Rattle.std.specs.Prelude.{Option, Some, None}
use Rattle.std.specs.Option.{option_map, option_or}
use Rattle.prop_lattice.specs.declared.info.Kind.TheVariants as kinds
use Rattle.prop_procedures.specs.declared.shape.Kinded.{Kinded}
use Rattle.prop_terms.specs.Terms.{Term, Number, Name, One, Two, Braces}
use Rattle.prop_terms.specs.declared.operators.Prefix.TheVariants as before
use Rattle.prop_terms.specs.declared.operators.Infix.{Infix}
use Rattle.prop_terms.specs.declared.operators.Infix.TheVariants.{Then, Else, Plus, Minus, Times}
use Rattle.prop_terms.specs.declared.operators.Infix.TheVariants.{Over, Remainder, Power, Iff, Xor}
use Rattle.prop_terms.specs.declared.operators.Infix.TheVariants.{Implies, Or, And, Equal, Unequal}
use Rattle.prop_terms.specs.declared.operators.Infix.TheVariants.{Less, AtMost, Greater, AtLeast}
use Rattle.prop_terms.specs.declared.operators.Infix.TheVariants.{In, Semicolon, Comma, Colon}
use Rattle.prop_meaning.specs.Words.{Lexicon}

abbrev pub a_number : Option Kinded
a_number = Some (record { kind = kinds.Span; size = 0 })

abbrev pub a_truth : Option Kinded
a_truth = Some (record { kind = kinds.Set 0; size = 2 })

abbrev pub made_kind : Infix → Option Kinded
made_kind Plus = a_number
made_kind Minus = a_number
made_kind Times = a_number
made_kind Over = a_number
made_kind Remainder = a_number
made_kind Power = a_number
made_kind Iff = a_truth
made_kind Implies = a_truth
made_kind Xor = a_truth
made_kind Or = a_truth
made_kind And = a_truth
made_kind Equal = a_truth
made_kind Unequal = a_truth
made_kind Less = a_truth
made_kind AtMost = a_truth
made_kind Greater = a_truth
made_kind AtLeast = a_truth
made_kind In = a_truth
made_kind op = None

-- A name shows the kind of the given cell that it names, and nothing shows of another word. A
-- choice shows the kind of a branch, a table that of what is behind a label, and a list that of one
-- of its terms: of the first that shows one.
abbrev pub kind_shown : Lexicon → Term → Option Kinded
kind_shown lexicon (Number n) = a_number
kind_shown lexicon (Name w) = option_map (λ i. (lexicon.known i).kinded) (lexicon.cell w)
kind_shown lexicon (One before.Not t) = a_truth
kind_shown lexicon (One before.Different t) = a_truth
kind_shown lexicon (One before.If t) = kind_shown lexicon t
kind_shown lexicon (One before.Element t) = kind_shown lexicon t
kind_shown lexicon (One op t) = a_number
kind_shown lexicon (Two Then t u) = kind_shown lexicon u
kind_shown lexicon (Two Semicolon t u) = kind_shown lexicon u
kind_shown lexicon (Two Colon t u) = kind_shown lexicon u
kind_shown lexicon (Two Comma t u) = option_or (kind_shown lexicon t) (kind_shown lexicon u)
kind_shown lexicon (Two Else t u) = option_or (kind_shown lexicon t) (kind_shown lexicon u)
kind_shown lexicon (Two op t u) = made_kind op
kind_shown lexicon (Braces t) = None
