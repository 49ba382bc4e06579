-- Short names for what is read from a state, or changed in it.
use Rattle.std.specs.Prelude.{ℕ, List}
use Rattle.prop_lattice.specs.declared.info.Info.{Info}
use Rattle.prop_numbers.specs.Sets.{Members}
use Rattle.prop_premises.specs.Origins.{believed_in}
use Rattle.prop_procedures.specs.Fitting.{kind_at}
use Rattle.prop_vocabulary.specs.Texts.{value_text}
use Rattle.prop_workbench.specs.Machine.{State}

-- the text of an information, by the kind of the cell of this number
abbrev pub text_at : State → ℕ → Info → List ℕ
text_at s cell v = value_text s.words (kind_at s.kinds cell).kind v

-- the user's premises that are believed
abbrev pub users_in : State → Members
users_in s = believed_in s.premises

-- the state with these contradictions named
abbrev pub naming : State → List (List ℕ) → State
naming s named = record s { named = named }
