-- What a command that isn't refused does to the state, as the methods of a session do it.
use Rattle.std.specs.Prelude.{◌≡◌, ℕ, suc, false, IsTrue, List, [], ◌∷◌, ◌++◌, length, Option, Some}
use Rattle.std.specs.Prelude.{None, ⊤, map, drop}
use Rattle.std.specs.Borrow.{Bor}
use Rattle.std.specs.Option.{option_map, option_map_or}
use Rattle.prop_lattice.specs.declared.info.Info.{Info}
use Rattle.prop_lattice.specs.declared.info.Info.TheVariants.{Sym}
use Rattle.prop_lattice.specs.declared.info.Kind.TheVariants as kinds
use Rattle.prop_procedures.specs.declared.shape.Kinded.{Kinded}
use Rattle.prop_language.specs.Commands.{Value, Command}
use Rattle.prop_vocabulary.specs.Values.{Meant, Known, Name}
use Rattle.prop_vocabulary.specs.Vocabulary.{Vocabulary, symbol_number}
use Rattle.prop_premises.specs.Origins.{Origin, premise_number, is_choice, with_name, with_choice}
use Rattle.prop_nogoods.specs.Stores.{lacking}
use Rattle.prop_cells.specs.Refusing.{may_be_stated}
use Rattle.prop_cells.specs.declared.instance.Statement.{Statement}
use Rattle.prop_cells.specs.Forgetting.{not_under}
use Rattle.prop_workbench.specs.declared.stating.Under.{Under}
use Rattle.prop_workbench.specs.declared.stating.Under.TheVariants.{Nothing, Known as Found, New}
use Rattle.prop_workbench.specs.Machine.{State}
use Rattle.prop_workbench.specs.Effects.{number_given, instance_placed}
use Rattle.prop_compound.specs.Expansion.{Walk}
use Rattle.prop_procedures.specs.Stored.{Stored}
use Rattle.prop_workbench.specs.inner.Refusing.{with_meant}

-- the state with the fresh cells and the instances to which a use on these cells expands
abbrev pub with_use : List Stored → State → List ℕ → Walk → State
with_use library s cells e = record s {
  kinds = s.kinds ++ drop (length cells) e.kinds;
  instances = s.instances ++ map (instance_placed library cells (length s.kinds)) e.placed;
}

-- what a value means may be stated at a cell of the kind
abbrev pub MayMean : Kinded → Meant → Type 0
MayMean k (Known info) = IsTrue (may_be_stated k.kind k.size info)
MayMean k (Name symbol) = k.kind ≡ kinds.Symbol

-- the name of a premise, where one is given
abbrev pub name_of : Option (Bor (List ℕ)) → Option (List ℕ)
name_of premise = option_map (λ (name : Bor (List ℕ)). name.now) premise

-- the same name, after it was looked up
abbrev pub name_under : Under → Option (List ℕ)
name_under Nothing = None
name_under (Found name premise) = Some name.now
name_under (New name) = Some name.now

-- the name was looked up rightly: the premise of that number has it, or neither a premise nor a
-- choice has it
abbrev pub IsUnder : List Origin → Under → Type 0
IsUnder premises Nothing = ⊤
IsUnder premises (Found name premise) = premise_number premises name.now ≡ Some premise
IsUnder premises (New name) = (premise_number premises name.now ≡ None)
    × (is_choice premises name.now ≡ false)

-- the command that states the value of the cell: `tell` under a premise, or `fix` without one
abbrev pub stating : Option (List ℕ) → List ℕ → Value → Command
stating None cell value = Command.Fix cell value
stating (Some premise) cell value = Command.Tell premise cell value

-- the premise that the command forgets, where it forgets one
abbrev pub forgotten_in : State → Command → Option ℕ
forgotten_in s (Command.Forget premise) = Some (number_given s.premises premise)
forgotten_in s command = None

-- the named contradictions, without those that hold the premise p where one is given
abbrev pub without_named : Option ℕ → List (List ℕ) → List (List ℕ)
without_named None named = named
without_named (Some p) named = lacking named p

-- what is left of the named contradictions after the command, which may forget a premise
abbrev pub named_after : State → Command → List (List ℕ) → List (List ℕ)
named_after s command named = without_named (forgotten_in s command) named

-- the information that a meaning stands for; a symbol is told by its number, the next one where its
-- name is new
abbrev pub info_meant : Vocabulary → Meant → Info
info_meant words (Known info) = info
info_meant words (Name symbol) = Sym (symbol_number words symbol)

-- the state with one statement more, and with this vocabulary, which may have one symbol more
abbrev pub stated : State → Option (List ℕ) → ℕ → Vocabulary → Info → State
stated s premise cell words info = record s {
  words = words;
  premises = option_map_or (with_name s.premises) premise s.premises;
  statements = s.statements ++ record {
    premise = option_map (number_given s.premises) premise;
    cell = cell;
    info = info;
  } ∷ [];
}

-- A statement for each side of a choice at a cell. The first side is the premise of this number,
-- and each new symbol joins the vocabulary when its turn comes.
abbrev pub sides_stated : Vocabulary → ℕ → ℕ → List Meant → List Statement
sides_stated words side cell [] = []
sides_stated words side cell (meant ∷ more) =
    record { premise = Some side; cell = cell; info = info_meant words meant } ∷ sides_stated
    (with_meant words meant) (suc side) cell more

-- the vocabulary with the symbols that the meanings name
abbrev pub with_meants : Vocabulary → List Meant → Vocabulary
with_meants words [] = words
with_meants words (meant ∷ more) = with_meants (with_meant words meant) more

-- the state with one choice more, between these meanings at a cell: each is stated under its own
-- side
abbrev pub chosen : State → List ℕ → ℕ → List Meant → State
chosen s name cell meants = record s {
  words = with_meants s.words meants;
  premises = with_choice s.premises name (length meants);
  statements = s.statements ++ sides_stated s.words (length s.premises) cell meants;
}

-- the state without the statements under p, and without the named contradictions that hold p
abbrev pub forgetting : State → ℕ → State
forgetting s p = record s { statements = not_under p s.statements; named = lacking s.named p }
