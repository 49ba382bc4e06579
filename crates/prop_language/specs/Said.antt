-- Commands without where their words lie in memory.
use Rattle.std.specs.Prelude.{◌≡◌, ◌⊎◌, map, List, ◌∷◌, ℕ, codes, Contains, Option, Some, None}
use Rattle.std.specs.Prelude.{Result, Ok, Err}
use Rattle.std.specs.Borrow.{Bor}
use Rattle.prop_refusals.specs.declared.refusal.Refusal.{Refusal}
use Rattle.prop_refusals.specs.declared.refusal.Refusal.TheVariants.{Memory}
use Rattle.prop_language.specs.Tokens.{Token, Word, Open}
use Rattle.prop_language.specs.Commands as commands
use Rattle.prop_language.specs.declared.command.Value.{Value}
use Rattle.prop_language.specs.declared.command.Value.TheVariants.{Bare, Braces}
use Rattle.prop_language.specs.declared.command.KindWord.{KindWord}
use Rattle.prop_language.specs.declared.command.KindWord.TheVariants.{Spans, Truths, Symbols, Named}
use Rattle.prop_language.specs.declared.command.By.{By}
use Rattle.prop_language.specs.declared.command.By.TheVariants as bys
use Rattle.prop_language.specs.declared.command.Passed.{Passed}
use Rattle.prop_language.specs.declared.command.Passed.TheVariants as passeds
use Rattle.prop_language.specs.declared.command.Step.{Step}
use Rattle.prop_language.specs.declared.command.Step.TheVariants as steps
use Rattle.prop_language.specs.declared.command.Command.{Command}
use Rattle.prop_language.specs.declared.command.Command.TheVariants.{Silent, Domain, Relation, Cell}
use Rattle.prop_language.specs.declared.command.Command.TheVariants.{Define, Attach, Fix, Tell}
use Rattle.prop_language.specs.declared.command.Command.TheVariants.{Choose, Kick, Bring, Forget}
use Rattle.prop_language.specs.declared.command.Command.TheVariants.{Limit, Settle, Ask, Why, Core}
use Rattle.prop_language.specs.declared.command.Command.TheVariants.{Worldview, Nogoods}

abbrev pub words : List (Bor (List ℕ)) → List (List ℕ)
words items = map (λ (w : Bor (List ℕ)). w.now) items

abbrev pub pairs_of : List (Bor (List ℕ) × Bor (List ℕ)) → List (List ℕ × List ℕ)
pairs_of items = map (λ (p : Bor (List ℕ) × Bor (List ℕ)). (p.0.now, p.1.now)) items

abbrev pub value_of : Value → commands.Value
value_of (Bare word) = commands.Bare word.now
value_of (Braces items) = commands.Braces (words items.items)

abbrev pub kind_of : KindWord → commands.KindWord
kind_of Spans = commands.Spans
kind_of Truths = commands.Truths
kind_of Symbols = commands.Symbols
kind_of (Named name) = commands.Named name.now

abbrev pub by_of : By → commands.By
by_of bys.Nothing = commands.By.Nothing
by_of (bys.Number k) = commands.By.Number (Some k)
by_of (bys.Relation name) = commands.By.Relation name.now

abbrev pub passed_of : Passed → commands.Passed
passed_of (passeds.Said by) = commands.Passed.Said (by_of by)
passed_of passeds.Own = commands.Passed.Own

abbrev pub step_of : Step → commands.Step
step_of (steps.Local name kind) = commands.Step.Local name.now (kind_of kind)
step_of (steps.Like name like) = commands.Step.Like name.now like.now
step_of (steps.Use name cells passed) =
    commands.Step.Use name.now (words cells.items) (passed_of passed)

-- what the command says, None where it is silent
abbrev pub said : Command → Option commands.Command
said Silent = None
said (Domain name elements) = Some (commands.Command.Domain name.now (words elements.items))
said (Relation name d e pairs) =
    Some (commands.Command.Relation name.now d.now e.now (pairs_of pairs.items))
said (Cell name kind) = Some (commands.Command.Cell name.now (kind_of kind))
said (Define name params steps) =
    Some (commands.Command.Define name.now (words params.items) (map step_of steps.items))
said (Attach name cells by) = Some (commands.Command.Attach name.now (words cells.items) (by_of by))
said (Fix cell value) = Some (commands.Command.Fix cell.now (value_of value))
said (Tell premise cell value) = Some (commands.Command.Tell premise.now cell.now (value_of value))
said (Choose name cell values) =
    Some (commands.Command.Choose name.now cell.now (map value_of values.items))
said (Kick premise) = Some (commands.Command.Kick premise.now)
said (Bring premise) = Some (commands.Command.Bring premise.now)
said (Forget premise) = Some (commands.Command.Forget premise.now)
said (Limit steps) = Some (commands.Command.Limit (Some steps))
said Settle = Some commands.Command.Settle
said (Ask cell) = Some (commands.Command.Ask cell.now)
said (Why cell) = Some (commands.Command.Why cell.now)
said (Core cell) = Some (commands.Command.Core cell.now)
said Worldview = Some commands.Command.Worldview
said Nogoods = Some commands.Command.Nogoods

-- What a reader answers is what the grammar reads, and a refusal is the grammar's, unless memory
-- runs out.
abbrev pub Reads : Result Command Refusal → (Result (Option commands.Command) Refusal → Type 0)
    → Type 0
Reads (Ok command) IsRead = IsRead (Ok (said command))
Reads (Err refusal) IsRead = (refusal ≡ Memory) ⊎ IsRead (Err refusal)

-- The command keeps a list: its elements, pairs, parameters, cells or values, or the words in
-- braces. For another line there is no want of memory.
abbrev pub KeepsWords : List Token → Type 0
KeepsWords (Word w ∷ ts) =
    (w ≡ codes "domain") ⊎ ((w ≡ codes "relation")
    ⊎ ((w ≡ codes "define") ⊎ ((w ≡ codes "attach")
    ⊎ ((w ≡ codes "choose") ⊎ (((w ≡ codes "fix") ⊎ (w ≡ codes "tell")) × Contains ts Open)))))
KeepsWords ts = ⊥
