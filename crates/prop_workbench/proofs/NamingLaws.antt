-- Which contradictions were named bears on nothing but the list of nogoods.
use Rattle.std.proofs.Common.{◌≡◌, ◌∙◌, List, [], ℕ, Option, Some, None, refl, sym, ap}
use Rattle.prop_procedures.specs.Stored.{Stored}
use Rattle.prop_language.specs.Commands as commands
use Rattle.prop_language.specs.Commands.{Command}
use Rattle.prop_workbench.specs.Machine.{State}
use Rattle.prop_workbench.specs.inner.Machine.{naming}
use Rattle.prop_workbench.specs.Refusing.{refusal_of}
use Rattle.prop_workbench.specs.Effects.{effect}
use Rattle.prop_workbench.specs.inner.Effects.{named_after, forgotten_in, without_named}
use Rattle.prop_workbench.specs.Agreeing.{AreAlike}

pub refusal_naming : (library : List Stored) (s : State) (named : List (List ℕ)) (command : Command)
    → refusal_of library (naming s named) command ≡ refusal_of library s command
refusal_naming library s named (commands.Command.Domain name elements) = refl
refusal_naming library s named (commands.Command.Relation name from to pairs) = refl
refusal_naming library s named (commands.Command.Cell name kind) = refl
refusal_naming library s named (commands.Command.Define name params body) = refl
refusal_naming library s named (commands.Command.Attach name cells by) = refl
refusal_naming library s named (commands.Command.Fix cell value) = refl
refusal_naming library s named (commands.Command.Tell premise cell value) = refl
refusal_naming library s named (commands.Command.Choose name cell values) = refl
refusal_naming library s named (commands.Command.Kick premise) = refl
refusal_naming library s named (commands.Command.Bring premise) = refl
refusal_naming library s named (commands.Command.Forget premise) = refl
refusal_naming library s named (commands.Command.Limit n) = refl
refusal_naming library s named commands.Command.Settle = refl
refusal_naming library s named (commands.Command.Ask x) = refl
refusal_naming library s named (commands.Command.Why x) = refl
refusal_naming library s named (commands.Command.Core x) = refl
refusal_naming library s named commands.Command.Worldview = refl
refusal_naming library s named commands.Command.Nogoods = refl

pub effect_naming : (library : List Stored) (s : State) (named : List (List ℕ)) (command : Command)
    → effect library (naming s named) command ≡ naming (effect library s command) (named_after s command named)
effect_naming library s named (commands.Command.Domain name elements) = refl
effect_naming library s named (commands.Command.Relation name from to pairs) = refl
effect_naming library s named (commands.Command.Cell name kind) = refl
effect_naming library s named (commands.Command.Define name params body) = refl
effect_naming library s named (commands.Command.Attach name cells by) = refl
effect_naming library s named (commands.Command.Fix cell value) = refl
effect_naming library s named (commands.Command.Tell premise cell value) = refl
effect_naming library s named (commands.Command.Choose name cell values) = refl
effect_naming library s named (commands.Command.Kick premise) = refl
effect_naming library s named (commands.Command.Bring premise) = refl
effect_naming library s named (commands.Command.Forget premise) = refl
effect_naming library s named (commands.Command.Limit n) = refl
effect_naming library s named commands.Command.Settle = refl
effect_naming library s named (commands.Command.Ask x) = refl
effect_naming library s named (commands.Command.Why x) = refl
effect_naming library s named (commands.Command.Core x) = refl
effect_naming library s named commands.Command.Worldview = refl
effect_naming library s named commands.Command.Nogoods = refl

-- alike states refuse the same, and go on to alike states
pub refusal_alike : (library : List Stored) (s t : State) (command : Command) → AreAlike s t
    → refusal_of library t command ≡ refusal_of library s command
refusal_alike library s t command e = sym (refusal_naming library t [] command)
    ∙ ap (λ u. refusal_of library u command) e ∙ refusal_naming library s [] command

none_after : (s : State) (command : Command) → named_after s command [] ≡ []
none_after s command = by (forgotten_in s command)
  where
    by : (o : Option ℕ) → without_named o [] ≡ []
    by None = refl
    by (Some p) = refl

pub effect_alike : (library : List Stored) (s t : State) (command : Command) → AreAlike s t
    → AreAlike (effect library s command) (effect library t command)
effect_alike library s t command e = sym (nothing_named t) ∙ ap (λ u. effect library u command) e ∙ nothing_named s
  where
    nothing_named : (u : State) → effect library (naming u []) command ≡ naming (effect library u command) []
    nothing_named u = effect_naming library u [] command
        ∙ ap (λ named. naming (effect library u command) named) (none_after u command)
