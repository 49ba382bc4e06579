-- What the option reader's answers say of the words.
use Rattle.std.proofs.Common.{◌≡◌, ◌⊎◌, ℕ, List, true, inl, inr, sym, subst, ◌∙◌, ap}
use Rattle.std.specs.Prelude.{Result, Ok, Err, IfErr}
use Rattle.clap.specs.Words.{App, HasMatchesOf, takes, kind_of}
use Rattle.clap.specs.declared.parser.matches.ArgMatches.{ArgMatches}
use Rattle.clap.specs.declared.error.Error.{Error}
use Rattle.clap.specs.declared.error.kind.ErrorKind.TheVariants.{OutOfMemory}
use Rattle.prop_program.specs.Program.{program, AreTaken, AreOutOfRange, IsWantOfMemory}

pub passes_of : (a : App) (name : List ℕ) (words : List (List ℕ)) (e : Error) → a ≡ program name
    → (takes a words ≡ true → kind_of e ≡ OutOfMemory) → AreTaken name words → IsWantOfMemory e
passes_of a name words e p h t = h (subst (λ (b : App). takes b words ≡ true) (sym p) t.taken)

pub refused_by : {T : Type 0} (r : Result T Error) (name : List ℕ) (words : List (List ℕ)) (e x : Error) → r ≡ Err x
    → x ≡ e → (AreTaken name words → IsWantOfMemory e)
    → IfErr r (λ e. AreTaken name words → IsWantOfMemory e ⊎ AreOutOfRange name words)
refused_by {T = T} r name words e x p q h =
    subst (λ (s : Result T Error). IfErr s (λ e. AreTaken name words → IsWantOfMemory e ⊎ AreOutOfRange name words))
    (sym (p ∙ ap Err q)) (λ t. inl (h t))

pub matches_of_program : (a : App) (name : List ℕ) (words : List (List ℕ)) (m : ArgMatches) → a ≡ program name
    → HasMatchesOf a words m → HasMatchesOf (program name) words m
matches_of_program a name words m p h = subst (λ (b : App). HasMatchesOf b words m) p h

-- where a value is not of its range, each error tells it
pub out_of_range : {T : Type 0} (r : Result T Error) (name : List ℕ) (words : List (List ℕ)) → AreOutOfRange name words
    → IfErr r (λ e. AreTaken name words → IsWantOfMemory e ⊎ AreOutOfRange name words)
out_of_range (Ok x) name words h = tt
out_of_range (Err e) name words h = λ t. inr h
