-- What a program does by words that give no options.
use Rattle.std.proofs.Common.{◌≡◌, ◌∙◌, ℕ, List, inl, inr, refl, sym, Bool, false}
use Rattle.std.specs.Prelude.{Option, Some, Result, ◌≢◌, IsTrue}
use Rattle.std.proofs.lemmas.Bool.{false≢true}
use Rattle.clap.specs.declared.error.kind.ErrorKind.{ErrorKind}
use Rattle.clap.specs.declared.error.kind.ErrorKind.TheVariants as kinds
use Rattle.prop_engine.specs.Calls.{Call, Leads}
use Rattle.prop_engine.specs.Dialogues.{IsSent, IsCut}
use Rattle.prop_program.specs.Program.{AreGiven, IsReason}
use Rattle.prop_program.specs.Running.{Does, Declines, status_after, IsForText, AskForText, AreNoOptions}
use Rattle.prop_engine.specs.declared.outcome.Counts.{Counts}
use Rattle.prop_program.specs.declared.chosen.Options.{Options}
use Rattle.prop_program.specs.declared.fault.Fault.{Fault}
use Rattle.prop_program.specs.Running.Does.{served, told, untold, refused, no_text, no_memory}

-- the test of the other device failed
pub not_used : (b : Bool) → b ≡ false → IsTrue b → ⊥
not_used b e t = false≢true (sym e ∙ t)

-- an error that doesn't go to the other device is a text that was asked for
pub for_text : (kind : ErrorKind) → (((kind ≢ kinds.DisplayHelp) × (kind ≢ kinds.DisplayVersion)) → ⊥) → IsForText kind
for_text kinds.DisplayHelp h = inl refl
for_text kinds.DisplayVersion h = inr refl
for_text kinds.InvalidValue h = absurd (h ((λ e. cc), (λ e. cc)))
for_text kinds.UnknownArgument h = absurd (h ((λ e. cc), (λ e. cc)))
for_text kinds.InvalidSubcommand h = absurd (h ((λ e. cc), (λ e. cc)))
for_text kinds.NoEquals h = absurd (h ((λ e. cc), (λ e. cc)))
for_text kinds.ValueValidation h = absurd (h ((λ e. cc), (λ e. cc)))
for_text kinds.TooManyValues h = absurd (h ((λ e. cc), (λ e. cc)))
for_text kinds.TooFewValues h = absurd (h ((λ e. cc), (λ e. cc)))
for_text kinds.WrongNumberOfValues h = absurd (h ((λ e. cc), (λ e. cc)))
for_text kinds.ArgumentConflict h = absurd (h ((λ e. cc), (λ e. cc)))
for_text kinds.MissingRequiredArgument h = absurd (h ((λ e. cc), (λ e. cc)))
for_text kinds.MissingSubcommand h = absurd (h ((λ e. cc), (λ e. cc)))
for_text kinds.DisplayHelpOnMissingArgumentOrSubcommand h = absurd (h ((λ e. cc), (λ e. cc)))
for_text kinds.Io h = absurd (h ((λ e. cc), (λ e. cc)))
for_text kinds.Format h = absurd (h ((λ e. cc), (λ e. cc)))
for_text kinds.OutOfMemory h = absurd (h ((λ e. cc), (λ e. cc)))

-- and one that does is none
pub is_no_text : (kind : ErrorKind) → ((kind ≢ kinds.DisplayHelp) × (kind ≢ kinds.DisplayVersion)) → IsForText kind → ⊥
is_no_text kind h (inl e) = h.0 e
is_no_text kind h (inr e) = h.1 e

validation_asks_nothing : (kind : ErrorKind) → kind ≡ kinds.ValueValidation → IsForText kind → ⊥
validation_asks_nothing kind e (inl f) = let g : kinds.ValueValidation ≡ kinds.DisplayHelp = sym e ∙ f in cc
validation_asks_nothing kind e (inr f) = let g : kinds.ValueValidation ≡ kinds.DisplayVersion = sym e ∙ f in cc

memory_asks_nothing : (kind : ErrorKind) → kind ≡ kinds.OutOfMemory → IsForText kind → ⊥
memory_asks_nothing kind e (inl f) = let g : kinds.OutOfMemory ≡ kinds.DisplayHelp = sym e ∙ f in cc
memory_asks_nothing kind e (inr f) = let g : kinds.OutOfMemory ≡ kinds.DisplayVersion = sym e ∙ f in cc

pub asks : (name : List ℕ) (words : List (List ℕ)) (kind : ErrorKind) → IsReason name words kind → IsForText kind
    → AskForText name words
asks name words kind (inl e) t = absurd (memory_asks_nothing kind e t)
asks name words kind (inr (inl among)) t = (kind, t, among)
asks name words kind (inr (inr (e, out))) t = absurd (validation_asks_nothing kind e t)

pub are_none : (name : List ℕ) (words : List (List ℕ)) (kind : ErrorKind) → IsReason name words kind
    → (kind ≡ kinds.OutOfMemory → ⊥) → (IsForText kind → ⊥) → AreNoOptions name words
are_none name words kind (inl e) m t = absurd (m e)
are_none name words kind (inr (inl among)) m t = inl (kind, t, among)
are_none name words kind (inr (inr (e, out))) m t = inr out

module _ {D : Type 0} (may : D → Call → D → Type 0) (name : List ℕ) (given : List (List ℕ)) (kind : ErrorKind)
    (reason : IsReason name given kind) where
  pub declines_words : (d : D) → (kind ≡ kinds.OutOfMemory → ⊥) → (IsForText kind → ⊥)
      → Declines name (Some given) may d d 1
  declines_words d m t = refused given refl (are_none name given kind reason m t) refl refl

  pub declines_told : (a b : D) (text : List ℕ) → IsForText kind → (calls : List Call) → Leads may a calls b
      → IsSent text calls → Declines name (Some given) may a b 0
  declines_told a b text t calls l s = told given text calls refl (asks name given kind reason t) l s refl

  pub declines_untold : (a b : D) (text : List ℕ) (status : ℕ) → IsForText kind → (calls : List Call)
      → Leads may a calls b
      → IsCut text calls → status ≡ 2 → Declines name (Some given) may a b status
  declines_untold a b text status t calls l s e = untold given text calls refl (asks name given kind reason t) l s e

-- ---- a program

module _ {D : Type 0} (name : List ℕ) (words : Option (List (List ℕ))) (may : D → Call → D → Type 0)
    (serves : Options → Result Counts Fault → Type 0) (from to : D) (status ended : ℕ) (same : ended ≡ status) where
  -- where there are no options, whatever it would do by them
  pub declines_does : Declines name words may from to status → Does name words may serves from to ended
  declines_does (served given options result e g s f) = absurd s
  declines_does (told given text calls e a l s f) = told given text calls e a l s (same ∙ f)
  declines_does (untold given text calls e a l s f) = untold given text calls e a l s (same ∙ f)
  declines_does (refused given e n s f) = refused given e n s (same ∙ f)
  declines_does (no_text e s f) = no_text e s (same ∙ f)
  declines_does (no_memory s f) = no_memory s (same ∙ f)

-- and where there are
pub served_does : {D : Type 0} (name : List ℕ) (words : Option (List (List ℕ))) (may : D → Call → D → Type 0)
    (serves : Options → Result Counts Fault → Type 0) (from to : D) (options : Options) (end : Result Counts Fault)
    (ended : ℕ) → ((given : List (List ℕ)) × (words ≡ Some given) × AreGiven name given options) → serves options end
    → ended ≡ status_after end → Does name words may serves from to ended
served_does name words may serves from to options end ended (given, e, g) s f = served given options end e g s f
