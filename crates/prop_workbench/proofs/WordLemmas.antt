-- What a vocabulary that grows keeps.
use Rattle.std.proofs.Common.{◌≡◌, ◌∙◌, ℕ, ◌<◌, List, [], ◌∷◌, ◌++◌, Option, Some, None, All, length, slice_get}
use Rattle.std.proofs.Common.{unwrap_or, rules, refl, sym, ap, arith}
use Rattle.std.proofs.lemmas.List.{length-append}
use Rattle.std.proofs.lemmas.Option.{unwrap_or-slice_get}
use Rattle.std.proofs.Math.ListN.{get_or-append}
use Rattle.std.proofs.lemmas.List.Elements.{All-weaker}
use Rattle.prop_lattice.specs.declared.info.Kind.{Kind}
use Rattle.prop_lattice.specs.declared.info.Kind.TheVariants as kinds
use Rattle.prop_procedures.specs.declared.shape.Kinded.{Kinded}
use Rattle.prop_vocabulary.specs.Vocabulary.{Vocabulary, with_domain}
use Rattle.std.specs.Borrow.{Bor}
use Rattle.prop_language.specs.Commands.{Command}
use Rattle.prop_language.specs.Said.{words}
use Rattle.prop_language.specs.Reading.{IsReading}
use Rattle.std.specs.Prelude.{Ok}
use Rattle.prop_compound.specs.declared.definition.NumberedStep.{NumberedStep}
use Rattle.prop_compound.specs.declared.definition.NumberedStep.TheVariants.{Local, Like, Use}
use Rattle.prop_compound.specs.Definitions.{Definitions}
use Rattle.prop_language.proofs.ReadingLaws.{spelled, choose_counts}
use Rattle.prop_workbench.specs.inner.Sessions.{HasElements}
use Rattle.prop_compound.specs.Kinds.{IsSized, IsLocalOf, AreLocalsOf}

-- what is true of kinds, is true of those of locals
locals_weaker : (P Q : Kinded → Type 0) → ((k : Kinded) → P k → Q k) → (definitions : Definitions)
    → AreLocalsOf P definitions → AreLocalsOf Q definitions
locals_weaker P Q f definitions all =
    All-weaker (λ d. All (IsLocalOf P) d.steps) (λ d. All (IsLocalOf Q) d.steps)
    (λ d h. All-weaker (IsLocalOf P) (IsLocalOf Q) step d.steps h) definitions.definitions all
  where
    step : (x : NumberedStep) → IsLocalOf P x → IsLocalOf Q x
    step (Local kind) h = f kind h
    step (Like place) h = tt
    step (Use used places passing) h = tt

-- a kind keeps its size where the domains are as they were
pub kind_same : (words new : Vocabulary) → new.domains ≡ words.domains → (k : Kinded) → IsSized words k → IsSized new k
kind_same words new e k h = by k.kind k.size h
  where
    by : (kind : Kind) (size : ℕ) → IsSized words (record { kind = kind; size = size })
        → IsSized new (record { kind = kind; size = size })
    by kinds.Span size h = h
    by (kinds.Set d) size h = (rw e h.0, h.1 ∙ ap (λ domains. length (unwrap_or (slice_get domains d) [])) (sym e))
    by kinds.Symbol size h = h

pub sized_same : (words new : Vocabulary) (xs : List Kinded) → new.domains ≡ words.domains → All (IsSized words) xs
    → All (IsSized new) xs
sized_same words new xs e all = All-weaker (IsSized words) (IsSized new) (kind_same words new e) xs all

pub locals_same : (words new : Vocabulary) (definitions : Definitions) → new.domains ≡ words.domains
    → AreLocalsOf (IsSized words) definitions → AreLocalsOf (IsSized new) definitions
locals_same words new definitions e all =
    locals_weaker (IsSized words) (IsSized new) (kind_same words new e) definitions all

-- and where there is one domain more
pub kind_more : (words : Vocabulary) (name : List ℕ) (elements : List (List ℕ)) (k : Kinded) → IsSized words k
    → IsSized (with_domain words name elements) k
kind_more words name elements k h = by k.kind k.size h
  where
    still : (domains : List (List (List ℕ))) (d : ℕ) → d < length domains
        → unwrap_or (slice_get (domains ++ elements ∷ []) d) [] ≡ unwrap_or (slice_get domains d) []
    still domains d l = unwrap_or-slice_get (domains ++ elements ∷ []) d []
        ∙ get_or-append domains (elements ∷ []) [] d l ∙ sym (unwrap_or-slice_get domains d [])

    by : (kind : Kind) (size : ℕ) → IsSized words (record { kind = kind; size = size })
        → IsSized (with_domain words name elements) (record { kind = kind; size = size })
    by kinds.Span size h = h
    by (kinds.Set d) size h = (
      omega (arith, h.0, length-append words.domains (elements ∷ [])),
      h.1
          ∙ ap length (sym (still words.domains d h.0)),
    )
    by kinds.Symbol size h = h

pub sized_more : (words : Vocabulary) (name : List ℕ) (elements : List (List ℕ)) (xs : List Kinded)
    → All (IsSized words) xs → All (IsSized (with_domain words name elements)) xs
sized_more words name elements xs all =
    All-weaker (IsSized words) (IsSized (with_domain words name elements)) (kind_more words name elements) xs all

pub locals_more : (words : Vocabulary) (name : List ℕ) (elements : List (List ℕ)) (definitions : Definitions)
    → AreLocalsOf (IsSized words) definitions → AreLocalsOf (IsSized (with_domain words name elements)) definitions
locals_more words name elements definitions all =
    locals_weaker (IsSized words) (IsSized (with_domain words name elements)) (kind_more words name elements)
    definitions all

-- what declares a domain has an element
pub some_elements : (name : List ℕ) (elements : List (Bor (List ℕ)))
    → HasElements (Some (Command.Domain name (words elements))) → 0 < length elements
some_elements name [] h = absurd h
some_elements name (e ∷ es) h = omega arith

-- a line that declares a domain names an element
pub has_elements : (line : List ℕ) (o : Option Command) → IsReading line (Ok o) → HasElements o
has_elements line (Some (Command.Domain name [])) e = (spelled line (Command.Domain name []) e).1 refl
has_elements line (Some (Command.Domain name (w ∷ ws))) e = tt
has_elements line (Some (Command.Choose name cell values)) e = choose_counts line name cell values e
has_elements line None e = tt
has_elements line (Some command) e = search rules
