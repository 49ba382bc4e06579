-- A blamer has what the engine asks of a machine: it answers a line by its first 4097 bytes, and
-- some answer to each line leaves all as it is.
use Rattle.std.proofs.Common.{◌≡◌, ◌⊎◌, ℕ, Bool, true, false, List, [], ◌∷◌, refl, inl, inr}
use Rattle.prop_procedures.specs.Stored.{Stored}
use Rattle.prop_engine.specs.Lines.{kept_of}
use Rattle.prop_engine.specs.Answers.{Answer, Refused}
use Rattle.prop_refusals.specs.declared.refusal.Refusal.TheVariants.{Memory}
use Rattle.prop_engine.specs.Machines.{AsksByPrefix, IsTotal}
use Rattle.prop_workbench.specs.Machine.{State}
use Rattle.prop_workbench.specs.Questions.{Picks}
use Rattle.prop_telling.specs.Telling.{Own}
use Rattle.prop_seeking.specs.Seeking.{Sought, seeking}
use Rattle.prop_seeking.specs.laws.SeekingLaws.{kept_reading, own_from, seeking_asks_by_prefix}
use Rattle.prop_seeking.specs.laws.SeekingLaws.{seeking_is_total}
use Rattle.prop_blaming.specs.Asking.{is_blame}
use Rattle.prop_blaming.specs.Blaming.{Blames, blaming}

kept_is_blame : (line : List ℕ) → is_blame (kept_of line) ≡ is_blame line
unfolding kept_of
kept_is_blame [] = refl
kept_is_blame (a ∷ []) = refl
kept_is_blame (a ∷ b ∷ []) = refl
kept_is_blame (a ∷ b ∷ c ∷ []) = refl
kept_is_blame (a ∷ b ∷ c ∷ d ∷ []) = refl
kept_is_blame (a ∷ b ∷ c ∷ d ∷ e ∷ []) = refl
kept_is_blame (a ∷ b ∷ c ∷ d ∷ e ∷ f ∷ []) = refl
kept_is_blame (a ∷ b ∷ c ∷ d ∷ e ∷ f ∷ g ∷ []) = refl
kept_is_blame (a ∷ b ∷ c ∷ d ∷ e ∷ f ∷ g ∷ h ∷ []) = refl
kept_is_blame (a ∷ b ∷ c ∷ d ∷ e ∷ f ∷ g ∷ h ∷ i ∷ []) = refl
kept_is_blame (a ∷ b ∷ c ∷ d ∷ e ∷ f ∷ g ∷ h ∷ i ∷ j ∷ line) = refl

kept_blames : (library : List Stored) (s : State) (line : List ℕ) (answer : Answer)
    → Blames library s (kept_of line) answer → Blames library s line answer
kept_blames library s line answer (inl memory) = inl memory
kept_blames library s line answer (inr (read, is, replies)) =
    inr (read, kept_reading line read is, replies)

pub blaming_asks_by_prefix : {O : Type 0} (picks : Picks O) (library : List Stored)
    → AsksByPrefix (blaming picks library)
blaming_asks_by_prefix picks library old line answer new blames =
    own_from (is_blame (kept_of line)) (is_blame line) (kept_is_blame line)
    (λ asks. (asks.0, kept_blames library old.told.standing.shown.state line answer asks.1))
    (λ other. seeking_asks_by_prefix picks library old line answer new other) blames

something : {O : Type 0} (picks : Picks O) (library : List Stored) (old : Sought O)
    (line : List ℕ) (b : Bool) → (answer : Answer) × Own b
    ((old ≡ old) × Blames library old.told.standing.shown.state line answer)
    (seeking picks library old line answer old)
something picks library old line true = (Refused Memory, (refl, inl refl))
something picks library old line false = seeking_is_total picks library old line

pub blaming_is_total : {O : Type 0} (picks : Picks O) (library : List Stored)
    → IsTotal (blaming picks library)
blaming_is_total picks library old line =
    something picks library old line (is_blame line)
