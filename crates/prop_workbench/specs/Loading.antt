-- What loading a prelude does: its lines are carried out before any other.
use Rattle.std.specs.Prelude.{◌≡◌, ℕ, List, [], ◌∷◌, ◌++◌, false}
use Rattle.prop_refusals.specs.declared.refusal.Refusal.{Refusal}
use Rattle.prop_engine.specs.Answers.{Answer, Refused, is_refusal}
use Rattle.prop_engine.specs.Transcripts.{Machine}

-- the machine carried out the lines, one after another, and refused none of them
abbrev pub Loads : {S : Type 0} → Machine S → S → List (List ℕ) → S → Type 0
Loads machine old [] new = new ≡ old
Loads {S = S} machine old (line ∷ lines) new = (answer : Answer) × (mid : S)
    × (is_refusal answer ≡ false) × machine old line answer mid × Loads machine mid lines new

-- the machine refused one of the lines, after it carried out those before it
abbrev pub StopsLoading : {S : Type 0} → Machine S → S → List (List ℕ) → Refusal → S → Type 0
StopsLoading {S = S} machine old lines refusal new =
    (before after : List (List ℕ)) × (line : List ℕ) × (mid : S) × (lines ≡ before ++ line ∷ after)
    × Loads machine old before mid × machine mid line (Refused refusal) new
