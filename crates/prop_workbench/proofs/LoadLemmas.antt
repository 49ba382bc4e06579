-- Lines that are carried out one after another.
use Rattle.std.proofs.Common.{◌≡◌, ◌∙◌, ℕ, ◌<◌, ◌+◌, List, [], ◌∷◌, ◌++◌, length, get_or, take, drop, refl, sym, ap}
use Rattle.std.proofs.Common.{subst, false}
use Rattle.std.proofs.lemmas.List.{take-append-drop, take_more, drop_more}
use Rattle.prop_refusals.specs.declared.refusal.Refusal.{Refusal}
use Rattle.prop_engine.specs.declared.reply.Reply.{Reply}
use Rattle.prop_engine.specs.declared.reply.Reply.TheVariants as replies
use Rattle.prop_engine.specs.Answers.{Answer, Refused, answer_of, is_refusal}
use Rattle.prop_engine.specs.Transcripts.{Machine}
use Rattle.prop_workbench.specs.Loading.{Loads, StopsLoading}

-- one line more
pub loads_more : {S : Type 0} (machine : Machine S) (old mid new : S) (lines : List (List ℕ)) (line : List ℕ)
    (answer : Answer) → Loads machine old lines mid → is_refusal answer ≡ false → machine mid line answer new
    → Loads machine old (lines ++ line ∷ []) new
loads_more {S = S} machine old mid new [] line answer e free step =
    (answer, new, free, subst (λ (s : S). machine s line answer new) e step, refl)
loads_more machine old mid new (first ∷ lines) line answer (a, m, f, s, rest) free step =
    (a, m, f, s, loads_more machine m mid new lines line answer rest free step)

-- what is not the answer of a refusal is none
pub no_refusal : (r : Reply) → ((refusal : Refusal) → r ≡ replies.Refused refusal → ⊥)
    → is_refusal (answer_of r) ≡ false
no_refusal replies.Silent h = refl
no_refusal replies.Done h = refl
no_refusal (replies.Text text) h = refl
no_refusal (replies.Refused refusal) h = absurd (h refusal refl)

-- one line more of a list
pub loads_next : {S : Type 0} (machine : Machine S) (old mid new : S) (lines : List (List ℕ)) (i : ℕ) (line : List ℕ)
    (answer : Answer) → i < length lines → line ≡ get_or lines i [] → Loads machine old (take i lines) mid
    → is_refusal answer ≡ false →
    machine mid line answer new → Loads machine old (take (i + 1) lines) new
loads_next machine old mid new lines i line answer l at loaded free step =
    subst (λ (xs : List (List ℕ)). Loads machine old xs new)
    ((λ j. take i lines ++ at j ∷ []) ∙ sym (take_more lines i [] l))
    (loads_more machine old mid new (take i lines) line answer loaded free step)

-- the first line that is refused
pub stops_at : {S : Type 0} (machine : Machine S) (old mid new : S) (lines : List (List ℕ)) (i : ℕ) (line : List ℕ)
    (refusal : Refusal) → i < length lines → line ≡ get_or lines i [] → Loads machine old (take i lines) mid →
    machine mid line (Refused refusal) new → StopsLoading machine old lines refusal new
stops_at machine old mid new lines i line refusal l at loaded step = (
  take i lines,
  drop (i + 1) lines,
  line,
  mid,
  (sym (take-append-drop i lines) ∙ ap (λ xs. take i lines ++ xs) (drop_more lines i [] l)
      ∙ (λ j. take i lines ++ sym at j ∷ drop (i + 1) lines)),
  loaded,
  step,
)
