-- Lines that are answered one after another.
use Rattle.std.proofs.Common.{◌≡◌, ◌∙◌, ℕ, ◌<◌, ◌+◌, List, [], ◌∷◌, ◌++◌, length, get_or, map, take, sym, subst}
use Rattle.std.proofs.lemmas.List.{take_more, map-append}
use Rattle.prop_procedures.specs.Stored.{Stored}
use Rattle.prop_engine.specs.declared.reply.Reply.{Reply}
use Rattle.prop_engine.specs.Answers.{answer_of}
use Rattle.prop_engine.specs.Transcripts.{Run}
use Rattle.prop_engine.proofs.Runs.{run_more}
use Rattle.prop_workbench.specs.Steps.{Shown}
use Rattle.prop_workbench.specs.Engine.{learning, Shows}

-- one line more of a list
pub run_next : (library : List Stored) (old mid new : Shown) (lines : List (List ℕ)) (i : ℕ) (line : List ℕ)
    (replies all : List Reply) (reply : Reply) → i < length lines → line ≡ get_or lines i []
    → all ≡ replies ++ reply ∷ [] →
    Run (learning library) old (take i lines) (map answer_of replies) mid → Shows library mid line (answer_of reply) new
    → Run (learning library) old (take (i + 1) lines) (map answer_of all) new
run_next library old mid new lines i line replies all reply l at e run step =
    rw (e, map-append answer_of replies (reply ∷ []))
    (subst (λ (xs : List (List ℕ)). Run (learning library) old xs (map answer_of replies ++ answer_of reply ∷ []) new)
    ((λ j. take i lines ++ at j ∷ []) ∙ sym (take_more lines i [] l))
    (run_more (learning library) old (take i lines) (map answer_of replies) mid line (answer_of reply) new run
    step))
