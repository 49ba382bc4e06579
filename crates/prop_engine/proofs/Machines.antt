-- Steps of a machine that stands over something.
use Rattle.std.proofs.Common.{◌≡◌, ℕ, List, subst}
use Rattle.prop_engine.specs.Answers.{Answer}
use Rattle.prop_engine.specs.Calls.{Call}
use Rattle.prop_engine.specs.Transcripts.{Machine}
use Rattle.prop_engine.specs.declared.outcome.Counts.{Counts}
use Rattle.prop_engine.specs.inner.Progress.{Advances, Stops}

-- what a machine over one of two equal things may do, that over the other may
pub same_step : {A S : Type 0} (machine : A → Machine S) (a b : A) → b ≡ a
    → (old : S) (line : List ℕ) (answer : Answer) (new : S) → machine b old line answer new
    → machine a old line answer new
same_step {A = A} machine a b e old line answer new s = subst (λ (x : A). machine x old line answer new) e s

pub same_advance : {A S : Type 0} (machine : A → Machine S) (a b : A) → b ≡ a
    → (now : S) (kept : List ℕ) (counts : Counts) (piece : List ℕ) (said : List Answer) (now' : S) (kept' : List ℕ)
    (counts' : Counts) → Advances (machine b) now kept counts piece said now' kept' counts'
    → Advances (machine a) now kept counts piece said now' kept' counts'
same_advance {A = A} machine a b e now kept counts piece said now' kept' counts' p =
    subst (λ (x : A). Advances (machine x) now kept counts piece said now' kept' counts') e p

pub same_stop : {A S : Type 0} (machine : A → Machine S) (a b : A) → b ≡ a
    → (now : S) (kept : List ℕ) (counts : Counts) (piece : List ℕ) (calls : List Call) (now' : S)
    → Stops (machine b) now kept counts piece calls now' → Stops (machine a) now kept counts piece calls now'
same_stop {A = A} machine a b e now kept counts piece calls now' p =
    subst (λ (x : A). Stops (machine x) now kept counts piece calls now') e p
