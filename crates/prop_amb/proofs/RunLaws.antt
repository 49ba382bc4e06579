-- A run changes contents alone, so the problem stays.
use Rattle.std.proofs.Common.{◌≡◌, ℕ, ◌+◌, ◌≤◌, List, subst}
use Rattle.prop_procedures.specs.Stored.{Stored}
use Rattle.prop_cells.specs.Problems.{Problem, Assignment}
use Rattle.prop_cells.specs.Reach.{IsConflict}
use Rattle.prop_cells.specs.Data.{Data, problem_of}
use Rattle.prop_scheduler.specs.Potential.{potential, most_steps}
use Rattle.prop_numbers.specs.Sets.{Members}

pub same_problem : {L : Type 0} (stored : L → List Stored) (a b : L) (old new : Data) → b ≡ a
    → new ≡ record old { contents = new.contents } → problem_of (stored b) new ≡ problem_of (stored a) old
same_problem stored a b old new same rest = λ i. problem_of (stored (same i)) (rest i)

pub falls_in : (old new : Problem) (a b : Assignment) (before after : List ℕ) (calls : ℕ) → new ≡ old
    → potential new b after + calls ≤ potential old a before → potential old b after + calls ≤ potential old a before
falls_in old new a b before after calls same h =
    subst (λ p. potential p b after + calls ≤ potential old a before) same h

pub bounded_in : (old new : Problem) (calls : ℕ) → new ≡ old → calls ≤ most_steps new → calls ≤ most_steps old
bounded_in old new calls same h = subst (λ p. calls ≤ most_steps p) same h

pub conflict_in : (old new : Problem) (s t n m : Members) → new ≡ old → t ≡ s → m ≡ n → IsConflict new t m
    → IsConflict old s n
conflict_in old new s t n m same same_set same_nogood h = rw (same, same_set, same_nogood) at h
