-- What is posted leaves no trace where it is refused for another reason than memory.
use Rattle.std.proofs.Common.{◌≡◌, ℕ, Bool, true, false, List, Option, Result, Ok, Err, inl, inr}
use Rattle.std.specs.Prelude.{⊤}
use Rattle.prop_refusals.specs.declared.refusal.Refusal.{Refusal}
use Rattle.prop_refusals.specs.declared.refusal.Refusal.TheVariants.{Memory}
use Rattle.prop_procedures.specs.Stored.{Stored}
use Rattle.prop_workbench.specs.declared.posting.Posting.{Posting}
use Rattle.prop_workbench.specs.Machine.{State}
use Rattle.prop_workbench.specs.Posting.{IsPosted}
use Rattle.prop_telling.specs.inner.Posting.{is_without_trace}

memory_leaves : is_without_trace (Err Memory) ≡ true → ⊥
memory_leaves e = cc

pub no_trace : (library : List Stored) (s t : State) (cells : List ℕ) (p : Posting) (premise : Option (List ℕ))
    (r : Result ⊤ Refusal) → IsPosted library s cells p premise r t → is_without_trace r ≡ true → t ≡ s
no_trace library s t cells p premise (Ok done) posted e = cc
no_trace library s t cells p premise (Err refusal) (inl is) e = is.1
no_trace library s t cells p premise (Err refusal) (inr (memory, left)) e = absurd (memory_leaves (rw memory at e))
