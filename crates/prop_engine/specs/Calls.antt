-- The calls of a reader and a writer, one after another, and what came of each.
use Rattle.std.specs.Prelude.{◌≡◌, ℕ, List, [], ◌∷◌, ◌++◌, take, Result, Ok, Err, ⊤}
use Rattle.prop_engine.specs.declared.failure.Failure.{Failure}

-- One call, and what came of it: of a read for so many bytes, those that it gave, none at the end;
-- of a write of some bytes, how many of them it took; of a flush, that what was written is passed
-- on. Or why it did nothing.
pub data Call : Type 0 where
  ReadCall : ℕ → Result (List ℕ) Failure → Call
  WriteCall : List ℕ → Result ℕ Failure → Call
  FlushCall : Result ⊤ Failure → Call

-- the bytes that a read gave, by how many it wrote into the buffer
abbrev pub given : Result ℕ Failure → List ℕ → Result (List ℕ) Failure
given (Ok count) buffer = Ok (take count buffer)
given (Err failure) buffer = Err failure

-- these calls, one after another, led from one state of the devices to another
abbrev pub Leads : {D : Type 0} → (D → Call → D → Type 0) → D → List Call → D → Type 0
Leads may old [] new = new ≡ old
Leads {D = D} may old (call ∷ calls) new = (mid : D) × may old call mid × Leads may mid calls new

-- the bytes that the reads gave
abbrev pub bytes_read : List Call → List ℕ
bytes_read [] = []
bytes_read (ReadCall wanted (Ok bytes) ∷ calls) = bytes ++ bytes_read calls
bytes_read (call ∷ calls) = bytes_read calls

-- the bytes that the writes took
abbrev pub bytes_written : List Call → List ℕ
bytes_written [] = []
bytes_written (WriteCall bytes (Ok count) ∷ calls) = take count bytes ++ bytes_written calls
bytes_written (call ∷ calls) = bytes_written calls
