-- What a call of streams does to the bytes that the reader has left and to those that the writer
-- holds, where these are known.
use Rattle.std.specs.Prelude.{◌≡◌, ℕ, ◌<◌, List, [], Option, Result, Ok, Err}
use Rattle.std.specs.Io.KnownBytes.{Keeps, Consumes, IsAtEnd, WriteAppends}
use Rattle.prop_engine.specs.Calls.{Call, ReadCall, WriteCall, FlushCall}
use Rattle.prop_engine.specs.declared.failure.Failure.{Failure}
use Rattle.prop_engine.specs.declared.streams.Streams.{Streams}

abbrev pub reader_of : {Rd W : Type 0} → Streams Rd W → Rd
reader_of s = s.reader

abbrev pub writer_of : {Rd W : Type 0} → Streams Rd W → W
writer_of s = s.writer

-- a read takes the bytes that it gives from the reader, none only at the end; where it fails it
-- takes none
abbrev pub Gives : Option (List ℕ) → Option (List ℕ) → ℕ → Result (List ℕ) Failure → Type 0
Gives left left' wanted (Ok bytes) = Consumes left left' bytes
    × (bytes ≡ [] → 0 < wanted → IsAtEnd left')
Gives left left' wanted (Err failure) = Keeps left left'

-- a call of one of the two, which leaves the other alone
abbrev pub StreamCall : {Rd W : Type 0} → (Rd → Option (List ℕ)) → (W → Option (List ℕ))
    → Streams Rd W → Call → Streams Rd W → Type 0
StreamCall left held old (ReadCall wanted result) new = (new.writer ≡ old.writer)
    × Gives (left old.reader) (left new.reader) wanted result
StreamCall left held old (WriteCall bytes result) new = (new.reader ≡ old.reader)
    × WriteAppends (held old.writer) (held new.writer) result bytes
StreamCall left held old (FlushCall result) new = (new.reader ≡ old.reader)
    × Keeps (held old.writer) (held new.writer)
