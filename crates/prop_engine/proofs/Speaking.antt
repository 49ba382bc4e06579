-- What the calls of a dialogue read and wrote.
use Rattle.std.proofs.Common.{◌≡◌, ℕ, List, [], ◌∷◌, ◌++◌, length, take, drop, refl, sym, ◌∙◌, ap, arith}
use Rattle.std.proofs.Common.{append_assoc, append-nil, subst, replicate, zero, suc, inl, inr}
use Rattle.std.specs.Prelude.{Result, Ok, Err, flat_map, ⊤}
use Rattle.std.proofs.lemmas.List.{take-append-drop, take_all}
use Rattle.std.proofs.lemmas.Grind.{flat_map-append}
use Rattle.prop_engine.specs.Answers.{Answer, Silent, Done, Text, Refused, text_written}
use Rattle.prop_engine.specs.Calls.{Call, ReadCall, WriteCall, FlushCall, bytes_read, bytes_written}
use Rattle.prop_engine.specs.Dialogues.{Patiently, IsWritten, IsSent, IsStopped, IsCut, IsGiven, AreGiven, Turns}
use Rattle.prop_engine.specs.Dialogues.{IsEnded}
use Rattle.prop_engine.specs.Dialogues.{IsDialogue, Ends}
use Rattle.prop_engine.specs.Dialogues.IsWritten.{none as unwritten, more as written_more}
use Rattle.prop_engine.specs.Dialogues.Turns.{none as no_turn, more as one_turn}
use Rattle.prop_engine.specs.Lines.{lines_of}
use Rattle.prop_engine.specs.Machines.{IsTotal}
use Rattle.prop_engine.specs.Transcripts.{Machine, Run, IsTranscript, IsPrefixOfTranscript}
use Rattle.prop_engine.specs.declared.failure.Failure.{Failure}
use Rattle.prop_engine.specs.declared.failure.Failure.TheVariants.{Interrupted}
use Rattle.prop_engine.specs.declared.outcome.Counts.{Counts}
use Rattle.prop_engine.specs.declared.outcome.EngineFault.{EngineFault}
use Rattle.prop_engine.specs.declared.outcome.EngineFault.TheVariants as faults
use Rattle.prop_engine.proofs.Prefixes.{prefix}

-- what calls read and wrote
pub record Moves (calls : List Call) (read written : List ℕ) : Type 0 where
  pub read_is : bytes_read calls ≡ read
  pub written_is : bytes_written calls ≡ written

pub moves_none : Moves [] [] []
moves_none = record { read_is = refl; written_is = refl }

-- calls behind others
read_join : (xs ys : List Call) → bytes_read (xs ++ ys) ≡ bytes_read xs ++ bytes_read ys
read_join [] ys = refl
read_join (ReadCall n (Ok bytes) ∷ xs) ys = ap (λ l. bytes ++ l) (read_join xs ys)
    ∙ sym (append_assoc bytes (bytes_read xs) (bytes_read ys))
read_join (ReadCall n (Err e) ∷ xs) ys = read_join xs ys
read_join (WriteCall bytes result ∷ xs) ys = read_join xs ys
read_join (FlushCall result ∷ xs) ys = read_join xs ys

written_join : (xs ys : List Call) → bytes_written (xs ++ ys) ≡ bytes_written xs ++ bytes_written ys
written_join [] ys = refl
written_join (WriteCall bytes (Ok n) ∷ xs) ys = ap (λ l. take n bytes ++ l) (written_join xs ys)
    ∙ sym (append_assoc (take n bytes) (bytes_written xs) (bytes_written ys))
written_join (WriteCall bytes (Err e) ∷ xs) ys = written_join xs ys
written_join (ReadCall n result ∷ xs) ys = written_join xs ys
written_join (FlushCall result ∷ xs) ys = written_join xs ys

pub moves_join : (xs ys : List Call) (r w r' w' : List ℕ) → Moves xs r w → Moves ys r' w'
    → Moves (xs ++ ys) (r ++ r') (w ++ w')
moves_join xs ys r w r' w' p q = record {
  read_is = read_join xs ys ∙ (λ i. p.read_is i ++ q.read_is i);
  written_is = written_join xs ys ∙ (λ i. p.written_is i ++ q.written_is i);
}

-- calls that were interrupted moved nothing
idle_read : (n wanted : ℕ) → Moves (replicate n (ReadCall wanted (Err Interrupted))) [] []
idle_read zero wanted = record { read_is = refl; written_is = refl }
idle_read (suc n) wanted =
    let m = idle_read n wanted in
    record { read_is = m.read_is; written_is = m.written_is }

idle_write : (n : ℕ) (bytes : List ℕ) → Moves (replicate n (WriteCall bytes (Err Interrupted))) [] []
idle_write zero bytes = record { read_is = refl; written_is = refl }
idle_write (suc n) bytes =
    let m = idle_write n bytes in
    record { read_is = m.read_is; written_is = m.written_is }

idle_flush : (n : ℕ) → Moves (replicate n (FlushCall (Err Interrupted))) [] []
idle_flush zero = record { read_is = refl; written_is = refl }
idle_flush (suc n) =
    let m = idle_flush n in
    record { read_is = m.read_is; written_is = m.written_is }

moved : (calls all : List Call) (call : Call) (r w : List ℕ) → Moves calls [] [] → all ≡ calls ++ call ∷ []
    → Moves (call ∷ []) r w → Moves all r w
moved calls all call r w idle e m =
    subst (λ (l : List Call). Moves l r w) (sym e) (moves_join calls (call ∷ []) [] [] r w idle m)

read_moves : (bytes : List ℕ) (calls : List Call) → Patiently (ReadCall 4_096) (Ok bytes) calls → Moves calls bytes []
read_moves bytes calls p = moved _ calls _ bytes [] (idle_read p.interrupted 4_096) p.calls_are
    record { read_is = append-nil bytes; written_is = refl }

failed_moves : (failure : Failure) (calls : List Call) → Patiently (ReadCall 4_096) (Err failure) calls
    → Moves calls [] []
failed_moves failure calls p = moved _ calls _ [] [] (idle_read p.interrupted 4_096) p.calls_are
    record { read_is = refl; written_is = refl }

write_moves : (bytes : List ℕ) (count : ℕ) (calls : List Call) → Patiently (WriteCall bytes) (Ok count) calls
    → Moves calls [] (take count bytes)
write_moves bytes count calls p = moved _ calls _ [] (take count bytes) (idle_write p.interrupted bytes) p.calls_are
    record { read_is = refl; written_is = append-nil (take count bytes) }

unwritten_moves : (bytes : List ℕ) (failure : Failure) (calls : List Call)
    → Patiently (WriteCall bytes) (Err failure) calls
    → Moves calls [] []
unwritten_moves bytes failure calls p = moved _ calls _ [] [] (idle_write p.interrupted bytes) p.calls_are
    record { read_is = refl; written_is = refl }

flush_moves : (result : Result ⊤ Failure) (calls : List Call) → Patiently FlushCall result calls → Moves calls [] []
flush_moves result calls p = moved _ calls _ [] [] (idle_flush p.interrupted) p.calls_are
    record { read_is = refl; written_is = refl }

-- a text that was written but for what is left
pub text_moves : (text left : List ℕ) (calls : List Call) → IsWritten text left calls
    → (done : List ℕ) × Moves calls [] done × (text ≡ done ++ left)
text_moves text left calls unwritten = ([], record { read_is = refl; written_is = refl }, refl)
text_moves text now calls (written_more left count before tries w some most p) =
    let on = text_moves text left before w in (
      on.0 ++ take count left,
      moves_join before tries [] on.0 [] (take count left) on.1 (write_moves left count tries p),
      on.2 ∙ ap (λ l. on.0 ++ l) (sym (take-append-drop count left))
          ∙ sym (append_assoc on.0 (take count left) (drop count left)),
    )

sent_moves : (text : List ℕ) (calls : List Call) → IsSent text calls → Moves calls [] text
sent_moves text calls s =
    let on = text_moves text [] s.writes s.written in
    let m = moves_join s.writes s.flushes [] on.0 [] [] on.1 (flush_moves _ s.flushes s.passed_on) in
    let all : on.0 ++ [] ≡ text = sym on.2 in
    subst (λ (l : List Call). Moves l [] text) (sym s.calls_are) (subst (λ (t : List ℕ). Moves (s.writes ++
    s.flushes) [] t) all m)

stopped_moves : (left : List ℕ) (calls : List Call) → IsStopped left calls → Moves calls [] []
stopped_moves [] calls (failure, p) = flush_moves _ calls p
stopped_moves (b ∷ left) calls (inl (failure, p)) = unwritten_moves (b ∷ left) failure calls p
stopped_moves (b ∷ left) calls (inr p) = write_moves (b ∷ left) 0 calls p

-- what was written of a text that was cut
cut_moves : (text : List ℕ) (calls : List Call) → IsCut text calls
    → (done : List ℕ) × (left : List ℕ) × Moves calls [] done × (text ≡ done ++ left)
cut_moves text calls c =
    let on = text_moves text c.left c.writes c.written in
    let m = moves_join c.writes c.last [] on.0 [] [] on.1 (stopped_moves c.left c.last c.stopped) in (
      on.0,
      c.left,
      subst (λ (l : List Call). Moves l [] on.0) (sym c.calls_are)
          (subst (λ (t : List ℕ). Moves (c.writes ++ c.last) [] t) (append-nil on.0) m),
      on.2,
    )

answer_moves : (answer : Answer) (calls : List Call) → IsGiven answer calls → Moves calls [] (text_written answer)
answer_moves Silent calls e = subst (λ (l : List Call). Moves l [] []) (sym e) moves_none
answer_moves Done calls s = sent_moves _ calls s
answer_moves (Text text) calls s = sent_moves _ calls s
answer_moves (Refused refusal) calls s = sent_moves _ calls s

pub answers_move : (answers : List Answer) (calls : List Call) → AreGiven answers calls
    → Moves calls [] (flat_map text_written answers)
answers_move [] calls e = subst (λ (l : List Call). Moves l [] []) (sym e) moves_none
answers_move (answer ∷ answers) calls (first, others, g, given, e) =
    subst (λ (l : List Call). Moves l [] (text_written answer ++ flat_map text_written answers)) (sym e)
    (moves_join first others [] (text_written answer) [] (flat_map text_written answers) (answer_moves answer first g)
    (answers_move answers others given))

pub turns_move : (n : ℕ) (input : List ℕ) (answers : List Answer) (calls : List Call) → Turns n input answers calls
    → Moves calls input (flat_map text_written answers)
turns_move n input answers calls no_turn = moves_none
turns_move n input answers calls (one_turn k first bytes before said earlier tries replies t some p given count) =
    let m = moves_join earlier (tries ++ replies) first (flat_map text_written before) (bytes ++ [])
    ([] ++ flat_map text_written said) (turns_move k first before earlier t)
    (moves_join tries replies bytes [] [] (flat_map text_written said) (read_moves bytes tries p) (answers_move said
    replies given))
    in record {
      read_is = m.read_is ∙ ap (λ l. first ++ l) (append-nil bytes);
      written_is = m.written_is ∙ sym (flat_map-append text_written before said);
    }

-- ---- a dialogue that came to its end, and one that a fault ended

whole_run : {S : Type 0} (machine : Machine S) (old : S) (n : ℕ) (lines : List (List ℕ)) (answers : List Answer) (new
    : S)
    → n ≡ length lines → Run machine old (take n lines) answers new → Run machine old lines answers new
whole_run machine old n lines answers new e r =
    subst (λ (l : List (List ℕ)). Run machine old l answers new) (take_all n lines (omega (arith, e))) r

ended_moves : (reads : ℕ) (counts : Counts) (input : List ℕ) (answers : List Answer) (calls : List Call)
    → IsEnded reads counts input answers calls → Moves calls input (flat_map text_written answers)
ended_moves reads counts input answers calls e =
    let m = moves_join e.earlier (e.tries ++ e.replies) input (flat_map text_written e.before) []
    (flat_map text_written e.said) (turns_move e.n input e.before e.earlier e.turns)
    (moves_join e.tries e.replies [] [] [] (flat_map text_written e.said) (read_moves [] e.tries e.end)
    (answers_move e.said e.replies e.sent)) in record {
      read_is = ap bytes_read e.calls_are ∙ m.read_is ∙ append-nil input;
      written_is = ap bytes_written e.calls_are ∙ m.written_is
          ∙ sym (flat_map-append text_written e.before e.said) ∙ ap (flat_map text_written) (sym e.answers_are);
    }

pub dialogue_transcript : {S : Type 0} (machine : Machine S) (reads : ℕ) (old : S) (counts : Counts) (calls : List Call)
    (new : S) → IsDialogue machine reads old (Ok counts) calls new
    → IsTranscript machine old (bytes_read calls) (bytes_written calls) counts.lines counts.refused new
dialogue_transcript machine reads old counts calls new d =
    let m = ended_moves reads counts d.input d.answers calls d.in_turn in
    subst (λ (i : List ℕ). IsTranscript machine old i (bytes_written calls) counts.lines counts.refused new) (sym
    m.read_is)
    record {
      answers = d.answers;
      run = whole_run machine old (length d.answers) (lines_of d.input) d.answers new d.in_turn.all d.run;
      output_is = m.written_is;
      lines_counted = d.in_turn.lines_counted ∙ d.in_turn.all;
      refused_counted = d.in_turn.refused_counted;
    }

-- what a dialogue wrote that a fault ended is what its answers ask for, but for what is missing
faulted_moves : (reads : ℕ) (fault : EngineFault) (input : List ℕ) (answers : List Answer) (calls : List Call)
    → Ends reads (Err fault) input answers calls
    → (written missing : List ℕ) × Moves calls input written × (flat_map text_written answers ≡ written ++ missing)
faulted_moves reads faults.Reads input answers calls t = (
  flat_map text_written answers,
  [],
  turns_move reads input answers calls t,
  sym (append-nil _),
)
faulted_moves reads faults.Read input answers calls u =
    let m = moves_join u.earlier u.tries input (flat_map text_written answers) [] []
    (turns_move u.n input answers u.earlier u.turns) (failed_moves u.failure u.tries u.failed) in (
      flat_map text_written answers,
      [],
      record {
        read_is = ap bytes_read u.calls_are ∙ m.read_is ∙ append-nil input;
        written_is = ap bytes_written u.calls_are ∙ m.written_is ∙ append-nil _;
      },
      sym (append-nil _),
    )
faulted_moves reads faults.Write input answers calls u =
    let cut = cut_moves (text_written u.last) u.cut u.stopped in
    let m = moves_join u.earlier (u.tries ++ (u.replies ++ u.cut)) u.first (flat_map text_written u.before) (u.bytes
    ++ [])
    (flat_map text_written u.said ++ cut.0) (turns_move u.n u.first u.before u.earlier u.turns)
    (moves_join u.tries (u.replies ++ u.cut) u.bytes [] [] (flat_map text_written u.said ++ cut.0)
    (read_moves u.bytes u.tries u.read)
    (moves_join u.replies u.cut [] (flat_map text_written u.said) [] cut.0 (answers_move u.said u.replies u.sent)
    cut.2))
    in (
      flat_map text_written u.before ++ (flat_map text_written u.said ++ cut.0),
      cut.1,
      record {
        read_is = ap bytes_read u.calls_are ∙ m.read_is ∙ ap (λ l. u.first ++ l) (append-nil u.bytes) ∙ sym u.input_is;
        written_is = ap bytes_written u.calls_are ∙ m.written_is;
      },
      ap (flat_map text_written) u.answers_are
          ∙ flat_map-append text_written u.before (u.said ++ u.last ∷ [])
          ∙ ap (λ l. flat_map text_written u.before ++ l) (flat_map-append text_written u.said (u.last ∷ [])
          ∙ ap (λ l. flat_map text_written u.said ++ l) (append-nil (text_written u.last) ∙ cut.3)
          ∙ sym (append_assoc (flat_map text_written u.said) cut.0 cut.1))
          ∙ sym (append_assoc (flat_map text_written u.before) (flat_map text_written u.said ++ cut.0) cut.1),
    )

pub dialogue_prefix : {S : Type 0} (machine : Machine S) → IsTotal machine → (reads : ℕ) (old : S) (fault : EngineFault)
    (calls : List Call) (new : S) → IsDialogue machine reads old (Err fault) calls new
    → IsPrefixOfTranscript machine old (bytes_read calls) (bytes_written calls)
dialogue_prefix machine total reads old fault calls new d =
    let f = faulted_moves reads fault d.input d.answers calls d.in_turn in
    let n = length d.answers in
    let all : lines_of d.input ≡ take n (lines_of d.input) ++ drop n (lines_of d.input) =
    sym (take-append-drop n (lines_of d.input)) in
    let p = prefix machine total old d.input f.0 (take n (lines_of d.input)) (drop n (lines_of d.input)) d.answers
    new f.1
    all d.run f.3 in
    rw (f.2.read_is, f.2.written_is) p
