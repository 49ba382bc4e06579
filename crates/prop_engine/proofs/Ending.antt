-- How a dialogue goes on and ends.
use Rattle.std.proofs.Common.{◌≡◌, ℕ, ◌+◌, ◌<◌, ◌≤◌, List, [], ◌∷◌, ◌++◌, length, refl, sym, ◌∙◌, ap, arith, subst}
use Rattle.std.proofs.Common.{append_assoc, append-nil}
use Rattle.std.specs.Prelude.{Result, Ok, Err}
use Rattle.std.proofs.lemmas.List.{length-append}
use Rattle.prop_engine.specs.Answers.{Answer}
use Rattle.prop_engine.specs.Calls.{Call, Leads, ReadCall}
use Rattle.prop_engine.specs.Dialogues.{Patiently, AreGiven, IsGiven, Turns}
use Rattle.prop_engine.specs.Dialogues.{Speaks, ended_by}
use Rattle.prop_engine.specs.Dialogues.Turns.{more}
use Rattle.prop_engine.specs.Lines.{lines_of, ended_lines}
use Rattle.prop_engine.specs.Machines.{AsksByPrefix}
use Rattle.prop_engine.specs.Transcripts.{Machine, Run}
use Rattle.prop_engine.specs.declared.failure.Failure.{Failure}
use Rattle.prop_engine.specs.declared.outcome.Counts.{Counts}
use Rattle.prop_engine.specs.declared.outcome.EngineFault.{EngineFault}
use Rattle.prop_engine.specs.declared.outcome.EngineFault.TheVariants as faults
use Rattle.prop_engine.specs.inner.Progress.{Progress, CountsAnswer, Advances, Stops, IsCutAnswer}
use Rattle.prop_engine.proofs.Leading.{leads_join}
use Rattle.prop_engine.proofs.Prefixes.{ended_first}
use Rattle.prop_engine.proofs.Runs.{progress_run, ended_answered, no_last, with_last, part_run, first_run, run_length}
use Rattle.prop_engine.proofs.Runs.{counted_more}

have_ended : (input bytes : List ℕ) → 0 < length bytes → (k : ℕ) → k ≤ length (ended_lines (input ++ bytes))
    → k ≤ ended_by input bytes
have_ended input [] h k e = absurd (omega (arith, h))
have_ended input (b ∷ bytes) h k e = e

-- an ending by a fault that a call told
pub by_fault : {D S : Type 0} (may : D → Call → D → Type 0) (a b : D) (machine : Machine S) (reads : ℕ) (old : S)
    (result : Result Counts EngineFault) (fault : EngineFault) (new : S) → result ≡ Err fault → fault ≡ faults.Write
    → Speaks may a b machine reads old (Err faults.Write) new → Speaks may a b machine reads old result new
by_fault may a b machine reads old result fault new e f p =
    subst (λ (r : Result Counts EngineFault). Speaks may a b machine reads old r new) (sym (e ∙ ap Err f)) p

-- so many turns led the devices from a to b, over an input that the machine has answered
pub record HasTurned {D S : Type 0} (may : D → Call → D → Type 0) (a b : D) (machine : Machine S) (old : S) (n : ℕ)
    (kept : List ℕ) (counts : Counts) (now : S) : Type 0 where
  pub input : List ℕ
  pub answers : List Answer
  pub calls : List Call
  pub leads : Leads may a calls b
  pub turns : Turns n input answers calls
  pub so_far : Progress machine old input kept answers counts now

module _ {D S : Type 0} (may : D → Call → D → Type 0) (a b c : D) (machine : Machine S) (old : S) (n : ℕ)
    (kept : List ℕ) (counts : Counts) (now : S) (t : HasTurned may a b machine old n kept counts now) (reads : ℕ) where
  pub too_many : n ≡ reads → Speaks may a b machine reads old (Err faults.Reads) now
  too_many e = (
    t.calls,
    t.leads,
    record {
      input = t.input;
      answers = t.answers;
      run = progress_run machine old t.input kept t.answers counts now t.so_far;
      in_turn = subst (λ (m : ℕ). Turns m t.input t.answers t.calls) e t.turns;
    },
  )

  module _ (within : n < reads) (tries : List Call) (leads : Leads may b tries c) where
    pub read_failed : (failure : Failure) → Patiently (ReadCall 4_096) (Err failure) tries
        → Speaks may a c machine reads old (Err faults.Read) now
    read_failed failure p = (
      t.calls ++ tries,
      leads_join may a b c t.calls tries t.leads leads,
      record {
        input = t.input;
        answers = t.answers;
        run = progress_run machine old t.input kept t.answers counts now t.so_far;
        in_turn = record {
          n = n;
          earlier = t.calls;
          tries = tries;
          failure = failure;
          turns = t.turns;
          within = within;
          failed = p;
          calls_are = refl;
        };
      },
    )

    -- the end came right behind a line feed
    pub ended_plain : Patiently (ReadCall 4_096) (Ok []) tries → kept ≡ []
        → Speaks may a c machine reads old (Ok counts) now
    ended_plain p k =
        let all = no_last machine old t.input kept t.answers counts now t.so_far k in
        let counted = run_length machine old t.so_far.lines t.answers now t.so_far.run in (
          t.calls ++ tries,
          leads_join may a b c t.calls tries t.leads leads,
          record {
            input = t.input;
            answers = t.answers;
            run = progress_run machine old t.input kept t.answers counts now t.so_far;
            in_turn = record {
              n = n;
              before = t.answers;
              said = [];
              earlier = t.calls;
              tries = tries;
              replies = [];
              turns = t.turns;
              within = within;
              end = p;
              sent = refl;
              answers_are = sym (append-nil t.answers);
              calls_are = ap (λ l. t.calls ++ l) (sym (append-nil tries));
              all = counted ∙ sym (ap length all);
              lines_counted = t.so_far.lines_counted ∙ sym counted;
              refused_counted = t.so_far.refused_counted;
            };
          },
        )

    module _ (asks : AsksByPrefix machine) (answer : Answer) (new : S) (one : List Call) (d : D)
        (told : Leads may c one d) (s : machine now kept answer new) where
      joined : Leads may a (t.calls ++ (tries ++ one)) d
      joined = leads_join may a b d t.calls (tries ++ one) t.leads (leads_join may b c d tries one leads told)

      run : Run machine old (t.so_far.lines ++ t.so_far.part ∷ []) (t.answers ++ answer ∷ []) new
      run = part_run machine old t.input kept t.answers counts now t.so_far asks answer new s

      -- the end came behind bytes, which were a line
      pub ended_line : Patiently (ReadCall 4_096) (Ok []) tries → (kept ≡ [] → ⊥) → IsGiven answer one
          → (counts' : Counts) → CountsAnswer counts counts' answer
          → Speaks may a d machine reads old (Ok counts') new
      ended_line p k given counts' counted =
          let all = with_last machine old t.input kept t.answers counts now t.so_far k in
          let as_many = run_length machine old _ _ new run in
          let before = run_length machine old t.so_far.lines t.answers now t.so_far.run in (
            t.calls ++ (tries ++ one),
            joined,
            record {
              input = t.input;
              answers = t.answers ++ answer ∷ [];
              run = first_run machine old (lines_of t.input) (t.so_far.lines ++ t.so_far.part ∷ []) []
                  (t.answers ++ answer ∷ []) new (all ∙ sym (append-nil _)) run;
              in_turn = record {
                n = n;
                before = t.answers;
                said = answer ∷ [];
                earlier = t.calls;
                tries = tries;
                replies = one;
                turns = t.turns;
                within = within;
                end = p;
                sent = (one, [], given, refl, sym (append-nil one));
                answers_are = refl;
                calls_are = refl;
                all = as_many ∙ sym (ap length all);
                lines_counted = omega (
                  arith,
                  counted.line,
                  t.so_far.lines_counted,
                  before,
                  length-append t.answers (answer ∷ []),
                );
                refused_counted = omega (
                  arith,
                  counted.refusal,
                  t.so_far.refused_counted,
                  counted_more t.answers answer,
                );
              };
            },
          )

      -- its answer was cut
      pub ended_cut : Patiently (ReadCall 4_096) (Ok []) tries → (kept ≡ [] → ⊥) → IsCutAnswer answer one
          → Speaks may a d machine reads old (Err faults.Write) new
      ended_cut p k cut =
          let all = with_last machine old t.input kept t.answers counts now t.so_far k in (
            t.calls ++ (tries ++ one),
            joined,
            record {
              input = t.input;
              answers = t.answers ++ answer ∷ [];
              run = first_run machine old (lines_of t.input) (t.so_far.lines ++ t.so_far.part ∷ []) []
                  (t.answers ++ answer ∷ []) new (all ∙ sym (append-nil _)) run;
              in_turn = record {
                n = n;
                first = t.input;
                bytes = [];
                before = t.answers;
                said = [];
                last = answer;
                earlier = t.calls;
                tries = tries;
                replies = [];
                cut = one;
                turns = t.turns;
                within = within;
                read = p;
                sent = refl;
                spoken = cut.spoken;
                stopped = cut.cut;
                input_is = sym (append-nil t.input);
                answers_are = refl;
                calls_are = refl;
                had_ended = omega (arith, run_length machine old _ _ new run, ap length all);
              };
            },
          )

    module _ (bytes : List ℕ) (some : 0 < length bytes) (p : Patiently (ReadCall 4_096) (Ok bytes) tries) (d : D)
        (calls : List Call) (told : Leads may c calls d) where
      all_calls : Leads may a (t.calls ++ (tries ++ calls)) d
      all_calls = leads_join may a b d t.calls (tries ++ calls) t.leads (leads_join may b c d tries calls leads told)

      -- a read gave bytes, and the lines that they ended were answered
      pub turned : (said : List Answer) → AreGiven said calls → (new : S) (kept' : List ℕ) (counts' : Counts)
          → Advances machine now kept counts bytes said new kept' counts'
          → HasTurned may a d machine old (n + 1) kept' counts' new
      turned said given new kept' counts' advances =
          let on = advances old t.input t.answers t.so_far in record {
            input = t.input ++ bytes;
            answers = t.answers ++ said;
            calls = t.calls ++ (tries ++ calls);
            leads = all_calls;
            turns = more n t.input bytes t.answers said t.calls tries calls t.turns some p given
                (ended_answered machine old (t.input ++ bytes) kept' (t.answers ++ said) counts' new on);
            so_far = on;
          }

      -- or an answer to one of them was cut
      pub stopped : (new : S) → Stops machine now kept counts bytes calls new
          → Speaks may a d machine reads old (Err faults.Write) new
      stopped new s =
          let on = s.lines old t.input t.answers t.so_far in
          let first = ended_first (t.input ++ bytes) [] in
          let all : lines_of (t.input ++ bytes) ≡ on.lines ++ (on.rest ++ first.0) =
          ap lines_of (sym (append-nil (t.input ++ bytes))) ∙ first.1 ∙ ap (λ l. l ++ first.0) on.split
          ∙ append_assoc on.lines on.rest first.0 in (
            t.calls ++ (tries ++ calls),
            all_calls,
            record {
              input = t.input ++ bytes;
              answers = t.answers ++ (s.said ++ s.last ∷ []);
              run = first_run machine old (lines_of (t.input ++ bytes)) on.lines (on.rest ++ first.0)
                  (t.answers ++ (s.said ++ s.last ∷ [])) new all on.run;
              in_turn = record {
                n = n;
                first = t.input;
                bytes = bytes;
                before = t.answers;
                said = s.said;
                last = s.last;
                earlier = t.calls;
                tries = tries;
                replies = s.replies;
                cut = s.cut;
                turns = t.turns;
                within = within;
                read = p;
                sent = s.sent;
                spoken = s.stopped.spoken;
                stopped = s.stopped.cut;
                input_is = refl;
                answers_are = refl;
                calls_are = ap (λ l. t.calls ++ (tries ++ l)) s.calls_are;
                had_ended = have_ended t.input bytes some _ (omega (
                  arith,
                  run_length machine old on.lines _ new on.run,
                  ap length on.split,
                  length-append on.lines on.rest,
                ));
              };
            },
          )
