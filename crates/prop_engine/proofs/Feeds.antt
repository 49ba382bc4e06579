-- A piece of the input, a line at a time.
use Rattle.std.proofs.Common.{◌≡◌, ℕ, ◌+◌, ◌<◌, ◌≤◌, List, [], ◌∷◌, ◌++◌, length, take, drop, get_or, refl, sym, ◌∙◌}
use Rattle.std.proofs.Common.{ap, arith}
use Rattle.std.proofs.Common.{subst, append_assoc, append-nil}
use Rattle.std.specs.Prelude.{true, false, cond, Result, Ok, Err, OnErr}
use Rattle.std.proofs.lemmas.List.{take_all, take_more, drop_more, take-append-drop, length-append}
use Rattle.prop_engine.specs.Lines.{kept_of}
use Rattle.prop_engine.specs.Answers.{Answer, is_refusal}
use Rattle.prop_engine.specs.Calls.{Call, Leads}
use Rattle.prop_engine.specs.Dialogues.{AreGiven, IsGiven}
use Rattle.prop_engine.specs.Transcripts.{Machine}
use Rattle.prop_engine.specs.inner.Progress.{CountsAnswer, Advances, Stops, GrowsAtMost, IsCutAnswer, HasCarriedOut}
use Rattle.prop_engine.specs.inner.Progress.{refusals}
use Rattle.prop_engine.specs.inner.Lines.{IsWithoutFeed}
use Rattle.prop_engine.specs.declared.outcome.Counts.{Counts}
use Rattle.prop_engine.specs.Machines.{AsksByPrefix}
use Rattle.prop_engine.proofs.Leading.{leads_join}
use Rattle.prop_engine.proofs.Runs.{bytes_progress, line_progress, line_carried_out}
use Rattle.prop_engine.proofs.Sent.{given_more}

-- what holds anyway holds at an error
pub on_err : {T E : Type 0} (r : Result T E) (P : Type 0) → P → OnErr r P
on_err (Ok x) P p = tt
on_err (Err e) P p = p

-- a list at one of its places
pub at_place : (xs : List ℕ) (i b : ℕ) → i < length xs → get_or xs i 0 ≡ b → xs ≡ take i xs ++ b ∷ drop (i + 1) xs
at_place xs i b h e = sym (take-append-drop i xs)
    ∙ ap (λ l. take i xs ++ l) (drop_more xs i 0 h ∙ ap (λ x. x ∷ drop (i + 1) xs) e)

pub next_place : (xs : List ℕ) (i b : ℕ) → i < length xs → get_or xs i 0 ≡ b → take (i + 1) xs ≡ take i xs ++ b ∷ []
next_place xs i b h e = take_more xs i 0 h ∙ ap (λ x. take i xs ++ x ∷ []) e

-- ---- line after line

-- the piece up to what is left was answered, and the answers were sent
pub record IsFed {D S : Type 0} (may : D → Call → D → Type 0) (a b : D) (machine : Machine S) (now : S)
    (kept : List ℕ) (counts : Counts) (piece left : List ℕ) (now' : S) (kept' : List ℕ) (counts' : Counts) :
    Type 0 where
  pub done : List ℕ
  pub said : List Answer
  pub calls : List Call
  pub split : piece ≡ done ++ left
  pub leads : Leads may a calls b
  pub sent : AreGiven said calls
  pub so_far : Advances machine now kept counts done said now' kept' counts'
  pub bounded : GrowsAtMost counts counts' (length done)

pub feed_start : {D S : Type 0} (may : D → Call → D → Type 0) (a : D) (machine : Machine S) (now : S) (kept : List ℕ)
    (counts : Counts) (piece : List ℕ) → IsFed may a a machine now kept counts piece piece now kept counts
feed_start may a machine now kept counts piece = record {
  done = [];
  said = [];
  calls = [];
  split = refl;
  leads = refl;
  sent = refl;
  so_far = λ old input before p. rw (append-nil input, append-nil before) p;
  bounded = record { lines = omega arith; refused = omega arith };
}

at_most_one : (answer : Answer) → refusals answer ≤ 1
at_most_one answer = elim (is_refusal answer) as (λ b. cond b 1 0 ≤ 1) [ true ↦ omega arith | false ↦ omega arith ]

grows : (old mid new : Counts) (i j : ℕ) (answer : Answer) → GrowsAtMost old mid i → CountsAnswer mid new answer
    → i + 1 ≤ j → GrowsAtMost old new j
grows old mid new i j answer g c h = record {
  lines = omega (arith, g.lines, c.line, h);
  refused = omega (arith, g.refused, c.refusal, at_most_one answer, h);
}

module _ {D S : Type 0} (may : D → Call → D → Type 0) (a b : D) (machine : Machine S) (now : S) (kept : List ℕ)
    (counts : Counts) (piece left : List ℕ) (now' : S) (kept' : List ℕ) (counts' : Counts)
    (fed : IsFed may a b machine now kept counts piece left now' kept' counts') where
  to_bytes : (bytes kept'' : List ℕ) → IsWithoutFeed bytes → kept'' ≡ kept_of (kept' ++ bytes)
      → Advances machine now kept counts (fed.done ++ bytes) fed.said now' kept'' counts'
  to_bytes bytes kept'' h k old input before p =
      bytes_progress machine old (input ++ fed.done) kept' (before ++ fed.said) counts' now' (fed.so_far old input
      before p)
      bytes h (input ++ (fed.done ++ bytes)) (sym (append_assoc input fed.done bytes)) kept'' k

  -- the whole piece was taken
  pub fed_end : (kept'' : List ℕ) → IsWithoutFeed left → kept'' ≡ kept_of (kept' ++ left)
      → ((said : List Answer) × (calls : List Call) × Leads may a calls b × AreGiven said calls
      × Advances machine now kept counts piece said now' kept'' counts') × GrowsAtMost counts counts' (length piece)
  fed_end kept'' h k =
      let longer : length piece ≡ length fed.done + length left = ap length fed.split
      ∙ length-append fed.done left in (
        (
          fed.said,
          fed.calls,
          fed.leads,
          fed.sent,
          subst (λ (l : List ℕ). Advances machine now kept counts l fed.said now' kept'' counts') (sym fed.split)
              (to_bytes left kept'' h k),
        ),
        record {
          lines = omega (arith, fed.bounded.lines, longer);
          refused = omega (arith, fed.bounded.refused, longer);
        },
      )

  module _ (front rest : List ℕ) (left_is : left ≡ front ++ 10 ∷ rest) (plain : IsWithoutFeed front) (line : List ℕ)
      (line_is : line ≡ kept_of (kept' ++ front)) where
    longer : length piece ≡ length fed.done + (length front + (length rest + 1))
    longer = omega (
      arith,
      ap length fed.split,
      length-append fed.done left,
      ap length left_is,
      length-append front (10 ∷ rest),
    )

    whole : piece ≡ (fed.done ++ front) ++ 10 ∷ rest
    whole = fed.split ∙ ap (λ l. fed.done ++ l) left_is ∙ sym (append_assoc fed.done front (10 ∷ rest))

    -- there is room to count the line
    pub fed_room : (counts'.lines + 1 ≤ counts.lines + length piece) × (counts'.refused + 1 ≤ counts.refused
        + length piece)
    fed_room = (omega (arith, fed.bounded.lines, longer), omega (arith, fed.bounded.refused, longer))

    module _ (asks : AsksByPrefix machine) (c : D) (answer : Answer) (new : S) (one : List Call)
        (leads : Leads may b one c) (s : machine now' line answer new) where
      pub fed_line : (counts'' : Counts) → IsGiven answer one → CountsAnswer counts' counts'' answer
          → (cleared : List ℕ) → cleared ≡ [] → (n : ℕ) → length rest ≤ n
          → IsFed may a c machine now kept counts piece (take n rest) new cleared counts''
      fed_line counts'' given counted cleared none n all = record {
        done = (fed.done ++ front) ++ 10 ∷ [];
        said = fed.said ++ answer ∷ [];
        calls = fed.calls ++ one;
        split = whole ∙ sym (append_assoc (fed.done ++ front) (10 ∷ []) rest)
            ∙ ap (λ l. ((fed.done ++ front) ++ 10 ∷ []) ++ l) (sym (take_all n rest all));
        leads = leads_join may a b c fed.calls one fed.leads leads;
        sent = given_more fed.said answer fed.calls one fed.sent given;
        so_far = λ old input before p.
            let q = line_progress machine old (input ++ (fed.done ++ front)) line (before ++ fed.said) counts' now'
            (to_bytes front line plain line_is old input before p) asks answer new s counts'' counted
            (input ++ ((fed.done ++ front) ++ 10 ∷ [])) (sym (append_assoc input (fed.done ++ front) (10 ∷ []))) in
            rw (none, ← append_assoc before fed.said (answer ∷ [])) q;
        bounded = grows counts counts' counts'' (length fed.done) (length ((fed.done ++ front) ++ 10 ∷ [])) answer
            fed.bounded counted
            (omega (arith, length-append (fed.done ++ front) (10 ∷ []), length-append fed.done front));
      }

      pub fed_stop : IsCutAnswer answer one
          → (calls : List Call) × Leads may a calls c × Stops machine now kept counts piece calls new
      fed_stop cut = (
        fed.calls ++ one,
        leads_join may a b c fed.calls one fed.leads leads,
        record {
          said = fed.said;
          last = answer;
          replies = fed.calls;
          cut = one;
          sent = fed.sent;
          stopped = cut;
          calls_are = refl;
          lines = λ old input before p.
              let w : input ++ piece ≡ (input ++ (fed.done ++ front)) ++ 10 ∷ rest = ap (λ l. input ++ l) whole
              ∙ sym (append_assoc input (fed.done ++ front) (10 ∷ rest)) in
              let q = line_carried_out machine old (input ++ (fed.done ++ front)) line (before ++ fed.said) counts' now'
              (to_bytes front line plain line_is old input before p) asks answer new s rest (input ++ piece) w in
              subst (λ (l : List Answer). HasCarriedOut machine old (input ++ piece) l new)
              (append_assoc before fed.said (answer ∷ [])) q;
        },
      )
