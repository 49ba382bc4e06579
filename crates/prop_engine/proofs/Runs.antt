-- Runs, a line at a time.
use Rattle.std.proofs.Common.{◌≡◌, ℕ, ◌+◌, ◌<◌, List, [], ◌∷◌, ◌++◌, length, take, cond, refl, sym, ◌∙◌, ap, subst}
use Rattle.std.proofs.Common.{append_assoc, append-nil, inl, inr, arith, lit<, suc}
use Rattle.std.specs.Prelude.{count_by}
use Rattle.std.proofs.lemmas.List.{length-take, length_push, take_all, take-append-le, take_at}
use Rattle.std.proofs.lemmas.List.{nil_from_length}
use Rattle.std.proofs.lemmas.List.Sums.{fold_push}
use Rattle.std.proofs.lemmas.Bool.{cases_lt}
use Rattle.prop_engine.specs.Lines.{lines_of, ended_lines, kept_of}
use Rattle.prop_engine.specs.inner.Lines.{IsWithoutFeed}
use Rattle.prop_engine.specs.Answers.{Answer, is_refusal}
use Rattle.prop_engine.specs.Transcripts.{Machine, Run}
use Rattle.prop_engine.specs.inner.Progress.{Progress, CountsAnswer, HasCarriedOut, refusals}
use Rattle.prop_engine.specs.declared.outcome.Counts.{Counts}
use Rattle.prop_engine.proofs.Lines.{at_feed, ended_at_feed, last_line, none_ended, without_more}
use Rattle.prop_engine.specs.Machines.{AsksByPrefix}

-- a run goes on by one step
pub run_more : {S : Type 0} (machine : Machine S) (old : S) (lines : List (List ℕ)) (answers : List Answer) (mid : S)
    (line : List ℕ) (answer : Answer) (new : S) → Run machine old lines answers mid → machine mid line answer new
    → Run machine old (lines ++ line ∷ []) (answers ++ answer ∷ []) new
run_more {S = S} machine old [] [] mid line answer new r s =
    (new, subst (λ (n : S). machine n line answer new) r s, refl)
run_more machine old (l ∷ lines) (a ∷ answers) mid line answer new (m, s, r) t =
    (m, s, run_more machine m lines answers mid line answer new r t)
run_more machine old [] (a ∷ answers) mid line answer new r s = absurd r
run_more machine old (l ∷ lines) [] mid line answer new r s = absurd r

pub empty_kept : kept_of [] ≡ []
unfolding kept_of
empty_kept = refl

take_onto : (n : ℕ) (xs ys : List ℕ) → take n (take n xs ++ ys) ≡ take n (xs ++ ys)
take_onto n xs ys = elim (cases_lt n (length xs)) [
  | inl h ↦
      let full : length (take n xs) ≡ n = length-take n xs ∙ omega arith in
      take_at (take n xs) ys n full ∙ sym (take-append-le n xs ys (omega arith))
  | inr h ↦ ap (λ l. take n (l ++ ys)) (take_all n xs h)
]

kept_more : (part bytes : List ℕ) → kept_of (kept_of part ++ bytes) ≡ kept_of (part ++ bytes)
unfolding kept_of
kept_more part bytes = take_onto 4097 part bytes

-- what is kept of a line is empty only where the line is
nothing_taken : (n : ℕ) (xs : List ℕ) → 0 < n → take n xs ≡ [] → xs ≡ []
nothing_taken n xs h e = nil_from_length xs (omega (arith, length-take n xs, ap length e))

kept_nothing : (part : List ℕ) → kept_of part ≡ [] → part ≡ []
unfolding kept_of
kept_nothing part e = nothing_taken 4097 part (lit< tt) e

one_line : (part : List ℕ) → IsWithoutFeed part → (part ≡ [] → ⊥) → lines_of part ≡ part ∷ []
one_line [] p h = absurd (h refl)
one_line (b ∷ part) p h = last_line b part p

pub counted_more : (answers : List Answer) (answer : Answer)
    → count_by is_refusal (answers ++ answer ∷ []) ≡ count_by is_refusal answers + refusals answer
counted_more answers answer = fold_push (λ n a. n + cond (is_refusal a) 1 0) 0 answers answer

pub start_progress : {S : Type 0} (machine : Machine S) (now : S) (counts : Counts) → counts.lines ≡ 0
    → counts.refused ≡ 0 → (kept : List ℕ) → kept ≡ [] → Progress machine now [] kept [] counts now
start_progress machine now counts l r kept k = record {
  lines = [];
  part = [];
  split = λ more. refl;
  ended = λ more. refl;
  plain = tt;
  kept_is = k ∙ sym empty_kept;
  run = refl;
  lines_counted = l;
  refused_counted = r;
}

-- as many lines were run as there are answers
pub run_length : {S : Type 0} (machine : Machine S) (old : S) (lines : List (List ℕ)) (answers : List Answer) (new : S)
    → Run machine old lines answers new → length answers ≡ length lines
run_length machine old [] [] new r = refl
run_length machine old [] (answer ∷ answers) new r = absurd r
run_length machine old (line ∷ lines) [] new r = absurd r
run_length machine old (line ∷ lines) (answer ∷ answers) new (mid, one, r) =
    ap suc (run_length machine mid lines answers new r)

-- lines that are the first of an input, as many as there are answers
pub first_run : {S : Type 0} (machine : Machine S) (old : S) (all lines rest : List (List ℕ)) (answers : List Answer)
    (new : S) → all ≡ lines ++ rest → Run machine old lines answers new
    → Run machine old (take (length answers) all) answers new
first_run machine old all lines rest answers new e r =
    let first : take (length answers) all ≡ lines = ap (take (length answers)) e
    ∙ take_at lines rest (length answers) (sym (run_length machine old lines answers new r)) in
    subst (λ (l : List (List ℕ)). Run machine old l answers new) (sym first) r

module _ {S : Type 0} (machine : Machine S) (old : S) (input kept : List ℕ) (before : List Answer) (counts : Counts)
    (now : S) (p : Progress machine old input kept before counts now) where
  -- more bytes of a line
  pub bytes_progress : (bytes : List ℕ) → IsWithoutFeed bytes → (whole : List ℕ) → whole ≡ input ++ bytes
      → (kept' : List ℕ) → kept' ≡ kept_of (kept ++ bytes) → Progress machine old whole kept' before counts now
  bytes_progress bytes h whole w kept' k = record {
    lines = p.lines;
    part = p.part ++ bytes;
    split = λ more. rw (w, append_assoc input, append_assoc p.part) (p.split (bytes ++ more));
    ended = λ more. rw (w, append_assoc input, append_assoc p.part) (p.ended (bytes ++ more));
    plain = without_more p.part bytes p.plain h;
    kept_is = k ∙ ap (λ l. kept_of (l ++ bytes)) p.kept_is ∙ kept_more p.part bytes;
    run = p.run;
    lines_counted = p.lines_counted;
    refused_counted = p.refused_counted;
  }

  -- the lines that have ended are those that were run
  pub lines_ended : ended_lines input ≡ p.lines
  lines_ended = ap ended_lines (sym (append-nil input)) ∙ p.ended []
      ∙ ap (λ l. p.lines ++ ended_lines l) (append-nil p.part) ∙ ap (λ l. p.lines ++ l) (none_ended p.part p.plain)
      ∙ append-nil p.lines

  pub ended_answered : length before ≡ length (ended_lines input)
  ended_answered = run_length machine old p.lines before now p.run ∙ sym (ap length lines_ended)

  -- the lines of the input, at its end
  pub lines_at_end : lines_of input ≡ p.lines ++ lines_of p.part
  lines_at_end = ap lines_of (sym (append-nil input)) ∙ p.split [] ∙ ap (λ l. p.lines ++ lines_of l) (append-nil p.part)

  -- those that were run are the first of the input
  pub progress_run : Run machine old (take (length before) (lines_of input)) before now
  progress_run = first_run machine old (lines_of input) p.lines (lines_of p.part) before now lines_at_end p.run

  -- right behind a line feed, or with no byte before it, there are no others
  pub no_last : kept ≡ [] → lines_of input ≡ p.lines
  no_last h =
      let empty : p.part ≡ [] = kept_nothing p.part (sym p.kept_is ∙ h) in
      lines_at_end ∙ ap (λ l. p.lines ++ lines_of l) empty ∙ append-nil p.lines

  -- and else the bytes that are left are the last one
  pub with_last : (kept ≡ [] → ⊥) → lines_of input ≡ p.lines ++ p.part ∷ []
  with_last h = lines_at_end
      ∙ ap (λ l. p.lines ++ l) (one_line p.part p.plain (λ e. h (p.kept_is ∙ ap kept_of e ∙ empty_kept)))

  module _ (prefix : AsksByPrefix machine) (answer : Answer) (new : S) (s : machine now kept answer new) where
    -- the run with the line of the part, of which a prefix was carried out
    pub part_run : Run machine old (p.lines ++ p.part ∷ []) (before ++ answer ∷ []) new
    part_run = run_more machine old p.lines before now p.part answer new p.run
        (prefix now p.part answer new (subst (λ (l : List ℕ). machine now l answer new) p.kept_is s))

    -- a line feed: the line was answered
    pub line_progress : (counts' : Counts) → CountsAnswer counts counts' answer → (whole : List ℕ)
        → whole ≡ input ++ 10 ∷ [] → Progress machine old whole [] (before ++ answer ∷ []) counts' new
    line_progress counts' c whole w = record {
      lines = p.lines ++ p.part ∷ [];
      part = [];
      split = λ more. rw (w, append_assoc input, append_assoc p.lines)
          (p.split (10 ∷ more) ∙ ap (λ l. p.lines ++ l) (at_feed p.part more p.plain));
      ended = λ more. rw (w, append_assoc input, append_assoc p.lines)
          (p.ended (10 ∷ more) ∙ ap (λ l. p.lines ++ l) (ended_at_feed p.part more p.plain));
      plain = tt;
      kept_is = sym empty_kept;
      run = part_run;
      lines_counted = omega (arith, c.line, p.lines_counted, length_push p.lines p.part);
      refused_counted = omega (arith, c.refusal, p.refused_counted, counted_more before answer);
    }

    -- a line feed: the line was carried out, whatever came of its answer
    pub line_carried_out : (more whole : List ℕ) → whole ≡ input ++ 10 ∷ more
        → HasCarriedOut machine old whole (before ++ answer ∷ []) new
    line_carried_out more whole w = record {
      lines = p.lines ++ p.part ∷ [];
      rest = ended_lines more;
      run = part_run;
      split = rw (w, append_assoc p.lines)
          (p.ended (10 ∷ more) ∙ ap (λ l. p.lines ++ l) (ended_at_feed p.part more p.plain));
    }
