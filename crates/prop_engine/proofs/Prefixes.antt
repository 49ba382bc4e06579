-- A session that stopped can be taken to its end.
use Rattle.std.proofs.Common.{◌≡◌, ℕ, List, [], ◌∷◌, ◌++◌, length, Bool, true, false, cond, eqb, refl, sym, ◌∙◌, ap}
use Rattle.std.proofs.Common.{subst, append_assoc}
use Rattle.std.specs.Prelude.{flat_map, count_by}
use Rattle.std.proofs.lemmas.Grind.{flat_map-append}
use Rattle.prop_engine.specs.Lines.{lines_of, ended_lines, onto_first, onto_ended}
use Rattle.prop_engine.specs.Answers.{Answer, text_written, is_refusal}
use Rattle.prop_engine.specs.Transcripts.{Machine, Run, IsPrefixOfTranscript}
use Rattle.prop_engine.specs.Machines.{IsTotal}

-- a run over some lines goes on over the rest
pub run_on : {S : Type 0} (machine : Machine S) → IsTotal machine
    → (old : S) (lines rest : List (List ℕ)) (answers : List Answer) (mid : S) → Run machine old lines answers mid
    → (more : List Answer) × (new : S) × Run machine old (lines ++ rest) (answers ++ more) new
run_on machine total old [] [] [] mid r = ([], old, refl)
run_on machine total old [] (line ∷ rest) [] mid r =
    let step = total old line in
    let on = run_on machine total old [] rest [] old refl in
    (step.0 ∷ on.0, on.1, (old, step.1, on.2))
run_on machine total old (l ∷ lines) rest (a ∷ answers) mid (m, s, r) =
    let on = run_on machine total m lines rest answers mid r in
    (on.0, on.1, (m, s, on.2))
run_on machine total old [] rest (a ∷ answers) mid r = absurd r
run_on machine total old (l ∷ lines) rest [] mid r = absurd r

pub prefix : {S : Type 0} (machine : Machine S) → IsTotal machine
    → (old : S) (input output : List ℕ) (lines rest : List (List ℕ)) (answers : List Answer) (mid : S)
    (missing : List ℕ) → lines_of input ≡ lines ++ rest → Run machine old lines answers mid
    → flat_map text_written answers ≡ output ++ missing → IsPrefixOfTranscript machine old input output
prefix machine total old input output lines rest answers mid missing e r o =
    let on = run_on machine total old lines rest answers mid r in record {
      rest = missing ++ flat_map text_written on.0;
      lines_count = length (lines_of input);
      refused_count = count_by is_refusal (answers ++ on.0);
      new = on.1;
      transcript = record {
        answers = answers ++ on.0;
        run = subst (λ (l : List (List ℕ)). Run machine old l (answers ++ on.0) on.1) (sym e) on.2;
        output_is = sym (flat_map-append text_written answers on.0 ∙ ap (λ l. l ++ flat_map text_written on.0) o
            ∙ append_assoc output missing (flat_map text_written on.0));
        lines_counted = refl;
        refused_counted = refl;
      };
    }

first_ended : (feed : Bool) (b : ℕ) (lines ended rest : List (List ℕ)) → lines ≡ ended ++ rest
    → (more : List (List ℕ)) × (cond feed ([] ∷ lines) (onto_first b lines) ≡ cond feed ([] ∷ ended)
    (onto_ended b ended) ++ more)
first_ended true b lines ended rest e = (rest, ap (λ l. [] ∷ l) e)
first_ended false b lines [] rest e = (onto_first b lines, refl)
first_ended false b lines (l ∷ ended) rest e = (rest, ap (onto_first b) e)

pub ended_first : (input more : List ℕ)
    → (rest : List (List ℕ)) × (lines_of (input ++ more) ≡ ended_lines input ++ rest)
ended_first [] more = (lines_of more, refl)
ended_first (b ∷ input) more =
    let on = ended_first input more in
    first_ended (eqb b 10) b (lines_of (input ++ more)) (ended_lines input) on.0 on.1
