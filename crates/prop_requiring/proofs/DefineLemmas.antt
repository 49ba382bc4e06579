-- What a line defines, and what follows then.
use Rattle.std.proofs.Common.{◌≡◌, ◌∙◌, ◌⊎◌, ◌++◌, ◌∷◌, ◌+◌, [], ℕ, zero, suc, ◌<◌, ◌≤◌, ◌==◌, true, false, List}
use Rattle.std.proofs.Common.{Result, Ok, Err, Option, Some, None, add-one, ap, arith, codes, drop, drop-cons}
use Rattle.std.proofs.Common.{eqb-true, get_or, inl, inr, length, refl, subst, sym, take}
use Rattle.std.specs.Prelude.{⊤, cond, not}
use Rattle.std.specs.Result.{is_ok}
use Rattle.std.specs.declared.vec.Vec.{Vec}
use Rattle.std.proofs.lemmas.Bool.{and_parts}
use Rattle.std.proofs.lemmas.List.{take-append-drop, take_all}
use Rattle.prop_refusals.specs.declared.refusal.Limit.{Limit}
use Rattle.prop_refusals.specs.declared.refusal.Refusal.{Refusal}
use Rattle.prop_refusals.specs.declared.refusal.Refusal.TheVariants.{LimitReached, LineTooLong, Memory, WrongForm}
use Rattle.prop_lattice.specs.declared.info.Info.{Info}
use Rattle.prop_lattice.specs.declared.info.Info.TheVariants as infos
use Rattle.prop_lattice.specs.declared.info.Kind.TheVariants as kinds
use Rattle.prop_lattice.specs.declared.span.Span.{Span}
use Rattle.prop_vocabulary.specs.Values.{Known, Meant, halves, known, span_value, value_said}
use Rattle.prop_procedures.specs.Stored.{Stored}
use Rattle.prop_language.specs.Commands.{Bare}
use Rattle.prop_language.specs.Reading.{IsReading}
use Rattle.prop_engine.specs.Answers.{Answer, Done, Refused, Silent, Text, answer_done}
use Rattle.prop_terms.specs.Terms.{Name, Term, Two}
use Rattle.prop_terms.specs.Writing.{IsWritten}
use Rattle.prop_terms.specs.declared.forming.Sort.{Sort}
use Rattle.prop_terms.specs.declared.forming.Sort.TheVariants.{Any, Truth}
use Rattle.prop_terms.specs.declared.operators.Infix.TheVariants.{Equal}
use Rattle.prop_workbench.specs.Questions.{Picks}
use Rattle.prop_seeking.specs.Seeking.{Sought}
use Rattle.prop_blaming.specs.Blaming.{blaming}
use Rattle.prop_notes.specs.Notes.{is_done}
use Rattle.prop_demands.specs.Refusing.{IsRefused, is_of_term}
use Rattle.prop_requiring.specs.Asking.{HasNoEquals, IsAsked, IsDefined, cell_line}
use Rattle.prop_requiring.proofs.AskLemmas.{trimmed_says}
use Rattle.prop_requiring.specs.Requiring.{Declares, IsUndefined, Puts, Requires}
use Rattle.prop_requiring.specs.inner.Parts.{trimmed}
use Rattle.prop_requiring.specs.inner.Puttings.{Carries, IsHindered, MayFix, MayPass, MayPut}

-- ---- the first equals sign

no_equals_more : (xs : List ℕ) (k : ℕ) → k < length xs → HasNoEquals (take k xs) → (get_or xs k 0 == 61) ≡ false
    → HasNoEquals (take (suc k) xs)
no_equals_more [] k l h e = absurd (omega (arith, l))
no_equals_more (x ∷ xs) zero l h e = rw e refl
no_equals_more (x ∷ xs) (suc k) l h e =
    let p = and_parts (not (x == 61)) _ h in
    rw p.0 (no_equals_more xs k (omega (arith, l)) p.1 e)

pub no_equals_next : (xs : List ℕ) (k : ℕ) → k < length xs → HasNoEquals (take k xs) → (get_or xs k 0 == 61) ≡ false
    → HasNoEquals (take (k + 1) xs)
no_equals_next xs k l h e = rw add-one (no_equals_more xs k l h e)

pub no_equals_all : (xs : List ℕ) (k : ℕ) → length xs ≤ k → HasNoEquals (take k xs) → HasNoEquals xs
no_equals_all xs k l h = subst HasNoEquals (take_all k xs l) h

pub split_at : (xs : List ℕ) (k : ℕ) → k < length xs → (get_or xs k 0 == 61) ≡ true
    → xs ≡ take k xs ++ 61 ∷ drop (k + 1) xs
split_at xs k l e =
    rw add-one (sym (take-append-drop k xs) ∙ ap (λ l. take k xs ++ l) (drop-cons xs k 0 l)
    ∙ ap (λ y. take k xs ++ y ∷ drop (suc k) xs) (eqb-true (get_or xs k 0) 61 e))

-- ---- what a line defines

pub defined_is : (behind before text rest : List ℕ) → length behind ≤ 4_093 → HasNoEquals before
    → behind ≡ before ++ 61 ∷ rest → text ≡ trimmed rest → IsDefined (codes "let" ++ behind) before text
defined_is behind before text rest few first e is =
    let r = trimmed_says rest in
    record {
      few = omega arith;
      end = r.0;
      spaces = r.1;
      parts = ap (λ l. codes "let" ++ l) (e ∙ ap (λ l. before ++ 61 ∷ l) (r.2 ∙ ap (λ l. l ++ r.0) (sym is)));
      first = first;
    }

-- ---- refusals

pub read_refused : (sort : Sort) (text : List ℕ) (e : Refusal)
    → (e ≡ Memory) ⊎ ((e ≡ LineTooLong) × (4_096 < length text))
    ⊎ ((e ≡ WrongForm) × ((t : Term) → IsWritten sort text t → ⊥)) → IsRefused sort text e
read_refused sort text e (inl memory) = inl memory
read_refused sort text e (inr (inl long)) = inr (inl long)
read_refused sort text e (inr (inr none)) = inr (inr (inl none))

pub unparted : (line : List ℕ) (e : Refusal) → ((e ≡ LineTooLong) × (4_096 < length line))
    ⊎ ((e ≡ WrongForm) × (length line ≤ 4_096) × HasNoEquals line) → IsUndefined line e
unparted line e (inl long) = inl long
unparted line e (inr none) = inr (inl none)

pub of_term : (sort : Sort) (text : List ℕ) (t : Term) → IsWritten sort text t → (e : Refusal)
    → (e ≡ Memory) ⊎ (is_of_term e ≡ true) → IsRefused sort text e
of_term sort text t writes e (inl memory) = inl memory
of_term sort text t writes e (inr is) = inr (inr (inr (t, writes, is)))

pub not_known : (before text : List ℕ) (t : Term) → IsWritten Any text t → (e : Refusal)
    → ((e ≡ Memory) ⊎ (is_of_term e ≡ true)) ⊎ ((limit : Limit) × (e ≡ LimitReached limit))
    → IsHindered before text e
not_known before text t writes e (inl of) = inl (of_term Any text t writes e of)
not_known before text t writes e (inr limit) = inr (inr limit)

pub not_declared : (before text : List ℕ) (e : Refusal)
    → (e ≡ Memory) ⊎ IsReading (cell_line before (codes "span")) (Err e) → IsHindered before text e
not_declared before text e (inl memory) = inl (inl memory)
not_declared before text e (inr reads) = inr (inl reads)

-- ---- answers

pub done_is : (answer : Answer) → is_done answer ≡ true → answer ≡ Done
done_is Done e = refl
done_is Silent e = cc
done_is (Text text) e = cc
done_is (Refused reason) e = cc

-- ---- values

pub known_is : (r : Result Info Refusal) (info : Info) → known r ≡ Ok (Known info) → r ≡ Ok info
known_is (Ok i) info e = let same : i ≡ info = cc in ap (λ x. Ok x) same
known_is (Err refusal) info e = absurd (let no : ⊥ = cc in no)

pub says_span : (names : List (List ℕ)) (word : List ℕ) (meant : Meant) (said span : Span)
    → value_said kinds.Span names (Bare word) ≡ Ok meant → meant ≡ Known (infos.Span said) → said ≡ span
    → span_value (halves word) ≡ Ok (infos.Span span)
says_span names word meant said span e is same =
    known_is (span_value (halves word)) (infos.Span span)
    (e ∙ ap (λ m. Ok m) (is ∙ ap (λ s. Known (infos.Span s)) same))

-- ---- what is put

-- where a term is put for what a line says, what is required is done
pub requires_put : {O : Type 0} (library : List Stored) (old : Sought O) (line text : List ℕ)
    (premise : Option (List ℕ)) (t : Term) (result : Result ⊤ Refusal) (new : Sought O) → IsAsked line text premise
    → IsWritten Truth text t → MayPut library old t premise result new
    → Requires library old line (answer_done result) new
requires_put library old line text premise t result new asked writes (inl (e, is, why, same)) =
    inl (e, inr (text, premise, asked, of_term Truth text t writes e why), ap answer_done is, same)
requires_put library old line text premise t result new asked writes (inr puts) = inr (record {
  term = t;
  premise = premise;
  says = record { text = text; asked = asked; writes = writes };
  result = result;
  answer_is = refl;
  puts = puts;
})

-- what follows on a put of the equation of a cell
abbrev After : {O : Type 0} → List Stored → Sought O → Term → Answer → Sought O → Type 0
After library fixed equation answer new = ((answer ≡ Refused Memory) × (new ≡ fixed))
    ⊎ ((result : Result ⊤ Refusal) × (answer ≡ cond (is_ok result) Done (Refused Memory))
    × Puts library fixed equation None result new)

pub after_ok : {O : Type 0} (library : List Stored) (fixed : Sought O) (equation : Term) (new : Sought O)
    → MayPut library fixed equation None (Ok tt) new → After library fixed equation Done new
after_ok library fixed equation new (inl (e, is, why, same)) = absurd (let no : ⊥ = cc in no)
after_ok library fixed equation new (inr puts) = inr (Ok tt, refl, puts)

pub after_err : {O : Type 0} (library : List Stored) (fixed : Sought O) (equation : Term) (reason : Refusal)
    (new : Sought O) → MayPut library fixed equation None (Err reason) new
    → After library fixed equation (Refused Memory) new
after_err library fixed equation reason new (inl (e, is, why, same)) = inl (refl, same)
after_err library fixed equation reason new (inr puts) = inr (Err reason, refl, puts)

-- a cell is declared, a line given, and the equation put
pub carried : {O Z : Type 0} (picks : Picks O) (library : List Stored) (old : Sought O) (declaring : List ℕ)
    (fixing : Option (Vec ℕ Z)) (equation : Term) (reply answer : Answer) (declared fixed new : Sought O)
    → is_done reply ≡ true → blaming picks library old declaring reply declared
    → MayPass picks library declared fixing fixed → After library fixed equation answer new
    → Carries picks library old declaring fixing equation answer new
carried picks library old declaring fixing equation reply answer declared fixed new done blames passes after =
    let P : Answer → Type 0 = λ a. blaming picks library old declaring a declared in
    inr (declared, fixed, subst P (done_is reply done) blames, passes, after)

-- a cell that is declared by what was prepared, is declared as the machine does it
pub declares_from : {O Z : Type 0} (picks : Picks O) (library : List Stored) (old : Sought O)
    (declaring name : List ℕ) (t : Term) (span : Span) (fixing : Option (Vec ℕ Z)) (equation : Term) (answer : Answer)
    (new : Sought O) → MayFix name span fixing → equation ≡ Two Equal (Name name) t
    → Carries picks library old declaring fixing equation answer new
    → Declares picks library old declaring name t span answer new
declares_from picks library old declaring name t span fixing equation answer new fixes is (inl not_done) = inl not_done
declares_from picks library old declaring name t span None equation answer new fixes is
    (inr (declared, fixed, done, passes, after)) =
    inr (declared, fixed, done, inl passes, subst (λ (q : Term). After library fixed q answer new) is after)
declares_from picks library old declaring name t span (Some line) equation answer new fixes is
    (inr (declared, fixed, done, (other, passes), after)) =
    inr (
      declared,
      fixed,
      done,
      inr (line.items, fixes.0, other, fixes.1, fixes.2, passes),
      subst (λ (q : Term). After library fixed q answer new) is after,
    )
