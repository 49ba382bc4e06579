-- A line that keeps words is heard: it is no silent line.
use Rattle.std.proofs.Common.{◌≡◌, ℕ, Bool, true, false, cond, not, ◌==◌, List, [], ◌∷◌, Option, Some, None, Result, Ok}
use Rattle.std.proofs.Common.{Err, ◌⊎◌, inl, inr, refl, sym, subst, arith}
use Rattle.std.specs.List.{list_all}
use Rattle.std.proofs.lemmas.Bool.{eqb-true}
use Rattle.prop_refusals.specs.declared.refusal.Refusal.{Refusal}
use Rattle.prop_refusals.specs.declared.refusal.Refusal.TheVariants.{Memory, NotAName, NotANumber}
use Rattle.prop_procedures.specs.Stored.{Stored}
use Rattle.prop_language.specs.Commands.{Command}
use Rattle.prop_language.specs.Tokens.{Token, Word, tokens, is_blank, front_word}
use Rattle.prop_language.specs.Reading.{AskFor, IsReading, AsRead, is_silent}
use Rattle.prop_language.specs.inner.Judged.{judged}
use Rattle.prop_language.specs.inner.Lines.{without_return}
use Rattle.prop_language.specs.Spelling.{Part}
use Rattle.prop_language.specs.inner.Judged.{is_named, is_ranged}
use Rattle.prop_language.proofs.ReadingLaws.{have_one_reading}
use Rattle.prop_language.specs.Said.{KeepsWords}
use Rattle.prop_engine.specs.Answers.{Refused}
use Rattle.prop_workbench.specs.Machine.{State}
use Rattle.prop_workbench.specs.Steps.{Follows}
use Rattle.prop_workbench.proofs.StepLemmas.{lacks}

-- a silent line has no word, or a first word that begins with a number sign
silent_tokens : (bytes : List ℕ) → is_silent bytes ≡ true
    → (tokens bytes ≡ []) ⊎ ((w : List ℕ) × (ts : List Token) × (tokens bytes ≡ Word (35 ∷ w) ∷ ts))
silent_tokens [] h = inl refl
silent_tokens (b ∷ bytes) h = by (silent_tokens bytes) (is_blank b) refl h
  where
    begins : b ≡ 35 → (tokens (b ∷ bytes) ≡ [])
        ⊎ ((w : List ℕ) × (ts : List Token) × (tokens (b ∷ bytes) ≡ Word (35 ∷ w) ∷ ts))
    begins e =
        subst (λ (c : ℕ). (tokens (c ∷ bytes) ≡ [])
        ⊎ ((w : List ℕ) × (ts : List Token) × (tokens (c ∷ bytes) ≡ Word (35 ∷ w) ∷ ts))) (sym e)
        (inr ((front_word bytes).0, (front_word bytes).1, refl))

    by : (is_silent bytes ≡ true → (tokens bytes ≡ [])
        ⊎ ((w : List ℕ) × (ts : List Token) × (tokens bytes ≡ Word (35 ∷ w) ∷ ts))) → (t : Bool) → is_blank b ≡ t
        → cond t (is_silent bytes) (b == 35) ≡ true →
        (tokens (b ∷ bytes) ≡ []) ⊎ ((w : List ℕ) × (ts : List Token) × (tokens (b ∷ bytes) ≡ Word (35 ∷ w) ∷ ts))
    by rest true e s = rw e (rest s)
    by rest false e s = begins (eqb-true b 35 s)

heads : {a b : ℕ} {xs ys : List ℕ} → a ∷ xs ≡ b ∷ ys → a ≡ b
heads e = cc

keeps_no_comment : (w : List ℕ) (ts : List Token) → KeepsWords (Word (35 ∷ w) ∷ ts) → ⊥
keeps_no_comment w ts (inl e) = let h : 35 ≡ 100 = heads e in omega (arith, h)
keeps_no_comment w ts (inr (inl e)) = let h : 35 ≡ 114 = heads e in omega (arith, h)
keeps_no_comment w ts (inr (inr (inl e))) = let h : 35 ≡ 100 = heads e in omega (arith, h)
keeps_no_comment w ts (inr (inr (inr (inl e)))) = let h : 35 ≡ 97 = heads e in omega (arith, h)
keeps_no_comment w ts (inr (inr (inr (inr (inl e))))) = let h : 35 ≡ 99 = heads e in omega (arith, h)
keeps_no_comment w ts (inr (inr (inr (inr (inr (inl e, more)))))) = let h : 35 ≡ 102 = heads e in omega (arith, h)
keeps_no_comment w ts (inr (inr (inr (inr (inr (inr e, more)))))) = let h : 35 ≡ 116 = heads e in omega (arith, h)

heard_words : (text : List ℕ) → KeepsWords (tokens text) → is_silent text ≡ true → ⊥
heard_words text keeps h = by (silent_tokens text h)
  where
    by : (tokens text ≡ []) ⊎ ((w : List ℕ) × (ts : List Token) × (tokens text ≡ Word (35 ∷ w) ∷ ts)) → ⊥
    by (inl e) = subst KeepsWords e keeps
    by (inr p) = keeps_no_comment p.0 p.1 (subst KeepsWords p.2 keeps)

judged_heard : (ps : List Part) (command : Command) → Ok None ≡ judged ps command → ⊥
judged_heard ps command h = by (not (list_all is_named ps)) (not (list_all is_ranged ps)) h
  where
    by : (s t : Bool) → Ok None ≡ cond s (Err NotAName) (cond t (Err NotANumber) (Ok (Some command))) → ⊥
    by true t e = cc
    by false true e = cc
    by false false e = let f : None ≡ Some command = cc in cc

asked_heard : (ts : List Token) → AskFor ts (Ok None) → ⊥
asked_heard ts (inl (ps, command, t, s, e)) = judged_heard ps command e
asked_heard ts (inr (n, e)) = cc

pub heard : (line : List ℕ) → KeepsWords (tokens (without_return line)) → IsReading line (Ok None) → ⊥
heard line keeps (inl (l, e)) = cc
heard line keeps (inr (l, inl (n, e))) = cc
heard line keeps (inr (l, inr (inl (u, s, e)))) = heard_words (without_return line) keeps s
heard line keeps (inr (l, inr (inr (u, s, a)))) = asked_heard (tokens (without_return line)) a

-- a line that is refused while it is read, or for want of memory
pub follows_refused : (line : List ℕ) (refusal : Refusal) → (refusal ≡ Memory) ⊎ IsReading line (Err refusal)
    → ((refusal ≡ Memory) → KeepsWords (tokens (without_return line))) →
    AsRead line (λ read. (library : List Stored) (old : State) → Follows library old read (Refused refusal) old 0)
follows_refused line refusal (inl m) keeps = by (have_one_reading line).0 (have_one_reading line).1
  where
    by : (r : Result (Option Command) Refusal) → IsReading line r
        → AsRead line (λ read. (library : List Stored) (old : State) → Follows library old read (Refused refusal) old 0)
    by (Ok None) e = absurd (heard line (keeps m) e)
    by (Ok (Some command)) e = (Ok (Some command), e, λ library old. rw m (lacks library old old command 0 refl))
    by (Err other) e = (Err other, e, λ library old. inr (record { answer_is = rw m refl; same = refl }))
follows_refused line refusal (inr e) keeps =
    (Err refusal, e, λ library old. inl (record { answer_is = refl; new_is = refl; no_steps = refl }))
