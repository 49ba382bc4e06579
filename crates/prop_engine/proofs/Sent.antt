-- Texts that are written, and how far.
use Rattle.std.proofs.Common.{◌≡◌, ◌⊎◌, ℕ, ◌+◌, ◌-◌, ◌<◌, ◌≤◌, List, [], ◌∷◌, ◌++◌, length, take, drop, refl, sym}
use Rattle.std.proofs.Common.{subst}
use Rattle.std.proofs.Common.{ap, arith, inl, inr, append-nil, append_assoc, ◌∙◌}
use Rattle.std.specs.Prelude.{Ok, Err}
use Rattle.std.proofs.lemmas.List.{take_rest, length-drop, drop-drop, drop_all}
use Rattle.prop_engine.specs.Answers.{Answer}
use Rattle.prop_engine.specs.Calls.{Call, Leads, WriteCall, FlushCall}
use Rattle.prop_engine.specs.Dialogues.{Patiently, IsWritten, IsSent, IsStopped, IsCut, IsGiven, AreGiven}
use Rattle.prop_engine.specs.Dialogues.IsWritten.{more}
use Rattle.prop_engine.specs.declared.failure.Failure.{Failure}
use Rattle.prop_engine.proofs.Leading.{leads_join}

-- the devices went from a to b by calls that wrote the text but for what is left
abbrev pub Wrote : {D : Type 0} → (D → Call → D → Type 0) → D → D → List ℕ → List ℕ → Type 0
Wrote may a b text left = (calls : List Call) × Leads may a calls b × IsWritten text left calls

stopped_write : (left : List ℕ) (calls : List Call) → 0 < length left
    → ((failure : Failure) × Patiently (WriteCall left) (Err failure) calls) ⊎ Patiently (WriteCall left) (Ok 0) calls
    → IsStopped left calls
stopped_write [] calls h s = absurd (omega (arith, h))
stopped_write (b ∷ left) calls h s = s

module _ {D : Type 0} (may : D → Call → D → Type 0) (a b c : D) (text : List ℕ) (at : ℕ)
    (wrote : Wrote may a b text (drop at text)) (tries : List Call) (leads : Leads may b tries c) where
  rest : take (length text - at) (drop at text) ≡ drop at text
  rest = take_rest text at

  pub wrote_more : (count : ℕ) → 0 < count → count ≤ length (take (length text - at) (drop at text))
      → Patiently (WriteCall (take (length text - at) (drop at text))) (Ok count) tries
      → Wrote may a c text (drop (at + count) text)
  wrote_more count some most p = (
    wrote.0 ++ tries,
    leads_join may a b c wrote.0 tries wrote.1 leads,
    subst (λ (left : List ℕ). IsWritten text left (wrote.0 ++ tries)) (drop-drop count at text)
        (more (drop at text) count wrote.0 tries wrote.2 some (subst (λ (l : List ℕ). count ≤ length l) rest most)
        (subst (λ (l : List ℕ). Patiently (WriteCall l) (Ok count) tries) rest p)),
  )

  cut_by : IsStopped (drop at text) tries → (calls : List Call) × Leads may a calls c × IsCut text calls
  cut_by s = (
    wrote.0 ++ tries,
    leads_join may a b c wrote.0 tries wrote.1 leads,
    record {
      left = drop at text;
      writes = wrote.0;
      last = tries;
      written = wrote.2;
      stopped = s;
      calls_are = refl;
    },
  )

  pub cut_failed : at < length text → (failure : Failure)
      → Patiently (WriteCall (take (length text - at) (drop at text))) (Err failure) tries
      → (calls : List Call) × Leads may a calls c × IsCut text calls
  cut_failed h failure p = cut_by (stopped_write (drop at text) tries (omega (arith, h, length-drop at text))
      (inl (failure, subst (λ (l : List ℕ). Patiently (WriteCall l) (Err failure) tries) rest p)))

  pub cut_at_none : at < length text → (count : ℕ) → count ≡ 0
      → Patiently (WriteCall (take (length text - at) (drop at text))) (Ok count) tries
      → (calls : List Call) × Leads may a calls c × IsCut text calls
  cut_at_none h count e p = cut_by (stopped_write (drop at text) tries (omega (arith, h, length-drop at text))
      (inr (subst (λ (l : List ℕ). Patiently (WriteCall l) (Ok 0) tries) rest
      (subst (λ (n : ℕ). Patiently (WriteCall (take (length text - at) (drop at text))) (Ok n) tries) e p))))

module _ {D : Type 0} (may : D → Call → D → Type 0) (a b : D) (text : List ℕ) where
  pub wrote_all : (at : ℕ) → (at < length text → ⊥) → Wrote may a b text (drop at text)
      → (calls : List Call) × Leads may a calls b × IsWritten text [] calls
  wrote_all at h w = subst (λ (left : List ℕ). Wrote may a b text left) (drop_all at text (omega (arith, h))) w

  module _ (c : D) (wrote : (calls : List Call) × Leads may a calls b × IsWritten text [] calls) (tries : List Call)
      (leads : Leads may b tries c) where
    pub sent : Patiently FlushCall (Ok tt) tries → (calls : List Call) × Leads may a calls c × IsSent text calls
    sent p = (
      wrote.0 ++ tries,
      leads_join may a b c wrote.0 tries wrote.1 leads,
      record { writes = wrote.0; flushes = tries; written = wrote.2; passed_on = p; calls_are = refl },
    )

    pub cut_at_flush : (failure : Failure) → Patiently FlushCall (Err failure) tries
        → (calls : List Call) × Leads may a calls c × IsCut text calls
    cut_at_flush failure p = (
      wrote.0 ++ tries,
      leads_join may a b c wrote.0 tries wrote.1 leads,
      record {
        left = [];
        writes = wrote.0;
        last = tries;
        written = wrote.2;
        stopped = (failure, p);
        calls_are = refl;
      },
    )

pub count_in_range : (text : List ℕ) (at count : ℕ) → at ≤ length text
    → count ≤ length (take (length text - at) (drop at text)) → at + count ≤ length text
count_in_range text at count h k =
    let e : count ≤ length (drop at text) = rw take_rest at k in
    omega (arith, length-drop at text)

-- one more answer
pub given_more : (said : List Answer) (answer : Answer) (calls one : List Call) → AreGiven said calls
    → IsGiven answer one
    → AreGiven (said ++ answer ∷ []) (calls ++ one)
given_more [] answer calls one e g = (one, [], g, refl, ap (λ l. l ++ one) e ∙ sym (append-nil one))
given_more (a ∷ said) answer calls one (first, others, g, given, e) h = (
  first,
  others ++ one,
  g,
  given_more said answer others one given h,
  ap (λ l. l ++ one) e ∙ append_assoc first others one,
)
