-- A requirer answers a line by its first 4097 bytes, as the engine asks of a machine.
use Rattle.std.proofs.Common.{◌≡◌, ◌≤◌, ◌<◌, ℕ, List, [], ◌∷◌, length, refl, inl, inr, subst, arith}
use Rattle.std.specs.Prelude.{take}
use Rattle.std.proofs.lemmas.List.{length-take, take_all}
use Rattle.prop_refusals.specs.declared.refusal.Refusal.{Refusal}
use Rattle.prop_procedures.specs.Stored.{Stored}
use Rattle.prop_engine.specs.Lines.{kept_of}
use Rattle.prop_engine.specs.Answers.{Answer}
use Rattle.prop_engine.specs.Machines.{AsksByPrefix}
use Rattle.prop_workbench.specs.Questions.{Picks}
use Rattle.prop_seeking.specs.Seeking.{Sought}
use Rattle.prop_seeking.specs.laws.SeekingLaws.{own_from}
use Rattle.prop_blaming.specs.laws.BlamingLaws.{blaming_asks_by_prefix}
use Rattle.prop_requiring.specs.Asking.{EndsUnder, HasNoEquals, IsAsked, IsDefined, IsMisread}
use Rattle.prop_requiring.specs.Asking.{is_definition, is_requirement}
use Rattle.prop_requiring.specs.Requiring.{Defines, IsUndefined, Posts, Refuses, Requires}
use Rattle.prop_requiring.specs.Requiring.{requiring}

kept_is : (line : List ℕ) → is_requirement (kept_of line) ≡ is_requirement line
unfolding kept_of
kept_is [] = refl
kept_is (a ∷ []) = refl
kept_is (a ∷ b ∷ []) = refl
kept_is (a ∷ b ∷ c ∷ []) = refl
kept_is (a ∷ b ∷ c ∷ d ∷ []) = refl
kept_is (a ∷ b ∷ c ∷ d ∷ e ∷ []) = refl
kept_is (a ∷ b ∷ c ∷ d ∷ e ∷ f ∷ []) = refl
kept_is (a ∷ b ∷ c ∷ d ∷ e ∷ f ∷ g ∷ []) = refl
kept_is (a ∷ b ∷ c ∷ d ∷ e ∷ f ∷ g ∷ h ∷ line) = refl

kept_defines : (line : List ℕ) → is_definition (kept_of line) ≡ is_definition line
unfolding kept_of
kept_defines [] = refl
kept_defines (a ∷ []) = refl
kept_defines (a ∷ b ∷ []) = refl
kept_defines (a ∷ b ∷ c ∷ []) = refl
kept_defines (a ∷ b ∷ c ∷ d ∷ line) = refl

-- where no more than 4096 bytes are kept of a line, they are the whole line
kept_whole : (line : List ℕ) → length (kept_of line) ≤ 4_096 → kept_of line ≡ line
unfolding kept_of
kept_whole line few = take_all 4_097 line (short line few)
  where
    short : (line : List ℕ) → length (take 4_097 line) ≤ 4_096 → length line ≤ 4_097
    short line few = omega (arith, length-take 4_097 line)

-- where more than 4096 bytes are kept of a line, the line has more, too
kept_long : (line : List ℕ) → 4_096 < length (kept_of line) → 4_096 < length line
unfolding kept_of
kept_long line long = omega (arith, length-take 4_097 line)

kept_misread : (line : List ℕ) (e : Refusal) → IsMisread (kept_of line) e → IsMisread line e
kept_misread line e (inl (is, long)) = inl (is, kept_long line long)
kept_misread line e (inr (is, few, text, word, ends, none)) =
    let P : List ℕ → Type 0 = λ l. (length l ≤ 4_096) × EndsUnder l text word in
    let p = subst P (kept_whole line few) (few, ends) in
    inr (is, p.0, text, word, p.1, none)

kept_refuses : (line : List ℕ) (e : Refusal) → Refuses (kept_of line) e → Refuses line e
kept_refuses line e (inl misread) = inl (kept_misread line e misread)
kept_refuses line e (inr (text, premise, asked, refused)) =
    let P : List ℕ → Type 0 = λ l. IsAsked l text premise in
    inr (text, premise, subst P (kept_whole line asked.few) asked, refused)

kept_requires : {O : Type 0} (library : List Stored) (old : Sought O) (line : List ℕ)
    (answer : Answer) (new : Sought O)
    → Requires library old (kept_of line) answer new → Requires library old line answer new
kept_requires library old line answer new (inl (e, refuses, is, same)) =
    inl (e, kept_refuses line e refuses, is, same)
kept_requires library old line answer new (inr posts) =
    let P : List ℕ → Type 0 = λ l. Posts library old l answer new in
    inr (subst P (kept_whole line posts.says.asked.few) posts)

kept_undefined : (line : List ℕ) (e : Refusal) → IsUndefined (kept_of line) e → IsUndefined line e
kept_undefined line e (inl (is, long)) = inl (is, kept_long line long)
kept_undefined line e (inr (inl (is, few, none))) =
    let P : List ℕ → Type 0 = λ l. (length l ≤ 4_096) × HasNoEquals l in
    let p = subst P (kept_whole line few) (few, none) in
    inr (inl (is, p.0, p.1))
kept_undefined line e (inr (inr (before, text, defined, why))) =
    let P : List ℕ → Type 0 = λ l. IsDefined l before text in
    inr (inr (before, text, subst P (kept_whole line defined.few) defined, why))

kept_definition : {O : Type 0} (picks : Picks O) (library : List Stored) (old : Sought O)
    (line : List ℕ) (answer : Answer) (new : Sought O)
    → Defines picks library old (kept_of line) answer new
    → Defines picks library old line answer new
kept_definition picks library old line answer new (inl (e, undefined, is, same)) =
    inl (e, kept_undefined line e undefined, is, same)
kept_definition picks library old line answer new
    (inr (before, text, declaring, name, t, span, defined, means, declares)) =
    let P : List ℕ → Type 0 = λ l. IsDefined l before text in
    inr (
      before,
      text,
      declaring,
      name,
      t,
      span,
      subst P (kept_whole line defined.few) defined,
      means,
      declares,
    )

pub requiring_asks_by_prefix : {O : Type 0} (picks : Picks O) (library : List Stored)
    → AsksByPrefix (requiring picks library)
requiring_asks_by_prefix picks library old line answer new h =
    own_from (is_requirement (kept_of line)) (is_requirement line) (kept_is line)
    (λ own. kept_requires library old line answer new own)
    (λ other. own_from (is_definition (kept_of line)) (is_definition line) (kept_defines line)
    (λ own. kept_definition picks library old line answer new own)
    (λ other. blaming_asks_by_prefix picks library old line answer new other) other) h
