-- What is posted shows what the term is worth.
use Rattle.std.proofs.Common.{◌≡◌, ◌↔◌, ◌∙◌, ℕ, zero, suc, ◌+◌, ◌<◌, List, [], ◌∷◌, map, Bool, true}
use Rattle.std.proofs.Common.{false, Some, slice_get}
use Rattle.std.proofs.Common.{refl, ap, sym, subst, arith, ◌++◌, length, drop, get_or, append_assoc}
use Rattle.std.proofs.lemmas.List.{drop_more}
use Rattle.prop_meaning.specs.declared.steps.Step.{Step}
use Rattle.prop_lattice.specs.Points.{Point, Element, IsPointOf}
use Rattle.prop_procedures.specs.declared.shape.Kinded.{Kinded}
use Rattle.prop_terms.specs.Meaning.{holds, worth}
use Rattle.prop_terms.specs.Terms.{Term}
use Rattle.prop_meaning.specs.Acts.{RelatedBy, TellsBy}
use Rattle.prop_meaning.specs.Posting.{Solves, LosesNone, IsValue, SaysSame}
use Rattle.prop_meaning.specs.Words.{Lexicon, IsLexicon, Fits, IsWithin, names_at, value_as}
use Rattle.prop_meaning.specs.declared.draft.Made.{Made}
use Rattle.prop_meaning.specs.declared.posting.Posted.{Posted}
use Rattle.prop_meaning.specs.inner.Drafts.{Runs, IsSound, Shows, truth_kind}
use Rattle.prop_meaning.specs.inner.Expanding.{ArePosted}
use Rattle.prop_meaning.specs.inner.Steps.{truth_point}
use Rattle.prop_meaning.proofs.Formulas.{on_truth, holds_told}
use Rattle.prop_meaning.proofs.Growing.{is_proper}
use Rattle.prop_meaning.proofs.Solving.{AreOfKinds, made_from, made_before, made_follows, all_acts_forth}
use Rattle.prop_meaning.proofs.Solving.{all_constants_forth, solved_follows}

mapped : (made : List Made) (k : ℕ) (m : Made) → slice_get made k ≡ Some m
    → slice_get (map (λ m. m.known.kinded) made) k ≡ Some m.known.kinded
mapped [] k m e = absurd (cc)
mapped (n ∷ made) zero m e = ap (λ m. Some m.known.kinded) (same_in e)
  where
    same_in : Some n ≡ Some m → n ≡ m
    same_in e = cc
mapped (n ∷ made) (suc k) m e = mapped made k m e

unmapped : (made : List Made) (k : ℕ) (kinded : Kinded) → slice_get (map (λ m. m.known.kinded) made) k ≡ Some kinded
    → (m : Made) × (slice_get made k ≡ Some m) × (m.known.kinded ≡ kinded)
unmapped [] k kinded e = absurd (cc)
unmapped (n ∷ made) zero kinded e = (n, refl, same_in e)
  where
    same_in : Some n.known.kinded ≡ Some kinded → n.known.kinded ≡ kinded
    same_in e = cc
unmapped (n ∷ made) (suc k) kinded e = unmapped made k kinded e

-- ---- no point is lost

kinds_run : (lexicon : Lexicon) (made : List Made) (a : ℕ → Point) → IsSound lexicon made → Runs lexicon made a
    → AreOfKinds lexicon made a
kinds_run lexicon made a sound r k m e =
    let P : Point → Type 0 = λ p. IsPointOf m.known.kinded.kind m.known.kinded.size p in
    subst P (sym (r.fresh k m e)) ((sound k m e).within a r).within.0

kinds_posted : (lexicon : Lexicon) (made : List Made) (posted : Posted) (place : ℕ) (a : ℕ → Point)
    → ArePosted lexicon.count made posted place → AreOfKinds lexicon made a → (k : ℕ) (kinded : Kinded)
    → slice_get posted.fresh.items k ≡ Some kinded → IsPointOf kinded.kind kinded.size (a (lexicon.count + k))
kinds_posted lexicon made posted place a are kinds k kinded e =
    let found = unmapped made k kinded (sym (ap (λ xs. slice_get xs k) are.fresh) ∙ e) in
    let P : Kinded → Type 0 = λ n. IsPointOf n.kind n.size (a (lexicon.count + k)) in
    subst P found.2 (kinds k found.0 found.1)

solved : (lexicon : Lexicon) (made : List Made) (posted : Posted) (place : ℕ) (a : ℕ → Point) → IsSound lexicon made
    → ArePosted lexicon.count made posted place → Runs lexicon made a → Solves RelatedBy lexicon.count posted a
solved lexicon made posted place a sound are r =
    let kinds = kinds_run lexicon made a sound r in
    record {
      kinds = kinds_posted lexicon made posted place a are kinds;
      constants = rw (are.constants) (all_constants_forth lexicon made a sound kinds r.fresh);
      acts = rw (are.acts) (all_acts_forth lexicon made a sound r.given kinds r.fresh);
    }

pub runs : (lexicon : Lexicon) (made : List Made) (points : ℕ → Point) → IsSound lexicon made → IsLexicon lexicon
    → Fits lexicon points → Runs lexicon made (made_from lexicon.count made points)
runs lexicon made points sound law fits = record {
  words = law;
  given = λ i l. let P : Point → Type 0 = λ p. IsWithin (lexicon.known i) p in
      subst P (sym (made_before lexicon.count made points i l)) (fits i l);
  fresh = made_follows lexicon.count made points (λ k m e. (sound k m e).behind);
}

loses_none : (lexicon : Lexicon) (made : List Made) (posted : Posted) (place : ℕ) → IsSound lexicon made
    → ArePosted lexicon.count made posted place → IsLexicon lexicon → LosesNone lexicon posted
loses_none lexicon made posted place sound are law points fits = (
  made_from lexicon.count made points,
  λ i l. made_before lexicon.count made points i l,
  solved lexicon made posted place (made_from lexicon.count made points) sound are
      (runs lexicon made points sound law fits),
)

-- ---- no point is wrong

kinds_solved : (lexicon : Lexicon) (made : List Made) (posted : Posted) (place : ℕ) (a : ℕ → Point)
    → ArePosted lexicon.count made posted place → Solves TellsBy lexicon.count posted a → AreOfKinds lexicon made a
kinds_solved lexicon made posted place a are s k m e =
    s.kinds k m.known.kinded (ap (λ xs. slice_get xs k) are.fresh ∙ mapped made k m e)

runs_solved : (lexicon : Lexicon) (made : List Made) (posted : Posted) (place : ℕ) (a : ℕ → Point) →
    IsSound lexicon made
    → ArePosted lexicon.count made posted place → IsLexicon lexicon → Fits lexicon a
    → Solves TellsBy lexicon.count posted a → Runs lexicon made a
runs_solved lexicon made posted place a sound are law fits s = record {
  words = law;
  given = fits;
  fresh = solved_follows lexicon made a sound fits (kinds_solved lexicon made posted place a are s)
      (rw (← are.acts) s.acts) (rw (← are.constants) s.constants);
}

pub is_value : (lexicon : Lexicon) (made : List Made) (posted : Posted) (place : ℕ) (kinded : Kinded) (t : Term)
    → IsSound lexicon made → ArePosted lexicon.count made posted place → Shows lexicon made kinded t place
    → IsValue lexicon posted kinded t
is_value lexicon made posted place kinded t sound are shows = record {
  none_lost = loses_none lexicon made posted place sound are;
  of_kind = λ law points fits s.
      let P : ℕ → Type 0 = λ i. IsPointOf kinded.kind kinded.size (points i) in
      subst P (sym are.result) (is_proper lexicon made place kinded points sound
      (runs_solved lexicon made posted place points sound are law fits s) shows.has).of_kind;
  worth_is = λ law points fits s.
      let P : ℕ → Type 0 = λ i. worth (names_at lexicon points) t ≡ Some (value_as lexicon kinded (points i)) in
      subst P (sym are.result) (shows.worth_is points
      (runs_solved lexicon made posted place points sound are law fits s));
}

yes_is : (lexicon : Lexicon) → IsLexicon lexicon → (p : Point) → IsPointOf truth_kind.kind truth_kind.size p
    → (p ≡ Element 0) ↔ (holds (Some (value_as lexicon truth_kind p)) ≡ true)
yes_is lexicon law p h = on_truth
    (λ p. (p ≡ Element 0) ↔ (holds (Some (value_as lexicon truth_kind p)) ≡ true)) by p h
  where
    by : (b : Bool) → (truth_point b ≡ Element 0) ↔ (holds (Some (value_as lexicon truth_kind (truth_point b))) ≡ true)
    by true = (λ e. holds_told lexicon law true, λ e. refl)
    by false = (λ e. absurd (cc), λ e. absurd (cc_no (sym (holds_told lexicon law false) ∙ e)))
      where
        cc_no : false ≡ true → ⊥
        cc_no e = cc

pub says_same : (lexicon : Lexicon) (posted : Posted) (t : Term) → IsValue lexicon posted truth_kind t
    → SaysSame lexicon posted t
says_same lexicon posted t v = record {
  none_lost = v.none_lost;
  none_wrong = λ law points fits s.
      let yes = yes_is lexicon law (points posted.result) (v.of_kind law points fits s) in
      let e = ap holds (v.worth_is law points fits s) in
      (λ p. e ∙ yes.0 p, λ h. yes.1 (sym e ∙ h));
}

-- ---- fresh cells, one after another

pub empty_sound : (lexicon : Lexicon) → IsSound lexicon []
empty_sound lexicon k m e = absurd (cc)

module _ {X : Type 0} (f : Step → ℕ → List X) (g : ℕ → List Made → List X)
    (more : (n : ℕ) (m : Made) (made : List Made) → g n (m ∷ made) ≡ f m.step n ++ g (n + 1) made) where
  pub writes_more : (made : List Made) (m d : Made) (n k : ℕ) (old all : List X) → k < length made → m ≡ get_or made k d
      → old ++ g (n + k) (drop k made) ≡ all → (old ++ f m.step (n + k)) ++ g (n + (k + 1)) (drop (k + 1) made) ≡ all
  writes_more made m d n k old all l e h =
      let rest = drop (k + 1) made in
      let here : drop k made ≡ m ∷ rest = drop_more made k d l ∙ ap (λ x. x ∷ rest) (sym e) in
      let next : n + (k + 1) ≡ (n + k) + 1 = omega arith in
      append_assoc old (f m.step (n + k)) (g (n + (k + 1)) rest)
      ∙ (ap (λ i. old ++ (f m.step (n + k) ++ g i rest)) next
      ∙ (ap (λ xs. old ++ xs) (sym (more (n + k) m rest)) ∙ (ap (λ xs. old ++ g (n + k) xs) (sym here) ∙ h)))
