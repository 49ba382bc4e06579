-- Cells show whether something is one of the words in braces.
use Rattle.std.proofs.Common.{◌≡◌, ◌∙◌, ℕ, ℤ, List, [], ◌∷◌, ◌++◌, Bool, true, false, ◌||◌, ◌⊎◌, inl, inr}
use Rattle.std.proofs.Common.{Option, Some, refl, ap, sym, subst}
use Rattle.std.specs.List.{list_any}
use Rattle.std.proofs.lemmas.List.Folds.{list_any-append}
use Rattle.prop_lattice.specs.Points.{Point}
use Rattle.prop_lattice.specs.Points as points
use Rattle.prop_procedures.specs.declared.shape.Kinded.{Kinded}
use Rattle.prop_terms.specs.declared.operators.Infix.{Infix}
use Rattle.prop_terms.specs.declared.operators.Infix.TheVariants as between
use Rattle.prop_terms.specs.Meaning.{Value, Whole, comparison, label, labels, truth, is_in, worth}
use Rattle.prop_terms.specs.Terms.{Term, Name, Number, One, Two, Braces}
use Rattle.prop_meaning.specs.Words.{Lexicon, names_at, value_as}
use Rattle.prop_meaning.specs.declared.draft.Made.{Made}
use Rattle.prop_meaning.specs.declared.steps.Pair.TheVariants.{Same, Or}
use Rattle.prop_meaning.specs.inner.Drafts.{Grown, Makes, Shows, Has, number_kind, truth_kind}
use Rattle.prop_meaning.specs.inner.Formulas.{is_list}
use Rattle.prop_meaning.specs.inner.Lists.{Labels, is_among}
use Rattle.prop_meaning.specs.inner.Steps.{truth_point, of_two}
use Rattle.prop_meaning.proofs.Formulas.{told, values_same}
use Rattle.prop_meaning.proofs.Growing.{has_grows, is_proper, runs_back, shows_grows}
use Rattle.prop_meaning.proofs.Showing.{each_single}

-- one word or number is a list by itself
one_label : (t : Term) (v : Value) → label t ≡ Some v → labels t ≡ label t ∷ []
one_label (Name w) v e = refl
one_label (Number n) v e = refl
one_label (One op t) v e = refl
one_label (Two op t u) v e = absurd (cc)
one_label (Braces t) v e = refl

pub or_point : (b c : Bool) → of_two Or (truth_point b) (truth_point c) ≡ truth_point (b || c)
or_point true true = refl
or_point true false = refl
or_point false true = refl
or_point false false = refl

or_none : (b : Bool) → b || false ≡ b
or_none true = refl
or_none false = refl

pub labels_number : (lexicon : Lexicon) (made : List Made) (kinded : Kinded) (t : Term) (z y : ℤ) (place : ℕ)
    → number_kind ≡ kinded → label t ≡ Some (Whole z) → z ≡ y
    → Makes lexicon made number_kind (λ a. points.Number y) place → Labels lexicon made kinded t place
labels_number lexicon made kinded t z y place e said same m =
    subst (λ k. Labels lexicon made k t place) e (record {
      has = m.has;
      is = λ a r. said ∙ (ap (λ x. Some (Whole x)) same
          ∙ ap (λ p. Some (value_as lexicon number_kind p)) (sym (m.is a r)));
    })

-- a cell is the same as one of a label
pub makes_labelled : (lexicon : Lexicon) (kinded : Kinded) (t : Term) (x y place : ℕ) (first second : List Made)
    → Has lexicon first x kinded → Labels lexicon first kinded t y → Grown lexicon first second
    → Makes lexicon second truth_kind (λ a. of_two Same (a x) (a y)) place
    → Makes lexicon second truth_kind (λ a. truth_point (is_among lexicon kinded (a x) (labels t))) place
makes_labelled lexicon kinded t x y place first second has ls g m = record {
  has = m.has;
  is = λ a r.
      let said = ls.is a (runs_back lexicon first second a g.grows r) in
      let v : Option Value = Some (value_as lexicon kinded (a x)) in
      let p = is_proper lexicon second x kinded a g.sound r (has_grows lexicon first second x kinded g.grows has) in
      let q = is_proper lexicon second y kinded a g.sound r
      (has_grows lexicon first second y kinded g.grows ls.has) in
      m.is a r ∙ sym (ap (λ ls. truth_point (list_any (comparison between.Equal v) ls)) (one_label t _ said)
      ∙ (ap truth_point (or_none (comparison between.Equal v (label t)))
      ∙ (ap (λ w. truth_point (comparison between.Equal v w)) said
      ∙ ap truth_point (values_same lexicon r.words kinded (a x) (a y) p q))));
}

-- and of it alone
pub makes_alone : (lexicon : Lexicon) (kinded : Kinded) (t : Term) (x y place : ℕ) (first second : List Made)
    → Has lexicon first x kinded → Labels lexicon first kinded t y → Grown lexicon first second
    → Makes lexicon second truth_kind (λ a. of_two Same (a x) (a y)) place
    → Makes lexicon second truth_kind (λ a. truth_point (is_among lexicon kinded (a x) (label t ∷ []))) place
makes_alone lexicon kinded t x y place first second has ls g m = record {
  has = m.has;
  is = λ a r.
      let said = ls.is a (runs_back lexicon first second a g.grows r) in
      let v : Option Value = Some (value_as lexicon kinded (a x)) in
      (makes_labelled lexicon kinded t x y place first second has ls g m).is a r
      ∙ ap (λ ls. truth_point (list_any (comparison between.Equal v) ls)) (one_label t _ said);
}

-- the labels of what stands beside
beside : (op : Infix) (t u : Term) → (op ≡ between.Beside) ⊎ (op ≡ between.Comma)
    → labels (Two op t u) ≡ labels t ++ label u ∷ []
beside op t u (inl e) = rw e refl
beside op t u (inr e) = rw e refl

any_more : (f : Option Value → Bool) (ls : List (Option Value)) (l : Option Value)
    → list_any f (ls ++ l ∷ []) ≡ (list_any f ls || list_any f (l ∷ []))
any_more f ls l = list_any-append f ls (l ∷ [])

-- the last has a label for itself: it is among a list of one
pub makes_among : (lexicon : Lexicon) (kinded : Kinded) (op : Infix) (t u : Term) (x y z place : ℕ)
    (first second third : List Made) → (op ≡ between.Beside) ⊎ (op ≡ between.Comma)
    → Makes lexicon first truth_kind (λ a. truth_point (is_among lexicon kinded (a x) (labels t))) y
    → Grown lexicon first second
    → Makes lexicon second truth_kind (λ a. truth_point (is_among lexicon kinded (a x) (label u ∷ []))) z
    → Grown lexicon second third
    → Makes lexicon third truth_kind (λ a. of_two Or (a y) (a z)) place
    → Makes lexicon third truth_kind (λ a. truth_point (is_among lexicon kinded (a x) (labels (Two op t u)))) place
makes_among lexicon kinded op t u x y z place first second third joins my g mz h m = record {
  has = m.has;
  is = λ a r.
      let before = runs_back lexicon second third a h.grows r in
      let left = my.is a (runs_back lexicon first second a g.grows before) in
      let right = mz.is a before in
      let test : Option Value → Bool = comparison between.Equal (Some (value_as lexicon kinded (a x))) in
      m.is a r ∙ (ap (λ p. of_two Or p (a z)) left
      ∙ (ap (of_two Or (truth_point (list_any test (labels t)))) right
      ∙ (or_point (list_any test (labels t)) (list_any test (label u ∷ []))
      ∙ sym (ap truth_point (ap (list_any test) (beside op t u joins) ∙ any_more test (labels t) (label u))))));
}

-- something is one of the words in braces
pub shows_words : (lexicon : Lexicon) (both : Kinded) (item t : Term) (x place : ℕ) (first second : List Made)
    → is_list item ≡ false → Shows lexicon first both item x → Grown lexicon first second
    → Makes lexicon second truth_kind (λ a. truth_point (is_among lexicon both (a x) (labels t))) place
    → Shows lexicon second truth_kind (Two between.In item (Braces t)) place
shows_words lexicon both item t x place first second single ft g m = record {
  has = m.has;
  worth_is = λ a r.
      let under = shows_grows lexicon first second both item x g ft in
      let names = names_at lexicon a in
      ap (λ vs. truth (is_in names (Braces t) vs)) (each_single names item (worth names item) single)
      ∙ (ap (λ v. truth (list_any (comparison between.Equal v) (labels t))) (under.worth_is a r)
      ∙ (told lexicon r.words _ (is_among lexicon both (a x) (labels t)) refl
      ∙ ap (λ p. Some (value_as lexicon truth_kind p)) (sym (m.is a r))));
}
