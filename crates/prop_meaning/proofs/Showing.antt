-- Cells show what terms are worth.
use Rattle.std.proofs.Common.{◌≡◌, ◌∙◌, ℕ, ℤ, pos, neg_ℤ, ◌-ℤ◌, List, Bool, true, false, cond, not}
use Rattle.std.proofs.Common.{◌==◌, Some, refl, ap, sym, subst, Option}
use Rattle.std.proofs.Common.{arith, int_le, int_lt, ◌&&◌, [], ◌∷◌}
use Rattle.std.proofs.lemmas.Int.{ints}
use Rattle.prop_lattice.specs.Points.{Point, Number, IsPointOf}
use Rattle.prop_procedures.specs.declared.shape.Kinded.{Kinded}
use Rattle.prop_terms.specs.declared.operators.Infix.{Infix}
use Rattle.prop_terms.specs.declared.operators.Infix.TheVariants as between
use Rattle.prop_terms.specs.declared.operators.Prefix.{Prefix}
use Rattle.prop_terms.specs.declared.operators.Prefix.TheVariants as before
use Rattle.prop_terms.specs.Meaning.{Value, Names, holds, combined, applied, worth, each, truth, comparison, is_in}
use Rattle.prop_terms.specs.Terms.{Term, One, Two}
use Rattle.prop_meaning.specs.Words.{Lexicon, IsLexicon, names_at, value_as}
use Rattle.prop_meaning.specs.declared.draft.Made.{Made}
use Rattle.prop_meaning.specs.declared.steps.Single.TheVariants.{Abs, Not}
use Rattle.prop_meaning.specs.inner.Drafts.{Grown, IsProper, Makes, Shows, number_kind, truth_kind}
use Rattle.prop_meaning.specs.inner.Formulas.{Takes, kind_of, formula, is_taken, kind_before}
use Rattle.prop_meaning.specs.inner.Formulas.{formula_before, is_list, within}
use Rattle.prop_meaning.specs.inner.Steps.{truth_point, negative, of_one, chosen}
use Rattle.prop_meaning.proofs.Formulas.{formula_means, on_number, on_numbers, on_truth, told}
use Rattle.prop_meaning.proofs.Formulas.{holds_told, untold, le_not_lt}
use Rattle.prop_meaning.proofs.Growing.{is_proper, shows_grows}

-- ---- an operator between two terms

worth_two : (names : Names) (op : Infix) (t u : Term) (kinded : Kinded) → Takes op kinded
    → worth names (Two op t u) ≡ combined op (worth names t) (worth names u)
worth_two names between.Plus t u kinded k = refl
worth_two names between.Minus t u kinded k = refl
worth_two names between.Times t u kinded k = refl
worth_two names between.Over t u kinded k = refl
worth_two names between.Remainder t u kinded k = refl
worth_two names between.Less t u kinded k = refl
worth_two names between.AtMost t u kinded k = refl
worth_two names between.Greater t u kinded k = refl
worth_two names between.AtLeast t u kinded k = refl
worth_two names between.Equal t u kinded k = refl
worth_two names between.Unequal t u kinded k = refl
worth_two names between.And t u kinded k = refl
worth_two names between.Or t u kinded k = refl
worth_two names between.Xor t u kinded k = refl
worth_two names between.Iff t u kinded k = refl
worth_two names between.Implies t u kinded k = refl
worth_two names op t u kinded k = absurd k

pub shows_two : (lexicon : Lexicon) (op : Infix) (both : Kinded) (t u : Term) (x y place : ℕ)
    (first second third : List Made)
    → Takes op both → Shows lexicon first both t x → Grown lexicon first second → Shows lexicon second both u y
    → Grown lexicon second third → Makes lexicon third (kind_of op) (λ a. formula op (a x) (a y)) place
    → Shows lexicon third (kind_of op) (Two op t u) place
shows_two lexicon op both t u x y place first second third k ft g fu h m = record {
  has = m.has;
  worth_is = λ a r.
      let left = shows_grows lexicon second third both t x h (shows_grows lexicon first second both t x g ft) in
      let right = shows_grows lexicon second third both u y h fu in
      let names = names_at lexicon a in
      let value : Point → Value = value_as lexicon (kind_of op) in
      worth_two names op t u both k
      ∙ (ap (λ v. combined op v (worth names u)) (left.worth_is a r)
      ∙ (ap (combined op (Some (value_as lexicon both (a x)))) (right.worth_is a r)
      ∙ (formula_means lexicon r.words op both (a x) (a y) k
      (is_proper lexicon third x both a h.sound r left.has) (is_proper lexicon third y both a h.sound r right.has)
      (subst (IsProper lexicon (kind_of op)) (m.is a r) (is_proper lexicon third place (kind_of op) a h.sound r m.has))
      ∙ ap (λ p. Some (value p)) (sym (m.is a r)))));
}

-- ---- an operator before a term

negative_means : (lexicon : Lexicon) (vs : List (Option Value)) (p : Point) → IsPointOf number_kind.kind 0 p
    → applied before.Negated (Some (value_as lexicon number_kind p)) vs ≡ Some
    (value_as lexicon number_kind (negative p))
negative_means lexicon vs p h = on_number 0
    (λ p. applied before.Negated (Some (value_as lexicon number_kind p)) vs ≡ Some
    (value_as lexicon number_kind (negative p)))
    (λ x. ap (λ z. Some (value_as lexicon number_kind (Number z))) (below x)) p h
  where
    below : (x : ℤ) → neg_ℤ x ≡ pos 0 -ℤ x
    below x = omega (arith, ints)

pub shows_negative : (lexicon : Lexicon) (t : Term) (x place : ℕ) (first second : List Made)
    → Shows lexicon first number_kind t x → Grown lexicon first second
    → Makes lexicon second number_kind (λ a. negative (a x)) place → Shows lexicon second
    number_kind (One before.Negated t) place
shows_negative lexicon t x place first second ft g m = record {
  has = m.has;
  worth_is = λ a r.
      let under = shows_grows lexicon first second number_kind t x g ft in
      let names = names_at lexicon a in
      ap (λ v. applied before.Negated v (each names t (worth names t))) (under.worth_is a r)
      ∙ (negative_means lexicon (each names t (worth names t)) (a x)
      (is_proper lexicon second x number_kind a g.sound r under.has).of_kind
      ∙ ap (λ p. Some (value_as lexicon number_kind p)) (sym (m.is a r)));
}

abs_means : (lexicon : Lexicon) (vs : List (Option Value)) (p : Point) → IsPointOf number_kind.kind 0 p
    → applied before.Abs (Some (value_as lexicon number_kind p)) vs ≡ Some (value_as lexicon number_kind (of_one Abs p))
abs_means lexicon vs p h = on_number 0
    (λ p. applied before.Abs (Some (value_as lexicon number_kind p)) vs ≡ Some
    (value_as lexicon number_kind (of_one Abs p)))
    (λ x. refl) p h

pub shows_abs : (lexicon : Lexicon) (t : Term) (x place : ℕ) (first second : List Made)
    → Shows lexicon first number_kind t x → Grown lexicon first second
    → Makes lexicon second number_kind (λ a. of_one Abs (a x)) place → Shows lexicon second
    number_kind (One before.Abs t) place
shows_abs lexicon t x place first second ft g m = record {
  has = m.has;
  worth_is = λ a r.
      let under = shows_grows lexicon first second number_kind t x g ft in
      let names = names_at lexicon a in
      ap (λ v. applied before.Abs v (each names t (worth names t))) (under.worth_is a r)
      ∙ (abs_means lexicon (each names t (worth names t)) (a x)
      (is_proper lexicon second x number_kind a g.sound r under.has).of_kind
      ∙ ap (λ p. Some (value_as lexicon number_kind p)) (sym (m.is a r)));
}

not_means : (lexicon : Lexicon) → IsLexicon lexicon → (vs : List (Option Value)) (p : Point) →
    IsPointOf truth_kind.kind 2 p
    → applied before.Not (Some (value_as lexicon truth_kind p)) vs ≡ Some (value_as lexicon truth_kind (of_one Not p))
not_means lexicon law vs p h = on_truth
    (λ p. applied before.Not (Some (value_as lexicon truth_kind p)) vs ≡ Some
    (value_as lexicon truth_kind (of_one Not p)))
    (λ b. told lexicon law _ _ (ap not (holds_told lexicon law b) ∙ ap not (same b))) p h
  where
    same : (b : Bool) → b ≡ (cond b 0 1 == 0)
    same true = refl
    same false = refl

pub shows_not : (lexicon : Lexicon) (t : Term) (x place : ℕ) (first second : List Made)
    → Shows lexicon first truth_kind t x → Grown lexicon first second
    → Makes lexicon second truth_kind (λ a. of_one Not (a x)) place → Shows lexicon second
    truth_kind (One before.Not t) place
shows_not lexicon t x place first second ft g m = record {
  has = m.has;
  worth_is = λ a r.
      let under = shows_grows lexicon first second truth_kind t x g ft in
      let names = names_at lexicon a in
      ap (λ v. applied before.Not v (each names t (worth names t))) (under.worth_is a r)
      ∙ (not_means lexicon r.words (each names t (worth names t)) (a x)
      (is_proper lexicon second x truth_kind a g.sound r under.has).of_kind
      ∙ ap (λ p. Some (value_as lexicon truth_kind p)) (sym (m.is a r)));
}

pub shows_one : (lexicon : Lexicon) (op : Prefix) (t : Term) (x place : ℕ)
    (first second : List Made) → is_taken op ≡ true
    → Shows lexicon first (kind_before op) t x → Grown lexicon first second
    → Makes lexicon second (kind_before op) (λ a. formula_before op (a x)) place
    → Shows lexicon second (kind_before op) (One op t) place
shows_one lexicon before.Negated t x place first second k ft g m = shows_negative lexicon t x place first second ft g m
shows_one lexicon before.Abs t x place first second k ft g m = shows_abs lexicon t x place first second ft g m
shows_one lexicon before.Not t x place first second k ft g m = shows_not lexicon t x place first second ft g m
shows_one lexicon op t x place first second k ft g m = absurd (cc)

-- ---- a choice

choice_means : (lexicon : Lexicon) → IsLexicon lexicon → (kinded : Kinded) (t p q : Point) →
    IsPointOf truth_kind.kind 2 t
    → cond (holds (Some (value_as lexicon truth_kind t))) (Some (value_as lexicon kinded p))
    (Some (value_as lexicon kinded q))
    ≡ Some (value_as lexicon kinded (chosen t p q))
choice_means lexicon law kinded t p q h = on_truth
    (λ t. cond (holds (Some (value_as lexicon truth_kind t))) (Some (value_as lexicon kinded p))
    (Some (value_as lexicon kinded q))
    ≡ Some (value_as lexicon kinded (chosen t p q))) by t h
  where
    by : (b : Bool) → cond (holds (Some (value_as lexicon truth_kind (truth_point b))))
        (Some (value_as lexicon kinded p))
        (Some (value_as lexicon kinded q)) ≡ Some (value_as lexicon kinded (chosen (truth_point b) p q))
    by true = ap (λ b. cond b (Some (value_as lexicon kinded p)) (Some (value_as lexicon kinded q)))
        (holds_told lexicon law true)
    by false = ap (λ b. cond b (Some (value_as lexicon kinded p))
        (Some (value_as lexicon kinded q))) (holds_told lexicon law false)

pub shows_choice : (lexicon : Lexicon) (kinded : Kinded) (test left right : Term) (t x y place : ℕ)
    (first second third fourth : List Made) → Shows lexicon first truth_kind test t → Grown lexicon first second
    → Shows lexicon second kinded left x → Grown lexicon second third → Shows lexicon third kinded right y
    → Grown lexicon third fourth → Makes lexicon fourth kinded (λ a. chosen (a t) (a x) (a y)) place
    → Shows lexicon fourth kinded (One before.If (Two between.Then test (Two between.Else left right))) place
shows_choice lexicon kinded test left right t x y place first second third fourth ft g fx h fy i m = record {
  has = m.has;
  worth_is = λ a r.
      let st = shows_grows lexicon third fourth truth_kind test t i
      (shows_grows lexicon second third truth_kind test t h
      (shows_grows lexicon first second truth_kind test t g ft)) in
      let sx = shows_grows lexicon third fourth kinded left x i (shows_grows lexicon second third kinded left x h fx) in
      let sy = shows_grows lexicon third fourth kinded right y i fy in
      let names = names_at lexicon a in
      let value : Point → Value = value_as lexicon kinded in
      ap (λ v. cond (holds v) (worth names left) (worth names right)) (st.worth_is a r)
      ∙ (ap (λ v. cond (holds (Some (value_as lexicon truth_kind (a t)))) v (worth names right))
      (sx.worth_is a r)
      ∙ (ap (λ v. cond (holds (Some (value_as lexicon truth_kind (a t)))) (Some (value (a x))) v)
      (sy.worth_is a r)
      ∙ (choice_means lexicon r.words kinded (a t) (a x) (a y)
      (is_proper lexicon fourth t truth_kind a i.sound r st.has).of_kind
      ∙ ap (λ p. Some (value p)) (sym (m.is a r)))));
}

-- ---- a range

pub each_single : (names : Names) (t : Term) (v : Option Value) → is_list t ≡ false → each names t v ≡ v ∷ []
each_single names (Two between.Comma t u) v e = absurd (cc)
each_single names t v e = refl

range_means : (lexicon : Lexicon) → IsLexicon lexicon → (x low high : ℤ)
    → truth (int_le low x && int_le x high)
    ≡ Some (value_as lexicon truth_kind (within (Number x) (Number low) (Number high)))
range_means lexicon law x low high = told lexicon law _ _
    (ap (λ b. b && int_le x high) (one x low) ∙ ap
    (λ b. ((cond (not (cond (int_lt x low) 0 1 == 0)) 0 1) == 0) && b) (one high x))
  where
    same : (b : Bool) → b ≡ (cond b 0 1 == 0)
    same true = refl
    same false = refl

    one : (x y : ℤ) → int_le y x ≡ ((cond (not (cond (int_lt x y) 0 1 == 0)) 0 1) == 0)
    one x y = le_not_lt x y ∙ (sym (untold (int_lt x y)) ∙ same (not (cond (int_lt x y) 0 1 == 0)))

three_numbers : (lexicon : Lexicon) → IsLexicon lexicon → (p low high : Point) → IsPointOf number_kind.kind 0 p
    → IsPointOf number_kind.kind 0 low → IsPointOf number_kind.kind 0 high
    → truth (comparison between.AtMost (Some (value_as lexicon number_kind low)) (Some (value_as lexicon number_kind p))
    && comparison between.AtMost (Some (value_as lexicon number_kind p)) (Some (value_as lexicon number_kind high)))
    ≡ Some (value_as lexicon truth_kind (within p low high))
three_numbers lexicon law p low high h i j = on_numbers 0
    (λ p low. truth (comparison between.AtMost (Some (value_as lexicon number_kind low))
    (Some (value_as lexicon number_kind p))
    && comparison between.AtMost (Some (value_as lexicon number_kind p)) (Some (value_as lexicon number_kind high)))
    ≡ Some (value_as lexicon truth_kind (within p low high)))
    (λ x l. on_number 0 (λ high. truth (comparison between.AtMost (Some (value_as lexicon number_kind (Number l)))
    (Some (value_as lexicon number_kind (Number x)))
    && comparison between.AtMost (Some (value_as lexicon number_kind (Number x)))
    (Some (value_as lexicon number_kind high)))
    ≡ Some (value_as lexicon truth_kind (within (Number x) (Number l) high)))
    (λ z. range_means lexicon law x l z) high j) p low h i

pub shows_range : (lexicon : Lexicon) (item low high : Term) (x from end place : ℕ)
    (first second third fourth : List Made) → is_list item ≡ false → Shows lexicon first number_kind item x
    → Grown lexicon first second → Shows lexicon second number_kind low from → Grown lexicon second third
    → Shows lexicon third number_kind high end → Grown lexicon third fourth
    → Makes lexicon fourth truth_kind (λ a. within (a x) (a from) (a end)) place
    → Shows lexicon fourth truth_kind (Two between.In item (Two between.UpTo low high)) place
shows_range lexicon item low high x from end place first second third fourth single ft g fx h fy i m = record {
  has = m.has;
  worth_is = λ a r.
      let st = shows_grows lexicon third fourth number_kind item x i
      (shows_grows lexicon second third number_kind item x h
      (shows_grows lexicon first second number_kind item x g ft)) in
      let sx = shows_grows lexicon third fourth number_kind low from i
      (shows_grows lexicon second third number_kind low from h fx) in
      let sy = shows_grows lexicon third fourth number_kind high end i fy in
      let names = names_at lexicon a in
      let v : Point → Option Value = λ p. Some (value_as lexicon number_kind p) in
      ap (λ vs. truth (is_in names (Two between.UpTo low high) vs)) (each_single names item (worth names item) single)
      ∙ (ap (λ w. truth (comparison between.AtMost (worth names low) w && comparison between.AtMost
      w (worth names high))) (st.worth_is a r)
      ∙ (ap (λ w. truth (comparison between.AtMost w (v (a x)) && comparison between.AtMost
      (v (a x)) (worth names high))) (sx.worth_is a r)
      ∙ (ap (λ w. truth (comparison between.AtMost (v (a from)) (v (a x)) && comparison
      between.AtMost (v (a x)) w)) (sy.worth_is a r)
      ∙ (three_numbers lexicon r.words (a x) (a from) (a end)
      (is_proper lexicon fourth x number_kind a i.sound r st.has).of_kind
      (is_proper lexicon fourth from number_kind a i.sound r sx.has).of_kind
      (is_proper lexicon fourth end number_kind a i.sound r sy.has).of_kind
      ∙ ap (λ p. Some (value_as lexicon truth_kind p)) (sym (m.is a r))))));
}
