-- What operators make of lists is what these are worth.
use Rattle.std.proofs.Common.{◌≡◌, ◌∙◌, ℕ, suc, ℤ, pos, List, [], ◌∷◌, ◌++◌, Bool, true, false, cond, ◌+◌}
use Rattle.std.proofs.Common.{Option, Some, None, refl, ap, sym, arith, map, ◌+ℤ◌}
use Rattle.std.specs.Int.{int_max, int_min}
use Rattle.std.specs.Option.{option_map, option_and_then}
use Rattle.std.proofs.lemmas.List.{map-append}
use Rattle.std.proofs.lemmas.Int.{ints}
use Rattle.prop_lattice.specs.Points.{Point, Number, IsPointOf}
use Rattle.prop_terms.specs.declared.operators.Infix.{Infix}
use Rattle.prop_terms.specs.declared.operators.Infix.TheVariants as between
use Rattle.prop_terms.specs.declared.operators.Prefix.{Prefix}
use Rattle.prop_terms.specs.declared.operators.Prefix.TheVariants.{Max, Min, Sum, Count}
use Rattle.prop_terms.specs.Meaning.{Value, Whole, holds, whole, all_of, folded, gathered, of_all, count_of, applied}
use Rattle.prop_terms.specs.Meaning.{each, worth}
use Rattle.prop_terms.specs.Terms.{Term, One, Two}
use Rattle.prop_meaning.specs.Words.{Lexicon, IsLexicon, names_at, value_as}
use Rattle.prop_meaning.specs.declared.draft.Made.{Made}
use Rattle.prop_meaning.specs.inner.Drafts.{Grown, Has, Makes, Shows, TakesTwo, kind_between, number_kind, truth_kind}
use Rattle.prop_meaning.specs.inner.Formulas.{is_list}
use Rattle.prop_meaning.specs.inner.Lists.{is_gathering, kind_within, alone, counted}
use Rattle.prop_meaning.specs.inner.Lists as lists
use Rattle.prop_meaning.specs.inner.Steps.{truth_point}
use Rattle.prop_meaning.proofs.Formulas.{on_number, on_truth, holds_told}
use Rattle.prop_meaning.proofs.Growing.{is_proper, shows_grows}
use Rattle.prop_meaning.proofs.Showing.{each_single}

-- ---- one more

swapped : (x y : ℤ) (o : Option (List ℤ)) → option_map (λ r. x ∷ r) (option_map (λ xs. xs ++ y ∷ []) o)
    ≡ option_map (λ xs. xs ++ y ∷ []) (option_map (λ r. x ∷ r) o)
swapped x y None = refl
swapped x y (Some xs) = refl

all_push : (os : List (Option ℤ)) (y : ℤ) → all_of (os ++ Some y ∷ []) ≡ option_map (λ xs. xs ++ y ∷ []) (all_of os)
all_push [] y = refl
all_push (None ∷ os) y = refl
all_push (Some x ∷ os) y = ap (option_map (λ r. x ∷ r)) (all_push os y) ∙ swapped x y (all_of os)

folded_push : (f : ℤ → ℤ → ℤ) (x : ℤ) (xs : List ℤ) (y : ℤ) → folded f x (xs ++ y ∷ []) ≡ f (folded f x xs) y
folded_push f x [] y = refl
folded_push f x (z ∷ zs) y = folded_push f (f x z) zs y

gathered_push : (f : ℤ → ℤ → ℤ) (o : Option (List ℤ)) (x y : ℤ) → option_and_then (gathered f) o ≡ Some (Whole x)
    → option_and_then (gathered f) (option_map (λ xs. xs ++ y ∷ []) o) ≡ Some (Whole (f x y))
gathered_push f None x y e = absurd (cc)
gathered_push f (Some []) x y e = absurd (cc)
gathered_push f (Some (z ∷ zs)) x y e =
    ap (λ r. Some (Whole r)) (folded_push f z zs y ∙ ap (λ r. f r y) (same_in e))
  where
    same_in : Some (Whole (folded f z zs)) ≡ Some (Whole x) → folded f z zs ≡ x
    same_in e = cc

of_all_push : (f : ℤ → ℤ → ℤ) (vs : List (Option Value)) (x y : ℤ) → of_all f vs ≡ Some (Whole x)
    → of_all f (vs ++ Some (Whole y) ∷ []) ≡ Some (Whole (f x y))
of_all_push f vs x y e = ap (λ os. option_and_then (gathered f) (all_of os)) (map-append whole vs (Some (Whole y) ∷ []))
    ∙ (ap (option_and_then (gathered f)) (all_push (map whole vs) y) ∙ gathered_push f (all_of (map whole vs)) x y e)

counts_push : (vs : List (Option Value)) (w : Option Value) → count_of (vs ++ w ∷ []) ≡ count_of vs + cond (holds w) 1 0
counts_push [] w = by (holds w)
  where
    by : (b : Bool) → cond b 1 0 ≡ 0 + cond b 1 0
    by true = refl
    by false = refl
counts_push (v ∷ vs) w = by (holds v) (counts_push vs w)
  where
    next : (x y k : ℕ) → x ≡ y + k → suc x ≡ suc y + k
    next x y k e = omega (arith, e)

    by : (b : Bool) → count_of (vs ++ w ∷ []) ≡ count_of vs + cond (holds w) 1 0
        → cond b (suc (count_of (vs ++ w ∷ []))) (count_of (vs ++ w ∷ []))
        ≡ cond b (suc (count_of vs)) (count_of vs) + cond (holds w) 1 0
    by true e = next _ _ _ e
    by false e = e

-- ---- one

abbrev AloneMeans : Lexicon → Prefix → Point → Type 0
AloneMeans lexicon op q = (v : Option Value) → applied op v (Some (value_as lexicon (kind_within op) q) ∷ [])
    ≡ Some (value_as lexicon number_kind (alone op q))

counted_alone : (lexicon : Lexicon) → IsLexicon lexicon → (b : Bool)
    → Some (Whole (pos (cond (holds (Some (value_as lexicon truth_kind (truth_point b)))) 1 0)))
    ≡ Some (value_as lexicon number_kind (counted (truth_point b)))
counted_alone lexicon law true = ap (λ b. Some (Whole (pos (cond b 1 0)))) (holds_told lexicon law true)
counted_alone lexicon law false = ap (λ b. Some (Whole (pos (cond b 1 0)))) (holds_told lexicon law false)

alone_means : (lexicon : Lexicon) → IsLexicon lexicon → (op : Prefix) → is_gathering op ≡ true → (q : Point)
    → IsPointOf (kind_within op).kind (kind_within op).size q → AloneMeans lexicon op q
alone_means lexicon law Max g q h v = on_number 0 (λ q. applied Max v (Some (value_as lexicon number_kind q) ∷ [])
    ≡ Some (value_as lexicon number_kind q)) (λ y. refl) q h
alone_means lexicon law Min g q h v = on_number 0 (λ q. applied Min v (Some (value_as lexicon number_kind q) ∷ [])
    ≡ Some (value_as lexicon number_kind q)) (λ y. refl) q h
alone_means lexicon law Sum g q h v = on_number 0 (λ q. applied Sum v (Some (value_as lexicon number_kind q) ∷ [])
    ≡ Some (value_as lexicon number_kind q)) (λ y. refl) q h
alone_means lexicon law Count g q h v = on_truth
    (λ q. Some (Whole (pos (cond (holds (Some (value_as lexicon truth_kind q))) 1 0)))
    ≡ Some (value_as lexicon number_kind (counted q))) (λ b. counted_alone lexicon law b) q h
alone_means lexicon law op g q h v = absurd (cc)

-- ---- many

counted_more : (lexicon : Lexicon) → IsLexicon lexicon → (vs : List (Option Value)) (x : ℤ) (b : Bool)
    → Some (Whole (pos (count_of vs))) ≡ Some (Whole x)
    → Some (Whole (pos (count_of (vs ++ Some (value_as lexicon truth_kind (truth_point b)) ∷ []))))
    ≡ Some (value_as lexicon number_kind (lists.gathered Count (Number x) (truth_point b)))
counted_more lexicon law vs x b e =
    ap (λ n. Some (Whole (pos n))) (counts_push vs (Some (value_as lexicon truth_kind (truth_point b)))
    ∙ ap (λ t. count_of vs + cond t 1 0) (holds_told lexicon law b)) ∙ by b
  where
    same_in : Some (Whole (pos (count_of vs))) ≡ Some (Whole x) → pos (count_of vs) ≡ x
    same_in e = cc

    added : (n m : ℕ) → pos n ≡ x → pos (n + m) ≡ x +ℤ pos m
    added n m e = omega (arith, ints, e)

    by : (b : Bool) → Some (Whole (pos (count_of vs + cond b 1 0)))
        ≡ Some (value_as lexicon number_kind (lists.gathered Count (Number x) (truth_point b)))
    by true = ap (λ z. Some (Whole z)) (added (count_of vs) 1 (same_in e))
    by false = ap (λ z. Some (Whole z)) (added (count_of vs) 0 (same_in e))

abbrev MoreMeans : Lexicon → Prefix → Point → Point → Type 0
MoreMeans lexicon op p q = (v w : Option Value) (vs : List (Option Value))
    → applied op v vs ≡ Some (value_as lexicon number_kind p)
    → applied op w (vs ++ Some (value_as lexicon (kind_within op) q) ∷ [])
    ≡ Some (value_as lexicon number_kind (lists.gathered op p q))

more_means : (lexicon : Lexicon) → IsLexicon lexicon → (op : Prefix) → is_gathering op ≡ true → (p q : Point)
    → IsPointOf number_kind.kind 0 p → IsPointOf (kind_within op).kind (kind_within op).size q
    → MoreMeans lexicon op p q
more_means lexicon law Max g p q h i = on_number 0 (λ p. MoreMeans lexicon Max p q)
    (λ x. on_number 0 (λ q. MoreMeans lexicon Max (Number x) q)
    (λ y v w vs e. of_all_push int_max vs x y e) q i) p h
more_means lexicon law Min g p q h i = on_number 0 (λ p. MoreMeans lexicon Min p q)
    (λ x. on_number 0 (λ q. MoreMeans lexicon Min (Number x) q)
    (λ y v w vs e. of_all_push int_min vs x y e) q i) p h
more_means lexicon law Sum g p q h i = on_number 0 (λ p. MoreMeans lexicon Sum p q)
    (λ x. on_number 0 (λ q. MoreMeans lexicon Sum (Number x) q)
    (λ y v w vs e. of_all_push (λ x y. x +ℤ y) vs x y e) q i) p h
more_means lexicon law Count g p q h i = on_number 0 (λ p. MoreMeans lexicon Count p q)
    (λ x. on_truth (λ q. MoreMeans lexicon Count (Number x) q)
    (λ b v w vs e. counted_more lexicon law vs x b e) q i) p h
more_means lexicon law op g p q h i = absurd (cc)

-- ---- cells

pub shows_alone : (lexicon : Lexicon) (op : Prefix) (t : Term) (x place : ℕ) (first second : List Made)
    → is_gathering op ≡ true → is_list t ≡ false → Shows lexicon first (kind_within op) t x
    → Grown lexicon first second → Makes lexicon second number_kind (λ a. alone op (a x)) place
    → Shows lexicon second number_kind (One op t) place
shows_alone lexicon op t x place first second k single ft g m = record {
  has = m.has;
  worth_is = λ a r.
      let under = shows_grows lexicon first second (kind_within op) t x g ft in
      let names = names_at lexicon a in
      ap (applied op (worth names t)) (each_single names t (worth names t) single)
      ∙ (ap (λ v. applied op (worth names t) (v ∷ [])) (under.worth_is a r)
      ∙ (alone_means lexicon r.words op k (a x)
      (is_proper lexicon second x (kind_within op) a g.sound r under.has).of_kind (worth names t)
      ∙ ap (λ p. Some (value_as lexicon number_kind p)) (sym (m.is a r))));
}

pub shows_gathered : (lexicon : Lexicon) (op : Prefix) (t u : Term) (x y place : ℕ)
    (first second third : List Made) → is_gathering op ≡ true → Shows lexicon first number_kind (One op t) x
    → Grown lexicon first second → Shows lexicon second (kind_within op) u y → Grown lexicon second third
    → Makes lexicon third number_kind (λ a. lists.gathered op (a x) (a y)) place
    → Shows lexicon third number_kind (One op (Two between.Comma t u)) place
shows_gathered lexicon op t u x y place first second third k ft g fu h m = record {
  has = m.has;
  worth_is = λ a r.
      let left = shows_grows lexicon second third number_kind (One op t) x h
      (shows_grows lexicon first second number_kind (One op t) x g ft) in
      let right = shows_grows lexicon second third (kind_within op) u y h fu in
      let names = names_at lexicon a in
      let whole = worth names (Two between.Comma t u) in
      let before = each names t (worth names t) in
      ap (λ v. applied op whole (before ++ v ∷ [])) (right.worth_is a r)
      ∙ (more_means lexicon r.words op k (a x) (a y)
      (is_proper lexicon third x number_kind a h.sound r left.has).of_kind
      (is_proper lexicon third y (kind_within op) a h.sound r right.has).of_kind
      (worth names t) whole before (left.worth_is a r)
      ∙ ap (λ p. Some (value_as lexicon number_kind p)) (sym (m.is a r)));
}

-- a term of two that is a list has a comma between
pub is_comma : (op : Infix) (t u : Term) → is_list (Two op t u) ≡ true → op ≡ between.Comma
is_comma between.Comma t u e = refl
is_comma op t u e = absurd (cc)

-- ---- the pairs of lists

pub pair_takes : (op : Prefix) → TakesTwo (lists.pair_of op) number_kind
pair_takes Max = refl
pair_takes Min = refl
pair_takes op = refl

pub pair_between : (op : Prefix) → kind_between (lists.pair_of op) ≡ number_kind
pair_between Max = refl
pair_between Min = refl
pair_between op = refl

-- ---- one cell

pub alone_stays : (lexicon : Lexicon) (made : List Made) (op : Prefix) (x : ℕ) → (op ≡ Count → ⊥)
    → Has lexicon made x (kind_within op) → Makes lexicon made number_kind (λ a. alone op (a x)) x
alone_stays lexicon made Count x n h = absurd (n refl)
alone_stays lexicon made op x n h = record { has = h; is = λ a r. refl }
