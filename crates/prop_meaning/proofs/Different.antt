-- That several differ is worth what it is worth that each two of them are unequal.
use Rattle.std.proofs.Common.{◌≡◌, ◌∙◌, ℕ, List, [], ◌∷◌, ◌++◌, Bool, true, false, cond, not, ◌&&◌, ◌||◌}
use Rattle.std.proofs.Common.{Option, Some, None, refl, ap, sym, arith}
use Rattle.prop_procedures.specs.declared.shape.Kinded.{Kinded}
use Rattle.std.specs.List.{list_all, list_any}
use Rattle.std.proofs.lemmas.List.Folds.{list_all-append, list_any-append}
use Rattle.std.proofs.lemmas.Slice.Eq.{bytes_eq-Decides}
use Rattle.std.proofs.lemmas.Int.{ints}
use Rattle.prop_terms.specs.declared.operators.Infix.TheVariants as between
use Rattle.prop_terms.specs.declared.operators.Prefix.TheVariants.{Different}
use Rattle.prop_terms.specs.Meaning.{Names, Value, Whole, Text, are_different, comparison, each, holds, is_same}
use Rattle.prop_terms.specs.Meaning.{truth, worth}
use Rattle.prop_terms.specs.Terms.{Term, One, Two}
use Rattle.prop_meaning.specs.Words.{Lexicon, names_at}
use Rattle.prop_meaning.specs.declared.draft.Made.{Made}
use Rattle.prop_meaning.specs.inner.Drafts.{Grown, IsSound, Makes, Shows, truth_kind}
use Rattle.prop_meaning.specs.inner.Formulas.{formula, is_list}
use Rattle.prop_meaning.specs.inner.Lists.{different_of, unequal_to}
use Rattle.prop_meaning.proofs.Growing.{grown_here, shows_grows}
use Rattle.prop_meaning.proofs.Showing.{each_single, shows_two}

-- ---- two values

abbrev is_equal : Option Value → Option Value → Bool
is_equal v w = comparison between.Equal v w

abbrev is_unequal : Option Value → Option Value → Bool
is_unequal v w = comparison between.Unequal v w

holds_truth : (b : Bool) → holds (truth b) ≡ b
holds_truth true = refl
holds_truth false = refl

same_value : (v : Value) → is_same v v ≡ true
same_value (Whole z) = grind (arith, ints)
same_value (Text w) = (bytes_eq-Decides w w).1 refl

-- two are unequal if each has a value, and these aren't the same
unequal_is : (v w : Option Value) → is_unequal v w ≡ (is_equal v v && (is_equal w w && not (is_equal v w)))
unequal_is None w = refl
unequal_is (Some v) None = sym (ap (λ b. b && false) (same_value v))
unequal_is (Some v) (Some w) =
    sym (ap (λ b. b && (is_same w w && not (is_same v w))) (same_value v)
    ∙ ap (λ b. b && not (is_same v w)) (same_value w))

-- ---- truths

and_true : (b : Bool) → b && true ≡ b
and_true true = refl
and_true false = refl

none_of : (d w : Bool) → false ≡ (d && (w && false))
none_of false w = refl
none_of true false = refl
none_of true true = refl

one_more : (a b c d w e : Bool) → ((a && not (b || (c || false))) && (d && (w && not e)))
    ≡ (((a && not b) && d) && (w && not (c || e)))
one_more false b c d w e = refl
one_more true true c d w e = refl
one_more true false true d w e = none_of d w
one_more true false false d w e = refl

one_apart : (a w c : Bool) → (((a && true) && true) && (w && not (c || false)))
    ≡ (((a && true) && true) && ((a && (w && not c)) && true))
one_apart false w c = refl
one_apart true false c = refl
one_apart true true false = refl
one_apart true true true = refl

more_apart : (a b c d w e l : Bool) → (d && (w && not e)) ≡ (d && l)
    → (((a && not b) && d) && (w && not (c || e))) ≡ (((a && not b) && d) && ((a && (w && not c)) && l))
more_apart false b c d w e l h = refl
more_apart true true c d w e l h = refl
more_apart true false c false w e l h = refl
more_apart true false c true false e l h = refl
more_apart true false true true true e l h = refl
more_apart true false false true true e l h = h

alone_apart : (a x : Bool) → (((a && true) && true) && ((a && x) && true)) ≡ ((a && x) && true)
alone_apart false x = refl
alone_apart true x = refl

-- ---- several values

different_push : (vs : List (Option Value)) (w : Option Value) → are_different (vs ++ w ∷ [])
    ≡ (are_different vs && (is_equal w w && not (list_any (λ v. is_equal v w) vs)))
different_push [] w = and_true (is_equal w w && true)
different_push (v ∷ vs) w =
    ap (λ b. (is_equal v v && not b) && are_different (vs ++ w ∷ [])) (list_any-append (is_equal v) vs (w ∷ []))
    ∙ (ap (λ d. (is_equal v v && not (list_any (is_equal v) vs || (is_equal v w || false))) && d) (different_push vs w)
    ∙ one_more (is_equal v v) (list_any (is_equal v) vs) (is_equal v w) (are_different vs) (is_equal w w)
    (list_any (λ u. is_equal u w) vs))

-- of one or more that differ, another one differs from all if it is unequal to each
different_apart : (vs : List (Option Value)) (w : Option Value) → (vs ≡ [] → ⊥)
    → (are_different vs && (is_equal w w && not (list_any (λ v. is_equal v w) vs)))
    ≡ (are_different vs && list_all (λ v. is_unequal v w) vs)
different_apart [] w n = absurd (n refl)
different_apart (v ∷ []) w n = one_apart (is_equal v v) (is_equal w w) (is_equal v w)
    ∙ ap (λ b. ((is_equal v v && true) && true) && (b && true)) (sym (unequal_is v w))
different_apart (v ∷ (x ∷ xs)) w n =
    let rest = x ∷ xs in
    more_apart (is_equal v v) (list_any (is_equal v) rest) (is_equal v w) (are_different rest) (is_equal w w)
    (list_any (λ u. is_equal u w) rest) (list_all (λ u. is_unequal u w) rest)
    (different_apart (x ∷ xs) w (λ e. absurd (cc)))
    ∙ ap (λ b. are_different (v ∷ rest) && (b && list_all (λ u. is_unequal u w) rest)) (sym (unequal_is v w))

-- ---- terms

push_some : (vs : List (Option Value)) (w : Option Value) → vs ++ w ∷ [] ≡ [] → ⊥
push_some [] w e = absurd (cc)
push_some (v ∷ vs) w e = absurd (cc)

each_some : (names : Names) (t : Term) (v : Option Value) → each names t v ≡ [] → ⊥
each_some names (Two between.Comma t u) v e = push_some (each names t (worth names t)) (worth names u) e
each_some names t v e = absurd (cc)

unequal_worth : (names : Names) (t u : Term) → worth names (unequal_to t u)
    ≡ truth (list_all (λ v. is_unequal v (worth names u)) (each names t (worth names t)))
unequal_worth names (Two between.Comma t s) u =
    let test : Option Value → Bool = λ v. is_unequal v (worth names u) in
    let vs = each names t (worth names t) in
    ap (λ v. truth (holds v && holds (truth (test (worth names s))))) (unequal_worth names t u)
    ∙ (ap (λ b. truth (b && holds (truth (test (worth names s))))) (holds_truth (list_all test vs))
    ∙ (ap (λ b. truth (list_all test vs && b)) (holds_truth (test (worth names s)) ∙ sym (and_true _))
    ∙ ap truth (sym (list_all-append test vs (worth names s ∷ [])))))
unequal_worth names t u = ap truth (sym (and_true (is_unequal (worth names t) (worth names u))))

list_worth : (names : Names) (t u : Term) → worth names (One Different t) ≡ worth names (different_of t)
    → (b : Bool) → is_list t ≡ b
    → truth (are_different (each names t (worth names t))
    && list_all (λ v. is_unequal v (worth names u)) (each names t (worth names t)))
    ≡ worth names (cond b (Two between.And (different_of t) (unequal_to t u)) (unequal_to t u))
list_worth names t u h true e =
    let vs = each names t (worth names t) in
    let test : Option Value → Bool = λ v. is_unequal v (worth names u) in
    sym (ap (λ v. truth (holds v && holds (worth names (unequal_to t u)))) (sym h)
    ∙ (ap (λ v. truth (holds (truth (are_different vs)) && holds v)) (unequal_worth names t u)
    ∙ (ap (λ b. truth (b && holds (truth (list_all test vs)))) (holds_truth (are_different vs))
    ∙ ap (λ b. truth (are_different vs && b)) (holds_truth (list_all test vs)))))
list_worth names t u h false e =
    let v = worth names t in
    let w = worth names u in
    let test : Option Value → Bool = λ v. is_unequal v w in
    ap truth (ap (λ vs. are_different vs && list_all test vs) (each_single names t v e)
    ∙ (ap (λ b. ((is_equal v v && true) && true) && (b && true)) (unequal_is v w)
    ∙ (alone_apart (is_equal v v) (is_equal w w && not (is_equal v w))
    ∙ (ap (λ b. b && true) (sym (unequal_is v w)) ∙ ap (list_all test) (sym (each_single names t v e))))))
    ∙ sym (unequal_worth names t u)

different_worth : (names : Names) (t : Term) → worth names (One Different t) ≡ worth names (different_of t)
different_worth names (Two between.Comma t u) =
    let vs = each names t (worth names t) in
    ap truth (different_push vs (worth names u)
    ∙ different_apart vs (worth names u) (each_some names t (worth names t)))
    ∙ list_worth names t u (different_worth names t) (is_list t) refl
different_worth names t =
    let same = is_equal (worth names t) (worth names t) in
    ap truth (and_true (same && true) ∙ and_true same)

pub shows_different : (lexicon : Lexicon) (made : List Made) (t : Term) (place : ℕ)
    → Shows lexicon made truth_kind (different_of t) place → Shows lexicon made truth_kind (One Different t) place
shows_different lexicon made t place s = record {
  has = s.has;
  worth_is = λ a r. different_worth (names_at lexicon a) t ∙ s.worth_is a r;
}

-- ---- cells

pub shows_itself : (lexicon : Lexicon) (kinded : Kinded) (t : Term) (x place : ℕ) (first second : List Made)
    → IsSound lexicon first → Shows lexicon first kinded t x → Grown lexicon first second
    → Makes lexicon second truth_kind (λ a. formula between.Equal (a x) (a x)) place
    → Shows lexicon second truth_kind (Two between.Equal t t) place
shows_itself lexicon kinded t x place first second sound ft g m =
    shows_two lexicon between.Equal kinded t t x x place first first second tt ft (grown_here lexicon first sound) ft
    g m

pub shows_unequal : (lexicon : Lexicon) (kinded : Kinded) (t u : Term) (x y place : ℕ) (old first second : List Made)
    → Shows lexicon old kinded u y → Grown lexicon old first → Shows lexicon first kinded t x
    → Grown lexicon first second → Makes lexicon second truth_kind (λ a. formula between.Unequal (a x) (a y)) place
    → Shows lexicon second truth_kind (Two between.Unequal t u) place
shows_unequal lexicon kinded t u x y place old first second fu g ft h m =
    shows_two lexicon between.Unequal kinded t u x y place first first second tt ft (grown_here lexicon first g.sound)
    (shows_grows lexicon old first kinded u y g fu) h m

pub shows_both : (lexicon : Lexicon) (t u : Term) (x y place : ℕ) (first second third : List Made)
    → Shows lexicon first truth_kind t x → Grown lexicon first second → Shows lexicon second truth_kind u y
    → Grown lexicon second third → Makes lexicon third truth_kind (λ a. formula between.And (a x) (a y)) place
    → Shows lexicon third truth_kind (Two between.And t u) place
shows_both lexicon t u x y place first second third ft g fu h m =
    shows_two lexicon between.And truth_kind t u x y place first second third refl ft g fu h m

-- one term alone is unequal by itself
pub unequal_alone : (t u : Term) → is_list t ≡ false → unequal_to t u ≡ Two between.Unequal t u
unequal_alone (Two between.Comma t s) u e = absurd (cc)
unequal_alone t u e = refl
