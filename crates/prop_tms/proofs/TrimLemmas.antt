-- What entries say without one of them.
use Rattle.std.proofs.Common.{◌≡◌, ◌≢◌, ◌∙◌, ◌<◌, ◌≤◌, ◌+◌, not, ℕ, zero, suc, Bool, true, false, IsTrue, List, [], ◌∷◌}
use Rattle.std.proofs.Common.{◌++◌, length, get_or, slice_get, Some, refl, sym, ap, subst, arith, inl, inr, ◌⊎◌}
use Rattle.std.proofs.Common.{Contains, All, AllPairs}
use Rattle.std.specs.List.{remove}
use Rattle.std.proofs.lemmas.List.Elements.{All-contains, All-contains_itself, Contains-get_or, filter-append}
use Rattle.std.proofs.lemmas.Bool.{cases_lt}
use Rattle.std.proofs.lemmas.Option.{slice_get_within}
use Rattle.std.proofs.lemmas.List.Kept.{AllPairs-cons}
use Rattle.prop_lattice.specs.InformationOrder.{IsInformationOrder}
use Rattle.prop_numbers.specs.Sets.{Members, is_within, is_alike, is_at_most_one_of}
use Rattle.prop_tms.specs.Beliefs.{merge_of_all, believed_of, belief_of, Subsumes, NoneSubsumed, NoneAlike, Trims}
use Rattle.prop_tms.specs.Beliefs.{AreNeeded}
use Rattle.prop_tms.specs.Values.{entries_of}
use Rattle.prop_tms.specs.inner.Values.{values_of, place_of, AreKept}
use Rattle.prop_tms.specs.declared.values.Valued.{Valued}
use Rattle.prop_tms.specs.declared.supported.Supported.{Supported}
use Rattle.prop_tms.proofs.KeptLemmas.{contains_here, contains_there, contains_cases}
use Rattle.prop_tms.proofs.MergedLemmas.{merge_of_all-append}
use Rattle.prop_tms.proofs.BeliefLemmas.{belief_below, below_belief}

-- ---- lists without one element

pub in_remove : {X : Type 0} (xs : List X) (k : ℕ) (x : X) → Contains (remove xs k) x → Contains xs x
in_remove [] k x h = by k h
  where
    by : (k : ℕ) → Contains (remove [] k) x → Contains [] x
    by zero h = h
    by (suc k) h = h
in_remove (y ∷ ys) zero x h = contains_there y x ys h
in_remove (y ∷ ys) (suc k) x h = elim (contains_cases y x (remove ys k) h) [
  | inl e ↦ rw e (contains_here x ys)
  | inr there ↦ contains_there y x ys (in_remove ys k x there)
]

-- an element is another than the one that goes, or it stays
pub remove_cases : {X : Type 0} (xs : List X) (k : ℕ) (x : X) → Contains xs x
    → (slice_get xs k ≡ Some x) ⊎ Contains (remove xs k) x
remove_cases [] k x h = absurd (omega (arith, h.1))
remove_cases (y ∷ ys) zero x h = elim (contains_cases y x ys h) [ inl e ↦ inl (ap Some e) | inr there ↦ inr there ]
remove_cases (y ∷ ys) (suc k) x h = elim (contains_cases y x ys h) [
  | inl e ↦ inr (subst (λ z. Contains (z ∷ remove ys k) x) (sym e) (contains_here x (remove ys k)))
  | inr there ↦ elim (remove_cases ys k x there) [
    | inl is ↦ inl is
    | inr stays ↦ inr (contains_there y x (remove ys k) stays)
  ]
]

pub remove_pairs : {X : Type 0} (R : X → X → Type 0) (xs : List X) (k : ℕ) → AllPairs R xs → AllPairs R (remove xs k)
remove_pairs R [] k h = by k
  where
    by : (k : ℕ) → AllPairs R (remove [] k)
    by zero = h
    by (suc k) = h
remove_pairs R (y ∷ ys) zero h = λ i j d lt l. h (suc i) (suc j) d (omega (arith, lt)) (omega (arith, l))
remove_pairs R (y ∷ ys) (suc k) h =
    let first : All (R y) ys = λ j d l. h 0 (suc j) d (omega arith) (omega (arith, l)) in
    AllPairs-cons R y (remove ys k) (λ j d l.
    All-contains (R y) ys (get_or (remove ys k) j d) first
    (in_remove ys k (get_or (remove ys k) j d) (Contains-get_or (remove ys k) j d l)))
    (remove_pairs R ys k (λ i j d lt l. h (suc i) (suc j) d (omega (arith, lt)) (omega (arith, l))))

-- one that stands before stays at its place
pub remove_before : {X : Type 0} (xs : List X) (k i : ℕ) → i < k → slice_get (remove xs k) i ≡ slice_get xs i
remove_before [] zero i lt = refl
remove_before [] (suc k) i lt = refl
remove_before (y ∷ ys) zero i lt = absurd (omega (arith, lt))
remove_before (y ∷ ys) (suc k) zero lt = refl
remove_before (y ∷ ys) (suc k) (suc i) lt = remove_before ys k i (omega (arith, lt))

-- and goes, where two go, whichever goes first
pub remove_both : {X : Type 0} (xs : List X) (k i : ℕ) → i ≤ k → remove (remove xs (suc k)) i ≡ remove (remove xs i) k
remove_both {X} [] k i le = by k i
  where
    by : (k i : ℕ) → remove (remove {X = X} [] (suc k)) i ≡ remove (remove {X = X} [] i) k
    by zero zero = refl
    by (suc k) zero = refl
    by zero (suc i) = refl
    by (suc k) (suc i) = refl
remove_both (y ∷ ys) k zero le = refl
remove_both (y ∷ ys) zero (suc i) le = absurd (omega (arith, le))
remove_both (y ∷ ys) (suc k) (suc i) le = ap (λ zs. y ∷ zs) (remove_both ys k i (omega (arith, le)))

module _ {V : Type 0} {below : V → V → Type 0} {bottom top : V} {join : V → V → V}
    (laws : IsInformationOrder below bottom top join) (w : Members) where
  pub belief-append : (xs ys : List (Supported V))
      → belief_of bottom join w (xs ++ ys) ≡ join (belief_of bottom join w xs) (belief_of bottom join w ys)
  belief-append xs ys =
      ap (merge_of_all bottom join) (filter-append (λ e. is_within w e.support) xs ys)
      ∙ merge_of_all-append laws (believed_of w xs) (believed_of w ys)

  -- fewer entries say no more
  pub belief_fewer : (xs ys : List (Supported V)) → ((x : Supported V) → Contains xs x → Contains ys x)
      → below (belief_of bottom join w xs) (belief_of bottom join w ys)
  belief_fewer xs ys h = belief_below laws w xs (belief_of bottom join w ys)
      (λ x c on. below_belief laws w ys x (h x c) on)

  pub belief_removed : (xs : List (Supported V)) (k : ℕ)
      → below (belief_of bottom join w (remove xs k)) (belief_of bottom join w xs)
  belief_removed xs k = belief_fewer (remove xs k) xs (in_remove xs k)

  -- one that isn't believed says nothing
  pub unbelieved_removed : (xs : List (Supported V)) (k : ℕ) (e : Supported V) → slice_get xs k ≡ Some e
      → is_within w e.support ≡ false → belief_of bottom join w (remove xs k) ≡ belief_of bottom join w xs
  unbelieved_removed xs k e at off =
      laws.antisymmetric (belief_of bottom join w (remove xs k)) (belief_of bottom join w xs) (belief_removed xs k)
      (belief_below laws w xs (belief_of bottom join w (remove xs k))
      (λ x c on. elim (remove_cases xs k x c) as (λ _. below x.value (belief_of bottom join w (remove xs k))) [
        | inl is ↦ (let same : Some e ≡ Some x = sym at ∙ is in let es : e ≡ x = cc in let no : is_within w
            x.support ≡ false = rw es at off in cc)
        | inr stays ↦ below_belief laws w (remove xs k) x stays on
      ]))

  -- one that was needed still is, once another is gone that wasn't
  pub still_needed : (xs : List (Supported V)) (k i : ℕ) → i < k
      → belief_of bottom join w (remove xs k) ≡ belief_of bottom join w xs
      → belief_of bottom join w (remove xs i) ≢ belief_of bottom join w xs →
      belief_of bottom join w (remove (remove xs k) i) ≢ belief_of bottom join w (remove xs k)
  still_needed xs zero i lt same needed e = omega (arith, lt)
  still_needed xs (suc k) i lt same needed e =
      let all = belief_of bottom join w xs in
      let less = belief_of bottom join w (remove xs i) in
      let both : belief_of bottom join w (remove (remove xs i) k) ≡ all =
      sym (ap (belief_of bottom join w) (remove_both xs k i (omega (arith, lt)))) ∙ e ∙ same in
      let up : below all less = rw both at (belief_removed (remove xs i) k) in
      needed (laws.antisymmetric less all (belief_removed xs i) up)

  -- an entry is needed just where the others don't say as much
  pub is_needed : (xs : List (Supported V)) (k : ℕ) (b : Bool)
      → (below (belief_of bottom join w xs) (belief_of bottom join w (remove xs k)) → IsTrue b) → IsTrue (not b)
      → belief_of bottom join w (remove xs k) ≢ belief_of bottom join w xs
  is_needed xs k true h t e = cc
  is_needed xs k false h t e = let no =
      h (subst (λ v. below v (belief_of bottom join w (remove xs k))) e
      (laws.reflexive (belief_of bottom join w (remove xs k)))) in cc

  pub is_needless : (xs : List (Supported V)) (k : ℕ) (b : Bool)
      → (IsTrue b → below (belief_of bottom join w xs) (belief_of bottom join w (remove xs k))) → not b ≡ false
      → belief_of bottom join w (remove xs k) ≡ belief_of bottom join w xs
  is_needless xs k true h t = laws.antisymmetric _ _ (belief_removed xs k) (h refl)
  is_needless xs k false h t = cc

  -- ---- one after the other

  -- the entries before a place were looked at
  abbrev pub AreJudged : Members → ℕ → List (Supported V) → Type 0
  AreJudged told place entries =
      (k : ℕ) (e : Supported V) → k < place → slice_get entries k ≡ Some e
      → IsTrue (is_at_most_one_of told e.support)
      ⊎ (belief_of bottom join w (remove entries k) ≢ belief_of bottom join w entries)

  pub judged_next : (told : Members) (place : ℕ) (xs : List (Supported V)) (x : Supported V) → AreJudged told place xs
      → slice_get xs place ≡ Some x →
      IsTrue (is_at_most_one_of told x.support)
      ⊎ (belief_of bottom join w (remove xs place) ≢ belief_of bottom join w xs) → AreJudged told (place + 1) xs
  judged_next told place xs x judged at last k e l at_k = elim (cases_lt k place) [
    | inl before ↦ judged k e before at_k
    | inr here ↦
        (let is : place ≡ k = omega (arith, l, here) in
        let both : Some x ≡ Some e = sym at ∙ ap (slice_get xs) is ∙ at_k in
        let same : x ≡ e = cc in
        subst (λ (p : ℕ). IsTrue (is_at_most_one_of told e.support)
        ⊎ (belief_of bottom join w (remove xs p) ≢ belief_of bottom join w xs)) is
        (subst (λ (y : Supported V). IsTrue (is_at_most_one_of told y.support)
        ⊎ (belief_of bottom join w (remove xs place) ≢ belief_of bottom join w xs)) same last))
  ]

  pub judged_removed : (told : Members) (place : ℕ) (xs : List (Supported V)) → AreJudged told place xs
      → belief_of bottom join w (remove xs place) ≡ belief_of bottom join w xs → AreJudged told place (remove xs place)
  judged_removed told place xs judged same k e l at_k = elim (judged k e l (sym (remove_before xs place k l) ∙ at_k)) [
    | inl told ↦ inl told
    | inr needed ↦ inr (still_needed xs place k l same needed)
  ]

  pub all_judged : (told : Members) (place : ℕ) (xs : List (Supported V)) → length xs ≤ place → AreJudged told place xs
      → AreNeeded bottom join told w xs
  all_judged told place xs le judged k e at = judged k e (let l = slice_get_within xs k e at in omega (arith, l, le)) at

  pub trims_none : (told : Members) (xs : List (Supported V)) → Trims bottom join told w xs xs
  trims_none told xs = record { among = All-contains_itself xs; belief = refl; kept = λ e c t. c }

  pub trims_more : (told : Members) (old xs : List (Supported V)) (k : ℕ) (x : Supported V)
      → Trims bottom join told w old xs → slice_get xs k ≡ Some x → is_at_most_one_of told x.support ≡ false →
      belief_of bottom join w (remove xs k) ≡ belief_of bottom join w xs → Trims bottom join told w old (remove xs k)
  trims_more told old xs k x t at other same = record {
    among = λ j d l. All-contains (Contains old) xs (get_or (remove xs k) j d) t.among
        (in_remove xs k (get_or (remove xs k) j d) (Contains-get_or (remove xs k) j d l));
    belief = same ∙ t.belief;
    kept = λ e c is_told. elim (remove_cases xs k e (t.kept e c is_told)) as (λ _. Contains (remove xs k) e) [
      | inl is ↦ (let both : Some x ≡ Some e = sym at ∙ is in let es : x ≡ e = cc in let no : is_at_most_one_of told
          e.support ≡ false = rw es at other in cc)
      | inr stays ↦ stays
    ];
  }

pub remove_length : {X : Type 0} (xs : List X) (k : ℕ) → k < length xs → length (remove xs k) + 1 ≡ length xs
remove_length [] k l = absurd (omega (arith, l))
remove_length (x ∷ xs) zero l = omega arith
remove_length (x ∷ xs) (suc k) l = let n = remove_length xs k (omega (arith, l)) in omega (arith, n)

-- ---- values one after the other

-- entries went, and those before the place were looked at
pub record IsTrimmed {V : Type 0} (below : V → V → Type 0) (bottom : V) (join : V → V → V) (told w : Members)
    (old now : List (Valued V)) (place : ℕ) : Type 0 where
  pub trims : Trims bottom join told w (entries_of old) (entries_of now)
  pub judged : (k : ℕ) (e : Supported V) → k < place → slice_get (entries_of now) k ≡ Some e →
      IsTrue (is_at_most_one_of told e.support)
      ⊎ (belief_of bottom join w (remove (entries_of now) k) ≢ belief_of bottom join w (entries_of now))
  pub subsumed : NoneSubsumed below (entries_of now)
  pub alike : NoneAlike (entries_of now)
  pub values : values_of now ≡ values_of old
  pub counted : length (entries_of now) ≤ length (entries_of old)

module _ {V : Type 0} {below : V → V → Type 0} {bottom top : V} {join : V → V → V}
    (laws : IsInformationOrder below bottom top join) (told w : Members) (old : List (Valued V)) where
  pub trimmed_none : AreKept below old → IsTrimmed below bottom join told w old old 0
  trimmed_none kept = record {
    trims = trims_none laws w told (entries_of old);
    judged = λ k e l. absurd (omega (arith, l));
    subsumed = kept.subsumed;
    alike = kept.alike;
    values = refl;
    counted = omega arith;
  }

  pub trimmed_next : (xs : List (Valued V)) (i place : ℕ) (e : Supported V)
      → IsTrimmed below bottom join told w old xs (place_of xs i place)
      → slice_get (entries_of xs) (place_of xs i place) ≡ Some e →
      IsTrue (is_at_most_one_of told e.support)
      ⊎ (belief_of bottom join w (remove (entries_of xs) (place_of xs i place)) ≢ belief_of bottom join w
      (entries_of xs)) →
      IsTrimmed below bottom join told w old xs (place_of xs i (place + 1))
  trimmed_next xs i place e t at last =
      let k = place_of xs i place in
      let judged = judged_next laws w told k (entries_of xs) e t.judged at last in
      record {
        trims = t.trims;
        judged = λ j x l. judged j x (omega (arith, l));
        subsumed = t.subsumed;
        alike = t.alike;
        values = t.values;
        counted = t.counted;
      }

  pub trimmed_more : (xs ys : List (Valued V)) (i place : ℕ) (e : Supported V)
      → entries_of ys ≡ remove (entries_of xs) (place_of xs i place) → values_of ys ≡ values_of xs
      → place_of ys i place ≡ place_of xs i place →
      place_of xs i place < length (entries_of xs) → slice_get (entries_of xs) (place_of xs i place) ≡ Some e
      → is_at_most_one_of told e.support ≡ false →
      belief_of bottom join w (remove (entries_of xs) (place_of xs i place)) ≡ belief_of bottom join w (entries_of xs) →
      IsTrimmed below bottom join told w old xs (place_of xs i place)
      → IsTrimmed below bottom join told w old ys (place_of ys i place)
  trimmed_more xs ys i place e less values here l at other same t =
      let k = place_of xs i place in
      let es = entries_of xs in
      let judged = judged_removed laws w told k es t.judged same in
      record {
        trims = subst (Trims bottom join told w (entries_of old)) (sym less)
            (trims_more laws w told (entries_of old) es k e t.trims at other same);
        judged = subst (λ (zs : List (Supported V)). AreJudged laws w told (place_of ys i place) zs) (sym less)
            (λ j x m. judged j x (omega (arith, m, here)));
        subsumed = subst (NoneSubsumed below) (sym less)
            (remove_pairs (λ a b. ¬ (Subsumes below a b) × ¬ (Subsumes below b a)) es k t.subsumed);
        alike = subst NoneAlike (sym less) (remove_pairs (λ a b. is_alike a.support b.support ≡ false) es k t.alike);
        values = values ∙ t.values;
        counted = (let n = ap length less in let m = remove_length es k l in omega (arith, n, m, t.counted));
      }

  pub trimmed_at : (xs : List (Valued V)) (k n : ℕ) → k ≡ n → IsTrimmed below bottom join told w old xs k
      → IsTrimmed below bottom join told w old xs n
  trimmed_at xs k n e t = subst (IsTrimmed below bottom join told w old xs) e t

  pub trimmed_all : (xs : List (Valued V)) (k : ℕ) → length (entries_of xs) ≤ k
      → IsTrimmed below bottom join told w old xs k → AreNeeded bottom join told w (entries_of xs)
  trimmed_all xs k le t = all_judged laws w told k (entries_of xs) le t.judged
