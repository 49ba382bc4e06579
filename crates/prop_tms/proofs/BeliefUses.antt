-- What the layers above use of beliefs: they grow, keep what each entry keeps, and a lean support is enough for its
-- value.
use Rattle.std.proofs.Common.{◌≡◌, ◌∙◌, ◌<◌, ℕ, Bool, true, false, not, cond, if◌then◌else◌, List, [], ◌∷◌, get_or, sym}
use Rattle.std.proofs.Common.{ap, refl, arith, inl, inr, ◌||◌, All, Contains, filter, nat_lt, Result, Ok, Err, IfOk}
use Rattle.std.proofs.lemmas.Bool.Decides.{nat_tests}
use Rattle.std.proofs.lemmas.List.Folds.{Any-from_list_any, list_any_at}
use Rattle.std.proofs.lemmas.List.Elements.{recursion_from_All, All-nil, All-cons}
use Rattle.prop_lattice.specs.InformationOrder.{IsInformationOrder}
use Rattle.prop_numbers.specs.Sets.{Members, set_of, is_within, is_below, IsBelow}
use Rattle.prop_numbers.proofs.WithinLemmas.{within_has, within_from}
use Rattle.prop_tms.specs.Beliefs.{merge_of_all, belief_of, IsLeastBelief, IsLean, IsJoint, Adds}
use Rattle.prop_tms.specs.declared.supported.Supported.{Supported}
use Rattle.prop_tms.proofs.KeptLemmas.{contains_here, contains_there}
use Rattle.prop_tms.proofs.MergedLemmas.{first_below, second_below, merged_below, join-above, join-bottom}
use Rattle.prop_tms.proofs.GainLemmas.{in_believed}
use Rattle.prop_tms.proofs.BeliefLemmas.{belief_below, below_belief}

filter_idle : {X : Type 0} (t u : X → Bool) → ((x : X) → u x ≡ true → t x ≡ true) → (xs : List X)
    → filter u (filter t xs) ≡ filter u xs
filter_idle t u h [] = refl
filter_idle t u h (x ∷ xs) = by (t x) refl (u x) refl (filter_idle t u h xs)
  where
    by : (b : Bool) → t x ≡ b → (c : Bool) → u x ≡ c → filter u (filter t xs) ≡ filter u xs
        → filter u (cond b (x ∷ filter t xs) (filter t xs)) ≡ cond c (x ∷ filter u xs) (filter u xs)
    by true e true f ih = rw (f, ih) refl
    by true e false f ih = rw (f, ih) refl
    by false e true f ih = cc (e, h x f)
    by false e false f ih = ih

lt_test : (p n : ℕ) → p < n → nat_lt p n ≡ true
lt_test p n l = grind (arith, nat_tests)

-- premises with numbers below n believe what they did, once the entries that rest on others are gone
pub belief_of-below : {V : Type 0} (bottom : V) (join : V → V → V) (n : ℕ) (w : Members) → IsBelow n w
    → (es : List (Supported V)) →
    belief_of bottom join w (filter (λ e. is_below n e.support) es) ≡ belief_of bottom join w es
belief_of-below bottom join n w low es =
    ap (merge_of_all bottom join) (filter_idle (λ e. is_below n e.support) (λ e. is_within w e.support)
    (λ x on. within_from (λ p. nat_lt p n) x.support (λ p t. lt_test p n (low p (within_has w x.support p on t)))) es)

-- who doesn't believe a premise believes what they did, once the entries that rest on it are gone
pub belief_of-without : {V : Type 0} (bottom : V) (join : V → V → V) (p : ℕ) (w : Members) → w p ≡ false
    → (es : List (Supported V)) →
    belief_of bottom join w (filter (λ e. not (set_of e.support p)) es) ≡ belief_of bottom join w es
belief_of-without bottom join p w lacks es =
    ap (merge_of_all bottom join) (filter_idle (λ e. not (set_of e.support p)) (λ e. is_within w e.support)
    (λ x on. outside x.support on) es)
  where
    outside : (s : List ℕ) → is_within w s ≡ true → not (set_of s p) ≡ true
    outside s on = by (set_of s p) refl
      where
        by : (b : Bool) → set_of s p ≡ b → not b ≡ true
        by true t = cc (within_has w s p on t, lacks)
        by false t = refl

-- what entries say that pass a test keeps what each of them keeps
pub said_kept : {V : Type 0} (bottom : V) (join : V → V → V) (t : Supported V → Bool) (P : V → Type 0) → P bottom
    → ((a b : V) → P a → P b → P (join a b)) → (es : List (Supported V)) →
    ((x : Supported V) → Contains es x → t x ≡ true → P x.value) → P (merge_of_all bottom join (filter t es))
said_kept bottom join t P base both [] h = base
said_kept bottom join t P base both (e ∷ es) h =
    by (t e) refl (said_kept bottom join t P base both es (λ x c on. h x (contains_there e x es c) on))
  where
    by : (b : Bool) → t e ≡ b → P (merge_of_all bottom join (filter t es))
        → P (merge_of_all bottom join (cond b (e ∷ filter t es) (filter t es)))
    by true on ih = both e.value (merge_of_all bottom join (filter t es)) (h e (contains_here e es) on) ih
    by false off ih = ih

-- the support is that of believed entries whose merge is the value
pub record IsSaidBy {V : Type 0} (bottom : V) (join : V → V → V) (entries : List (Supported V)) (w : Members) (v : V)
    (support : List ℕ) : Type 0 where
  pub chosen : List (Supported V)
  pub among : All (Contains entries) chosen
  pub believed : All (λ e. is_within w e.support ≡ true) chosen
  pub merged : merge_of_all bottom join chosen ≡ v
  pub joined : IsJoint chosen support

or_false : (b : Bool) → b ≡ (b || false)
or_false true = refl
or_false false = refl

module _ {V : Type 0} {below : V → V → Type 0} {bottom top : V} {join : V → V → V}
    (laws : IsInformationOrder below bottom top join) where
  -- the entries whose premises a lean support has
  pub said_by : (entries : List (Supported V)) (w : Members) (v : V) (support : List ℕ)
      → IsLean bottom join entries w v support → IsSaidBy bottom join entries w v support
  said_by entries w v support lean = elim lean.joined [
    | inl joint ↦ record {
      chosen = lean.chosen;
      among = lean.among;
      believed = lean.believed;
      merged = lean.merged;
      joined = joint;
    }
    | inr alone ↦
        (let e = alone.0 in
        let here = in_believed w entries e alone.1 in
        record {
          chosen = e ∷ [];
          among = All-cons (Contains entries) e [] here.0 (All-nil (Contains entries));
          believed = All-cons (λ x. is_within w x.support ≡ true) e [] here.1
              (All-nil (λ x. is_within w x.support ≡ true));
          merged = join-bottom laws e.value ∙ alone.2;
          joined = λ p. ap (λ ps. set_of ps p) alone.3 ∙ or_false (set_of e.support p);
        })
  ]

  -- a lean support is believed
  pub within_lean : (entries : List (Supported V)) (w : Members) (v : V) (support : List ℕ)
      → IsLean bottom join entries w v support → is_within w support ≡ true
  within_lean entries w v support lean =
      let by = said_by entries w v support lean in
      within_from w support (λ p t.
      let some = Any-from_list_any (λ e. set_of e.support p) by.chosen (sym (by.joined p) ∙ t) in
      let believed = by.believed some.0 some.1 some.2 in
      within_has w some.1.support p (rw some.3 at believed) some.4)

  -- and where it is believed, so is at least the value
  pub lean_is_enough : (entries : List (Supported V)) (w : Members) (v : V) (support : List ℕ)
      → IsLean bottom join entries w v support → below v (belief_of bottom join (set_of support) entries)
  lean_is_enough entries w v support lean =
      let z = belief_of bottom join (set_of support) entries in
      let by = said_by entries w v support lean in
      rw (← by.merged) (merged_below laws by.chosen z
      (recursion_from_All (λ e. below e.value z) by.chosen (λ k d l.
      let e = get_or by.chosen k d in
      let its : is_within (set_of support) e.support ≡ true =
      within_from (set_of support) e.support
      (λ p t. by.joined p ∙ list_any_at (λ x. set_of x.support p) by.chosen k d l t) in
      below_belief laws (set_of support) entries e (by.among k d l) its)))

  -- what believes more knows more
  pub belief_of-more : (entries : List (Supported V)) (w u : Members) → ((p : ℕ) → w p ≡ true → u p ≡ true)
      → below (belief_of bottom join w entries) (belief_of bottom join u entries)
  belief_of-more entries w u more = belief_below laws w entries (belief_of bottom join u entries) (λ x c on.
      below_belief laws u entries x c (within_from u x.support (λ p t. more p (within_has w x.support p on t))))

  pub belief_of-least : (w : Members) (es : List (Supported V)) → IsLeastBelief below w es (belief_of bottom join w es)
  belief_of-least w es = record {
    above = λ x c on. below_belief laws w es x c on;
    least = λ z h. belief_below laws w es z h;
  }

  -- where a lean support is believed, and nothing else, the value is what is believed
  pub lean_says : (entries : List (Supported V)) (w : Members) (v : V) (support : List ℕ)
      → v ≡ belief_of bottom join w entries → IsLean bottom join entries w v support →
      belief_of bottom join (set_of support) entries ≡ v
  lean_says entries w v support is lean =
      let alone = belief_of bottom join (set_of support) entries in
      let all = belief_of bottom join w entries in
      let less : below alone all = belief_of-more entries (set_of support) w
      (λ p t. within_has w support p (within_lean entries w v support lean) t) in
      laws.antisymmetric alone v (rw (← is) at less) (lean_is_enough entries w v support lean)

  pub ok_within : {E : Type 0} (entries : List (Supported V)) (w : Members) (r : Result (Supported V) E)
      → IfOk r (λ e. IsLean bottom join entries w e.value e.support) → IfOk r (λ e. is_within w e.support ≡ true)
  ok_within entries w (Ok e) lean = within_lean entries w e.value e.support lean
  ok_within entries w (Err x) lean = tt

  pub ok_says : {E : Type 0} (entries : List (Supported V)) (w : Members) (r : Result (Supported V) E)
      → IfOk r (λ e. e.value ≡ belief_of bottom join w entries) →
      IfOk r (λ e. IsLean bottom join entries w e.value e.support)
      → IfOk r (λ e. belief_of bottom join (set_of e.support) entries ≡ e.value)
  ok_says entries w (Ok e) is lean = lean_says entries w e.value e.support is lean
  ok_says entries w (Err x) is lean = tt

  -- ---- one more entry

  -- no worldview knows less than before
  pub adds_grows : (old new : List (Supported V)) (e : Supported V) → Adds bottom join old new e → (w : Members)
      → below (belief_of bottom join w old) (belief_of bottom join w new)
  adds_grows old new e a w = rw (a.beliefs w) (by (is_within w e.support))
    where
      by : (b : Bool) → below (belief_of bottom join w old)
          (if b then join (belief_of bottom join w old) e.value else belief_of bottom join w old)
      by true = first_below laws (belief_of bottom join w old) e.value
      by false = laws.reflexive (belief_of bottom join w old)

  pub adds_joins : (old new : List (Supported V)) (e : Supported V) → Adds bottom join old new e → (w : Members)
      → is_within w e.support ≡ true →
      belief_of bottom join w new ≡ join (belief_of bottom join w old) e.value
  adds_joins old new e a w on = rw on at (a.beliefs w)

  -- what believes the new entry knows its value
  pub adds_tells : (old new : List (Supported V)) (e : Supported V) → Adds bottom join old new e → (w : Members)
      → is_within w e.support ≡ true → below e.value (belief_of bottom join w new)
  adds_tells old new e a w on = rw (adds_joins old new e a w on)
      (second_below laws (belief_of bottom join w old) e.value)

  -- a belief is as before just where it knew the value
  pub adds_nothing : (old new : List (Supported V)) (e : Supported V) → Adds bottom join old new e → (w : Members)
      → is_within w e.support ≡ true → below e.value (belief_of bottom join w old) →
      belief_of bottom join w new ≡ belief_of bottom join w old
  adds_nothing old new e a w on known = adds_joins old new e a w on
      ∙ join-above laws (belief_of bottom join w old) e.value known

  pub adds_nothing-known : (old new : List (Supported V)) (e : Supported V) → Adds bottom join old new e → (w : Members)
      → is_within w e.support ≡ true →
      belief_of bottom join w new ≡ belief_of bottom join w old → below e.value (belief_of bottom join w old)
  adds_nothing-known old new e a w on same = rw same at (adds_tells old new e a w on)
