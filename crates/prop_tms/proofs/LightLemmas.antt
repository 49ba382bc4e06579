-- Entries of few premises that are enough for what is believed, and of which none can be left out.
use Rattle.std.proofs.Common.{◌≡◌, ◌≢◌, ◌∙◌, ◌<◌, ◌≤◌, ◌||◌, ℕ, zero, suc, Bool, true, false, List, []}
use Rattle.std.proofs.Common.{◌∷◌, ◌++◌, length}
use Rattle.std.proofs.Common.{slice_get, Some, refl, sym, ap, subst, arith, inl, inr, Contains, All}
use Rattle.std.specs.List.{remove}
use Rattle.std.specs.List.Sorted.{IsStrictlyIncreasing}
use Rattle.std.proofs.lemmas.Bool.{ltb-true}
use Rattle.std.proofs.lemmas.List.Elements.{All-nil, All-cons, All-contains, All-weaker, Contains-append_cases}
use Rattle.std.proofs.lemmas.List.Elements.{Contains-append_left, Contains-append_right, Contains-push}
use Rattle.prop_lattice.specs.InformationOrder.{IsInformationOrder}
use Rattle.prop_numbers.specs.Sets.{Members, set_of, union, is_within, IsSame}
use Rattle.prop_numbers.proofs.MergeLemmas.{same_increasing}
use Rattle.prop_tms.specs.Beliefs.{merge_of_all, belief_of, believed_of, lighter_of, IsLean}
use Rattle.prop_tms.specs.inner.Gains.{HasSaid, IsLight, nobody}
use Rattle.prop_tms.specs.declared.supported.Supported.{Supported}
use Rattle.prop_tms.proofs.KeptLemmas.{contains_cases}
use Rattle.prop_tms.proofs.MergedLemmas.{first_below, second_below, join_below, join-bottom}
use Rattle.prop_tms.proofs.BeliefLemmas.{below_belief}
use Rattle.prop_tms.proofs.GainLemmas.{in_lighter, to_lighter, in_believed, to_believed}
use Rattle.prop_tms.proofs.LeanLemmas.{merge_under, in_merge, less_than, from_removed}

either : (b c : Bool) → (b || c) ≡ (c || (b || false))
either true true = refl
either true false = refl
either false true = refl
either false false = refl

or_false : (b : Bool) → b ≡ (b || false)
or_false true = refl
or_false false = refl

-- an entry of one premise at most has more than those on none alone
pub light_is_free : {V : Type 0} (es : List (Supported V)) (e x : Supported V) → length e.support ≤ 1
    → Contains (lighter_of es e) x → x.support ≡ []
light_is_free es e x few here =
    none x.support (let lt = ltb-true (length x.support) (length e.support) (in_lighter es e x here).1 in
    omega (arith, lt, few))
  where
    none : (ps : List ℕ) → length ps < 1 → ps ≡ []
    none [] l = refl
    none (p ∷ ps) l = absurd (omega (arith, l))

module _ {V : Type 0} {below : V → V → Type 0} {bottom top : V} {join : V → V → V}
    (laws : IsInformationOrder below bottom top join) where
  -- what entries on no premises say is said freely
  pub freely_above : (es : List (Supported V)) (x : Supported V) → Contains es x → x.support ≡ []
      → below x.value (belief_of bottom join nobody es)
  freely_above es x here none = below_belief laws nobody es x here
      (subst (λ ps. is_within nobody ps ≡ true) (sym none) refl)

  -- light entries among some are so among all, where all are said
  pub light_among : (w : Members) (es gained : List (Supported V)) (v : V) (support : List ℕ)
      → v ≡ belief_of bottom join w es
      → All (Contains es) gained → HasSaid bottom w es gained
      → IsLight bottom join gained w v support → IsLight bottom join es w v support
  light_among w es gained v support is among said light = record {
    chosen = light.chosen;
    among = All-weaker (Contains gained) (Contains es) (λ x c. All-contains (Contains es) gained x among c) light.chosen
        light.among;
    believed = light.believed;
    merged = light.merged;
    needed = λ k e at. less_than laws v (lighter_of (believed_of w es) e ++ remove light.chosen k)
        (lighter_of (believed_of w gained) e ++ remove light.chosen k) (said_there e k)
        (merge_under laws (lighter_of (believed_of w gained) e ++ remove light.chosen k) v (under e k))
        (light.needed k e at);
    joined = light.joined;
  }
    where
      said_there : (e : Supported V) (k : ℕ) (x : Supported V)
          → Contains (lighter_of (believed_of w es) e ++ remove light.chosen k) x
          → below x.value (merge_of_all bottom join (lighter_of (believed_of w gained) e ++ remove light.chosen k))
      said_there e k x here =
          let rest = remove light.chosen k in
          let there = lighter_of (believed_of w gained) e in
          elim (Contains-append_cases (lighter_of (believed_of w es) e) rest x here) [
            | inl front ↦
                (let a = in_lighter (believed_of w es) e x front in
                let b = in_believed w es x a.0 in
                elim (said x b.0 b.1) [
                  | inl none ↦ subst (λ u. below u (merge_of_all bottom join (there ++ rest))) (sym none)
                      (laws.from_bottom (merge_of_all bottom join (there ++ rest)))
                  | inr c ↦ in_merge laws (there ++ rest) x (Contains-append_left there rest x
                      (to_lighter (believed_of w gained) e x (to_believed w gained x c b.1) a.1))
                ])
            | inr b ↦ in_merge laws (there ++ rest) x (Contains-append_right there rest x b)
          ]

      under : (e : Supported V) (k : ℕ) (x : Supported V)
          → Contains (lighter_of (believed_of w gained) e ++ remove light.chosen k) x → below x.value v
      under e k x here =
          elim (Contains-append_cases (lighter_of (believed_of w gained) e) (remove light.chosen k) x here) [
            | inl front ↦
                (let b = in_believed w gained x (in_lighter (believed_of w gained) e x front).0 in
                rw is (below_belief laws w es x (All-contains (Contains es) gained x among b.0) b.1))
            | inr b ↦ rw light.merged at (in_merge laws light.chosen x (from_removed laws light.chosen k x b))
          ]

  pub lean_light : (w : Members) (es : List (Supported V)) (v : V) (support : List ℕ)
      → IsLight bottom join es w v support → IsLean bottom join es w v support
  lean_light w es v support light = record {
    chosen = light.chosen;
    among = light.among;
    believed = light.believed;
    merged = light.merged;
    needed = light.needed;
    joined = inl light.joined;
  }

  -- an entry that alone says the value, on fewer premises than light ones
  pub lean_shorter : (w : Members) (es : List (Supported V)) (v : V) (together support : List ℕ) (e : Supported V)
      → IsLight bottom join es w v together → IsStrictlyIncreasing together → length e.support < length together
      → Contains es e → is_within w e.support ≡ true → v ≡ belief_of bottom join w es → below v e.value
      → support ≡ e.support → IsLean bottom join es w v support
  lean_shorter w es v together support e light up fewer c on is says copied = record {
    chosen = light.chosen;
    among = light.among;
    believed = light.believed;
    merged = light.merged;
    needed = light.needed;
    joined = inr (
      e,
      to_believed w es e c on,
      laws.antisymmetric e.value v (rw is (below_belief laws w es e c on)) says,
      copied,
      λ s ordered joint.
          let same = same_increasing together s up ordered (λ p. light.joined p ∙ sym (joint p)) in
          let m = ap length same in
          let n = ap length copied in
          omega (arith, fewer, m, n),
    );
  }

  -- one entry that alone says the value, which those of fewer premises don't
  pub lean_alone : (w : Members) (es : List (Supported V)) (e : Supported V) (v : V) (support : List ℕ) → Contains es e
      → is_within w e.support ≡ true → v ≡ belief_of bottom join w es → below v e.value
      → ¬ (below v (merge_of_all bottom join (lighter_of (believed_of w es) e)))
      → support ≡ e.support → IsLean bottom join es w v support
  lean_alone w es e v support c on is says light copied = record {
    chosen = e ∷ [];
    among = All-cons (Contains es) e [] c (All-nil (Contains es));
    believed = All-cons (λ x. is_within w x.support ≡ true) e [] on (All-nil (λ x. is_within w x.support ≡ true));
    merged = join-bottom laws e.value ∙ laws.antisymmetric e.value v (rw is (below_belief laws w es e c on)) says;
    needed = needed;
    joined = inl (λ p. ap (λ ps. set_of ps p) copied ∙ or_false (set_of e.support p));
  }
    where
      itself : merge_of_all bottom join (lighter_of (believed_of w es) e ++ []) ≢ v
      itself same =
          let z = merge_of_all bottom join (lighter_of (believed_of w es) e) in
          let less : below (merge_of_all bottom join (lighter_of (believed_of w es) e ++ [])) z =
          merge_under laws (lighter_of (believed_of w es) e ++ []) z (λ x here. elim
          (Contains-append_cases (lighter_of (believed_of w es) e) [] x here) [
            | inl a ↦ in_merge laws (lighter_of (believed_of w es) e) x a
            | inr none ↦ absurd (omega (arith, none.1))
          ]) in
          light (subst (λ u. below u z) same less)

      needed : (k : ℕ) (y : Supported V) → slice_get (e ∷ []) k ≡ Some y
          → merge_of_all bottom join (lighter_of (believed_of w es) y ++ remove (e ∷ []) k) ≢ v
      needed zero y at =
          let is : e ≡ y = cc (at) in
          subst (λ z. merge_of_all bottom join (lighter_of (believed_of w es) z ++ []) ≢ v) is itself
      needed (suc k) y at = absurd (cc (at))

  -- the only believed entry, where it says something
  pub sole_lean : (w : Members) (es : List (Supported V)) (e : Supported V) (support : List ℕ)
      → e ∷ [] ≡ believed_of w es → belief_of bottom join w es ≡ e.value
      → ¬ (below e.value bottom) → support ≡ e.support → IsLean bottom join es w e.value support
  sole_lean w es e support only whole some copied =
      let among = in_believed w es e (subst (λ (xs : List (Supported V)). Contains xs e) only (Contains-push [] e)) in
      lean_alone w es e e.value support among.0 among.1 (sym whole) (laws.reflexive e.value) light copied
    where
      none : (x : Supported V) → Contains (lighter_of (e ∷ []) e) x → below x.value bottom
      none x here =
          let a = in_lighter (e ∷ []) e x here in
          let lt = ltb-true (length x.support) (length e.support) a.1 in
          elim (contains_cases e x [] a.0) [
            | inl is ↦ (let n = ap (λ (y : Supported V). length y.support) is in absurd (omega (arith, lt, n)))
            | inr other ↦ absurd (omega (arith, other.1))
          ]

      light : ¬ (below e.value (merge_of_all bottom join (lighter_of (believed_of w es) e)))
      light says =
          let z = merge_of_all bottom join (lighter_of (e ∷ []) e) in
          let here : below e.value z =
          subst (λ (xs : List (Supported V)). below e.value (merge_of_all bottom join (lighter_of xs e)))
          (sym only) says in
          some (laws.transitive e.value z bottom here (merge_under laws (lighter_of (e ∷ []) e) bottom none))

  -- two entries that say the value together, neither of which does with what is said on fewer premises
  pub lean_both : (w : Members) (es : List (Supported V)) (a b : Supported V) (v : V) (support : List ℕ)
      → Contains es a → Contains es b → is_within w a.support ≡ true → is_within w b.support ≡ true
      → v ≡ belief_of bottom join w es → below v (join a.value b.value)
      → ¬ (below v (join b.value (merge_of_all bottom join (lighter_of (believed_of w es) a))))
      → ¬ (below v (join (merge_of_all bottom join (lighter_of (believed_of w es) b)) a.value))
      → IsSame (set_of support) (union (set_of b.support) (set_of a.support)) → IsLean bottom join es w v support
  lean_both w es a b v support ca cb on_a on_b is says light_a light_b same = record {
    chosen = a ∷ b ∷ [];
    among = All-cons (Contains es) a (b ∷ []) ca (All-cons (Contains es) b [] cb (All-nil (Contains es)));
    believed = All-cons (λ x. is_within w x.support ≡ true) a (b ∷ []) on_a
        (All-cons (λ x. is_within w x.support ≡ true) b [] on_b (All-nil (λ x. is_within w x.support ≡ true)));
    merged = ap (join a.value) (join-bottom laws b.value)
        ∙ laws.antisymmetric (join a.value b.value) v (join_below laws a.value b.value v
        (rw is (below_belief laws w es a ca on_a)) (rw is (below_belief laws w es b cb on_b))) says;
    needed = needed;
    joined = inl (λ p. same p ∙ either (set_of b.support p) (set_of a.support p));
  }
    where
      -- the lighter ones and another one say no more than both together
      beside : (e other : Supported V) (z : V) → below (merge_of_all bottom join (lighter_of (believed_of w es) e)) z
          → below other.value z → below (merge_of_all bottom join (lighter_of (believed_of w es) e ++ other ∷ [])) z
      beside e other z lighter its =
          merge_under laws (lighter_of (believed_of w es) e ++ other ∷ []) z (λ x here. elim
          (Contains-append_cases (lighter_of (believed_of w es) e) (other ∷ []) x here) [
            | inl c ↦ laws.transitive x.value (merge_of_all bottom join (lighter_of (believed_of w es) e)) z
                (in_merge laws (lighter_of (believed_of w es) e) x c) lighter
            | inr last ↦ elim (contains_cases other x [] last) [
              | inl same ↦ subst (λ (y : Supported V). below y.value z) same its
              | inr none ↦ absurd (omega (arith, none.1))
            ]
          ])

      needed_a : merge_of_all bottom join (lighter_of (believed_of w es) a ++ b ∷ []) ≢ v
      needed_a whole =
          let m = merge_of_all bottom join (lighter_of (believed_of w es) a) in
          light_a (subst (λ u. below u (join b.value m)) whole
          (beside a b (join b.value m) (second_below laws b.value m)
          (first_below laws b.value m)))

      needed_b : merge_of_all bottom join (lighter_of (believed_of w es) b ++ a ∷ []) ≢ v
      needed_b whole =
          let m = merge_of_all bottom join (lighter_of (believed_of w es) b) in
          light_b (subst (λ u. below u (join m a.value)) whole (beside b a (join m a.value) (first_below laws m a.value)
          (second_below laws m a.value)))

      needed : (k : ℕ) (y : Supported V) → slice_get (a ∷ b ∷ []) k ≡ Some y
          → merge_of_all bottom join (lighter_of (believed_of w es) y ++ remove (a ∷ b ∷ []) k) ≢ v
      needed zero y at =
          let same : a ≡ y = cc (at) in
          subst (λ z. merge_of_all bottom join (lighter_of (believed_of w es) z ++ b ∷ []) ≢ v) same needed_a
      needed (suc zero) y at =
          let same : b ≡ y = cc (at) in
          subst (λ z. merge_of_all bottom join (lighter_of (believed_of w es) z ++ a ∷ []) ≢ v) same needed_b
      needed (suc (suc k)) y at = absurd (cc (at))

  -- an entry on no premises is needed beside another one that doesn't say the value
  pub light_beside_free : (es : List (Supported V)) (e : Supported V) (other v : V) → e.support ≡ []
      → ¬ (below v other) → ¬ (below v (join other (merge_of_all bottom join (lighter_of es e))))
  light_beside_free es e other v free less says =
      let z = merge_of_all bottom join (lighter_of es e) in
      let n = ap length free in
      less (laws.transitive v (join other z) other says (join_below laws other z other (laws.reflexive other)
      (merge_under laws (lighter_of es e) other (λ x here.
      let lt = ltb-true (length x.support) (length e.support) (in_lighter es e x here).1 in
      absurd (omega (arith, lt, n))))))

  -- an entry of one premise at most is needed beside another one that doesn't say the value with what is said freely
  pub light_beside_few : (es : List (Supported V)) (e : Supported V) (other freely v : V)
      → freely ≡ belief_of bottom join nobody es → length e.support ≤ 1 → ¬ (below v (join other freely))
      → ¬ (below v (join other (merge_of_all bottom join (lighter_of es e))))
  light_beside_few es e other freely v is few without says =
      let z = merge_of_all bottom join (lighter_of es e) in
      let less : below z freely = rw is (merge_under laws (lighter_of es e) (belief_of bottom join nobody es)
      (λ x here. freely_above es x (in_lighter es e x here).0 (light_is_free es e x few here))) in
      without (laws.transitive v (join other z) (join other freely) says (join_below laws other z (join other freely)
      (first_below laws other freely)
      (laws.transitive z freely (join other freely) less (second_below laws other freely))))

  -- ---- where the last entry is set apart

  -- what the lighter ones say is said by those before it, but for what it says itself
  pub lighter_last : (w : Members) (es : List (Supported V)) (b e : Supported V) (z : V) → below b.value z
      → ((x : Supported V) → Contains (lighter_of es e) x → below x.value z)
      → below (merge_of_all bottom join (lighter_of (believed_of w (es ++ b ∷ [])) e)) z
  lighter_last w es b e z its others =
      merge_under laws (lighter_of (believed_of w (es ++ b ∷ [])) e) z (λ x here.
      let a = in_lighter (believed_of w (es ++ b ∷ [])) e x here in
      elim (Contains-append_cases es (b ∷ []) x (in_believed w (es ++ b ∷ []) x a.0).0) [
        | inl before ↦ others x (to_lighter es e x before a.1)
        | inr last ↦ elim (contains_cases b x [] last) [
          | inl same ↦ subst (λ (y : Supported V). below y.value z) same its
          | inr none ↦ absurd (omega (arith, none.1))
        ]
      ])

  -- it is not lighter than itself
  pub lighter_than_last : (w : Members) (es : List (Supported V)) (b : Supported V) → length b.support ≤ 1
      → below (merge_of_all bottom join (lighter_of (believed_of w (es ++ b ∷ [])) b)) (belief_of bottom join nobody es)
  lighter_than_last w es b few =
      let z = belief_of bottom join nobody es in
      merge_under laws (lighter_of (believed_of w (es ++ b ∷ [])) b) z (λ x here.
      let a = in_lighter (believed_of w (es ++ b ∷ [])) b x here in
      let lt = ltb-true (length x.support) (length b.support) a.1 in
      elim (Contains-append_cases es (b ∷ []) x (in_believed w (es ++ b ∷ []) x a.0).0) [
        | inl before ↦ freely_above es x before (light_is_free es b x few (to_lighter es b x before a.1))
        | inr last ↦ elim (contains_cases b x [] last) [
          | inl same ↦ (let n = ap (λ (y : Supported V). length y.support) same in absurd (omega (arith, lt, n)))
          | inr none ↦ absurd (omega (arith, none.1))
        ]
      ])
