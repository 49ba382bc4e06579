-- What entries say in each worldview, in any order of information.
use Rattle.std.proofs.Common.{◌≡◌, ◌∙◌, ℕ, Bool, true, false, ◌&&◌, List, [], ◌∷◌, ◌++◌, get_or, refl, sym, subst, inl}
use Rattle.std.proofs.Common.{inr, Contains, filter, cond, if◌then◌else◌}
use Rattle.std.specs.List.{AllByRecursion}
use Rattle.std.proofs.lemmas.List.Elements.{All-contains, All-from_recursion, recursion_from_All, Contains-get_or}
use Rattle.prop_lattice.specs.InformationOrder.{IsInformationOrder}
use Rattle.prop_numbers.specs.Sets.{Members, set_of, is_within, is_alike}
use Rattle.prop_numbers.proofs.WithinLemmas.{is_within-trans}
use Rattle.prop_tms.specs.Beliefs.{merge_of_all, believed_of, belief_of, Subsumes, NoneSubsumed, NoneAlike, IsNeedless}
use Rattle.prop_tms.specs.Beliefs.{Adds, joined_with}
use Rattle.prop_tms.specs.Kept.{IsLeftWithout}
use Rattle.prop_tms.specs.declared.supported.Supported.{Supported}
use Rattle.prop_tms.proofs.MergedLemmas.{first_below, second_below, join_below, merged_below, below_merged, join-above}
use Rattle.prop_tms.proofs.MergedLemmas.{join-assoc}
use Rattle.prop_tms.proofs.KeptLemmas.{contains_here, insert_cases, insert_here, insert_there, left_only}
use Rattle.prop_tms.proofs.KeptLemmas.{left_kept, left_none, left_pairs, pairs_insert}

filtered : {X : Type 0} (t : X → Bool) (P : X → Type 0) (xs : List X) → AllByRecursion (λ x. t x ≡ true → P x) xs
    → AllByRecursion P (filter t xs)
filtered t P [] h = tt
filtered t P (x ∷ xs) h = by (t x) refl (filtered t P xs h.1)
  where
    by : (b : Bool) → t x ≡ b → AllByRecursion P (filter t xs)
        → AllByRecursion P (cond b (x ∷ filter t xs) (filter t xs))
    by true e rest = (h.0 e, rest)
    by false e rest = rest

unfiltered : {X : Type 0} (t : X → Bool) (P : X → Type 0) (xs : List X) → AllByRecursion P (filter t xs)
    → AllByRecursion (λ x. t x ≡ true → P x) xs
unfiltered t P [] h = tt
unfiltered t P (x ∷ xs) h = by (t x) refl h (λ k. unfiltered t P xs k)
  where
    by : (b : Bool) → t x ≡ b → AllByRecursion P (cond b (x ∷ filter t xs) (filter t xs))
        → (AllByRecursion P (filter t xs) → AllByRecursion (λ y. t y ≡ true → P y) xs) →
        (t x ≡ true → P x) × AllByRecursion (λ y. t y ≡ true → P y) xs
    by true e k rest = (λ sure. k.0, rest k.1)
    by false e k rest = (λ sure. absurd (cc (e, sure)), rest k)

and_first : (b c : Bool) → (b && c) ≡ true → b ≡ true
and_first true c h = refl
and_first false c h = cc

and_second : (b c : Bool) → (b && c) ≡ true → c ≡ true
and_second true c h = h
and_second false c h = cc

alike_back : (ps qs : List ℕ) → is_alike ps qs ≡ false → is_alike qs ps ≡ false
alike_back ps qs h = by (is_within (set_of qs) ps) (is_within (set_of ps) qs) h
  where
    by : (b c : Bool) → (b && c) ≡ false → (c && b) ≡ false
    by true true h = h
    by true false h = refl
    by false true h = refl
    by false false h = refl

module _ {V : Type 0} {below : V → V → Type 0} {bottom top : V} {join : V → V → V}
    (laws : IsInformationOrder below bottom top join) where
  -- a belief is the least value above those of the believed entries
  pub belief_below : (w : Members) (es : List (Supported V)) (z : V)
      → ((x : Supported V) → Contains es x → is_within w x.support ≡ true → below x.value z)
      → below (belief_of bottom join w es) z
  belief_below w es z h =
      merged_below laws (believed_of w es) z (filtered (λ x. is_within w x.support) (λ x. below x.value z) es
      (recursion_from_All (λ x. is_within w x.support ≡ true → below x.value z) es
      (λ k d l. h (get_or es k d) (Contains-get_or es k d l))))

  pub below_belief : (w : Members) (es : List (Supported V)) (x : Supported V) → Contains es x
      → is_within w x.support ≡ true → below x.value (belief_of bottom join w es)
  below_belief w es x =
      let z = belief_of bottom join w es in
      All-contains (λ y. is_within w y.support ≡ true → below y.value z) es x
      (All-from_recursion (λ y. is_within w y.support ≡ true → below y.value z) es
      (unfiltered (λ y. is_within w y.support) (λ y. below y.value z) es (below_merged laws (believed_of w es))))

  -- where the believed entries say nothing, each of them says nothing
  pub says_nothing : (w : Members) (es : List (Supported V)) (x : Supported V) (v : V) → Contains es x
      → is_within w x.support ≡ true → belief_of bottom join w es ≡ bottom → below x.value v
  says_nothing w es x v here on none =
      laws.transitive x.value bottom v (rw none at (below_belief w es x here on)) (laws.from_bottom v)

  believed_too : (w : Members) (a b : Supported V) → Subsumes below a b → is_within w b.support ≡ true
      → is_within w a.support ≡ true
  believed_too w a b s h = is_within-trans w a.support b.support h s.support

  -- an entry joins those that are left, and those that it subsumes are gone
  belief-joined : (w : Members) (old front rear : List (Supported V)) (e : Supported V)
      → IsLeftWithout (Subsumes below e) old (front ++ rear) → (b : Bool) → is_within w e.support ≡ b →
      belief_of bottom join w (front ++ e ∷ rear)
      ≡ (if b then join (belief_of bottom join w old) e.value else belief_of bottom join w old)
  belief-joined w old front rear e left b at = laws.antisymmetric now then_ less more
    where
      before : V
      before = belief_of bottom join w old

      now : V
      now = belief_of bottom join w (front ++ e ∷ rear)

      then_ : V
      then_ = if b then join before e.value else before

      stays : (c : Bool) → below before (if c then join before e.value else before)
      stays true = first_below laws before e.value
      stays false = laws.reflexive before

      joins : (c : Bool) → c ≡ true → below e.value (if c then join before e.value else before)
      joins true h = second_below laws before e.value
      joins false h = cc

      less : below now then_
      less = belief_below w (front ++ e ∷ rear) then_ (λ x c sure. elim (insert_cases front rear e x c) [
        | inl there ↦ laws.transitive x.value before then_
            (below_belief w old x (left_only (Subsumes below e) old (front ++ rear) x left there) sure) (stays b)
        | inr is ↦ rw (← is) (joins b (sym at ∙ (rw (← is) at sure)))
      ])

      here : is_within w e.support ≡ true → below e.value now
      here sure = below_belief w (front ++ e ∷ rear) e (insert_here front rear e) sure

      kept : below before now
      kept = belief_below w old now (λ x c sure. elim (left_kept (Subsumes below e) old (front ++ rear) x left c) [
        | inl there ↦ below_belief w (front ++ e ∷ rear) x (insert_there front rear e x there) sure
        | inr gone ↦ laws.transitive x.value e.value now gone.value (here (believed_too w e x gone sure))
      ])

      both : (c : Bool) → (c ≡ true → below e.value now) → below (if c then join before e.value else before) now
      both true h = join_below laws before e.value now kept (h refl)
      both false h = kept

      more : below then_ now
      more = both b (λ t. here (at ∙ t))

  -- nothing is needless but what is least, or is subsumed
  pub needless_nothing : (es : List (Supported V)) (e : Supported V) → below e.value bottom
      → IsNeedless below bottom es e
  needless_nothing es e h = inl (laws.antisymmetric e.value bottom h (laws.from_bottom e.value))

  -- what the entries on the same premises say
  abbrev alike_said : List (Supported V) → Supported V → V
  alike_said es e = merge_of_all bottom join (filter (λ x. is_alike x.support e.support) es)

  alike_on : (w : Members) (x e : Supported V) → is_alike x.support e.support ≡ true → is_within w e.support ≡ true
      → is_within w x.support ≡ true
  alike_on w x e alike on = is_within-trans w x.support e.support on
      (and_first (is_within (set_of e.support) x.support) (is_within (set_of x.support) e.support) alike)

  -- is no more than is believed where these premises are
  alike_below : (w : Members) (es : List (Supported V)) (e : Supported V) → is_within w e.support ≡ true
      → below (alike_said es e) (belief_of bottom join w es)
  alike_below w es e on =
      let z = belief_of bottom join w es in
      merged_below laws (filter (λ x. is_alike x.support e.support) es) z
      (filtered (λ x. is_alike x.support e.support) (λ x. below x.value z) es
      (recursion_from_All (λ x. is_alike x.support e.support ≡ true → below x.value z) es
      (λ k d l alike. below_belief w es (get_or es k d) (Contains-get_or es k d l)
      (alike_on w (get_or es k d) e alike on))))

  -- and no less than each of them says
  below_alike : (es : List (Supported V)) (e x : Supported V) → Contains es x → is_alike x.support e.support ≡ true
      → below x.value (alike_said es e)
  below_alike es e x =
      let z = alike_said es e in
      All-contains (λ y. is_alike y.support e.support ≡ true → below y.value z) es x
      (All-from_recursion (λ y. is_alike y.support e.support ≡ true → below y.value z) es
      (unfiltered (λ y. is_alike y.support e.support) (λ y. below y.value z) es
      (below_merged laws (filter (λ y. is_alike y.support e.support) es))))

  -- an entry joins those that are left, with what those on its premises said
  pub adds_joined : (old front rear : List (Supported V)) (e : Supported V)
      → IsLeftWithout (Subsumes below (joined_with bottom join old e)) old (front ++ rear)
      → Adds bottom join old (front ++ joined_with bottom join old e ∷ rear) e
  adds_joined old front rear e left = record {
    beliefs = λ w. belief-joined w old front rear m left (is_within w e.support) refl
        ∙ by w (is_within w e.support) (λ on. alike_below w old e on);
    only = λ x c. elim (insert_cases front rear m x c)
        [ inl there ↦ inl (left_only (Subsumes below m) old (front ++ rear) x left there) | inr is ↦ inr (sym is) ];
  }
    where
      m : Supported V
      m = joined_with bottom join old e

      same : (before said : V) → below said before → join before (join e.value said) ≡ join before e.value
      same before said h = join-assoc laws before e.value said
          ∙ join-above laws (join before e.value) said
          (laws.transitive said before (join before e.value) h (first_below laws before e.value))

      by : (w : Members) (b : Bool) → (b ≡ true → below (alike_said old e) (belief_of bottom join w old)) →
          (if b then join (belief_of bottom join w old) m.value else belief_of bottom join w old)
          ≡ (if b then join (belief_of bottom join w old) e.value else belief_of bottom join w old)
      by w true h = same (belief_of bottom join w old) (alike_said old e) (h refl)
      by w false h = refl

  -- where the entry was needed, so is what it joins
  pub needed_joined : (old : List (Supported V)) (e : Supported V) → ¬ (IsNeedless below bottom old e)
      → ¬ (IsNeedless below bottom old (joined_with bottom join old e))
  needed_joined old e needed (inl none) =
      needed (needless_nothing old e (subst (λ v. below e.value v) none (first_below laws e.value (alike_said old e))))
  needed_joined old e needed (inr some) =
      let x = some.1 in
      needed (inr (
        some.0,
        x,
        some.2,
        some.3,
        record {
          value = laws.transitive e.value _ x.value (first_below laws e.value (alike_said old e)) some.4.value;
          support = some.4.support;
        },
      ))

  -- what is left rests on other premises
  pub none_alike-joined : (old front rear : List (Supported V)) (e : Supported V)
      → IsLeftWithout (Subsumes below (joined_with bottom join old e)) old (front ++ rear) → NoneAlike old →
      NoneAlike (front ++ joined_with bottom join old e ∷ rear)
  none_alike-joined old front rear e left alone =
      let rest = front ++ rear in
      let m = joined_with bottom join old e in
      pairs_insert (λ a b. is_alike a.support b.support ≡ false) front rear m
      (left_pairs (Subsumes below m) (λ a b. is_alike a.support b.support ≡ false) old rest left alone)
      (λ k d l.
      let other = by (get_or rest k d) (left_only (Subsumes below m) old rest (get_or rest k d) left
      (Contains-get_or rest k d l)) (left_none (Subsumes below m) old rest left k d l)
      (is_alike (get_or rest k d).support e.support) refl in
      (other, alike_back (get_or rest k d).support e.support other))
    where
      by : (x : Supported V) → Contains old x → ¬ (Subsumes below (joined_with bottom join old e) x) → (b : Bool)
          → is_alike x.support e.support ≡ b → is_alike x.support e.support ≡ false
      by x c apart true alike =
          absurd (apart (record {
            value = laws.transitive x.value (alike_said old e) _ (below_alike old e x c alike)
                (second_below laws e.value (alike_said old e));
            support = and_second (is_within (set_of e.support) x.support) (is_within (set_of x.support) e.support)
                alike;
          }))
      by x c apart false alike = alike

  -- it subsumes the only one, where that rests on the same premises
  pub joined_alone : (o e : Supported V) → is_alike o.support e.support ≡ true
      → Subsumes below (joined_with bottom join (o ∷ []) e) o
  joined_alone o e alike = record {
    value = laws.transitive o.value (alike_said (o ∷ []) e) _ (below_alike (o ∷ []) e o (contains_here o []) alike)
        (second_below laws e.value (alike_said (o ∷ []) e));
    support = and_second (is_within (set_of e.support) o.support) (is_within (set_of o.support) e.support) alike;
  }

  needless_below : (w : Members) (es : List (Supported V)) (e : Supported V) → IsNeedless below bottom es e
      → is_within w e.support ≡ true → below e.value (belief_of bottom join w es)
  needless_below w es e (inl none) sure = rw none (laws.from_bottom (belief_of bottom join w es))
  needless_below w es e (inr some) sure =
      let x = some.1 in
      laws.transitive e.value x.value (belief_of bottom join w es) some.4.value
      (below_belief w es x (some.0, some.2, some.3) (believed_too w x e some.4 sure))

  pub adds_needless : (es : List (Supported V)) (e : Supported V) → IsNeedless below bottom es e
      → Adds bottom join es es e
  adds_needless es e needless = record {
    beliefs = λ w. by w (is_within w e.support) (needless_below w es e needless);
    only = λ x c. inl c;
  }
    where
      by : (w : Members) (b : Bool) → (b ≡ true → below e.value (belief_of bottom join w es))
          → belief_of bottom join w es ≡ (if b then join (belief_of bottom join w es) e.value else belief_of bottom join
          w es)
      by w true h = sym (join-above laws (belief_of bottom join w es) e.value (h refl))
      by w false h = refl

  -- what is left, and an entry that was needed, do not subsume one another
  pub none_subsumed-joined : (old front rear : List (Supported V)) (e : Supported V)
      → IsLeftWithout (Subsumes below e) old (front ++ rear) → ¬ (IsNeedless below bottom old e)
      → NoneSubsumed below old →
      NoneSubsumed below (front ++ e ∷ rear)
  none_subsumed-joined old front rear e left needed apart =
      let rest = front ++ rear in
      pairs_insert (λ a b. ¬ (Subsumes below a b) × ¬ (Subsumes below b a)) front rear e
      (left_pairs (Subsumes below e) (λ a b. ¬ (Subsumes below a b) × ¬ (Subsumes below b a)) old rest left apart)
      (λ k d l.
      let over : ¬ (Subsumes below (get_or rest k d) e) = λ s. let c =
      left_only (Subsumes below e) old rest (get_or rest k d) left (Contains-get_or rest k d l) in needed
      (inr (c.0, get_or rest k d, c.1, c.2, s)) in
      let under : ¬ (Subsumes below e (get_or rest k d)) = λ s. left_none (Subsumes below e) old rest left k d l s in
      ((over, under), (under, over)))
