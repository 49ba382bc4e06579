-- Entries that are enough for a value, and of which none can be left out.
use Rattle.std.proofs.Common.{◌≡◌, ◌≢◌, ◌∙◌, ◌<◌, ◌≤◌, ◌+◌, ap, ℕ, zero, suc, true, List, [], ◌∷◌, ◌++◌, length, take}
use Rattle.std.proofs.Common.{drop, get_or, slice_get, Some, refl, sym, subst, arith, inl, inr, Contains, All}
use Rattle.std.proofs.Common.{append_assoc, append-nil}
use Rattle.std.proofs.lemmas.Bool.{ltb-true}
use Rattle.std.proofs.lemmas.List.{map-append, length-append, length-take-le, take-append-drop, get_or-append-add}
use Rattle.std.proofs.lemmas.List.{get_or_default}
use Rattle.std.proofs.Math.Seq.{take-append_seam, get_or-append_seam}
use Rattle.std.specs.List.{AllByRecursion, remove, take-map}
use Rattle.std.proofs.lemmas.List.Elements.{All-nil, All-cons, All-contains, Contains-push, All-from_recursion}
use Rattle.std.proofs.lemmas.List.Elements.{recursion_from_All, All-take, All-drop, All-append}
use Rattle.std.proofs.lemmas.List.Elements.{All-contains_itself, Contains-get_or, Contains-append_cases}
use Rattle.std.proofs.lemmas.List.Elements.{Contains-append_left, Contains-append_right}
use Rattle.prop_lattice.specs.InformationOrder.{IsInformationOrder}
use Rattle.prop_numbers.specs.Sets.{Members, set_of, union, is_within, IsSame}
use Rattle.prop_tms.specs.Beliefs.{merge_of_all, believed_of, lighter_of, IsJoint}
use Rattle.prop_tms.specs.inner.Gains.{AreGains, AreRanked, IsLight, entry_of, gained_of}
use Rattle.prop_tms.specs.declared.supported.Supported.{Supported}
use Rattle.prop_tms.specs.declared.gain.Gain.{Gain}
use Rattle.prop_tms.proofs.GainLemmas.{in_lighter, to_lighter, in_believed}
use Rattle.prop_tms.proofs.MergedLemmas.{merged_below, below_merged, merge_of_all-append, merge_of_all-push}
use Rattle.prop_tms.proofs.MergedLemmas.{join-bottom, bottom-join, join-assoc, all_first, all_second, all_both}

-- Some of the entries that were looked at were chosen: with those that are left to look at they give the value, and
-- none of them can be left out.
pub record IsThinned {V : Type 0} (bottom : V) (join : V → V → V) (entries : List (Supported V)) (w : Members) (v : V)
    (left : List (Supported V)) (after : V) (support : List ℕ) : Type 0 where
  pub chosen : List (Supported V)
  pub among : All (Contains entries) chosen
  pub believed : All (λ e. is_within w e.support ≡ true) chosen
  pub after_is : after ≡ merge_of_all bottom join chosen
  pub whole : merge_of_all bottom join (left ++ chosen) ≡ v
  pub needed : (k : ℕ) (e : Supported V) → slice_get chosen k ≡ Some e →
      merge_of_all bottom join ((lighter_of entries e ++ left) ++ remove chosen k) ≢ v
  pub joined : IsJoint chosen support

-- The entries give the value with what comes after them, and without the last of them they do not.
pub record AreEnough {V : Type 0} (below : V → V → Type 0) (bottom : V) (join : V → V → V) (row : List (Gain V))
    (after v : V) : Type 0 where
  pub gains : AreGains join bottom row
  pub says : below v (join (merge_of_all bottom join (gained_of row)) after)
  pub needed : (front : List (Gain V)) (g : Gain V) → row ≡ front ++ g ∷ []
      → ¬ (below v (join (merge_of_all bottom join (gained_of front)) after))

module _ {V : Type 0} {below : V → V → Type 0} {bottom top : V} {join : V → V → V}
    (laws : IsInformationOrder below bottom top join) where
  under : (a b : List (Supported V)) → ((P : Supported V → Type 0) → AllByRecursion P b → AllByRecursion P a)
      → below (merge_of_all bottom join a) (merge_of_all bottom join b)
  under a b h =
      let z = merge_of_all bottom join b in
      merged_below laws a z (h (λ e. below e.value z) (below_merged laws b))

  all_remove : (P : Supported V → Type 0) (c : List (Supported V)) (k : ℕ) → AllByRecursion P c
      → AllByRecursion P (remove c k)
  all_remove P c k h =
      let all = All-from_recursion P c h in
      recursion_from_All P (remove c k) (All-append P (take k c) (drop (suc k) c) (All-take P k c all)
      (All-drop P (suc k) c all))

  -- without some entries they say no more
  less_without : (left c rest : List (Supported V))
      → below (merge_of_all bottom join (left ++ c)) (merge_of_all bottom join ((left ++ rest) ++ c))
  less_without left c rest = under (left ++ c) ((left ++ rest) ++ c) (λ P h.
      all_both P left c (all_first P left rest (all_first P (left ++ rest) c h)) (all_second P (left ++ rest) c h))

  less_removed : (left c : List (Supported V)) (k : ℕ)
      → below (merge_of_all bottom join (left ++ remove c k)) (merge_of_all bottom join (left ++ c))
  less_removed left c k = under (left ++ remove c k) (left ++ c)
      (λ P h. all_both P left (remove c k) (all_first P left c h) (all_remove P c k (all_second P left c h)))

  -- what entries say of which each says no more than a value
  pub merge_under : (xs : List (Supported V)) (z : V) → ((x : Supported V) → Contains xs x → below x.value z)
      → below (merge_of_all bottom join xs) z
  merge_under xs z h = merged_below laws xs z
      (recursion_from_All (λ x. below x.value z) xs (λ k d l. h (get_or xs k d) (Contains-get_or xs k d l)))

  pub in_merge : (xs : List (Supported V)) (x : Supported V) → Contains xs x
      → below x.value (merge_of_all bottom join xs)
  in_merge xs x = All-contains (λ y. below y.value (merge_of_all bottom join xs)) xs x
      (All-from_recursion (λ y. below y.value (merge_of_all bottom join xs)) xs (below_merged laws xs))

  -- what says no more than entries that don't say the value doesn't say it
  pub less_than : (v : V) (xs ys : List (Supported V))
      → ((x : Supported V) → Contains xs x → below x.value (merge_of_all bottom join ys))
      → below (merge_of_all bottom join ys) v → merge_of_all bottom join ys ≢ v → merge_of_all bottom join xs ≢ v
  less_than v xs ys part down other same =
      let all = merge_of_all bottom join ys in
      other (laws.antisymmetric all v down (subst (λ u. below u all) same (merge_under xs all part)))

  pub from_removed : (c : List (Supported V)) (k : ℕ) (x : Supported V) → Contains (remove c k) x → Contains c x
  from_removed c k x = All-contains (Contains c) (remove c k) x (All-from_recursion (Contains c) (remove c k)
      (all_remove (Contains c) c k (recursion_from_All (Contains c) c (All-contains_itself c))))

  pub IsThinned-init : (entries : List (Supported V)) (w : Members) (v : V) (left : List (Supported V))
      → merge_of_all bottom join left ≡ v → IsThinned bottom join entries w v left bottom []
  IsThinned-init entries w v left h = record {
    chosen = [];
    among = All-nil (Contains entries);
    believed = All-nil (λ e. is_within w e.support ≡ true);
    after_is = refl;
    whole = rw (append-nil left) h;
    needed = λ k e at. absurd (cc (at));
    joined = λ p. refl;
  }

  split : (left c : List (Supported V)) (after : V) → after ≡ merge_of_all bottom join c
      → merge_of_all bottom join (left ++ c) ≡ join (merge_of_all bottom join left) after
  split left c after h = rw h (merge_of_all-append laws left c)

  -- those that are left and those that were chosen say the value
  pub IsThinned-says : (entries : List (Supported V)) (w : Members) (v : V) (left : List (Supported V)) (after : V)
      (support : List ℕ) → IsThinned bottom join entries w v left after support
      → below v (join (merge_of_all bottom join left) after)
  IsThinned-says entries w v left after support t =
      rw (← split left t.chosen after t.after_is, t.whole) (laws.reflexive v)

  -- entries go, since the others give the value too
  pub IsThinned-skip : (entries : List (Supported V)) (w : Members) (v : V) (left rest : List (Supported V)) (after : V)
      (support : List ℕ) → v ≡ merge_of_all bottom join entries →
      IsThinned bottom join entries w v (left ++ rest) after support
      → below v (join (merge_of_all bottom join left) after) → IsThinned bottom join entries w v left after support
  IsThinned-skip entries w v left rest after support is t h =
      let c = t.chosen in
      let now = merge_of_all bottom join (left ++ c) in
      let less : below now v = rw t.whole at (less_without left c rest) in
      let more : below v now = rw (split left c after t.after_is) h in
      record {
        chosen = c;
        among = t.among;
        believed = t.believed;
        after_is = t.after_is;
        whole = laws.antisymmetric now v less more;
        needed = λ k e at. less_than v ((lighter_of entries e ++ left) ++ remove c k)
            ((lighter_of entries e ++ (left ++ rest)) ++ remove c k)
            (λ x here. in_merge ((lighter_of entries e ++ (left ++ rest)) ++ remove c k) x
            (still (lighter_of entries e) (remove c k) x here))
            (merge_under ((lighter_of entries e ++ (left ++ rest)) ++ remove c k) v (λ x here. under_value k e x here))
            (t.needed k e at);
        joined = t.joined;
      }
    where
      still : (first last : List (Supported V)) (x : Supported V) → Contains ((first ++ left) ++ last) x
          → Contains ((first ++ (left ++ rest)) ++ last) x
      still first last x here = elim (Contains-append_cases (first ++ left) last x here) [
        | inl front ↦ Contains-append_left (first ++ (left ++ rest)) last x
            (elim (Contains-append_cases first left x front) [
              | inl a ↦ Contains-append_left first (left ++ rest) x a
              | inr b ↦ Contains-append_right first (left ++ rest) x (Contains-append_left left rest x b)
            ])
        | inr b ↦ Contains-append_right (first ++ (left ++ rest)) last x b
      ]

      whole_under : (x : Supported V) → Contains ((left ++ rest) ++ t.chosen) x → below x.value v
      whole_under x here = rw t.whole at (in_merge ((left ++ rest) ++ t.chosen) x here)

      under_value : (k : ℕ) (e x : Supported V)
          → Contains ((lighter_of entries e ++ (left ++ rest)) ++ remove t.chosen k) x → below x.value v
      under_value k e x here =
          elim (Contains-append_cases (lighter_of entries e ++ (left ++ rest)) (remove t.chosen k) x here) [
            | inl front ↦ elim (Contains-append_cases (lighter_of entries e) (left ++ rest) x front) [
              | inl a ↦ rw is (in_merge entries x (in_lighter entries e x a).0)
              | inr b ↦ whole_under x (Contains-append_left (left ++ rest) t.chosen x b)
            ]
            | inr b ↦ whole_under x
                (Contains-append_right (left ++ rest) t.chosen x (from_removed t.chosen k x b))
          ]

  -- an entry is chosen, since without it the value is not reached
  pub IsThinned-keep : (entries : List (Supported V)) (w : Members) (v : V) (left : List (Supported V))
      (e : Supported V) (after : V) (support more : List ℕ) →
      IsThinned bottom join entries w v (left ++ e ∷ []) after support
      → ¬ (below v (join (merge_of_all bottom join left) after)) → Contains entries e → is_within w e.support ≡ true
      → ((x : Supported V) → Contains (lighter_of entries e) x → Contains left x) →
      IsSame (set_of more) (union (set_of e.support) (set_of support))
      → IsThinned bottom join entries w v left (join e.value after) more
  IsThinned-keep entries w v left e after support more t h c b before same =
      record {
        chosen = e ∷ t.chosen;
        among = All-cons (Contains entries) e t.chosen c t.among;
        believed = All-cons (λ x. is_within w x.support ≡ true) e t.chosen b t.believed;
        after_is = rw t.after_is refl;
        whole = rw (append_assoc left (e ∷ []) t.chosen) at t.whole;
        needed = without;
        joined = λ p. rw (same p, t.joined p) refl;
      }
    where
      itself : merge_of_all bottom join ((lighter_of entries e ++ left) ++ t.chosen) ≢ v
      itself is =
          let all = merge_of_all bottom join (left ++ t.chosen) in
          let less : below (merge_of_all bottom join ((lighter_of entries e ++ left) ++ t.chosen)) all =
          merge_under ((lighter_of entries e ++ left) ++ t.chosen) all (λ x here. in_merge (left ++ t.chosen) x
          (elim (Contains-append_cases (lighter_of entries e ++ left) t.chosen x here) [
            | inl front ↦ Contains-append_left left t.chosen x
                (elim (Contains-append_cases (lighter_of entries e) left x front) [ inl a ↦ before x a | inr d ↦ d ])
            | inr d ↦ Contains-append_right left t.chosen x d
          ])) in
          h (rw (split left t.chosen after t.after_is) at (subst (λ u. below u all) is less))

      without : (k : ℕ) (y : Supported V) → slice_get (e ∷ t.chosen) k ≡ Some y
          → merge_of_all bottom join ((lighter_of entries y ++ left) ++ remove (e ∷ t.chosen) k) ≢ v
      without zero y at =
          let same : e ≡ y = cc (at) in
          subst (λ z. merge_of_all bottom join ((lighter_of entries z ++ left) ++ t.chosen) ≢ v) same itself
      without (suc k) y at = λ is. t.needed k y at (rw (
        ← append_assoc (lighter_of entries y) left (e ∷ []),
        append_assoc (lighter_of entries y ++ left) (e ∷ []) (remove t.chosen k),
      ) is)

  -- chosen among entries that are all believed, they are light
  pub IsLight-thinned : (entries : List (Supported V)) (w : Members) (v : V) (after : V) (support : List ℕ)
      → v ≡ merge_of_all bottom join entries → IsThinned bottom join entries w v [] after support
      → IsLight bottom join entries w v support
  IsLight-thinned entries w v after support is t = record {
    chosen = t.chosen;
    among = t.among;
    believed = t.believed;
    merged = t.whole;
    needed = λ k e at. less_than v (lighter_of (believed_of w entries) e ++ remove t.chosen k)
        ((lighter_of entries e ++ []) ++ remove t.chosen k)
        (λ x here. in_merge ((lighter_of entries e ++ []) ++ remove t.chosen k) x (still e k x here))
        (merge_under ((lighter_of entries e ++ []) ++ remove t.chosen k) v (λ x here. under_value e k x here))
        (t.needed k e at);
    joined = t.joined;
  }
    where
      still : (e : Supported V) (k : ℕ) (x : Supported V)
          → Contains (lighter_of (believed_of w entries) e ++ remove t.chosen k) x
          → Contains ((lighter_of entries e ++ []) ++ remove t.chosen k) x
      still e k x here =
          elim (Contains-append_cases (lighter_of (believed_of w entries) e) (remove t.chosen k) x here) [
            | inl front ↦
                (let a = in_lighter (believed_of w entries) e x front in
                Contains-append_left (lighter_of entries e ++ []) (remove t.chosen k) x
                (Contains-append_left (lighter_of entries e) [] x
                (to_lighter entries e x (in_believed w entries x a.0).0 a.1)))
            | inr b ↦ Contains-append_right (lighter_of entries e ++ []) (remove t.chosen k) x b
          ]

      under_value : (e : Supported V) (k : ℕ) (x : Supported V)
          → Contains ((lighter_of entries e ++ []) ++ remove t.chosen k) x → below x.value v
      under_value e k x here = elim (Contains-append_cases (lighter_of entries e ++ []) (remove t.chosen k) x here) [
        | inl front ↦ elim (Contains-append_cases (lighter_of entries e) [] x front) [
          | inl a ↦ rw is (in_merge entries x (in_lighter entries e x a).0)
          | inr none ↦ absurd (omega (arith, none.1))
        ]
        | inr b ↦ rw t.whole at (in_merge t.chosen x (from_removed t.chosen k x b))
      ]

  -- ---- entries in a row, each with what those before it say

  AreGains-push : (before : V) (gains : List (Gain V)) (g : Gain V) → AreGains join before gains
      → g.before ≡ join before (merge_of_all bottom join (gained_of gains)) → AreGains join before (gains ++ g ∷ [])
  AreGains-push before [] g h e = (e ∙ join-bottom laws before, tt)
  AreGains-push before (x ∷ gains) g h e = (
    h.0,
    AreGains-push (join before x.entry.value) gains g h.1
        (e ∙ join-assoc laws before x.entry.value (merge_of_all bottom join (gained_of gains))),
  )

  pub AreGains-next : (gains : List (Gain V)) (g : Gain V) → AreGains join bottom gains
      → g.before ≡ merge_of_all bottom join (gained_of gains) → AreGains join bottom (gains ++ g ∷ [])
  AreGains-next gains g h e = AreGains-push bottom gains g h
      (e ∙ sym (bottom-join laws (merge_of_all bottom join (gained_of gains))))

  pub AreGains-front : (before : V) (gains : List (Gain V)) (g : Gain V) → AreGains join before (gains ++ g ∷ [])
      → AreGains join before gains
  AreGains-front before [] g h = tt
  AreGains-front before (x ∷ gains) g h = (h.0, AreGains-front (join before x.entry.value) gains g h.1)

  before_last : (before : V) (gains : List (Gain V)) (g : Gain V) → AreGains join before (gains ++ g ∷ [])
      → g.before ≡ join before (merge_of_all bottom join (gained_of gains))
  before_last before [] g h = h.0 ∙ sym (join-bottom laws before)
  before_last before (x ∷ gains) g h =
      before_last (join before x.entry.value) gains g h.1
      ∙ sym (join-assoc laws before x.entry.value (merge_of_all bottom join (gained_of gains)))

  pub AreGains-take : (before : V) (n : ℕ) (gains : List (Gain V)) → AreGains join before gains
      → AreGains join before (take n gains)
  AreGains-take before zero gains h = tt
  AreGains-take before (suc n) [] h = tt
  AreGains-take before (suc n) (x ∷ gains) h = (h.0, AreGains-take (join before x.entry.value) n gains h.1)

  before_at : (before : V) (gains : List (Gain V)) (n : ℕ) (g : Gain V) → n < length gains → get_or gains n g ≡ g
      → AreGains join before gains → g.before ≡ join before (merge_of_all bottom join (gained_of (take n gains)))
  before_at before [] n g l is h = absurd (omega (arith, l))
  before_at before (x ∷ gains) zero g l is h = ap (λ (y : Gain V). y.before) (sym is) ∙ h.0
      ∙ sym (join-bottom laws before)
  before_at before (x ∷ gains) (suc n) g l is h =
      before_at (join before x.entry.value) gains n g (omega (arith, l)) is h.1
      ∙ sym (join-assoc laws before x.entry.value (merge_of_all bottom join (gained_of (take n gains))))

  -- each tells what those before it say together
  pub AreGains-at : (gains : List (Gain V)) (n : ℕ) (g : Gain V) → n < length gains → get_or gains n g ≡ g
      → AreGains join bottom gains → g.before ≡ merge_of_all bottom join (gained_of (take n gains))
  AreGains-at gains n g l is h = before_at bottom gains n g l is h
      ∙ bottom-join laws (merge_of_all bottom join (gained_of (take n gains)))

  pub AreGains-last : (gains : List (Gain V)) (g : Gain V) → AreGains join bottom (gains ++ g ∷ [])
      → g.before ≡ merge_of_all bottom join (gained_of gains)
  AreGains-last gains g h = before_last bottom gains g h ∙ bottom-join laws (merge_of_all bottom join (gained_of gains))

pub gained_of-push : {V : Type 0} (gains : List (Gain V)) (g : Gain V)
    → gained_of (gains ++ g ∷ []) ≡ gained_of gains ++ entry_of g.entry ∷ []
gained_of-push gains g = map-append (λ (x : Gain _). entry_of x.entry) gains (g ∷ [])

pub All-front : {X : Type 0} (P : X → Type 0) (xs : List X) (x : X) → All P (xs ++ x ∷ []) → All P xs
All-front P xs x h = All-from_recursion P xs (all_first P xs (x ∷ []) (recursion_from_All P (xs ++ x ∷ []) h))

pub All-last : {X : Type 0} (P : X → Type 0) (xs : List X) (x : X) → All P (xs ++ x ∷ []) → P x
All-last P xs x h = All-contains P (xs ++ x ∷ []) x h (Contains-push xs x)

-- An entry that is the last of the first n is one of the row, and those before it are the first of all.
pub last_of_first : {X : Type 0} (xs front : List X) (x : X) (n : ℕ) → n ≤ length xs → take n xs ≡ front ++ x ∷ []
    → (length front + 1 ≡ n) × (take (length front) xs ≡ front)
last_of_first xs front x n l is =
    let size = sym (length-take-le n xs l) ∙ ap length is ∙ length-append front (x ∷ []) in
    let all : xs ≡ front ++ x ∷ drop n xs = sym (take-append-drop n xs) ∙ ap (λ (ys : List _). ys ++ drop n xs) is
    ∙ append_assoc front (x ∷ []) (drop n xs) in
    (sym size, ap (take (length front)) all ∙ take-append_seam front (x ∷ drop n xs))

-- of the first entries as many as are enough
pub first_enough : {V : Type 0} {below : V → V → Type 0} {bottom top : V} {join : V → V → V}
    (laws : IsInformationOrder below bottom top join) (gains : List (Gain V)) (n : ℕ) (after v : V)
    → AreGains join bottom gains → n ≤ length gains →
    below v (join (merge_of_all bottom join (gained_of (take n gains))) after)
    → ((k : ℕ) → k + 1 ≡ n → ¬ (below v (join (merge_of_all bottom join (gained_of (take k gains))) after)))
    → AreEnough below bottom join (take n gains) after v
first_enough {below = below} {bottom = bottom} {join = join} laws gains n after v h l says needed = record {
  gains = AreGains-take laws bottom n gains h;
  says = says;
  needed = λ front g is same.
      let at = last_of_first gains front g n l is in
      needed (length front) at.0 (rw at.1 same);
}

-- an entry that is kept says what it said
pub says_kept : {V : Type 0} {below : V → V → Type 0} {bottom top : V} {join : V → V → V}
    (laws : IsInformationOrder below bottom top join) (left : List (Gain V)) (gain : Gain V) (after v : V) →
    below v (join (merge_of_all bottom join (gained_of (left ++ gain ∷ []))) after)
    → below v (join (merge_of_all bottom join (gained_of left)) (join gain.entry.value after))
says_kept {below = below} {bottom = bottom} {join = join} laws left gain after v h =
    let front = merge_of_all bottom join (gained_of left) in
    let whole : merge_of_all bottom join (gained_of (left ++ gain ∷ [])) ≡ join front gain.entry.value =
    ap (merge_of_all bottom join) (gained_of-push left gain)
    ∙ merge_of_all-push laws (gained_of left) (entry_of gain.entry) in
    subst (below v) (ap (λ x. join x after) whole ∙ sym (join-assoc laws front gain.entry.value after)) h

pub All-first : {V : Type 0} (P : Supported V → Type 0) (gains : List (Gain V)) (n : ℕ) → All P (gained_of gains)
    → All P (gained_of (take n gains))
All-first P gains n h = subst (All P) (take-map (λ (x : Gain _). entry_of x.entry) n gains)
    (All-take P n (gained_of gains) h)

-- the last entries go, since those before them and those that were chosen give the value too
pub thinned_first : {V : Type 0} {below : V → V → Type 0} {bottom top : V} {join : V → V → V}
    (laws : IsInformationOrder below bottom top join) (all : List (Supported V)) (w : Members) (v : V)
    (gains : List (Gain V)) (n : ℕ) (after : V)
    (support : List ℕ) → v ≡ merge_of_all bottom join all
    → IsThinned bottom join all w v (gained_of gains) after support
    → below v (join (merge_of_all bottom join (gained_of (take n gains))) after)
    → IsThinned bottom join all w v (gained_of (take n gains)) after support
thinned_first {bottom = bottom} {join = join} laws all w v gains n after support is t says =
    let entry = λ (x : Gain _). entry_of x.entry in
    let parts : gained_of gains ≡ gained_of (take n gains) ++ gained_of (drop n gains) =
    ap gained_of (sym (take-append-drop n gains)) ∙ map-append entry (take n gains) (drop n gains) in
    IsThinned-skip laws all w v (gained_of (take n gains)) (gained_of (drop n gains)) after support is
    (subst (λ es. IsThinned bottom join all w v es after support) parts t) says

-- an entry of a row in order stands behind all that have fewer premises
pub lighter_before : {V : Type 0} (all left rest : List (Supported V)) (e x : Supported V) → AreRanked all
    → all ≡ left ++ e ∷ rest → Contains (lighter_of all e) x → Contains left x
lighter_before {V} all left rest e x ranked parts here =
    let light = in_lighter all e x here in
    elim (Contains-append_cases left (e ∷ rest) x (subst (λ (xs : List (Supported V)). Contains xs x) parts light.0)) [
      | inl before ↦ before
      | inr behind ↦
          (let order = subst AreRanked parts ranked in
          let l = length-append left (e ∷ rest) in
          let le = order (length left) (length left + behind.0) e (omega arith) (omega (arith, l, behind.1)) in
          let one : get_or (left ++ e ∷ rest) (length left) e ≡ e = get_or-append_seam left e rest e in
          let two : get_or (left ++ e ∷ rest) (length left + behind.0) e ≡ x =
          get_or-append-add left (e ∷ rest) behind.0 e ∙ get_or_default (e ∷ rest) behind.0 e x behind.1 ∙ behind.2 in
          let few = ltb-true (length x.support) (length e.support) light.1 in
          let same_one = ap (λ (y : Supported V). length y.support) one in
          let same_two = ap (λ (y : Supported V). length y.support) two in
          absurd (omega (arith, le, same_one, same_two, few)))
    ]

parts_of_row : {V : Type 0} (gains : List (Gain V)) (n : ℕ)
    → gained_of gains ≡ gained_of (take n gains) ++ gained_of (drop n gains)
parts_of_row gains n = ap gained_of (sym (take-append-drop n gains))
    ∙ map-append (λ (x : Gain _). entry_of x.entry) (take n gains) (drop n gains)

-- the first of a row stand in front
pub front_first : {V : Type 0} (gains : List (Gain V)) (n : ℕ)
    → (rest : List (Supported V)) × (gained_of gains ≡ gained_of (take n gains) ++ rest)
front_first gains n = (gained_of (drop n gains), parts_of_row gains n)

-- and so do the first of those
pub front_less : {V : Type 0} (all : List (Supported V)) (gains : List (Gain V)) (n : ℕ) (rest : List (Supported V))
    → all ≡ gained_of gains ++ rest → (more : List (Supported V)) × (all ≡ gained_of (take n gains) ++ more)
front_less all gains n rest is = (
  gained_of (drop n gains) ++ rest,
  is ∙ ap (λ xs. xs ++ rest) (parts_of_row gains n)
      ∙ append_assoc (gained_of (take n gains)) (gained_of (drop n gains)) rest,
)
