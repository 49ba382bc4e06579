-- What values with supports say in each worldview.
use Rattle.std.specs.Prelude.{◌≡◌, ◌≢◌, ℕ, ◌<◌, ◌≤◌, nat_lt, false, IsTrue, slice_get, Some, List}
use Rattle.std.specs.Prelude.{[], ◌∷◌, ◌++◌}
use Rattle.std.specs.Prelude.{length, filter, All, AllPairs, Any, Contains, remove, ◌⊎◌}
use Rattle.std.specs.Prelude.{if◌then◌else◌}
use Rattle.std.specs.List.{list_any}
use Rattle.std.specs.List.Sorted.{IsStrictlyIncreasing}
use Rattle.prop_numbers.specs.Sets.{Members, set_of, is_within, is_alike, is_at_most_one_of, IsSame}
use Rattle.prop_tms.specs.declared.supported.Supported.{Supported}

-- the least value above those of all these
abbrev pub merge_of_all : {V : Type 0} → V → (V → V → V) → List (Supported V) → V
merge_of_all bottom join [] = bottom
merge_of_all bottom join (e ∷ es) = join e.value (merge_of_all bottom join es)

-- the entries whose premises are all in the worldview
abbrev pub believed_of : {V : Type 0} → Members → List (Supported V) → List (Supported V)
believed_of w entries = filter (λ e. is_within w e.support) entries

-- what the believed entries say together
abbrev pub belief_of : {V : Type 0} → V → (V → V → V) → Members → List (Supported V) → V
belief_of bottom join w entries = merge_of_all bottom join (believed_of w entries)

-- the least value that says all that each believed entry says
pub record IsLeastBelief {V : Type 0} (below : V → V → Type 0) (w : Members)
    (entries : List (Supported V)) (v : V) : Type 0 where
  pub above : (e : Supported V) → Contains entries e → IsTrue (is_within w e.support)
      → below e.value v
  pub least : (z : V) → ((e : Supported V) → Contains entries e → IsTrue (is_within w e.support)
      → below e.value z) → below v z

-- the first entry knows all that the second does, on no other premises
pub record Subsumes {V : Type 0} (below : V → V → Type 0) (a b : Supported V) : Type 0 where
  pub value : below b.value a.value
  pub support : IsTrue (is_within (set_of b.support) a.support)

-- no entry subsumes another
abbrev pub NoneSubsumed : {V : Type 0} → (V → V → Type 0) → List (Supported V) → Type 0
NoneSubsumed below entries = AllPairs (λ a b. ¬ (Subsumes below a b) × ¬ (Subsumes below b a))
    entries

-- no two entries rest on the same premises
abbrev pub NoneAlike : {V : Type 0} → List (Supported V) → Type 0
NoneAlike entries = AllPairs (λ a b. is_alike a.support b.support ≡ false) entries

-- the entry, with what those that rest on the same premises say
abbrev pub joined_with : {V : Type 0} → V → (V → V → V) → List (Supported V) → Supported V
    → Supported V
joined_with bottom join entries e =
    record {
      value = join e.value
          (merge_of_all bottom join (filter (λ x. is_alike x.support e.support) entries));
      support =
          e.support;
    }

-- the entry says nothing new
abbrev pub IsNeedless : {V : Type 0} → (V → V → Type 0) → V → List (Supported V) → Supported V
    → Type 0
IsNeedless below bottom entries e = (e.value ≡ bottom) ⊎ Any (λ x. Subsumes below x e) entries

-- An entry was added: in each worldview that believes it, its value is merged with the belief, and
-- no other belief changes. What is new is the entry, with what those that rest on the same premises
-- said.
pub record Adds {V : Type 0} (bottom : V) (join : V → V → V) (old new : List (Supported V))
    (e : Supported V) : Type 0 where
  pub beliefs : (w : Members) → belief_of bottom join w
      new ≡ (if is_within w e.support then join (belief_of bottom join w old) e.value else belief_of
      bottom join w old)
  pub only : (x : Supported V) → Contains new x
      → Contains old x ⊎ (x ≡ joined_with bottom join old e)

-- those of the entries that rest on fewer premises than this one
abbrev pub lighter_of : {V : Type 0} → List (Supported V) → Supported V → List (Supported V)
lighter_of entries e = filter (λ x. nat_lt (length x.support) (length e.support)) entries

-- these are the premises of the entries
abbrev pub IsJoint : {V : Type 0} → List (Supported V) → List ℕ → Type 0
IsJoint chosen support = IsSame (set_of support) (λ p. list_any (λ e. set_of e.support p) chosen)

-- The support is that of believed entries whose merge is the value, none of which can be left out,
-- though all believed entries of fewer premises join the others. Or it is that of an entry that
-- alone says the value, and has fewer premises than they.
pub record IsLean {V : Type 0} (bottom : V) (join : V → V → V) (entries : List (Supported V))
    (w : Members) (v : V) (support : List ℕ) : Type 0 where
  pub chosen : List (Supported V)
  pub among : All (Contains entries) chosen
  pub believed : All (λ e. IsTrue (is_within w e.support)) chosen
  pub merged : merge_of_all bottom join chosen ≡ v
  pub needed : (k : ℕ) (e : Supported V) → slice_get chosen k ≡ Some e → merge_of_all bottom join
      (lighter_of (believed_of w entries) e ++ remove chosen k) ≢ v
  pub joined : IsJoint chosen support ⊎ ((e : Supported V) × Contains (believed_of w entries) e
      × (e.value ≡ v) × (support ≡ e.support)
      × ((s : List ℕ) → IsStrictlyIncreasing s → IsJoint chosen s → length support < length s))

-- The support has no more premises than any believed entry that alone says the value.
abbrev pub IsShort : {V : Type 0} → List (Supported V) → Members → V → List ℕ → Type 0
IsShort {V} entries w v support = (x : Supported V) → Contains entries x
    → IsTrue (is_within w x.support) → x.value ≡ v → length support ≤ length x.support

-- ---- entries that a belief can do without

-- Some entries went: the worldview believes what it did, and each entry that rests on nothing, or
-- on one told premise alone, stays.
pub record Trims {V : Type 0} (bottom : V) (join : V → V → V) (told w : Members)
    (old new : List (Supported V)) : Type 0 where
  pub among : All (Contains old) new
  pub belief : belief_of bottom join w new ≡ belief_of bottom join w old
  pub kept : (e : Supported V) → Contains old e → IsTrue (is_at_most_one_of told e.support)
      → Contains new e

-- each entry rests on nothing or on one told premise alone, or the worldview believes less without
-- it
abbrev pub AreNeeded : {V : Type 0} → V → (V → V → V) → Members → Members → List (Supported V)
    → Type 0
AreNeeded {V} bottom join told w entries =
    (k : ℕ) (e : Supported V) → slice_get entries k ≡ Some e
    → IsTrue (is_at_most_one_of told e.support)
    ⊎ (belief_of bottom join w (remove entries k) ≢ belief_of bottom join w entries)
