-- Values, each once, with the supports that say so.
use Rattle.std.specs.Prelude.{◌≡◌, ◌≢◌, ℕ, ◌+◌, ◌^◌, ◌<◌, ◌≤◌, Bool, not, ◌&&◌, ◌||◌, true}
use Rattle.std.specs.Prelude.{List, [], ◌∷◌}
use Rattle.std.specs.Prelude.{length, get_or, map, take, All, AllPairs}
use Rattle.prop_numbers.specs.Sets.{Members, is_within, is_alike}
use Rattle.prop_tms.specs.Beliefs.{NoneSubsumed, NoneAlike}
use Rattle.prop_tms.specs.declared.values.Valued.{Valued}
use Rattle.prop_tms.specs.Values.{entries_of}

abbrev pub values_of : {V : Type 0} → List (Valued V) → List V
values_of xs = map (λ x. x.value) xs

-- no value stands twice
abbrev pub AreApart : {V : Type 0} → List (Valued V) → Type 0
AreApart xs = AllPairs (λ a b. a ≢ b) (values_of xs)

-- each has a support
abbrev pub NoneBare : {V : Type 0} → List (Valued V) → Type 0
NoneBare xs = All (λ x. x.supports.items ≢ []) xs

-- each has a support, but maybe the one at this place
abbrev pub NoneBareBut : {V : Type 0} → ℕ → List (Valued V) → Type 0
NoneBareBut {V} at xs = (k : ℕ) (d : Valued V) → k < length xs
    → k ≢ at → (get_or xs k d).supports.items ≢ []

-- each that has no support now had none before
abbrev pub NoneEmptied : {V : Type 0} → List (Valued V) → List (Valued V) → Type 0
NoneEmptied {V} old new = (k : ℕ) (d : Valued V) → k < length old
    → (get_or new k d).supports.items ≡ [] → (get_or old k d).supports.items ≡ []

-- The entries of a Tms: none subsumes another, no two rest on the same premises, each value stands
-- once, and they can be counted.
pub record AreKept {V : Type 0} (below : V → V → Type 0) (xs : List (Valued V)) : Type 0 where
  pub subsumed : NoneSubsumed below (entries_of xs)
  pub alike : NoneAlike (entries_of xs)
  pub apart : AreApart xs
  pub bare : NoneBare xs
  pub counted : length (entries_of xs) < 2 ^ 64

-- where the support of a value stands among all entries
abbrev pub place_of : {V : Type 0} → List (Valued V) → ℕ → ℕ → ℕ
place_of xs at place = length (entries_of (take at xs)) + place

-- there is room for as many supports as before
abbrev pub HasRoomOf : {V : Type 0} → Valued V → Valued V → Type 0
HasRoomOf new old = (new.supports.capacity ≡ old.supports.capacity)
    × (length new.supports.items ≤ length old.supports.items)

-- whether these premises are all in just one of two sets
abbrev pub is_in_one : Members → Members → List ℕ → Bool
is_in_one w z s = (is_within w s && not (is_within z s)) || (is_within z s && not (is_within w s))

-- there is one entry alone, on the same premises as these
abbrev pub StandsAlone : {V : Type 0} → List (Valued V) → List ℕ → Type 0
StandsAlone {V} xs s = (x : Valued V) × (own : List ℕ) × (xs ≡ x ∷ [])
    × (x.supports.items ≡ own ∷ []) × (is_alike own s ≡ true)
