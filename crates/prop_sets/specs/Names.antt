-- Lists of names.
use Rattle.std.specs.Prelude.{◌≡◌, ℕ, ◌<◌, ◌≤◌, Bool, false, true, ◌||◌, List, [], ◌∷◌, length, map}
use Rattle.std.specs.Prelude.{bytes_eq, String, string_bytes}
use Rattle.std.specs.Borrow.{Bor}
use Rattle.std.specs.List.{list_any}
use Rattle.prop_refusals.specs.declared.refusal.Refusal.{Refusal}
use Rattle.prop_refusals.specs.declared.refusal.Refusal.TheVariants.{NameTaken, LimitReached}
use Rattle.prop_refusals.specs.declared.refusal.Refusal.TheVariants.{Memory}
use Rattle.prop_refusals.specs.declared.refusal.Limit.TheVariants.{Elements}

-- the names, byte by byte
abbrev pub texts_of : List (Bor (List ℕ)) → List (List ℕ)
texts_of names = map (λ name. name.now) names

-- the same of names that are kept
abbrev pub names_of : {A : Type 0} → List (String A) → List (List ℕ)
names_of names = map string_bytes names

-- a name stands twice
abbrev pub has_repeat : List (List ℕ) → Bool
has_repeat [] = false
has_repeat (name ∷ names) = list_any (bytes_eq name) names || has_repeat names

-- the names may be those of a domain's elements
pub record AreElements (names : List (List ℕ)) : Type 0 where
  pub some : 0 < length names
  pub few : length names ≤ 64
  pub apart : has_repeat names ≡ false

-- why these names make no domain; want of memory is said of such alone as could be one
abbrev pub IsWhy : List (List ℕ) → Refusal → Type 0
IsWhy names NameTaken = has_repeat names ≡ true
IsWhy names (LimitReached Elements) = (has_repeat names ≡ false) × (64 < length names)
IsWhy names Memory = AreElements names
IsWhy names refusal = ⊥
