-- Values, each once, with the supports that say so.
use Rattle.std.specs.Prelude.{List, [], ◌∷◌, ◌++◌, map}
use Rattle.prop_tms.specs.declared.supported.Supported.{Supported}
use Rattle.prop_tms.specs.declared.values.Valued.{Valued}

-- the entries of one value
abbrev pub entries_of_one : {V : Type 0} → Valued V → List (Supported V)
entries_of_one x = map (λ s. record { value = x.value; support = s }) x.supports.items

-- the entries of all values, those of each in row
abbrev pub entries_of : {V : Type 0} → List (Valued V) → List (Supported V)
entries_of [] = []
entries_of (x ∷ xs) = entries_of_one x ++ entries_of xs
