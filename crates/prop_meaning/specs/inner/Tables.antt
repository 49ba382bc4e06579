-- What is looked up in tables.
use Rattle.std.specs.Prelude.{◌≡◌, ℕ, List, [], ◌∷◌, Bool, true, false, cond, ◌||◌, Option, Some}
use Rattle.prop_lattice.specs.Points.{Point}
use Rattle.prop_terms.specs.Meaning.{Value, comparison, label, looked_up, rows}
use Rattle.prop_terms.specs.Terms.{Term, Two}
use Rattle.prop_terms.specs.declared.operators.Infix.TheVariants.{Colon, Comma, Equal}
use Rattle.prop_meaning.specs.Words.{Lexicon, names_at, value_as}
use Rattle.prop_meaning.specs.declared.draft.Made.{Made}
use Rattle.prop_meaning.specs.declared.tables.Lookup.{Lookup}
use Rattle.prop_meaning.specs.inner.Drafts.{Has, Runs}

-- one of the rows has this label
abbrev pub is_key : Term → Option Value → Bool
is_key (Two Comma t u) v = is_key t v || is_key u v
is_key (Two Colon t u) v = comparison Equal v (label t)
is_key t v = false

-- what stands behind the first label that is the same, and w where there is none
abbrev pub looked_or : Option Value → List (Option Value × Option Value) → Option Value
    → Option Value
looked_or v [] w = w
looked_or v ((l, u) ∷ rest) w = cond (comparison Equal v l) u (looked_or v rest w)

-- what the cell shows that is looked up, and what another one shows of what is behind a label
abbrev pub key_of : Lexicon → Lookup → (ℕ → Point) → Option Value
key_of lexicon lookup a = Some (value_as lexicon lookup.keyed (a lookup.place))

abbrev pub found_at : Lexicon → Lookup → (ℕ → Point) → ℕ → Option Value
found_at lexicon lookup a place = Some (value_as lexicon lookup.kinded (a place))

-- whatever the cell shows that is looked up, one of the rows has it for its label
abbrev pub HasAllKeys : Lexicon → List Made → Lookup → Term → Type 0
HasAllKeys lexicon made lookup t =
    (a : ℕ → Point) → Runs lexicon made a → is_key t (key_of lexicon lookup a) ≡ true

-- the cell at the place shows what stands behind the label, and where there is none what z shows
pub record Chooses (lexicon : Lexicon) (made : List Made) (lookup : Lookup) (t : Term)
    (z place : ℕ) : Type 0 where
  pub has : Has lexicon made place lookup.kinded
  pub is : (a : ℕ → Point) → Runs lexicon made a
      → looked_or (key_of lexicon lookup a) (rows (names_at lexicon a) t)
      (found_at lexicon lookup a z) ≡ found_at lexicon lookup a place

-- the cell at the place shows what stands behind the label, where there is one
pub record Finds (lexicon : Lexicon) (made : List Made) (lookup : Lookup) (t : Term)
    (place : ℕ) : Type 0 where
  pub has : Has lexicon made place lookup.kinded
  pub is : (a : ℕ → Point) → Runs lexicon made a
      → is_key t (key_of lexicon lookup a) ≡ true
      → looked_up (key_of lexicon lookup a) (rows (names_at lexicon a) t)
      ≡ found_at lexicon lookup a place
