-- Drafts: fresh cells in a row behind the given ones. Each is made by a step, of given cells and of
-- fresh cells before it.
use Rattle.std.specs.Prelude.{◌≡◌, ℕ, ◌+◌, ◌-◌, ◌<◌, List, cond, nat_lt, Option, Some, ⊤}
use Rattle.std.specs.Prelude.{pos}
use Rattle.std.specs.Prelude.{slice_get}
use Rattle.std.specs.Option.{option_map}
use Rattle.prop_lattice.specs.Points.{Point, Element, Number, IsPointOf}
use Rattle.prop_lattice.specs.declared.info.Kind.TheVariants as kinds
use Rattle.prop_procedures.specs.declared.shape.Kinded.{Kinded}
use Rattle.prop_terms.specs.Meaning.{Text, worth}
use Rattle.prop_terms.specs.Terms.{Term}
use Rattle.prop_meaning.specs.Words.{Lexicon, IsLexicon, Fits, IsWithin, names_at, value_as}
use Rattle.prop_meaning.specs.Words.{domain_of, LiesIn}
use Rattle.prop_lattice.specs.declared.span.Span as spans
use Rattle.prop_meaning.specs.inner.Steps.{made_by, IsBehind}
use Rattle.prop_meaning.specs.declared.draft.Made.{Made}
use Rattle.prop_meaning.specs.declared.known.Known.{Known}
use Rattle.prop_meaning.specs.declared.steps.Single as singles
use Rattle.prop_meaning.specs.declared.steps.Single.TheVariants.{Abs, Not}
use Rattle.prop_meaning.specs.declared.steps.Pair as pairs
use Rattle.prop_meaning.specs.declared.steps.Pair.TheVariants.{Less, Same, And, Or}
use Rattle.prop_meaning.specs.declared.steps.Step.{Step}
use Rattle.prop_meaning.specs.declared.steps.Step.TheVariants as steps

abbrev pub number_kind : Kinded
number_kind = record { kind = kinds.Span; size = 0 }

abbrev pub truth_kind : Kinded
truth_kind = record { kind = kinds.Set 0; size = 2 }

-- the kind of the point that a function takes, and of the one that it gives
abbrev pub kind_before : singles.Single → Kinded
kind_before Abs = number_kind
kind_before Not = truth_kind

-- the function takes two points of this kind
abbrev pub TakesTwo : pairs.Pair → Kinded → Type 0
TakesTwo Same kinded = ⊤
TakesTwo And kinded = kinded ≡ truth_kind
TakesTwo Or kinded = kinded ≡ truth_kind
TakesTwo op kinded = kinded ≡ number_kind

abbrev pub kind_between : pairs.Pair → Kinded
kind_between Less = truth_kind
kind_between Same = truth_kind
kind_between And = truth_kind
kind_between Or = truth_kind
kind_between op = number_kind

-- ---- cells

-- what is known of the cell at a place: of a given one, or of a fresh one behind these
abbrev pub known_at : Lexicon → List Made → ℕ → Option Known
known_at lexicon made place = cond (nat_lt place lexicon.count) (Some (lexicon.known place))
    (option_map (λ m. m.known) (slice_get made (place - lexicon.count)))

-- the cell at the place is of the kind
abbrev pub Has : Lexicon → List Made → ℕ → Kinded → Type 0
Has lexicon made place kinded =
    option_map (λ k. k.kinded) (known_at lexicon made place) ≡ Some kinded

-- both cells are of one kind, which the function takes
abbrev pub AreTaken : Lexicon → List Made → pairs.Pair → ℕ → ℕ → Type 0
AreTaken lexicon made op x y =
    (both : Kinded) × TakesTwo op both × Has lexicon made x both × Has lexicon made y both

-- both cells are of one kind
abbrev pub AreAlike : Lexicon → List Made → ℕ → ℕ → Type 0
AreAlike lexicon made x y =
    (both : Kinded) × Has lexicon made x both × Has lexicon made y both

-- the cells of which the step is made are of kinds that it takes, and the cell that it makes is of
-- this kind
abbrev pub Suits : Lexicon → List Made → Kinded → Step → Type 0
Suits lexicon made kinded (steps.Number z) = kinded ≡ number_kind
Suits lexicon made kinded (steps.Element i) = i < 64
Suits lexicon made kinded (steps.One op x) =
    Has lexicon made x (kind_before op) × (kinded ≡ kind_before op)
Suits lexicon made kinded (steps.Two op x y) = (both : Kinded) × TakesTwo op both
    × Has lexicon made x both × Has lexicon made y both × (kinded ≡ kind_between op)
Suits lexicon made kinded (steps.Choice t x y) =
    Has lexicon made t truth_kind × Has lexicon made x kinded × Has lexicon made y kinded
Suits lexicon made kinded (steps.Quotient x y) =
    Has lexicon made x number_kind × Has lexicon made y number_kind × (kinded ≡ number_kind)
Suits lexicon made kinded (steps.Left x p y) = Has lexicon made x number_kind
    × Has lexicon made p number_kind × Has lexicon made y number_kind × (kinded ≡ number_kind)
Suits lexicon made kinded s = ⊤

-- the point of each fresh cell is what its step makes of the others
abbrev pub Follows : ℕ → List Made → (ℕ → Point) → Type 0
Follows count made a = (k : ℕ) (m : Made) → slice_get made k ≡ Some m
    → a (count + k) ≡ made_by m.step a

-- points that fit the given cells, and of the fresh ones those that their steps make
pub record Runs (lexicon : Lexicon) (made : List Made) (a : ℕ → Point) : Type 0 where
  pub words : IsLexicon lexicon
  pub given : Fits lexicon a
  pub fresh : Follows lexicon.count made a

-- the number of the cell at this place is never zero
abbrev pub NeverZero : Lexicon → List Made → ℕ → Type 0
NeverZero lexicon made y = (a : ℕ → Point) → Runs lexicon made a → a y ≡ Number (pos 0) → ⊥

-- the point of the cell, where it is a number, always lies in the span
abbrev pub LiesAt : Lexicon → List Made → ℕ → spans.Span → Type 0
LiesAt lexicon made x s = (a : ℕ → Point) → Runs lexicon made a → LiesIn s (a x)

-- each fresh cell that there was is still at its place
abbrev pub Grows : List Made → List Made → Type 0
Grows olds news = (k : ℕ) (m : Made) → slice_get olds k ≡ Some m → slice_get news k ≡ Some m

-- where the point is an element, it is one of those that have names
abbrev pub IsNamed : Lexicon → Kinded → Point → Type 0
IsNamed lexicon kinded (Element i) = i < lexicon.size (domain_of kinded.kind)
IsNamed lexicon kinded p = ⊤

-- the point is of the kind, and has a name
pub record IsProper (lexicon : Lexicon) (kinded : Kinded) (p : Point) : Type 0 where
  pub of_kind : IsPointOf kinded.kind kinded.size p
  pub named : IsNamed lexicon kinded p

-- the element is one of the kind, and has a name
abbrev pub IsElement : Lexicon → Kinded → ℕ → Type 0
IsElement lexicon kinded i = IsLexicon lexicon → IsProper lexicon kinded (Element i)

-- the point is as is known, and has a name
pub record IsPoint (lexicon : Lexicon) (known : Known) (p : Point) : Type 0 where
  pub within : IsWithin known p
  pub named : IsNamed lexicon known.kinded p

-- The fresh cell at this place is well made. It is made of cells before it, of kinds that suit, and
-- its point is always as is known, and has a name.
pub record IsGood (lexicon : Lexicon) (made : List Made) (place : ℕ) (m : Made) : Type 0 where
  pub behind : IsBehind place m.step
  pub suits : Suits lexicon made m.known.kinded m.step
  pub within : (a : ℕ → Point) → Runs lexicon made a → IsPoint lexicon m.known (made_by m.step a)

-- each fresh cell is well made
abbrev pub IsSound : Lexicon → List Made → Type 0
IsSound lexicon made = (k : ℕ) (m : Made) → slice_get made k ≡ Some m
    → IsGood lexicon made (lexicon.count + k) m

-- each fresh cell is well made, and each that there was is still at its place
pub record Grown (lexicon : Lexicon) (olds news : List Made) : Type 0 where
  pub sound : IsSound lexicon news
  pub grows : Grows olds news

-- the cell at the place is of the kind, and its point is always what the function makes of all
-- points
pub record Makes (lexicon : Lexicon) (made : List Made) (kinded : Kinded)
    (f : (ℕ → Point) → Point) (place : ℕ) : Type 0 where
  pub has : Has lexicon made place kinded
  pub is : (a : ℕ → Point) → Runs lexicon made a → a place ≡ f a

-- the cell at the place is of the kind, and its value is always this word
pub record Names (lexicon : Lexicon) (made : List Made) (kinded : Kinded) (word : List ℕ)
    (place : ℕ) : Type 0 where
  pub has : Has lexicon made place kinded
  pub is : (a : ℕ → Point) → Runs lexicon made a → Text word ≡ value_as lexicon kinded (a place)

-- the cell at the place is of the kind, and its value is always what the term is worth
pub record Shows (lexicon : Lexicon) (made : List Made) (kinded : Kinded) (t : Term)
    (place : ℕ) : Type 0 where
  pub has : Has lexicon made place kinded
  pub worth_is : (a : ℕ → Point) → Runs lexicon made a
      → worth (names_at lexicon a) t ≡ Some (value_as lexicon kinded (a place))
