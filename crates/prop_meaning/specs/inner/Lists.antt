-- What operators make of lists, and of words in braces.
use Rattle.std.specs.Prelude.{◌≡◌, ℕ, pos, List, Bool, true, false, cond, Option, Some}
use Rattle.std.specs.List.{list_any}
use Rattle.prop_lattice.specs.Points.{Point, Number}
use Rattle.prop_procedures.specs.declared.shape.Kinded.{Kinded}
use Rattle.prop_terms.specs.Meaning.{Value, comparison, label}
use Rattle.prop_terms.specs.Terms.{Term, Two}
use Rattle.prop_terms.specs.declared.operators.Infix.TheVariants.{And, Comma, Equal, Unequal}
use Rattle.prop_terms.specs.declared.operators.Prefix.{Prefix}
use Rattle.prop_terms.specs.declared.operators.Prefix.TheVariants.{Max, Min, Sum, Count}
use Rattle.prop_meaning.specs.Words.{Lexicon, value_as}
use Rattle.prop_meaning.specs.declared.draft.Made.{Made}
use Rattle.prop_meaning.specs.declared.steps.Pair as pairs
use Rattle.prop_meaning.specs.declared.steps.Pair.TheVariants as two
use Rattle.prop_meaning.specs.inner.Drafts.{Has, Runs, Shows, number_kind, truth_kind}
use Rattle.prop_meaning.specs.inner.Formulas.{is_list}
use Rattle.prop_meaning.specs.inner.Steps.{of_two, chosen}

-- ---- lists

-- operators that go through a list, one term after another
abbrev pub is_gathering : Prefix → Bool
is_gathering Max = true
is_gathering Min = true
is_gathering Sum = true
is_gathering Count = true
is_gathering op = false

abbrev pub kind_within : Prefix → Kinded
kind_within Count = truth_kind
kind_within op = number_kind

abbrev pub pair_of : Prefix → pairs.Pair
pair_of Max = two.Max
pair_of Min = two.Min
pair_of op = two.Sum

-- 1 for `yes`, and 0 for another truth
abbrev pub counted : Point → Point
counted p = chosen p (Number (pos 1)) (Number (pos 0))

-- what an operator makes of a list that has this one point
abbrev pub alone : Prefix → Point → Point
alone Count p = counted p
alone op p = p

-- what an operator makes of a list: p is what it made of all terms but the last, and q is the last
abbrev pub gathered : Prefix → Point → Point → Point
gathered op p q = of_two (pair_of op) p (alone op q)

-- ---- values that all differ

-- those between commas are each unequal to the other term
abbrev pub unequal_to : Term → Term → Term
unequal_to (Two Comma t u) with = Two And (unequal_to t with) (Two Unequal u with)
unequal_to t with = Two Unequal t with

-- of those between commas no two are equal; one alone is what it is
abbrev pub different_of : Term → Term
different_of (Two Comma t u) =
    cond (is_list t) (Two And (different_of t) (unequal_to t u)) (unequal_to t u)
different_of t = Two Equal t t

-- the cell at the place is a truth, and it shows what f makes of any term that the cell y showed
pub record ShowsWith (lexicon : Lexicon) (olds news : List Made) (kinded : Kinded)
    (f : Term → Term) (y place : ℕ) : Type 0 where
  pub has : Has lexicon news place truth_kind
  pub of_it : (u : Term) → Shows lexicon olds kinded u y → Shows lexicon news truth_kind (f u) place

-- ---- words in braces

-- the value of the point, which is of this kind, is one of the labels
abbrev pub is_among : Lexicon → Kinded → Point → List (Option Value) → Bool
is_among lexicon kinded p ls = list_any (comparison Equal (Some (value_as lexicon kinded p))) ls

-- the cell at the place is of the kind, and its value is always that of the label
pub record Labels (lexicon : Lexicon) (made : List Made) (kinded : Kinded) (t : Term)
    (place : ℕ) : Type 0 where
  pub has : Has lexicon made place kinded
  pub is : (a : ℕ → Point) → Runs lexicon made a
      → label t ≡ Some (value_as lexicon kinded (a place))
