-- The rules of rows: sums of products, entries by number, counts, the greatest and the least. Their
-- forms, what they answer, and which points belong together.
use Rattle.std.specs.Prelude.{◌≡◌, ◌≤◌, ℕ, Bool, true, false, nat_le, List, [], ◌∷◌, length, ◌+ℤ◌}
use Rattle.std.specs.Prelude.{◌==◌}
use Rattle.std.specs.Prelude.{pos, ◌*ℤ◌, if◌then◌else◌}
use Rattle.std.specs.List.{list_all}
use Rattle.prop_lattice.specs.Points.{Point, Number}
use Rattle.prop_lattice.specs.declared.info.Info.{Info}
use Rattle.prop_lattice.specs.declared.info.Info.TheVariants.{Nothing}
use Rattle.prop_procedures.specs.declared.shape.Param.{Param}
use Rattle.prop_procedures.specs.declared.shape.Shape.{Shape}
use Rattle.prop_procedures.specs.declared.shape.Shape.TheVariants.{Span, Truth, Any}
use Rattle.prop_procedures.specs.declared.shape.Need.{Need}
use Rattle.prop_procedures.specs.declared.shape.Need.TheVariants as needs
use Rattle.prop_rows.specs.Entries.{element_of, index_of, entry_of, IsEntry}
use Rattle.prop_rows.specs.Extremes.{greatest_of, greatest_back_of, least_of, least_back_of}
use Rattle.prop_rows.specs.Extremes.{RelatesGreatest, RelatesGreatestBack, RelatesLeast}
use Rattle.prop_rows.specs.Extremes.{RelatesLeastBack}
use Rattle.prop_rows.specs.Sums.{sum_of, addend_of, sum_at}
use Rattle.prop_rows.specs.declared.row.Row as rows
use Rattle.prop_rows.specs.declared.row.Row.TheVariants.{Sum, Addend, Element, Index, Entry}
use Rattle.prop_rows.specs.declared.row.Row.TheVariants.{Count, CountBack, Greatest, GreatestBack}
use Rattle.prop_rows.specs.declared.row.Row.TheVariants.{Least, LeastBack}
use Rattle.prop_wide.specs.Points.{Related as WideRelated}
use Rattle.prop_wide.specs.Values.{value_of as wide_value}
use Rattle.prop_wide.specs.Wide.{AreNumberAndTruths, AreTruths}
use Rattle.prop_wide.specs.declared.wide.Wide.TheVariants as wides

-- the shape is that of numbers
abbrev pub is_span : Shape → Bool
is_span Span = true
is_span s = false

-- the shape is that of the values of a row
abbrev pub is_any : Shape → Bool
is_any (Any n) = n == 0
is_any s = false

-- each shape is that of numbers
abbrev pub AreSpans : List Shape → Type 0
AreSpans shapes = list_all is_span shapes ≡ true

-- each shape is that of the values of a row
abbrev pub AreAny : List Shape → Type 0
AreAny shapes = list_all is_any shapes ≡ true

-- the first shape is this one, and `Rest` holds of the others
abbrev pub Begins : Shape → (List Shape → Type 0) → List Shape → Type 0
Begins shape Rest [] = ⊥
Begins shape Rest (s ∷ shapes) = (s ≡ shape) × Rest shapes

-- the rule may have inputs of these shapes
abbrev pub HasInputs : rows.Row → List Shape → Type 0
HasInputs Sum ins = AreSpans ins
HasInputs Addend ins = Begins Span (Begins Span AreSpans) ins
HasInputs Element ins = Begins Span AreAny ins
HasInputs Index ins = Begins (Any 0) (Begins Span AreAny) ins
HasInputs Entry ins = ins ≡ Span ∷ Span ∷ Any 0 ∷ []
HasInputs Count ins = AreTruths ins
HasInputs CountBack ins = AreNumberAndTruths ins
HasInputs Greatest ins = AreSpans ins
HasInputs GreatestBack ins = Begins Span AreSpans ins
HasInputs Least ins = AreSpans ins
HasInputs LeastBack ins = Begins Span AreSpans ins

-- the shape of a rule's output
abbrev pub out_of : rows.Row → Shape
out_of Element = Any 0
out_of Entry = Any 0
out_of CountBack = Truth
out_of rule = Span

-- the forms of a rule, which have up to 128 inputs
abbrev pub FormOf : rows.Row → List Shape → Shape → Need → Type 0
FormOf rule ins out need =
    HasInputs rule ins × (out ≡ out_of rule) × (need ≡ needs.Nothing) × (length ins ≤ 128)

-- what f answers to up to so many arguments, and nothing to more
abbrev pub at_most : ℕ → (List Info → Info) → List Info → Info
at_most most f args = if nat_le (length args) most then f args else Nothing

-- what a rule answers: nothing where the arguments don't fit
abbrev pub value_of : rows.Row → Param → List Info → Info
value_of Sum param args = at_most 128 sum_of args
value_of Addend param (z ∷ c ∷ pairs) = at_most 126 (addend_of z c) pairs
value_of Element param (number ∷ row) = at_most 127 (element_of number) row
value_of Index param (value ∷ number ∷ row) = at_most 126 (index_of value number) row
value_of Entry param (number ∷ this ∷ value ∷ []) = entry_of number this value
value_of Count param args = wide_value wides.Count param args
value_of CountBack param args = wide_value wides.CountBack param args
value_of Greatest param args = greatest_of args
value_of GreatestBack param (z ∷ others) = greatest_back_of z others
value_of Least param args = least_of args
value_of LeastBack param (z ∷ others) = least_back_of z others
value_of rule param args = Nothing

-- the output is the sum of the products of the pairs
abbrev pub RelatesSum : List Point → Point → Type 0
RelatesSum pairs (Number z) = z ≡ sum_at pairs
RelatesSum pairs point = ⊥

-- z is the sum of the products of the pairs, and of c times the output
abbrev pub RelatesAddend : List Point → Point → Type 0
RelatesAddend (Number z ∷ Number c ∷ pairs) (Number x) = z ≡ sum_at pairs +ℤ (c *ℤ x)
RelatesAddend points point = ⊥

-- the output is the entry of the number i in the row
abbrev pub RelatesElement : List Point → Point → Type 0
RelatesElement (Number i ∷ row) point = IsEntry i (pos 1) row point
RelatesElement points point = ⊥

-- the output is the number i, whose entry in the row has the value
abbrev pub RelatesIndex : List Point → Point → Type 0
RelatesIndex (value ∷ Number i ∷ row) (Number j) = (j ≡ i) × IsEntry i (pos 1) row value
RelatesIndex points point = ⊥

-- Where the two numbers are the same, the output is the value. So the output may be the entry of j
-- where the value is that of i.
abbrev pub RelatesEntry : List Point → Point → Type 0
RelatesEntry (Number i ∷ Number j ∷ value ∷ []) point = i ≡ j → point ≡ value
RelatesEntry points point = ⊥

-- the points that belong together: those of the inputs, and that of the output
abbrev pub Related : rows.Row → Param → List Point → Point → Type 0
Related Sum param points point = RelatesSum points point
Related Addend param points point = RelatesAddend points point
Related Element param points point = RelatesElement points point
Related Index param points point = RelatesIndex points point
Related Entry param points point = RelatesEntry points point
Related Count param points point = WideRelated wides.Count param points point
Related CountBack param points point = WideRelated wides.CountBack param points point
Related Greatest param points point = RelatesGreatest points point
Related GreatestBack param points point = RelatesGreatestBack points point
Related Least param points point = RelatesLeast points point
Related LeastBack param points point = RelatesLeastBack points point
