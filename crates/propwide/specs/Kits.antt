-- What the program propwide comes with: the procedures of the kit, the wider ones, the excluders,
-- those of many cells and those of rows, and their preludes.
use Rattle.std.specs.Prelude.{ℕ, List, ◌++◌, map}
use Rattle.prop_lattice.specs.Points.{Point}
use Rattle.prop_lattice.specs.declared.info.Info.{Info}
use Rattle.prop_procedures.specs.declared.both.Both.{Both}
use Rattle.prop_procedures.specs.declared.both.Both.TheVariants.{One, Two}
use Rattle.prop_procedures.specs.declared.shape.Need.TheVariants.{Nothing}
use Rattle.prop_procedures.specs.declared.shape.Param.{Param}
use Rattle.prop_procedures.specs.declared.shape.Shape.TheVariants.{Span}
use Rattle.prop_procedures.specs.Both.{either_of}
use Rattle.prop_procedures.specs.Stored.{Stored}
use Rattle.prop_procedures.specs.Forms.{Form, form, library_of, related_in}
use Rattle.prop_arith.specs.declared.kit.Kit.{Kit}
use Rattle.prop_arith.specs.Kit.{in_order as kits, form_of}
use Rattle.prop_arith.specs.Points.{Related as KitRelated}
use Rattle.prop_arith.specs.Values.{value_of as kit_value}
use Rattle.prop_arith.specs.Prelude.{prelude_lines as kit_lines}
use Rattle.prop_wide.specs.declared.wide.Wide.{Wide}
use Rattle.prop_wide.specs.Points.{Related as WideRelated}
use Rattle.prop_wide.specs.Prelude.{prelude_lines as wide_lines, different_lines}
use Rattle.prop_wide.specs.Procedures.{Named, in_order as named}
use Rattle.prop_wide.specs.Values.{value_of as wide_value}
use Rattle.prop_wide.specs.Wide.{out_of, need_of}
use Rattle.prop_hall.specs.declared.excluder.Excluder.{Excluder}
use Rattle.prop_hall.specs.Excluder.{in_order as excluders, ins_of, name_of}
use Rattle.prop_hall.specs.Excluder.{need_of as excluder_need, out_of as excluder_out}
use Rattle.prop_hall.specs.Excluder.{Related as ExcluderRelated, value_of as excluder_value}
use Rattle.prop_many.specs.declared.many.Many.{Many}
use Rattle.prop_many.specs.Many.{Related as ManyRelated, value_of as many_value}
use Rattle.prop_many.specs.Prelude.{prelude_lines as many_lines}
use Rattle.prop_many.specs.Procedures.{Named as ManyNamed, circuits_in_order as circuits_named}
use Rattle.prop_many.specs.Procedures.{in_order as many_named, tasks_in_order as tasks_named}
use Rattle.prop_rows.specs.declared.row.Row.{Row}
use Rattle.prop_rows.specs.Prelude.{more_lines, prelude_lines as row_lines}
use Rattle.prop_rows.specs.Procedures.{Named as RowNamed, in_order as row_named}
use Rattle.prop_rows.specs.Procedures.{counts_in_order as counts_named, ins_of as row_ins}
use Rattle.prop_rows.specs.Procedures.{greatest_in_order as greatest_named}
use Rattle.prop_rows.specs.Procedures.{least_in_order as least_named}
use Rattle.prop_rows.specs.Row.{Related as RowRelated, out_of as row_out, value_of as row_value}
use Rattle.prop_points.specs.Kit.{KitTells}
use Rattle.propwide.specs.declared.entries.Entry as entries

-- an excluder, or a rule of many cells or of rows
abbrev pub Larger : Type 0
Larger = Both Excluder (Both Many Row)

-- a rule of the kit, a wider one or a larger one
abbrev pub Mixed : Type 0
Mixed = Both Kit (Both Wide Larger)

-- what a larger rule answers
abbrev pub larger_of : Larger → Param → List Info → Info
larger_of = either_of excluder_value (either_of many_value row_value)

-- what a rule answers that isn't the kit's
abbrev pub wider_of : Both Wide Larger → Param → List Info → Info
wider_of = either_of wide_value larger_of

-- the points that a larger rule relates
abbrev pub LargerRelated : Larger → Param → List Point → Point → Type 0
LargerRelated = either_of ExcluderRelated (either_of ManyRelated RowRelated)

-- what a rule answers, and then the points that belong together at it
abbrev pub answer_of : Mixed → Param → List Info → Info
answer_of = either_of kit_value wider_of

abbrev pub RelatedBy : Mixed → Param → List Point → Point → Type 0
RelatedBy = either_of KitRelated (either_of WideRelated LargerRelated)

-- what is known of the points at a rule where a solution leaves each cell a single one
abbrev pub TellsBy : Mixed → Param → List Point → Point → Type 0
TellsBy = either_of KitTells (either_of WideRelated LargerRelated)

-- a procedure's form, and its rule
pub record Made : Type 0 where
  pub form : Form
  pub rule : Mixed

-- The procedures: of a rule of the kit; of a wider rule, with a name and inputs; of an excluder; of
-- a rule of many cells, with a name and inputs; and of a rule of rows, with a name and a count.
abbrev pub of_kit : Kit → Made
of_kit rule = record { form = form_of rule; rule = One rule }

abbrev pub of_wide : Named → Made
of_wide p = record {
  form = form p.name p.ins (out_of p.rule) (need_of p.rule);
  rule = Two (One p.rule);
}

abbrev pub of_excluder : Excluder → Made
of_excluder rule = record {
  form = form (name_of rule) (ins_of rule) (excluder_out rule) (excluder_need rule);
  rule = Two (Two (One rule));
}

abbrev pub of_many : ManyNamed → Made
of_many p = record { form = form p.name p.ins Span Nothing; rule = Two (Two (Two (One p.rule))) }

abbrev pub of_rows : RowNamed → Made
of_rows p = record {
  form = form p.name (row_ins p.rule p.many) (row_out p.rule) Nothing;
  rule = Two (Two (Two (Two p.rule)));
}

-- all procedures of the program, in order
abbrev pub in_order : List Made
in_order =
    map of_kit kits
    ++ (map of_wide named
    ++ (map of_excluder excluders ++ (map of_many many_named ++ (map of_many tasks_named
    ++ (map of_many circuits_named ++ (map of_rows row_named ++ (map of_rows counts_named
    ++ (map of_rows greatest_named ++ map of_rows least_named))))))))

-- the lines of all preludes, in order
abbrev pub lines_in_order : List (List ℕ)
lines_in_order = kit_lines ++ (wide_lines ++ (different_lines ++ (many_lines
    ++ (row_lines ++ more_lines))))

-- the library of all procedures
abbrev pub wide : List Stored
wide = library_of (λ p. p.form) (λ p. answer_of p.rule) in_order

-- the points that belong together at the procedure of this number
abbrev pub wide_related : ℕ → Param → List Point → Point → Type 0
wide_related = related_in (λ p. RelatedBy p.rule) in_order

abbrev pub wide_tells : ℕ → Param → List Point → Point → Type 0
wide_tells = related_in (λ p. TellsBy p.rule) in_order

-- the form and the rule of an entry, from which the program makes a procedure
abbrev pub shown : entries.Entry → Made
shown e = record { form = form e.name.now e.ins.now e.out e.need; rule = e.rule }
