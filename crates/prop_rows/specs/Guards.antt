-- What is known of the answers of the rules of rows without a call.
use Rattle.std.specs.Prelude.{ℕ, Option, Some, None}
use Rattle.prop_rows.specs.declared.row.Row as rows
use Rattle.prop_rows.specs.declared.row.Row.TheVariants.{Index}

-- the place of the input that tells of the output itself, where there is one: for `Index` what is
-- known of the number already
abbrev pub own_of : rows.Row → Option ℕ
own_of Index = Some 1
own_of rule = None
