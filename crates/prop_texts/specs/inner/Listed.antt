-- The premises of a list one by one.
use Rattle.std.specs.Prelude.{ℕ, Bool, not, List, [], slice_get, if◌then◌else◌}
use Rattle.std.specs.Option.{option_map_or}
use Rattle.prop_numbers.specs.Sets.{Members}
use Rattle.prop_premises.specs.Origins.{Origin}
use Rattle.prop_texts.specs.Texts.{label_of}

-- the label of a premise
abbrev pub label_at : List Origin → ℕ → List ℕ
label_at premises p = option_map_or label_of (slice_get premises p) []

-- the premises of a worldview, or all others
abbrev pub is_listed : Bool → Members → Members
is_listed believed w p = if believed then w p else not (w p)
