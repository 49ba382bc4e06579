-- What cells hold: entries, each an information with the premises that it rests on.
use Rattle.std.specs.Prelude.{ℕ, List, [], ◌∷◌, slice_index_or, Option, Some, None}
use Rattle.std.specs.List.{list_any, AllZip}
use Rattle.prop_lattice.specs.declared.info.Info.{Info}
use Rattle.prop_lattice.specs.declared.info.Info.TheVariants.{Nothing}
use Rattle.prop_lattice.specs.Order.{merge_of}
use Rattle.prop_numbers.specs.Sets.{Members, set_of, IsSame}
use Rattle.prop_tms.specs.Beliefs.{belief_of, IsLean}
use Rattle.prop_tms.specs.declared.supported.Supported.{Supported}

-- an information with its support: the premises that it rests on
abbrev pub Entry : Type 0
Entry = Supported Info

-- the entries of a cell; none where there is no such cell
abbrev pub content_of : List (List Entry) → ℕ → List Entry
content_of contents cell = slice_index_or contents cell []

-- what is believed of each cell by one who believes just these premises: what those of its entries
-- say together that rest on no others
abbrev pub beliefs : Members → List (List Entry) → ℕ → Info
beliefs s contents cell = belief_of Nothing merge_of s (content_of contents cell)

-- the support of what is stated: its premise, if it has one
abbrev pub support_of : Option ℕ → List ℕ
support_of None = []
support_of (Some p) = p ∷ []

-- the support is lean: it has the premises of believed entries of the cell that say together what
-- is believed of it, none of which can be left out
abbrev pub IsLeanAt : Members → List (List Entry) → ℕ → List ℕ → Type 0
IsLeanAt s contents cell support =
    IsLean Nothing merge_of (content_of contents cell) s (beliefs s contents cell) support

-- the support is the union of one lean support for each of these cells
pub record IsSupport (s : Members) (contents : List (List Entry)) (cells : List ℕ)
    (support : List ℕ) : Type 0 where
  pub parts : List (List ℕ)
  pub lean : AllZip (IsLeanAt s contents) cells parts
  pub union : IsSame (set_of support) (λ p. list_any (λ part. set_of part p) parts)
