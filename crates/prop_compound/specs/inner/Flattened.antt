-- What was expanded of a use while its flat form is made.
use Rattle.std.specs.Prelude.{◌≡◌, ◌<◌, ℕ, List, ◌++◌, All, IfSome, Option, drop, length, map}
use Rattle.prop_procedures.specs.declared.shape.Param.{Param}
use Rattle.prop_procedures.specs.Stored.{Stored}
use Rattle.prop_procedures.specs.declared.flat.Flat.{Flat}
use Rattle.prop_procedures.specs.Flats.{param_at}
use Rattle.prop_vocabulary.specs.Vocabulary.{Vocabulary}
use Rattle.prop_compound.specs.declared.definition.Used.{Used}
use Rattle.prop_compound.specs.declared.walk.Walk.{Walk}
use Rattle.prop_compound.specs.Definitions.{Definition}
use Rattle.prop_compound.specs.Expansion.{Expansion, param_passed, expanded_in}
use Rattle.prop_compound.specs.Flattened.{IsInstanceOver, placed_of}

-- ---- while it is made

-- the expansion that the walk has made so far
abbrev pub walk_of : Walk → Expansion (Option Param)
walk_of walk = record {
  kinds = walk.kinds.items;
  placed = map (placed_of walk.params.items) walk.instances.items;
  spare = walk.spare;
}

-- what a use on these cells adds was added, where it is given the parameter at this place in the
-- list of parameters, if there is a place
abbrev pub IsAdded : Vocabulary → List Definition → Used → List ℕ → Option ℕ → Walk → Walk → Type 0
IsAdded words definitions used cells given old new =
    walk_of new ≡ expanded_in (param_passed words) definitions used cells
    (param_at old.params.items given) (walk_of old)

-- the place, if there is one, is that of one of these parameters
abbrev pub IsPlaceIn : List Param → Option ℕ → Type 0
IsPlaceIn params place = IfSome place (λ n. n < length params)

-- the parameter of each instance is there, if it has one
abbrev pub ArePlaced : Walk → Type 0
ArePlaced walk = All (λ x. IsPlaceIn walk.params.items x.param) walk.instances.items

-- from the old walk to the new, parameters keep their places, and the parameter of each instance is
-- there
pub record IsFurther (old new : Walk) : Type 0 where
  pub more : List Param
  pub params : new.params.items ≡ old.params.items ++ more
  pub placed : ArePlaced new

-- each instance so far is one of a procedure of the library, on cells that are there
abbrev pub AreRight : List Stored → Walk → Type 0
AreRight library walk = All (IsInstanceOver library (length walk.kinds.items)) walk.instances.items

-- the flat form has what the walk has expanded, without the first `count` cells, which were given
pub record IsBehind (walk : Walk) (count : ℕ) (flat : Flat) : Type 0 where
  pub fresh : flat.fresh.items ≡ drop count walk.kinds.items
  pub params : flat.params ≡ walk.params
  pub instances : flat.instances ≡ walk.instances
