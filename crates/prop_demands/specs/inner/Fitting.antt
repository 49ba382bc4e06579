-- What was posted fits the cells that it is posted to.
use Rattle.std.specs.Prelude.{◌≡◌, ◌<◌, ℕ, List, [], ◌∷◌, ◌++◌, All, true, None, length}
use Rattle.std.specs.Prelude.{map, zip}
use Rattle.prop_lattice.specs.Ends.{elements_from}
use Rattle.prop_lattice.specs.declared.info.Info.{Info}
use Rattle.prop_procedures.specs.Fitting.{kind_at}
use Rattle.prop_procedures.specs.Stored.{are_right}
use Rattle.prop_procedures.specs.declared.shape.Kinded.{Kinded}
use Rattle.prop_procedures.specs.declared.shape.Need.{Need}
use Rattle.prop_procedures.specs.declared.shape.Shape.{Shape}
use Rattle.prop_cells.specs.Refusing.{may_be_stated}
use Rattle.prop_compound.specs.Kinds.{IsSized}
use Rattle.prop_vocabulary.specs.Vocabulary.{Vocabulary}
use Rattle.prop_meaning.specs.Acts.{inputs_of}
use Rattle.prop_meaning.specs.declared.acts.Act.{Act}
use Rattle.prop_meaning.specs.declared.posting.Posted.{Posted}
use Rattle.prop_demands.specs.inner.Palettes.{ins_of, is_taken, need_of, out_of}

-- A procedure of this form may stand between these cells. There are as many as it takes, all of
-- them are there, and their kinds suit.
pub record IsRight (kinds : List Kinded) (ins : List Shape) (out : Shape) (need : Need)
    (inputs : List ℕ) (output : ℕ) : Type 0 where
  pub count : length inputs ≡ length ins
  pub there : All (λ c. c < length kinds) (inputs ++ output ∷ [])
  pub right : are_right need None (zip (ins ++ out ∷ []) (map (kind_at kinds)
      (inputs ++ output ∷ []))) ≡ true

-- the act's instance may be made between cells of these kinds
pub record Fits (kinds : List Kinded) (act : Act) : Type 0 where
  pub taken : is_taken act.rule ≡ true
  pub right : IsRight kinds (ins_of act.rule) (out_of act.rule) (need_of act.rule)
      (inputs_of act.inputs) act.output

-- this may be stated of the cell at the place
pub record Admits (kinds : List Kinded) (place : ℕ) (info : Info) : Type 0 where
  pub there : place < length kinds
  pub may : may_be_stated (kind_at kinds place).kind (kind_at kinds place).size info ≡ true

-- All that was posted fits the cells of these kinds and the fresh ones: the instances, the
-- constants, and that the result is `yes`. The fresh cells are of kinds whose domains are there.
pub record AllFits (words : Vocabulary) (kinds : List Kinded) (posted : Posted) : Type 0 where
  pub sized : All (IsSized words) posted.fresh.items
  pub acts : All (Fits (kinds ++ posted.fresh.items)) posted.acts.items
  pub constants : All (λ c. Admits (kinds ++ posted.fresh.items) c.0 c.1) posted.constants.items
  pub result : Admits (kinds ++ posted.fresh.items) posted.result (elements_from 1)
