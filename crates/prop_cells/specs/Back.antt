-- What is left when the last cells, parameters and instances are taken back.
use Rattle.std.specs.Prelude.{ℕ, take}
use Rattle.prop_cells.specs.Data.{Data}

-- the data with the cells, the parameters and the instances below these numbers alone, and with
-- every statement
abbrev pub taken_back : ℕ → ℕ → ℕ → Data → Data
taken_back cells params instances d =
    record d {
      kinds = take cells d.kinds;
      contents = take cells d.contents;
      params = take params d.params;
      instances = take instances d.instances;
    }
