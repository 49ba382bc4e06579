-- What is left when the last cells, parameters and instances are taken back.
use Rattle.std.specs.Prelude.{◌≡◌, length}
use Rattle.prop_cells.specs.Data.{Data}
use Rattle.prop_cells.specs.Back.{taken_back}

-- taking back what was made since `before` leaves what was there then
abbrev pub GoesBackTo : Data → Data → Type 0
GoesBackTo before d = taken_back (length before.kinds) (length before.params)
    (length before.instances) d ≡ before
