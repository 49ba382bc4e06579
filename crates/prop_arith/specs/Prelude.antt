-- The compounds that a session begins with, as lines of the language.
use Rattle.std.specs.Prelude.{◌≡◌, ℕ, List, [], ◌∷◌, codes, map}
use Rattle.prop_arith.specs.declared.prelude.TheConstants.{PRELUDE}

-- each line, byte by byte
abbrev pub prelude_lines : List (List ℕ)
prelude_lines = map codes (
    "define sum x y z = adder x y z ; subtracter z x y ; subtracter z y x" ∷
    "define product x y z = multiplier x y z by * ; divider z y x by * ; divider z x y by *" ∷
    "define square x y = squarer x y ; rooter y x x" ∷
    "define less x y t = lesser x y t ; below t y x ; above t x y" ∷
    "define same x y = copier x y ; copier y x" ∷
    "define alike x y t = comparer x y t ; passer t x y ; passer t y x ; parter t x y y ; parter t y x x" ∷
    "define switch t x y = passer t x y" ∷
    "define conditional t a b o = local n truth ; inverter t n ; passer t a o ; passer n b o" ∷
    "define not x y = inverter x y ; inverter y x" ∷
    "define and x y z = conjoiner x y z ; conjoin_back z y x ; conjoin_back z x y" ∷
    "define or x y z = disjoiner x y z ; disjoin_back z y x ; disjoin_back z x y" ∷
    "define link x y = imager x y by * ; coimager y x by *" ∷ [])

-- the program's own lines are these
abbrev pub PreludeIsStated : Type 0
PreludeIsStated = map (λ line. line.now) PRELUDE ≡ prelude_lines
