-- The procedures.
use Rattle.std.specs.Prelude.{◌≡◌, ◌≤◌, ℕ, List, [], ◌∷◌, codes, map, length, All, replicate}
use Rattle.prop_procedures.specs.declared.shape.Shape.{Shape}
use Rattle.prop_procedures.specs.declared.shape.Shape.TheVariants.{Span, Truth, Any}
use Rattle.prop_wide.specs.Wide.{HasInputs}
use Rattle.prop_wide.specs.declared.procedures.TheConstants.{PROCEDURES}
use Rattle.prop_wide.specs.declared.wide.Wide.{Wide}
use Rattle.prop_wide.specs.declared.wide.Wide.TheVariants.{Max, MaxBack, Min, MinBack, Abs}
use Rattle.prop_wide.specs.declared.wide.Wide.TheVariants.{AbsBack, Choose, Decide, Count}
use Rattle.prop_wide.specs.declared.wide.Wide.TheVariants.{CountBack, Square, Root, Quotient}
use Rattle.prop_wide.specs.declared.wide.Wide.TheVariants.{Remainder, Divisor}

-- a procedure's name, its rule and the shapes of its inputs
pub record Named : Type 0 where
  pub name : List ℕ
  pub rule : Wide
  pub ins : List Shape

-- the procedures in order
abbrev pub in_order : List Named
in_order =
    record { name = codes "maximizer"; rule = Max; ins = Span ∷ Span ∷ [] } ∷
    record { name = codes "max_back"; rule = MaxBack; ins = Span ∷ Span ∷ [] } ∷
    record { name = codes "minimizer"; rule = Min; ins = Span ∷ Span ∷ [] } ∷
    record { name = codes "min_back"; rule = MinBack; ins = Span ∷ Span ∷ [] } ∷
    record { name = codes "absoluter"; rule = Abs; ins = Span ∷ [] } ∷
    record { name = codes "abs_back"; rule = AbsBack; ins = Span ∷ Span ∷ [] } ∷
    record { name = codes "chooser"; rule = Choose; ins = Truth ∷ Any 0 ∷ Any 0 ∷ [] } ∷
    record { name = codes "decider"; rule = Decide; ins = Any 0 ∷ Any 0 ∷ Any 0 ∷ [] } ∷
    record { name = codes "counter1"; rule = Count; ins = replicate 1 Truth } ∷
    record { name = codes "counter2"; rule = Count; ins = replicate 2 Truth } ∷
    record { name = codes "counter3"; rule = Count; ins = replicate 3 Truth } ∷
    record { name = codes "counter4"; rule = Count; ins = replicate 4 Truth } ∷
    record { name = codes "counter5"; rule = Count; ins = replicate 5 Truth } ∷
    record { name = codes "counter6"; rule = Count; ins = replicate 6 Truth } ∷
    record { name = codes "counter7"; rule = Count; ins = replicate 7 Truth } ∷
    record { name = codes "counter8"; rule = Count; ins = replicate 8 Truth } ∷
    record { name = codes "count_back1"; rule = CountBack; ins = Span ∷ replicate 0 Truth } ∷
    record { name = codes "count_back2"; rule = CountBack; ins = Span ∷ replicate 1 Truth } ∷
    record { name = codes "count_back3"; rule = CountBack; ins = Span ∷ replicate 2 Truth } ∷
    record { name = codes "count_back4"; rule = CountBack; ins = Span ∷ replicate 3 Truth } ∷
    record { name = codes "count_back5"; rule = CountBack; ins = Span ∷ replicate 4 Truth } ∷
    record { name = codes "count_back6"; rule = CountBack; ins = Span ∷ replicate 5 Truth } ∷
    record { name = codes "count_back7"; rule = CountBack; ins = Span ∷ replicate 6 Truth } ∷
    record { name = codes "count_back8"; rule = CountBack; ins = Span ∷ replicate 7 Truth } ∷
    record { name = codes "scaled_squarer"; rule = Square; ins = Span ∷ [] } ∷
    record { name = codes "scaled_rooter"; rule = Root; ins = Span ∷ Span ∷ [] } ∷
    record { name = codes "quotienter"; rule = Quotient; ins = Span ∷ Span ∷ [] } ∷
    record { name = codes "remainderer"; rule = Remainder; ins = Span ∷ [] } ∷
    record { name = codes "divisor_back"; rule = Divisor; ins = Span ∷ Span ∷ [] } ∷ []

-- the program's own procedures are these
abbrev pub ProceduresAreStated : Type 0
ProceduresAreStated =
    map (λ p. record { name = p.0.now; rule = p.1; ins = p.2.now }) PROCEDURES ≡ in_order

-- the inputs are one to eight, as the rule may have
pub record IsFormed (p : Named) : Type 0 where
  pub has_inputs : HasInputs p.rule p.ins
  pub some : 1 ≤ length p.ins
  pub few : length p.ins ≤ 8

-- each has such inputs
abbrev pub EachIsFormed : Type 0
EachIsFormed = All IsFormed in_order
