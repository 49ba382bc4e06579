-- The procedures of the rules of many numbers: their names, their inputs and their order.
use Rattle.std.specs.Prelude.{◌≡◌, ◌≤◌, ◌+◌, ◌*◌, ◌/◌, ◌%◌, ℕ, zero, suc, nat_lt, List, [], ◌∷◌}
use Rattle.std.specs.Prelude.{◌++◌, codes, if◌then◌else◌, map, length, All, replicate}
use Rattle.prop_procedures.specs.declared.shape.Shape.{Shape}
use Rattle.prop_procedures.specs.declared.shape.Shape.TheVariants.{Span}
use Rattle.prop_many.specs.Many.{HasInputs}
use Rattle.prop_many.specs.declared.procedures.TheConstants.{CIRCUITS, TASKS, PROCEDURES}
use Rattle.prop_many.specs.declared.many.Many.{Many}
use Rattle.prop_many.specs.declared.many.Many.TheVariants.{Circuit, Cumulative, Differ, Disjoint}
use Rattle.prop_many.specs.declared.many.Many.TheVariants.{Ending, Starting}

-- a procedure's name, its rule and the shapes of its inputs
pub record Named : Type 0 where
  pub name : List ℕ
  pub rule : Many
  pub ins : List Shape

-- the digits of a number below a thousand
abbrev pub digits : ℕ → List ℕ
digits n = if nat_lt n 10 then (48 + n) ∷ [] else if nat_lt n 100
    then (48 + n / 10) ∷ (48 + n % 10) ∷ []
    else (48 + n / 100) ∷ (48 + n / 10 % 10) ∷ (48 + n % 10) ∷ []

-- A rule's procedure for n others, or nodes, named by their number. It has `own` inputs, and beside
-- these `each` for each of the others.
abbrev pub procedure_of : List ℕ → Many → ℕ → ℕ → ℕ → Named
procedure_of name rule own each n = record {
  name = name ++ digits n;
  rule = rule;
  ins = replicate (own + each * n) Span;
}

-- those for 1 to n others
abbrev pub procedures_of : List ℕ → Many → ℕ → ℕ → ℕ → List Named
procedures_of name rule own each zero = []
procedures_of name rule own each (suc n) =
    procedures_of name rule own each n ++ procedure_of name rule own each (suc n) ∷ []

-- the procedures of tasks and of numbers that differ, in order
abbrev pub in_order : List Named
in_order = procedures_of (codes "cumulative") Cumulative 4 3 40
    ++ procedures_of (codes "disjoint") Disjoint 2 2 40
    ++ procedures_of (codes "differ") Differ 1 1 63

-- those of tasks beside 50, 60 and so on to 120 others, and of tasks with 1, 2, 4 and so on to 64
-- pauses
abbrev pub tasks_in_order : List Named
tasks_in_order = map (procedure_of (codes "cumulative") Cumulative 4 3)
    (50 ∷ 60 ∷ 70 ∷ 80 ∷ 90 ∷ 100 ∷ 110 ∷ 120 ∷ [])
    ++ map (procedure_of (codes "pauser") Ending 2 2) (1 ∷ 2 ∷ 4 ∷ 8 ∷ 16 ∷ 32 ∷ 64 ∷ [])
    ++ map (procedure_of (codes "pause_back") Starting 3 2) (1 ∷ 2 ∷ 4 ∷ 8 ∷ 16 ∷ 32 ∷ 64 ∷ [])

-- those of circuits
abbrev pub circuits_in_order : List Named
circuits_in_order = procedures_of (codes "circuit") Circuit 2 1 40

-- the program's own procedures are these
abbrev pub ProceduresAreStated : Type 0
ProceduresAreStated =
    map (λ p. record { name = p.0.now; rule = p.1; ins = p.2.now }) PROCEDURES ≡ in_order

abbrev pub TasksAreStated : Type 0
TasksAreStated =
    map (λ p. record { name = p.0.now; rule = p.1; ins = p.2.now }) TASKS ≡ tasks_in_order

abbrev pub CircuitsAreStated : Type 0
CircuitsAreStated =
    map (λ p. record { name = p.0.now; rule = p.1; ins = p.2.now }) CIRCUITS ≡ circuits_in_order

-- the procedure has 1 to 384 inputs, as its rule may have
pub record IsFormed (p : Named) : Type 0 where
  pub has_inputs : HasInputs p.rule p.ins
  pub some : 1 ≤ length p.ins
  pub few : length p.ins ≤ 384

-- each procedure has such inputs
abbrev pub EachIsFormed : Type 0
EachIsFormed = All IsFormed in_order

abbrev pub EachTaskIsFormed : Type 0
EachTaskIsFormed = All IsFormed tasks_in_order

abbrev pub EachCircuitIsFormed : Type 0
EachCircuitIsFormed = All IsFormed circuits_in_order
