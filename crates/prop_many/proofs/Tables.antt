-- The table of procedures.
use Rattle.std.proofs.Common.{◌≡◌, ◌≤◌, ℕ, zero, suc, ◌+◌, ◌*◌, List, []}
use Rattle.std.proofs.Common.{◌∷◌, ◌++◌, length, map, arith, codes, refl, All, get_or, lit≤}
use Rattle.std.proofs.lemmas.List.Elements.{All-append, All-map}
use Rattle.std.specs.Prelude.{replicate}
use Rattle.prop_procedures.specs.declared.shape.Shape.TheVariants.{Span}
use Rattle.prop_wide.proofs.Tables.{all_from}
use Rattle.prop_many.specs.Many.{AreNumbers, least_of}
use Rattle.prop_many.specs.Procedures.{EachCircuitIsFormed, EachIsFormed, EachTaskIsFormed, IsFormed}
use Rattle.prop_many.specs.Procedures.{Named, procedure_of}
use Rattle.prop_many.specs.Procedures.{procedures_of}
use Rattle.prop_many.specs.declared.many.Many.{Many}
use Rattle.prop_many.specs.declared.many.Many.TheVariants.{Circuit, Cumulative, Differ, Disjoint}
use Rattle.prop_many.specs.declared.many.Many.TheVariants.{Ending, Starting}

numbers : (n : ℕ) → AreNumbers (replicate n Span)
numbers zero = refl
numbers (suc n) = numbers n

counted : (n : ℕ) → length (replicate n Span) ≡ n
counted zero = refl
counted (suc n) = omega (arith, counted n)

-- one row alone
alone : (P : Named → Type 0) (p : Named) → P p → All P (p ∷ [])
alone P p h zero d l = h
alone P p h (suc k) d l = absurd (omega (arith, l))

-- the procedure of a rule is formed where its inputs are few
row_formed : (name : List ℕ) (rule : Many) (own each n : ℕ) → 1 ≤ own → least_of rule ≤ own
    → own + each * n ≤ 384 → IsFormed (procedure_of name rule own each n)
row_formed name rule own each n some least few = record {
  has_inputs = (numbers (own + each * n), omega (arith, least, counted (own + each * n)));
  some = omega (arith, some, counted (own + each * n));
  few = omega (arith, few, counted (own + each * n));
}

-- the rows of a rule are formed where the most inputs are few
pub rows_formed : (name : List ℕ) (rule : Many) (own each n : ℕ) → 1 ≤ own → least_of rule ≤ own
    → own + each * n ≤ 384 → All IsFormed (procedures_of name rule own each n)
rows_formed name rule own each zero some least few = λ k d l. absurd (omega (arith, l))
rows_formed name rule own each (suc n) some least few =
    All-append IsFormed (procedures_of name rule own each n) _
    (rows_formed name rule own each n some least (omega (arith, few)))
    (alone IsFormed _ (row_formed name rule own each (suc n) some least few))

-- all rows are
pub each_formed : EachIsFormed
each_formed = All-append IsFormed (procedures_of (codes "cumulative") Cumulative 4 3 40)
    (procedures_of (codes "disjoint") Disjoint 2 2 40 ++ procedures_of (codes "differ") Differ 1 1 63)
    (rows_formed (codes "cumulative") Cumulative 4 3 40 (omega arith) (omega arith) (omega arith))
    (All-append IsFormed (procedures_of (codes "disjoint") Disjoint 2 2 40)
    (procedures_of (codes "differ") Differ 1 1 63)
    (rows_formed (codes "disjoint") Disjoint 2 2 40 (omega arith) (omega arith) (omega arith))
    (rows_formed (codes "differ") Differ 1 1 63 (omega arith) (omega arith) (omega arith)))

-- the procedures of a rule for these numbers are formed where its inputs are few
some_formed : (name : List ℕ) (rule : Many) (own each : ℕ) (numbers : List ℕ) → 1 ≤ own → least_of rule ≤ own
    → All (λ n. own + each * n ≤ 384) numbers → All IsFormed (map (procedure_of name rule own each) numbers)
some_formed name rule own each numbers some least few = All-map IsFormed (procedure_of name rule own each) numbers
    (λ k d l. row_formed name rule own each (get_or numbers k d) some least (few k d l))

-- the numbers of others, and those of pauses
abbrev tens : List ℕ
tens = 50 ∷ 60 ∷ 70 ∷ 80 ∷ 90 ∷ 100 ∷ 110 ∷ 120 ∷ []

abbrev powers : List ℕ
powers = 1 ∷ 2 ∷ 4 ∷ 8 ∷ 16 ∷ 32 ∷ 64 ∷ []

abbrev cumulatives : List Named
cumulatives = map (procedure_of (codes "cumulative") Cumulative 4 3) tens

abbrev endings : List Named
endings = map (procedure_of (codes "pauser") Ending 2 2) powers

abbrev startings : List Named
startings = map (procedure_of (codes "pause_back") Starting 3 2) powers

pub each_task_formed : EachTaskIsFormed
each_task_formed = All-append IsFormed cumulatives (endings ++ startings)
    (some_formed (codes "cumulative") Cumulative 4 3 tens (omega arith) (omega arith)
    (all_from (λ n. 4 + 3 * n ≤ 384) tens
    (lit≤ tt, (lit≤ tt, (lit≤ tt, (lit≤ tt, (lit≤ tt, (lit≤ tt, (lit≤ tt, (lit≤ tt, tt))))))))))
    (All-append IsFormed endings startings
    (some_formed (codes "pauser") Ending 2 2 powers (omega arith) (omega arith)
    (all_from (λ n. 2 + 2 * n ≤ 384) powers
    (lit≤ tt, (lit≤ tt, (lit≤ tt, (lit≤ tt, (lit≤ tt, (lit≤ tt, (lit≤ tt, tt)))))))))
    (some_formed (codes "pause_back") Starting 3 2 powers (omega arith) (omega arith)
    (all_from (λ n. 3 + 2 * n ≤ 384) powers
    (lit≤ tt, (lit≤ tt, (lit≤ tt, (lit≤ tt, (lit≤ tt, (lit≤ tt, (lit≤ tt, tt))))))))))

pub each_circuit_formed : EachCircuitIsFormed
each_circuit_formed = rows_formed (codes "circuit") Circuit 2 1 40 (omega arith) (omega arith) (omega arith)
