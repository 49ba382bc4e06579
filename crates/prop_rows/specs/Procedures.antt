-- The procedures of the rules of rows: their names, their inputs and their order.
use Rattle.std.specs.Prelude.{◌≡◌, ◌≤◌, ℕ, zero, suc, ◌+◌, ◌*◌, ◌/◌, ◌%◌, min, nat_lt, List, []}
use Rattle.std.specs.Prelude.{◌∷◌}
use Rattle.std.specs.Prelude.{◌++◌, codes, map, length, take, All, replicate, if◌then◌else◌}
use Rattle.prop_procedures.specs.declared.shape.Shape.{Shape}
use Rattle.prop_procedures.specs.declared.shape.Shape.TheVariants.{Span, Truth, Any}
use Rattle.prop_procedures.specs.declared.shape.Need.TheVariants as needs
use Rattle.prop_rows.specs.Row.{FormOf, out_of}
use Rattle.prop_rows.specs.declared.procedures.TheConstants.{COUNTS, GREATEST, LEAST, PROCEDURES}
use Rattle.prop_rows.specs.declared.row.Row.{Row}
use Rattle.prop_rows.specs.declared.row.Row.TheVariants.{Sum, Addend, Element, Index, Entry}
use Rattle.prop_rows.specs.declared.row.Row.TheVariants.{Count, CountBack, Greatest, GreatestBack}
use Rattle.prop_rows.specs.declared.row.Row.TheVariants.{Least, LeastBack}

-- a procedure's name, its rule, and how many pairs, entries or others it has
pub record Named : Type 0 where
  pub name : List ℕ
  pub rule : Row
  pub many : ℕ

-- the shapes of the inputs of a rule, for so many pairs, entries or others, 64 at the most
abbrev pub ins_of : Row → ℕ → List Shape
ins_of Sum many = replicate (2 * min many 64) Span
ins_of Addend many = replicate (2 * min many 64) Span
ins_of Element many = Span ∷ replicate (min many 64) (Any 0)
ins_of Index many = Any 0 ∷ Span ∷ replicate (min many 64) (Any 0)
ins_of Entry many = Span ∷ Span ∷ Any 0 ∷ []
ins_of Count many = replicate (min many 64) Truth
ins_of CountBack many = take (min many 64) (Span ∷ replicate 63 Truth)
ins_of Greatest many = replicate (min many 64) Span
ins_of GreatestBack many = replicate (min many 64) Span
ins_of Least many = replicate (min many 64) Span
ins_of LeastBack many = replicate (min many 64) Span

-- a number below 100 in digits
abbrev pub digits : ℕ → List ℕ
digits n = if nat_lt n 10 then (48 + n) ∷ [] else (48 + n / 10) ∷ (48 + n % 10) ∷ []

-- a rule's n procedures for more than `some` pairs, entries or others, named by these numbers
abbrev pub behind : ℕ → ℕ → List ℕ → Row → List Named
behind some zero text rule = []
behind some (suc n) text rule = behind some n text rule ++ record {
  name = text ++ digits (suc (some + n));
  rule = rule;
  many = suc (some + n);
} ∷ []

-- a rule's procedures for 1 to so many
abbrev pub up_to : ℕ → List ℕ → Row → List Named
up_to = behind 0

-- the procedures of sums and of entries, in order
abbrev pub in_order : List Named
in_order = up_to 32 (codes "linear_sum") Sum ++ (up_to 32 (codes "linear_term") Addend
    ++ (up_to 64 (codes "element_value") Element ++ (up_to 64 (codes "element_number") Index
    ++ record { name = codes "element_entry"; rule = Entry; many = 0 } ∷ [])))

-- the procedures of counts, in order
abbrev pub counts_in_order : List Named
counts_in_order =
    behind 8 55 (codes "counter") Count ++ behind 8 55 (codes "count_back") CountBack

-- those of the greatest
abbrev pub greatest_in_order : List Named
greatest_in_order =
    up_to 63 (codes "maximizer") Greatest ++ up_to 63 (codes "max_back") GreatestBack

-- those of the least
abbrev pub least_in_order : List Named
least_in_order = up_to 63 (codes "minimizer") Least ++ up_to 63 (codes "min_back") LeastBack

-- the program's own procedures are these
abbrev pub ProceduresAreStated : Type 0
ProceduresAreStated =
    map (λ p. record { name = p.0.now; rule = p.1; many = p.2 }) PROCEDURES ≡ in_order

abbrev pub CountsAreStated : Type 0
CountsAreStated =
    map (λ p. record { name = p.0.now; rule = p.1; many = p.2 }) COUNTS ≡ counts_in_order

abbrev pub GreatestAreStated : Type 0
GreatestAreStated =
    map (λ p. record { name = p.0.now; rule = p.1; many = p.2 }) GREATEST ≡ greatest_in_order

abbrev pub LeastAreStated : Type 0
LeastAreStated =
    map (λ p. record { name = p.0.now; rule = p.1; many = p.2 }) LEAST ≡ least_in_order

-- the procedure has at least one input, and inputs that its rule may have
pub record IsFormed (p : Named) : Type 0 where
  pub some : 1 ≤ length (ins_of p.rule p.many)
  pub formed : FormOf p.rule (ins_of p.rule p.many) (out_of p.rule) needs.Nothing

-- each procedure has such inputs
abbrev pub EachIsFormed : Type 0
EachIsFormed = All IsFormed in_order

abbrev pub OthersAreFormed : Type 0
OthersAreFormed =
    All IsFormed counts_in_order × All IsFormed greatest_in_order × All IsFormed least_in_order
