use Rattle.std.proofs.Common.{◌≡◌, ◌*◌, ◌⊎◌, ◌≤◌, ℕ, inl, inr, arith, min, replicate, take}
use Rattle.std.proofs.lemmas.List.{take-replicate}
use Rattle.prop_procedures.specs.declared.shape.Shape.TheVariants.{Span, Truth, Any}
use Rattle.prop_rows.specs.Procedures.{ins_of}
use Rattle.prop_rows.specs.declared.row.Row.{Row}
use Rattle.prop_rows.specs.declared.row.Row.TheVariants.{Sum, Addend, Greatest, GreatestBack, Least, LeastBack}
use Rattle.prop_rows.proofs.TableLemmas.{behind_one, behind_two}
use Rattle.prop_rows.proofs.procedures.ins.Goals as goal

few : (many : ℕ) → min many 64 ≤ 64
few many = omega arith

pub returns-in-Sum : goal.returns-in-Sum
returns-in-Sum c = rw c.min-many.ensures (by c.args.rule c.in-Sum.is
    (take-replicate (2 * min c.args.many 64) 128 Span (omega (arith, few c.args.many))))
  where
    by : (rule : Row) → (rule ≡ Sum) ⊎ (rule ≡ Addend)
        → take (2 * min c.args.many 64) (replicate 128 Span) ≡ replicate (2 * min c.args.many 64) Span
        → take (2 * min c.args.many 64) (replicate 128 Span) ≡ ins_of rule c.args.many
    by rule (inl e) h = rw e h
    by rule (inr e) h = rw e h

pub returns-in-Element : goal.returns-in-Element
returns-in-Element c = rw (c.min-many.ensures, c.in-Element.is) (behind_one (min c.args.many 64) Span (few c.args.many))

pub returns-in-Index : goal.returns-in-Index
returns-in-Index c = rw (c.min-many.ensures, c.in-Index.is) (behind_two (min c.args.many 64) (Any 0) Span
    (few c.args.many))

pub returns-in-Count : goal.returns-in-Count
returns-in-Count c = rw (c.min-many.ensures, c.in-Count.is) (take-replicate (min c.args.many 64) 64 Truth
    (few c.args.many))

pub returns-in-Greatest : goal.returns-in-Greatest
returns-in-Greatest c = rw c.min-many.ensures (by c.args.rule c.in-Greatest.is
    (take-replicate (min c.args.many 64) 128 Span (omega (arith, few c.args.many))))
  where
    by : (rule : Row) → (rule ≡ Greatest) ⊎ (rule ≡ GreatestBack) ⊎ (rule ≡ Least) ⊎ (rule ≡ LeastBack)
        → take (min c.args.many 64) (replicate 128 Span) ≡ replicate (min c.args.many 64) Span
        → take (min c.args.many 64) (replicate 128 Span) ≡ ins_of rule c.args.many
    by rule (inl e) h = rw e h
    by rule (inr (inl e)) h = rw e h
    by rule (inr (inr (inl e))) h = rw e h
    by rule (inr (inr (inr e))) h = rw e h
