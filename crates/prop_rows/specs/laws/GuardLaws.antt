-- The laws of what is known of the answers of the rules of rows without a call.
use Rattle.std.specs.Prelude.{◌∷◌, false, None, Some}
use Rattle.std.proofs.Common.{rules, ap, sym}
use Rattle.prop_lattice.specs.Points.{Number}
use Rattle.prop_guards.specs.Guards.{AreSilent, AreRepeated, AreRuledOut, IsOwn}
use Rattle.prop_rows.specs.Guards.{own_of}
use Rattle.prop_rows.specs.Row.{Related, value_of}
use Rattle.prop_rows.specs.declared.row.Row.{Row}
use Rattle.prop_rows.specs.declared.row.Row.TheVariants.{Sum, Addend, Element, Index, Entry}
use Rattle.prop_rows.specs.declared.row.Row.TheVariants.{Count, CountBack, Greatest, GreatestBack}
use Rattle.prop_rows.specs.declared.row.Row.TheVariants.{Least, LeastBack}
use Rattle.prop_wide.specs.laws.TruthLaws.{never}

pub row_silent : (rule : Row) → AreSilent (value_of rule) (λ param args. false)
row_silent rule param args c e = absurd (never e)

pub row_repeated : (rule : Row) → AreRepeated (value_of rule) (own_of rule) (λ param args. false)
row_repeated rule param args e = absurd (never e)

pub row_barred : (rule : Row) → AreRuledOut (value_of rule) (Related rule) (own_of rule)
    (λ param args place. None)
row_barred rule param args place = tt

pub row_own : (rule : Row) → IsOwn (Related rule) (own_of rule)
row_own Index param (value ∷ Number i ∷ row) (Number j) r = ap (λ n. Some (Number n)) (sym r.0)
row_own Index param points point r = search rules
row_own Sum param points point r = tt
row_own Addend param points point r = tt
row_own Element param points point r = tt
row_own Entry param points point r = tt
row_own Count param points point r = tt
row_own CountBack param points point r = tt
row_own Greatest param points point r = tt
row_own GreatestBack param points point r = tt
row_own Least param points point r = tt
row_own LeastBack param points point r = tt
