-- The laws of the rules of rows.
use Rattle.std.specs.Prelude.{◌≡◌, ℕ, pos, Bool, true, false, nat_le, List, [], ◌∷◌, length}
use Rattle.std.specs.Prelude.{if◌then◌else◌}
use Rattle.std.specs.List.{list_all}
use Rattle.std.proofs.Common.{refl, rules, ap, suc, eqb-true}
use Rattle.std.proofs.lemmas.Bool.{and_parts}
use Rattle.prop_lattice.specs.Order.{Below}
use Rattle.prop_lattice.specs.Points.{Point, Number, Element, Holds, IsPointOf}
use Rattle.prop_lattice.specs.Rank.{IsOf}
use Rattle.prop_lattice.specs.declared.info.Info.{Info}
use Rattle.prop_lattice.specs.declared.info.Info.TheVariants.{Nothing}
use Rattle.prop_lattice.specs.declared.info.Kind.{Kind}
use Rattle.prop_lattice.specs.declared.info.Kind.TheVariants as kinds
use Rattle.prop_procedures.specs.declared.shape.Kinded.{Kinded}
use Rattle.prop_procedures.specs.declared.shape.Param.{Param}
use Rattle.prop_procedures.specs.declared.shape.Shape.{Shape}
use Rattle.prop_procedures.specs.declared.shape.Shape.TheVariants.{Span, Truth, Any, From, To}
use Rattle.prop_procedures.specs.declared.shape.Need.{Need}
use Rattle.prop_procedures.specs.Rules.{IsMonotone, KeepsKind, IsSound, EachBelow, EachHolds}
use Rattle.prop_procedures.specs.Rules.{AreClear}
use Rattle.prop_procedures.specs.inner.Places.{AreOf, ArePointsOf}
use Rattle.prop_rows.specs.Entries.{element_of, index_of}
use Rattle.prop_rows.specs.Row.{AreSpans, AreAny, Begins, is_any, FormOf, at_most, value_of}
use Rattle.prop_rows.specs.Row.{Related, RelatesAddend, RelatesElement, RelatesIndex}
use Rattle.prop_rows.specs.Row.{RelatesEntry}
use Rattle.prop_rows.specs.Sums.{sum_of, addend_of}
use Rattle.prop_rows.specs.declared.row.Row.{Row}
use Rattle.prop_rows.specs.declared.row.Row.TheVariants.{Sum, Addend, Element, Index, Entry}
use Rattle.prop_rows.specs.declared.row.Row.TheVariants.{Count, CountBack, Greatest, GreatestBack}
use Rattle.prop_rows.specs.declared.row.Row.TheVariants.{Least, LeastBack}
use Rattle.prop_rows.specs.Extremes.{RelatesGreatestBack, RelatesLeastBack}
use Rattle.prop_rows.specs.laws.ExtremeLaws.{greatest_below, greatest_kind, greatest_sound}
use Rattle.prop_rows.specs.laws.ExtremeLaws.{greatest_back_below, greatest_back_kind}
use Rattle.prop_rows.specs.laws.ExtremeLaws.{greatest_back_sound, least_below, least_kind}
use Rattle.prop_rows.specs.laws.ExtremeLaws.{least_sound, least_back_below, least_back_kind}
use Rattle.prop_rows.specs.laws.ExtremeLaws.{least_back_sound}
use Rattle.prop_wide.specs.declared.wide.Wide.TheVariants as wides
use Rattle.prop_wide.specs.laws.WideLaws.{wide_monotone, wide_keeps_kind, wide_sound}
use Rattle.prop_rows.specs.laws.EntryLaws.{AreOfKind, picked_below, picked_kind, picked_holds}
use Rattle.prop_rows.specs.laws.EntryLaws.{found_below, found_kind, found_holds, entry_below}
use Rattle.prop_rows.specs.laws.EntryLaws.{entry_kind, entry_holds}
use Rattle.prop_rows.specs.laws.SumLaws.{sum_below, sum_kind, sum_sound, addend_below, addend_kind}
use Rattle.prop_rows.specs.laws.SumLaws.{addend_sound}
use Rattle.prop_wide.specs.laws.EndLaws.{ends_within}
use Rattle.prop_wide.specs.laws.TruthLaws.{never}

-- ---- lists that aren't too long

same_length : (olds news : List Info) → EachBelow olds news → length olds ≡ length news
same_length [] [] p = refl
same_length (a ∷ olds) (b ∷ news) p = ap suc (same_length olds news p.1)
same_length olds news p = search rules

at_most_below : (most : ℕ) (f g : List Info → Info) (olds news : List Info) → EachBelow olds news
    → Below (f olds) (g news) → Below (at_most most f olds) (at_most most g news)
at_most_below most f g olds news p h = rw (same_length olds news p) (by (nat_le (length news) most))
  where
    by : (s : Bool) → Below (if s then f olds else Nothing) (if s then g news else Nothing)
    by true = h
    by false = tt

at_most_kind : (kind : Kind) (size most : ℕ) (f : List Info → Info) (args : List Info)
    → IsOf kind size (f args) → IsOf kind size (at_most most f args)
at_most_kind kind size most f args h = by (nat_le (length args) most)
  where
    by : (s : Bool) → IsOf kind size (if s then f args else Nothing)
    by true = h
    by false = search rules

at_most_holds : (most : ℕ) (f : List Info → Info) (args : List Info) (p : Point)
    → Holds (f args) p → Holds (at_most most f args) p
at_most_holds most f args p h = by (nat_le (length args) most)
  where
    by : (s : Bool) → Holds (if s then f args else Nothing) p
    by true = h
    by false = tt

-- ---- where more is known, more is answered

addend_monotone : (param : Param) (olds news : List Info) → EachBelow olds news → AreClear news
    → Below (value_of Addend param olds) (value_of Addend param news)
addend_monotone param (z ∷ c ∷ olds) (z' ∷ c' ∷ news) p n =
    at_most_below 126 (addend_of z c) (addend_of z' c') olds news p.1.1
    (addend_below z c z' c' olds news p.0 n.0 p.1.0 n.1.0 p.1.1 n.1.1)
addend_monotone param olds news p n = search rules

element_monotone : (param : Param) (olds news : List Info) → EachBelow olds news → AreClear news
    → Below (value_of Element param olds) (value_of Element param news)
element_monotone param (i ∷ olds) (i' ∷ news) p n =
    at_most_below 127 (element_of i) (element_of i') olds news p.1
    (picked_below i i' (pos 1) olds news (ends_within i i' p.0 n.0) p.1)
element_monotone param olds news p n = search rules

index_monotone : (param : Param) (olds news : List Info) → EachBelow olds news → AreClear news
    → Below (value_of Index param olds) (value_of Index param news)
index_monotone param (v ∷ i ∷ olds) (v' ∷ i' ∷ news) p n =
    at_most_below 126 (index_of v i) (index_of v' i') olds news p.1.1
    (found_below v v' i i' (pos 1) olds news p.0 (ends_within i i' p.1.0 n.1.0) p.1.1)
index_monotone param olds news p n = search rules

entry_monotone : (param : Param) (olds news : List Info) → EachBelow olds news → AreClear news
    → Below (value_of Entry param olds) (value_of Entry param news)
entry_monotone param (i ∷ j ∷ v ∷ []) (i' ∷ j' ∷ v' ∷ []) p n =
    entry_below i j v i' j' v' p.0 p.1.0 p.1.1.0 n.0 n.1.0 n.1.1.0
entry_monotone param olds news p n = search rules

greatest_back_monotone : (param : Param) (olds news : List Info) → EachBelow olds news
    → AreClear news → Below (value_of GreatestBack param olds) (value_of GreatestBack param news)
greatest_back_monotone param (z ∷ olds) (z' ∷ news) p n =
    greatest_back_below z z' olds news p.0 n.0 p.1 n.1
greatest_back_monotone param olds news p n = search rules

least_back_monotone : (param : Param) (olds news : List Info) → EachBelow olds news
    → AreClear news → Below (value_of LeastBack param olds) (value_of LeastBack param news)
least_back_monotone param (z ∷ olds) (z' ∷ news) p n =
    least_back_below z z' olds news p.0 n.0 p.1 n.1
least_back_monotone param olds news p n = search rules

pub row_monotone : (rule : Row) (ins : List Shape) (out : Shape) (need : Need)
    → FormOf rule ins out need → IsMonotone (value_of rule) ins need
row_monotone Sum ins out need f any param olds news c d p =
    at_most_below 128 sum_of sum_of olds news p (sum_below olds news p d.clear)
row_monotone Addend ins out need f any param olds news c d p =
    addend_monotone param olds news p d.clear
row_monotone Element ins out need f any param olds news c d p =
    element_monotone param olds news p d.clear
row_monotone Index ins out need f any param olds news c d p =
    index_monotone param olds news p d.clear
row_monotone Entry ins out need f any param olds news c d p =
    entry_monotone param olds news p d.clear
row_monotone Count ins out need f any param olds news c d p =
    wide_monotone wides.Count ins out need (f.0, f.1, f.2) any param olds news c d p
row_monotone CountBack ins out need f any param olds news c d p =
    wide_monotone wides.CountBack ins out need (f.0, f.1, f.2) any param olds news c d p
row_monotone Greatest ins out need f any param olds news c d p = greatest_below olds news p d.clear
row_monotone GreatestBack ins out need f any param olds news c d p =
    greatest_back_monotone param olds news p d.clear
row_monotone Least ins out need f any param olds news c d p = least_below olds news p d.clear
row_monotone LeastBack ins out need f any param olds news c d p =
    least_back_monotone param olds news p d.clear

-- ---- answers of their kind

first_is_any : (s : Shape) (shapes : List Shape) → AreAny (s ∷ shapes) → s ≡ Any 0
first_is_any s shapes f = by s (and_parts (is_any s) (list_all is_any shapes) f).0
  where
    by : (s : Shape) → is_any s ≡ true → s ≡ Any 0
    by (Any n) e = ap Any (eqb-true n 0 e)
    by Span e = absurd (never e)
    by Truth e = absurd (never e)
    by From e = absurd (never e)
    by To e = absurd (never e)

others_are_any : (s : Shape) (shapes : List Shape) → AreAny (s ∷ shapes) → AreAny shapes
others_are_any s shapes f = (and_parts (is_any s) (list_all is_any shapes) f).1

-- informations of the shape of a row's values are of the kind of these values
of_row : (any : Shape → Kinded) (ins : List Shape) (row : List Info) → AreAny ins
    → AreOf any ins row → AreOfKind (any (Any 0)).kind (any (Any 0)).size row
of_row any [] [] f h = tt
of_row any (s ∷ ins) (a ∷ row) f h =
    (rw (first_is_any s ins f) at h.0, of_row any ins row (others_are_any s ins f) h.1)
of_row any ins row f h = search rules

addend_keeps : (param : Param) (args : List Info) → IsOf kinds.Span 0 (value_of Addend param args)
addend_keeps param (z ∷ c ∷ pairs) =
    at_most_kind kinds.Span 0 126 (addend_of z c) pairs (addend_kind z c pairs)
addend_keeps param args = search rules

element_keeps : (any : Shape → Kinded) (ins : List Shape) (param : Param) (args : List Info)
    → Begins Span AreAny ins → AreOf any ins args
    → IsOf (any (Any 0)).kind (any (Any 0)).size (value_of Element param args)
element_keeps any (s ∷ ins) param (i ∷ row) f h =
    at_most_kind (any (Any 0)).kind (any (Any 0)).size 127 (element_of i) row
    (picked_kind (any (Any 0)).kind (any (Any 0)).size i (pos 1) row (of_row any ins row f.1 h.1))
element_keeps any ins param args f h = search rules

index_keeps : (param : Param) (args : List Info) → IsOf kinds.Span 0 (value_of Index param args)
index_keeps param (v ∷ i ∷ row) =
    at_most_kind kinds.Span 0 126 (index_of v i) row (found_kind v i (pos 1) row)
index_keeps param args = search rules

entry_keeps : (any : Shape → Kinded) (param : Param) (args : List Info)
    → AreOf any (Span ∷ Span ∷ Any 0 ∷ []) args
    → IsOf (any (Any 0)).kind (any (Any 0)).size (value_of Entry param args)
entry_keeps any param (i ∷ j ∷ v ∷ []) h =
    entry_kind (any (Any 0)).kind (any (Any 0)).size i j v h.1.1.0
entry_keeps any param args h = search rules

greatest_back_keeps : (param : Param) (args : List Info)
    → IsOf kinds.Span 0 (value_of GreatestBack param args)
greatest_back_keeps param (z ∷ others) = greatest_back_kind z others
greatest_back_keeps param args = search rules

least_back_keeps : (param : Param) (args : List Info)
    → IsOf kinds.Span 0 (value_of LeastBack param args)
least_back_keeps param (z ∷ others) = least_back_kind z others
least_back_keeps param args = search rules

pub row_keeps_kind : (rule : Row) (ins : List Shape) (out : Shape) (need : Need)
    → FormOf rule ins out need → KeepsKind (value_of rule) ins out need
row_keeps_kind Sum ins out need f any param args c =
    rw f.1 (at_most_kind kinds.Span 0 128 sum_of args (sum_kind args))
row_keeps_kind Addend ins out need f any param args c = rw f.1 (addend_keeps param args)
row_keeps_kind Element ins out need f any param args c =
    rw f.1 (element_keeps any ins param args f.0 c.of_kinds)
row_keeps_kind Index ins out need f any param args c = rw f.1 (index_keeps param args)
row_keeps_kind Entry ins out need f any param args c =
    rw f.1 (entry_keeps any param args (rw f.0 at c.of_kinds))
row_keeps_kind Count ins out need f any param args c =
    wide_keeps_kind wides.Count ins out need (f.0, f.1, f.2) any param args c
row_keeps_kind CountBack ins out need f any param args c =
    wide_keeps_kind wides.CountBack ins out need (f.0, f.1, f.2) any param args c
row_keeps_kind Greatest ins out need f any param args c = rw f.1 (greatest_kind args)
row_keeps_kind GreatestBack ins out need f any param args c =
    rw f.1 (greatest_back_keeps param args)
row_keeps_kind Least ins out need f any param args c = rw f.1 (least_kind args)
row_keeps_kind LeastBack ins out need f any param args c = rw f.1 (least_back_keeps param args)

-- ---- answers that hold what belongs to the arguments

addend_sounds : (any : Shape → Kinded) (ins : List Shape) (param : Param) (args : List Info)
    (points : List Point) (point : Point) → Begins Span (Begins Span AreSpans) ins
    → ArePointsOf any ins points → IsPointOf kinds.Span 0 point → EachHolds args points
    → RelatesAddend points point → Holds (value_of Addend param args) point
addend_sounds any (s ∷ t ∷ ins) param (z ∷ c ∷ pairs) (Number v ∷ Number w ∷ points) (Number x) f ps
    k e r = at_most_holds 126 (addend_of z c) pairs (Number x)
    (addend_sound any ins z c pairs points v w x f.1.1 ps.1.1 (rw f.0 at ps.0) (rw f.1.0 at ps.1.0)
    k e.0 e.1.0 e.1.1 r)
addend_sounds any ins param args points point f ps k e r = search rules

element_sounds : (any : Shape → Kinded) (ins : List Shape) (param : Param) (args : List Info)
    (points : List Point) (point : Point) → Begins Span AreAny ins → ArePointsOf any ins points
    → EachHolds args points → RelatesElement points point
    → Holds (value_of Element param args) point
element_sounds any (s ∷ ins) param (i ∷ row) (Number v ∷ points) point f ps e r =
    at_most_holds 127 (element_of i) row point
    (picked_holds i (pos 1) v row points point e.0 (rw f.0 at ps.0) e.1 r)
element_sounds any ins param args points point f ps e r = search rules

index_sounds : (any : Shape → Kinded) (ins : List Shape) (param : Param) (args : List Info)
    (points : List Point) (point : Point) → Begins (Any 0) (Begins Span AreAny) ins
    → ArePointsOf any ins points → EachHolds args points → RelatesIndex points point
    → Holds (value_of Index param args) point
index_sounds any (t ∷ s ∷ ins) param (v ∷ i ∷ row) (p ∷ Number a ∷ points) (Number b) f ps e r =
    at_most_holds 126 (index_of v i) row (Number b) (rw r.0
    (found_holds v i (pos 1) a row points p e.0 e.1.0 (rw f.1.0 at ps.1.0) e.1.1 r.1))
index_sounds any ins param args points point f ps e r = search rules

entry_sounds : (any : Shape → Kinded) (param : Param) (args : List Info) (points : List Point)
    (point : Point) → ArePointsOf any (Span ∷ Span ∷ Any 0 ∷ []) points → EachHolds args points
    → RelatesEntry points point → Holds (value_of Entry param args) point
entry_sounds any param (i ∷ j ∷ v ∷ []) (Number a ∷ Number b ∷ p ∷ []) point ps e r =
    entry_holds i j v a b p point e.0 ps.0 e.1.0 ps.1.0 e.1.1.0 r
entry_sounds any param args points point ps e r = search rules

greatest_back_sounds : (any : Shape → Kinded) (ins : List Shape) (param : Param) (args : List Info)
    (points : List Point) (point : Point) → Begins Span AreSpans ins → ArePointsOf any ins points
    → IsPointOf kinds.Span 0 point → EachHolds args points → RelatesGreatestBack points point
    → Holds (value_of GreatestBack param args) point
greatest_back_sounds any (s ∷ ins) param (z ∷ others) (Number v ∷ points) (Number x) f ps k e r =
    greatest_back_sound any ins z others points v x f.1 ps.1 (rw f.0 at ps.0) k e.0 e.1 r
greatest_back_sounds any ins param args points point f ps k e r = search rules

least_back_sounds : (any : Shape → Kinded) (ins : List Shape) (param : Param) (args : List Info)
    (points : List Point) (point : Point) → Begins Span AreSpans ins → ArePointsOf any ins points
    → IsPointOf kinds.Span 0 point → EachHolds args points → RelatesLeastBack points point
    → Holds (value_of LeastBack param args) point
least_back_sounds any (s ∷ ins) param (z ∷ others) (Number v ∷ points) (Number x) f ps k e r =
    least_back_sound any ins z others points v x f.1 ps.1 (rw f.0 at ps.0) k e.0 e.1 r
least_back_sounds any ins param args points point f ps k e r = search rules

pub row_sound : (rule : Row) (ins : List Shape) (out : Shape) (need : Need)
    → FormOf rule ins out need → IsSound (value_of rule) (Related rule) ins out need
row_sound Sum ins out need f any param args points point c ps p h r =
    at_most_holds 128 sum_of args point
    (sum_sound any ins args points point f.0 ps (rw f.1 at p) h r)
row_sound Addend ins out need f any param args points point c ps p h r =
    addend_sounds any ins param args points point f.0 ps (rw f.1 at p) h r
row_sound Element ins out need f any param args points point c ps p h r =
    element_sounds any ins param args points point f.0 ps h r
row_sound Index ins out need f any param args points point c ps p h r =
    index_sounds any ins param args points point f.0 ps h r
row_sound Entry ins out need f any param args points point c ps p h r =
    entry_sounds any param args points point (rw f.0 at ps) h r
row_sound Count ins out need f any param args points point c ps p h r =
    wide_sound wides.Count ins out need (f.0, f.1, f.2) any param args points point c ps p h r
row_sound CountBack ins out need f any param args points point c ps p h r =
    wide_sound wides.CountBack ins out need (f.0, f.1, f.2) any param args points point c ps p h r
row_sound Greatest ins out need f any param args points point c ps p h r =
    greatest_sound any ins args points point f.0 ps (rw f.1 at p) h r
row_sound GreatestBack ins out need f any param args points point c ps p h r =
    greatest_back_sounds any ins param args points point f.0 ps (rw f.1 at p) h r
row_sound Least ins out need f any param args points point c ps p h r =
    least_sound any ins args points point f.0 ps (rw f.1 at p) h r
row_sound LeastBack ins out need f any param args points point c ps p h r =
    least_back_sounds any ins param args points point f.0 ps (rw f.1 at p) h r
