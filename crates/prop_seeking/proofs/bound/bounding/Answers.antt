use Rattle.std.proofs.Common.{rules, ◌≡◌, List, Some, refl, slice_get, subst}
use Rattle.prop_lattice.specs.declared.info.Info.{Info}
use Rattle.prop_lattice.specs.declared.info.Info.TheVariants.{Span}
use Rattle.prop_seeking.proofs.bound.bounding.Goals as goal

pub returns : goal.returns
returns c = record {
  there = (c.is_number.ensures c.if-not-is_number.false).0;
  number = (c.is_number.ensures c.if-not-is_number.false).1;
  found = c.in_ok-found.found;
  value = subst (λ (xs : List Info). slice_get xs c.in_ok-cell.cell ≡ Some (Span c.in_ok-found.found))
      c.deref.ensures.value c.in_ok-found.ensures;
  within = search rules;
  alone = c.in_ok-alone.alone;
  same = search rules;
  is = refl;
}
