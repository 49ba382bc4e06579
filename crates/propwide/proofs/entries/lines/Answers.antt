use Rattle.std.proofs.Common.{refl}
use Rattle.propwide.proofs.Making.{joined}
use Rattle.propwide.proofs.entries.lines.Goals as goal

pub returns : goal.returns
returns c = joined _ _ _ _ _ _ _ _ _ _ _ _ _ _ _ _ _ _ _ c.new-all.ensures.items
    c.in_ok-extend_from_slice.ensures.items c.in_ok-extend_from_slice-2.ensures.items
    c.in_ok-extend_from_slice-3.ensures.items c.in_ok-extend_from_slice-4.ensures.items
    c.in_ok-extend_from_slice-5.ensures.items c.in_ok-extend_from_slice-6.ensures.items refl refl refl refl refl refl
