use Rattle.std.proofs.Common.{◌∙◌, ap, sym}
use Rattle.prop_trail.specs.Windows.{Ruled}
use Rattle.prop_trail.proofs.WordLaws.{cat_zero}
use Rattle.prop_trail.proofs.window.Window.is_clean.Goals as goal

pub returns : goal.returns
returns c = λ clean.
    sym (ap (λ (w : Ruled). w.bits) c.self.view_is) ∙ cat_zero c.self.inside.out (c.are_zero.ensures.0 clean)
