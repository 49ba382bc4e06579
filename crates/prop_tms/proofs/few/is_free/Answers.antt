use Rattle.std.proofs.Common.{◌≡◌, Bool, true, false, List, ℕ, [], ◌∷◌, refl}
use Rattle.prop_numbers.specs.Sets.{is_within}
use Rattle.prop_tms.specs.inner.Gains.{nobody}
use Rattle.prop_tms.proofs.few.is_free.Goals as goal

tells : (b : Bool) (ps : List ℕ) → (b ≡ true → ps ≡ []) → (ps ≡ [] → b ≡ true) → b ≡ is_within nobody ps
tells true [] h k = refl
tells true (p ∷ ps) h k = absurd (cc (h refl))
tells false [] h k = k refl
tells false (p ∷ ps) h k = refl

pub returns : goal.returns
returns c = tells c.is_empty.result c.args.support.now c.is_empty.ensures.0 c.is_empty.ensures.1
