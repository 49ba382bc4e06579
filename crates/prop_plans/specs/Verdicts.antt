-- What the verdict of a check says.
use Rattle.std.specs.Prelude.{◌≡◌, ◌⊎◌, ◌+◌, ℕ, ⊤}
use Rattle.prop_plans.specs.declared.check.Verdict.{Verdict}
use Rattle.prop_plans.specs.declared.check.Verdict.TheVariants.{Yes, No, Cut}

-- what the verdict says of P: that it is so, that it is not so, or nothing where that is open
abbrev pub Judges : Verdict → Type 0 → Type 0
Judges Yes P = P
Judges No P = ¬ P
Judges Cut P = ⊤

-- P, where the verdict is that it is so
abbrev pub IfYes : Verdict → Type 0 → Type 0
IfYes Yes P = P
IfYes No P = ⊤
IfYes Cut P = ⊤

-- P, where the verdict leaves it open
abbrev pub IfCut : Verdict → Type 0 → Type 0
IfCut Yes P = ⊤
IfCut No P = ⊤
IfCut Cut P = P

-- So many instances were called, and how many are known to be met rose from `before` to `now`. Each
-- call adds one. Where the verdict is `No`, nothing was called, or the last call was of an instance
-- that is not met.
abbrev pub AreCalls : Verdict → ℕ → ℕ → ℕ → Type 0
AreCalls Yes before now calls = now ≡ before + calls
AreCalls No before now calls = ((calls ≡ 0) × (now ≡ before)) ⊎ (now + 1 ≡ before + calls)
AreCalls Cut before now calls = now ≡ before + calls
