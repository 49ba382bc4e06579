use Rattle.std.proofs.Common.{◌≡◌, ◌++◌, ◌∷◌, map, take, length, codes, decimal, string_bytes}
use Rattle.std.specs.Prelude.{flat_map}
use Rattle.std.specs.List.{join_by}
use Rattle.prop_workbench.specs.Sessions.{state_of}
use Rattle.prop_seeking.specs.Texts.{Plan, cell_texts}
use Rattle.prop_seeking.specs.inner.Seekers.{plan_of}
use Rattle.prop_seeking.proofs.seeker.Seeker.listing.Given as goal

abbrev pub invariant-loop-plan : goal.invariant-loop-plan
invariant-loop-plan g l = string_bytes l.text ≡ (codes "plans " ++ decimal (length l.plans))
    ++ flat_map (λ (p : Plan). 10 ∷ join_by (λ text. text) (codes " ")
    (flat_map (cell_texts (state_of l.self.teller.session) p) l.named))
    (map plan_of (take l.plan-index l.plans))
