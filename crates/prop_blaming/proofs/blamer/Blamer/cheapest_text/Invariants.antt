use Rattle.std.proofs.Common.{◌≡◌, ◌++◌, take, length, codes, decimal, string_bytes}
use Rattle.std.specs.Prelude.{flat_map}
use Rattle.prop_blaming.specs.Texts.{costed_text}
use Rattle.prop_blaming.proofs.blamer.Blamer.cheapest_text.Given as goal

abbrev pub invariant-loop-out : goal.invariant-loop-out
invariant-loop-out g l = string_bytes l.text ≡ (codes "repairs " ++ decimal (length l.found))
    ++ flat_map (costed_text l.self.seeker.teller.session.search.premises l.weights) (take l.out-index l.found)
