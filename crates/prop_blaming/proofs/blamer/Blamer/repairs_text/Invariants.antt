use Rattle.std.proofs.Common.{◌≡◌, ◌++◌, take, length, codes, decimal, string_bytes}
use Rattle.std.specs.Prelude.{flat_map}
use Rattle.prop_blaming.specs.Texts.{repair_text}
use Rattle.prop_blaming.proofs.blamer.Blamer.repairs_text.Given as goal

abbrev pub invariant-loop-out : goal.invariant-loop-out
invariant-loop-out g l = string_bytes l.text ≡ (codes "repairs " ++ decimal (length l.found))
    ++ flat_map (repair_text l.self.seeker.teller.session.search.premises) (take l.out-index l.found)
