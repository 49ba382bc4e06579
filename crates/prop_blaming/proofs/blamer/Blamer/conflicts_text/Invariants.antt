use Rattle.std.proofs.Common.{◌≡◌, ◌++◌, take, length, codes, decimal, string_bytes}
use Rattle.std.specs.Prelude.{flat_map}
use Rattle.prop_blaming.specs.Texts.{conflict_text}
use Rattle.prop_blaming.proofs.blamer.Blamer.conflicts_text.Given as goal

abbrev pub invariant-loop-conflict : goal.invariant-loop-conflict
invariant-loop-conflict g l = string_bytes l.text ≡ (codes "conflicts " ++ decimal (length l.found))
    ++ flat_map (conflict_text l.self.seeker.teller.session.search.premises) (take l.conflict-index l.found)
