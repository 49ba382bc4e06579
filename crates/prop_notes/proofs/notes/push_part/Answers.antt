use Rattle.std.proofs.Common.{arith, [], ◌∷◌}
use Rattle.prop_notes.proofs.NoteLemmas.{adds_full}
use Rattle.prop_notes.proofs.notes.push_part.Goals as goal

pub returns-else-len-lt-MOST_PATHS : goal.returns-else-len-lt-MOST_PATHS
returns-else-len-lt-MOST_PATHS c =
    adds_full c.args.parts.now.items (c.args.part ∷ []) (omega (arith, c.requires.few))
    (omega (arith, c.if-len-lt-MOST_PATHS.false, c.len.ensures))
