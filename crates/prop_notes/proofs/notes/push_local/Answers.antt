use Rattle.std.proofs.Common.{arith, map, string_bytes, [], ◌∷◌}
use Rattle.std.proofs.lemmas.List.{length-map}
use Rattle.prop_notes.proofs.NoteLemmas.{adds_full}
use Rattle.prop_notes.proofs.notes.push_local.Goals as goal

pub returns-else-len-lt-MOST_PATHS : goal.returns-else-len-lt-MOST_PATHS
returns-else-len-lt-MOST_PATHS c =
    let many = length-map c.args.locals.now.items string_bytes in
    adds_full (map string_bytes c.args.locals.now.items) (string_bytes c.args.path ∷ [])
    (omega (arith, c.requires.few, many)) (omega (arith, c.if-len-lt-MOST_PATHS.false, c.len.ensures, many))
