use Rattle.std.proofs.Common.{◌≡◌, ◌++◌, ℕ, map, take, length, string_bytes}
use Rattle.std.specs.List.{zip}
use Rattle.prop_premises.specs.Origins.{choices_of}
use Rattle.prop_premises.specs.declared.choice.Choice.{Choice}
use Rattle.prop_premises.specs.ChoiceLists.{hypothetical}
use Rattle.prop_texts.specs.inner.Listed.{label_at}
use Rattle.prop_seeking.proofs.texts.push_sides.Given as goal

abbrev pub invariant-loop-choice : goal.invariant-loop-choice
invariant-loop-choice l = map string_bytes l.lines.items ≡ map string_bytes l.initial.lines.items
    ++ map (λ (c : Choice × ℕ). label_at l.premises (hypothetical c.0 c.1))
    (take (length l.yielded) (zip (choices_of l.premises) l.sides))
