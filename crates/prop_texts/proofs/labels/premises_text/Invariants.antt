use Rattle.std.proofs.Common.{◌≡◌, ◌<◌, ◌++◌, length, string_bytes}
use Rattle.std.specs.List.{AllByRecursion}
use Rattle.prop_texts.specs.Texts.{premises_text}
use Rattle.prop_texts.proofs.labels.premises_text.Given as goal

abbrev pub invariant-loop-premise : goal.invariant-loop-premise
invariant-loop-premise l = record {
  so_far : l.yielded ++ l.premise-iterator ≡ l.set;
  text : string_bytes l.text ≡ premises_text l.premises l.yielded;
  known : AllByRecursion (λ p. p < length l.premises) l.premise-iterator;
}
