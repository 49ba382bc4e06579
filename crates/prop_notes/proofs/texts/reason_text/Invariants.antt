use Rattle.std.proofs.Common.{◌≡◌, ◌++◌, string_bytes}
use Rattle.prop_texts.specs.Texts.{premises_text}
use Rattle.prop_notes.proofs.texts.reason_text.Given as goal

abbrev pub invariant-loop-premise : goal.invariant-loop-premise
invariant-loop-premise l = record {
  so_far : l.yielded ++ l.premise-iterator ≡ l.reason;
  text : string_bytes l.text ≡ premises_text l.premises l.yielded;
}
