-- Replies that are refused, and others.
use Rattle.std.proofs.Common.{◌≡◌, ℕ, true, false, List}
use Rattle.prop_refusals.specs.declared.refusal.Refusal.TheVariants.{Memory}
use Rattle.prop_engine.specs.Answers.{Answer, Silent, Done, Text, Refused, is_refusal}

pub text_kept : (answer : Answer) (text : List ℕ) → answer ≡ Text text → is_refusal answer ≡ true → ⊥
text_kept Silent text e h = cc
text_kept Done text e h = cc
text_kept (Text other) text e h = cc
text_kept (Refused refusal) text e h = cc

pub memory_refused : (answer : Answer) → answer ≡ Refused Memory → is_refusal answer ≡ false → ⊥
memory_refused Silent e h = cc
memory_refused Done e h = cc
memory_refused (Text other) e h = cc
memory_refused (Refused refusal) e h = cc
