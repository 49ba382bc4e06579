use Rattle.std.proofs.Common.{refl}
use Rattle.prop_numbers.proofs.OneLemmas.{one_bits}
use Rattle.prop_numbers.proofs.one_word.OneWord.word_at.Goals as goal

pub returns-then-place-self : goal.returns-then-place-self
returns-then-place-self c i l =
    one_bits c.args.self.place c.args.self.word c.args.place c.args.self.word i (λ _. refl)
    (λ other. absurd (other c.if-place-self.true)) l

pub returns-else-place-self : goal.returns-else-place-self
returns-else-place-self c i l =
    one_bits c.args.self.place c.args.self.word c.args.place 0 i (λ here. absurd (c.if-place-self.false here))
    (λ _. refl) l
