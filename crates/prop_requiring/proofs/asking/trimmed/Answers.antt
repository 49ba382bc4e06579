use Rattle.std.proofs.Common.{◌∙◌, ◌≡◌, ℕ, arith, drop, subst, sym}
use Rattle.prop_requiring.specs.Asking.{AreSpaces}
use Rattle.prop_requiring.proofs.AskLemmas.{trimmed_before, trimmed_spaces}
use Rattle.prop_requiring.proofs.asking.trimmed.Goals as goal

pub returns-then-not-is_space : goal.returns-then-not-is_space
returns-then-not-is_space c =
    trimmed_before c.args.bytes.now c.loop-k.k (omega arith) (omega arith)
    (sym c.is_space.ensures ∙ c.if-not-is_space.true) c.loop-k.invariant

pub returns : goal.returns
returns c =
    let none : c.loop-k.k ≡ 0 = omega arith in
    sym (trimmed_spaces c.args.bytes.now
    (subst (λ (k : ℕ). AreSpaces (drop k c.args.bytes.now)) none c.loop-k.invariant))
