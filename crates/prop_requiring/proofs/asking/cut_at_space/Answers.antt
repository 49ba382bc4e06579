use Rattle.std.proofs.Common.{◌∙◌, ◌≡◌, ℕ, arith, drop, subst, sym}
use Rattle.std.proofs.lemmas.List.{take_rest}
use Rattle.prop_requiring.proofs.AskLemmas.{NoSpaces, cut_before, cut_none}
use Rattle.prop_requiring.proofs.asking.cut_at_space.Goals as goal

pub returns-then-is_space : goal.returns-then-is_space
returns-then-is_space c =
    rw take_rest (cut_before c.args.bytes.now c.loop-k.k (omega arith) (omega arith)
    (sym c.is_space.ensures ∙ c.if-is_space.true) c.loop-k.invariant)

pub returns : goal.returns
returns c =
    let none : c.loop-k.k ≡ 0 = omega arith in
    sym (cut_none c.args.bytes.now
    (subst (λ (k : ℕ). NoSpaces (drop k c.args.bytes.now)) none c.loop-k.invariant))
