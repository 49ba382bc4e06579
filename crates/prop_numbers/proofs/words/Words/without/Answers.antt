use Rattle.std.proofs.Common.{◌≡◌, ◌∙◌, ◌*◌, ◌-◌, ◌&&◌, ◌==◌, not, ℕ, ap, arith, length}
use Rattle.prop_numbers.specs.Sets.{set_of}
use Rattle.prop_numbers.specs.Words.{has_bit, numbers_from}
use Rattle.prop_numbers.proofs.PlaceLemmas.{cleared_from, not_there_from}
use Rattle.prop_numbers.proofs.WordLemmas.{if_ok, refilled}
use Rattle.prop_numbers.proofs.words.Words.without.Goals as goal
use Rattle.prop_numbers.proofs.words.Words.without.Goals.{then-from-start, else-from-start}

left : (c : goal.After-tight) → (p : ℕ)
    → set_of (numbers_from (64 * c.self.inside.first) c.if-from-start.words.items) p ≡
    (set_of (numbers_from (64 * c.self.inside.first) c.self.inside.words.items) p && not (c.args.number == p))
left c p =
    let first = c.self.inside.first in
    let words = c.in_ok-words.ensures.ok ∙ c.deref.ensures in
    elim c.if-from-start.branch [
      | then-from-start w ↦ ap (λ ws. set_of (numbers_from (64 * first) ws) p) (ap (λ ws. ws.items) w.words-is
          ∙ refilled c.in_ok-words.words.items w.clear.new.words
          (w.clear.ensures.len ∙ ap length w.deref_mut.ensures.value))
          ∙ cleared_from first c.args.number c.self.inside.words.items w.clear.new.words
          (omega (arith, w.if-from-start.true, c.from.ensures))
          (λ q. w.clear.ensures.bits q ∙ ap (λ ws. has_bit ws q && not (c.args.number - 64 * first == q))
          (w.deref_mut.ensures.value ∙ words)) p
      | else-from-start w ↦ ap (λ ws. set_of (numbers_from (64 * first) ws) p) (ap (λ ws. ws.items) w.words-is ∙ words)
          ∙ not_there_from first c.args.number c.self.inside.words.items
          (omega (arith, w.if-from-start.false, c.from.ensures)) p
    ]

pub returns-clause-has : goal.returns-clause-has
returns-clause-has c =
    rw (← c.self.view_is) (if_ok c.tight.result (λ w same p. ap (λ ns. set_of ns p) same ∙ left c p)
    c.tight.ensures.same)
