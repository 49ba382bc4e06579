use Rattle.std.proofs.Common.{◌≡◌, ◌≤◌, ◌+◌, ◌-◌, ◌∙◌, ◌*◌, ◌||◌, ◌==◌, ℕ, ap, sym, arith, length}
use Rattle.prop_numbers.specs.Sets.{set_of}
use Rattle.prop_numbers.specs.Words.{has_bit, numbers_from}
use Rattle.prop_numbers.proofs.WordLemmas.{or_none, refilled}
use Rattle.prop_numbers.proofs.PlaceLemmas.{added_from, IsForm-added_from, numbers_from-push}
use Rattle.prop_numbers.proofs.words.Words.insert.Goals as goal

-- the numbers of the words that are written
written : (c : goal.After-self-3-1) → (p : ℕ)
    → set_of (numbers_from (64 * c.in_ok-self-inside.field-0) c.set_bit.new.words) p
    ≡ (set_of (numbers_from (64 * c.start-first.result) c.self.inside.words.items) p || (c.args.number == p))
written c p =
    let first = c.in_ok-self-inside.field-0 in
    let reached = c.in_ok-self-inside.ensures in
    added_from first c.args.number c.reach.new.words.items c.set_bit.new.words
    (omega (arith, reached.first, c.place_of-place.ensures))
    (λ q. c.set_bit.ensures.bits q ∙ ap (λ ws. has_bit ws q || (c.args.number - 64 * first == q))
    c.deref_mut.ensures.value) p
    ∙ ap (λ ns. set_of ns p || (c.args.number == p)) reached.numbers

-- the numbers of the words before
same : (c : goal.After-self-3-1) → numbers_from (64 * c.start-first.result) c.self.inside.words.items ≡ c.args.self.now
same c =
    let words = c.deref.ensures in
    ap (λ ws. numbers_from (64 * c.start-first.result) ws) (sym words) ∙ c.start-first.ensures.numbers
    ∙ ap (λ ws. numbers_from (64 * c.self.inside.first) ws) words ∙ c.self.view_is

whole : (c : goal.After-self-3-1) → length c.set_bit.new.words ≡ length c.reach.new.words.items
whole c = c.set_bit.ensures.len ∙ ap length c.deref_mut.ensures.value

pub invariant_of-self-2 : goal.invariant_of-self-2
invariant_of-self-2 c =
    let reached = c.in_ok-self-inside.ensures in
    let words = ap length c.deref.ensures in
    let start = c.start-first.ensures in
    let room : c.start-first.result + length c.self.inside.words.items ≤ 1_024 =
    omega (arith, words, start.room (omega (arith, words, c.self.invariant.in_range))) in
    rw (refilled c.reach.new.words.items c.set_bit.new.words (whole c))
    (IsForm-added_from c.start-first.result c.in_ok-self-inside.field-0 c.args.number c.self.inside.words.items
    c.set_bit.new.words
    (record { trimmed = c.self.invariant.trimmed; in_range = room }) (omega arith)
    (omega (arith, reached.first, c.place_of-place.ensures))
    (λ none. omega (arith, start.none (words ∙ none), c.place_of-place.ensures))
    (omega (arith, reached.len, whole c, c.place_of-place.ensures)) (written c))

pub returns-clause-has : goal.returns-clause-has
returns-clause-has c p =
    rw (refilled c.reach.new.words.items c.set_bit.new.words (whole c))
    (written c p ∙ ap (λ ns. set_of ns p || (c.args.number == p)) (same c)
    ∙ ap (λ b. set_of c.args.self.now p || b) (sym (or_none (c.args.number == p))))

pub returns-clause-last : goal.returns-clause-last
returns-clause-last c = λ below.
    rw (refilled c.reach.new.words.items c.set_bit.new.words (whole c))
    (rw (same c) at (numbers_from-push (64 * c.in_ok-self-inside.field-0) (64 * c.start-first.result) c.args.number
    c.self.inside.words.items c.set_bit.new.words
    (written c) (rw (same c) below)))
