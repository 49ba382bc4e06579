use Rattle.std.proofs.Common.{◌≡◌, ◌∙◌, ◌*◌, ◌-◌, ◌||◌, ℕ, ap, arith, length}
use Rattle.prop_numbers.specs.Sets.{set_of}
use Rattle.prop_numbers.specs.Words.{has_bit, numbers_from}
use Rattle.prop_numbers.proofs.WordLemmas.{refilled, increasing-numbers_from, has_bit-blank}
use Rattle.prop_numbers.proofs.PlaceLemmas.{united_from, IsForm-united_from}
use Rattle.prop_numbers.proofs.words.united.Goals as goal

-- the words as they stand after the first and after both are written
first_words : (c : goal.After-both-5-1)
    → Rattle.std.specs.List.refill (length c.in_ok-both.both.items) c.in_ok-both.both.items
    c.unite.new.words ≡ c.unite.new.words
first_words c = refilled c.in_ok-both.both.items c.unite.new.words
    (c.unite.ensures.len ∙ ap length c.deref_mut.ensures.value)

sets : (c : goal.After-both-5-1) → (p : ℕ) → set_of (numbers_from (64 * c.min-least.result) c.unite-2.new.words) p ≡
    (set_of (numbers_from (64 * c.args.first) c.args.words.now) p || set_of
    (numbers_from (64 * c.args.others_first) c.args.others.now) p)
sets c p =
    let blank = c.deref_mut.ensures.value ∙ c.in_ok-both.ensures.items_if_clones_equal (λ y e. e) in
    united_from c.min-least.result c.args.first c.args.others_first c.args.words.now c.args.others.now
    c.deref_mut.result.now c.unite.new.words c.unite-2.new.words
    (omega (arith, c.min-least.ensures)) (omega (arith, c.min-least.ensures))
    (λ q. ap (λ ws. has_bit ws q) blank ∙ has_bit-blank _ q)
    c.unite.ensures.bits
    (λ q. c.unite-2.ensures.bits q ∙ ap
    (λ ws. has_bit ws q || set_of (numbers_from (64 * (c.args.others_first - c.min-least.result)) c.args.others.now)
    q)
    (c.deref_mut-2.ensures.value ∙ first_words c)) p

both_words : (c : goal.After-both-5-1)
    → Rattle.std.specs.List.refill (length c.unite.new.words) c.unite.new.words
    c.unite-2.new.words ≡ c.unite-2.new.words
both_words c = refilled c.unite.new.words c.unite-2.new.words
    (c.unite-2.ensures.len ∙ ap length (c.deref_mut-2.ensures.value ∙ first_words c))

pub invariant_of-result : goal.invariant_of-result
invariant_of-result c =
    let req = c.requires in
    rw (first_words c, both_words c)
    (IsForm-united_from c.min-least.result c.args.first c.args.others_first c.args.words.now c.args.others.now
    c.unite-2.new.words req.form req.others_form req.some req.others
    c.min-least.ensures
    (omega (
      arith,
      c.max-end.ensures,
      c.in_ok-both.ensures.len,
      c.unite.ensures.len,
      ap length c.deref_mut.ensures.value,
      c.unite-2.ensures.len,
      ap length (c.deref_mut-2.ensures.value ∙ first_words c),
    ))
    (sets c))

pub returns-clause-has : goal.returns-clause-has
returns-clause-has c p = rw (first_words c, both_words c) (sets c p)

pub returns-clause-ordered : goal.returns-clause-ordered
returns-clause-ordered c = increasing-numbers_from _ _
