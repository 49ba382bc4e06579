use Rattle.std.proofs.Common.{◌≤◌, ◌∙◌, ◌*◌, ◌+◌, ◌-◌, ap, subst, sym, arith, length, drop, get_or}
use Rattle.std.proofs.lemmas.List.{length-drop, take_all}
use Rattle.prop_numbers.specs.Words.{numbers_from}
use Rattle.prop_numbers.specs.inner.Words.{IsTrimmed}
use Rattle.prop_numbers.proofs.PlaceLemmas.{same_bits_from, dropped_from, IsTrimmed-drop}
use Rattle.prop_numbers.proofs.WordLemmas.{increasing-numbers_from}
use Rattle.prop_numbers.proofs.words.tight.Goals as goal

pub returns-then-blanks-eq0-clause-same : goal.returns-then-blanks-eq0-clause-same
returns-then-blanks-eq0-clause-same c =
    same_bits_from (64 * c.args.first) c.trim.new.words.items c.args.words.items c.trim.ensures.bits

pub returns-then-blanks-eq0-clause-ordered : goal.returns-then-blanks-eq0-clause-ordered
returns-then-blanks-eq0-clause-ordered c = increasing-numbers_from _ _

pub invariant_of-result-2 : goal.invariant_of-result-2
invariant_of-result-2 c =
    let blanks = c.leading-blanks.result in
    let read = c.deref-2.result.now in
    let kept = c.in_ok-kept.ensures.ok ∙ take_all (length read - blanks) (drop blanks read)
    (omega (arith, length-drop blanks read))
    ∙ ap (drop blanks) c.deref-2.ensures in
    let within : blanks ≤ length c.trim.new.words.items =
    omega (arith, c.leading-blanks.ensures.within, ap length c.deref.ensures) in
    record {
      trimmed = subst IsTrimmed (sym kept) (IsTrimmed-drop blanks c.trim.new.words.items within c.trim.ensures.trimmed);
      in_range = omega (
        arith,
        ap length kept,
        length-drop blanks c.trim.new.words.items,
        within,
        c.trim.ensures.len,
        c.requires,
      );
    }

pub returns-clause-same : goal.returns-clause-same
returns-clause-same c =
    let blanks = c.leading-blanks.result in
    let read = c.deref-2.result.now in
    let kept = c.in_ok-kept.ensures.ok ∙ take_all (length read - blanks) (drop blanks read)
    (omega (arith, length-drop blanks read))
    ∙ ap (drop blanks) c.deref-2.ensures in
    let words = c.deref.ensures in
    ap (λ ws. numbers_from (64 * (c.args.first + blanks)) ws) kept
    ∙ dropped_from c.args.first blanks c.trim.new.words.items
    (λ k l. ap (λ ws. get_or ws k 0) (sym words) ∙ c.leading-blanks.ensures.blank k l)
    ∙ same_bits_from (64 * c.args.first) c.trim.new.words.items c.args.words.items c.trim.ensures.bits

pub returns-clause-ordered : goal.returns-clause-ordered
returns-clause-ordered c = increasing-numbers_from _ _
