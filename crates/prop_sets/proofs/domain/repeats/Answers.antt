use Rattle.std.proofs.Common.{◌∙◌, sym, ap, bytes_eq, get_or}
use Rattle.std.specs.List.{list_any}
use Rattle.std.proofs.lemmas.Bool.{not-true, not-false}
use Rattle.prop_sets.proofs.NameLemmas.{repeats_at, no_repeat_yet, kept_next}
use Rattle.prop_sets.proofs.domain.repeats.Goals as goal

pub returns-then-not-branch : goal.returns-then-not-branch
returns-then-not-branch c =
    let names = c.args.names.now in
    let i = c.loop-name.name-index in
    let among = not-false _ (sym c.in_ok-insert.ensures.added ∙ c.if-not-branch.true) in
    sym (repeats_at names i _ c.loop-name-test.true
    (ap (list_any (λ other. bytes_eq (get_or names i _).now other.now)) (sym c.loop-name.invariant.kept) ∙ among))

pub loop-name-preserved : goal.loop-name-preserved
loop-name-preserved c =
    let names = c.args.names.now in
    let i = c.loop-name.name-index in
    let kept = c.loop-name.invariant.kept in
    let absent = not-true _ (sym c.in_ok-insert.ensures.added ∙ c.if-not-branch.false) in record {
      kept = kept_next names c.loop-name.before.keys c.insert.new.self.keys i _ _ c.loop-name-test.true kept
          c.in_ok-insert.ensures.keys absent;
      apart = no_repeat_yet names i _ c.loop-name-test.true c.loop-name.invariant.apart
          (ap (list_any (λ other. bytes_eq (get_or names i _).now other.now)) (sym kept) ∙ absent);
    }
