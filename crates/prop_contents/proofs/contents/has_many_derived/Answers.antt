use Rattle.std.proofs.Common.{not, arith}
use Rattle.std.proofs.lemmas.Bool.{ltb-true}
use Rattle.prop_numbers.specs.Sets.{set_of, is_at_most_one_of}
use Rattle.prop_tms.proofs.ValueLemmas.{filter_length}
use Rattle.prop_contents.specs.Contents.{Entry}
use Rattle.prop_contents.proofs.contents.has_many_derived.Goals as goal

pub returns-else-len-gt-MOST_DERIVED : goal.returns-else-len-gt-MOST_DERIVED
returns-else-len-gt-MOST_DERIVED c =
    let kept = filter_length (λ (e : Entry). not (is_at_most_one_of (set_of c.args.told.now) e.support))
    c.args.content.now in
    record {
      few = λ _. omega (arith, kept, c.len.ensures, c.if-len-gt-MOST_DERIVED.false);
      many = λ t. let l = ltb-true _ _ t in absurd (omega (arith, l, c.if-len-gt-MOST_DERIVED.false));
    }
