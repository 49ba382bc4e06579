use Rattle.std.proofs.Common.{rules}
use Rattle.prop_language.proofs.Digits.{natural_from}
use Rattle.prop_language.proofs.numbers.natural_in.Goals as goal

pub returns-in-Some-eq0 : goal.returns-in-Some-eq0
returns-in-Some-eq0 c = natural_from _ c.args.high c.args.word.now (search rules)

pub returns-in_default-unsigned : goal.returns-in_default-unsigned
returns-in_default-unsigned c = natural_from _ c.args.high c.args.word.now (search rules)

pub returns-in_default-unsigned-3 : goal.returns-in_default-unsigned-3
returns-in_default-unsigned-3 c = natural_from _ c.args.high c.args.word.now (search rules)

pub returns-in-Some : goal.returns-in-Some
returns-in-Some c = natural_from _ c.args.high c.args.word.now (search rules)

pub returns-in_default-unsigned-2 : goal.returns-in_default-unsigned-2
returns-in_default-unsigned-2 c = natural_from _ c.args.high c.args.word.now (search rules)

pub returns-in_default-unsigned-2-2 : goal.returns-in_default-unsigned-2-2
returns-in_default-unsigned-2-2 c = natural_from _ c.args.high c.args.word.now (search rules)
