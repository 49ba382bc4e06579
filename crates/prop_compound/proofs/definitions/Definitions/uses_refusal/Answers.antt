use Rattle.std.proofs.Common.{length, arith}
use Rattle.std.proofs.lemmas.Bool.{le-leb, lt-leb}
use Rattle.prop_refusals.specs.Refusals.{most}
use Rattle.prop_refusals.specs.declared.refusal.Limit.TheVariants.{Definitions as TooMany}
use Rattle.prop_refusals.specs.declared.refusal.Refusal.TheVariants.{NoSuchProcedure, WrongCount, LimitReached}
use Rattle.prop_compound.proofs.Judging.{third_of_three, none_of_three}
use Rattle.prop_compound.proofs.definitions.Definitions.uses_refusal.Goals as goal

pub returns-then-len-most : goal.returns-then-len-most
returns-then-len-most c =
    third_of_three NoSuchProcedure WrongCount (LimitReached TooMany) _ _ _ c.if-is_unknown.false
    c.if-is_count_wrong.false
    (le-leb (most TooMany) (length c.args.self.now.definitions)
    (omega (arith, c.len.ensures, c.most.ensures, c.if-len-most.true)))

pub returns : goal.returns
returns c =
    none_of_three NoSuchProcedure WrongCount (LimitReached TooMany) _ _ _ c.if-is_unknown.false
    c.if-is_count_wrong.false
    (lt-leb (most TooMany) (length c.args.self.now.definitions)
    (omega (arith, c.len.ensures, c.most.ensures, c.if-len-most.false)))
