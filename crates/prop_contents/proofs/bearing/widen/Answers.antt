use Rattle.std.proofs.Common.{[], Result, Ok, Err, OnErr}
use Rattle.prop_contents.proofs.BearingLemmas.{unites_at, same_at}
use Rattle.prop_contents.proofs.Trimming.{read_there}
use Rattle.prop_contents.proofs.bearing.widen.Goals as goal

on_err : {T E X : Type 0} (r : Result T E) → X → OnErr r X
on_err (Ok a) x = tt
on_err (Err e) x = x

pub returns-clause-ok : goal.returns-clause-ok
returns-clause-ok c =
    let here = read_there c.reach.new.sets.items c.args.place _ [] c.in_ok-reach.ensures.there
    c.index_mut.ensures.value in
    unites_at c.args.sets.now.items c.reach.new.sets.items c.args.place _ _ c.args.support.now c.reach.ensures.same
    c.in_ok-reach.ensures.there here c.in_ok-unite.ensures.ok

pub returns-in_err-unite-clause-err : goal.returns-in_err-unite-clause-err
returns-in_err-unite-clause-err c =
    let here = read_there c.reach.new.sets.items c.args.place _ [] c.in_ok-reach.ensures.there
    c.index_mut.ensures.value in
    on_err _ (same_at c.args.sets.now.items c.reach.new.sets.items c.args.place _ _ c.reach.ensures.same
    c.in_ok-reach.ensures.there here c.in_err-unite.ensures.err)
