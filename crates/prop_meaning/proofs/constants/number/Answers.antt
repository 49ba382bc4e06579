use Rattle.std.proofs.Common.{◌≡◌, IfOk, arith, subst, to_z, of_z}
use Rattle.std.specs.Int.{w64}
use Rattle.std.proofs.lemmas.Int.{ints}
use Rattle.prop_lattice.specs.Points.{Number}
use Rattle.prop_meaning.specs.inner.Drafts.{Makes, number_kind}
use Rattle.prop_meaning.proofs.constants.number.Goals as goal

pub returns-clause-makes : goal.returns-clause-makes
returns-clause-makes g c =
    let same : to_z w64 (of_z w64 c.args.z) ≡ c.args.z = omega (arith, ints) in
    subst (λ z. IfOk c.placed.result
    (Makes (g.W.Words.lexicon c.args.words.now) c.placed.new.made.items number_kind
    (λ a. Number z)))
    same c.placed.ensures.makes
