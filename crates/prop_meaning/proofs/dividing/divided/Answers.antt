use Rattle.prop_meaning.specs.inner.Drafts.{number_kind}
use Rattle.prop_meaning.specs.inner.Steps.{quotient_point}
use Rattle.prop_meaning.proofs.DividingLemmas.{leaves_there, makes_remainder}
use Rattle.prop_meaning.proofs.Growing.{grown_trans, has_grows, makes_grows}
use Rattle.prop_meaning.proofs.dividing.divided.Goals as goal

pub left-requires-clause-left : goal.left-requires-clause-left
left-requires-clause-left g c =
    let lexicon = g.W.Words.lexicon c.args.words.now in
    let old = c.args.made.now.items in
    let first = c.quotient.new.made.items in
    let grows = c.in_ok-quotient.ensures.grown.grows in
    leaves_there lexicon first c.multiple.new.made.items c.args.x c.args.y
    c.in_ok-quotient.quotient c.in_ok-p.p (has_grows lexicon old first c.args.x number_kind grows c.requires.first)
    (has_grows lexicon old first c.args.y number_kind grows c.requires.second) c.in_ok-quotient.ensures.makes
    c.in_ok-p.ensures.grown c.in_ok-p.ensures.makes

pub returns-clause-remainder : goal.returns-clause-remainder
returns-clause-remainder g c =
    let lexicon = g.W.Words.lexicon c.args.words.now in
    let old = c.args.made.now.items in
    let first = c.quotient.new.made.items in
    let grows = c.in_ok-quotient.ensures.grown.grows in
    makes_remainder lexicon first c.multiple.new.made.items c.left.new.made.items c.args.x c.args.y
    c.in_ok-quotient.quotient c.in_ok-p.p c.in_ok-remainder.remainder
    (has_grows lexicon old first c.args.x number_kind grows c.requires.first)
    (has_grows lexicon old first c.args.y number_kind grows c.requires.second) c.in_ok-quotient.ensures.makes
    c.in_ok-p.ensures.grown c.in_ok-p.ensures.makes c.in_ok-remainder.ensures.grown c.in_ok-remainder.ensures.makes

pub left-requires-clause-first : goal.left-requires-clause-first
left-requires-clause-first g c =
    let lexicon = g.W.Words.lexicon c.args.words.now in
    let first = c.quotient.new.made.items in
    has_grows lexicon first c.multiple.new.made.items c.args.x number_kind c.in_ok-p.ensures.grown.grows
    (has_grows lexicon c.args.made.now.items first c.args.x number_kind c.in_ok-quotient.ensures.grown.grows
    c.requires.first)

pub left-requires-clause-second : goal.left-requires-clause-second
left-requires-clause-second g c =
    let lexicon = g.W.Words.lexicon c.args.words.now in
    let first = c.quotient.new.made.items in
    has_grows lexicon first c.multiple.new.made.items c.args.y number_kind c.in_ok-p.ensures.grown.grows
    (has_grows lexicon c.args.made.now.items first c.args.y number_kind c.in_ok-quotient.ensures.grown.grows
    c.requires.second)

pub returns-clause-quotient : goal.returns-clause-quotient
returns-clause-quotient g c =
    let lexicon = g.W.Words.lexicon c.args.words.now in
    let first = c.quotient.new.made.items in
    let second = c.multiple.new.made.items in
    let third = c.left.new.made.items in
    makes_grows lexicon first third number_kind (λ a. quotient_point (a c.args.x) (a c.args.y))
    c.in_ok-quotient.quotient
    (grown_trans lexicon first second third c.in_ok-p.ensures.grown c.in_ok-remainder.ensures.grown)
    c.in_ok-quotient.ensures.makes
