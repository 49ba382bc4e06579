use Rattle.std.proofs.Common.{true, false, refl, subst}
use Rattle.prop_sets.specs.declared.side.Side.{Side}
use Rattle.prop_meaning.specs.declared.relating.Link.{Link}
use Rattle.prop_meaning.specs.inner.Drafts.{Makes, truth_kind}
use Rattle.prop_meaning.specs.inner.Relating.{all_supported, side_kind}
use Rattle.prop_meaning.proofs.Growing.{both_ok, grown_trans, has_grows, on_ok}
use Rattle.prop_meaning.proofs.RelatingLemmas.{makes_related}
use Rattle.prop_meaning.proofs.relating.related.Goals as goal

pub returns-clause-grown : goal.returns-clause-grown
returns-clause-grown g c =
    let lexicon = g.W.Words.lexicon c.args.words.now in
    let first = c.element_at.new.made.items in
    let second = c.and_supported.new.made.items in
    let third = c.and_supported-2.new.made.items in
    on_ok c.and_supported-2.result _ _ c.and_supported-2.ensures.grown (λ grown.
    grown_trans lexicon c.args.made.now.items first third c.in_ok-yes.ensures.grown
    (grown_trans lexicon first second third c.in_ok-before.ensures.grown grown))

pub returns-clause-makes : goal.returns-clause-makes
returns-clause-makes g c =
    both_ok c.and_supported-2.result _ _ _ c.and_supported-2.ensures.grown c.and_supported-2.ensures.makes
    (λ place grown m.
    let lexicon = g.W.Words.lexicon c.args.words.now in
    let made = c.args.made.now.items in
    let first = c.element_at.new.made.items in
    let second = c.and_supported.new.made.items in
    let third = c.and_supported-2.new.made.items in
    let r = c.args.relation.now in
    let x = c.args.x in
    let y = c.args.y in
    let yes = c.in_ok-yes.yes in
    let forth : Link = record { relation = c.args.relation; turned = false; x = x; y = y } in
    let back : Link = record { relation = c.args.relation; turned = true; x = y; y = x } in
    let grows = c.in_ok-yes.ensures.grown.grows in
    let before = subst (λ (s : Side). Makes lexicon second truth_kind
    (λ a. all_supported forth s.size (a yes) (a x) (a y)) c.in_ok-before.before) c.from.ensures.from
    c.in_ok-before.ensures.makes in
    let all = subst (λ (s : Side). Makes lexicon third truth_kind
    (λ a. all_supported back s.size (a c.in_ok-before.before) (a y) (a x)) place) c.to.ensures m in
    makes_related lexicon forth back r yes c.in_ok-before.before place first second third refl refl refl refl refl refl
    (has_grows lexicon made first x (side_kind r.from) grows c.requires.first)
    (has_grows lexicon made first y (side_kind r.to) grows c.requires.second)
    c.in_ok-yes.ensures.makes c.in_ok-before.ensures.grown before grown all)
