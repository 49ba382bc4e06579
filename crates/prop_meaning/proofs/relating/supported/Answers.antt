use Rattle.std.proofs.Common.{◌∙◌, ap, sym, subst}
use Rattle.prop_sets.specs.declared.side.Side.{Side}
use Rattle.prop_meaning.specs.inner.Drafts.{IsElement, Makes, truth_kind}
use Rattle.prop_meaning.specs.inner.Relating.{any_partner, are_joined, side_kind}
use Rattle.prop_meaning.proofs.Growing.{both_ok, grown_trans, on_ok}
use Rattle.prop_meaning.proofs.RelatingLemmas.{first_there, link_grows, makes_supported}
use Rattle.prop_meaning.proofs.relating.supported.Goals as goal

pub element_at-requires-clause-there : goal.element_at-requires-clause-there
element_at-requires-clause-there g c =
    let lexicon = g.W.Words.lexicon c.args.words.now in
    subst (λ k. IsElement lexicon k c.args.i) (sym (c.side_kind.ensures ∙ ap side_kind c.first.ensures))
    (first_there lexicon c.args.made.now.items c.args.link c.args.i c.requires.link c.requires.row)

pub or_partner-requires-clause-link : goal.or_partner-requires-clause-link
or_partner-requires-clause-link g c =
    let lexicon = g.W.Words.lexicon c.args.words.now in
    let made = c.args.made.now.items in
    let first = c.element_at.new.made.items in
    let second = c.two.new.made.items in
    let third = c.one.new.made.items in
    link_grows lexicon made third c.args.link (grown_trans lexicon made first third c.in_ok-element.ensures.grown
    (grown_trans lexicon first second third c.in_ok-same.ensures.grown c.in_ok-other.ensures.grown)) c.requires.link

pub returns-clause-grown : goal.returns-clause-grown
returns-clause-grown g c =
    let lexicon = g.W.Words.lexicon c.args.words.now in
    let made = c.args.made.now.items in
    let first = c.element_at.new.made.items in
    let second = c.two.new.made.items in
    let third = c.one.new.made.items in
    let fourth = c.or_partner.new.made.items in
    on_ok c.or_partner.result _ _ c.or_partner.ensures.grown (λ grown.
    grown_trans lexicon made first fourth c.in_ok-element.ensures.grown
    (grown_trans lexicon first second fourth c.in_ok-same.ensures.grown
    (grown_trans lexicon second third fourth c.in_ok-other.ensures.grown grown)))

pub returns-clause-makes : goal.returns-clause-makes
returns-clause-makes g c = both_ok c.or_partner.result _ _ _ c.or_partner.ensures.grown c.or_partner.ensures.makes
    (λ place grown m.
    let lexicon = g.W.Words.lexicon c.args.words.now in
    let link = c.args.link in
    let fourth = c.or_partner.new.made.items in
    let all = subst (λ (s : Side). Makes lexicon fourth truth_kind
    (λ a. any_partner (are_joined link c.args.i) s.size (a c.in_ok-other.other) (a link.y)) place) c.second.ensures m in
    makes_supported lexicon link c.side_kind.result c.args.i c.in_ok-element.element c.in_ok-same.same
    c.in_ok-other.other place c.element_at.new.made.items c.two.new.made.items c.one.new.made.items fourth
    c.in_ok-element.ensures.makes c.in_ok-same.ensures.grown c.in_ok-same.ensures.makes c.in_ok-other.ensures.grown
    c.in_ok-other.ensures.makes grown all)
