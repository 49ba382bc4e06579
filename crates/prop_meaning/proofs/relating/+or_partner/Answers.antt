use Rattle.std.proofs.Common.{◌≡◌, ◌∙◌, ◌-◌, ◌<◌, suc, refl, ap, sym, subst, arith}
use Rattle.prop_meaning.specs.inner.Drafts.{Has, IsElement, truth_kind}
use Rattle.prop_meaning.specs.inner.Relating.{are_joined, second_side, side_kind}
use Rattle.prop_meaning.proofs.Growing.{both_ok, grown_trans, has_grows, on_ok}
use Rattle.prop_meaning.proofs.RelatingLemmas.{partner_less, partner_more, second_there}
use Rattle.prop_meaning.proofs.relating.+or_partner.Goals as goal

pub returns-then-not-joins-clause-makes : goal.returns-then-not-joins-clause-makes
returns-then-not-joins-clause-makes g t c =
    let lexicon = g.W.Words.lexicon c.args.words.now in
    let j = c.args.count - 1 in
    let is : c.args.count ≡ suc j = omega (arith, c.if-count-eq0.false) in
    partner_less lexicon (are_joined c.args.link c.args.row.element) j c.args.count c.args.row.other c.args.link.y
    c.in_ok-before.before c.or_partner.new.made.items is (sym c.joins.ensures ∙ c.if-not-joins.true)
    c.in_ok-before.ensures.makes

pub element_at-requires-clause-there : goal.element_at-requires-clause-there
element_at-requires-clause-there g t c =
    let lexicon = g.W.Words.lexicon c.args.words.now in
    let link = c.args.link in
    let j = c.args.count - 1 in
    let below : j < (second_side link).size = omega (arith, c.if-count-eq0.false, c.requires.few) in
    subst (λ k. IsElement lexicon k j) (sym (c.side_kind.ensures ∙ ap side_kind c.second.ensures))
    (second_there lexicon c.args.made.now.items link j c.requires.link below)

pub two-requires-clause-suits : goal.two-requires-clause-suits
two-requires-clause-suits g t c =
    let lexicon = g.W.Words.lexicon c.args.words.now in
    let link = c.args.link in
    let first = c.or_partner.new.made.items in
    let second = c.element_at.new.made.items in
    let there = has_grows lexicon first second link.y (side_kind (second_side link))
    c.in_ok-partner.ensures.grown.grows
    (has_grows lexicon c.args.made.now.items first link.y (side_kind (second_side link))
    c.in_ok-before.ensures.grown.grows c.requires.link.second) in (
      c.side_kind.result,
      tt,
      subst (λ k. Has lexicon second link.y k) (sym (c.side_kind.ensures ∙ ap side_kind c.second.ensures)) there,
      c.in_ok-partner.ensures.makes.has,
    )

pub two-requires-2-clause-suits : goal.two-requires-2-clause-suits
two-requires-2-clause-suits g t c =
    let lexicon = g.W.Words.lexicon c.args.words.now in
    let second = c.element_at.new.made.items in (
      truth_kind,
      refl,
      has_grows lexicon second c.two.new.made.items c.in_ok-before.before truth_kind c.in_ok-same.ensures.grown.grows
          (has_grows lexicon c.or_partner.new.made.items second c.in_ok-before.before truth_kind
          c.in_ok-partner.ensures.grown.grows c.in_ok-before.ensures.makes.has),
      c.in_ok-same.ensures.makes.has,
    )

pub returns-clause-grown : goal.returns-clause-grown
returns-clause-grown g t c =
    let lexicon = g.W.Words.lexicon c.args.words.now in
    let made = c.args.made.now.items in
    let first = c.or_partner.new.made.items in
    let second = c.element_at.new.made.items in
    let third = c.two.new.made.items in
    let fourth = c.two-2.new.made.items in
    on_ok c.two-2.result _ _ c.two-2.ensures.grown (λ grown.
    grown_trans lexicon made first fourth c.in_ok-before.ensures.grown
    (grown_trans lexicon first second fourth c.in_ok-partner.ensures.grown
    (grown_trans lexicon second third fourth c.in_ok-same.ensures.grown grown)))

pub returns-clause-makes : goal.returns-clause-makes
returns-clause-makes g t c = both_ok c.two-2.result _ _ _ c.two-2.ensures.grown c.two-2.ensures.makes
    (λ place grown m.
    let lexicon = g.W.Words.lexicon c.args.words.now in
    let j = c.args.count - 1 in
    let is : c.args.count ≡ suc j = omega (arith, c.if-count-eq0.false) in
    partner_more lexicon c.side_kind.result (are_joined c.args.link c.args.row.element) j c.args.count c.args.row.other
    c.args.link.y c.in_ok-before.before c.in_ok-partner.partner c.in_ok-same.same place c.or_partner.new.made.items
    c.element_at.new.made.items c.two.new.made.items c.two-2.new.made.items is
    (sym c.joins.ensures ∙ c.if-not-joins.false) c.in_ok-before.ensures.makes c.in_ok-partner.ensures.grown
    c.in_ok-partner.ensures.makes c.in_ok-same.ensures.grown c.in_ok-same.ensures.makes grown m)
