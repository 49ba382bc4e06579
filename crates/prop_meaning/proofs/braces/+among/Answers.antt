use Rattle.std.proofs.Common.{◌≡◌, ◌∙◌, ap, sym, subst}
use Rattle.prop_terms.specs.Meaning.{labels}
use Rattle.prop_terms.specs.Terms.{Two, term_of}
use Rattle.prop_meaning.specs.inner.Drafts.{Makes, truth_kind}
use Rattle.prop_meaning.specs.inner.Lists.{is_among}
use Rattle.prop_meaning.specs.inner.Steps.{truth_point}
use Rattle.prop_meaning.proofs.BraceLemmas.{makes_among}
use Rattle.prop_meaning.proofs.Growing.{grown_trans}
use Rattle.prop_meaning.proofs.braces.+among.Goals as goal

pub returns-in-Ok-clause-grown : goal.returns-in-Ok-clause-grown
returns-in-Ok-clause-grown g t c =
    let lexicon = g.W.Words.lexicon c.args.words.now in
    let first = c.among.new.made.items in
    let third = c.two.new.made.items in
    grown_trans lexicon c.args.made.now.items first third c.in_ok-t.ensures.grown
    (grown_trans lexicon first c.is_labelled-2.new.made.items third c.in_ok-u.ensures.grown c.in-Ok.ensures.grown)

pub returns-in-Ok-clause-makes : goal.returns-in-Ok-clause-makes
returns-in-Ok-clause-makes g t c =
    let lexicon = g.W.Words.lexicon c.args.words.now in
    let outer = c.in-Two in
    let others = term_of c.deref.result.now in
    let last = term_of c.deref-2.result.now in
    let third = c.two.new.made.items in
    let whole : term_of c.args.list.now ≡ Two outer.op others last = ap term_of outer.is
    ∙ (ap (λ u. Two outer.op (term_of u) (term_of outer.last.value)) (sym c.deref.ensures)
    ∙ ap (λ u. Two outer.op others (term_of u)) (sym c.deref-2.ensures)) in
    subst (λ u. Makes lexicon third truth_kind
    (λ a. truth_point (is_among lexicon c.args.kinded (a c.args.x) (labels u))) c.in-Ok.place) (sym whole)
    (makes_among lexicon c.args.kinded outer.op others last c.args.x c.in_ok-t.t c.in_ok-u.u c.in-Ok.place
    c.among.new.made.items c.is_labelled-2.new.made.items third
    (c.is_beside.ensures c.if-not-is_beside.false) c.in_ok-t.ensures.makes c.in_ok-u.ensures.grown
    c.in_ok-u.ensures.alone c.in-Ok.ensures.grown c.in-Ok.ensures.makes)
