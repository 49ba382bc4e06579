use Rattle.std.proofs.Common.{◌≡◌, ◌∙◌, ◌∷◌, [], Some, true, false, cond, ap, refl, sym, subst}
use Rattle.std.specs.Prelude.{option_copied}
use Rattle.std.proofs.lemmas.Result.{IfOk-weaker}
use Rattle.prop_terms.specs.Terms.{Name, Number, One, Two, Braces, term_of}
use Rattle.prop_terms.specs.declared.operators.Prefix.TheVariants.{If, Different, Element}
use Rattle.prop_terms.specs.declared.operators.Infix.TheVariants.{And, Then, Else, In, UpTo, Power, Unequal}
use Rattle.prop_terms.specs.declared.operators.Infix.TheVariants.{Colon, Comma, Semicolon}
use Rattle.prop_terms.specs.Meaning.{label}
use Rattle.prop_meaning.specs.inner.Drafts.{Makes, Shows, number_kind, truth_kind}
use Rattle.prop_meaning.specs.inner.Formulas as formulas
use Rattle.prop_meaning.specs.inner.Lists.{is_among, unequal_to, different_of}
use Rattle.prop_meaning.specs.inner.Relating.{side_kind}
use Rattle.prop_meaning.specs.inner.Steps.{truth_point}
use Rattle.prop_meaning.specs.inner.Tables.{Chooses, Finds, HasAllKeys}
use Rattle.prop_meaning.specs.declared.tables.Lookup.{Lookup}
use Rattle.prop_meaning.proofs.Different.{shows_both, shows_different, shows_itself, shows_unequal}
use Rattle.prop_meaning.proofs.Different.{unequal_alone}
use Rattle.prop_meaning.proofs.Growing.{both_ok, grown_trans, has_grows, on_ok, shows_grows}
use Rattle.prop_meaning.proofs.BraceLemmas.{shows_words}
use Rattle.prop_meaning.proofs.Lists.{is_comma, shows_alone, shows_gathered}
use Rattle.prop_meaning.proofs.PowerLemmas.{shows_power}
use Rattle.prop_meaning.proofs.RelatingLemmas.{shows_related}
use Rattle.prop_meaning.proofs.Showing.{shows_one, shows_two, shows_choice, shows_range}
use Rattle.prop_meaning.proofs.TableLemmas.{chooses_more, chooses_row, finds_more, finds_row, shows_table}
use Rattle.prop_meaning.proofs.translating.+translating.Goals as goal

pub before_one-returns-in-Ok-clause-shows : goal.before_one-returns-in-Ok-clause-shows
before_one-returns-in-Ok-clause-shows g t c =
    let lexicon = g.W.Words.lexicon c.args.words.now in
    let op = c.in-One.op in
    let under = term_of c.deref.result.now in
    let first = c.translated.new.made.items in
    let second = c.prefixed.new.made.items in
    let kind : formulas.kind_before op ≡ c.args.kinded =
    sym c.kind_before.ensures ∙ c.is_same_kind.ensures c.if-not-is_same_kind.false in
    let taken : formulas.is_taken op ≡ true = sym c.is_taken.ensures ∙ c.if-not-is_taken.false in
    let whole : term_of c.args.term.now ≡ One op under =
    ap term_of c.in-One.is ∙ ap (λ u. One op (term_of u)) (sym c.deref.ensures) in
    let shown = subst (λ k. Shows lexicon first k under c.in_ok-x.x) (sym kind) c.in_ok-x.ensures.shows in
    let all = shows_one lexicon op under c.in_ok-x.x c.in-Ok.place first second taken shown c.in-Ok.ensures.grown
    c.in-Ok.ensures.makes in
    subst (λ k. Shows lexicon second k (term_of c.args.term.now) c.in-Ok.place) kind
    (subst (λ u. Shows lexicon second (formulas.kind_before op) u c.in-Ok.place) (sym whole) all)

pub between_two-returns-in-Ok-combined-clause-shows : goal.between_two-returns-in-Ok-combined-clause-shows
between_two-returns-in-Ok-combined-clause-shows g t c =
    let lexicon = g.W.Words.lexicon c.args.words.now in
    let op = c.in-Two.op in
    let left = term_of c.deref-4.result.now in
    let right = term_of c.deref-5.result.now in
    let first = c.translated.new.made.items in
    let second = c.translated-2.new.made.items in
    let third = c.combined.new.made.items in
    let place = c.in-Ok-combined.place in
    let kind : formulas.kind_of op ≡ c.args.kinded =
    sym c.kind_of.ensures ∙ c.is_same_kind.ensures c.if-not-is_same_kind.false in
    let whole : term_of c.args.term.now ≡ Two op left right = ap term_of c.in-Two.is
    ∙ (ap (λ u. Two op (term_of u) (term_of c.in-Two.right.value)) (sym c.deref-4.ensures)
    ∙ ap (λ u. Two op left (term_of u)) (sym c.deref-5.ensures)) in
    let all = shows_two lexicon op c.in-Ok.both left right c.in_ok-x.x c.in_ok-y.y place first
    second third c.in-Ok.ensures
    c.in_ok-x.ensures.shows c.in_ok-y.ensures.grown c.in_ok-y.ensures.shows c.in-Ok-combined.ensures.grown
    c.in-Ok-combined.ensures.makes in
    subst (λ k. Shows lexicon third k (term_of c.args.term.now) place) kind
    (subst (λ u. Shows lexicon third (formulas.kind_of op) u place) (sym whole) all)

pub chosen_way-returns-in-Ok-clause-grown : goal.chosen_way-returns-in-Ok-clause-grown
chosen_way-returns-in-Ok-clause-grown g t c =
    let lexicon = g.W.Words.lexicon c.args.words.now in
    let old = c.args.made.now.items in
    let first = c.translated.new.made.items in
    let second = c.translated-2.new.made.items in
    let third = c.translated-3.new.made.items in
    let fourth = c.choice.new.made.items in
    grown_trans lexicon old first fourth c.in_ok-t.ensures.grown
    (grown_trans lexicon first second fourth c.in_ok-x.ensures.grown
    (grown_trans lexicon second third fourth c.in_ok-y.ensures.grown c.in-Ok.ensures.grown))

pub chosen_way-returns-in-Ok-clause-shows : goal.chosen_way-returns-in-Ok-clause-shows
chosen_way-returns-in-Ok-clause-shows g t c =
    let lexicon = g.W.Words.lexicon c.args.words.now in
    let outer = c.in-One in
    let inner = c.in-Two in
    let last = c.in-Two-deref in
    let test = term_of c.deref-3.result.now in
    let left = term_of c.deref-4.result.now in
    let right = term_of c.deref-5.result.now in
    let first = c.translated.new.made.items in
    let second = c.translated-2.new.made.items in
    let third = c.translated-3.new.made.items in
    let fourth = c.choice.new.made.items in
    let which = c.is_choice.ensures c.if-not-is_choice.false in
    let ways : term_of c.deref-2.result.now ≡ Two Else left right = ap term_of last.is
    ∙ (ap (λ o. Two o (term_of last.left.value) (term_of last.right.value)) which.2
    ∙ (ap (λ u. Two Else (term_of u) (term_of last.right.value)) (sym c.deref-4.ensures)
    ∙ ap (λ u. Two Else left (term_of u)) (sym c.deref-5.ensures))) in
    let body : term_of c.deref.result.now ≡ Two Then test (Two Else left right) = ap term_of inner.is
    ∙ (ap (λ o. Two o (term_of inner.test.value) (term_of inner.ways.value)) which.1
    ∙ (ap (λ u. Two Then (term_of u) (term_of inner.ways.value)) (sym c.deref-3.ensures)
    ∙ (ap (λ u. Two Then test (term_of u)) (sym c.deref-2.ensures) ∙ ap (Two Then test) ways))) in
    let whole : term_of c.args.term.now ≡ One If (Two Then test (Two Else left right)) = ap term_of outer.is
    ∙ (ap (λ o. One o (term_of outer.under.value)) which.0
    ∙ (ap (λ u. One If (term_of u)) (sym c.deref.ensures) ∙ ap (One If) body)) in
    let has = has_grows lexicon second third c.in_ok-x.x c.args.kinded c.in_ok-y.ensures.grown.grows
    c.in_ok-x.ensures.shows.has in
    let all = shows_choice lexicon c.args.kinded test left right c.in_ok-t.t c.in_ok-x.x c.in_ok-y.y c.in-Ok.place
    first second third fourth c.in_ok-t.ensures.shows c.in_ok-x.ensures.grown c.in_ok-x.ensures.shows
    c.in_ok-y.ensures.grown c.in_ok-y.ensures.shows c.in-Ok.ensures.grown
    (c.in-Ok.ensures.makes c.args.kinded has) in
    subst (λ u. Shows lexicon fourth c.args.kinded u c.in-Ok.place) (sym whole) all

pub in_range-returns-in-Ok-clause-grown : goal.in_range-returns-in-Ok-clause-grown
in_range-returns-in-Ok-clause-grown g t c =
    let lexicon = g.W.Words.lexicon c.args.words.now in
    let first = c.translated.new.made.items in
    let second = c.translated-2.new.made.items in
    let third = c.translated-3.new.made.items in
    let fourth = c.between.new.made.items in
    grown_trans lexicon c.args.made.now.items first fourth c.in_ok-x.ensures.grown
    (grown_trans lexicon first second fourth c.in_ok-from.ensures.grown
    (grown_trans lexicon second third fourth c.in_ok-end.ensures.grown c.in-Ok.ensures.grown))

pub in_range-between-requires-clause-number : goal.in_range-between-requires-clause-number
in_range-between-requires-clause-number g t c =
    let lexicon = g.W.Words.lexicon c.args.words.now in
    let first = c.translated.new.made.items in
    let second = c.translated-2.new.made.items in
    let third = c.translated-3.new.made.items in
    has_grows lexicon second third c.in_ok-x.x number_kind c.in_ok-end.ensures.grown.grows
    (has_grows lexicon first second c.in_ok-x.x number_kind c.in_ok-from.ensures.grown.grows
    c.in_ok-x.ensures.shows.has)

pub in_range-returns-in-Ok-clause-shows : goal.in_range-returns-in-Ok-clause-shows
in_range-returns-in-Ok-clause-shows g t c =
    let lexicon = g.W.Words.lexicon c.args.words.now in
    let outer = c.in-Two in
    let inner = c.in-Two-deref in
    let item = term_of c.deref-2.result.now in
    let low = term_of c.deref-3.result.now in
    let high = term_of c.deref-4.result.now in
    let first = c.translated.new.made.items in
    let second = c.translated-2.new.made.items in
    let third = c.translated-3.new.made.items in
    let fourth = c.between.new.made.items in
    let which = c.is_range.ensures c.if-not-is_range.false in
    let range : term_of c.deref.result.now ≡ Two UpTo low high = ap term_of inner.is
    ∙ (ap (λ o. Two o (term_of inner.low.value) (term_of inner.high.value)) which.1
    ∙ (ap (λ u. Two UpTo (term_of u) (term_of inner.high.value)) (sym c.deref-3.ensures)
    ∙ ap (λ u. Two UpTo low (term_of u)) (sym c.deref-4.ensures))) in
    let whole : term_of c.args.term.now ≡ Two In item (Two UpTo low high) = ap term_of outer.is
    ∙ (ap (λ o. Two o (term_of outer.item.value) (term_of outer.range.value)) which.0
    ∙ (ap (λ u. Two In (term_of u) (term_of outer.range.value)) (sym c.deref-2.ensures)
    ∙ (ap (λ u. Two In item (term_of u)) (sym c.deref.ensures) ∙ ap (Two In item) range))) in
    let single : formulas.is_list item ≡ false =
    ap (λ u. formulas.is_list (term_of u)) (c.deref-2.ensures ∙ sym c.deref-else-not-is_range.ensures)
    ∙ (sym c.is_list.ensures ∙ c.if-is_list.false) in
    let kind : truth_kind ≡ c.args.kinded = c.is_same_kind.ensures c.if-not-is_same_kind.false in
    let all = shows_range lexicon item low high c.in_ok-x.x c.in_ok-from.from c.in_ok-end.end c.in-Ok.place
    first second third fourth single c.in_ok-x.ensures.shows c.in_ok-from.ensures.grown c.in_ok-from.ensures.shows
    c.in_ok-end.ensures.grown c.in_ok-end.ensures.shows c.in-Ok.ensures.grown c.in-Ok.ensures.makes in
    subst (λ k. Shows lexicon fourth k (term_of c.args.term.now) c.in-Ok.place) kind
    (subst (λ u. Shows lexicon fourth truth_kind u c.in-Ok.place) (sym whole) all)

pub in_relation-returns-in-Ok-clause-shows : goal.in_relation-returns-in-Ok-clause-shows
in_relation-returns-in-Ok-clause-shows g t c =
    let lexicon = g.W.Words.lexicon c.args.words.now in
    let outer = c.in-Two in
    let inner = c.in-Two-deref in
    let word = c.in-Name.word.now in
    let m = c.in-Some.relation.now in
    let x = c.in_ok-x.x in
    let y = c.in_ok-y.y in
    let place = c.in-Ok.place in
    let left = term_of c.deref-3.result.now in
    let right = term_of c.deref-4.result.now in
    let first = c.translated.new.made.items in
    let second = c.translated-2.new.made.items in
    let third = c.related.new.made.items in
    let which = c.is_pair_in.ensures c.if-not-is_pair_in.false in
    let items : term_of c.deref.result.now ≡ Two Comma left right = ap term_of inner.is
    ∙ (ap (λ o. Two o (term_of inner.left.value) (term_of inner.right.value)) which.1
    ∙ (ap (λ u. Two Comma (term_of u) (term_of inner.right.value)) (sym c.deref-3.ensures)
    ∙ ap (λ u. Two Comma left (term_of u)) (sym c.deref-4.ensures))) in
    let range : term_of c.deref-2.result.now ≡ Name word = ap term_of c.in-Name.is in
    let whole : term_of c.args.term.now ≡ Two In (Two Comma left right) (Name word) = ap term_of outer.is
    ∙ (ap (λ o. Two o (term_of outer.items.value) (term_of outer.range.value)) which.0
    ∙ (ap (λ u. Two In (term_of u) (term_of outer.range.value)) (sym c.deref.ensures)
    ∙ (ap (λ v. Two In v (term_of outer.range.value)) items
    ∙ (ap (λ u. Two In (Two Comma left right) (term_of u)) (sym c.deref-2.ensures)
    ∙ ap (Two In (Two Comma left right)) range)))) in
    let single : formulas.is_list left ≡ false =
    ap (λ u. formulas.is_list (term_of u)) (c.deref-3.ensures ∙ sym c.deref-else-not-is_pair_in.ensures)
    ∙ (sym c.is_list.ensures ∙ c.if-is_list.false) in
    let kind : truth_kind ≡ c.args.kinded = c.is_same_kind.ensures c.if-not-is_same_kind.false in
    let named : lexicon.relation word ≡ Some m = sym c.relation.ensures ∙ ap option_copied c.in-Some.is in
    let sx = subst (λ k. Shows lexicon first k left x) (c.side_kind.ensures ∙ ap side_kind c.from.ensures.from)
    c.in_ok-x.ensures.shows in
    let sy = subst (λ k. Shows lexicon second k right y) (c.side_kind-2.ensures ∙ ap side_kind c.to.ensures)
    c.in_ok-y.ensures.shows in
    let all = shows_related lexicon word m left right x y place first second third named single sx
    c.in_ok-y.ensures.grown sy c.in-Ok.ensures.grown c.in-Ok.ensures.makes in
    subst (λ k. Shows lexicon third k (term_of c.args.term.now) place) kind
    (subst (λ u. Shows lexicon third truth_kind u place) (sym whole) all)

pub to_power-returns-in-Ok-clause-shows : goal.to_power-returns-in-Ok-clause-shows
to_power-returns-in-Ok-clause-shows g t c =
    let lexicon = g.W.Words.lexicon c.args.words.now in
    let outer = c.in-Two in
    let inner = c.in-Number in
    let base = term_of c.deref-2.result.now in
    let first = c.translated.new.made.items in
    let second = c.power.new.made.items in
    let which = c.is_power.ensures c.if-not-is_power.false in
    let exponent : term_of c.deref.result.now ≡ Number inner.n = ap term_of inner.is in
    let whole : term_of c.args.term.now ≡ Two Power base (Number inner.n) = ap term_of outer.is
    ∙ (ap (λ o. Two o (term_of outer.base.value) (term_of outer.exponent.value)) which
    ∙ (ap (λ u. Two Power (term_of u) (term_of outer.exponent.value)) (sym c.deref-2.ensures)
    ∙ (ap (λ u. Two Power base (term_of u)) (sym c.deref.ensures) ∙ ap (Two Power base) exponent))) in
    let kind : number_kind ≡ c.args.kinded = c.is_same_kind.ensures c.if-not-is_same_kind.false in
    let all = shows_power lexicon base inner.n c.in_ok-x.x c.in-Ok.place first second c.in_ok-x.ensures.shows
    c.in-Ok.ensures.grown c.in-Ok.ensures.makes in
    subst (λ k. Shows lexicon second k (term_of c.args.term.now) c.in-Ok.place) kind
    (subst (λ u. Shows lexicon second number_kind u c.in-Ok.place) (sym whole) all)

pub in_words-returns-clause-shows : goal.in_words-returns-clause-shows
in_words-returns-clause-shows g t c =
    let lexicon = g.W.Words.lexicon c.args.words.now in
    let outer = c.in-Two in
    let inner = c.in-Braces in
    let both = c.in-Some.both in
    let item = term_of c.deref-3.result.now in
    let labels = term_of c.deref-4.result.now in
    let first = c.translated.new.made.items in
    let second = c.among.new.made.items in
    let which = c.is_in.ensures c.if-not-is_in.false in
    let range : term_of c.deref.result.now ≡ Braces labels = ap term_of inner.is
    ∙ ap (λ u. Braces (term_of u)) (sym c.deref-4.ensures) in
    let whole : term_of c.args.term.now ≡ Two In item (Braces labels) = ap term_of outer.is
    ∙ (ap (λ o. Two o (term_of outer.item.value) (term_of outer.range.value)) which
    ∙ (ap (λ u. Two In (term_of u) (term_of outer.range.value)) (sym c.deref-3.ensures)
    ∙ (ap (λ u. Two In item (term_of u)) (sym c.deref.ensures) ∙ ap (Two In item) range))) in
    let single : formulas.is_list item ≡ false =
    ap (λ u. formulas.is_list (term_of u)) (c.deref-3.ensures ∙ sym c.deref-else-not-is_in.ensures)
    ∙ (sym c.is_list.ensures ∙ c.if-is_list.false) in
    let kind : truth_kind ≡ c.args.kinded = c.is_same_kind.ensures c.if-not-is_same_kind.false in
    both_ok c.among.result _ _ _ c.among.ensures.grown c.among.ensures.makes
    (λ place grown m.
    subst (λ k. Shows lexicon second k (term_of c.args.term.now) place) kind
    (subst (λ u. Shows lexicon second truth_kind u place) (sym whole)
    (shows_words lexicon both item labels c.in_ok-x.x place first second single c.in_ok-x.ensures.shows grown m)))

pub in_words-returns-clause-grown : goal.in_words-returns-clause-grown
in_words-returns-clause-grown g t c = on_ok c.among.result _ _ c.among.ensures.grown (λ grown.
    grown_trans (g.W.Words.lexicon c.args.words.now) c.args.made.now.items c.translated.new.made.items
    c.among.new.made.items c.in_ok-x.ensures.grown grown)

pub listed-returns-in-Ok-clause-shows : goal.listed-returns-in-Ok-clause-shows
listed-returns-in-Ok-clause-shows g t c =
    let lexicon = g.W.Words.lexicon c.args.words.now in
    shows_alone lexicon c.args.op (term_of c.args.list.now) c.in_ok-x.x c.in-Ok.place c.translated.new.made.items
    c.alone.new.made.items c.requires.gathers (sym c.is_list.ensures ∙ c.if-not-is_list.true)
    (subst (λ k. Shows lexicon c.translated.new.made.items k (term_of c.args.list.now) c.in_ok-x.x)
    c.kind_within.ensures c.in_ok-x.ensures.shows) c.in-Ok.ensures.grown c.in-Ok.ensures.makes

pub listed-returns-in-Ok-gathered-clause-shows : goal.listed-returns-in-Ok-gathered-clause-shows
listed-returns-in-Ok-gathered-clause-shows g t c =
    let lexicon = g.W.Words.lexicon c.args.words.now in
    let outer = c.in-Two in
    let op = c.args.op in
    let others = term_of c.deref.result.now in
    let last = term_of c.deref-2.result.now in
    let first = c.listed.new.made.items in
    let second = c.translated-2.new.made.items in
    let third = c.gathered.new.made.items in
    let parts : term_of c.args.list.now ≡ Two outer._comma others last = ap term_of outer.is
    ∙ (ap (λ u. Two outer._comma (term_of u) (term_of outer.last.value)) (sym c.deref.ensures)
    ∙ ap (λ u. Two outer._comma others (term_of u)) (sym c.deref-2.ensures)) in
    let comma = is_comma outer._comma others last
    (ap formulas.is_list (sym parts) ∙ (sym c.is_list.ensures ∙ c.if-not-is_list.false)) in
    subst (λ u. Shows lexicon third number_kind (One op u) c.in-Ok-gathered.place)
    (sym (parts ∙ ap (λ o. Two o others last) comma))
    (shows_gathered lexicon op others last c.in_ok-x-2.x c.in_ok-y.y c.in-Ok-gathered.place first second third
    c.requires.gathers c.in_ok-x-2.ensures.shows c.in_ok-y.ensures.grown
    (subst (λ k. Shows lexicon second k last c.in_ok-y.y) c.kind_within-2.ensures c.in_ok-y.ensures.shows)
    c.in-Ok-gathered.ensures.grown c.in-Ok-gathered.ensures.makes)

pub all_different-returns-clause-shows : goal.all_different-returns-clause-shows
all_different-returns-clause-shows g t c =
    let lexicon = g.W.Words.lexicon c.args.words.now in
    let new = c.differing.new.made.items in
    let list = term_of c.deref-2.result.now in
    let op : c.in-One.op ≡ Different = c.is_different.ensures c.if-not-is_different.false in
    let whole : term_of c.args.term.now ≡ One Different list = ap term_of c.in-One.is
    ∙ (ap (λ o. One o (term_of c.in-One.list.value)) op
    ∙ ap (λ u. One Different (term_of u)) (sym c.deref-2.ensures)) in
    let kind : truth_kind ≡ c.args.kinded = c.is_same_kind.ensures c.if-not-is_same_kind.false in
    IfOk-weaker c.differing.result _ _ (λ place s.
    subst (λ k. Shows lexicon new k (term_of c.args.term.now) place) kind
    (subst (λ u. Shows lexicon new truth_kind u place) (sym whole) (shows_different lexicon new list place s)))
    c.differing.ensures.shows

pub itself-returns-in-Ok-clause-shows : goal.itself-returns-in-Ok-clause-shows
itself-returns-in-Ok-clause-shows g t c =
    shows_itself (g.W.Words.lexicon c.args.words.now) c.args.both (term_of c.args.term.now) c.in_ok-x.x c.in-Ok.place
    c.translated.new.made.items c.combined.new.made.items c.in_ok-x.ensures.grown.sound c.in_ok-x.ensures.shows
    c.in-Ok.ensures.grown c.in-Ok.ensures.makes

pub unequal-returns-in-Ok-clause-shows : goal.unequal-returns-in-Ok-clause-shows
unequal-returns-in-Ok-clause-shows g t c = record {
  has = c.in-Ok.ensures.makes.has;
  of_it = λ u fu.
      shows_unequal (g.W.Words.lexicon c.args.words.now) c.args.both (term_of c.args.term.now) u c.in_ok-x.x c.args.y
      c.in-Ok.place c.args.made.now.items c.translated.new.made.items c.combined.new.made.items fu
      c.in_ok-x.ensures.grown c.in_ok-x.ensures.shows c.in-Ok.ensures.grown c.in-Ok.ensures.makes;
}

pub apart-returns-then-not-is_list-clause-shows : goal.apart-returns-then-not-is_list-clause-shows
apart-returns-then-not-is_list-clause-shows g t c =
    let lexicon = g.W.Words.lexicon c.args.words.now in
    let list = term_of c.args.list.now in
    let new = c.unequal.new.made.items in
    let single : formulas.is_list list ≡ false = sym c.is_list.ensures ∙ c.if-not-is_list.true in
    IfOk-weaker c.unequal.result _ _ (λ place s. record {
      has = s.has;
      of_it = λ u fu. subst (λ v. Shows lexicon new truth_kind v place) (sym (unequal_alone list u single))
          (s.of_it u fu);
    }) c.unequal.ensures.shows

pub apart-combined-requires-clause-suits : goal.apart-combined-requires-clause-suits
apart-combined-requires-clause-suits g t c =
    let lexicon = g.W.Words.lexicon c.args.words.now in
    let has = has_grows lexicon c.apart.new.made.items c.unequal-2.new.made.items c.in_ok-x.x truth_kind
    c.in_ok-z.ensures.grown.grows c.in_ok-x.ensures.shows.has in
    (truth_kind, refl, has, c.in_ok-z.ensures.shows.has)

pub apart-returns-in-Ok-clause-grown : goal.apart-returns-in-Ok-clause-grown
apart-returns-in-Ok-clause-grown g t c =
    let lexicon = g.W.Words.lexicon c.args.words.now in
    let first = c.apart.new.made.items in
    let second = c.unequal-2.new.made.items in
    let third = c.combined.new.made.items in
    grown_trans lexicon c.args.made.now.items first third c.in_ok-x.ensures.grown
    (grown_trans lexicon first second third c.in_ok-z.ensures.grown c.in-Ok.ensures.grown)

pub apart-returns-in-Ok-clause-shows : goal.apart-returns-in-Ok-clause-shows
apart-returns-in-Ok-clause-shows g t c =
    let lexicon = g.W.Words.lexicon c.args.words.now in
    let outer = c.in-Two in
    let others = term_of c.deref.result.now in
    let last = term_of c.deref-2.result.now in
    let old = c.args.made.now.items in
    let first = c.apart.new.made.items in
    let second = c.unequal-2.new.made.items in
    let third = c.combined.new.made.items in
    let place = c.in-Ok.place in
    let parts : term_of c.args.list.now ≡ Two outer._comma others last = ap term_of outer.is
    ∙ (ap (λ u. Two outer._comma (term_of u) (term_of outer.last.value)) (sym c.deref.ensures)
    ∙ ap (λ u. Two outer._comma others (term_of u)) (sym c.deref-2.ensures)) in
    let comma = is_comma outer._comma others last
    (ap formulas.is_list (sym parts) ∙ (sym c.is_list.ensures ∙ c.if-not-is_list.false)) in
    record {
      has = c.in-Ok.ensures.makes.has;
      of_it = λ u fu. subst (λ v. Shows lexicon third truth_kind (unequal_to v u) place)
          (sym (parts ∙ ap (λ o. Two o others last) comma))
          (shows_both lexicon (unequal_to others u) (Two Unequal last u) c.in_ok-x.x c.in_ok-z.z place
          first second third
          (c.in_ok-x.ensures.shows.of_it u fu) c.in_ok-z.ensures.grown
          (c.in_ok-z.ensures.shows.of_it u
          (shows_grows lexicon old first c.args.both u c.args.y c.in_ok-x.ensures.grown fu))
          c.in-Ok.ensures.grown c.in-Ok.ensures.makes);
    }

pub differing-returns-then-not-is_list-2-clause-grown :
    goal.differing-returns-then-not-is_list-2-clause-grown
differing-returns-then-not-is_list-2-clause-grown g t c = on_ok c.apart.result _ _ c.apart.ensures.grown (λ grown.
    grown_trans (g.W.Words.lexicon c.args.words.now) c.args.made.now.items c.translated.new.made.items
    c.apart.new.made.items c.in_ok-y.ensures.grown grown)

pub differing-returns-then-not-is_list-2-clause-shows :
    goal.differing-returns-then-not-is_list-2-clause-shows
differing-returns-then-not-is_list-2-clause-shows g t c =
    let lexicon = g.W.Words.lexicon c.args.words.now in
    let outer = c.in-Two in
    let others = term_of c.deref-then-not-is_list-2.result.now in
    let last = term_of c.deref.result.now in
    let new = c.apart.new.made.items in
    let single : formulas.is_list others ≡ false =
    ap (λ u. formulas.is_list (term_of u)) (c.deref-then-not-is_list-2.ensures ∙ sym c.deref-2.ensures)
    ∙ (sym c.is_list-2.ensures ∙ c.if-not-is_list-2.true) in
    let parts : term_of c.args.list.now ≡ Two outer._comma others last = ap term_of outer.is
    ∙ (ap (λ u. Two outer._comma (term_of u) (term_of outer.last.value)) (sym c.deref-then-not-is_list-2.ensures)
    ∙ ap (λ u. Two outer._comma others (term_of u)) (sym c.deref.ensures)) in
    let comma = is_comma outer._comma others last
    (ap formulas.is_list (sym parts) ∙ (sym c.is_list.ensures ∙ c.if-not-is_list.false)) in
    IfOk-weaker c.apart.result _ _ (λ place s. subst (λ v. Shows lexicon new truth_kind (different_of v) place)
    (sym (parts ∙ ap (λ o. Two o others last) comma)) (subst
    (λ b. Shows lexicon new truth_kind (cond b (Two And (different_of others) (unequal_to others last))
    (unequal_to others last)) place) (sym single) (s.of_it last c.in_ok-y.ensures.shows))) c.apart.ensures.shows

pub differing-combined-requires-clause-suits : goal.differing-combined-requires-clause-suits
differing-combined-requires-clause-suits g t c =
    let lexicon = g.W.Words.lexicon c.args.words.now in
    let has = has_grows lexicon c.differing.new.made.items c.apart-2.new.made.items c.in_ok-x.x truth_kind
    c.in_ok-z.ensures.grown.grows c.in_ok-x.ensures.shows.has in
    (truth_kind, refl, has, c.in_ok-z.ensures.shows.has)

pub differing-returns-in-Ok-clause-grown : goal.differing-returns-in-Ok-clause-grown
differing-returns-in-Ok-clause-grown g t c =
    let lexicon = g.W.Words.lexicon c.args.words.now in
    let first = c.translated.new.made.items in
    let second = c.differing.new.made.items in
    let third = c.apart-2.new.made.items in
    let fourth = c.combined.new.made.items in
    grown_trans lexicon c.args.made.now.items first fourth c.in_ok-y.ensures.grown
    (grown_trans lexicon first second fourth c.in_ok-x.ensures.grown
    (grown_trans lexicon second third fourth c.in_ok-z.ensures.grown c.in-Ok.ensures.grown))

pub differing-returns-in-Ok-clause-shows : goal.differing-returns-in-Ok-clause-shows
differing-returns-in-Ok-clause-shows g t c =
    let lexicon = g.W.Words.lexicon c.args.words.now in
    let outer = c.in-Two in
    let others = term_of c.deref-3.result.now in
    let last = term_of c.deref.result.now in
    let first = c.translated.new.made.items in
    let second = c.differing.new.made.items in
    let third = c.apart-2.new.made.items in
    let fourth = c.combined.new.made.items in
    let place = c.in-Ok.place in
    let several : formulas.is_list others ≡ true =
    ap (λ u. formulas.is_list (term_of u)) (c.deref-3.ensures ∙ sym c.deref-2.ensures)
    ∙ (sym c.is_list-2.ensures ∙ c.if-not-is_list-2.false) in
    let same : term_of c.deref-4.result.now ≡ others = ap term_of (c.deref-4.ensures ∙ sym c.deref-3.ensures) in
    let parts : term_of c.args.list.now ≡ Two outer._comma others last = ap term_of outer.is
    ∙ (ap (λ u. Two outer._comma (term_of u) (term_of outer.last.value)) (sym c.deref-3.ensures)
    ∙ ap (λ u. Two outer._comma others (term_of u)) (sym c.deref.ensures)) in
    let comma = is_comma outer._comma others last
    (ap formulas.is_list (sym parts) ∙ (sym c.is_list.ensures ∙ c.if-not-is_list.false)) in
    let shown = shows_grows lexicon first second c.args.both last c.in_ok-y.y c.in_ok-x.ensures.grown
    c.in_ok-y.ensures.shows in
    let apart = subst (λ v. Shows lexicon third truth_kind (unequal_to v last) c.in_ok-z.z) same
    (c.in_ok-z.ensures.shows.of_it last shown) in
    subst (λ v. Shows lexicon fourth truth_kind (different_of v) place)
    (sym (parts ∙ ap (λ o. Two o others last) comma)) (subst
    (λ b. Shows lexicon fourth truth_kind (cond b (Two And (different_of others) (unequal_to others last))
    (unequal_to others last)) place) (sym several)
    (shows_both lexicon (different_of others) (unequal_to others last) c.in_ok-x.x c.in_ok-z.z place second third fourth
    c.in_ok-x.ensures.shows c.in_ok-z.ensures.grown apart c.in-Ok.ensures.grown c.in-Ok.ensures.makes))

pub from_table-returns-clause-grown : goal.from_table-returns-clause-grown
from_table-returns-clause-grown g t c = on_ok c.in_rows.result _ _ c.in_rows.ensures.grown (λ grown.
    grown_trans (g.W.Words.lexicon c.args.words.now) c.args.made.now.items c.translated.new.made.items
    c.in_rows.new.made.items c.in_ok-place.ensures.grown grown)

pub from_table-returns-clause-shows : goal.from_table-returns-clause-shows
from_table-returns-clause-shows g t c =
    let lexicon = g.W.Words.lexicon c.args.words.now in
    let outer = c.in-One in
    let inner = c.in-Two in
    let kinded = c.args.kinded in
    let lookup : Lookup = record { place = c.in_ok-place.place; keyed = c.in-Some.keyed; kinded = kinded } in
    let item = term_of inner.item.value in
    let rows = term_of inner.rows.value in
    let first = c.translated.new.made.items in
    let second = c.in_rows.new.made.items in
    let which = c.is_lookup.ensures c.if-not-is_lookup.false in
    let body : term_of c.deref.result.now ≡ Two Semicolon item rows = ap term_of inner.is
    ∙ ap (λ o. Two o item rows) which.1 in
    let whole : term_of c.args.term.now ≡ One Element (Two Semicolon item rows) = ap term_of outer.is
    ∙ (ap (λ o. One o (term_of outer.under.value)) which.0
    ∙ (ap (λ u. One Element (term_of u)) (sym c.deref.ensures) ∙ ap (One Element) body)) in
    let shown : Shows lexicon first lookup.keyed item lookup.place =
    subst (λ u. Shows lexicon first lookup.keyed (term_of u) lookup.place) c.deref-3.ensures
    c.in_ok-place.ensures.shows in
    let keys : HasAllKeys lexicon first lookup rows =
    subst (λ u. HasAllKeys lexicon first lookup (term_of u)) c.deref-5.ensures
    (subst (λ m. HasAllKeys lexicon m lookup (term_of c.deref-5.result.now)) c.deref-4.ensures.value
    (c.has_all_keys.ensures c.if-not-has_all_keys.false)) in
    both_ok c.in_rows.result _ _ _ c.in_rows.ensures.grown c.in_rows.ensures.finds (λ place grown f.
    subst (λ u. Shows lexicon second kinded u place) (sym whole)
    (shows_table lexicon lookup item rows place first second shown keys grown
    (subst (λ u. Finds lexicon second lookup (term_of u) place) c.deref-6.ensures f)))

pub in_rows-returns-then-is_list-clause-grown : goal.in_rows-returns-then-is_list-clause-grown
in_rows-returns-then-is_list-clause-grown g t c =
    on_ok c.before_others.result _ _ c.before_others.ensures.grown (λ grown.
    grown_trans (g.W.Words.lexicon c.args.words.now) c.args.made.now.items c.in_rows.new.made.items
    c.before_others.new.made.items c.in_ok-z.ensures.grown grown)

pub in_rows-returns-then-is_list-clause-finds : goal.in_rows-returns-then-is_list-clause-finds
in_rows-returns-then-is_list-clause-finds g t c =
    let lexicon = g.W.Words.lexicon c.args.words.now in
    let outer = c.in-Two in
    let lookup = c.args.lookup in
    let before = term_of outer.before.value in
    let behind = term_of outer.behind.value in
    let first = c.in_rows.new.made.items in
    let second = c.before_others.new.made.items in
    let comma = is_comma outer.op before behind
    (ap formulas.is_list (sym (ap term_of outer.is)) ∙ (sym c.is_list.ensures ∙ c.if-is_list.true)) in
    let whole : term_of c.args.rows.now ≡ Two Comma before behind = ap term_of outer.is
    ∙ ap (λ o. Two o before behind) comma in
    let last : Finds lexicon first lookup behind c.in_ok-z.z =
    subst (λ u. Finds lexicon first lookup (term_of u) c.in_ok-z.z) c.deref.ensures c.in_ok-z.ensures.finds in
    both_ok c.before_others.result _ _ _ c.before_others.ensures.grown c.before_others.ensures.chooses
    (λ place grown f. subst (λ u. Finds lexicon second lookup u place) (sym whole)
    (finds_more lexicon lookup before behind c.in_ok-z.z place first second last grown
    (subst (λ u. Chooses lexicon second lookup (term_of u) c.in_ok-z.z place) c.deref-then-is_list.ensures f)))

pub in_rows-returns-clause-finds : goal.in_rows-returns-clause-finds
in_rows-returns-clause-finds g t c =
    let lexicon = g.W.Words.lexicon c.args.words.now in
    let outer = c.in-Two in
    let lookup = c.args.lookup in
    let new = c.translated.new.made.items in
    let before = term_of outer.before.value in
    let behind = term_of outer.behind.value in
    let which = c.is_row.ensures c.if-not-is_row.false in
    let whole : term_of c.args.rows.now ≡ Two Colon before behind = ap term_of outer.is
    ∙ ap (λ o. Two o before behind) which in
    IfOk-weaker c.translated.result _ _ (λ place s. subst (λ u. Finds lexicon new lookup u place) (sym whole)
    (finds_row lexicon lookup before behind place new
    (subst (λ u. Shows lexicon new lookup.kinded (term_of u) place) c.deref-2.ensures s))) c.translated.ensures.shows

pub before_others-returns-then-is_list-clause-grown : goal.before_others-returns-then-is_list-clause-grown
before_others-returns-then-is_list-clause-grown g t c =
    on_ok c.before_others-then-is_list.result _ _ c.before_others-then-is_list.ensures.grown (λ grown.
    grown_trans (g.W.Words.lexicon c.args.words.now) c.args.made.now.items c.before_others.new.made.items
    c.before_others-then-is_list.new.made.items c.in_ok-y.ensures.grown grown)

pub before_others-returns-then-is_list-clause-chooses : goal.before_others-returns-then-is_list-clause-chooses
before_others-returns-then-is_list-clause-chooses g t c =
    let lexicon = g.W.Words.lexicon c.args.words.now in
    let outer = c.in-Two in
    let lookup = c.args.lookup in
    let before = term_of outer.before.value in
    let behind = term_of outer.behind.value in
    let first = c.before_others.new.made.items in
    let second = c.before_others-then-is_list.new.made.items in
    let comma = is_comma outer.op before behind
    (ap formulas.is_list (sym (ap term_of outer.is)) ∙ (sym c.is_list.ensures ∙ c.if-is_list.true)) in
    let whole : term_of c.args.rows.now ≡ Two Comma before behind = ap term_of outer.is
    ∙ ap (λ o. Two o before behind) comma in
    let last : Chooses lexicon first lookup behind c.args.z c.in_ok-y.y =
    subst (λ u. Chooses lexicon first lookup (term_of u) c.args.z c.in_ok-y.y) c.deref.ensures
    c.in_ok-y.ensures.chooses in
    both_ok c.before_others-then-is_list.result _ _ _ c.before_others-then-is_list.ensures.grown
    c.before_others-then-is_list.ensures.chooses
    (λ place grown f. subst (λ u. Chooses lexicon second lookup u c.args.z place) (sym whole)
    (chooses_more lexicon lookup before behind c.args.z c.in_ok-y.y place first second last grown
    (subst (λ u. Chooses lexicon second lookup (term_of u) c.in_ok-y.y place) c.deref-then-is_list.ensures f)))

pub before_others-choice-requires-clause-truth : goal.before_others-choice-requires-clause-truth
before_others-choice-requires-clause-truth g t c =
    has_grows (g.W.Words.lexicon c.args.words.now) c.is_labelled.new.made.items c.translated.new.made.items
    c.in_ok-t.t truth_kind c.in_ok-y-2.ensures.grown.grows c.in_ok-t.ensures.alone.has

pub before_others-choice-requires-clause-suits : goal.before_others-choice-requires-clause-suits
before_others-choice-requires-clause-suits g t c =
    let lexicon = g.W.Words.lexicon c.args.words.now in
    let first = c.is_labelled.new.made.items in
    let kinded = c.args.lookup.kinded in (
      kinded,
      c.in_ok-y-2.ensures.shows.has,
      has_grows lexicon first c.translated.new.made.items c.args.z kinded
          c.in_ok-y-2.ensures.grown.grows
          (has_grows lexicon c.args.made.now.items first c.args.z kinded c.in_ok-t.ensures.grown.grows c.requires.others),
    )

pub before_others-returns-in-Ok-clause-grown : goal.before_others-returns-in-Ok-clause-grown
before_others-returns-in-Ok-clause-grown g t c =
    let lexicon = g.W.Words.lexicon c.args.words.now in
    let first = c.is_labelled.new.made.items in
    let second = c.translated.new.made.items in
    let third = c.choice.new.made.items in
    grown_trans lexicon c.args.made.now.items first third c.in_ok-t.ensures.grown
    (grown_trans lexicon first second third c.in_ok-y-2.ensures.grown c.in-Ok.ensures.grown)

pub before_others-returns-in-Ok-clause-chooses : goal.before_others-returns-in-Ok-clause-chooses
before_others-returns-in-Ok-clause-chooses g t c =
    let lexicon = g.W.Words.lexicon c.args.words.now in
    let outer = c.in-Two in
    let lookup = c.args.lookup in
    let before = term_of outer.before.value in
    let behind = term_of outer.behind.value in
    let first = c.is_labelled.new.made.items in
    let second = c.translated.new.made.items in
    let third = c.choice.new.made.items in
    let place = c.in-Ok.place in
    let which = c.is_row.ensures c.if-not-is_row.false in
    let whole : term_of c.args.rows.now ≡ Two Colon before behind = ap term_of outer.is
    ∙ ap (λ o. Two o before behind) which in
    let it = subst (λ u. Makes lexicon first truth_kind
    (λ a. truth_point (is_among lexicon lookup.keyed (a lookup.place) (label (term_of u) ∷ []))) c.in_ok-t.t)
    c.deref-2.ensures c.in_ok-t.ensures.alone in
    let shown = subst (λ u. Shows lexicon second lookup.kinded (term_of u) c.in_ok-y-2.y) c.deref-3.ensures
    c.in_ok-y-2.ensures.shows in
    subst (λ u. Chooses lexicon third lookup u c.args.z place) (sym whole)
    (chooses_row lexicon lookup before behind c.in_ok-t.t c.in_ok-y-2.y c.args.z place first second third it
    c.in_ok-y-2.ensures.grown shown c.in-Ok.ensures.grown
    (c.in-Ok.ensures.makes lookup.kinded c.in_ok-y-2.ensures.shows.has))
