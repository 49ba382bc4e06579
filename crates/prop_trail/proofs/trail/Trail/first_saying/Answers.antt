use Rattle.std.proofs.Common.{◌≡◌, ◌∙◌, ◌<◌, ◌≤◌, ℤ, Option, Some, None, IfSome, length, get_or, map, ap, sym, refl}
use Rattle.std.proofs.Common.{subst, arith}
use Rattle.std.proofs.lemmas.Bool.{false≢true}
use Rattle.std.proofs.lemmas.List.{get_or_read}
use Rattle.std.proofs.lemmas.Option.{slice_get-get_or}
use Rattle.prop_facts.specs.declared.fact.Fact.TheVariants.{Other}
use Rattle.prop_trail.specs.Places.{root_of}
use Rattle.prop_trail.specs.Trails.{place_at, all_after}
use Rattle.prop_trail.specs.Windows.{IsOut}
use Rattle.prop_trail.specs.declared.entry.Entry.{Entry}
use Rattle.prop_trail.specs.declared.place.Place.{Place}
use Rattle.prop_trail.proofs.MakerLaws.{follows_at, says_since, says_until}
use Rattle.prop_trail.proofs.SayLaws.{SaysIn, Follows}
use Rattle.prop_trail.proofs.TrailLaws.{was_at, no_entry, found, untold, before_is, was_is, is_is, root_newest}
use Rattle.prop_trail.proofs.trail.Trail.first_saying.Goals as goal

pub returns-in_err-at-clause-none : goal.returns-in_err-at-clause-none
returns-in_err-at-clause-none c =
    let n = c.self.inside in
    let es = n.entries.items in
    let ps = map root_of n.roots.items in
    let p = c.args.literal.place in
    let upto : c.args.before ≤ length es = rw (← c.self.view_is) at c.requires.before in
    let newest : None ≡ (was_at ps es c.args.before p).newest = rw (← c.self.view_is) at c.in_err-at.ensures.newest in
    let root = untold ps es c.args.before p c.self.invariant.entries_made upto (root_newest n.roots.items p)
    (sym newest) in
    rw (← c.self.view_is) (λ _ says. subst (SaysIn c.args.literal.fact) root says)

pub returns-then-not-follows_from-clause-none : goal.returns-then-not-follows_from-clause-none
returns-then-not-follows_from-clause-none c =
    let n = c.self.inside in
    let roots = n.roots.items in
    let es = n.entries.items in
    let ps = map root_of roots in
    let p = c.args.literal.place in
    let f = c.args.literal.fact in
    let made = c.self.invariant.entries_made in
    let i = c.in_ok-at.at in
    let d = c.index.result.now in
    let upto : c.args.before ≤ length es = rw (← c.self.view_is) at c.requires.before in
    let newest : Some i ≡ (was_at ps es c.args.before p).newest = rw (← c.self.view_is) at c.in_ok-at.ensures.newest in
    let apart : (m : ℤ) → f ≡ Other m → IsOut (place_at (all_after 0 ps es) p).window m → ⊥ =
    rw (← c.self.view_is) at c.requires.apart in
    let at = found ps es d c.args.before p i made upto (root_newest roots p) (sym newest) in
    let below = at.below in
    let within : i < length es = omega (arith, below, upto) in
    let is : (was_at ps es c.args.before p).info ≡ d.is =
    ap (λ (x : Place). x.info) at.since ∙ is_is ps es d p i made within at.place
    ∙ ap (λ (e : Entry). e.is) (sym c.index.ensures) in
    rw (← c.self.view_is) (λ _ says. absurd (false≢true (c.if-not-follows_from.ensures.1
    (subst (Follows f) is (follows_at roots es d made p f c.args.before upto apart says)))))

pub loop-self-init : goal.loop-self-init
loop-self-init c =
    let n = c.self.inside in
    let roots = n.roots.items in
    let es = n.entries.items in
    let ps = map root_of roots in
    let p = c.args.literal.place in
    let f = c.args.literal.fact in
    let made = c.self.invariant.entries_made in
    let i = c.in_ok-at.at in
    let d = c.index.result.now in
    let upto : c.args.before ≤ length es = rw (← c.self.view_is) at c.requires.before in
    let newest : Some i ≡ (was_at ps es c.args.before p).newest = rw (← c.self.view_is) at c.in_ok-at.ensures.newest in
    let at = found ps es no_entry c.args.before p i made upto (root_newest roots p) (sym newest) in
    let below = at.below in
    let within : i < length es = omega (arith, below, upto) in
    let tells : d ≡ get_or es i no_entry = get_or_read es i d within c.index.ensures no_entry in
    record {
      within = below;
      place = at.place;
      says = says_since roots es no_entry made p f i within at.place
          (subst (Follows f) (ap (λ (e : Entry). e.is) tells) (c.if-not-follows_from.ensures.0 refl));
    }

pub returns-in_err-at-2-clause-none : goal.returns-in_err-at-2-clause-none
returns-in_err-at-2-clause-none c =
    let n = c.self.inside in
    let roots = n.roots.items in
    let es = n.entries.items in
    let ps = map root_of roots in
    let p = c.args.literal.place in
    let f = c.args.literal.fact in
    let made = c.self.invariant.entries_made in
    let v = c.loop-self.invariant in
    let i = c.loop-self.at in
    let d = c.index-in-loop-self.result.now in
    let e = c.index-in-loop-self-2.result.now in
    let upto : c.args.before ≤ length es = rw (← c.self.view_is) at c.requires.before in
    let below = v.within in
    let within : i < length es = omega (arith, below, upto) in
    let most : i ≤ length es = omega (arith, within) in
    let tells : d ≡ get_or es i no_entry = get_or_read es i d within c.index-in-loop-self.ensures no_entry in
    let tells_too : e ≡ get_or es i no_entry = get_or_read es i e within c.index-in-loop-self-2.ensures no_entry in
    let says = says_until roots es no_entry made p f i within v.place
    (subst (Follows f) (ap (λ (x : Entry). x.was) tells) (c.loop-self-test.ensures.0 refl)) in
    let newest : (was_at ps es i p).newest ≡ None =
    sym (before_is ps es no_entry p i made within v.place) ∙ ap (λ (x : Entry). x.before) (sym tells_too)
    ∙ c.in_err-at-2.was in
    let root = untold ps es i p made most (root_newest roots p) newest in
    rw (← c.self.view_is) (λ _ _. subst (SaysIn f) root says)

pub loop-self-smaller : goal.loop-self-smaller
loop-self-smaller c =
    let n = c.self.inside in
    let roots = n.roots.items in
    let es = n.entries.items in
    let ps = map root_of roots in
    let p = c.args.literal.place in
    let made = c.self.invariant.entries_made in
    let v = c.loop-self.invariant in
    let i = c.loop-self.at in
    let e = c.index-in-loop-self-2.result.now in
    let upto : c.args.before ≤ length es = rw (← c.self.view_is) at c.requires.before in
    let below = v.within in
    let within : i < length es = omega (arith, below, upto) in
    let most : i ≤ length es = omega (arith, within) in
    let tells : e ≡ get_or es i no_entry = get_or_read es i e within c.index-in-loop-self-2.ensures no_entry in
    let newest : (was_at ps es i p).newest ≡ Some c.in_ok-at-2.at =
    sym (before_is ps es no_entry p i made within v.place) ∙ ap (λ (x : Entry). x.before) (sym tells)
    ∙ c.in_ok-at-2.was in
    (found ps es no_entry i p c.in_ok-at-2.at made most (root_newest roots p) newest).below

pub loop-self-preserved : goal.loop-self-preserved
loop-self-preserved c =
    let n = c.self.inside in
    let roots = n.roots.items in
    let es = n.entries.items in
    let ps = map root_of roots in
    let p = c.args.literal.place in
    let f = c.args.literal.fact in
    let made = c.self.invariant.entries_made in
    let v = c.loop-self.invariant in
    let i = c.loop-self.at in
    let d = c.index-in-loop-self.result.now in
    let e = c.index-in-loop-self-2.result.now in
    let upto : c.args.before ≤ length es = rw (← c.self.view_is) at c.requires.before in
    let below = v.within in
    let within : i < length es = omega (arith, below, upto) in
    let most : i ≤ length es = omega (arith, within) in
    let tells : d ≡ get_or es i no_entry = get_or_read es i d within c.index-in-loop-self.ensures no_entry in
    let tells_too : e ≡ get_or es i no_entry = get_or_read es i e within c.index-in-loop-self-2.ensures no_entry in
    let says = says_until roots es no_entry made p f i within v.place
    (subst (Follows f) (ap (λ (x : Entry). x.was) tells) (c.loop-self-test.ensures.0 refl)) in
    let newest : (was_at ps es i p).newest ≡ Some c.in_ok-at-2.at =
    sym (before_is ps es no_entry p i made within v.place) ∙ ap (λ (x : Entry). x.before) (sym tells_too)
    ∙ c.in_ok-at-2.was in
    let at = found ps es no_entry i p c.in_ok-at-2.at made most (root_newest roots p) newest in
    let less = at.below in
    record {
      within = omega (arith, less, below);
      place = at.place;
      says = subst (SaysIn f) at.since says;
    }

pub returns-clause-some : goal.returns-clause-some
returns-clause-some c =
    let n = c.self.inside in
    let roots = n.roots.items in
    let es = n.entries.items in
    let ps = map root_of roots in
    let p = c.args.literal.place in
    let f = c.args.literal.fact in
    let made = c.self.invariant.entries_made in
    let v = c.loop-self.invariant in
    let i = c.loop-self.at in
    let d = c.index-in-loop-self.result.now in
    let upto : c.args.before ≤ length es = rw (← c.self.view_is) at c.requires.before in
    let below = v.within in
    let within : i < length es = omega (arith, below, upto) in
    let most : i ≤ length es = omega (arith, within) in
    let apart : (m : ℤ) → f ≡ Other m → IsOut (place_at (all_after 0 ps es) p).window m → ⊥ =
    rw (← c.self.view_is) at c.requires.apart in
    let tells : d ≡ get_or es i no_entry = get_or_read es i d within c.index-in-loop-self.ensures no_entry in
    let was : (was_at ps es i p).info ≡ d.was =
    sym (was_is ps es no_entry p i made within v.place) ∙ ap (λ (x : Entry). x.was) (sym tells) in
    rw (← c.self.view_is) (record {
      place = subst (λ (o : Option Entry). IfSome o (λ (e : Entry). e.place ≡ p))
          (sym (slice_get-get_or es i no_entry within)) v.place;
      before = λ says. false≢true (c.loop-self-test.ensures.1
          (subst (Follows f) was (follows_at roots es no_entry made p f i most apart says)));
      since = v.says;
    })
