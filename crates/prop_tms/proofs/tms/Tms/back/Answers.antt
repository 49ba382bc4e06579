use Rattle.std.proofs.Common.{◌≡◌, ◌∙◌, false, refl, sym, ap, subst, length, filter, arith}
use Rattle.std.proofs.lemmas.List.Kept.{AllPairs-filter}
use Rattle.prop_numbers.specs.Sets.{is_alike, is_below}
use Rattle.prop_tms.specs.Beliefs.{Subsumes, NoneSubsumed, NoneAlike, belief_of}
use Rattle.prop_tms.specs.Values.{entries_of}
use Rattle.prop_tms.specs.declared.supported.Supported.{Supported}
use Rattle.prop_tms.proofs.BeliefUses.{belief_of-below}
use Rattle.prop_tms.proofs.ValueLemmas.{filter_length, written_values}
use Rattle.prop_tms.proofs.tms.Tms.back.Given.{Over}
use Rattle.prop_tms.proofs.tms.Tms.back.Goals as goal

left : (g : Over) (c : goal.After-drop_bare g)
    → entries_of c.drop_bare.new.values.items ≡ filter (λ e. is_below c.args.count e.support)
    (entries_of c.self.inside.values.items)
left g c =
    let kept = rw c.deref_mut.ensures.value at c.drop_from.ensures.values in
    let gone = rw c.deref_mut.ensures.value at c.drop_from.ensures.left in
    c.drop_bare.ensures.same ∙ ap entries_of
    (written_values (length c.self.inside.values.items) c.self.inside.values.items c.drop_from.new.values refl kept)
    ∙ gone

pub invariant_of-self : goal.invariant_of-self
invariant_of-self g c =
    let old = entries_of c.self.inside.values.items in
    let test = left g c in
    let shorter = filter_length (λ (e : Supported _). is_below c.args.count e.support) old in
    let same = ap length test in
    record {
      subsumed = subst (NoneSubsumed g.V.Partial.below) (sym test)
          (AllPairs-filter (λ a b. ¬ (Subsumes g.V.Partial.below a b) × ¬ (Subsumes g.V.Partial.below b a))
          (λ e. is_below c.args.count e.support) old c.self.invariant.subsumed);
      alike = subst NoneAlike (sym test)
          (AllPairs-filter (λ a b. is_alike a.support b.support ≡ false) (λ e. is_below c.args.count e.support) old
          c.self.invariant.alike);
      apart = c.drop_bare.ensures.apart;
      bare = c.drop_bare.ensures.bare;
      counted = omega (arith, shorter, same, c.self.invariant.counted);
    }

pub returns-clause-left : goal.returns-clause-left
returns-clause-left g c = rw (← c.self.view_is) (left g c)

pub returns-clause-beliefs : goal.returns-clause-beliefs
returns-clause-beliefs g c w low =
    rw (← c.self.view_is) (ap (belief_of g.V.Partial.bottom g.V.Partial.join w) (left g c)
    ∙ belief_of-below g.V.Partial.bottom g.V.Partial.join c.args.count w low
    (entries_of c.self.inside.values.items))
