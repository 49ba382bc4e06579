use Rattle.std.proofs.Common.{◌≡◌, ◌∙◌, List, length, refl, sym, ap, subst, arith}
use Rattle.std.specs.List.{refill}
use Rattle.prop_numbers.specs.Sets.{set_of}
use Rattle.prop_tms.specs.Beliefs.{AreNeeded, NoneSubsumed, NoneAlike}
use Rattle.prop_tms.specs.Values.{entries_of}
use Rattle.prop_tms.specs.inner.Values.{values_of}
use Rattle.prop_tms.specs.declared.values.Valued.{Valued}
use Rattle.prop_tms.proofs.ValueLemmas.{written_values}
use Rattle.prop_tms.proofs.trimming.trim.Goals as goal

-- the entries in the end are those that stood in the slice
left : {V : Type 0} (old given new end : List (Valued V)) → given ≡ old → values_of new ≡ values_of given
    → entries_of end ≡ entries_of (refill (length old) old new) → entries_of end ≡ entries_of new
left old given new end is values same = same
    ∙ ap entries_of (written_values (length old) old new refl (values ∙ ap values_of is))

pub returns-clause-needed : goal.returns-clause-needed
returns-clause-needed g c =
    let same = left c.args.values.now.items c.deref_mut.result.now c.drop_needless.new.values
    c.drop_bare.new.values.items c.deref_mut.ensures.value c.drop_needless.ensures.values c.drop_bare.ensures.same
    in
    subst (AreNeeded g.V.Partial.bottom g.V.Partial.join (set_of c.args.told.now) (set_of c.args.worldview.now))
    (sym same) c.drop_needless.ensures.needed

pub returns-clause-kept : goal.returns-clause-kept
returns-clause-kept g c =
    let same = left c.args.values.now.items c.deref_mut.result.now c.drop_needless.new.values
    c.drop_bare.new.values.items c.deref_mut.ensures.value c.drop_needless.ensures.values c.drop_bare.ensures.same
    in
    let count = ap length same in
    let before = ap (λ (xs : List (Valued _)). length (entries_of xs)) c.deref_mut.ensures.value in
    record {
      subsumed = subst (NoneSubsumed g.V.Partial.below) (sym same) c.drop_needless.ensures.subsumed;
      alike = subst NoneAlike (sym same) c.drop_needless.ensures.alike;
      apart = c.drop_bare.ensures.apart;
      bare = c.drop_bare.ensures.bare;
      counted = omega (arith, count, before, c.drop_needless.ensures.counted, c.requires.counted);
    }
