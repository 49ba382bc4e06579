use Rattle.std.proofs.Common.{◌≡◌, ◌∙◌, true, [], sym, inl, inr, arith, Contains}
use Rattle.std.proofs.lemmas.List.Elements.{All-contains}
use Rattle.prop_numbers.specs.Sets.{set_of, is_within}
use Rattle.prop_tms.specs.inner.Gains.{entry_of, gained_of}
use Rattle.prop_tms.specs.Values.{entries_of}
use Rattle.prop_tms.proofs.GainLemmas.{merged_said, none_gained}
use Rattle.prop_tms.proofs.LightLemmas.{light_among, lean_light, lean_shorter}
use Rattle.prop_tms.proofs.strongest.ranked.Goals as goal
use Rattle.prop_tms.proofs.strongest.ranked.Goals.{in-Some+in_ok-support-in-Some, in_default}
use Rattle.prop_tms.proofs.strongest.ranked.Goals.{in_default-via-in-Some+else-count-premises}
use Rattle.prop_tms.proofs.strongest.ranked.Goals.{in_default-via-in_default}

pub returns-clause-value : goal.returns-clause-value
returns-clause-value g c =
    let found = c.in_ok-gains.ensures in
    rw c.deref.ensures.value at c.said_together-value.ensures ∙
    sym (merged_said g.met.V.Partial.laws (set_of c.args.worldview.now) (entries_of c.args.values.now)
    (gained_of c.in_ok-gains.gains.items) found.among found.believed found.said)

pub returns-clause-lean : goal.returns-clause-lean
returns-clause-lean g c =
    let laws = g.met.V.Partial.laws in
    let w = set_of c.args.worldview.now in
    let es = (entries_of c.args.values.now) in
    let v = c.said_together-value.result in
    let whole = returns-clause-value g c in
    let gains = c.in_ok-gains.gains.items in
    let found = c.in_ok-gains.ensures in
    let together = c.in_ok-together.together in
    let light = light_among laws w es (gained_of gains) v together whole found.among found.said
    (c.in_ok-together.ensures.lean w found.believed) in
    elim c.match-alone.branch [
      | in-Some+in_ok-support-in-Some t ↦
          (let e = (entry_of t.in-Some.entry) in
          let gained : Contains (gained_of gains) e = rw c.deref-2.ensures.value at t.in-Some.ensures.among in
          let all = c.count-premises.ensures.count in
          let its = t.count.ensures.count in
          lean_shorter laws w es v together c.match-alone.support e light c.count-premises.ensures.ordered
          (omega (arith, all, its, t.if-count-premises.true))
          (All-contains (Contains es) (gained_of gains) e found.among gained)
          (All-contains (λ x. is_within w x.support ≡ true) (gained_of gains) e found.believed gained)
          whole t.in-Some.ensures.says (t.support-is ∙ t.in_ok-support-in-Some.ensures))
      | in_default t ↦ rw t.support-is (lean_light laws w es v together light)
    ]

pub returns-clause-short : goal.returns-clause-short
returns-clause-short g c x here on is =
    let whole = returns-clause-value g c in
    let gains = c.in_ok-gains.gains.items in
    let found = c.in_ok-gains.ensures in
    elim (found.said x here on) [
      | inl none ↦
          (let nothing : gains ≡ [] = (found.nothing (sym whole ∙ sym is ∙ none)).0 in
          elim c.match-alone.branch [
            | in-Some+in_ok-support-in-Some t ↦
                absurd (none_gained gains (entry_of t.in-Some.entry) nothing
                (rw c.deref-2.ensures.value at t.in-Some.ensures.among))
            | in_default t ↦ rw (t.support-is, c.in_ok-together.ensures.none nothing) (omega arith)
          ])
      | inr gained ↦ elim c.match-alone.branch [
        | in-Some+in_ok-support-in-Some t ↦
            rw (t.support-is, t.in_ok-support-in-Some.ensures)
            ((rw c.deref-2.ensures.value at t.in-Some.ensures.few) x gained
            (rw is (g.met.V.Partial.laws.reflexive c.said_together-value.result)))
        | in_default t ↦ elim t.in_default.branch [
          | in_default-via-in-Some+else-count-premises u ↦
              (let few = (rw c.deref-2.ensures.value at u.in-Some.ensures.few) x gained
              (rw is (g.met.V.Partial.laws.reflexive c.said_together-value.result)) in
              rw t.support-is (omega (
                arith,
                few,
                u.if-count-premises.false,
                u.count.ensures.count,
                c.count-premises.ensures.count,
              )))
          | in_default-via-in_default u ↦ absurd
              ((rw c.deref-2.ensures.value at u.in_default.ensures.few) x gained
              (rw is (g.met.V.Partial.laws.reflexive c.said_together-value.result)))
        ]
      ]
    ]
