use Rattle.std.proofs.Common.{◌≡◌, ◌∙◌, ◌+◌, ℕ, Bool, List, true, false, take, length, sym, refl, ap}
use Rattle.std.proofs.Common.{arith, inl, inr}
use Rattle.std.specs.List.{list_any}
use Rattle.std.proofs.Math.Seq.{take-length}
use Rattle.prop_numbers.specs.Sets.{set_of, is_alike, is_within}
use Rattle.prop_tms.specs.Beliefs.{Subsumes}
use Rattle.prop_tms.proofs.SurveyLemmas.{no_part, unknown_more}
use Rattle.prop_tms.proofs.ValueLemmas.{any_of_all, any_subsumes, count_more, entries_of-take, said_more}
use Rattle.prop_tms.proofs.values.surveyed.Goals as goal
use Rattle.prop_tms.proofs.values.surveyed.Goals.{then-has_part+else-implies-2+then-has_same}
use Rattle.prop_tms.proofs.values.surveyed.Goals.{then-has_part+else-implies-2+else-has_same, else-has_part}

pub returns-then-implies-2-clause-known : goal.returns-then-implies-2-clause-known
returns-then-implies-2-clause-known g c =
    let below = g.V.Partial.below in
    let e = c.args.entry.now in
    let x = c.valued-item.result in
    let has : list_any (λ s. is_within (set_of e.support) s) x.supports.items ≡ true =
    sym (rw c.as_slice-supports.ensures at c.has_part.ensures) ∙ c.if-has_part.true in
    let some = any_subsumes below x.value x.supports.items e
    (c.implies-then-has_part.ensures.0 c.if-implies-2.true) has in
    λ none.
    inr ((any_of_all (λ y. Subsumes below y e) c.args.values.now).0
    (c.loop-valued.valued-index, x, c.loop-valued-test.true, sym c.valued-item.is, some))

pub overflow_add-count : goal.overflow_add-count
overflow_add-count g c =
    let i = c.loop-valued.valued-index in
    let more = count_more c.args.values.now i c.valued-item.result c.loop-valued-test.true c.valued-item.is in
    let all = entries_of-take c.args.values.now (i + 1) in
    let n = ap length c.as_slice-supports.ensures in
    omega (arith, more, all, c.loop-valued.invariant.count, c.requires, n)

pub loop-valued-preserved : goal.loop-valued-preserved
loop-valued-preserved g c =
    let laws = g.met.V.Partial.laws in
    let below = g.V.Partial.below in
    let xs = c.args.values.now in
    let e = c.args.entry.now in
    let i = c.loop-valued.valued-index in
    let x = c.valued-item.result in
    let u : List ℕ → Bool = λ s. is_alike s e.support in
    let l = c.loop-valued-test.true in
    let part : c.has_part.result ≡ list_any (λ s. is_within (set_of e.support) s) x.supports.items =
    rw c.as_slice-supports.ensures at c.has_part.ensures in
    let more = count_more xs i x l c.valued-item.is in
    let n = ap length c.as_slice-supports.ensures in record {
      count = omega (arith, more, c.loop-valued.invariant.count, n);
      said = elim c.if-has_part.branch [
        | then-has_part+else-implies-2+then-has_same t ↦
            (let on : list_any u x.supports.items ≡ true = sym (rw c.as_slice-supports.ensures at t.has_same.ensures)
            ∙ t.if-has_same.true in
            rw (
              t.said-is,
              t.merge-said.ensures,
              said_more laws u xs i x true l c.valued-item.is on,
              ← c.loop-valued.invariant.said,
            ) refl)
        | then-has_part+else-implies-2+else-has_same t ↦
            (let off : list_any u x.supports.items ≡ false =
            sym (rw c.as_slice-supports.ensures at t.has_same.ensures) ∙ t.if-has_same.false in
            rw (t.said-is, said_more laws u xs i x false l c.valued-item.is off, ← c.loop-valued.invariant.said) refl)
        | else-has_part t ↦
            (let off : list_any u x.supports.items ≡ false = no_part e.support x.supports.items
            (sym part ∙ t.if-has_part.false) in
            rw (t.said-is, said_more laws u xs i x false l c.valued-item.is off, ← c.loop-valued.invariant.said) refl)
      ];
      unknown = unknown_more below e xs i x l c.valued-item.is c.loop-valued.invariant.unknown
          (elim c.if-has_part.branch [
            | then-has_part+else-implies-2+then-has_same t ↦
                λ h. cc (t.if-implies-2.false, t.implies-then-has_part.ensures.1 h)
            | then-has_part+else-implies-2+else-has_same t ↦
                λ h. cc (t.if-implies-2.false, t.implies-then-has_part.ensures.1 h)
            | else-has_part t ↦ λ h. sym part ∙ t.if-has_part.false
          ]);
    }

pub returns-clause-new : goal.returns-clause-new
returns-clause-new g c =
    let laws = g.met.V.Partial.laws in
    let xs = c.args.values.now in
    let all : take c.loop-valued.valued-index xs ≡ xs =
    (let e : c.loop-valued.valued-index ≡ length xs = omega
    (arith, c.loop-valued.auto.valued-index-end, c.loop-valued-test.false) in rw e (take-length xs)) in
    λ needless. elim needless [
      | inl bottom ↦ cc (
        c.if-implies.false,
        c.implies.ensures.1
            (rw (c.nothing.ensures, bottom) (laws.reflexive g.V.Partial.bottom)),
      )
      | inr some ↦ (rw all at c.loop-valued.invariant.unknown) some
    ]
