use Rattle.std.proofs.Common.{◌≡◌, ◌∙◌, ◌+◌, ◌-◌, ◌<◌, ◌||◌, suc, true, false, List, ℕ, take, drop, length, sym, ap}
use Rattle.std.proofs.Common.{subst, arith}
use Rattle.prop_tms.specs.declared.values.Valued.{Valued}
use Rattle.std.specs.List.{list_any}
use Rattle.std.proofs.lemmas.List.{length-drop}
use Rattle.std.proofs.Math.Seq.{take-length}
use Rattle.prop_numbers.specs.Sets.{set_of, is_within}
use Rattle.prop_tms.proofs.ValueLemmas.{or_first, or_second, said_without}
use Rattle.prop_tms.proofs.trimming.belief_without.Goals as goal
use Rattle.prop_tms.proofs.trimming.belief_without.Goals.{then-believes_any, else-believes_any}

rest_of : {X : Type 0} (xs : List X) (k : ℕ) → take (length xs - (k + 1)) (drop (k + 1) xs) ≡ drop (suc k) xs
rest_of xs k =
    let next : k + 1 ≡ suc k = omega arith in
    rw (← length-drop (k + 1) xs) (take-length (drop (k + 1) xs)) ∙ ap (λ n. drop n xs) next

pub returns-then-believes_any-2 : goal.returns-then-believes_any-2
returns-then-believes_any-2 g c =
    let laws = g.met.V.Partial.laws in
    let w = set_of c.args.worldview.now in
    let xs = c.args.values.now in
    let x = c.index-values-at.result in
    let ss = x.supports.items in
    let first = rw c.deref.ensures at c.believes_any.ensures in
    let some : (list_any (is_within w) (take c.args.place ss) || list_any (is_within w) (drop (suc c.args.place) ss))
    ≡ true =
    elim c.if-believes_any.branch [
      | then-believes_any t ↦ or_first (list_any (is_within w) (take c.args.place ss))
          (list_any (is_within w) (drop (suc c.args.place) ss)) (sym first ∙ t.if-believes_any.true)
      | else-believes_any t ↦
          (let second = rw (t.deref-else-believes_any.ensures, rest_of ss c.args.place)
          at t.believes_any-else-believes_any.ensures in
          or_second (list_any (is_within w) (take c.args.place ss))
          (list_any (is_within w) (drop (suc c.args.place) ss)) true (sym first ∙ t.if-believes_any.false)
          (sym second ∙ sym t.value-is ∙ c.if-believes_any-2.true))
    ] in
    let after = rw (rest_of xs c.args.at) at c.belief.ensures in
    rw (c.merge.ensures, c.merge-others.ensures, c.belief-before.ensures, after)
    (sym (said_without laws w xs c.args.at c.args.place x true c.requires.at c.index-values-at.is
    (subst (λ (y : Valued _). c.args.place < length y.supports.items) (sym c.index-values-at.is)
    (c.requires.place x)) some))

pub returns-else-believes_any-2 : goal.returns-else-believes_any-2
returns-else-believes_any-2 g c =
    let laws = g.met.V.Partial.laws in
    let w = set_of c.args.worldview.now in
    let xs = c.args.values.now in
    let x = c.index-values-at.result in
    let ss = x.supports.items in
    let first = rw c.deref.ensures at c.believes_any.ensures in
    let none : (list_any (is_within w) (take c.args.place ss) || list_any (is_within w) (drop (suc c.args.place) ss))
    ≡ false =
    elim c.if-believes_any.branch [
      | then-believes_any t ↦ cc (t.value-is, c.if-believes_any-2.false)
      | else-believes_any t ↦
          (let second = rw (t.deref-else-believes_any.ensures, rest_of ss c.args.place)
          at t.believes_any-else-believes_any.ensures in
          or_second (list_any (is_within w) (take c.args.place ss))
          (list_any (is_within w) (drop (suc c.args.place) ss)) false (sym first ∙ t.if-believes_any.false)
          (sym second ∙ sym t.value-is ∙ c.if-believes_any-2.false))
    ] in
    let after = rw (rest_of xs c.args.at) at c.belief.ensures in
    rw (c.merge-others.ensures, c.belief-before.ensures, after)
    (sym (said_without laws w xs c.args.at c.args.place x false c.requires.at c.index-values-at.is
    (subst (λ (y : Valued _). c.args.place < length y.supports.items) (sym c.index-values-at.is)
    (c.requires.place x)) none))
