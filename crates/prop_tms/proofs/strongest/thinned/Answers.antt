use Rattle.std.proofs.Common.{◌++◌, ◌∷◌, [], ◌≡◌, ◌≤◌, ◌∙◌, sym, ap, List, All, Contains, IsTrue, length, take, arith}
use Rattle.std.proofs.Common.{append_assoc}
use Rattle.std.proofs.Math.Seq.{take-nil}
use Rattle.std.proofs.lemmas.List.{nil_from_length}
use Rattle.std.proofs.lemmas.List.Elements.{All-contains, All-contains_itself}
use Rattle.prop_numbers.specs.Sets.{is_within}
use Rattle.prop_tms.specs.Beliefs.{merge_of_all}
use Rattle.prop_tms.specs.inner.Gains.{AreGains, entry_of, gained_of}
use Rattle.prop_tms.proofs.LeanLemmas.{IsThinned, IsThinned-init, IsLight-thinned, IsThinned-keep, AreGains-front}
use Rattle.prop_tms.proofs.LeanLemmas.{gained_of-push, All-front, All-last, All-first, first_enough, says_kept}
use Rattle.prop_tms.proofs.LeanLemmas.{thinned_first, lighter_before, front_first, front_less}
use Rattle.prop_tms.proofs.strongest.thinned.Goals as goal

none_left : {X : Type 0} (xs : List X) (x : X) → xs ++ x ∷ [] ≡ [] → ⊥
none_left [] x e = absurd (cc)
none_left (y ∷ ys) x e = absurd (cc)

pub loop-gain-init : goal.loop-gain-init
loop-gain-init g c =
    let laws = g.met.V.Partial.laws in
    let row = c.args.gains.items in
    let all = gained_of row in
    let n = c.enough.result in
    let after = c.nothing-after.result in
    let support = c.empty-support.result in
    let value = c.args.value in
    let bound : n ≤ length row = rw c.deref.ensures.value at c.enough.ensures.bound in
    let says : g.V.Partial.below value (g.V.Partial.join
    (merge_of_all g.V.Partial.bottom g.V.Partial.join (gained_of (take n row))) after) = rw c.deref.ensures.value
    at c.enough.ensures.says in
    record {
      enough = rw c.truncate.ensures.items
          (first_enough laws row n after value c.requires.gains bound says
          (λ k is. rw c.deref.ensures.value at (c.enough.ensures.needed k is)));
      none = λ none. c.truncate.ensures.items ∙ ap (take n) none ∙ take-nil n;
      empty = λ none. c.empty-support.ensures;
      among = rw c.truncate.ensures.items (All-first (Contains all) row n (All-contains_itself all));
      front = rw c.truncate.ensures.items (front_first row n);
      thinned = λ w believed.
          let start : IsThinned g.V.Partial.bottom g.V.Partial.join all w value all after support =
          rw (c.nothing-after.ensures, c.empty-support.ensures)
          (IsThinned-init laws all w value all (sym c.requires.value)) in
          rw c.truncate.ensures.items (thinned_first laws all w value row n after support c.requires.value start says);
    }

pub enough-requires-in-Some-clause-gains : goal.enough-requires-in-Some-clause-gains
enough-requires-in-Some-clause-gains g c =
    let left = c.pop.new.self.items in
    rw c.deref-in-Some.ensures.value (AreGains-front g.met.V.Partial.laws g.V.Partial.bottom left c.in-Some.gain
    (rw c.in-Some.ensures.items at c.loop-gain.invariant.enough.gains))

pub enough-requires-in-Some-clause-all : goal.enough-requires-in-Some-clause-all
enough-requires-in-Some-clause-all g c =
    let left = c.pop.new.self.items in
    let before = rw c.in-Some.ensures.items at c.loop-gain.invariant.enough.says in
    rw (c.deref-in-Some.ensures.value, c.merge-after.ensures)
    (says_kept g.met.V.Partial.laws left c.in-Some.gain c.loop-gain.after c.args.value before)

pub loop-gain-preserved : goal.loop-gain-preserved
loop-gain-preserved g c =
    let laws = g.met.V.Partial.laws in
    let bottom = g.V.Partial.bottom in
    let join = g.V.Partial.join in
    let value = c.args.value in
    let all = gained_of c.args.gains.items in
    let left = c.pop.new.self.items in
    let gain = c.in-Some.gain in
    let e = entry_of gain.entry in
    let kept = c.loop-gain.invariant in
    let items = c.in-Some.ensures.items in
    let n = c.enough-in-Some.result in
    let after = c.merge-after.result in
    let support = c.in_ok-support.support in
    let is = c.deref-in-Some.ensures.value in
    let cut = c.truncate-in-Some.ensures.items in
    let row : AreGains join bottom left = AreGains-front laws bottom left gain (rw items at kept.enough.gains) in
    let bound : n ≤ length left = rw is at c.enough-in-Some.ensures.bound in
    let says : g.V.Partial.below value (join (merge_of_all bottom join (gained_of (take n left))) after) =
    rw is at c.enough-in-Some.ensures.says in
    let among : All (Contains all) (gained_of left ++ e ∷ []) = rw (items, gained_of-push left gain) at kept.among in
    let parts : all ≡ gained_of left ++ e ∷ kept.front.0 =
    kept.front.1 ∙ ap (λ xs. gained_of xs ++ kept.front.0) items
    ∙ ap (λ xs. xs ++ kept.front.0) (gained_of-push left gain)
    ∙ append_assoc (gained_of left) (e ∷ []) kept.front.0 in
    let here : Contains all e = All-last (Contains all) (gained_of left) e among in
    record {
      enough = rw cut (first_enough laws left n after value row bound says
          (λ k m. rw is at (c.enough-in-Some.ensures.needed k m)));
      none = λ none. absurd (none_left left gain (sym items ∙ kept.none none));
      empty = λ none. absurd (none_left left gain (sym items ∙ kept.none none));
      among = rw cut (All-first (Contains all) left n (All-front (Contains all) (gained_of left) e among));
      front = rw cut (front_less (gained_of c.args.gains.items) left n (entry_of gain.entry ∷ kept.front.0) parts);
      thinned = λ w believed.
          let before : IsThinned bottom join all w value (gained_of left ++ e ∷ []) c.loop-gain.after
          c.loop-gain.support = rw (items, gained_of-push left gain) at (kept.thinned w believed) in
          let on = All-contains (λ x. IsTrue (is_within w x.support)) all e believed here in
          let chosen = IsThinned-keep laws all w value (gained_of left) e c.loop-gain.after c.loop-gain.support support
          before (kept.enough.needed left gain items) here on
          (λ x light. lighter_before all (gained_of left) kept.front.0 e x c.requires.ranked parts light)
          c.in_ok-support.ensures in
          let now : IsThinned bottom join all w value (gained_of left) after support =
          rw c.merge-after.ensures chosen in
          rw cut (thinned_first laws all w value left n after support c.requires.value now says);
    }

pub returns-clause-lean : goal.returns-clause-lean
returns-clause-lean g c w believed =
    let nothing : c.loop-gain.gains.items ≡ [] =
    nil_from_length c.loop-gain.gains.items (omega (arith, c.in_default.ensures.cases, c.loop-gain.gains.ok.0)) in
    IsLight-thinned g.met.V.Partial.laws (gained_of c.args.gains.items) w c.args.value c.loop-gain.after
    c.loop-gain.support c.requires.value (rw nothing at (c.loop-gain.invariant.thinned w believed))
