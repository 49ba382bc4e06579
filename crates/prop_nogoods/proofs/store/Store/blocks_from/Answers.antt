use Rattle.std.proofs.Common.{◌≡◌, ℕ, List, Some, None, length, refl, ◌∙◌, ap, Contains}
use Rattle.std.specs.Prelude.{slice_get}
use Rattle.prop_numbers.specs.Sets.{set_of}
use Rattle.prop_nogoods.specs.inner.Endings.{sets_of}
use Rattle.prop_nogoods.specs.Stores.{PartsEndBelow, NoneEndsBelow}
use Rattle.prop_nogoods.proofs.BelievedLemmas.{end_below_same, each_has_one, no_part_from}
use Rattle.prop_nogoods.proofs.store.Store.blocks_from.Goals as goal
use Rattle.prop_nogoods.proofs.store.Store.blocks_from.Goals.{in_default-via-in-Some+else-size-eq0}
use Rattle.prop_nogoods.proofs.store.Store.blocks_from.Goals.{in_default-via-in_default}

-- the first nogood has a premise
first_has_one : (c : goal.After-from_residual) → (line : List ℕ) → slice_get c.self.inside.nogoods.items 0 ≡ Some line
    → ¬ (length line ≡ 0)
first_has_one c line is empty = elim c.in_default.branch [
  | in_default-via-in-Some+else-size-eq0 v ↦
      let same : Some v.in-Some.first.now ≡ Some line = v.in-Some.ensures.value
      ∙ ap (λ xs. slice_get xs 0) c.deref.ensures.value ∙ is in
      let its : v.in-Some.first.now ≡ line = cc same in
      v.if-size-eq0.false (v.size.ensures ∙ ap length its ∙ empty)
  | in_default-via-in_default v ↦
      let same : None ≡ Some line = v.in_default.ensures.value ∙ ap (λ xs. slice_get xs 0) c.deref.ensures.value ∙ is in
      cc same
]

pub returns-in_err-nogood-in_default-clause-none : goal.returns-in_err-nogood-in_default-clause-none
returns-in_err-nogood-in_default-clause-none c none =
    let sets = c.self.inside.nogoods.items in
    let groups = c.self.inside.by_last.items in
    let w = set_of c.args.worldview.now in
    let p = c.args.from in
    let below : PartsEndBelow (sets_of groups) w p =
    rw c.deref-in_default.ensures.value at (c.in_err-nogood-in_default.ensures.none refl) in
    let others : NoneEndsBelow sets w p = rw (← c.self.view_is) at c.requires in
    rw (← c.self.view_is)
    (no_part_from sets w p (end_below_same sets (sets_of groups) w p c.self.invariant.3 below) others
    (each_has_one sets c.self.invariant.2 (first_has_one c)))

pub returns-in_ok-nogood-in_default-clause-listed : goal.returns-in_ok-nogood-in_default-clause-listed
returns-in_ok-nogood-in_default-clause-listed c =
    let n = c.in_ok-nogood-in_default.nogood.now in
    let listed : Contains (sets_of c.self.inside.by_last.items) n =
    rw c.deref-in_default.ensures.value at c.in_ok-nogood-in_default.ensures.listed in
    rw (c.premises-in_default.ensures, ← c.self.view_is) (c.self.invariant.3.second n listed)
