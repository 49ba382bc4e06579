use Rattle.std.proofs.Common.{◌≡◌, ℕ, ◌+◌, ◌-◌, ◌<◌, length, subst, sym, ap, arith}
use Rattle.prop_numbers.specs.Sets.{set_of}
use Rattle.prop_amb.specs.Search.{Stand, IsStand}
use Rattle.prop_amb.specs.Culprits.IsCulprit.{own}
use Rattle.prop_amb.proofs.Shown.{IsWithin}
use Rattle.prop_amb.specs.contracts.search.Search.{the_view}
use Rattle.prop_amb.proofs.CulpritLaws.{joined_culprits}
use Rattle.prop_amb.proofs.LookingLaws.{choices_count, reasons_count, stands_here, reasons_here, is_its_side}
use Rattle.prop_amb.proofs.LookingLaws.{side_small, reasons_before, looked_free, looked_reason, looked_joined}
use Rattle.prop_amb.proofs.ResolvingLaws.{nogood_shown, believed_within, shown_rules_out}
use Rattle.prop_amb.proofs.search.Search.resolve.Goals as goal

pub loop-place-init : goal.loop-place-init
loop-place-init c = record {
  shown = λ problem h nogood listed.
      let stand : IsStand c.args.self.now = subst (λ (s : Stand). IsStand s) c.self.view_is c.self.invariant.0 in
      let level : c.args.self.now.level ≡ c.self.inside.level = sym (ap (λ (s : Stand). s.level) c.self.view_is) in (
        subst (λ (k : ℕ). IsWithin c.args.self.now k (set_of c.args.nogood)) level
            (believed_within c.args.self.now (set_of c.args.nogood) stand c.requires.believed),
        nogood_shown problem c.args.self.now (set_of c.args.nogood) nogood listed,
      );
  culprits = λ p t. own p t;
}

pub returns-then-side-choice-clause-below : goal.returns-then-side-choice-clause-below
returns-then-side-choice-clause-below c =
    let level : c.self.inside.level ≡ c.args.self.now.level = ap (λ (s : Stand). s.level) c.self.view_is in
    omega (arith, level, c.loop-place-test.true, c.loop-place.auto.place)

pub offset_bounds-choices-place : goal.offset_bounds-choices-place
offset_bounds-choices-place c =
    let l : c.loop-place.place - 1 < length c.self.inside.list.items =
    omega (arith, c.loop-place-test.true, c.loop-place.auto.place, c.self.invariant.0.level) in
    omega (
      arith,
      l,
      choices_count (the_view c.self.inside) c.self.invariant.0,
      c.choices.type_inv,
      ap length c.choices.ensures,
    )

pub bounds-choices-place : goal.bounds-choices-place
bounds-choices-place c =
    let l : c.loop-place.place - 1 < length c.self.inside.list.items =
    omega (arith, c.loop-place-test.true, c.loop-place.auto.place, c.self.invariant.0.level) in
    omega (arith, l, choices_count (the_view c.self.inside) c.self.invariant.0, ap length c.choices.ensures)

pub overflow_sub-side : goal.overflow_sub-side
overflow_sub-side c =
    let l : c.loop-place.place - 1 < length c.self.inside.list.items =
    omega (arith, c.loop-place-test.true, c.loop-place.auto.place, c.self.invariant.0.level) in
    let here = stands_here (the_view c.self.inside) c.args.self.now (c.loop-place.place - 1) c.choices.result.now
    (record { first = 0; sides = 0 }) c.index-side.result.now c.self.view_is c.self.invariant.0
    (rw (← c.self.view_is) l) c.choices.ensures c.index-side.ensures in
    (is_its_side c.args.self.now (c.loop-place.place - 1) _ c.index-side.result.now here).0

pub overflow_add-premise : goal.overflow_add-premise
overflow_add-premise c =
    let l : c.loop-place.place - 1 < length c.self.inside.list.items =
    omega (arith, c.loop-place-test.true, c.loop-place.auto.place, c.self.invariant.0.level) in
    let here = stands_here (the_view c.self.inside) c.args.self.now (c.loop-place.place - 1) c.choices.result.now
    (record { first = 0; sides = 0 }) c.index-side.result.now c.self.view_is c.self.invariant.0
    (rw (← c.self.view_is) l) c.choices.ensures c.index-side.ensures in
    let small = side_small c.args.self.now (c.loop-place.place - 1) _ c.index-side.result.now here
    (length c.self.inside.premises) (rw (← c.self.view_is) c.self.invariant.0.numbered.below) in
    omega (arith, small, c.from.ensures, c.self.invariant.0.few)

pub returns-then-side-choice-clause-may : goal.returns-then-side-choice-clause-may
returns-then-side-choice-clause-may c =
    let l : c.loop-place.place - 1 < length c.self.inside.list.items =
    omega (arith, c.loop-place-test.true, c.loop-place.auto.place, c.self.invariant.0.level) in
    let here = stands_here (the_view c.self.inside) c.args.self.now (c.loop-place.place - 1) c.choices.result.now
    (record { first = 0; sides = 0 }) c.index-side.result.now c.self.view_is c.self.invariant.0
    (rw (← c.self.view_is) l) c.choices.ensures c.index-side.ensures in
    record {
      may = record {
        choice = _;
        side = c.index-side.result.now;
        choice_at = here.choice_at;
        side_at = here.side_at;
        more = c.if-side-choice.true;
      };
      culprit = c.loop-place.invariant.culprits _ (sym (rw c.from.ensures at c.if-contains.ensures));
    }

pub returns-then-side-choice-clause-resolved : goal.returns-then-side-choice-clause-resolved
returns-then-side-choice-clause-resolved c problem h nogood listed =
    let l : c.loop-place.place - 1 < length c.self.inside.list.items =
    omega (arith, c.loop-place-test.true, c.loop-place.auto.place, c.self.invariant.0.level) in
    let here = stands_here (the_view c.self.inside) c.args.self.now (c.loop-place.place - 1) c.choices.result.now
    (record { first = 0; sides = 0 }) c.index-side.result.now c.self.view_is c.self.invariant.0
    (rw (← c.self.view_is) l) c.choices.ensures c.index-side.ensures in
    let place : c.loop-place.place ≡ c.loop-place.place - 1 + 1 = omega (arith, c.loop-place-test.true) in
    let known = c.loop-place.invariant.shown problem h nogood listed in
    let within = subst (λ (k : ℕ). IsWithin c.args.self.now k (set_of c.loop-place.set)) place known.0 in
    looked_reason problem c.args.self.now (c.loop-place.place - 1) _ c.index-side.result.now _ here h within known.1
    (sym (rw c.from.ensures at c.if-contains.ensures))

pub index-requires : goal.index-requires
index-requires c =
    let l : c.loop-place.place - 1 < length c.self.inside.list.items =
    omega (arith, c.loop-place-test.true, c.loop-place.auto.place, c.self.invariant.0.level) in
    omega (arith, l, reasons_count (the_view c.self.inside) c.self.invariant.0, c.self.inside.reasons.ok)

pub joined-requires : goal.joined-requires
joined-requires c =
    let l : c.loop-place.place - 1 < length c.self.inside.list.items =
    omega (arith, c.loop-place-test.true, c.loop-place.auto.place, c.self.invariant.0.level) in
    let here = stands_here (the_view c.self.inside) c.args.self.now (c.loop-place.place - 1) c.choices.result.now
    (record { first = 0; sides = 0 }) c.index-side.result.now c.self.view_is c.self.invariant.0
    (rw (← c.self.view_is) l) c.choices.ensures c.index-side.ensures in
    let small = side_small c.args.self.now (c.loop-place.place - 1) _ c.index-side.result.now here
    (length c.self.inside.premises) (rw (← c.self.view_is) c.self.invariant.0.numbered.below) in
    let kept_at = reasons_here (the_view c.self.inside) c.args.self.now (c.loop-place.place - 1) c.index.result.now
    c.self.view_is c.self.invariant.0 (rw (← c.self.view_is) l) c.index.ensures in
    let count = reasons_before c.args.self.now (c.loop-place.place - 1) _ c.index-side.result.now here
    c.index.result.now kept_at in
    omega (arith, small, count, ap length c.sets-reasons.ensures, c.self.invariant.0.few)

pub loop-place-preserved-then-contains : goal.loop-place-preserved-then-contains
loop-place-preserved-then-contains c =
    let l : c.loop-place.place - 1 < length c.self.inside.list.items =
    omega (arith, c.loop-place-test.true, c.loop-place.auto.place, c.self.invariant.0.level) in
    let here = stands_here (the_view c.self.inside) c.args.self.now (c.loop-place.place - 1) c.choices.result.now
    (record { first = 0; sides = 0 }) c.index-side.result.now c.self.view_is c.self.invariant.0
    (rw (← c.self.view_is) l) c.choices.ensures c.index-side.ensures in
    let kept_at = reasons_here (the_view c.self.inside) c.args.self.now (c.loop-place.place - 1) c.index.result.now
    c.self.view_is c.self.invariant.0 (rw (← c.self.view_is) l) c.index.ensures in
    let place : c.loop-place.place ≡ c.loop-place.place - 1 + 1 = omega (arith, c.loop-place-test.true) in
    let holds = sym (rw c.from.ensures at c.if-contains.ensures) in
    let joined = rw (c.from.ensures, c.sets-reasons.ensures) at c.in_ok-set.ensures in
    record {
      shown = λ problem h nogood listed.
          let known = c.loop-place.invariant.shown problem h nogood listed in
          let within = subst (λ (k : ℕ). IsWithin c.args.self.now k (set_of c.loop-place.set)) place known.0 in
          looked_joined problem c.args.self.now (c.loop-place.place - 1) _ c.index-side.result.now _ here h within
          known.1 _ c.index.result.now c.if-side-choice.false kept_at holds joined;
      culprits = joined_culprits c.args.self.now c.args.nogood (c.loop-place.place - 1) _ c.index-side.result.now _ _
          c.index.result.now here c.if-side-choice.false kept_at holds joined
          c.loop-place.invariant.culprits;
    }

pub loop-place-preserved : goal.loop-place-preserved
loop-place-preserved c =
    let l : c.loop-place.place - 1 < length c.self.inside.list.items =
    omega (arith, c.loop-place-test.true, c.loop-place.auto.place, c.self.invariant.0.level) in
    let here = stands_here (the_view c.self.inside) c.args.self.now (c.loop-place.place - 1) c.choices.result.now
    (record { first = 0; sides = 0 }) c.index-side.result.now c.self.view_is c.self.invariant.0
    (rw (← c.self.view_is) l) c.choices.ensures c.index-side.ensures in
    let place : c.loop-place.place ≡ c.loop-place.place - 1 + 1 = omega (arith, c.loop-place-test.true) in
    record {
      shown = λ problem h nogood listed.
          let known = c.loop-place.invariant.shown problem h nogood listed in
          let within = subst (λ (k : ℕ). IsWithin c.args.self.now k (set_of c.loop-place.set)) place known.0 in
          looked_free problem c.args.self.now (c.loop-place.place - 1) _ c.index-side.result.now _ here h within known.1
          (sym (rw c.from.ensures at c.if-contains.ensures));
      culprits = c.loop-place.invariant.culprits;
    }

pub returns-clause-resolved : goal.returns-clause-resolved
returns-clause-resolved c problem h nogood listed =
    let place : c.loop-place.place ≡ 0 = omega (arith, c.loop-place-test.false) in
    let known = c.loop-place.invariant.shown problem h nogood listed in
    shown_rules_out problem c.args.self.now (set_of c.loop-place.set)
    (subst (λ (k : ℕ). IsWithin c.args.self.now k (set_of c.loop-place.set)) place known.0) known.1

pub returns-then-side-choice-clause-culprits : goal.returns-then-side-choice-clause-culprits
returns-then-side-choice-clause-culprits c = c.loop-place.invariant.culprits

pub returns-clause-culprits : goal.returns-clause-culprits
returns-clause-culprits c = c.loop-place.invariant.culprits
