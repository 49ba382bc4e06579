use Rattle.std.proofs.Common.{◌≡◌, ◌∙◌, Bool, true, false, not, sym, ap}
use Rattle.prop_numbers.specs.Sets.{set_of}
use Rattle.prop_nogoods.specs.Stores.{has_part}
use Rattle.prop_nogoods.specs.inner.Endings.{sets_of}
use Rattle.prop_nogoods.proofs.AmongLemmas.{has_part-same}
use Rattle.prop_nogoods.proofs.StoreLemmas.{adds_known}
use Rattle.prop_nogoods.proofs.store.Store.add.Goals as goal

absurd_told : {P : Type 0} (told has : Bool) → told ≡ has → told ≡ false → has ≡ true → P
absurd_told told has is untold listed = absurd (by told has is untold listed)
  where
    by : (a b : Bool) → a ≡ b → a ≡ false → b ≡ true → ⊥
    by true b e f t = cc
    by false true e f t = cc
    by false false e f t = cc

pub add_new-requires : goal.add_new-requires
add_new-requires c =
    let sets = c.self.inside.nogoods.items in
    let groups = c.self.inside.by_last.items in
    let w = set_of c.args.nogood in
    let told : c.has_part_among.result ≡ has_part (sets_of groups) w =
    rw c.deref.ensures.value at c.has_part_among.ensures in
    rw (← c.self.view_is) (sym (told ∙ has_part-same sets (sets_of groups) w c.self.invariant.3)
    ∙ c.if-has_part_among.false)

pub returns-then-has_part_among-clause-adds : goal.returns-then-has_part_among-clause-adds
returns-then-has_part_among-clause-adds c =
    let sets = c.self.inside.nogoods.items in
    let groups = c.self.inside.by_last.items in
    let w = set_of c.args.nogood in
    let told : c.has_part_among.result ≡ has_part (sets_of groups) w =
    rw c.deref.ensures.value at c.has_part_among.ensures in
    rw (← c.self.view_is) (adds_known sets c.args.nogood
    (sym (told ∙ has_part-same sets (sets_of groups) w c.self.invariant.3) ∙ c.if-has_part_among.true))

pub returns-then-has_part_among-clause-new : goal.returns-then-has_part_among-clause-new
returns-then-has_part_among-clause-new c =
    let sets = c.self.inside.nogoods.items in
    let groups = c.self.inside.by_last.items in
    let w = set_of c.args.nogood in
    let told : c.has_part_among.result ≡ has_part (sets_of groups) w =
    rw c.deref.ensures.value at c.has_part_among.ensures in
    rw (← c.self.view_is) (ap not (sym c.if-has_part_among.true ∙ told
    ∙ has_part-same sets (sets_of groups) w c.self.invariant.3))

pub returns-in_err-add_new-clause-known : goal.returns-in_err-add_new-clause-known
returns-in_err-add_new-clause-known c = λ known.
    let sets = c.self.inside.nogoods.items in
    let groups = c.self.inside.by_last.items in
    let w = set_of c.args.nogood in
    let told : c.has_part_among.result ≡ has_part (sets_of groups) w =
    rw c.deref.ensures.value at c.has_part_among.ensures in
    absurd_told c.has_part_among.result (has_part sets w)
    (told ∙ has_part-same sets (sets_of groups) w c.self.invariant.3) c.if-has_part_among.false
    (rw (← c.self.view_is) at known)

pub returns-clause-new : goal.returns-clause-new
returns-clause-new c =
    let sets = c.self.inside.nogoods.items in
    let groups = c.self.inside.by_last.items in
    let w = set_of c.args.nogood in
    let told : c.has_part_among.result ≡ has_part (sets_of groups) w =
    rw c.deref.ensures.value at c.has_part_among.ensures in
    rw (← c.self.view_is) (ap not (sym c.if-has_part_among.false ∙ told
    ∙ has_part-same sets (sets_of groups) w c.self.invariant.3))

pub returns-clause-known : goal.returns-clause-known
returns-clause-known c = λ known.
    let sets = c.self.inside.nogoods.items in
    let groups = c.self.inside.by_last.items in
    let w = set_of c.args.nogood in
    let told : c.has_part_among.result ≡ has_part (sets_of groups) w =
    rw c.deref.ensures.value at c.has_part_among.ensures in
    absurd_told c.has_part_among.result (has_part sets w)
    (told ∙ has_part-same sets (sets_of groups) w c.self.invariant.3) c.if-has_part_among.false
    (rw (← c.self.view_is) at known)
