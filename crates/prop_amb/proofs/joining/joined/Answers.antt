use Rattle.std.proofs.Common.{◌≡◌, ◌∙◌, ◌+◌, ◌<◌, ℕ, zero, suc, Bool, true, false, ◌||◌, List, [], ◌∷◌, length, take}
use Rattle.std.proofs.Common.{slice_index_or, refl, sym, arith, add-one}
use Rattle.std.proofs.lemmas.List.{take_all}
use Rattle.prop_numbers.specs.Sets.{Members, set_of, union, without, IsSame}
use Rattle.prop_amb.specs.inner.Joined.{others_of}
use Rattle.prop_amb.proofs.joining.joined.Goals as goal

or_assoc : (x y z : Bool) → (x || (y || z)) ≡ ((x || y) || z)
or_assoc true y z = refl
or_assoc false y z = refl

or_none : (x : Bool) → (x || false) ≡ x
or_none true = refl
or_none false = refl

others_more : (own : ℕ) (reasons : List (List ℕ)) (i p : ℕ) (d : List ℕ) → i < length reasons →
    others_of own (take (suc i) reasons)
    p ≡ (others_of own (take i reasons) p || without (set_of (slice_index_or reasons i d)) (own + i) p)
others_more own [] i p d l = absurd (omega (arith, l))
others_more own (r ∷ reasons) zero p d l = rw (plus_zero own) (or_none (without (set_of r) own p))
  where
    plus_zero : (a : ℕ) → a + 0 ≡ a
    plus_zero a = omega arith
others_more own (r ∷ reasons) (suc i) p d l =
    rw (shift own i, others_more (suc own) reasons i p d (omega (arith, l)))
    (or_assoc (without (set_of r) own p) (others_of (suc own) (take i reasons) p)
    (without (set_of (slice_index_or reasons i d)) (suc own + i) p))
  where
    shift : (a b : ℕ) → a + suc b ≡ suc a + b
    shift a b = omega arith

joined_more : (set joined others new : Members) (premise own i : ℕ) (reasons : List (List ℕ)) (d : List ℕ)
    → i < length reasons →
    IsSame joined (union (without set premise) (others_of own (take i reasons)))
    → IsSame others (without (set_of (slice_index_or reasons i d)) (own + i)) → IsSame new (union joined others) →
    IsSame new (union (without set premise) (others_of own (take (suc i) reasons)))
joined_more set joined others new premise own i reasons d l old other more p =
    more p ∙ rw (old p, other p, others_more own reasons i p d l)
    (sym (or_assoc (without set premise p) (others_of own (take i reasons) p)
    (without (set_of (slice_index_or reasons i d)) (own + i) p)))

pub loop-reason-init : goal.loop-reason-init
loop-reason-init c = record {
  counted = omega arith;
  same = λ p. c.in_ok-joined.ensures p ∙ sym (or_none (without (set_of c.args.set.now) c.args.premise p));
}

pub overflow_add-own : goal.overflow_add-own
overflow_add-own c = omega (arith, c.loop-reason.invariant.counted, c.requires, c.loop-reason-test.true)

pub loop-reason-preserved : goal.loop-reason-preserved
loop-reason-preserved c = record {
  counted = omega (arith, c.loop-reason.invariant.counted);
  same = rw add-one (joined_more (set_of c.args.set.now) (set_of c.loop-reason.joined) (set_of c.in_ok-others.others)
      (set_of c.unite.new.self) c.args.premise c.args.own c.loop-reason.reason-index c.args.reasons.now
      c.reason-item.result c.loop-reason-test.true
      c.loop-reason.invariant.same (λ p. c.in_ok-others.ensures p ∙ at p) c.in_ok-unite.ensures.ok);
}
  where
    at : (p : ℕ) → without (set_of c.reason-item.result) c.loop-reason.own p ≡ without
        (set_of (slice_index_or c.args.reasons.now c.loop-reason.reason-index c.reason-item.result))
        (c.args.own + c.loop-reason.reason-index) p
    at p = rw (← c.reason-item.is, c.loop-reason.invariant.counted) refl

pub returns : goal.returns
returns c p = rw (← (take_all c.loop-reason.reason-index c.args.reasons.now c.loop-reason-test.false))
    (c.loop-reason.invariant.same p)
