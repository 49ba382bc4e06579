-- Premises in order of number, and which of them are believed.
use Rattle.std.proofs.Common.{◌≡◌, ℕ, zero, suc, ◌<◌, Bool, true, false, List, [], ◌∷◌, ◌++◌, length, refl, ap, arith}
use Rattle.std.proofs.Common.{slice_get, IsTrue, None, ◌≤◌, ◌||◌, ◌&&◌, ◌==◌, not, ◌∙◌, sym}
use Rattle.std.proofs.lemmas.Bool.Decides.{nat_tests}
use Rattle.std.specs.Option.{option_map_or}
use Rattle.prop_premises.specs.Origins.{Origin, User, Side, is_user_at, is_user, believed_in}
use Rattle.prop_premises.specs.inner.Origins.{is_believed, with_belief}
use Rattle.prop_premises.specs.Origins.{with_belief_at, side_of, side_at, starts, is_start}
use Rattle.prop_numbers.specs.Sets.{set_of, union, without, IsSame}

pub in_range : (os : List Origin) (p : ℕ) → IsTrue (is_user_at os p) → p < length os
in_range [] p h = cc
in_range (o ∷ os) zero h = omega arith
in_range (o ∷ os) (suc p) h = omega (arith, in_range os p h)

-- ---- what is told of a number is told of the premise that has it

pub is_user_at-at : (os : List Origin) (p : ℕ) → is_user_at os p ≡ option_map_or is_user (slice_get os p) false
is_user_at-at [] p = refl
is_user_at-at (o ∷ os) zero = refl
is_user_at-at (o ∷ os) (suc p) = is_user_at-at os p

pub believed_in-at : (os : List Origin) (p : ℕ) → believed_in os p ≡ option_map_or is_believed (slice_get os p) false
believed_in-at [] p = refl
believed_in-at (o ∷ os) zero = refl
believed_in-at (o ∷ os) (suc p) = believed_in-at os p

-- what has no number is not believed
pub believed_in-past : (os : List Origin) (p : ℕ) → length os ≤ p → believed_in os p ≡ false
believed_in-past [] p l = refl
believed_in-past (o ∷ os) zero l = absurd (omega (arith, l))
believed_in-past (o ∷ os) (suc p) l = believed_in-past os p (omega (arith, l))

pub side_at-at : (os : List Origin) (p : ℕ) → side_at os p ≡ option_map_or side_of (slice_get os p) None
side_at-at [] p = refl
side_at-at (o ∷ os) zero = refl
side_at-at (o ∷ os) (suc p) = side_at-at os p

pub is_start-at : (os : List Origin) (p : ℕ) → p < length os
    → is_start os p ≡ option_map_or starts (slice_get os p) true
is_start-at [] p l = absurd (omega (arith, l))
is_start-at (o ∷ os) zero l = refl
is_start-at (o ∷ os) (suc p) l = is_start-at os p (omega (arith, l))

believed_user : (o : Origin) → is_believed o ≡ true → is_user o ≡ true
believed_user (User name believed) h = refl
believed_user (Side choice side sides) h = cc

-- only premises of the user's are believed
pub is_user_at-believed : (os : List Origin) (p : ℕ) → IsTrue (believed_in os p) → IsTrue (is_user_at os p)
is_user_at-believed [] p h = cc
is_user_at-believed (o ∷ os) zero h = believed_user o h
is_user_at-believed (o ∷ os) (suc p) h = is_user_at-believed os p h

pub is_user_at-push : (os : List Origin) (name : List ℕ) (believed : Bool) (p : ℕ) → p ≡ length os
    → is_user_at (os ++ User name believed ∷ []) p ≡ true
is_user_at-push [] name believed p e = rw e refl
is_user_at-push (o ∷ os) name believed zero e = absurd (omega arith)
is_user_at-push (o ∷ os) name believed (suc p) e = is_user_at-push os name believed p (omega arith)

-- ---- what a change at one place does to the beliefs

suc_eq : (p q : ℕ) → (suc p == suc q) ≡ (p == q)
suc_eq p q = grind (arith, nat_tests)

off : (o : Origin) → is_believed (with_belief false o) ≡ false
off (User name believed) = refl
off (Side choice side sides) = refl

on : (o : Origin) → is_user o ≡ true → is_believed (with_belief true o) ≡ true
on (User name believed) h = refl
on (Side choice side sides) h = cc

goes : (now before here : Bool) → now ≡ false → here ≡ true → now ≡ (before && not here)
goes now true here h k = rw (h, k) refl
goes now false here h k = h

stays_without : (before here : Bool) → here ≡ false → before ≡ (before && not here)
stays_without true here h = rw h refl
stays_without false here h = refl

comes : (now before here : Bool) → now ≡ true → here ≡ true → now ≡ (before || (here || false))
comes now true here h k = h
comes now false here h k = rw (h, k) refl

stays_with : (before here : Bool) → here ≡ false → before ≡ (before || (here || false))
stays_with true here h = refl
stays_with false here h = rw h refl

-- one premise is out, and all others are as before
pub believed_in-kicked : (os : List Origin) (p : ℕ)
    → IsSame (believed_in (with_belief_at os p false)) (without (believed_in os) p)
believed_in-kicked [] p q = refl
believed_in-kicked (o ∷ os) zero zero =
    goes (is_believed (with_belief false o)) (is_believed o) (0 == 0) (off o) (grind (arith, nat_tests))
believed_in-kicked (o ∷ os) zero (suc q) = stays_without (believed_in os q) (0 == suc q) (grind (arith, nat_tests))
believed_in-kicked (o ∷ os) (suc p) zero = stays_without (is_believed o) (suc p == 0) (grind (arith, nat_tests))
believed_in-kicked (o ∷ os) (suc p) (suc q) = believed_in-kicked os p q
    ∙ ap (λ b. believed_in os q && not b) (sym (suc_eq p q))

-- one premise is in, and all others are as before
pub believed_in-brought : (os : List Origin) (p : ℕ) → IsTrue (is_user_at os p)
    → IsSame (believed_in (with_belief_at os p true)) (union (believed_in os) (set_of (p ∷ [])))
believed_in-brought [] p h q = cc
believed_in-brought (o ∷ os) zero h zero =
    comes (is_believed (with_belief true o)) (is_believed o) (0 == 0) (on o h) (grind (arith, nat_tests))
believed_in-brought (o ∷ os) zero h (suc q) = stays_with (believed_in os q) (0 == suc q) (grind (arith, nat_tests))
believed_in-brought (o ∷ os) (suc p) h zero = stays_with (is_believed o) (suc p == 0) (grind (arith, nat_tests))
believed_in-brought (o ∷ os) (suc p) h (suc q) = believed_in-brought os p h q
    ∙ ap (λ b. believed_in os q || (b || false)) (sym (suc_eq p q))
