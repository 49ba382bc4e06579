-- What a stand tells of its users' premises and of its reasons.
use Rattle.std.proofs.Common.{◌≡◌, ℕ, zero, suc, ◌+◌, ◌-◌, ◌<◌, ◌≤◌, IsTrue, false, List, [], ◌∷◌, length, Some, refl}
use Rattle.std.proofs.Common.{arith, slice_get}
use Rattle.prop_premises.specs.Origins.{Origin, User, Side, is_user_at, believed_in}
use Rattle.prop_premises.specs.ChoiceLists.{is_hypothetical}
use Rattle.prop_amb.specs.Search.{Stand, IsStand, users_of, choices_in, reason_at}
use Rattle.prop_amb.proofs.ZipLemmas.{zip_at, index_at}

pub believed_user : (os : List Origin) (p : ℕ) → IsTrue (believed_in os p) → IsTrue (is_user_at os p)
believed_user [] p h = cc
believed_user (User name believed ∷ os) zero h = refl
believed_user (Side name side sides ∷ os) zero h = cc
believed_user (o ∷ os) (suc p) h = believed_user os p h

pub users_no_sides : (s : Stand) → IsStand s → (p : ℕ) → IsTrue (users_of s p)
    → is_hypothetical (choices_in s) p ≡ false
users_no_sides s stand p h = stand.numbered.users p (believed_user s.premises p h)

get_below : {A : Type 0} (xs : List A) (k : ℕ) → k < length xs → (x : A) × (slice_get xs k ≡ Some x)
get_below [] k l = absurd (omega (arith, l))
get_below (x ∷ xs) zero l = (x, refl)
get_below (x ∷ xs) (suc k) l = get_below xs k (omega (arith, l))

-- against each side before the one on which a choice stands there is a reason
pub has_reason : (s : Stand) → IsStand s → (j side stands : ℕ) → slice_get s.list j ≡ Some stands → 1 ≤ side
    → side < stands → (reason : List ℕ) × (reason_at s j side ≡ Some reason)
has_reason s stand j side stands at from_one before =
    let x = zip_at (λ side reasons. length reasons + 1 ≡ side) s.list s.reasons j stands stand.reasoned at in
    let r = get_below x.0 (side - 1) (omega (arith, from_one, before, x.2)) in
    (r.0, rw (index_at s.reasons j x.0 [] x.1) r.1)
