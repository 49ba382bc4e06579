-- The number of a refusal tells which it is.
use Rattle.std.proofs.Common.{◌≡◌, ◌≢◌, ℕ, refl, ap, sym, ◌∙◌, List, [], ◌∷◌}
use Rattle.std.specs.Prelude.{get_or}
use Rattle.prop_refusals.specs.Refusals.{number_of}
use Rattle.prop_refusals.specs.Refusals.{NumbersTellApart}
use Rattle.prop_refusals.specs.declared.refusal.Refusal.{Refusal}
use Rattle.prop_refusals.specs.declared.refusal.Refusal.TheVariants.{LineTooLong, NotUtf8, UnknownCommand, WrongForm}
use Rattle.prop_refusals.specs.declared.refusal.Refusal.TheVariants.{NotAName, NotANumber, NameTaken, NoSuchDomain}
use Rattle.prop_refusals.specs.declared.refusal.Refusal.TheVariants.{NoSuchRelation, NoSuchCell, NoSuchPremise}
use Rattle.prop_refusals.specs.declared.refusal.Refusal.TheVariants.{NoSuchProcedure, WrongCount, WrongKind}
use Rattle.prop_refusals.specs.declared.refusal.Refusal.TheVariants.{WrongParameter, NotInTheDomain, EmptyValue}
use Rattle.prop_refusals.specs.declared.refusal.Refusal.TheVariants.{IsAChoice, LimitReached, Memory}

-- the refusals in the order of their numbers, with want of memory in the place of a reached limit
abbrev refusals : List Refusal
refusals = Memory ∷ LineTooLong ∷ NotUtf8 ∷ UnknownCommand ∷ WrongForm ∷ NotAName ∷ NotANumber ∷ NameTaken
    ∷ NoSuchDomain ∷ NoSuchCell ∷ NoSuchPremise ∷ NoSuchProcedure ∷ WrongCount ∷ WrongKind ∷ WrongParameter
    ∷ NotInTheDomain ∷ Memory ∷ IsAChoice ∷ EmptyValue ∷ NoSuchRelation ∷ []

-- the refusal with a number
abbrev refusal_at : ℕ → Refusal
refusal_at n = get_or refusals n Memory

refusal_at-number_of : (a : Refusal) → number_of a ≢ 16 → refusal_at (number_of a) ≡ a
refusal_at-number_of LineTooLong n = refl
refusal_at-number_of NotUtf8 n = refl
refusal_at-number_of UnknownCommand n = refl
refusal_at-number_of WrongForm n = refl
refusal_at-number_of NotAName n = refl
refusal_at-number_of NotANumber n = refl
refusal_at-number_of NameTaken n = refl
refusal_at-number_of NoSuchDomain n = refl
refusal_at-number_of NoSuchRelation n = refl
refusal_at-number_of NoSuchCell n = refl
refusal_at-number_of NoSuchPremise n = refl
refusal_at-number_of NoSuchProcedure n = refl
refusal_at-number_of WrongCount n = refl
refusal_at-number_of WrongKind n = refl
refusal_at-number_of WrongParameter n = refl
refusal_at-number_of NotInTheDomain n = refl
refusal_at-number_of EmptyValue n = refl
refusal_at-number_of IsAChoice n = refl
refusal_at-number_of (LimitReached limit) n = absurd (n refl)
refusal_at-number_of Memory n = refl

pub numbers_tell_apart : NumbersTellApart
numbers_tell_apart a b e n = sym (refusal_at-number_of a n) ∙ ap refusal_at e ∙ refusal_at-number_of b (λ m. n (e ∙ m))
