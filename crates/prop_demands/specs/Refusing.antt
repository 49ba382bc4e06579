-- Why the text of an expression is refused.
use Rattle.std.specs.Prelude.{◌≡◌, ◌<◌, ◌⊎◌, List, ℕ, Bool, true, false, length}
use Rattle.prop_refusals.specs.declared.refusal.Refusal.{Refusal}
use Rattle.prop_refusals.specs.declared.refusal.Refusal.TheVariants as refusals
use Rattle.prop_terms.specs.Terms.{Term}
use Rattle.prop_terms.specs.Writing.{IsWritten}
use Rattle.prop_terms.specs.declared.forming.Sort.{Sort}

-- A term may be refused for this. It is of a form that can't be posted, or a word in it has two
-- readings; a part may lie out of range; a word is no cell; a part is of a wrong kind; a word is no
-- element of its domain; a word is no relation.
abbrev pub is_of_term : Refusal → Bool
is_of_term refusals.WrongForm = true
is_of_term refusals.NotANumber = true
is_of_term refusals.NoSuchCell = true
is_of_term refusals.WrongKind = true
is_of_term refusals.NotInTheDomain = true
is_of_term refusals.NoSuchRelation = true
is_of_term refusal = false

-- Why a text may be refused where a term of the sort is wanted: memory was refused, the text is too
-- long, it writes no such term, or it writes one and this is a reason to refuse terms.
abbrev pub IsRefused : Sort → List ℕ → Refusal → Type 0
IsRefused sort text e = (e ≡ refusals.Memory)
    ⊎ ((e ≡ refusals.LineTooLong) × (4_096 < length text))
    ⊎ ((e ≡ refusals.WrongForm) × ((t : Term) → IsWritten sort text t → ⊥))
    ⊎ ((t : Term) × IsWritten sort text t × (is_of_term e ≡ true))
