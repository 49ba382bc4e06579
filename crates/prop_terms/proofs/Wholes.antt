-- What a refused text doesn't write.
use Rattle.std.proofs.Common.{◌≡◌, ℕ, List, false, Some, None, sym, ap, ◌∙◌, inl, inr}
use Rattle.std.specs.Prelude.{◌⊎◌}
use Rattle.std.proofs.lemmas.Option.{none-some, same_Some}
use Rattle.std.proofs.lemmas.Bool.{false≢true}
use Rattle.prop_refusals.specs.declared.refusal.Refusal.{Refusal}
use Rattle.prop_refusals.specs.declared.refusal.Refusal.TheVariants.{LineTooLong, Memory, WrongForm}
use Rattle.prop_terms.specs.declared.forming.Sort.{Sort}
use Rattle.prop_terms.specs.declared.forming.Place.TheVariants.{Single}
use Rattle.prop_terms.specs.Forming.{is_formed}
use Rattle.prop_terms.specs.Terms.{Term}
use Rattle.prop_terms.specs.Tokens.{tokens}
use Rattle.prop_terms.specs.Writing.{IsWritten}
use Rattle.prop_terms.specs.inner.Machine.{parsed}
use Rattle.prop_terms.proofs.Complete.{complete}

not_written : (sort : Sort) (text : List ℕ) → parsed (tokens text) ≡ None → (t : Term) → IsWritten sort text t → ⊥
not_written sort text e t w = none-some t (sym e ∙ complete (tokens text) t w.0)

-- what the reader finds may not stand there, and nothing else is written
pub not_formed : (sort : Sort) (text : List ℕ) (u : Term) → parsed (tokens text) ≡ Some u
    → is_formed u (Single sort) ≡ false → (t : Term) → IsWritten sort text t → ⊥
not_formed sort text u e f t w =
    let same : u ≡ t = same_Some _ _ (sym e ∙ complete (tokens text) t w.0) in
    false≢true (sym f ∙ ap (λ v. is_formed v (Single sort)) same ∙ w.1)

pub refused : (why : Refusal) (sort : Sort) (text : List ℕ) (Long : Type 0)
    → (why ≡ Memory) ⊎ ((why ≡ WrongForm) × (parsed (tokens text) ≡ None))
    → (why ≡ Memory) ⊎ ((why ≡ LineTooLong) × Long)
    ⊎ ((why ≡ WrongForm) × ((t : Term) → IsWritten sort text t → ⊥))
refused why sort text Long (inl m) = inl m
refused why sort text Long (inr n) = inr (inr (n.0, not_written sort text n.1))
