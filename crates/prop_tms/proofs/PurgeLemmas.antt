-- What goes with a premise, value by value.
use Rattle.std.proofs.Common.{◌≡◌, ◌∙◌, ◌+◌, ◌<◌, ◌||◌, ℕ, Bool, List, [], ◌∷◌, length, get_or, take, refl, sym, ap}
use Rattle.std.specs.List.{list_any}
use Rattle.std.proofs.lemmas.List.Folds.{list_any-append}
use Rattle.prop_tms.specs.Values.{entries_of, entries_of_one}
use Rattle.prop_tms.specs.declared.values.Valued.{Valued}
use Rattle.prop_tms.proofs.ValueLemmas.{with_value, entries_of-more}

any_with_value : {V : Type 0} (u : List ℕ → Bool) (v : V) (ss : List (List ℕ))
    → list_any (λ e. u e.support) (with_value v ss) ≡ list_any u ss
any_with_value u v [] = refl
any_with_value u v (s ∷ ss) = ap (λ b. u s || b) (any_with_value u v ss)

-- whether some entry of one value more passes a test of its support
pub any_more : {V : Type 0} (u : List ℕ → Bool) (xs : List (Valued V)) (i : ℕ) (x : Valued V) (before here : Bool)
    → i < length xs → x ≡ get_or xs i x →
    before ≡ list_any (λ e. u e.support) (entries_of (take i xs)) → here ≡ list_any u x.supports.items
    → (before || here) ≡ list_any (λ e. u e.support) (entries_of (take (i + 1) xs))
any_more u xs i x before here l is b h =
    rw (b, h, ← any_with_value u x.value x.supports.items)
    (sym (ap (list_any (λ e. u e.support)) (entries_of-more xs i x l is)
    ∙ list_any-append (λ e. u e.support) (entries_of (take i xs)) (entries_of_one x)))
