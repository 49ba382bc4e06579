-- One or two entries that say all that is believed.
use Rattle.std.proofs.Common.{◌≡◌, ◌∙◌, ◌<◌, ◌≤◌, ℕ, List, [], ◌∷◌, ◌++◌}
use Rattle.std.proofs.Common.{length, get_or, sym, ap, subst, arith, inl, inr, Contains, All}
use Rattle.std.proofs.lemmas.List.Elements.{All-head, All-tail, Contains-append_cases}
use Rattle.prop_lattice.specs.InformationOrder.{IsInformationOrder}
use Rattle.prop_numbers.specs.Sets.{Members}
use Rattle.prop_tms.specs.Beliefs.{IsShort}
use Rattle.prop_tms.specs.Values.{entries_of, entries_of_one}
use Rattle.prop_tms.specs.declared.supported.Supported.{Supported}
use Rattle.prop_tms.specs.declared.values.Valued.{Valued}
use Rattle.prop_tms.proofs.KeptLemmas.{contains_here, contains_cases}
use Rattle.prop_tms.proofs.ValueLemmas.{with_value, entries_of-push}
use Rattle.prop_tms.proofs.GainLemmas.{value_of_one, in_values}

-- what no value does, no entry does
pub said_by_none : {V : Type 0} (P : V → Type 0) (xs : List (Valued V)) (e : Supported V)
    → All (λ x. ¬ (P x.value)) xs → Contains (entries_of xs) e → ¬ (P e.value)
said_by_none P [] e none c says = omega (arith, c.1)
said_by_none P (x ∷ xs) e none c says = elim (Contains-append_cases (entries_of_one x) (entries_of xs) e c) [
  | inl here ↦ All-head (λ y. ¬ (P y.value)) x xs none (subst P (value_of_one x.value x.supports.items e here) says)
  | inr there ↦ said_by_none P xs e (All-tail (λ y. ¬ (P y.value)) x xs none) there says
]

-- the only support of a value makes an entry
pub only_entry : {V : Type 0} (xs : List (Valued V)) (i : ℕ) (x : Valued V) (s : List ℕ) → i < length xs
    → x ≡ get_or xs i x → x.supports.items ≡ s ∷ [] → Contains (entries_of xs) (record { value = x.value; support = s })
only_entry {V} xs i x s l is only =
    let e : Supported V = record { value = x.value; support = s } in
    in_values xs i x e l is (subst (λ ss. Contains (with_value x.value ss) e) (sym only) (contains_here e []))

-- the only one of a list
pub only_item : (ss : List (List ℕ)) (s : List ℕ) → 1 ≤ length ss → length ss < 2 → s ≡ get_or ss 0 s → ss ≡ s ∷ []
only_item [] s l m is = absurd (omega (arith, l))
only_item (t ∷ []) s l m is = ap (λ u. u ∷ []) (sym is)
only_item (t ∷ u ∷ ss) s l m is = absurd (omega (arith, m))

-- the entries, where the last value has one support
pub last_entry : {V : Type 0} (xs : List (Valued V)) (x : Valued V) (s : List ℕ) → x.supports.items ≡ s ∷ []
    → entries_of (xs ++ x ∷ []) ≡ entries_of xs ++ record { value = x.value; support = s } ∷ []
last_entry xs x s only = entries_of-push xs x ∙ ap (λ ss. entries_of xs ++ with_value x.value ss) only

module _ {V : Type 0} {below : V → V → Type 0} {bottom top : V} {join : V → V → V}
    (laws : IsInformationOrder below bottom top join) where
  -- the last one's support is no longer than that of any other, where those before it say less
  pub short_last : (w : Members) (xs : List (Valued V)) (e : Supported V) (v : V) (support : List ℕ)
      → All (λ x. ¬ (below v x.value)) xs → (below v e.value → length support ≤ length e.support)
      → IsShort (entries_of xs ++ e ∷ []) w v support
  short_last w xs e v support less few x here on is =
      let says : below v x.value = rw is (laws.reflexive v) in
      elim (Contains-append_cases (entries_of xs) (e ∷ []) x here) [
        | inl before ↦ absurd (said_by_none (below v) xs x less before says)
        | inr last ↦ elim (contains_cases e x [] last) [
          | inl same ↦
              subst (λ (y : Supported V). length support ≤ length y.support) same
              (few (subst (λ (y : Supported V). below v y.value) (sym same) says))
          | inr none ↦ absurd (omega (arith, none.1))
        ]
      ]
