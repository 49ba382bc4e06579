-- What is known of what is believed, as it comes to be known.
use Rattle.std.proofs.Common.{◌≡◌, ◌≢◌, ◌∙◌, ◌+◌, ◌<◌, ◌≤◌, ℕ, List, [], Option, Some, None, length, slice_set, inl}
use Rattle.std.proofs.Common.{inr, sym, ap, subst, arith}
use Rattle.std.proofs.lemmas.Bool.{cases_eq, cases_lt}
use Rattle.std.proofs.lemmas.List.{get_or-set_other, get_or-set_same, get_or_past, set_past}
use Rattle.prop_lattice.specs.declared.info.Info.{Info}
use Rattle.prop_lattice.specs.declared.info.Info.TheVariants.{Nothing}
use Rattle.prop_lattice.specs.Order.{merge_of}
use Rattle.prop_tms.specs.Beliefs.{belief_of}
use Rattle.prop_numbers.specs.Sets.{Members}
use Rattle.prop_contents.specs.Contents.{Entry, beliefs}
use Rattle.prop_contents.specs.Knowing.{known_at, AreBeliefs, ArePassed}

-- ---- one place

pub same_info : (x y : Info) → Some x ≡ Some y → x ≡ y
same_info x y e = cc

pub none_is_some : (x : Info) → None ≡ Some x → ⊥
none_is_some x e = cc

-- what stands at a place after it was written there
pub there : (known : List (Option Info)) (at : ℕ) (x : Option Info) (y : Info)
    → known_at (slice_set known at x) at ≡ Some y → x ≡ Some y
there known at x y h = elim (cases_lt at (length known)) [
  | inl l ↦ sym (get_or-set_same known at x None l) ∙ h
  | inr past ↦ absurd (none_is_some y (sym (get_or_past known at None past)
      ∙ sym (ap (λ (k : List (Option Info)). known_at k at) (set_past known at x past)) ∙ h))
]

-- ---- beliefs

pub known_put : (s : Members) (contents : List (List Entry)) (known : List (Option Info)) (at : ℕ) (info : Info)
    → beliefs s contents at ≡ info → AreBeliefs s contents known
    → AreBeliefs s contents (slice_set known at (Some info))
known_put s contents known at info is b cell y h = elim (cases_eq cell at) [
  | inl own ↦ ap (beliefs s contents) own ∙ is ∙ same_info info y (there known at (Some info) y
      (subst (λ (c : ℕ). known_at (slice_set known at (Some info)) c ≡ Some y) own h))
  | inr other ↦ b cell y (sym (get_or-set_other known at cell (Some info) None other) ∙ h)
]

-- ---- a walk

module _ (s t : Members) (contents : List (List Entry)) (known : List (Option Info)) where
  -- cells that stay
  pub passed_on : (n m : ℕ) → n ≤ m
      → ((k : ℕ) → n ≤ k → k < m → beliefs s contents k ≡ beliefs t contents k)
      → ArePassed n s t contents known → ArePassed m s t contents known
  passed_on n m le same p = record {
    passed = λ cell y l h. elim (cases_lt cell n) [
      | inl below ↦ p.passed cell y below h
      | inr ahead ↦ sym (same cell ahead l) ∙ p.ahead cell y ahead h
    ];
    ahead = λ cell y l h. p.ahead cell y (omega (arith, le, l)) h;
  }

  -- past the last cell nothing is believed
  past : (k : ℕ) → length contents ≤ k → beliefs s contents k ≡ beliefs t contents k
  past k l = ap (belief_of Nothing merge_of s) (get_or_past contents k [] l)
      ∙ sym (ap (belief_of Nothing merge_of t) (get_or_past contents k [] l))

  -- a walk that has come to the end
  pub passed_all : (n : ℕ) → length contents ≤ n → ArePassed n s t contents known
      → ArePassed (length contents + 1) s t contents known
  passed_all n le p = record {
    passed = λ cell y l h. elim (cases_lt cell n) [
      | inl below ↦ p.passed cell y below h
      | inr ahead ↦ sym (past cell (omega (arith, le, ahead))) ∙ p.ahead cell y ahead h
    ];
    ahead = λ cell y l h. elim (cases_lt cell n) [
      | inl below ↦ past cell (omega (arith, l)) ∙ p.passed cell y below h
      | inr ahead ↦ p.ahead cell y ahead h
    ];
  }

  -- what is believed after of the next cell is known
  pub passed_put : (n : ℕ) (info : Info) → beliefs t contents n ≡ info → ArePassed n s t contents known
      → ArePassed (n + 1) s t contents (slice_set known n (Some info))
  passed_put n info is p = record {
    passed = λ cell y l h. elim (cases_eq cell n) [
      | inl own ↦ ap (beliefs t contents) own ∙ is ∙ same_info info y (there known n (Some info) y
          (subst (λ (c : ℕ). known_at (slice_set known n (Some info)) c ≡ Some y) own h))
      | inr other ↦ p.passed cell y (omega (arith, l, other))
          (sym (get_or-set_other known n cell (Some info) None other) ∙ h)
    ];
    ahead = λ cell y l h.
        let other : cell ≢ n = λ e. omega (arith, e, l) in
        p.ahead cell y (omega (arith, l)) (sym (get_or-set_other known n cell (Some info) None other) ∙ h);
  }
