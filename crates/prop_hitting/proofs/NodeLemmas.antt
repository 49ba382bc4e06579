-- Which sets are in a node, and in which of the nodes.
use Rattle.std.proofs.Common.{◌≡◌, ◌∙◌, ◌⊎◌, ◌==◌, ◌||◌, ℕ, Bool, true, false, List, [], ◌∷◌, ◌++◌}
use Rattle.std.proofs.Common.{arith, refl, suc, sym, ap, subst, inl, inr}
use Rattle.std.specs.List.{list_any}
use Rattle.std.proofs.lemmas.Bool.Decides.{eqb_tells}
use Rattle.prop_numbers.specs.Sets.{Members, set_of, union, is_within, IsSame}
use Rattle.prop_numbers.proofs.WithinLemmas.{within_from, within_has}
use Rattle.prop_hitting.specs.declared.conflict.Conflict.{Conflict}
use Rattle.prop_hitting.specs.declared.node.Node.{Node}
use Rattle.prop_hitting.specs.Hitting.{HasAllOfOne, HitsAll}
use Rattle.prop_hitting.specs.inner.Nodes.{IsIn, IsOneOf}
use Rattle.prop_hitting.proofs.HittingLemmas.{decide, none_more}

or_cases : (b c : Bool) → (b || c) ≡ true → (b ≡ true) ⊎ (c ≡ true)
or_cases true c h = inl refl
or_cases false c h = inr h

-- a number that one premise more may be
one_more : (s : Members) (q p : ℕ) → union s (set_of (q ∷ [])) p ≡ true → (s p ≡ true) ⊎ (q ≡ p)
one_more s q p h = elim (or_cases (s p) ((q == p) || false) h) [
  | inl a ↦ inl a
  | inr b ↦ elim (or_cases (q == p) false b) [
    | inl t ↦ inr (elim (eqb_tells q p) [ inl e ↦ e.1 | inr e ↦ cc (e.0, t) ])
    | inr other ↦ cc other
  ]
]

-- the sets of a node that have one premise more
pub in_having : (n m : Node) (q : ℕ) (one : List ℕ) → one ≡ q ∷ []
    → IsSame (set_of m.hit) (union (set_of n.hit) (set_of one)) → m.out ≡ n.out
    → (h : Members) → IsIn n h → h q ≡ true → IsIn m h
in_having n m q one is hit out h there has = record {
  has = λ p e. elim (one_more (set_of n.hit) q p
      (subst (λ (l : List ℕ). union (set_of n.hit) (set_of l) p ≡ true) is (sym (hit p) ∙ e))) [
        | inl before ↦ there.has p before
        | inr same ↦ subst (λ r. h r ≡ true) same has
      ];
  lacks = λ p e. there.lacks p (ap (λ l. set_of l p) (sym out) ∙ e);
}

-- and those that don't have it
module _ (n m : Node) (q : ℕ) (one : List ℕ) (is : one ≡ q ∷ []) (hit : m.hit ≡ n.hit)
    (out : IsSame (set_of m.out) (union (set_of n.out) (set_of one))) where
  both : (p : ℕ) → set_of m.out p ≡ union (set_of n.out) (set_of (q ∷ [])) p
  both p = out p ∙ ap (λ l. union (set_of n.out) (set_of l) p) is

  pub in_lacking : (h : Members) → IsIn n h → h q ≡ false → IsIn m h
  in_lacking h there lacks = record {
    has = λ p e. there.has p (ap (λ l. set_of l p) (sym hit) ∙ e);
    lacks = λ p e. elim (one_more (set_of n.out) q p (sym (both p) ∙ e)) [
      | inl before ↦ there.lacks p before
      | inr same ↦ subst (λ r. h r ≡ false) same lacks
    ];
  }

  or_first : (b c : Bool) → b ≡ true → (b || c) ≡ true
  or_first true c e = refl
  or_first false c e = cc

  or_last : (b c : Bool) → c ≡ true → (b || c) ≡ true
  or_last true c e = refl
  or_last false c e = e

  pub lacking_in : (h : Members) → IsIn m h → IsIn n h
  lacking_in h there = record {
    has = λ p e. there.has p (ap (λ l. set_of l p) hit ∙ e);
    lacks = λ p e. there.lacks p (both p ∙ or_first (set_of n.out p) (set_of (q ∷ []) p) e);
  }

  test : (p : ℕ) → (p == p) ≡ true
  test p = elim (eqb_tells p p) [ inl e ↦ e.0 | inr e ↦ absurd (e.1 refl) ]

  pub lacking_it : (h : Members) → IsIn m h → h q ≡ false
  lacking_it h there = there.lacks q
      (both q ∙ or_last (set_of n.out q) (set_of (q ∷ []) q) (or_first (q == q) false (test q)))

-- ---- several nodes

pub one_first : (h : Members) (ms ns : List Node) → IsOneOf h ms → IsOneOf h (ms ++ ns)
one_first h [] ns there = absurd there
one_first h (m ∷ ms) ns (inl here) = inl here
one_first h (m ∷ ms) ns (inr there) = inr (one_first h ms ns there)

pub one_last : (h : Members) (ms ns : List Node) → IsOneOf h ns → IsOneOf h (ms ++ ns)
one_last h [] ns there = there
one_last h (m ∷ ms) ns there = inr (one_last h ms ns there)

pub one_parts : (h : Members) (ms ns : List Node) → IsOneOf h (ms ++ ns) → IsOneOf h ms ⊎ IsOneOf h ns
one_parts h [] ns there = inr there
one_parts h (m ∷ ms) ns (inl here) = inl (inl here)
one_parts h (m ∷ ms) ns (inr there) = elim (one_parts h ms ns there) [ inl a ↦ inl (inr a) | inr b ↦ inr b ]

pub one_alone : (h : Members) (n : Node) → IsOneOf h (n ∷ []) → IsIn n h
one_alone h n (inl here) = here
one_alone h n (inr there) = absurd there

-- ---- a node is split by the premises of a conflict

-- what is so once some premises of the conflict came up: sets of the node are in one of the nodes,
-- or left, and those that are left have none of these premises
pub record Splits (node rest : Node) (passed : List ℕ) (old new : List Node) : Type 0 where
  pub kept : (h : Members) → IsOneOf h old → IsOneOf h new
  pub split : (h : Members) → IsIn node h → IsOneOf h new ⊎ IsIn rest h
  pub none : (h : Members) → IsIn rest h → list_any h passed ≡ false

pub splits_none : (node : Node) (old : List Node) → Splits node node [] old old
splits_none node old =
    record { kept = λ h there. there; split = λ h there. inr there; none = λ h there. refl }

module _ (node rest : Node) (passed : List ℕ) (x : ℕ) (old now : List Node) (s : Splits node rest passed old now) where
  -- a premise that none of the sets has
  pub splits_lacked : ((h : Members) → IsIn rest h → h x ≡ false) → Splits node rest (passed ++ x ∷ []) old now
  splits_lacked lacks = record {
    kept = s.kept;
    split = s.split;
    none = λ h there. none_more h passed x (s.none h there) (lacks h there);
  }

  -- one that some have
  pub splits_more : (more less : Node) (new : List Node) → new ≡ now ++ more ∷ []
      → ((h : Members) → IsIn rest h → h x ≡ true → IsIn more h)
      → ((h : Members) → IsIn rest h → h x ≡ false → IsIn less h)
      → ((h : Members) → IsIn less h → IsIn rest h) → ((h : Members) → IsIn less h → h x ≡ false)
      → Splits node less (passed ++ x ∷ []) old new
  splits_more more less new is having lacking only lacks = record {
    kept = λ h there. subst (IsOneOf h) (sym is) (one_first h now (more ∷ []) (s.kept h there));
    split = λ h there. elim (s.split h there) [
      | inl one ↦ inl (subst (IsOneOf h) (sym is) (one_first h now (more ∷ []) one))
      | inr left ↦ elim (decide (h x)) [
        | inl e ↦ inl (subst (IsOneOf h) (sym is) (one_last h now (more ∷ []) (inl (having h left e))))
        | inr e ↦ inr (lacking h left e)
      ]
    ];
    none = λ h there. none_more h passed x (s.none h (only h there)) (lacks h there);
  }

-- once all came up, each set of the node that has some of them is in one of the nodes
pub splits_all : (node rest : Node) (all : List ℕ) (old new : List Node) → Splits node rest all old new
    → (h : Members) → list_any h all ≡ true → IsIn node h → IsOneOf h new
splits_all node rest all old new s h has there = elim (s.split h there) [
  | inl one ↦ one
  | inr left ↦ let none = s.none h left in cc (has, none)
]

-- ---- what is still looked for

-- the set has all of one of these
pub has_one : (s : Members) (rs : List (List ℕ)) → list_any (λ r. is_within s r) rs ≡ true → HasAllOfOne s rs
has_one s [] e = cc
has_one s (r ∷ rs) e = elim (or_cases (is_within s r) (list_any (λ q. is_within s q) rs) e) [
  | inl here ↦ (r, (0, omega arith, refl), here)
  | inr there ↦
      let more = has_one s rs there in
      (more.0, (suc more.1.0, omega (arith, more.1.1), more.1.2), more.2)
]

module _ (cs : List Conflict) (rs : List (List ℕ)) (old new : List Node) (node : Node) (is : old ≡ new ++ node ∷ [])
    (sought : (h : Members) → HitsAll h cs → HasAllOfOne h rs ⊎ IsOneOf h old) where
  abbrev pub AreLeft : List Node → Type 0
  AreLeft ns = (h : Members) → HitsAll h cs → HasAllOfOne h rs ⊎ IsOneOf h ns

  cases : (h : Members) → HitsAll h cs → HasAllOfOne h rs ⊎ (IsOneOf h new ⊎ IsIn node h)
  cases h hits = elim (sought h hits) [
    | inl found ↦ inl found
    | inr there ↦ elim (one_parts h new (node ∷ []) (subst (IsOneOf h) is there))
        [ inl a ↦ inr (inl a) | inr b ↦ inr (inr (one_alone h node b)) ]
  ]

  -- a node that has all of a repair goes
  pub left_without : HasAllOfOne (set_of node.hit) rs → AreLeft new
  left_without (r, listed, within) h hits = elim (cases h hits) [
    | inl found ↦ inl found
    | inr t ↦ elim t [
      | inl one ↦ inr one
      | inr there ↦
          inl (r, listed, within_from h r (λ p e. there.has p (within_has (set_of node.hit) r p within e)))
    ]
  ]

  -- one that is split, by a conflict that all sets hit
  pub left_split : (split : List Node) → ((h : Members) → IsOneOf h new → IsOneOf h split)
      → ((h : Members) → HitsAll h cs → IsIn node h → IsOneOf h split) → AreLeft split
  left_split split kept into h hits = elim (cases h hits) [
    | inl found ↦ inl found
    | inr t ↦ elim t [ inl one ↦ inr (kept h one) | inr there ↦ inr (into h hits there) ]
  ]

-- where nothing is left
pub none_left : (cs : List Conflict) (rs : List (List ℕ)) (old : List Node) → old ≡ []
    → ((h : Members) → HitsAll h cs → HasAllOfOne h rs ⊎ IsOneOf h old)
    → (h : Members) → HitsAll h cs → HasAllOfOne h rs
none_left cs rs old none sought h hits = elim (sought h hits)
    [ inl found ↦ found | inr there ↦ absurd (subst (IsOneOf h) none there) ]
