-- The laws of circuits.
use Rattle.std.specs.Prelude.{◌≡◌, ◌≢◌, ◌≤◌, ◌-◌, ℕ, zero, suc, ℤ, pos, ◌+ℤ◌, ◌-ℤ◌, ◌≤ℤ◌}
use Rattle.std.specs.Prelude.{◌<ℤ◌, int_lt, Bool, true, false, not, ◌&&◌, ◌||◌, if◌then◌else◌}
use Rattle.std.specs.Prelude.{List, [], ◌∷◌, length, Option, Some, None, ⊤}
use Rattle.std.specs.Int.{int_max, int_min}
use Rattle.std.specs.List.{AllZip}
use Rattle.std.specs.Ordering.{int_eq}
use Rattle.std.proofs.Common.{◌∙◌, ap, arith, refl, rules, subst, sym}
use Rattle.std.proofs.lemmas.Bool.{and_parts}
use Rattle.std.proofs.lemmas.Bool.Decides.{Decides-int_eq}
use Rattle.std.proofs.lemmas.Int.{ints, clamps, by_lt_z}
use borrow.Author.Differences.{same_in}
use Rattle.prop_intervals.specs.laws.Relations.{IsInRange}
use Rattle.prop_lattice.specs.Order.{Below}
use Rattle.prop_lattice.specs.laws.OrderLaws.{to_top}
use Rattle.prop_lattice.specs.Points.{Point, Number, Element, Symbol, Holds}
use Rattle.prop_lattice.specs.Rank.{IsOf}
use Rattle.prop_lattice.specs.declared.info.Info.{Info}
use Rattle.prop_lattice.specs.declared.info.Info.TheVariants.{Nothing, Contradiction}
use Rattle.prop_lattice.specs.declared.info.Kind.TheVariants as kinds
use Rattle.prop_wide.specs.Ends.{low_of, high_of, known}
use Rattle.prop_wide.specs.laws.EndLaws.{AreWithin, IsBetween, ends_ordered}
use Rattle.prop_wide.specs.laws.EndLaws.{known_below, known_holds, known_kind}
use Rattle.prop_many.specs.Circuit.{LeadsHome, LeadsOn, RelatesCircuit, around, circuit_of}
use Rattle.prop_many.specs.Circuit.{entry_at}
use Rattle.prop_many.specs.Circuit.{goes_on, goes_wrong, is_one, lowered, raised}
use Rattle.prop_many.specs.Exact.{AreJust, IsJust}
use Rattle.prop_many.specs.laws.ExactLaws.{known_held}
use Rattle.prop_many.specs.laws.NumberLaws.{AreCloser, AreKept, IsKept, both_true, never}

-- ---- entries

-- R holds of both where both are there, and else neither is
abbrev pub AreAlike : {X : Type 0} → (Info → X → Type 0) → Option Info → Option X → Type 0
AreAlike R None None = ⊤
AreAlike R (Some a) (Some b) = R a b
AreAlike R a b = ⊥

entries_alike : {X : Type 0} (R : Info → X → Type 0) (first node : ℤ) (olds : List Info)
    (news : List X) → AllZip R olds news
    → AreAlike R (entry_at first olds node) (entry_at first news node)
entries_alike R first node [] [] p = tt
entries_alike R first node (a ∷ olds) (b ∷ news) p =
    by (int_eq node first) (entries_alike R (first +ℤ pos 1) node olds news p.1)
  where
    by : (s : Bool)
        → AreAlike R (entry_at (first +ℤ pos 1) olds node) (entry_at (first +ℤ pos 1) news node)
        → AreAlike R (if s then Some a else entry_at (first +ℤ pos 1) olds node)
        (if s then Some b else entry_at (first +ℤ pos 1) news node)
    by true rest = p.0
    by false rest = rest
entries_alike R first node [] (b ∷ news) p = absurd p
entries_alike R first node (a ∷ olds) [] p = absurd p

-- an entry has a number from the first up to as many as there are
entry_within : {X : Type 0} (first node : ℤ) (entries : List X) (x : X)
    → entry_at first entries node ≡ Some x
    → (first ≤ℤ node) × (node <ℤ (first +ℤ pos (length entries)))
entry_within first node [] x e = absurd (cc)
entry_within first node (a ∷ entries) x e = by (int_eq node first) refl
    (λ f. entry_within (first +ℤ pos 1) node entries x f) e
  where
    here : int_eq node first ≡ true → (first ≤ℤ node)
        × (node <ℤ (first +ℤ pos (suc (length entries))))
    here f = let same : node ≡ first = (Decides-int_eq node first).0 f in
        (omega (arith, ints, same), omega (arith, ints, same))

    later : (first +ℤ pos 1) ≤ℤ node → node <ℤ ((first +ℤ pos 1) +ℤ pos (length entries))
        → (first ≤ℤ node) × (node <ℤ (first +ℤ pos (suc (length entries))))
    later p q = (omega (arith, ints, p), omega (arith, ints, q))

    by : (s : Bool) → int_eq node first ≡ s
        → (entry_at (first +ℤ pos 1) entries node ≡ Some x → ((first +ℤ pos 1) ≤ℤ node)
        × (node <ℤ ((first +ℤ pos 1) +ℤ pos (length entries))))
        → (if s then Some a else entry_at (first +ℤ pos 1) entries node) ≡ Some x
        → (first ≤ℤ node) × (node <ℤ (first +ℤ pos (suc (length entries))))
    by true f within e = here f
    by false f within e = let rest = within e in later rest.0 rest.1

-- ---- where more is known

-- a number that is known stays so as more is known
stays_one : (a b : Info) → AreWithin a b → is_one a ≡ true
    → (is_one b ≡ true) × (low_of b ≡ low_of a)
stays_one a b w e =
    same (low_of a) (high_of a) (low_of b) (high_of b) e w.low (ends_ordered b).ordered w.high
  where
    same : (l h l' h' : ℤ) → int_eq l h ≡ true → l ≤ℤ l' → l' ≤ℤ h' → h' ≤ℤ h
        → (int_eq l' h' ≡ true) × (l' ≡ l)
    same l h l' h' e p q r =
        let k : l ≡ h = (Decides-int_eq l h).0 e in (
          (Decides-int_eq l' h').1 (same_in _ _ (omega (arith, ints, k))),
          same_in _ _ (omega (arith, ints, k)),
        )

either : (a b c : Bool) → (b ≡ true → c ≡ true) → (a || b) ≡ true → (a || c) ≡ true
either true b c h e = refl
either false b c h e = h e

wrong_stays : (olds news : List Info) → AreCloser olds news → (home node : ℤ) (steps : ℕ)
    → goes_wrong olds home node steps ≡ true → goes_wrong news home node steps ≡ true
wrong_stays olds news p home node zero e = e
wrong_stays olds news p home node (suc steps) e =
    either (int_eq node home) _ _ (by (entry_at (pos 1) olds node) (entry_at (pos 1) news node)
    (entries_alike AreWithin (pos 1) node olds news p)
    (λ next. wrong_stays olds news p home next steps)) e
  where
    by : (a b : Option Info) → AreAlike AreWithin a b
        → ((next : ℤ) → goes_wrong olds home next steps ≡ true
        → goes_wrong news home next steps ≡ true)
        → goes_on (λ next. goes_wrong olds home next steps) a ≡ true
        → goes_on (λ next. goes_wrong news home next steps) b ≡ true
    by None None w stays f = refl
    by (Some a) (Some b) w stays f =
        let parts = and_parts (is_one a) (goes_wrong olds home (low_of a) steps) f in
        let one = stays_one a b w parts.0 in
        both_true _ _ one.0 (subst (λ next. goes_wrong news home next steps ≡ true) (sym one.1)
        (stays (low_of a) parts.1))
    by None (Some b) w stays f = absurd w
    by (Some a) None w stays f = absurd w

-- ---- the first node from which they don't go wrong

record IsRaised (successors : List Info) (home node : ℤ) (steps many : ℕ) (r : ℤ) : Type 0 where
  pub from : node ≤ℤ r
  pub to : r ≤ℤ (node +ℤ pos many)
  pub wrong : (z : ℤ) → node ≤ℤ z → z <ℤ r → goes_wrong successors home z steps ≡ true

raised_is : (successors : List Info) (home node : ℤ) (steps many : ℕ)
    → IsRaised successors home node steps many (raised successors home node steps many)
raised_is successors home node steps zero = record {
  from = omega (arith, ints);
  to = omega (arith, ints);
  wrong = λ z p q. absurd (omega (arith, ints, p, q));
}
raised_is successors home node steps (suc many) = by (goes_wrong successors home node steps) refl
    (raised_is successors home (node +ℤ pos 1) steps many)
  where
    further : (r : ℤ) → goes_wrong successors home node steps ≡ true
        → IsRaised successors home (node +ℤ pos 1) steps many r
        → IsRaised successors home node steps (suc many) r
    further r e rest = record {
      from = down r rest.from;
      to = up r rest.to;
      wrong = λ z p q. by_lt_z z (node +ℤ pos 1)
          (λ l. subst (λ n. goes_wrong successors home n steps ≡ true) (same z p l) e)
          (λ l. rest.wrong z l q);
    }
      where
        down : (r : ℤ) → (node +ℤ pos 1) ≤ℤ r → node ≤ℤ r
        down r p = omega (arith, ints)

        up : (r : ℤ) → r ≤ℤ ((node +ℤ pos 1) +ℤ pos many) → r ≤ℤ (node +ℤ pos (suc many))
        up r p = omega (arith, ints)

        same : (z : ℤ) → node ≤ℤ z → z <ℤ (node +ℤ pos 1) → node ≡ z
        same z p q = same_in _ _ (omega (arith, ints))

    by : (s : Bool) → goes_wrong successors home node steps ≡ s
        → IsRaised successors home (node +ℤ pos 1) steps many
        (raised successors home (node +ℤ pos 1) steps many)
        → IsRaised successors home node steps (suc many)
        (if s then raised successors home (node +ℤ pos 1) steps many else node)
    by true e rest = further (raised successors home (node +ℤ pos 1) steps many) e rest
    by false e rest = record {
      from = omega (arith, ints);
      to = omega (arith, ints);
      wrong = λ z p q. absurd (omega (arith, ints, p, q));
    }

-- the raised node is x or later, where all nodes before x go wrong and these are no more than
-- `many`
raised_reaches : (successors : List Info) (home node : ℤ) (steps many : ℕ) (x : ℤ)
    → ((z : ℤ) → node ≤ℤ z → z <ℤ x → goes_wrong successors home z steps ≡ true)
    → x ≤ℤ (node +ℤ pos many) → x ≤ℤ raised successors home node steps many
raised_reaches successors home node steps zero x w p = omega (arith, ints, p)
raised_reaches successors home node steps (suc many) x w p =
    by (goes_wrong successors home node steps) refl
    (raised_reaches successors home (node +ℤ pos 1) steps many x
    (λ z q l. w z (down z q) l) (up x p))
  where
    down : (r : ℤ) → (node +ℤ pos 1) ≤ℤ r → node ≤ℤ r
    down r p = omega (arith, ints)

    up : (r : ℤ) → r ≤ℤ (node +ℤ pos (suc many)) → r ≤ℤ ((node +ℤ pos 1) +ℤ pos many)
    up r p = omega (arith, ints)

    by : (s : Bool) → goes_wrong successors home node steps ≡ s
        → x ≤ℤ raised successors home (node +ℤ pos 1) steps many
        → x ≤ℤ (if s then raised successors home (node +ℤ pos 1) steps many else node)
    by true e rest = rest
    by false e rest = by_lt_z node x
        (λ l. absurd (never (sym e ∙ w node (omega (arith, ints)) l))) (λ l. l)

raised_grows : (olds news : List Info) → AreCloser olds news → (home node node' : ℤ)
    (steps many : ℕ) → node ≤ℤ node'
    → raised olds home node steps many ≤ℤ raised news home node' steps many
raised_grows olds news p home node node' steps many q =
    let is = raised_is olds home node steps many in
    raised_reaches news home node' steps many (raised olds home node steps many)
    (λ z l r. wrong_stays olds news p home z steps (is.wrong z (through node node' z q l) r))
    (further node node' (raised olds home node steps many) (pos many) q is.to)
  where
    through : (a b c : ℤ) → a ≤ℤ b → b ≤ℤ c → a ≤ℤ c
    through a b c p q = omega (arith, ints)

    further : (a b r m : ℤ) → a ≤ℤ b → r ≤ℤ (a +ℤ m) → r ≤ℤ (b +ℤ m)
    further a b r m p q = omega (arith, ints)

-- ---- the last node from which they don't go wrong

record IsLowered (successors : List Info) (home node : ℤ) (steps many : ℕ) (r : ℤ) : Type 0 where
  pub to : r ≤ℤ node
  pub from : (node -ℤ pos many) ≤ℤ r
  pub wrong : (z : ℤ) → z ≤ℤ node → r <ℤ z → goes_wrong successors home z steps ≡ true

lowered_is : (successors : List Info) (home node : ℤ) (steps many : ℕ)
    → IsLowered successors home node steps many (lowered successors home node steps many)
lowered_is successors home node steps zero = record {
  to = omega (arith, ints);
  from = omega (arith, ints);
  wrong = λ z p q. absurd (omega (arith, ints, p, q));
}
lowered_is successors home node steps (suc many) = by (goes_wrong successors home node steps) refl
    (lowered_is successors home (node -ℤ pos 1) steps many)
  where
    further : (r : ℤ) → goes_wrong successors home node steps ≡ true
        → IsLowered successors home (node -ℤ pos 1) steps many r
        → IsLowered successors home node steps (suc many) r
    further r e rest = record {
      to = up r rest.to;
      from = down r rest.from;
      wrong = λ z p q. by_lt_z (node -ℤ pos 1) z
          (λ l. subst (λ n. goes_wrong successors home n steps ≡ true) (same z p l) e)
          (λ l. rest.wrong z l q);
    }
      where
        up : (r : ℤ) → r ≤ℤ (node -ℤ pos 1) → r ≤ℤ node
        up r p = omega (arith, ints)

        down : (r : ℤ) → ((node -ℤ pos 1) -ℤ pos many) ≤ℤ r → (node -ℤ pos (suc many)) ≤ℤ r
        down r p = omega (arith, ints)

        same : (z : ℤ) → z ≤ℤ node → (node -ℤ pos 1) <ℤ z → node ≡ z
        same z p q = same_in _ _ (omega (arith, ints))

    by : (s : Bool) → goes_wrong successors home node steps ≡ s
        → IsLowered successors home (node -ℤ pos 1) steps many
        (lowered successors home (node -ℤ pos 1) steps many)
        → IsLowered successors home node steps (suc many)
        (if s then lowered successors home (node -ℤ pos 1) steps many else node)
    by true e rest = further (lowered successors home (node -ℤ pos 1) steps many) e rest
    by false e rest = record {
      to = omega (arith, ints);
      from = omega (arith, ints);
      wrong = λ z p q. absurd (omega (arith, ints, p, q));
    }

lowered_reaches : (successors : List Info) (home node : ℤ) (steps many : ℕ) (x : ℤ)
    → ((z : ℤ) → z ≤ℤ node → x <ℤ z → goes_wrong successors home z steps ≡ true)
    → (node -ℤ pos many) ≤ℤ x → lowered successors home node steps many ≤ℤ x
lowered_reaches successors home node steps zero x w p = omega (arith, ints, p)
lowered_reaches successors home node steps (suc many) x w p =
    by (goes_wrong successors home node steps) refl
    (lowered_reaches successors home (node -ℤ pos 1) steps many x
    (λ z q l. w z (up z q) l) (down x p))
  where
    up : (r : ℤ) → r ≤ℤ (node -ℤ pos 1) → r ≤ℤ node
    up r p = omega (arith, ints)

    down : (r : ℤ) → (node -ℤ pos (suc many)) ≤ℤ r → ((node -ℤ pos 1) -ℤ pos many) ≤ℤ r
    down r p = omega (arith, ints)

    by : (s : Bool) → goes_wrong successors home node steps ≡ s
        → lowered successors home (node -ℤ pos 1) steps many ≤ℤ x
        → (if s then lowered successors home (node -ℤ pos 1) steps many else node) ≤ℤ x
    by true e rest = rest
    by false e rest = by_lt_z x node
        (λ l. absurd (never (sym e ∙ w node (omega (arith, ints)) l))) (λ l. l)

lowered_shrinks : (olds news : List Info) → AreCloser olds news → (home node node' : ℤ)
    (steps many : ℕ) → node' ≤ℤ node
    → lowered news home node' steps many ≤ℤ lowered olds home node steps many
lowered_shrinks olds news p home node node' steps many q =
    let is = lowered_is olds home node steps many in
    lowered_reaches news home node' steps many (lowered olds home node steps many)
    (λ z l r. wrong_stays olds news p home z steps (is.wrong z (through z node' node l q) r))
    (further node node' (lowered olds home node steps many) (pos many) q is.from)
  where
    through : (a b c : ℤ) → a ≤ℤ b → b ≤ℤ c → a ≤ℤ c
    through a b c p q = omega (arith, ints)

    further : (a b r m : ℤ) → b ≤ℤ a → (a -ℤ m) ≤ℤ r → (b -ℤ m) ≤ℤ r
    further a b r m p q = omega (arith, ints)

-- ---- the rule

as_long : {X : Type 0} (R : Info → X → Type 0) (olds : List Info) (news : List X)
    → AllZip R olds news → length olds ≡ length news
as_long R [] [] p = refl
as_long R (a ∷ olds) (b ∷ news) p = ap suc (as_long R olds news p.1)
as_long R [] (b ∷ news) p = absurd p
as_long R (a ∷ olds) [] p = absurd p

-- from the first to the last successor that doesn't go wrong, where `home` is a node
between_of : List Info → ℤ → Info → ℕ → Info
between_of successors home own many =
    if int_lt home (pos 1) || int_lt (pos many) home then Contradiction
    else known (raised successors home (int_max (low_of own) (pos 1)) (many - 1) many)
    (lowered successors home (int_min (high_of own) (pos many)) (many - 1) many)

between_below : (olds news : List Info) → AreCloser olds news → (home : ℤ) (own own' : Info)
    (many : ℕ) → AreWithin own own'
    → Below (between_of olds home own many) (between_of news home own' many)
unfolding between_of
between_below olds news p home own own' many w =
    by (int_lt home (pos 1) || int_lt (pos many) home)
  where
    later : (a b c : ℤ) → a ≤ℤ b → int_max a c ≤ℤ int_max b c
    later a b c p = omega (arith, ints, clamps)

    sooner : (a b c : ℤ) → b ≤ℤ a → int_min b c ≤ℤ int_min a c
    sooner a b c p = omega (arith, ints, clamps)

    by : (s : Bool)
        → Below (if s then Contradiction
        else known (raised olds home (int_max (low_of own) (pos 1)) (many - 1) many)
        (lowered olds home (int_min (high_of own) (pos many)) (many - 1) many))
        (if s then Contradiction
        else known (raised news home (int_max (low_of own') (pos 1)) (many - 1) many)
        (lowered news home (int_min (high_of own') (pos many)) (many - 1) many))
    by true = to_top Contradiction
    by false = known_below _ _ _ _
        (raised_grows olds news p home (int_max (low_of own) (pos 1))
        (int_max (low_of own') (pos 1)) (many - 1) many
        (later (low_of own) (low_of own') (pos 1) w.low))
        (lowered_shrinks olds news p home (int_min (high_of own) (pos many))
        (int_min (high_of own') (pos many)) (many - 1) many
        (sooner (high_of own) (high_of own') (pos many) w.high))

around_below : (olds news : List Info) → AreCloser olds news → (home : ℤ) (own own' : Info)
    → AreWithin own own' → Below (around olds home own) (around news home own')
unfolding between_of
around_below olds news p home own own' w =
    subst (λ many. Below (between_of olds home own (length olds)) (between_of news home own' many))
    (as_long AreWithin olds news p) (between_below olds news p home own own' (length olds) w)

pub circuit_below : (olds news : List Info) → AreCloser olds news
    → Below (circuit_of olds) (circuit_of news)
circuit_below (own ∷ node ∷ olds) (own' ∷ node' ∷ news) p = by (is_one node) refl
  where
    by : (s : Bool) → is_one node ≡ s
        → Below (if s then around olds (low_of node) own else Nothing)
        (circuit_of (own' ∷ node' ∷ news))
    by false e = tt
    by true e =
        let one = stays_one node node' p.1.0 e in
        rw (one.0, one.1) (around_below olds news p.1.1 (low_of node) own own' p.0)
circuit_below (own ∷ node ∷ olds) [] p = absurd p
circuit_below (own ∷ node ∷ olds) (own' ∷ []) p = absurd p.1
circuit_below olds news p = tt

around_kind : (successors : List Info) (home : ℤ) (own : Info)
    → IsOf kinds.Span 0 (around successors home own)
unfolding between_of
around_kind successors home own = by (length successors)
    (int_lt home (pos 1) || int_lt (pos (length successors)) home)
  where
    by : (many : ℕ) (s : Bool) → IsOf kinds.Span 0 (if s then Contradiction
        else known (raised successors home (int_max (low_of own) (pos 1)) (many - 1) many)
        (lowered successors home (int_min (high_of own) (pos many)) (many - 1) many))
    by many true = tt
    by many false = known_kind 0 _ _

pub circuit_kind : (args : List Info) → IsOf kinds.Span 0 (circuit_of args)
circuit_kind (own ∷ node ∷ successors) = by (is_one node)
  where
    by : (s : Bool)
        → IsOf kinds.Span 0 (if s then around successors (low_of node) own else Nothing)
    by true = around_kind successors (low_of node) own
    by false = tt
circuit_kind args = tt

-- ---- what belongs together

differs : (a b : ℤ) → a ≢ b → int_eq a b ≡ false
differs a b n = by (int_eq a b) refl
  where
    by : (s : Bool) → int_eq a b ≡ s → s ≡ false
    by false e = refl
    by true e = absurd (n ((Decides-int_eq a b).0 e))

-- what leads home doesn't go wrong
home_right : (successors : List Info) (points : List Point) → AreKept successors points
    → (home node : ℤ) (steps : ℕ) → LeadsHome points home node steps
    → goes_wrong successors home node steps ≡ false
home_right successors points k home node zero h = rw ((Decides-int_eq node home).1 h) refl
home_right successors points k home node (suc steps) h =
    rw (differs node home h.0) (by (entry_at (pos 1) successors node) (entry_at (pos 1) points node)
    (entries_alike IsKept (pos 1) node successors points k)
    (λ v. home_right successors points k home v steps) h.1)
  where
    next_right : (a : Info) (v : ℤ) → IsBetween a v → goes_wrong successors home v steps ≡ false
        → (is_one a && goes_wrong successors home (low_of a) steps) ≡ false
    next_right a v b g = or_not (is_one a) refl
      where
        only : (l h : ℤ) → l ≡ h → l ≤ℤ v → v ≤ℤ h → v ≡ l
        only l h e p q = same_in _ _ (omega (arith, ints, e))

        or_not : (s : Bool) → is_one a ≡ s
            → (s && goes_wrong successors home (low_of a) steps) ≡ false
        or_not false e = refl
        or_not true e = subst (λ n. goes_wrong successors home n steps ≡ false)
            (only (low_of a) (high_of a) ((Decides-int_eq (low_of a) (high_of a)).0 e) b.from b.to)
            g

    by : (a : Option Info) (p : Option Point) → AreAlike IsKept a p
        → ((v : ℤ) → LeadsHome points home v steps → goes_wrong successors home v steps ≡ false)
        → LeadsOn (λ next. LeadsHome points home next steps) p
        → goes_on (λ next. goes_wrong successors home next steps) a ≡ false
    by (Some a) (Some (Number v)) b right g = next_right a v b (right v g)
    by (Some a) (Some (Element i)) b right g = absurd g
    by (Some a) (Some (Symbol i)) b right g = absurd g
    by a None b right g = absurd g
    by None (Some p) b right g = absurd b

-- what leads home begins at a node
leads_from : (points : List Point) (home node : ℤ) (steps : ℕ) → pos 1 ≤ℤ home
    → home ≤ℤ pos (length points) → LeadsHome points home node steps
    → (pos 1 ≤ℤ node) × (node ≤ℤ pos (length points))
leads_from points home node zero p q h = (rw h p, rw h q)
leads_from points home node (suc steps) p q h = by (entry_at (pos 1) points node) refl h.1
  where
    last : (n m : ℤ) → n <ℤ (pos 1 +ℤ m) → n ≤ℤ m
    last n m l = omega (arith, ints)

    by : (o : Option Point) → entry_at (pos 1) points node ≡ o
        → LeadsOn (λ next. LeadsHome points home next steps) o
        → (pos 1 ≤ℤ node) × (node ≤ℤ pos (length points))
    by None e g = absurd g
    by (Some x) e g =
        let w = entry_within (pos 1) node points x e in
        (w.0, last node (pos (length points)) w.1)

around_holds : (successors : List Info) (points : List Point) → AreKept successors points
    → (home : ℤ) (own : Info) (v : ℤ) (many : ℕ) → IsBetween own v → IsInRange v
    → pos 1 ≤ℤ home → home ≤ℤ pos many → pos 1 ≤ℤ v → v ≤ℤ pos many
    → LeadsHome points home v (many - 1)
    → Holds (between_of successors home own many) (Number v)
unfolding between_of
around_holds successors points k home own v many b r p q i j h =
    by (int_lt home (pos 1)) refl (int_lt (pos many) home) refl
  where
    right : goes_wrong successors home v (many - 1) ≡ false
    right = home_right successors points k home v (many - 1) h

    from : ℤ
    from = int_max (low_of own) (pos 1)

    to : ℤ
    to = int_min (high_of own) (pos many)

    later : (a b : ℤ) → a ≤ℤ v → b ≤ℤ v → int_max a b ≤ℤ v
    later a b p q = omega (arith, ints, clamps)

    sooner : (a b : ℤ) → v ≤ℤ a → v ≤ℤ b → v ≤ℤ int_min a b
    sooner a b p q = omega (arith, ints, clamps)

    first : raised successors home from (many - 1) many ≤ℤ v
    first = by_lt_z v (raised successors home from (many - 1) many)
        (λ l. absurd (never (sym right ∙ (raised_is successors home from (many - 1) many).wrong v
        (later (low_of own) (pos 1) b.from i) l))) (λ l. l)

    last : v ≤ℤ lowered successors home to (many - 1) many
    last = by_lt_z (lowered successors home to (many - 1) many) v
        (λ l. absurd (never (sym right ∙ (lowered_is successors home to (many - 1) many).wrong v
        (sooner (high_of own) (pos many) b.to j) l))) (λ l. l)

    by : (s : Bool) → int_lt home (pos 1) ≡ s → (t : Bool) → int_lt (pos many) home ≡ t
        → Holds (if s || t then Contradiction
        else known (raised successors home from (many - 1) many)
        (lowered successors home to (many - 1) many)) (Number v)
    by true e t f = absurd (omega (arith, ints))
    by false e true f = absurd (omega (arith, ints))
    by false e false f = known_holds _ _ v first last r

pub circuit_holds : (args : List Info) (points : List Point) (point : Point) → AreKept args points
    → RelatesCircuit points point → Holds (circuit_of args) point
unfolding between_of
circuit_holds (own ∷ node ∷ successors) (Number v ∷ Number i ∷ points) point k r =
    subst (Holds (circuit_of (own ∷ node ∷ successors))) (sym r.0) (by (is_one node) refl)
  where
    many : length successors ≡ length points
    many = as_long IsKept successors points k.1.1

    from : (pos 1 ≤ℤ v) × (v ≤ℤ pos (length points))
    from = leads_from points i v (length points - 1) r.1 r.2 r.3

    in_range : IsInRange v
    in_range = (
      through _ _ _ (ends_ordered own).above k.0.from,
      through _ _ _ k.0.to
          (ends_ordered own).below,
    )
      where
        through : (a b c : ℤ) → a ≤ℤ b → b ≤ℤ c → a ≤ℤ c
        through a b c p q = omega (arith, ints)

    only : (l h : ℤ) → l ≡ h → l ≤ℤ i → i ≤ℤ h → i ≡ l
    only l h e p q = same_in _ _ (omega (arith, ints, e))

    by : (s : Bool) → is_one node ≡ s
        → Holds (if s then around successors (low_of node) own else Nothing) (Number v)
    by false e = tt
    by true e =
        let same : i ≡ low_of node = only (low_of node) (high_of node)
        ((Decides-int_eq (low_of node) (high_of node)).0 e) k.1.0.from k.1.0.to in
        subst (λ home. Holds (around successors home own) (Number v)) same
        (subst (λ n. Holds (between_of successors i own n) (Number v)) (sym many)
        (around_holds successors points k.1.1 i own v (length points) k.0 in_range r.1 r.2 from.0
        from.1 r.3))
circuit_holds args points point k r = search rules

-- ---- of single numbers

not_true : (s : Bool) → not s ≡ false → s ≡ true
not_true true e = refl
not_true false e = absurd (never (sym e))

neither : (a b : Bool) → (a || b) ≡ false → (a ≡ false) × (b ≡ false)
neither false false e = (refl, refl)
neither false true e = absurd (never (sym e))
neither true b e = absurd (never (sym e))

-- what doesn't go wrong leads home
right_home : (successors : List Info) (points : List Point) → AreJust successors points
    → (home node : ℤ) (steps : ℕ) → goes_wrong successors home node steps ≡ false
    → LeadsHome points home node steps
right_home successors points k home node zero e =
    (Decides-int_eq node home).0 (not_true (int_eq node home) e)
right_home successors points k home node (suc steps) e = (
  λ same. never (sym parts.0 ∙ (Decides-int_eq node home).1 same),
  by (entry_at (pos 1) successors node) (entry_at (pos 1) points node)
      (entries_alike IsJust (pos 1) node successors points k)
      (λ v. right_home successors points k home v steps) parts.1,
)
  where
    parts : (int_eq node home ≡ false)
        × (goes_on (λ next. goes_wrong successors home next steps)
        (entry_at (pos 1) successors node) ≡ false)
    parts = neither _ _ e

    by : (a : Option Info) (p : Option Point) → AreAlike IsJust a p
        → ((v : ℤ) → goes_wrong successors home v steps ≡ false → LeadsHome points home v steps)
        → goes_on (λ next. goes_wrong successors home next steps) a ≡ false
        → LeadsOn (λ next. LeadsHome points home next steps) p
    by (Some a) (Some (Number v)) b leads g = leads v
        (subst (λ n. goes_wrong successors home n steps ≡ false) b.0
        (alone (is_one a) ((Decides-int_eq (low_of a) (high_of a)).1 (b.0 ∙ sym b.1)) g))
      where
        alone : (s : Bool) → s ≡ true → (s && goes_wrong successors home (low_of a) steps) ≡ false
            → goes_wrong successors home (low_of a) steps ≡ false
        alone true e g = g
        alone false e g = absurd (never e)
    by (Some a) (Some (Element i)) b leads g = absurd b
    by (Some a) (Some (Symbol i)) b leads g = absurd b
    by None o b leads g = absurd (never (sym g))
    by (Some a) None b leads g = absurd b

-- a node that is not raised doesn't go wrong
not_raised : (successors : List Info) (home node : ℤ) (steps many : ℕ)
    → raised successors home node steps (suc many) ≤ℤ node
    → goes_wrong successors home node steps ≡ false
not_raised successors home node steps many p =
    by (goes_wrong successors home node steps) refl p
  where
    by : (s : Bool) → goes_wrong successors home node steps ≡ s
        → (if s then raised successors home (node +ℤ pos 1) steps many else node) ≤ℤ node
        → s ≡ false
    by false e q = refl
    by true e q =
        absurd (over _ q (raised_is successors home (node +ℤ pos 1) steps many).from)
      where
        over : (r : ℤ) → r ≤ℤ node → (node +ℤ pos 1) ≤ℤ r → ⊥
        over r p q = omega (arith, ints)

around_exact : (successors : List Info) (points : List Point) → AreJust successors points
    → (home : ℤ) (own : Info) (v z : ℤ) (many : ℕ) → low_of own ≡ v → high_of own ≡ v
    → IsInRange z → Holds (between_of successors home own many) (Number z)
    → (z ≡ v) × (pos 1 ≤ℤ home) × (home ≤ℤ pos many) × LeadsHome points home v (many - 1)
unfolding between_of
around_exact successors points k home own v z many e f r =
    by (int_lt home (pos 1)) refl (int_lt (pos many) home) refl
  where
    from : ℤ
    from = int_max (low_of own) (pos 1)

    to : ℤ
    to = int_min (high_of own) (pos many)

    between : (a b first last : ℤ) → a ≡ v → b ≡ v → int_max a (pos 1) ≤ℤ first → first ≤ℤ z
        → z ≤ℤ last → last ≤ℤ int_min b (pos many)
        → (z ≡ v) × (int_max a (pos 1) ≡ v) × (first ≤ℤ int_max a (pos 1))
    between a b first last p q i j l m = (
      same_in _ _ (omega (arith, ints, clamps)),
      same_in _ _ (omega (arith, ints, clamps)),
      omega (arith, ints, clamps),
    )

    some : (many : ℕ) → pos 1 ≤ℤ home → home ≤ℤ pos many
        → raised successors home from (many - 1) many ≤ℤ from
        → goes_wrong successors home from (many - 1) ≡ false
    some zero p q h = absurd (omega (arith, ints, p, q))
    some (suc n) p q h = not_raised successors home from (suc n - 1) n h

    found : pos 1 ≤ℤ home → home ≤ℤ pos many
        → Holds (known (raised successors home from (many - 1) many)
        (lowered successors home to (many - 1) many)) (Number z)
        → (z ≡ v) × (pos 1 ≤ℤ home) × (home ≤ℤ pos many) × LeadsHome points home v (many - 1)
    found p q h =
        let held = known_held _ _ z r h in
        let same = between (low_of own) (high_of own) _ _ e f
        (raised_is successors home from (many - 1) many).from held.0 held.1
        (lowered_is successors home to (many - 1) many).to in (
          same.0,
          p,
          q,
          right_home successors points k home v (many - 1)
              (subst (λ n. goes_wrong successors home n (many - 1) ≡ false) same.1
              (some many p q same.2)),
        )

    by : (s : Bool) → int_lt home (pos 1) ≡ s → (t : Bool) → int_lt (pos many) home ≡ t
        → Holds (if s || t then Contradiction
        else known (raised successors home from (many - 1) many)
        (lowered successors home to (many - 1) many)) (Number z)
        → (z ≡ v) × (pos 1 ≤ℤ home) × (home ≤ℤ pos many) × LeadsHome points home v (many - 1)
    by true g t d h = absurd h
    by false g true d h = absurd h
    by false g false d h = found (omega (arith, ints)) (omega (arith, ints)) h

pub circuit_exact : (args : List Info) (points : List Point) (z : ℤ) → 2 ≤ length args
    → AreJust args points → IsInRange z → Holds (circuit_of args) (Number z)
    → RelatesCircuit points (Number z)
unfolding between_of
circuit_exact (own ∷ node ∷ successors) (Number v ∷ Number i ∷ points) z some e r h =
    let one = (Decides-int_eq (low_of node) (high_of node)).1 (e.1.0.0 ∙ sym e.1.0.1) in
    let many = as_long IsJust successors points e.1.1 in
    let held : Holds (between_of successors i own (length successors)) (Number z)
    = subst (λ home. Holds (around successors home own) (Number z)) e.1.0.0
    (alone (is_one node) one h) in
    let is = around_exact successors points e.1.1 i own v z (length points) e.0.0 e.0.1 r
    (subst (λ n. Holds (between_of successors i own n) (Number z)) many held) in
    (ap Number is.0, is.1, is.2, is.3)
  where
    alone : (s : Bool) → s ≡ true
        → Holds (if s then around successors (low_of node) own else Nothing) (Number z)
        → Holds (around successors (low_of node) own) (Number z)
    alone true e g = g
    alone false e g = absurd (never e)
circuit_exact (own ∷ node ∷ successors) points z some e r h = search rules
circuit_exact [] points z some e r h = absurd (omega (arith, some))
circuit_exact (own ∷ []) points z some e r h = absurd (omega (arith, some))
