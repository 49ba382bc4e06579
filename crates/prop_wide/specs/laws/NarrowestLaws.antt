-- What makes an answer the narrowest.
use Rattle.std.specs.Prelude.{◌≡◌, ℤ, neg_ℤ, ◌≤ℤ◌, ◌⊎◌, Bool, true, false}
use Rattle.std.specs.Prelude.{int_le, ◌&&◌, if◌then◌else◌}
use Rattle.std.specs.Int.{int_max, int_min}
use Rattle.std.proofs.Common.{arith, refl, inl, inr}
use Rattle.std.proofs.lemmas.Int.{ints, clamps}
use Rattle.prop_intervals.specs.Clip.{clip}
use Rattle.prop_intervals.specs.laws.Relations.{IsInRange}
use Rattle.prop_lattice.specs.Ends.{AreEnds, ends_or_not, span_from}
use Rattle.prop_lattice.specs.inner.Ends.{span_if}
use Rattle.prop_lattice.specs.Points.{Number, Holds}
use Rattle.prop_lattice.specs.Rank.{IsOf}
use Rattle.prop_lattice.specs.declared.span.TheConstants.{B}
use Rattle.prop_lattice.specs.declared.span.Span as spans
use Rattle.prop_lattice.specs.declared.info.Info.{Info}
use Rattle.prop_lattice.specs.declared.info.Info.TheVariants.{Nothing, Span, Set, Sym}
use Rattle.prop_lattice.specs.declared.info.Info.TheVariants.{Contradiction}
use Rattle.prop_lattice.specs.declared.info.Kind.TheVariants as kinds
use Rattle.prop_wide.specs.Ends.{low_of, high_of, known, part_of}
use Rattle.prop_wide.specs.Hulls.{hull_of, narrowed}
use Rattle.prop_wide.specs.Narrowest.{IsNarrowest, IsNumber, Leaves}
use Rattle.prop_wide.specs.laws.EndLaws.{ends_ordered}
use Rattle.prop_wide.specs.laws.HullLaws.{hull_holds_first, hull_holds_second, narrowed_holds}

-- ---- ends are left

pub range_of_ends : (x : Info) → IsInRange (low_of x) × IsInRange (high_of x)
range_of_ends x =
    let o = ends_ordered x in
    by (low_of x) (high_of x) o.above o.ordered o.below
  where
    by : (l h : ℤ) → neg_ℤ B ≤ℤ l → l ≤ℤ h → h ≤ℤ B → IsInRange l × IsInRange h
    by l h p q r = ((p, omega (arith, ints)), (omega (arith, ints), r))

pub low_left : (x : Info) → IsNumber x → Leaves x (low_of x)
low_left x n = record { in_range = (range_of_ends x).0; held = by x n }
  where
    by : (x : Info) → IsNumber x → Holds x (Number (low_of x))
    by (Span a) n = (omega (arith, ints), a.ordered)
    by Nothing n = tt
    by Contradiction n = absurd (n.clear refl)
    by (Set a) n = absurd n.of_kind
    by (Sym a) n = absurd n.of_kind

pub high_left : (x : Info) → IsNumber x → Leaves x (high_of x)
high_left x n = record { in_range = (range_of_ends x).1; held = by x n }
  where
    by : (x : Info) → IsNumber x → Holds x (Number (high_of x))
    by (Span a) n = (a.ordered, omega (arith, ints))
    by Nothing n = tt
    by Contradiction n = absurd (n.clear refl)
    by (Set a) n = absurd n.of_kind
    by (Sym a) n = absurd n.of_kind

-- and what lies between
pub between_left : (x : Info) (v : ℤ) → IsNumber x → low_of x ≤ℤ v → v ≤ℤ high_of x → Leaves x v
between_left x v n p q = record { in_range = range; held = by x n p q }
  where
    range : IsInRange v
    range = let o = ends_ordered x in in_range (low_of x) (high_of x) o.above o.below p q
      where
        in_range : (l h : ℤ) → neg_ℤ B ≤ℤ l → h ≤ℤ B → l ≤ℤ v → v ≤ℤ h → IsInRange v
        in_range l h a b p q = (omega (arith, ints), omega (arith, ints))

    by : (x : Info) → IsNumber x → low_of x ≤ℤ v → v ≤ℤ high_of x → Holds x (Number v)
    by (Span a) n p q = (p, q)
    by Nothing n p q = tt
    by Contradiction n p q = absurd (n.clear refl)
    by (Set a) n p q = absurd n.of_kind
    by (Sym a) n p q = absurd n.of_kind

-- ---- what two ends tell

pub clip_from : (lo hi v : ℤ) → Holds (clip lo hi) (Number v) → (lo ≤ℤ v) × (v ≤ℤ hi)
unfolding clip span_from
clip_from lo hi v h = by (ends_or_not (int_max lo (neg_ℤ B)) (int_min hi B)) h
  where
    by : (d : AreEnds (int_max lo (neg_ℤ B)) (int_min hi B)
        ⊎ ¬ (AreEnds (int_max lo (neg_ℤ B)) (int_min hi B)))
        → Holds (span_if (int_max lo (neg_ℤ B)) (int_min hi B) d) (Number v)
        → (lo ≤ℤ v) × (v ≤ℤ hi)
    by (inl d) h = (omega (arith, ints, clamps, h.0), omega (arith, ints, clamps, h.1))
    by (inr f) h = absurd h

pub span_from_from : (lo hi v : ℤ) → Holds (span_from lo hi) (Number v) → (lo ≤ℤ v) × (v ≤ℤ hi)
unfolding span_from
span_from_from lo hi v h = by (ends_or_not lo hi) h
  where
    by : (d : AreEnds lo hi ⊎ ¬ (AreEnds lo hi)) → Holds (span_if lo hi d) (Number v)
        → (lo ≤ℤ v) × (v ≤ℤ hi)
    by (inl d) h = h
    by (inr f) h = absurd h

pub known_from : (lo hi v : ℤ) → IsInRange v → Holds (known lo hi) (Number v)
    → (lo ≤ℤ v) × (v ≤ℤ hi)
unfolding known
known_from lo hi v r h = by (int_le lo (neg_ℤ B)) refl (int_le B hi) refl h
  where
    by : (s : Bool) → int_le lo (neg_ℤ B) ≡ s → (t : Bool) → int_le B hi ≡ t
        → Holds (if s && t then Nothing else clip lo hi) (Number v) → (lo ≤ℤ v) × (v ≤ℤ hi)
    by true e true f h = (omega (arith, ints, r.0), omega (arith, ints, r.1))
    by true e false f h = clip_from lo hi v h
    by false e t f h = clip_from lo hi v h

-- an answer whose ends belong is the narrowest
pub reached : (P : ℤ → Type 0) (lo hi : ℤ) (r : Info)
    → ((v : ℤ) → IsInRange v → P v → Holds r (Number v))
    → ((v : ℤ) → IsInRange v → Holds r (Number v) → (lo ≤ℤ v) × (v ≤ℤ hi)) → IsInRange lo → P lo
    → IsInRange hi → P hi → IsNarrowest P r
reached P lo hi r holds from lo_in lo_is hi_in hi_is = record {
  holds = holds;
  within = λ s h v i k. inside s (h lo lo_in lo_is) (h hi hi_in hi_is) v (from v i k);
}
  where
    inside : (s : spans.Span) → Holds (Span s) (Number lo) → Holds (Span s) (Number hi) → (v : ℤ)
        → (lo ≤ℤ v) × (v ≤ℤ hi) → Holds (Span s) (Number v)
    inside s p q v b = (omega (arith, ints, p.0, b.0), omega (arith, ints, q.1, b.1))

pub none : (P : ℤ → Type 0) → ((v : ℤ) → IsInRange v → P v → Holds Contradiction (Number v))
    → IsNarrowest P Contradiction
none P h = record { holds = h; within = λ s k v i e. absurd e }

-- ---- hulls and parts

-- where just the numbers are left of which P is true
pub exact : (P : ℤ → Type 0) (r : Info) → ((v : ℤ) → IsInRange v → P v → Holds r (Number v))
    → ((v : ℤ) → IsInRange v → Holds r (Number v) → P v) → IsNarrowest P r
exact P r holds from = record { holds = holds; within = λ s h v i k. h v i (from v i k) }

pub same : (P Q : ℤ → Type 0) (r : Info) → ((v : ℤ) → IsInRange v → P v → Q v)
    → ((v : ℤ) → IsInRange v → Q v → P v) → IsNarrowest P r → IsNarrowest Q r
same P Q r to from n = record {
  holds = λ v i q. n.holds v i (from v i q);
  within = λ s h v i k. n.within s (λ u j p. h u j (to u j p)) v i k;
}

pub span_in : (a : spans.Span) → IsInRange a.lo × IsInRange a.hi
span_in a = by a.lo a.hi a.above a.ordered a.below
  where
    by : (l h : ℤ) → neg_ℤ B ≤ℤ l → l ≤ℤ h → h ≤ℤ B → IsInRange l × IsInRange h
    by l h p q r = ((p, omega (arith, ints)), (omega (arith, ints), r))

-- a span that has all numbers of another has its ends
pub has_ends : (P : ℤ → Type 0) (a s : spans.Span) → IsNarrowest P (Span a)
    → ((v : ℤ) → IsInRange v → P v → Holds (Span s) (Number v)) → (s.lo ≤ℤ a.lo) × (a.hi ≤ℤ s.hi)
has_ends P a s n h = (
  (n.within s h a.lo (span_in a).0 (omega (arith, ints), a.ordered)).0,
  (n.within s h a.hi (span_in a).1 (a.ordered, omega (arith, ints))).1,
)

pub hull_narrowest : (P Q : ℤ → Type 0) (a b : Info) → IsOf kinds.Span 0 a → IsOf kinds.Span 0 b
    → IsNarrowest P a → IsNarrowest Q b → IsNarrowest (λ v. P v ⊎ Q v) (hull_of a b)
hull_narrowest P Q a b k l n m = record { holds = holds; within = within }
  where
    holds : (v : ℤ) → IsInRange v → P v ⊎ Q v → Holds (hull_of a b) (Number v)
    holds v i (inl p) = hull_holds_first a b (Number v) (n.holds v i p)
    holds v i (inr q) = hull_holds_second a b (Number v) (m.holds v i q)

    within : (s : spans.Span)
        → ((v : ℤ) → IsInRange v → P v ⊎ Q v → Holds (Span s) (Number v)) → (v : ℤ)
        → IsInRange v → Holds (hull_of a b) (Number v) → Holds (Span s) (Number v)
    within s h v i =
        by a b k l n m
      where
        by : (a b : Info) → IsOf kinds.Span 0 a → IsOf kinds.Span 0 b → IsNarrowest P a
            → IsNarrowest Q b → Holds (hull_of a b) (Number v) → Holds (Span s) (Number v)
        by Contradiction b k l n m e = m.within s (λ u j q. h u j (inr q)) v i e
        by Nothing b k l n m e = n.within s (λ u j p. h u j (inl p)) v i tt
        by (Span a) Contradiction k l n m e = n.within s (λ u j p. h u j (inl p)) v i e
        by (Span a) Nothing k l n m e = m.within s (λ u j q. h u j (inr q)) v i tt
        by (Span a) (Span b) k l n m e =
            let first = has_ends P a s n (λ u j p. h u j (inl p)) in
            let second = has_ends Q b s m (λ u j q. h u j (inr q)) in
            let f = span_from_from (int_min a.lo b.lo) (int_max a.hi b.hi) v e in (
              omega (arith, ints, clamps, first.0, second.0, f.0),
              omega (arith, ints, clamps, first.1, second.1, f.1),
            )
        by (Span a) (Set b) k l n m e = absurd l
        by (Span a) (Sym b) k l n m e = absurd l
        by (Set a) b k l n m e = absurd k
        by (Sym a) b k l n m e = absurd k

pub narrowed_narrowest : (P : ℤ → Type 0) (a : Info) → IsNarrowest P a → IsNarrowest P (narrowed a)
narrowed_narrowest P (Span a) n = record {
  holds = λ v i p. narrowed_holds (Span a) (Number v) (n.holds v i p);
  within = λ s h v i k. n.within s h v i (known_from a.lo a.hi v i k);
}
narrowed_narrowest P Nothing n = n
narrowed_narrowest P (Set a) n = n
narrowed_narrowest P (Sym a) n = n
narrowed_narrowest P Contradiction n = n

pub part_from : (x : Info) (lo hi v : ℤ) → Holds (part_of x lo hi) (Number v)
    → ((low_of x ≤ℤ v) × (v ≤ℤ high_of x)) × ((lo ≤ℤ v) × (v ≤ℤ hi))
unfolding part_of
part_from x lo hi v h =
    let f = clip_from (int_max (low_of x) lo) (int_min (high_of x) hi) v h in
    by (low_of x) (high_of x) f.0 f.1
  where
    by : (l o : ℤ) → int_max l lo ≤ℤ v → v ≤ℤ int_min o hi
        → ((l ≤ℤ v) × (v ≤ℤ o)) × ((lo ≤ℤ v) × (v ≤ℤ hi))
    by l o p q = (
      (omega (arith, ints, clamps), omega (arith, ints, clamps)),
      (omega (arith, ints, clamps), omega (arith, ints, clamps)),
    )
