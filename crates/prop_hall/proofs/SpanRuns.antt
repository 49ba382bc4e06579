-- Spans that lie in a run of numbers, which may hold no more of them than numbers.
use Rattle.std.proofs.Common.{◌≡◌, ◌⊎◌, ℕ, suc, ◌+◌, ◌<◌, ◌≤◌}
use Rattle.std.proofs.Common.{List, [], ◌∷◌, map, length, arith, sym, subst, refl, inl, inr}
use Rattle.std.specs.List.{AllByRecursion as Each}
use Rattle.std.proofs.lemmas.Bool.{cases_lt}
use Rattle.prop_lattice.specs.Ends.{numbers_in}
use Rattle.prop_lattice.specs.Order.{Below}
use Rattle.prop_lattice.specs.declared.info.Info.{Info}
use Rattle.prop_lattice.specs.declared.info.Info.TheVariants.{Nothing, Span, Set, Sym, Contradiction}
use Rattle.prop_lattice.specs.declared.span.Span as spans
use Rattle.prop_lattice.specs.laws.OrderLaws.{info_laws}
use Rattle.prop_hall.specs.Excluding.{told_by, excluded_of}
use Rattle.prop_hall.specs.Hulls.{hull_of, points_in, without_of}
use Rattle.prop_hall.specs.Selections.{selections}
use Rattle.prop_hall.specs.laws.ExcludingLaws.{told_over, told_tight, told_loose}
use Rattle.prop_hall.specs.laws.ExcludingLaws.{Room, Over, Tight, Loose, room}
use Rattle.prop_hall.specs.laws.MergeLaws.{all_least}
use Rattle.prop_hall.specs.laws.SelectionLaws.{each_map, each_both, each_weaker}
use Rattle.prop_hall.proofs.RunLemmas.{Ends, counted, inside, counted_in, counted_out}
use Rattle.prop_hall.proofs.SpanPlaces.{range, ends_of, ends_ordered, inside_span, numbers_place, span_at, place_of}
use Rattle.prop_hall.proofs.SpanSelections.{IsFew, few_in, TellBelow, no_more, outside}

-- ---- counting spans

pub counted_few : (g k : ℕ) (e : Ends) → counted g k e ≤ 1
counted_few g k e = by (cases_lt e.0 g) (cases_lt k e.1)
  where
    by : (e.0 < g) ⊎ (g ≤ e.0) → (k < e.1) ⊎ (e.1 ≤ k) → counted g k e ≤ 1
    by (inl l) r = omega (arith, counted_out g k e (λ both. omega (arith, l, both.0)))
    by (inr l) (inl r) = omega (arith, counted_out g k e (λ both. omega (arith, r, both.1)))
    by (inr l) (inr r) = omega (arith, counted_in g k e l r)

pub crossed : (g k h n : ℕ) → g ≤ h → k ≤ n → (e : Ends) → counted g k e + counted h n e ≤ counted g n e + counted h k e
crossed g k h n le me e = by (cases_lt e.0 g) (cases_lt n e.1) (cases_lt e.0 h) (cases_lt k e.1)
  where
    by : (e.0 < g) ⊎ (g ≤ e.0) → (n < e.1) ⊎ (e.1 ≤ n) → (e.0 < h) ⊎ (h ≤ e.0) → (k < e.1) ⊎ (e.1 ≤ k)
        → counted g k e + counted h n e ≤ counted g n e + counted h k e
    by (inl a) b c d = omega (
      arith,
      counted_out g k e (λ both. omega (arith, a, both.0)),
      counted_out h n e (λ both. omega (arith, a, le, both.0)),
    )
    by (inr a) (inl b) c d = omega (
      arith,
      counted_out g k e (λ both. omega (arith, b, me, both.1)),
      counted_out h n e (λ both. omega (arith, b, both.1)),
    )
    by (inr a) (inr b) (inl c) d = omega (
      arith,
      counted_in g n e a b,
      counted_few g k e,
      counted_out h n e (λ both. omega (arith, c, both.0)),
    )
    by (inr a) (inr b) (inr c) (inl d) = omega (
      arith,
      counted_in g n e a b,
      counted_few h n e,
      counted_out g k e (λ both. omega (arith, d, both.1)),
    )
    by (inr a) (inr b) (inr c) (inr d) = omega (
      arith,
      counted_in g n e a b,
      counted_in h k e c d,
      counted_few g k e,
      counted_few h n e,
    )

-- what two runs hold, their hull and what they share hold too
pub crossing : (g k h n : ℕ) → g ≤ h → k ≤ n → (es : List Ends)
    → inside g k es + inside h n es ≤ inside g n es + inside h k es
crossing g k h n le me [] = omega arith
crossing g k h n le me (e ∷ es) = omega (arith, crossed g k h n le me e, crossing g k h n le me es)

pub none_inside : (g k : ℕ) → k < g → (es : List Ends) → Each (λ e. e.0 ≤ e.1) es → inside g k es ≡ 0
none_inside g k l [] o = refl
none_inside g k l (e ∷ es) o = omega (
  arith,
  none_inside g k l es o.1,
  counted_out g k e (λ both. omega (arith, l, o.0, both.0, both.1)),
)

-- ---- what is left beside the ends

pub inside_at : (g k : ℕ) (l : g ≤ k) (h : k < range) (ss : List spans.Span)
    → inside_span (span_at g k l h) ss ≡ inside g k (map ends_of ss)
inside_at g k l h ss i = inside (place_of g i) (place_of k i) (map ends_of ss)

pub numbers_at : (g k : ℕ) (l : g ≤ k) (h : k < range) → numbers_in (span_at g k l h) + g ≡ suc k
numbers_at g k l h = omega (arith, numbers_place (span_at g k l h), place_of g, place_of k)

pub free_runs : (y : spans.Span) (ss : List spans.Span) (m : spans.Span) → TellBelow y ss m → (g k : ℕ) → g ≤ k
    → k < range
    → inside g k (map ends_of ss) + g ≤ suc k
free_runs y ss m tell g k l h =
    omega (arith, no_more y ss m tell (span_at g k l h), inside_at g k l h ss, numbers_at g k l h)

pub full_run : (y : spans.Span) (ss : List spans.Span) (m : spans.Span) → TellBelow y ss m → (g k : ℕ)
    (l : g ≤ k) (h : k < range) → inside g k (map ends_of ss) + g ≡ suc k
    → Below (without_of (Span y) (Span (span_at g k l h))) (Span m)
full_run y ss m tell g k l h full =
    outside y ss m tell (span_at g k l h) (omega (arith, inside_at g k l h ss, numbers_at g k l h, full))

-- two full runs that meet or overlap are one
pub joined_run : (y : spans.Span) (ss : List spans.Span) (m : spans.Span) → TellBelow y ss m → (g k h n : ℕ) → g ≤ h
    → k ≤ n
    → h ≤ suc k → g ≤ k → n < range → suc k ≤ inside g k (map ends_of ss) + g
    → suc n ≤ inside h n (map ends_of ss) + h → inside g n (map ends_of ss) + g ≡ suc n
joined_run y ss m tell g k h n le me near l within first second =
    let es = map ends_of ss in
    let shared : inside h k es + h ≤ suc k = elim (cases_lt k h) [
      | inl past ↦ omega (arith, none_inside h k past es (ends_ordered ss), near)
      | inr low ↦ free_runs y ss m tell h k low (omega (arith, me, within))
    ] in
    omega (
      arith,
      first,
      second,
      shared,
      crossing g k h n le me es,
      free_runs y ss m tell g n (omega (arith, l, me)) within,
    )

-- an information that says less than m, and no less than any selection
pub told_below : (y : spans.Span) (ss : List spans.Span) (m n : spans.Span)
    → excluded_of (Span y) (map Span ss) ≡ Span m
    → TellBelow y ss m → Below (Span y) (Span n)
    → ((x : spans.Span) → numbers_in x ≤ inside_span x ss → Below (without_of (Span y) (Span x)) (Span m)
    → Below (without_of (Span y) (Span x)) (Span n)) → Below (Span m) (Span n)
told_below y ss m n is tell least step =
    subst (λ a. Below a (Span n)) is
    (all_least (Span y) (map (told_by (Span y)) (selections (map Span ss))) (Span n) least
    (each_map (λ a. Below a (Span n)) (told_by (Span y)) (selections (map Span ss))
    (each_weaker (λ t. Below (told_by (Span y) t) (Span m) × IsFew ss t)
    (λ t. Below (told_by (Span y) t) (Span n)) (λ t p. by t p.0 p.1 (room (points_in (hull_of t)) (length t)))
    (selections (map Span ss))
    (each_both (λ t. Below (told_by (Span y) t) (Span m))
    (IsFew ss)
    (selections (map Span ss)) tell (few_in ss)))))
  where
    tight : (h : Info) → Below (without_of (Span y) h) (Span m)
        → ((w : spans.Span) → Below (Span w) h → points_in h ≤ inside_span w ss)
        → Below (without_of (Span y) h) (Span n)
    tight (Span x) b few = step x (few x (info_laws.reflexive (Span x))) b
    tight Nothing b few = least
    tight (Set a) b few = least
    tight (Sym a) b few = least
    tight Contradiction b few = least

    by : (t : List Info) → Below (told_by (Span y) t) (Span m)
        → IsFew ss t
        → Room (points_in (hull_of t)) (length t) → Below (told_by (Span y) t) (Span n)
    by t b few (Over l) =
        absurd (subst (λ a. Below a (Span m)) (told_over (length t) (hull_of t) (Span y) l) b)
    by t b few (Tight e) =
        subst (λ a. Below a (Span n)) (sym (told_tight (length t) (hull_of t) (Span y) e))
        (tight (hull_of t) (subst (λ a. Below a (Span m)) (told_tight (length t) (hull_of t) (Span y) e) b)
        (λ w p. omega (arith, e, few w p)))
    by t b few (Loose l) = subst (λ a. Below a (Span n)) (sym (told_loose (length t) (hull_of t) (Span y) l)) least
