-- What the entries take away stays away.
use Rattle.std.proofs.Common.{◌≡◌, ◌≢◌, ◌∙◌, ℕ, zero, suc, ◌+◌, ◌<◌, ◌≤◌, ℤ, Option, None, Some, IfSome, List, length}
use Rattle.std.proofs.Common.{get_or, take, map, ap, sym, refl, subst, arith, inl, inr}
use Rattle.std.proofs.lemmas.Bool.{cases_eq}
use Rattle.prop_lattice.specs.Order.{Below}
use Rattle.prop_lattice.specs.Points.{Point, Number, Element, Symbol, Holds}
use Rattle.prop_lattice.specs.declared.info.Info.{Info}
use Rattle.prop_lattice.specs.declared.info.Info.TheVariants.{Nothing, Span, Set, Sym, Contradiction}
use Rattle.prop_facts.specs.Facts.{IsSo}
use Rattle.prop_facts.specs.declared.fact.Fact.TheVariants.{Other}
use Rattle.prop_facts.proofs.FactLemmas.{below_holds}
use Rattle.prop_trail.specs.Narrowing.{IsGone, IsTight}
use Rattle.prop_trail.specs.Places.{root_of, without_out, IsLeftIn}
use Rattle.prop_trail.specs.Windows.{Ruled, Covers, IsOut, flipped}
use Rattle.prop_trail.specs.declared.entry.Entry.{Entry}
use Rattle.prop_trail.specs.declared.place.Place.{Place}
use Rattle.prop_trail.specs.inner.Making.{AreMade, IsSpan}
use Rattle.prop_trail.proofs.SayLaws.{SaysIn}
use Rattle.prop_trail.proofs.TrailLaws.{was_at, step_other, step_same, each_made, take_made, tight_at}
use Rattle.prop_trail.proofs.WindowLaws.{out_stays, now_out}

-- ---- one entry

stays_out : (w : Ruled) (o : Option ℤ) (n : ℤ) → IfSome o (λ m. IsOut w m → ⊥) → IsOut w n → IsOut (without_out w o) n
stays_out w None n off out = out
stays_out w (Some m) n off out = out_stays w m n off out

still_gone : (w : Ruled) (o : Option ℤ) (p : Point) → IfSome o (λ m. IsOut w m → ⊥) → IsGone (IsOut w) p
    → IsGone (IsOut (without_out w o)) p
still_gone w o (Number n) off gone = stays_out w o n off gone
still_gone w o (Element n) off gone = absurd gone
still_gone w o (Symbol n) off gone = absurd gone

left_off : (o : Option ℤ) (x : Place) → IfSome o (λ n. IsLeftIn x (Number n)) → IfSome o (λ n. IsOut x.window n → ⊥)
left_off None x h = tt
left_off (Some n) x h = h.1

-- ---- from one entry to a later one

module _ (ps : List Place) (es : List Entry) (d : Entry) (all : AreMade 0 ps es) (p : ℕ) where
  off_at : (m : ℕ) → m < length es → (get_or es m d).place ≡ p
      → IfSome (get_or es m d).out (λ n. IsOut (was_at ps es m p).window n → ⊥)
  off_at m l same =
      let here = each_made 0 m ps es d all l in
      subst (λ (q : ℕ). IfSome (get_or es m d).out (λ n. IsOut (was_at ps es m q).window n → ⊥)) same
      (left_off (get_or es m d).out (was_at ps es m (get_or es m d).place) here.left)

  -- a number that is out stays so
  pub out_later : (k m : ℕ) (n : ℤ) → k ≤ m → m ≤ length es → IsOut (was_at ps es k p).window n
      → IsOut (was_at ps es m p).window n
  out_later k zero n le l out =
      let e : k ≡ 0 = omega (arith, le) in subst (λ (j : ℕ). IsOut (was_at ps es j p).window n) e out
  out_later k (suc m) n le l out =
      let within : m < length es = omega (arith, l) in
      let next : m + 1 ≡ suc m = omega arith in
      elim (cases_eq k (suc m)) as (λ _. IsOut (was_at ps es (suc m) p).window n) [
        | inl e ↦ subst (λ (j : ℕ). IsOut (was_at ps es j p).window n) e out
        | inr before ↦ (
            let was = out_later k m n (omega (arith, le, before)) (omega (arith, l)) out in
            let now = elim (cases_eq (get_or es m d).place p) as (λ _. IsOut (was_at ps es (m + 1) p).window n) [
              | inl same ↦ subst (λ (x : Place). IsOut x.window n) (sym (step_same ps es m p d all within same))
                  (stays_out (was_at ps es m p).window (get_or es m d).out n (off_at m within same) was)
              | inr other ↦ subst (λ (x : Place). IsOut x.window n) (sym (step_other ps es m p d within other)) was
            ] in
            subst (λ (j : ℕ). IsOut (was_at ps es j p).window n) next now)
      ]

  -- a value that is left was so before
  pub left_before : (k m : ℕ) (v : Point) → k ≤ m → m ≤ length es → IsLeftIn (was_at ps es m p) v
      → IsLeftIn (was_at ps es k p) v
  left_before k zero v le l left =
      let e : k ≡ 0 = omega (arith, le) in subst (λ (j : ℕ). IsLeftIn (was_at ps es j p) v) (sym e) left
  left_before k (suc m) v le l left =
      let within : m < length es = omega (arith, l) in
      let next : m + 1 ≡ suc m = omega arith in
      elim (cases_eq k (suc m)) as (λ _. IsLeftIn (was_at ps es k p) v) [
        | inl e ↦ subst (λ (j : ℕ). IsLeftIn (was_at ps es j p) v) (sym e) left
        | inr before ↦ (
            let last : IsLeftIn (was_at ps es (m + 1) p) v =
            subst (λ (j : ℕ). IsLeftIn (was_at ps es j p) v) (sym next) left in
            let was = elim (cases_eq (get_or es m d).place p) as (λ _. IsLeftIn (was_at ps es m p) v) [
              | inl same ↦ (
                  let here = each_made 0 m ps es d all within in
                  let now = subst (λ (x : Place). IsLeftIn x v) (step_same ps es m p d all within same) last in
                  let tells : (get_or es m d).was ≡ (was_at ps es m p).info =
                  here.was ∙ ap (λ (q : ℕ). (was_at ps es m q).info) same in (
                    subst (λ (i : Info). Holds i v) tells
                        (below_holds (get_or es m d).was (get_or es m d).is v here.grows now.0),
                    λ gone. now.1
                        (still_gone (was_at ps es m p).window (get_or es m d).out v (off_at m within same) gone),
                  ))
              | inr other ↦ subst (λ (x : Place). IsLeftIn x v) (step_other ps es m p d within other) last
            ] in
            left_before k m v (omega (arith, le, before)) (omega (arith, l)) was)
      ]

-- no end was ruled out, at any time
pub tight_then : (roots : List Info) (es : List Entry) (k p : ℕ) → AreMade 0 (map root_of roots) es
    → IsTight (IsOut (was_at (map root_of roots) es k p).window) (was_at (map root_of roots) es k p).info
tight_then roots es k p all = tight_at roots (take k es) (take_made 0 k (map root_of roots) es all) p

-- ---- a number that an entry ruled out

spans_other : (was is : Info) → IsSpan was → Below was is → (p : Point) → Holds is p → (n : ℤ)
    → ((v : ℤ) → p ≡ Number v → v ≢ n) → IsSo (Other n) p
spans_other (Span s) is span below (Number v) h n apart = apart v refl
spans_other (Span s) is span below (Element v) h n apart =
    absurd (below_holds (Span s) is (Element v) below h)
spans_other (Span s) is span below (Symbol v) h n apart =
    absurd (below_holds (Span s) is (Symbol v) below h)
spans_other Nothing is span below p h n apart = absurd span
spans_other (Set s) is span below p h n apart = absurd span
spans_other (Sym s) is span below p h n apart = absurd span
spans_other Contradiction is span below p h n apart = absurd span

some_of : (o : Option ℤ) (n : ℤ) (P : ℤ → Type 0) → o ≡ Some n → IfSome o P → P n
some_of None n P e h = absurd (cc)
some_of (Some m) n P e h = let same : m ≡ n = cc in subst P same h

-- before the entry the number is left, so that it isn't said to be another
pub not_said_before : (ps : List Place) (es : List Entry) (d : Entry) (at p : ℕ) (n : ℤ) → AreMade 0 ps es
    → at < length es → (get_or es at d).place ≡ p → (get_or es at d).out ≡ Some n
    → IsLeftIn (was_at ps es at p) (Number n)
not_said_before ps es d at p n all l same out =
    let here = each_made 0 at ps es d all l in
    subst (λ (q : ℕ). IsLeftIn (was_at ps es at q) (Number n)) same
    (some_of (get_or es at d).out n (λ m. IsLeftIn (was_at ps es at (get_or es at d).place) (Number m)) out here.left)

-- since the entry the value is another
pub said_since : (ps : List Place) (es : List Entry) (d : Entry) (at p : ℕ) (n : ℤ) → AreMade 0 ps es
    → at < length es → (get_or es at d).place ≡ p → (get_or es at d).out ≡ Some n
    → Covers (was_at ps es at p).window n → SaysIn (Other n) (was_at ps es (at + 1) p)
said_since ps es d at p n all l same out covers v left =
    let here = each_made 0 at ps es d all l in
    let e = get_or es at d in
    let now = subst (λ (x : Place). IsLeftIn x v) (step_same ps es at p d all l same) left in
    let before = not_said_before ps es d at p n all l same out in
    let window : without_out (was_at ps es at p).window e.out ≡ flipped (was_at ps es at p).window n =
    ap (without_out (was_at ps es at p).window) out in
    let gone : IsOut (without_out (was_at ps es at p).window e.out) n =
    subst (λ (w : Ruled). IsOut w n) (sym window) (now_out (was_at ps es at p).window n covers before.1) in
    spans_other e.was e.is (some_of e.out n (λ _. IsSpan e.was) out here.span) here.grows v now.0 n
    (λ u is same_number. now.1 (
    let number : v ≡ Number n = is ∙ ap (λ (z : ℤ). Number z) same_number in
    subst (IsGone (IsOut (without_out (was_at ps es at p).window e.out))) (sym number) gone))
