-- What is so of all values that are left, and of none.
use Rattle.std.proofs.Common.{◌≡◌, ◌↔◌, ℤ, pos, ◌+ℤ◌, ◌-ℤ◌, ◌≤ℤ◌, Bool, true, false, not, IsTrue}
use Rattle.std.proofs.Common.{ap, sym, refl, subst, arith, inl, inr}
use Rattle.std.proofs.lemmas.Bool.{false≢true}
use Rattle.std.proofs.lemmas.Int.{ints}
use Rattle.prop_lattice.specs.Points.{Point, Number, Element, Symbol, Holds}
use Rattle.prop_lattice.specs.declared.span.Span as spans
use Rattle.prop_lattice.specs.declared.info.Info.{Info}
use Rattle.prop_lattice.specs.declared.info.Info.TheVariants.{Nothing, Span, Set, Sym, Contradiction}
use Rattle.prop_facts.specs.Facts.{IsSo}
use Rattle.prop_facts.specs.declared.fact.Fact.{Fact}
use Rattle.prop_facts.specs.declared.fact.Fact.TheVariants.{AtLeast, AtMost, Is, Other, Among, Same}
use Rattle.prop_trail.specs.Narrowing.{IsGone, IsTight}
use Rattle.prop_trail.specs.Places.{IsLeftIn}
use Rattle.prop_trail.specs.Windows.{Ruled, IsOut}
use Rattle.prop_trail.specs.declared.place.Place.{Place}
use Rattle.prop_trail.proofs.WindowLaws.{out_or_not}

-- the fact is so of all values that the information leaves
abbrev pub Follows : Fact → Info → Type 0
Follows f i = (p : Point) → Holds i p → IsSo f p

-- the fact is so of all values that are left
abbrev pub SaysIn : Fact → Place → Type 0
SaysIn f x = (p : Point) → IsLeftIn x p → IsSo f p

-- the fact is so of no value that is left
abbrev pub BarsIn : Fact → Place → Type 0
BarsIn f x = (p : Point) → IsLeftIn x p → IsSo f p → ⊥

-- no fact is so of an element and a symbol
not_both : (f : Fact) → IsSo f (Element 0) → IsSo f (Symbol 0) → ⊥
not_both (AtLeast n) a b = a
not_both (AtMost n) a b = a
not_both (Is n) a b = a
not_both (Other n) a b = a
not_both (Among e) a b = b
not_both (Same s) a b = a

-- what is so of both ends is so of a number between them, but that it is another than itself
so_between : (f : Fact) (lo hi v : ℤ) → IsSo f (Number lo) → IsSo f (Number hi) → lo ≤ℤ v → v ≤ℤ hi
    → (f ≡ Other v → ⊥) → IsSo f (Number v)
so_between (AtLeast n) lo hi v a b l m other = omega (arith, ints, a)
so_between (AtMost n) lo hi v a b l m other = omega (arith, ints, b)
so_between (Is n) lo hi v a b l m other = omega (arith, ints, a, b)
so_between (Other n) lo hi v a b l m other = λ e. other (ap (λ (z : ℤ). Other z) (sym e))
so_between (Among e) lo hi v a b l m other = absurd a
so_between (Same s) lo hi v a b l m other = absurd a

follows_left : (f : Fact) (w : Ruled) (i : Info) → IsTight (IsOut w) i
    → ((n : ℤ) (s : spans.Span) → i ≡ Span s → f ≡ Other n → IsOut w n → ⊥)
    → ((p : Point) → Holds i p → (IsGone (IsOut w) p → ⊥) → IsSo f p) → (p : Point) → Holds i p → IsSo f p
follows_left f w Nothing tight apart says p h =
    absurd (not_both f (says (Element 0) tt (λ g. g)) (says (Symbol 0) tt (λ g. g)))
follows_left f w (Span s) tight apart says (Number v) h = elim (out_or_not w v) as (λ _. IsSo f (Number v)) [
  | inl out ↦ (
      let o = s.ordered in
      let least : s.lo ≤ℤ s.lo = omega (arith, ints) in
      let most : s.hi ≤ℤ s.hi = omega (arith, ints) in
      so_between f s.lo s.hi v (says (Number s.lo) (least, o) tight.0) (says (Number s.hi) (o, most) tight.1) h.0 h.1
      (λ e. apart v s refl e out))
  | inr off ↦ says (Number v) h off
]
follows_left f w (Span s) tight apart says (Element v) h = absurd h
follows_left f w (Span s) tight apart says (Symbol v) h = absurd h
follows_left f w (Set s) tight apart says (Number v) h = absurd h
follows_left f w (Set s) tight apart says (Element v) h = says (Element v) h (λ g. g)
follows_left f w (Set s) tight apart says (Symbol v) h = absurd h
follows_left f w (Sym s) tight apart says (Number v) h = absurd h
follows_left f w (Sym s) tight apart says (Element v) h = absurd h
follows_left f w (Sym s) tight apart says (Symbol v) h = says (Symbol v) h (λ g. g)
follows_left f w Contradiction tight apart says (Number v) h = absurd h
follows_left f w Contradiction tight apart says (Element v) h = absurd h
follows_left f w Contradiction tight apart says (Symbol v) h = absurd h

-- what is so of all values that are left is so of all that the information leaves, where no end
-- was ruled out
pub follows_from_says : (f : Fact) (x : Place) → IsTight (IsOut x.window) x.info
    → ((n : ℤ) (s : spans.Span) → x.info ≡ Span s → f ≡ Other n → IsOut x.window n → ⊥) → SaysIn f x
    → Follows f x.info
follows_from_says f x tight apart says =
    follows_left f x.window x.info tight apart (λ p h off. says p (h, off))

pub says_from_follows : (f : Fact) (x : Place) → Follows f x.info → SaysIn f x
says_from_follows f x follows = λ p left. follows p left.0

-- facts that name the same number
pub same_other : (m n : ℤ) → (let f : Fact = Other m in f) ≡ Other n → m ≡ n
same_other m n e = cc

-- the denial of a test
pub denied : (b : Bool) (P : Type 0) → IsTrue b ↔ P → IsTrue (not b) ↔ (P → ⊥)
denied true P iff = (λ h. absurd (false≢true h), λ off. absurd (off (iff.0 refl)))
denied false P iff = (λ _ p. false≢true (iff.1 p), λ _. refl)

-- that the value of a span is another than a number: the number isn't left
other_left : (x : Place) (s : spans.Span) (n : ℤ) → x.info ≡ Span s → (IsLeftIn x (Number n) → ⊥) → (p : Point)
    → IsLeftIn x p → IsSo (Other n) p
other_left x s n is off (Number v) left = λ e. off (subst (λ (z : ℤ). IsLeftIn x (Number z)) e left)
other_left x s n is off (Element v) left = subst (λ (i : Info). Holds i (Element v)) is left.0
other_left x s n is off (Symbol v) left = subst (λ (i : Info). Holds i (Symbol v)) is left.0

pub says_other_span : (x : Place) (s : spans.Span) (n : ℤ) (b : Bool) → x.info ≡ Span s
    → IsTrue b ↔ IsLeftIn x (Number n) → IsTrue (not b) ↔ SaysIn (Other n) x
says_other_span x s n b is iff =
    let no = denied b (IsLeftIn x (Number n)) iff in
    (λ t. other_left x s n is (no.0 t), λ says. no.1 (λ left. says (Number n) left refl))

-- that the value is a number is so of no value: the number isn't left
is_barred : (x : Place) (n : ℤ) → (IsLeftIn x (Number n) → ⊥) → (p : Point) → IsLeftIn x p → IsSo (Is n) p → ⊥
is_barred x n off (Number v) left so = off (subst (λ (z : ℤ). IsLeftIn x (Number z)) so left)
is_barred x n off (Element v) left so = so
is_barred x n off (Symbol v) left so = so

pub bars_is : (x : Place) (n : ℤ) (b : Bool) → IsTrue b ↔ IsLeftIn x (Number n)
    → IsTrue (not b) ↔ BarsIn (Is n) x
bars_is x n b iff =
    let no = denied b (IsLeftIn x (Number n)) iff in
    (λ t. is_barred x n (no.0 t), λ bars. no.1 (λ left. bars (Number n) left refl))

-- a fact of a number between two ends is so of an end, but that it is the number
so_at_end : (f : Fact) (lo hi v : ℤ) → lo ≤ℤ v → v ≤ℤ hi → IsSo f (Number v) → (f ≡ Is v → ⊥)
    → (IsSo f (Number lo) → ⊥) → (IsSo f (Number hi) → ⊥) → ⊥
so_at_end (AtLeast n) lo hi v l m so is a b = b (omega (arith, ints, so))
so_at_end (AtMost n) lo hi v l m so is a b = a (omega (arith, ints, so))
so_at_end (Is n) lo hi v l m so is a b = is (ap (λ (z : ℤ). Is z) (sym so))
so_at_end (Other n) lo hi v l m so is a b =
    a (λ e. b (λ d. so (omega (arith, ints, e, d))))
so_at_end (Among s) lo hi v l m so is a b = so
so_at_end (Same s) lo hi v l m so is a b = so

barred_left : (f : Fact) (w : Ruled) (i : Info) → IsTight (IsOut w) i → ((n : ℤ) → f ≡ Is n → ⊥)
    → ((p : Point) → Holds i p → (IsGone (IsOut w) p → ⊥) → IsSo f p → ⊥) → (p : Point) → Holds i p → IsSo f p → ⊥
barred_left f w i tight apart bars (Element v) h so = bars (Element v) h (λ g. g) so
barred_left f w i tight apart bars (Symbol v) h so = bars (Symbol v) h (λ g. g) so
barred_left f w (Span s) tight apart bars (Number v) h so = elim (out_or_not w v) as (λ _. ⊥) [
  | inl out ↦ (
      let o = s.ordered in
      let least : s.lo ≤ℤ s.lo = omega (arith, ints) in
      let most : s.hi ≤ℤ s.hi = omega (arith, ints) in
      so_at_end f s.lo s.hi v h.0 h.1 so (apart v) (bars (Number s.lo) (least, o) tight.0)
      (bars (Number s.hi) (o, most) tight.1))
  | inr off ↦ bars (Number v) h off so
]
barred_left f w Nothing tight apart bars (Number v) h so = elim (out_or_not w v) as (λ _. ⊥) [
  | inl out ↦ (
      let a = out.0.0 in
      let b = out.0.1 in
      so_at_end f (w.first -ℤ pos 1) (w.last +ℤ pos 1) v (omega (arith, ints, a)) (omega (arith, ints, b)) so (apart v)
      (bars (Number (w.first -ℤ pos 1)) tt (λ o. let c = o.0.0 in omega (arith, ints, c)))
      (bars (Number (w.last +ℤ pos 1)) tt (λ o. let c = o.0.1 in omega (arith, ints, c))))
  | inr off ↦ bars (Number v) h off so
]
barred_left f w (Set s) tight apart bars (Number v) h so = h
barred_left f w (Sym s) tight apart bars (Number v) h so = h
barred_left f w Contradiction tight apart bars (Number v) h so = h

-- what is so of no value that is left is so of none that the information leaves, where no end was
-- ruled out
pub barred_from_left : (f : Fact) (x : Place) → IsTight (IsOut x.window) x.info → ((n : ℤ) → f ≡ Is n → ⊥)
    → BarsIn f x → (p : Point) → Holds x.info p → IsSo f p → ⊥
barred_from_left f x tight apart bars = barred_left f x.window x.info tight apart (λ p h off. bars p (h, off))
