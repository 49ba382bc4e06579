-- What a side of a choice says that is taken.
use Rattle.std.proofs.Common.{◌≡◌, ℕ, ◌+◌, ◌-◌, ◌≤◌, ◌^◌, inl, inr, zero, suc, Bool, true, false, ◌==◌, List}
use Rattle.std.proofs.Common.{[], ◌∷◌, length}
use Rattle.std.proofs.Common.{Option, Some, slice_get, slice_index, refl, ap, sym, ◌∙◌, subst, arith, IsTrue, Contains}
use Rattle.std.proofs.Common.{nat_lt, eq-eqb}
use Rattle.std.specs.Int.{bit_at}
use Rattle.std.proofs.lemmas.Bool.{cases_eq, ltb-true}
use Rattle.std.proofs.lemmas.List.Elements.{All-contains}
use Rattle.std.proofs.lemmas.Nat.Bits.{bit_at-pow_other}
use Rattle.std.proofs.lemmas.Option.{none-some, same_Some}
use Rattle.prop_lattice.specs.Points.{Point, Element, Holds}
use Rattle.prop_lattice.specs.declared.elements.Elements as sets
use Rattle.prop_numbers.specs.Sets.{Members}
use Rattle.prop_premises.specs.ChoiceLists.{IsChoiceList, hypothetical, hypotheticals_of, worldview}
use Rattle.prop_premises.specs.declared.choice.Choice.{Choice}
use Rattle.prop_procedures.specs.declared.shape.Param.{Param}
use Rattle.prop_cells.specs.Points.{Attached, ArePoints}
use Rattle.prop_cells.specs.Problems.{is_member}
use Rattle.prop_cells.specs.declared.instance.Statement.{Statement}
use Rattle.prop_facts.specs.Facts.{IsSo}
use Rattle.prop_facts.specs.declared.fact.Fact.{Fact}
use Rattle.prop_facts.specs.declared.fact.Fact.TheVariants.{Among}
use Rattle.prop_facts.specs.declared.fact.Literal.{Literal}
use Rattle.prop_refuting.specs.Places.{IsSoAt, point_at}
use Rattle.prop_refuting.specs.Steps.{IsTaken}
use Rattle.prop_refuting.proofs.MeetLemmas.{or_first, or_second}
use Rattle.prop_refuting.proofs.PlaceLemmas.{behind_cells}

-- a list that takes a side has its premise
pub takes : (choices : List Choice) (list : List ℕ) (c : ℕ) (choice : Choice) (p side : ℕ) → IsChoiceList choices list
    → slice_get choices c ≡ Some choice → slice_index list c - 1 ≡ side → p ≡ choice.first + side
    → IsTrue (hypotheticals_of choices list p)
takes [] list c choice p side h at e q = absurd (none-some choice at)
takes (x ∷ choices) [] c choice p side h at e q = absurd h
takes (x ∷ choices) (s ∷ list) zero choice p side h at e q =
    or_first (hypothetical x s == p) (hypotheticals_of choices list p)
    (eq-eqb (hypothetical x s) p same)
  where
    same : hypothetical x s ≡ p
    same = omega (arith, ap (λ (y : Choice). y.first) (same_Some x choice at), e, q)
takes (x ∷ choices) (s ∷ list) (suc c) choice p side h at e q =
    or_second (hypothetical x s == p) (hypotheticals_of choices list p) (takes choices list c choice p side h.1 at e q)

not_below : (a b : ℕ) → b ≤ a → nat_lt a b ≡ false
not_below a b l = by (nat_lt a b) refl
  where
    by : (t : Bool) → nat_lt a b ≡ t → nat_lt a b ≡ false
    by true e = absurd (omega (arith, l, ltb-true a b e))
    by false e = e

only_bit : (bits i j : ℕ) → bits ≡ 2 ^ i → bit_at bits j ≡ 1 → j ≡ i
only_bit bits i j e h = elim (cases_eq j i) [
  | inl same ↦ same
  | inr other ↦ absurd (omega (arith, h, ap (λ b. bit_at b j) e, bit_at-pow_other i j other))
]

only_so : (fact : Fact) (e : sets.Elements) (side j : ℕ) → fact ≡ Among e → e.bits ≡ 2 ^ side → IsSo fact (Element j)
    → j ≡ side
only_so fact e side j f b h =
    only_bit e.bits side j b (let P : Fact → Type 0 = λ g. IsSo g (Element j) in subst P f h)

-- where the side is taken, what is stated under its premise holds
pub side_holds : {related : ℕ → Param → List Point → Point → Type 0} (n : Attached) (choices : List Choice)
    (s : Members) (list : List ℕ) (points : ℕ → Point) (x : Statement) (taken : Literal)
    → ArePoints related n (worldview s choices list) points → IsChoiceList choices list
    → Contains n.statements x → IsTaken n choices x.premise taken → IsSoAt n points list taken
    → Holds x.info (points x.cell)
side_holds {related} n choices s list points x taken p c at t so =
    All-contains (λ (y : Statement). IsTrue (is_member (worldview s choices list) y.premise)
    → Holds y.info (points y.cell)) n.statements x p.stated at member
  where
    behind : nat_lt taken.place (length n.kinds) ≡ false
    behind = not_below taken.place (length n.kinds) (omega (arith, t.place))

    point : point_at n points list taken.place ≡ Element (slice_index list t.choice - 1)
    point = behind_cells n points list taken.place behind
        ∙ ap (λ k. Element (slice_index list k - 1)) (omega (arith, t.place))

    same : slice_index list t.choice - 1 ≡ t.side
    same = only_so taken.fact t.elements t.side (slice_index list t.choice - 1) t.fact t.bits
        (let P : Point → Type 0 = λ q. IsSo taken.fact q in subst P point so)

    member : IsTrue (is_member (worldview s choices list) x.premise)
    member = let P : Option ℕ → Type 0 = λ o. IsTrue (is_member (worldview s choices list) o) in
        subst P (sym t.of) (or_second (s t.number) (hypotheticals_of choices list t.number)
        (takes choices list t.choice t.at.of t.number t.side c t.at.at same t.at.same))
