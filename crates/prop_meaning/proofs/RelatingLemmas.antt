-- Cells show whether two elements are a pair of a relation.
use Rattle.std.proofs.Common.{◌≡◌, ◌∙◌, ◌⊎◌, inl, inr, ℕ, zero, suc, ◌<◌, ◌≤◌, List, [], ◌∷◌, ◌++◌, Bool}
use Rattle.std.proofs.Common.{true, false, cond, not, ◌&&◌, ◌||◌, ◌==◌, ◌^◌, nat_lt, Option, Some}
use Rattle.std.proofs.Common.{refl, ap, sym, subst, arith, eq-eqb, eqb-true}
use Rattle.std.specs.Int.{bit_at}
use Rattle.std.specs.Option.{option_map_or}
use Rattle.std.specs.Prelude.{slice_index}
use Rattle.std.proofs.lemmas.Nat.Bits.{bit_at-pow_same, bit_at-pow_other}
use Rattle.std.proofs.lemmas.Bool.{lt-ltb, ltb-true, ltb-false}
use Rattle.prop_lattice.specs.Points.{Point, Element, Number, Symbol, IsPointOf}
use Rattle.prop_lattice.specs.declared.elements.Elements as sets
use Rattle.prop_lattice.specs.declared.info.Info.{Info}
use Rattle.prop_lattice.specs.declared.info.Info.TheVariants as infos
use Rattle.prop_lattice.specs.declared.info.Kind.TheVariants.{Set}
use Rattle.prop_procedures.specs.declared.shape.Kinded.{Kinded}
use Rattle.prop_sets.specs.Chosen.{any_below}
use Rattle.prop_sets.specs.Images.{HoldsJust, IsInImage}
use Rattle.prop_sets.specs.Relation.{Relation}
use Rattle.prop_sets.specs.declared.side.Side.{Side}
use Rattle.prop_terms.specs.declared.operators.Infix.TheVariants as between
use Rattle.prop_terms.specs.Meaning.{Value, Text, all_of, is_same, truth, worth}
use Rattle.prop_terms.specs.Terms.{Term, Name, Two}
use Rattle.prop_meaning.specs.Words.{Lexicon, IsLexicon, are_paired, is_pair, names_at, value_as}
use Rattle.prop_meaning.specs.declared.draft.Made.{Made}
use Rattle.prop_meaning.specs.declared.relating.Link.{Link}
use Rattle.prop_meaning.specs.declared.known.Known.{Known}
use Rattle.prop_meaning.specs.declared.steps.Pair.{Pair}
use Rattle.prop_meaning.specs.declared.steps.Single.TheVariants.{Not}
use Rattle.prop_meaning.specs.declared.steps.Step.TheVariants as steps
use Rattle.prop_meaning.specs.declared.steps.Pair.TheVariants.{And, Or, Same}
use Rattle.prop_meaning.specs.inner.Drafts.{Grown, Has, IsElement, IsGood, IsProper, Makes, Shows}
use Rattle.prop_meaning.specs.inner.Drafts.{truth_kind}
use Rattle.prop_meaning.specs.inner.Formulas.{is_list}
use Rattle.prop_meaning.specs.inner.Relating.{HasLink, HasRelation, all_supported, any_partner, are_joined}
use Rattle.prop_meaning.specs.inner.Relating.{first_side, related_point, second_side, side_kind, supported}
use Rattle.prop_meaning.specs.inner.Steps.{of_one, of_two, truth_point}
use Rattle.prop_meaning.proofs.BraceLemmas.{or_point}
use Rattle.prop_meaning.proofs.Formulas.{elements_same, told, untold}
use Rattle.prop_meaning.proofs.Growing.{grown_trans, has_grows, is_proper, shows_grows, then_makes}
use Rattle.prop_meaning.proofs.Showing.{each_single}

-- ---- tests of numbers

same_test : (i : ℕ) → (i == i) ≡ true
same_test i = eq-eqb i i refl

-- a number is the other, or one of the two is less
decided : (i n : ℕ) → (i ≡ n) ⊎ ((i < n) ⊎ (n < i))
decided i n = by (nat_lt i n) refl (nat_lt n i) refl
  where
    by : (b : Bool) → nat_lt i n ≡ b → (c : Bool) → nat_lt n i ≡ c → (i ≡ n) ⊎ ((i < n) ⊎ (n < i))
    by true e c f = inr (inl (ltb-true i n e))
    by false e true f = inr (inr (ltb-true n i f))
    by false e false f = inl (omega (arith, ltb-false i n e, ltb-false n i f))

not_same : (i n : ℕ) → (i < n) ⊎ (n < i) → (i == n) ≡ false
not_same i n o = by (i == n) refl o
  where
    by : (b : Bool) → (i == n) ≡ b → (i < n) ⊎ (n < i) → b ≡ false
    by false e o = refl
    by true e (inl l) = absurd (omega (arith, l, eqb-true i n e))
    by true e (inr l) = absurd (omega (arith, l, eqb-true i n e))

not_below : (i n : ℕ) → n ≤ i → nat_lt i n ≡ false
not_below i n l = by (nat_lt i n) refl
  where
    by : (b : Bool) → nat_lt i n ≡ b → b ≡ false
    by false e = refl
    by true e = absurd (omega (arith, l, ltb-true i n e))

-- another number than n is below the next one where it is below n
other_below : (i n : ℕ) → (i < n) ⊎ (n < i) → nat_lt i n ≡ nat_lt i (suc n)
other_below i n (inl l) = lt-ltb i n l ∙ sym (lt-ltb i (suc n) (omega (arith, l)))
other_below i n (inr l) = not_below i n (omega (arith, l)) ∙ sym (not_below i (suc n) (omega (arith, l)))

or_none : (b : Bool) → (b || false) ≡ b
or_none true = refl
or_none false = refl

and_whole : (b : Bool) → (b && true) ≡ b
and_whole true = refl
and_whole false = refl

-- ---- pairs

one_bit : (i j : ℕ) → bit_at (2 ^ i) j ≡ 1 → j ≡ i
one_bit i j h = by (decided j i)
  where
    other : (j ≡ i → ⊥) → j ≡ i
    other n = absurd (omega (arith, h, bit_at-pow_other i j n))

    by : (j ≡ i) ⊎ ((j < i) ⊎ (i < j)) → j ≡ i
    by (inl e) = e
    by (inr (inl l)) = other (λ e. omega (arith, l, e))
    by (inr (inr l)) = other (λ e. omega (arith, l, e))

-- an element that is paired with one of a single one is paired with that
from_image : (m : Relation) (x : sets.Elements) (i j : ℕ) → x.bits ≡ 2 ^ i → IsInImage m x j → are_paired m i j ≡ true
from_image m x i j b (k, has, pair) =
    let same : k ≡ i = one_bit i k (subst (λ n. bit_at n k ≡ 1) b has) in
    eq-eqb (bit_at (slice_index m.rows i) j) 1 (subst (λ n. bit_at (slice_index m.rows n) j ≡ 1) same pair.partners)

into_image : (m : Relation) (x : sets.Elements) (i j : ℕ) → x.bits ≡ 2 ^ i → i < m.from.size → j < m.to.size
    → are_paired m i j ≡ true → IsInImage m x j
into_image m x i j b l k e = (
  i,
  subst (λ n. bit_at n i ≡ 1) (sym b) (bit_at-pow_same i),
  record { first = l; second = k; partners = eqb-true (bit_at (slice_index m.rows i) j) 1 e },
)

as_truth : (b c : Bool) → (b ≡ true → c ≡ true) → (c ≡ true → b ≡ true) → b ≡ c
as_truth true c f g = sym (f refl)
as_truth false true f g = g refl
as_truth false false f g = refl

pub paired_set : (m : Relation) (x e : sets.Elements) (i j : ℕ) → x.bits ≡ 2 ^ i → i < m.from.size → j < m.to.size
    → HoldsJust (IsInImage m x) (infos.Set e) → (bit_at e.bits j == 1) ≡ are_paired m i j
paired_set m x e i j b l k h = as_truth _ _
    (λ t. from_image m x i j b ((h j).0 (eqb-true (bit_at e.bits j) 1 t)))
    (λ t. eq-eqb (bit_at e.bits j) 1 ((h j).1 (into_image m x i j b l k t)))

unpaired : (m : Relation) (x : sets.Elements) (i j : ℕ) → x.bits ≡ 2 ^ i → i < m.from.size → j < m.to.size
    → (IsInImage m x j → ⊥) → false ≡ are_paired m i j
unpaired m x i j b l k n = as_truth false _ (λ e. cc) (λ t. absurd (n (into_image m x i j b l k t)))

pub paired_none : (m : Relation) (x : sets.Elements) (i j : ℕ) (r : Info) → x.bits ≡ 2 ^ i → i < m.from.size
    → j < m.to.size → HoldsJust (IsInImage m x) r → ((e : sets.Elements) → r ≡ infos.Set e → ⊥)
    → false ≡ are_paired m i j
paired_none m x i j (infos.Set e) b l k h n = absurd (n e refl)
paired_none m x i j infos.Nothing b l k h n =
    let beyond : IsInImage m x m.to.size = (h m.to.size).0 tt in
    absurd (omega (arith, beyond.2.second))
paired_none m x i j (infos.Span s) b l k h n = unpaired m x i j b l k (λ p. (h j).1 p)
paired_none m x i j (infos.Sym s) b l k h n = unpaired m x i j b l k (λ p. (h j).1 p)
paired_none m x i j infos.Contradiction b l k h n = unpaired m x i j b l k (λ p. (h j).1 p)

-- ---- what is made

and_point : (b c : Bool) → of_two And (truth_point b) (truth_point c) ≡ truth_point (b && c)
and_point true true = refl
and_point true false = refl
and_point false true = refl
and_point false false = refl

passed : (b : Bool) → ((b || false) || true) ≡ (b || true)
passed true = refl
passed false = refl

-- one number more passes the test
passes : (test : ℕ → Bool) (n j : ℕ) (b : Bool) → (j ≡ n) ⊎ ((j < n) ⊎ (n < j)) → test n ≡ true
    → ((b || (nat_lt j n && test j)) || (j == n)) ≡ (b || (nat_lt j (suc n) && test j))
passes test n j b (inl e) t =
    ap (λ c. (b || (c && test j)) || (j == n)) (not_below j n (omega (arith, e)))
    ∙ (ap (λ c. (b || false) || c) (ap (λ k. j == k) (sym e) ∙ same_test j)
    ∙ (passed b
    ∙ sym (ap (λ c. b || (c && test j)) (lt-ltb j (suc n) (omega (arith, e)))
    ∙ (ap (λ k. b || test k) e ∙ ap (λ c. b || c) t))))
passes test n j b (inr o) t = ap (λ c. (b || (nat_lt j n && test j)) || c) (not_same j n o)
    ∙ (or_none (b || (nat_lt j n && test j)) ∙ ap (λ c. b || (c && test j)) (other_below j n o))

-- and one that fails it
fails : (test : ℕ → Bool) (n j : ℕ) (b : Bool) → (j ≡ n) ⊎ ((j < n) ⊎ (n < j)) → test n ≡ false
    → (b || (nat_lt j n && test j)) ≡ (b || (nat_lt j (suc n) && test j))
fails test n j b (inl e) t = ap (λ c. b || (c && test j)) (not_below j n (omega (arith, e)))
    ∙ sym (ap (λ c. b || (c && test j)) (lt-ltb j (suc n) (omega (arith, e)))
    ∙ (ap (λ k. b || test k) e ∙ ap (λ c. b || c) t))
fails test n j b (inr o) t = ap (λ c. b || (c && test j)) (other_below j n o)

any_told : (test : ℕ → Bool) (n j : ℕ) (b : Bool)
    → any_partner test n (truth_point b) (Element j) ≡ truth_point (b || (nat_lt j n && test j))
any_told test zero j b = ap truth_point
    (sym (ap (λ c. b || (c && test j)) (not_below j zero (omega arith)) ∙ or_none b))
any_told test (suc n) j b =
    ap (λ p. cond (test n) (of_two Or p (truth_point (j == n))) p) (any_told test n j b) ∙ by (test n) refl
  where
    by : (t : Bool) → test n ≡ t
        → cond t (of_two Or (truth_point (b || (nat_lt j n && test j))) (truth_point (j == n)))
        (truth_point (b || (nat_lt j n && test j))) ≡ truth_point (b || (nat_lt j (suc n) && test j))
    by true e = or_point (b || (nat_lt j n && test j)) (j == n)
        ∙ ap truth_point (passes test n j b (decided j n) e)
    by false e = ap truth_point (fails test n j b (decided j n) e)

supported_told : (link : Link) (k i j : ℕ) → j < (second_side link).size
    → supported link k (Element i) (Element j) ≡ truth_point (not (i == k) || are_joined link k j)
supported_told link k i j l =
    ap (λ b. any_partner (are_joined link k) (second_side link).size (truth_point b) (Element j)) (untold (i == k))
    ∙ (any_told (are_joined link k) (second_side link).size j (not (i == k))
    ∙ ap (λ c. truth_point (not (i == k) || (c && are_joined link k j))) (lt-ltb j (second_side link).size l))

and_skipped : (b c : Bool) → ((b && true) && c) ≡ (b && c)
and_skipped true c = refl
and_skipped false c = refl

-- one element more is supported
more_told : (joined : ℕ → Bool) (n i : ℕ) (b : Bool) → (i ≡ n) ⊎ ((i < n) ⊎ (n < i))
    → ((b && (not (nat_lt i n) || joined i)) && (not (i == n) || joined n))
    ≡ (b && (not (nat_lt i (suc n)) || joined i))
more_told joined n i b (inl e) =
    ap (λ c. (b && (not c || joined i)) && (not (i == n) || joined n)) (not_below i n (omega (arith, e)))
    ∙ (and_skipped b (not (i == n) || joined n)
    ∙ (ap (λ k. b && (not (i == k) || joined k)) (sym e)
    ∙ (ap (λ c. b && (not c || joined i)) (same_test i)
    ∙ sym (ap (λ c. b && (not c || joined i)) (lt-ltb i (suc n) (omega (arith, e)))))))
more_told joined n i b (inr o) =
    ap (λ c. (b && (not (nat_lt i n) || joined i)) && (not c || joined n)) (not_same i n o)
    ∙ (and_whole (b && (not (nat_lt i n) || joined i))
    ∙ ap (λ c. b && (not c || joined i)) (other_below i n o))

all_told : (link : Link) (n i j : ℕ) (b : Bool) → j < (second_side link).size
    → all_supported link n (truth_point b) (Element i) (Element j)
    ≡ truth_point (b && (not (nat_lt i n) || are_joined link i j))
all_told link zero i j b l = ap truth_point (sym (ap (λ c. b && (not c || are_joined link i j))
    (not_below i zero (omega arith)) ∙ and_whole b))
all_told link (suc n) i j b l =
    ap (λ p. of_two And p (supported link n (Element i) (Element j))) (all_told link n i j b l)
    ∙ (ap (of_two And (truth_point (b && (not (nat_lt i n) || are_joined link i j)))) (supported_told link n i j l)
    ∙ (and_point (b && (not (nat_lt i n) || are_joined link i j)) (not (i == n) || are_joined link n j)
    ∙ ap truth_point (more_told (λ k. are_joined link k j) n i b (decided i n))))

-- the point is one of so many elements
pub on_element : (domain size : ℕ) (P : Point → Type 0) → ((i : ℕ) → i < size → P (Element i)) → (p : Point)
    → IsPointOf (Set domain) size p → P p
on_element domain size P f (Element i) h = f i h
on_element domain size P f (Number x) h = absurd h
on_element domain size P f (Symbol m) h = absurd h

-- all that a link says of two elements is said where it says it of each of the first ones
link_told : (link : Link) (i j : ℕ) (b : Bool) → i < (first_side link).size → j < (second_side link).size
    → all_supported link (first_side link).size (truth_point b) (Element i) (Element j)
    ≡ truth_point (b && are_joined link i j)
link_told link i j b k l = all_told link (first_side link).size i j b l
    ∙ ap (λ c. truth_point (b && (not c || are_joined link i j))) (lt-ltb i (first_side link).size k)

twice : (b : Bool) → ((true && b) && b) ≡ b
twice true = refl
twice false = refl

-- said forth and back, a relation is said of two elements
pub both_told : (forth back : Link) (m : Relation) (p q : Point) → forth.relation.now ≡ m → back.relation.now ≡ m
    → forth.turned ≡ false → back.turned ≡ true → IsPointOf (Set m.from.domain) m.from.size p
    → IsPointOf (Set m.to.domain) m.to.size q
    → all_supported back m.to.size (all_supported forth m.from.size (Element 0) p q) q p ≡ related_point m p q
both_told forth back m p q e f t u h k =
    on_element m.from.domain m.from.size
    (λ p. all_supported back m.to.size (all_supported forth m.from.size (Element 0) p q) q p ≡ related_point m p q)
    (λ i l. on_element m.to.domain m.to.size
    (λ q. all_supported back m.to.size (all_supported forth m.from.size (Element 0) (Element i) q) q (Element i)
    ≡ related_point m (Element i) q) (λ j n. by i j l n) q k) p h
  where
    first_forth : first_side forth ≡ m.from
    first_forth = ap (λ b. cond b forth.relation.now.to forth.relation.now.from) t ∙ ap (λ (n : Relation). n.from) e

    second_forth : second_side forth ≡ m.to
    second_forth = ap (λ b. cond b forth.relation.now.from forth.relation.now.to) t ∙ ap (λ (n : Relation). n.to) e

    first_back : first_side back ≡ m.to
    first_back = ap (λ b. cond b back.relation.now.to back.relation.now.from) u ∙ ap (λ (n : Relation). n.to) f

    second_back : second_side back ≡ m.from
    second_back = ap (λ b. cond b back.relation.now.from back.relation.now.to) u ∙ ap (λ (n : Relation). n.from) f

    joined_forth : (i j : ℕ) → are_joined forth i j ≡ are_paired m i j
    joined_forth i j = ap (λ b. cond b (are_paired forth.relation.now j i) (are_paired forth.relation.now i j)) t
        ∙ ap (λ (n : Relation). are_paired n i j) e

    joined_back : (i j : ℕ) → are_joined back j i ≡ are_paired m i j
    joined_back i j = ap (λ b. cond b (are_paired back.relation.now i j) (are_paired back.relation.now j i)) u
        ∙ ap (λ (n : Relation). are_paired n i j) f

    by : (i j : ℕ) → i < m.from.size → j < m.to.size
        → all_supported back m.to.size (all_supported forth m.from.size (Element 0) (Element i) (Element j)) (Element j)
        (Element i) ≡ truth_point (are_paired m i j)
    by i j l n =
        let first : all_supported forth m.from.size (truth_point true) (Element i) (Element j)
        ≡ truth_point (true && are_paired m i j) =
        ap (λ (s : Side). all_supported forth s.size (truth_point true) (Element i) (Element j)) (sym first_forth)
        ∙ (link_told forth i j true (subst (λ (s : Side). i < s.size) (sym first_forth) l)
        (subst (λ (s : Side). j < s.size) (sym second_forth) n)
        ∙ ap (λ b. truth_point (true && b)) (joined_forth i j)) in
        ap (λ r. all_supported back m.to.size r (Element j) (Element i)) first
        ∙ (ap (λ (s : Side). all_supported back s.size (truth_point (true && are_paired m i j)) (Element j) (Element i))
        (sym first_back)
        ∙ (link_told back j i (true && are_paired m i j) (subst (λ (s : Side). j < s.size) (sym first_back) n)
        (subst (λ (s : Side). i < s.size) (sym second_back) l)
        ∙ (ap (λ b. truth_point ((true && are_paired m i j) && b)) (joined_back i j)
        ∙ ap truth_point (twice (are_paired m i j)))))

-- ---- cells

-- an element of a kind is well made
pub good_at : (lexicon : Lexicon) (made : List Made) (place i : ℕ) (kinded : Kinded) (k : Known) → k.kinded ≡ kinded
    → i < 64 → IsElement lexicon kinded i → IsGood lexicon made place (record { step = steps.Element i; known = k })
good_at lexicon made place i kinded k e l is = record {
  behind = tt;
  suits = l;
  within = λ a r.
      let there : IsProper lexicon k.kinded (Element i) =
      subst (λ n. IsProper lexicon n (Element i)) (sym e) (is r.words) in
      record { within = (there.of_kind, tt); named = there.named };
}

pub yes_there : (lexicon : Lexicon) → IsElement lexicon truth_kind 0
yes_there lexicon law = record { of_kind = omega arith; named = subst (λ n. 0 < n) (sym law.truths) (omega arith) }

side_there : (lexicon : Lexicon) (m : Relation) → HasRelation lexicon m → IsLexicon lexicon → (b : Bool)
    → (cond b m.to m.from).size ≡ lexicon.size (cond b m.to m.from).domain
side_there lexicon m named law true = (law.sides named.0 m named.1).1
side_there lexicon m named law false = (law.sides named.0 m named.1).0

other_there : (lexicon : Lexicon) (m : Relation) → HasRelation lexicon m → IsLexicon lexicon → (b : Bool)
    → (cond b m.from m.to).size ≡ lexicon.size (cond b m.from m.to).domain
other_there lexicon m named law true = (law.sides named.0 m named.1).0
other_there lexicon m named law false = (law.sides named.0 m named.1).1

pub first_there : (lexicon : Lexicon) (made : List Made) (link : Link) (i : ℕ) → HasLink lexicon made link
    → i < (first_side link).size → IsElement lexicon (side_kind (first_side link)) i
first_there lexicon made link i h l law = record {
  of_kind = l;
  named = subst (λ n. i < n) (side_there lexicon link.relation.now h.named law link.turned) l;
}

pub second_there : (lexicon : Lexicon) (made : List Made) (link : Link) (j : ℕ) → HasLink lexicon made link
    → j < (second_side link).size → IsElement lexicon (side_kind (second_side link)) j
second_there lexicon made link j h l law = record {
  of_kind = l;
  named = subst (λ n. j < n) (other_there lexicon link.relation.now h.named law link.turned) l;
}

pub link_grows : (lexicon : Lexicon) (olds news : List Made) (link : Link) → Grown lexicon olds news
    → HasLink lexicon olds link → HasLink lexicon news link
link_grows lexicon olds news link g h = record {
  named = h.named;
  first = has_grows lexicon olds news link.x (side_kind (first_side link)) g.grows h.first;
  second = has_grows lexicon olds news link.y (side_kind (second_side link)) g.grows h.second;
}

-- what is made of two that are made
pub of_both : (lexicon : Lexicon) (op : Pair) (k l n : Kinded) (f h : (ℕ → Point) → Point) (x y place : ℕ)
    (first second third : List Made) → Makes lexicon first k f x → Grown lexicon first second
    → Makes lexicon second l h y → Grown lexicon second third
    → Makes lexicon third n (λ a. of_two op (a x) (a y)) place
    → Makes lexicon third n (λ a. of_two op (f a) (h a)) place
of_both lexicon op k l n f h x y place first second third mx g my i m =
    then_makes lexicon second third l n h (λ p a. of_two op (f a) p) y place my i
    (then_makes lexicon first third k n f (λ p a. of_two op p (a y)) x place mx
    (grown_trans lexicon first second third g i) m)

-- one partner more, and one that is none
pub partner_more : (lexicon : Lexicon) (kinded : Kinded) (test : ℕ → Bool) (j count start y b e s place : ℕ)
    (first second third fourth : List Made) → count ≡ suc j → test j ≡ true
    → Makes lexicon first truth_kind (λ a. any_partner test j (a start) (a y)) b → Grown lexicon first second
    → Makes lexicon second kinded (λ a. Element j) e → Grown lexicon second third
    → Makes lexicon third truth_kind (λ a. of_two Same (a y) (a e)) s → Grown lexicon third fourth
    → Makes lexicon fourth truth_kind (λ a. of_two Or (a b) (a s)) place
    → Makes lexicon fourth truth_kind (λ a. any_partner test count (a start) (a y)) place
partner_more lexicon kinded test j count start y b e s place first second third fourth is passes mb g me h ms i m =
    let same = then_makes lexicon second third kinded truth_kind (λ a. Element j) (λ p a. of_two Same (a y) p) e s
    me h ms in
    let either = of_both lexicon Or truth_kind truth_kind truth_kind (λ a. any_partner test j (a start) (a y))
    (λ a. of_two Same (a y) (Element j)) b s place first third fourth mb (grown_trans lexicon first second third g h)
    same i m in
    subst (λ n. Makes lexicon fourth truth_kind (λ a. any_partner test n (a start) (a y)) place) (sym is) (record {
      has = either.has;
      is = λ a r.
          let before = any_partner test j (a start) (a y) in
          either.is a r ∙ sym (ap (λ t. cond t (of_two Or before (of_two Same (a y) (Element j))) before) passes);
    })

pub partner_less : (lexicon : Lexicon) (test : ℕ → Bool) (j count start y b : ℕ) (first : List Made)
    → count ≡ suc j → test j ≡ false
    → Makes lexicon first truth_kind (λ a. any_partner test j (a start) (a y)) b
    → Makes lexicon first truth_kind (λ a. any_partner test count (a start) (a y)) b
partner_less lexicon test j count start y b first is fails m =
    subst (λ n. Makes lexicon first truth_kind (λ a. any_partner test n (a start) (a y)) b) (sym is) (record {
      has = m.has;
      is = λ a r.
          let before = any_partner test j (a start) (a y) in
          m.is a r ∙ sym (ap (λ t. cond t (of_two Or before (of_two Same (a y) (Element j))) before) fails);
    })

-- one element that is supported
pub makes_supported : (lexicon : Lexicon) (link : Link) (kinded : Kinded) (i e s o place : ℕ)
    (first second third fourth : List Made) → Makes lexicon first kinded (λ a. Element i) e
    → Grown lexicon first second → Makes lexicon second truth_kind (λ a. of_two Same (a link.x) (a e)) s
    → Grown lexicon second third → Makes lexicon third truth_kind (λ a. of_one Not (a s)) o
    → Grown lexicon third fourth
    → Makes lexicon fourth truth_kind
    (λ a. any_partner (are_joined link i) (second_side link).size (a o) (a link.y)) place
    → Makes lexicon fourth truth_kind (λ a. supported link i (a link.x) (a link.y)) place
makes_supported lexicon link kinded i e s o place first second third fourth me g ms h mo k m =
    let same = then_makes lexicon first second kinded truth_kind (λ a. Element i) (λ p a. of_two Same (a link.x) p) e s
    me g ms in
    let other = then_makes lexicon second third truth_kind truth_kind (λ a. of_two Same (a link.x) (Element i))
    (λ p a. of_one Not p) s o same h mo in
    then_makes lexicon third fourth truth_kind truth_kind (λ a. of_one Not (of_two Same (a link.x) (Element i)))
    (λ p a. any_partner (are_joined link i) (second_side link).size p (a link.y)) o place other k m

-- and all before it
pub makes_more : (lexicon : Lexicon) (link : Link) (i count start b s place : ℕ) (first second third : List Made)
    → count ≡ suc i → Makes lexicon first truth_kind (λ a. all_supported link i (a start) (a link.x) (a link.y)) b
    → Grown lexicon first second
    → Makes lexicon second truth_kind (λ a. supported link i (a link.x) (a link.y)) s → Grown lexicon second third
    → Makes lexicon third truth_kind (λ a. of_two And (a b) (a s)) place
    → Makes lexicon third truth_kind (λ a. all_supported link count (a start) (a link.x) (a link.y)) place
makes_more lexicon link i count start b s place first second third is mb g ms h m =
    subst (λ n. Makes lexicon third truth_kind (λ a. all_supported link n (a start) (a link.x) (a link.y)) place)
    (sym is)
    (of_both lexicon And truth_kind truth_kind truth_kind (λ a. all_supported link i (a start) (a link.x) (a link.y))
    (λ a. supported link i (a link.x) (a link.y)) b s place first second third mb g ms h m)

-- a relation is said, forth and back
pub makes_related : (lexicon : Lexicon) (forth back : Link) (m : Relation) (start b place : ℕ)
    (first second third : List Made) → forth.relation.now ≡ m → back.relation.now ≡ m → forth.turned ≡ false
    → back.turned ≡ true → back.x ≡ forth.y → back.y ≡ forth.x
    → Has lexicon first forth.x (side_kind m.from) → Has lexicon first forth.y (side_kind m.to)
    → Makes lexicon first truth_kind (λ a. Element 0) start → Grown lexicon first second
    → Makes lexicon second truth_kind (λ a. all_supported forth m.from.size (a start) (a forth.x) (a forth.y)) b
    → Grown lexicon second third
    → Makes lexicon third truth_kind (λ a. all_supported back m.to.size (a b) (a back.x) (a back.y)) place
    → Makes lexicon third truth_kind (λ a. related_point m (a forth.x) (a forth.y)) place
makes_related lexicon forth back m start b place first second third e f t u x y hx hy my g mb h made =
    let g' = grown_trans lexicon first second third g h in
    let before = then_makes lexicon first second truth_kind truth_kind (λ a. Element 0)
    (λ p a. all_supported forth m.from.size p (a forth.x) (a forth.y)) start b my g mb in
    let all = then_makes lexicon second third truth_kind truth_kind
    (λ a. all_supported forth m.from.size (Element 0) (a forth.x) (a forth.y))
    (λ p a. all_supported back m.to.size p (a back.x) (a back.y)) b place before h made in
    record {
      has = all.has;
      is = λ a r.
          let p = a forth.x in
          let q = a forth.y in
          let of_x = is_proper lexicon third forth.x (side_kind m.from) a g'.sound r
          (has_grows lexicon first third forth.x (side_kind m.from) g'.grows hx) in
          let of_y = is_proper lexicon third forth.y (side_kind m.to) a g'.sound r
          (has_grows lexicon first third forth.y (side_kind m.to) g'.grows hy) in
          all.is a r
          ∙ (ap (λ n. all_supported back m.to.size (all_supported forth m.from.size (Element 0) p q) (a n) (a back.y)) x
          ∙ (ap (λ n. all_supported back m.to.size (all_supported forth m.from.size (Element 0) p q) q (a n)) y
          ∙ both_told forth back m p q e f t u of_x.of_kind of_y.of_kind));
    }

-- ---- what a relation says of values

none_below : (n : ℕ) (test : ℕ → Bool) → ((k : ℕ) → k < n → test k ≡ false) → any_below n test ≡ false
unfolding any_below
none_below zero test f = refl
none_below (suc n) test f = ap (λ b. b || any_below n test) (f n (omega arith))
    ∙ none_below n test (λ k l. f k (omega (arith, l)))

-- of a number that passes the first test alone, the second is asked
only_below : (n : ℕ) (first second : ℕ → Bool) (i : ℕ) → i < n → ((k : ℕ) → k < n → first k ≡ (i == k))
    → any_below n (λ k. first k && second k) ≡ second i
unfolding any_below
only_below zero first second i l f = absurd (omega (arith, l))
only_below (suc n) first second i l f =
    by (decided i n) (λ k. only_below n first second i k (λ k j. f k (omega (arith, j))))
  where
    less : (i < n) ⊎ (n < i) → i < n
    less (inl k) = k
    less (inr k) = absurd (omega (arith, l, k))

    by : (i ≡ n) ⊎ ((i < n) ⊎ (n < i)) → (i < n → any_below n (λ k. first k && second k) ≡ second i)
        → ((first n && second n) || any_below n (λ k. first k && second k)) ≡ second i
    by (inl e) more =
        let it : first n ≡ true = f n (omega arith) ∙ (ap (λ k. i == k) (sym e) ∙ same_test i) in
        let others = none_below n (λ k. first k && second k)
        (λ k j. ap (λ b. b && second k) (f k (omega (arith, j)) ∙ not_same i k (inr (omega (arith, j, e))))) in
        ap (λ b. (b && second n) || any_below n (λ k. first k && second k)) it
        ∙ (ap (λ b. second n || b) others ∙ (or_none (second n) ∙ ap second (sym e)))
    by (inr o) more =
        ap (λ b. (b && second n) || any_below n (λ k. first k && second k))
        (f n (omega arith) ∙ not_same i n o)
        ∙ more (less o)

module _ (lexicon : Lexicon) (law : IsLexicon lexicon) (word : List ℕ) (m : Relation)
    (named : lexicon.relation word ≡ Some m)
  where
    abbrev from_word : ℕ → List ℕ
    from_word i = lexicon.element_word m.from.domain i

    abbrev to_word : ℕ → List ℕ
    to_word j = lexicon.element_word m.to.domain j

    from_there : (i : ℕ) → i < m.from.size → i < lexicon.size m.from.domain
    from_there i l = subst (λ n. i < n) (law.sides word m named).0 l

    to_there : (j : ℕ) → j < m.to.size → j < lexicon.size m.to.domain
    to_there j l = subst (λ n. j < n) (law.sides word m named).1 l

    -- what two elements are called is a pair where they are one
    pair_said : (i j : ℕ) → i < m.from.size → j < m.to.size
        → is_pair lexicon.element_word (Text (from_word i) ∷ Text (to_word j) ∷ []) m ≡ are_paired m i j
    pair_said i j l n =
        only_below m.from.size (λ k. is_same (Text (from_word i)) (Text (from_word k)))
        (λ k. any_below m.to.size (λ o. is_same (Text (to_word j)) (Text (to_word o)) && are_paired m k o)) i l
        (λ k below. elements_same lexicon law m.from.domain i k (from_there i l) (from_there k below))
        ∙ only_below m.to.size (λ o. is_same (Text (to_word j)) (Text (to_word o))) (λ o. are_paired m i o) j n
        (λ k below. elements_same lexicon law m.to.domain j k (to_there j n) (to_there k below))

    pair_means : (p q : Point) → IsPointOf (Set m.from.domain) m.from.size p
        → IsPointOf (Set m.to.domain) m.to.size q
        → truth (is_pair lexicon.element_word
        (value_as lexicon (side_kind m.from) p ∷ value_as lexicon (side_kind m.to) q ∷ []) m)
        ≡ Some (value_as lexicon truth_kind (related_point m p q))
    pair_means p q h k = on_element m.from.domain m.from.size
        (λ p. truth (is_pair lexicon.element_word
        (value_as lexicon (side_kind m.from) p ∷ value_as lexicon (side_kind m.to) q ∷ []) m)
        ≡ Some (value_as lexicon truth_kind (related_point m p q)))
        (λ i l. on_element m.to.domain m.to.size
        (λ q. truth (is_pair lexicon.element_word
        (Text (from_word i) ∷ value_as lexicon (side_kind m.to) q ∷ []) m)
        ≡ Some (value_as lexicon truth_kind (related_point m (Element i) q)))
        (λ j n. told lexicon law _ (are_paired m i j) (pair_said i j l n)) q k) p h

-- two terms are worth a pair
pub shows_related : (lexicon : Lexicon) (word : List ℕ) (m : Relation) (left right : Term) (x y place : ℕ)
    (first second third : List Made) → lexicon.relation word ≡ Some m → is_list left ≡ false
    → Shows lexicon first (side_kind m.from) left x → Grown lexicon first second
    → Shows lexicon second (side_kind m.to) right y → Grown lexicon second third
    → Makes lexicon third truth_kind (λ a. related_point m (a x) (a y)) place
    → Shows lexicon third truth_kind (Two between.In (Two between.Comma left right) (Name word)) place
shows_related lexicon word m left right x y place first second third named single ft g fu h made = record {
  has = made.has;
  worth_is = λ a r.
      let sx = shows_grows lexicon second third (side_kind m.from) left x h
      (shows_grows lexicon first second (side_kind m.from) left x g ft) in
      let sy = shows_grows lexicon second third (side_kind m.to) right y h fu in
      let names = names_at lexicon a in
      let said : List (Option Value) → Option Value =
      λ vs. truth (option_map_or (names.related word) (all_of vs) false) in
      let v = value_as lexicon (side_kind m.from) (a x) in
      let w = value_as lexicon (side_kind m.to) (a y) in
      ap (λ vs. said (vs ++ worth names right ∷ [])) (each_single names left (worth names left) single)
      ∙ (ap (λ o. said (o ∷ worth names right ∷ [])) (sx.worth_is a r)
      ∙ (ap (λ o. said (Some v ∷ o ∷ [])) (sy.worth_is a r)
      ∙ (ap (λ o. truth (option_map_or (is_pair lexicon.element_word (v ∷ w ∷ [])) o false)) named
      ∙ (pair_means lexicon r.words word m named (a x) (a y)
      (is_proper lexicon third x (side_kind m.from) a h.sound r sx.has).of_kind
      (is_proper lexicon third y (side_kind m.to) a h.sound r sy.has).of_kind
      ∙ ap (λ p. Some (value_as lexicon truth_kind p)) (sym (made.is a r))))));
}
