-- What nothing meets in an earlier network, nothing meets where all parts of that one are still there.
use Rattle.std.proofs.Common.{◌≡◌, ℕ, ◌-◌, ◌+◌, ◌<◌, ◌≤◌, Bool, true, false, ◌&&◌, ◌||◌, ◌==◌, nat_le, nat_lt}
use Rattle.std.proofs.Common.{List, [], ◌∷◌, ◌++◌, length, take, Option, Some, None, slice_index, get_or, refl, ap}
use Rattle.std.proofs.Common.{sym, ◌∙◌, subst, arith, IsTrue, All, Contains, ◌⊎◌, inl, inr, map}
use Rattle.std.proofs.lemmas.Bool.{eqb-true, le-leb, lt-ltb, ltb-false}
use Rattle.std.proofs.lemmas.List.{get_or-take}
use Rattle.std.proofs.lemmas.List.Elements.{All-contains, All-push, All-same, All-weaker}
use Rattle.prop_lattice.specs.Points.{Point, Element, Holds}
use Rattle.prop_numbers.specs.Sets.{IsPart, Members, set_of, union}
use Rattle.prop_premises.specs.ChoiceLists.{IsChoiceList, IsSide, hypothetical, hypotheticals_of, is_hypothetical}
use Rattle.prop_premises.specs.ChoiceLists.{worldview}
use Rattle.prop_premises.specs.declared.choice.Choice.{Choice}
use Rattle.prop_procedures.specs.Stored.{Stored}
use Rattle.prop_procedures.specs.declared.shape.Param.{Param}
use Rattle.prop_cells.specs.Instances.{Instance}
use Rattle.prop_cells.specs.Points.{Attached, ArePoints}
use Rattle.prop_cells.specs.Problems.{is_member}
use Rattle.prop_cells.specs.declared.instance.Statement.{Statement}
use Rattle.prop_facts.specs.Facts.{IsSo}
use Rattle.prop_facts.specs.declared.fact.Literal.{Literal}
use Rattle.prop_refuting.specs.Nogoods.{IsNeverMet, Nogood}
use Rattle.prop_refuting.specs.Places.{IsSoAt, point_at}
use Rattle.prop_refuting.proofs.MeetLemmas.{or_first, or_second}
use Rattle.prop_refuting.proofs.PlaceLemmas.{at_cell, behind_cells, which_place}
use Rattle.prop_lessons.proofs.BeginLemmas.{begun_all, begun_first, begun_length, begun_none, begun_rest}
use Rattle.prop_lessons.specs.Lessons.{PastOf, Stands}
use Rattle.prop_lessons.specs.inner.Standing.{AreMeant, Begin, IsSamePlace, IsThere}

or_cases : (a b : Bool) → IsTrue (a || b) → IsTrue a ⊎ IsTrue b
or_cases true b h = inl refl
or_cases false b h = inr h

-- ---- choices that came behind

begun_list : (old choices : List Choice) (list : List ℕ) → Begin old choices → IsChoiceList choices list
    → IsChoiceList old (take (length old) list)
begun_list [] choices [] b h = tt
begun_list [] choices (side ∷ list) b h = tt
begun_list (x ∷ old) [] list b h = absurd (begun_none x old b)
begun_list (x ∷ old) (y ∷ choices) [] b h = absurd h
begun_list (x ∷ old) (y ∷ choices) (side ∷ list) b h = (
  (let P : Choice → Type 0 = λ c. IsSide c side in subst P (begun_first x y old choices b) h.0),
  begun_list old choices list (begun_rest x y old choices b) h.1,
)

taken_still : (old choices : List Choice) (list : List ℕ) (p : ℕ) → Begin old choices
    → IsTrue (hypotheticals_of old (take (length old) list) p) → IsTrue (hypotheticals_of choices list p)
taken_still [] choices [] p b h = let no : ⊥ = cc in absurd no
taken_still [] choices (side ∷ list) p b h = let no : ⊥ = cc in absurd no
taken_still (x ∷ old) [] list p b h = absurd (begun_none x old b)
taken_still (x ∷ old) (y ∷ choices) [] p b h = let no : ⊥ = cc in absurd no
taken_still (x ∷ old) (y ∷ choices) (side ∷ list) p b h =
    elim (or_cases (hypothetical x side == p) (hypotheticals_of old (take (length old) list) p) h) [
      | inl here ↦ or_first (hypothetical y side == p) (hypotheticals_of choices list p)
          (let P : Choice → Type 0 = λ c. IsTrue (hypothetical c side == p) in
          subst P (sym (begun_first x y old choices b)) here)
      | inr there ↦ or_second (hypothetical y side == p) (hypotheticals_of choices list p)
          (taken_still old choices list p (begun_rest x y old choices b) there)
    ]

both : (a b : Bool) → IsTrue a → IsTrue b → IsTrue (a && b)
both true b h k = k
both false b h k = let no : ⊥ = cc in absurd no

-- a premise that a list takes is a side of a choice
taken_is_side : (choices : List Choice) (list : List ℕ) (p : ℕ) → IsChoiceList choices list
    → IsTrue (hypotheticals_of choices list p) → IsTrue (is_hypothetical choices p)
taken_is_side [] list p h t = let no : ⊥ = cc in absurd no
taken_is_side (x ∷ choices) [] p h t = absurd h
taken_is_side (x ∷ choices) (side ∷ list) p h t =
    elim (or_cases (hypothetical x side == p) (hypotheticals_of choices list p) t) [
      | inl here ↦
          let e = eqb-true (hypothetical x side) p here in
          let from : x.first ≤ p = omega (arith, e, h.0) in
          let below : p < x.first + x.sides = omega (arith, e, h.0) in
          or_first (nat_le x.first p && nat_lt p (x.first + x.sides)) (is_hypothetical choices p)
          (both (nat_le x.first p) (nat_lt p (x.first + x.sides)) (le-leb x.first p from)
          (lt-ltb p (x.first + x.sides) below))
      | inr there ↦ or_second (nat_le x.first p && nat_lt p (x.first + x.sides)) (is_hypothetical choices p)
          (taken_is_side choices list p h.1 there)
    ]

-- ---- premises

member_grows : (s t : Members) (o : Option ℕ) → IsPart s t → IsTrue (is_member s o) → IsTrue (is_member t o)
member_grows s t None h k = k
member_grows s t (Some p) h k = h p k

-- what was believed is among the premises under which all is there still
believed_there : (choices : List Choice) (list : List ℕ) (s t : Members) → IsPart s t → IsChoiceList choices list
    → IsPart (worldview s choices list) (union t (is_hypothetical choices))
believed_there choices list s t part c p h = elim (or_cases (s p) (hypotheticals_of choices list p) h) [
  | inl own ↦ or_first (t p) (is_hypothetical choices p) (part p own)
  | inr taken ↦ or_second (t p) (is_hypothetical choices p) (taken_is_side choices list p c taken)
]

-- what was believed is believed
believed_still : (old choices : List Choice) (list : List ℕ) (s : Members) → Begin old choices
    → IsPart (worldview s old (take (length old) list)) (worldview s choices list)
believed_still old choices list s b p h =
    elim (or_cases (s p) (hypotheticals_of old (take (length old) list) p) h) [
      | inl own ↦ or_first (s p) (hypotheticals_of choices list p) own
      | inr taken ↦ or_second (s p) (hypotheticals_of choices list p) (taken_still old choices list p b taken)
    ]

module _ (past : PastOf) (n : Attached) (choices : List Choice) (t : Members) (there : IsThere past n choices t)
    (list : List ℕ) (points : ℕ → Point) where
  -- the sides that the list takes of the choices that were
  abbrev cut : List ℕ
  cut = take (length past.choices) list

  -- ---- what satisfies all that is there satisfies all that was

  satisfied_before : {related : ℕ → Param → List Point → Point → Type 0} (s : Members) → IsPart s t
      → IsChoiceList choices list → ArePoints related n (worldview s choices list) points
      → ArePoints related past.attached (worldview s past.choices cut) points
  satisfied_before {related} s part c p = record {
    of_kind = λ cell k e. p.of_kind cell k (there.kinds cell k e);
    stated = All-weaker
        (λ (x : Statement). IsTrue (is_member (union t (is_hypothetical past.choices)) x.premise)
        → Contains n.statements x)
        (λ x. IsTrue (is_member (worldview s past.choices cut) x.premise) → Holds x.info (points x.cell))
        (λ x stays member. All-contains
        (λ (y : Statement). IsTrue (is_member (worldview s choices list) y.premise) → Holds y.info (points y.cell))
        n.statements x p.stated
        (stays (member_grows (worldview s past.choices cut) (union t (is_hypothetical past.choices)) x.premise
        (believed_there past.choices cut s t part (begun_list past.choices choices list there.sides c)) member))
        (member_grows (worldview s past.choices cut) (worldview s choices list) x.premise
        (believed_still past.choices choices list s there.sides) member))
        past.attached.statements there.statements;
    together = begun_all (λ (x : Instance). related x.procedure x.param (map points x.inputs) (points x.output))
        past.attached.instances n.instances there.instances p.together;
  }

  -- ---- what is so of all that is there was so

  cells_come : length past.attached.kinds ≤ length n.kinds
  cells_come = begun_length past.attached.kinds n.kinds there.kinds

  at_cell_still : (place : ℕ) → place < length past.attached.kinds
      → point_at n points list place ≡ point_at past.attached points cut place
  at_cell_still place l = at_cell n points list place (omega (arith, l, cells_come))
      ∙ sym (at_cell past.attached points cut place l)

  behind_still : (place : ℕ) → nat_lt place (length past.attached.kinds) ≡ false
      → length n.kinds ≡ length past.attached.kinds → place < length past.attached.kinds + length past.choices
      → point_at n points list place ≡ point_at past.attached points cut place
  behind_still place e same l =
      let m = length past.attached.kinds in
      let within : place - m < length past.choices = omega (arith, l, ltb-false place m e) in
      behind_cells n points list place (let P : ℕ → Type 0 = λ k. nat_lt place k ≡ false in subst P (sym same) e)
      ∙ (ap (λ k. Element (slice_index list (place - k) - 1)) same
      ∙ (ap (λ side. Element (side - 1)) (sym (get_or-take (length past.choices) list (place - m) 0 within))
      ∙ sym (behind_cells past.attached points cut place e)))

  point_still : (place : ℕ) → IsSamePlace past (length n.kinds) place
      → point_at n points list place ≡ point_at past.attached points cut place
  point_still place same = which_place past.attached place
      (point_at n points list place ≡ point_at past.attached points cut place) (at_cell_still place)
      (λ e. elim same [
        | inl cell ↦ at_cell_still place cell
        | inr behind ↦ behind_still place e behind.0 behind.1
      ])

  so_before : (literals : List Literal) → AreMeant past (length n.kinds) literals
      → All (IsSoAt n points list) literals → All (IsSoAt past.attached points cut) literals
  so_before literals meant so k d l =
      let x = get_or literals k d in
      let P : Point → Type 0 = IsSo x.fact in
      subst P (point_still x.place (meant k d l)) (so k d l)

-- ---- what nothing met

pub never_still : (library : List Stored) (past : PastOf) (n : Attached) (choices : List Choice) (s : Members)
    (g : Nogood) → IsThere past n choices s → IsPart (set_of g.premises) s
    → AreMeant past (length n.kinds) g.literals → IsNeverMet library past.attached past.choices g
    → IsNeverMet library n choices g
never_still library past n choices s g there part meant never list points c m =
    never (take (length past.choices) list) points (begun_list past.choices choices list there.sides c) (record {
      satisfied = satisfied_before past n choices s there list points (set_of g.premises) part c m.satisfied;
      so = so_before past n choices s there list points g.literals meant m.so;
    })

pub stands : (library : List Stored) (past : PastOf) (n : Attached) (choices : List Choice) (s believed : Members)
    (g : Nogood) → IsThere past n choices s → IsPart s believed → IsPart (set_of g.premises) s
    → AreMeant past (length n.kinds) g.literals → IsNeverMet library past.attached past.choices g
    → Stands library n choices believed g
stands library past n choices s believed g there in_believed part meant never = record {
  within = λ p h. in_believed p (part p h);
  never = never_still library past n choices s g there part meant never;
}

-- a copy of one more
pub recalled_more : (library : List Stored) (past : PastOf) (n : Attached) (choices : List Choice)
    (s believed : Members) (nogoods recalled more : List Nogood) (i count : ℕ) (g copy : Nogood)
    → IsThere past n choices s → IsPart s believed → IsPart (set_of g.premises) s → count ≡ length n.kinds
    → AreMeant past count g.literals → All (IsNeverMet library past.attached past.choices) nogoods
    → i < length nogoods → g ≡ get_or nogoods i g → copy ≡ g → more ≡ recalled ++ copy ∷ []
    → All (Stands library n choices believed) recalled → All (Stands library n choices believed) more
recalled_more library past n choices s believed nogoods recalled more i count g copy there in_believed part e meant
    taught l at same grown before =
    let P : Nogood → Type 0 = IsNeverMet library past.attached past.choices in
    let Q : Nogood → Type 0 = Stands library n choices believed in
    let M : ℕ → Type 0 = λ k. AreMeant past k g.literals in
    let stood = stands library past n choices s believed g there in_believed part (subst M e meant)
    (subst P (sym at) (taught i g l)) in
    All-same Q more (recalled ++ copy ∷ []) grown (All-push Q recalled copy before (subst Q (sym same) stood))
