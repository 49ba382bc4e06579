-- What an added entry changes, in each worldview.
use Rattle.std.proofs.Common.{◌≡◌, ◌∙◌, ℕ, Bool, true, false, IsTrue, if◌then◌else◌, List, refl, sym, ap, Option, Some}
use Rattle.std.proofs.Common.{None, inl, inr, All, subst}
use Rattle.std.proofs.lemmas.Bool.Decides.{eqb_tells}
use Rattle.std.proofs.lemmas.Option.{get_or_from_slice_get}
use Rattle.std.proofs.lemmas.List.Elements.{All-contains}
use Rattle.prop_lattice.specs.declared.info.Info.{Info}
use Rattle.prop_lattice.specs.declared.info.Info.TheVariants.{Nothing}
use Rattle.prop_lattice.specs.Order.{Below, merge_of}
use Rattle.prop_lattice.specs.laws.OrderLaws.{info_laws}
use Rattle.prop_lattice.specs.Rank.{IsOf}
use Rattle.prop_numbers.specs.Sets.{is_within, is_alike}
use Rattle.prop_tms.specs.Beliefs.{belief_of}
use Rattle.prop_tms.proofs.BeliefUses.{said_kept}
use Rattle.prop_procedures.specs.declared.shape.Kinded.{Kinded}
use Rattle.prop_procedures.specs.Stored.{span_kind}
use Rattle.prop_contents.specs.Contents.{Entry, beliefs, content_of, support_of}
use Rattle.prop_contents.specs.Changes.{AddsAt}
use Rattle.prop_contents.proofs.Lists.{All-from_contains}
use Rattle.prop_cells.specs.Problems.{Assignment, MergesAt, is_member}
use Rattle.prop_cells.specs.inner.Problems.{Premises, AreOfKinds}
use Rattle.prop_procedures.specs.Fitting.{kind_at}
use Rattle.prop_cells.specs.Data.{Data, IsWellMade, Merges}
use Rattle.prop_cells.proofs.Fitted.{merge_of_kind}
use Rattle.prop_cells.proofs.Fixpoint.{merges_grow}

-- where each entry is of its cell's kind, so is what is believed
pub beliefs_of_kinds : (d : Data) → IsWellMade d → (s : Premises) → AreOfKinds d.kinds (beliefs s d.contents)
beliefs_of_kinds d made s = record {
  of_kind = λ cell k at.
      let k_is : kind_at d.kinds cell ≡ k = get_or_from_slice_get d.kinds cell k span_kind at in
      let each : All (λ e. IsOf k.kind k.size e.value) (content_of d.contents cell) =
      subst (λ (q : Kinded). All (λ e. IsOf q.kind q.size e.value) (content_of d.contents cell)) k_is
      (made.of_kinds cell) in
      said_kept Nothing merge_of (λ e. is_within s e.support) (IsOf k.kind k.size) tt (merge_of_kind k.kind k.size)
      (content_of d.contents cell)
      (λ x c on. All-contains (λ e. IsOf k.kind k.size e.value) (content_of d.contents cell) x each c);
}

module _ (old new : List (List Entry)) (cell : ℕ) (e : Entry) (a : AddsAt old new cell e) where
  -- to one who believes its premises, its value was merged into the cell
  pub adds_merges : (t : Premises) → is_within t e.support ≡ true
      → MergesAt (beliefs t old) (beliefs t new) cell e.value
  adds_merges t on = record {
    merged = a.adds.beliefs t ∙ ap (λ b. if b then merge_of (beliefs t old cell) e.value else beliefs t old cell) on;
    others = λ c ne. ap (belief_of Nothing merge_of t) (a.others c ne);
  }

  -- and to others nothing changed
  pub adds_same : (t : Premises) → is_within t e.support ≡ false → (c : ℕ) → beliefs t new c ≡ beliefs t old c
  adds_same t off c =
      elim (eqb_tells c cell) as (λ _. beliefs t new c ≡ beliefs t old c) [
        | inl same ↦ rw same.1 (a.adds.beliefs t
            ∙ ap (λ b. if b then merge_of (beliefs t old cell) e.value else beliefs t old cell) off)
        | inr other ↦ ap (belief_of Nothing merge_of t) (a.others c other.1)
      ]

  pub adds_grow : (t : Premises) (c : ℕ) → Below (beliefs t old c) (beliefs t new c)
  adds_grow t c = by (is_within t e.support) refl
    where
      by : (b : Bool) → is_within t e.support ≡ b → Below (beliefs t old c) (beliefs t new c)
      by true on = merges_grow (beliefs t old) (beliefs t new) cell e.value (adds_merges t on) c
      by false off = rw (adds_same t off c) (info_laws.reflexive (beliefs t old c))

  pub adds_of_kinds : (kinds : List Kinded) → IsOf (kind_at kinds cell).kind (kind_at kinds cell).size e.value
      → ((c : ℕ) → All (λ x. IsOf (kind_at kinds c).kind (kind_at kinds c).size x.value) (content_of old c)) →
      (c : ℕ) → All (λ x. IsOf (kind_at kinds c).kind (kind_at kinds c).size x.value) (content_of new c)
  adds_of_kinds kinds of_kind h c =
      elim (eqb_tells c cell) as (λ _. All (λ x. IsOf (kind_at kinds c).kind (kind_at kinds c).size x.value)
      (content_of new c)) [
        | inl same ↦
            (let k = kind_at kinds cell in
            rw same.1 (All-from_contains (λ x. IsOf k.kind k.size x.value) (content_of new cell)
            (λ x at. elim (a.adds.only x at) as (λ _. IsOf k.kind k.size x.value) [
              | inl there ↦ All-contains (λ y. IsOf k.kind k.size y.value) (content_of old cell) x (h cell) there
              | inr is ↦ rw is (merge_of_kind k.kind k.size e.value _ of_kind
                  (said_kept Nothing merge_of (λ y. is_alike y.support e.support) (IsOf k.kind k.size) tt
                  (merge_of_kind k.kind k.size) (content_of old cell)
                  (λ y c on. All-contains (λ z. IsOf k.kind k.size z.value) (content_of old cell) y (h cell) c)))
            ])))
        | inr other ↦ rw (a.others c other.1) (h c)
      ]

-- whoever believes the premise of a statement believes its entry
pub within_own : (t : Premises) (o : Option ℕ) → IsTrue (is_member t o) → is_within t (support_of o) ≡ true
within_own t None m = refl
within_own t (Some p) m = rw m refl

-- what knows the value already stays as it is, and what does not changes
pub merges_as : (old new : Assignment) (cell : ℕ) (v : Info) (grown : Bool) → MergesAt old new cell v
    → (grown ≡ false → Below v (old cell)) → (grown ≡ true → ¬ (Below v (old cell))) → Merges old new cell v grown
merges_as old new cell v grown m known unknown = record {
  at = m;
  unchanged = λ f.
      let least = info_laws.least_above (old cell) v in
      m.merged ∙ info_laws.antisymmetric _ _ (least.least (old cell) (info_laws.reflexive _) (known f))
      least.above_first;
  changed = λ t same. unknown t (rw (sym m.merged ∙ same) at (info_laws.least_above (old cell) v).above_second);
}
