-- Parts that are told: what they name is there, and one text more.
use Rattle.std.proofs.Common.{◌≡◌, ◌∙◌, ◌==◌, ◌||◌, ◌<◌, ◌≤◌, ℕ, Bool, true, false, List, [], ◌∷◌, All, length}
use Rattle.std.proofs.Common.{Option, Some, None, if◌then◌else◌, inl, inr, refl, sym, ap, subst, arith, get_or}
use Rattle.std.proofs.Common.{◌+◌, ◌++◌, take, append-nil}
use Rattle.std.specs.List.{list_any}
use Rattle.std.proofs.lemmas.Bool.{or_cases, eqb-true}
use Rattle.std.proofs.lemmas.Option.{slice_get_within}
use Rattle.std.proofs.lemmas.List.{take_more}
use Rattle.std.proofs.lemmas.List.Concat.{flat_map-append}
use Rattle.std.proofs.lemmas.List.Elements.{All-cons}
use Rattle.prop_lattice.specs.declared.info.Info.{Info}
use Rattle.prop_numbers.specs.Sets.{set_of}
use Rattle.prop_procedures.specs.Stored.{Stored}
use Rattle.prop_contents.specs.Contents.{IsLeanAt, beliefs, support_of}
use Rattle.prop_cells.specs.inner.Problems.{Premises}
use Rattle.prop_cells.specs.Instances.{IsWithin}
use Rattle.prop_cells.specs.Data.{Data, IsKept, IsStated, problem_of}
use Rattle.prop_cells.proofs.Keeping.{All-at}
use Rattle.prop_origins.specs.declared.part.Origin.{Origin}
use Rattle.prop_origins.specs.declared.part.Origin.TheVariants.{Told, Called}
use Rattle.prop_origins.specs.Parts.{Part, rests_on, calls_in}
use Rattle.prop_origins.specs.Founded.{IsFrom, AreFounded, MakeUp, FallShort}
use Rattle.prop_origins.specs.Whole.{IfWhole, IfCut}
use Rattle.prop_scheduler.specs.Potential.{most_steps}
use Rattle.prop_origins.specs.declared.making.Composition.{Composition}
use Rattle.prop_origins.specs.declared.making.Composition.TheVariants.{Whole, Cut}
use Rattle.prop_amb.specs.Going.{Work}
use Rattle.prop_workbench.specs.Machine.{State}
use Rattle.prop_workbench.specs.Sessions.{AreKnown}
use Rattle.prop_workbench.proofs.PremiseLemmas.{set_has}
use Rattle.prop_telling.specs.How.{part_text, parts_text, parts_of, made_text, how_text, lines_for, most_calls, AreTold}
use Rattle.prop_telling.specs.How.{SaysHow}
use Rattle.prop_notes.specs.Texts.{sides_text}
use Rattle.prop_telling.specs.Texts.{says_text}
use Rattle.prop_telling.specs.inner.How.{IsThere}

-- each premise of the set has a number below n
abbrev IsBelow : ℕ → Premises → Type 0
IsBelow n s = (q : ℕ) → s q ≡ true → q < n

any_below : (n q : ℕ) (f : ℕ → Bool) (cells : List ℕ) → ((c : ℕ) → f c ≡ true → q < n)
    → list_any f cells ≡ true → q < n
any_below n q f [] h e = cc
any_below n q f (c ∷ cells) h e = elim (or_cases (f c) (list_any f cells) e) [
  | inl own ↦ h c own
  | inr other ↦ any_below n q f cells h other
]

support_below : (n : ℕ) (premise : Option ℕ) → ((q : ℕ) → premise ≡ Some q → q < n)
    → IsBelow n (set_of (support_of premise))
support_below n None h q e = cc
support_below n (Some p) h q e = elim (or_cases (p == q) false e) [
  | inl own ↦ subst (λ (k : ℕ). k < n) (eqb-true p q own) (h p refl)
  | inr other ↦ cc
]

-- the number of a call
called_is : (k i : ℕ) → Called k ≡ Called i → k ≡ i
called_is k i e = cc

one_more : {Q : Type 0} (b before own : Bool) → (if b then before || own else before) ≡ true → (before ≡ true → Q)
    → (own ≡ true → Q) → Q
one_more true before own e h k = elim (or_cases before own e) [ inl x ↦ h x | inr x ↦ k x ]
one_more false before own e h k = h e

module _ (library : List Stored) (d : Data) (s : Premises) (n : ℕ) (kept : IsKept library d)
    (known : AreKnown n d.statements) where
  from_below : (behind : List Part) (p : Part) (o : Origin) → IsFrom library d s behind p o
      → ((cell : ℕ) → IsBelow n (rests_on behind cell)) → IsBelow n (set_of p.support)
  from_below behind p (Told k) from h =
      let x = from.statement in
      subst (λ (q : Part). IsBelow n (set_of q.support)) (sym from.is)
      (support_below n x.premise
      (All-at (λ y. (q : ℕ) → y.premise ≡ Some q → q < n) d.statements k x known from.at))
  from_below behind p (Called k) from h = λ q e.
      any_below n q (λ input. rests_on behind input q) from.instance.inputs (λ input. h input q)
      (sym (from.support q) ∙ e)

  rests_below : (parts : List Part) → AreFounded library d s parts → (cell : ℕ) → IsBelow n (rests_on parts cell)
  rests_below [] f cell q e = cc
  rests_below (p ∷ behind) f cell q e =
      one_more (p.cell == cell) (rests_on behind cell q) (set_of p.support q) e (rests_below behind f.1 cell q)
      (from_below behind p p.origin f.0.from (rests_below behind f.1) q)

  from_there : (behind : List Part) (p : Part) (o : Origin) → IsFrom library d s behind p o
      → (p.cell < length d.kinds) × ((i : ℕ) → o ≡ Called i → i < length d.instances)
  from_there behind p (Told k) from = (
    subst (λ (q : Part). q.cell < length d.kinds) (sym from.is)
        (All-at (IsStated d.kinds d.contents) d.statements k from.statement kept.made.stated from.at).within,
    λ i e. cc,
  )
  from_there behind p (Called k) from = (
    subst (λ (c : ℕ). c < length d.kinds) (sym from.cell)
        (All-at (IsWithin (length d.kinds)) d.instances k from.instance kept.made.within from.at).output,
    λ i e. subst (λ (j : ℕ). j < length d.instances) (called_is k i e)
        (slice_get_within d.instances k from.instance from.at),
  )

  parts_there : (parts : List Part) → AreFounded library d s parts → All (IsThere d n) parts
  parts_there [] f = λ k x l. absurd (omega (arith, l))
  parts_there (p ∷ behind) f =
      let there = from_there behind p p.origin f.0.from in
      All-cons (IsThere d n) p behind (record {
        cell = there.0;
        call = there.1;
        support = λ k x l. from_below behind p p.origin f.0.from (rests_below behind f.1) (get_or p.support k x)
            (set_has p.support k x l);
      }) (parts_there behind f.1)

-- one more part
pub parts_text_more : (library : List Stored) (s : State) (parts : List Part) (i : ℕ) (d : Part) (before : List ℕ)
    → i < length parts → before ≡ parts_text library s (take i parts)
    → before ++ part_text library s (get_or parts i d) ≡ parts_text library s (take (i + 1) parts)
parts_text_more library s parts i d before l is =
    let f : Part → List ℕ = part_text library s in
    let p = get_or parts i d in
    ap (λ t. t ++ f p) is ∙ ap (λ t. parts_text library s (take i parts) ++ t) (sym (append-nil (f p)))
    ∙ sym (flat_map-append f (take i parts) (p ∷ [])) ∙ ap (parts_text library s) (sym (take_more parts i d l))

-- what is whole or cut is told
pub made_told : (library : List Stored) (d : Data) (s : Premises) (cell : ℕ) (v : Info) (made : Composition)
    → IfWhole made (MakeUp library d s cell v) → IfWhole made (λ parts. calls_in parts ≤ most_calls)
    → IfCut made (FallShort library d s cell v most_calls)
    → IfCut made (most_calls < most_steps (problem_of library d)) → AreTold library d s cell v (parts_of made)
made_told library d s cell v (Whole parts) whole few short cut = (whole, few)
made_told library d s cell v Cut whole few short cut = (short, cut)

pub made_there : (library : List Stored) (d : Data) (s : Premises) (n cell : ℕ) (v : Info) (made : Composition)
    → IsKept library d → AreKnown n d.statements → IfWhole made (MakeUp library d s cell v)
    → IfWhole made (All (IsThere d n))
made_there library d s n cell v (Whole parts) kept known m = parts_there library d s n kept known parts.items m.founded
made_there library d s n cell v Cut kept known m = tt

-- what is told of what is believed, from a value that is what is believed
pub how_said : {O : Type 0} (library : List Stored) (s : State) (w : Work O) (cell : ℕ) (premises : List ℕ) (v : Info)
    (made : Composition) (text : List ℕ) → v ≡ beliefs (set_of w.search.worldview) w.cells.contents cell
    → IsLeanAt (set_of w.search.worldview) w.cells.contents cell premises
    → IfWhole made (MakeUp library w.cells (set_of premises) cell v)
    → IfWhole made (λ parts. calls_in parts ≤ most_calls)
    → IfCut made (FallShort library w.cells (set_of premises) cell v most_calls)
    → IfCut made (most_calls < most_steps (problem_of library w.cells))
    → text ≡ how_text (lines_for (parts_of made)) (sides_text s.premises (set_of w.search.worldview))
    (says_text s cell v premises) (made_text library s (parts_of made)) → SaysHow library s w cell text
how_said library s w cell premises v made text is lean told few short cut e = record {
  premises = premises;
  lean = lean;
  made = parts_of made;
  told = subst (λ (x : Info). AreTold library w.cells (set_of premises) cell x (parts_of made)) is
      (made_told library w.cells (set_of premises) cell v made told few short cut);
  text_is = e ∙ ap (λ (x : Info). how_text (lines_for (parts_of made))
      (sides_text s.premises (set_of w.search.worldview)) (says_text s cell x premises)
      (made_text library s (parts_of made))) is;
}
