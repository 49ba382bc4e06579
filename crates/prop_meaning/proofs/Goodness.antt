-- What is made of cells is good where their kinds suit.
use Rattle.std.proofs.Common.{◌≡◌, ◌∙◌, ℕ, ◌+◌, ◌<◌, ◌==◌, Bool, true, false, cond, List, length}
use Rattle.std.proofs.Common.{Option, Some, None, ap, sym, subst}
use Rattle.std.specs.Option.{option_map}
use Rattle.prop_lattice.specs.Points.{Point, Number, Element, Symbol, IsPointOf}
use Rattle.prop_lattice.specs.declared.info.Kind.TheVariants.{Span as SpanKind, Set}
use Rattle.prop_procedures.specs.declared.shape.Kinded.{Kinded}
use Rattle.prop_meaning.specs.Words.{Lexicon, IsLexicon, IsWithin}
use Rattle.prop_meaning.specs.declared.draft.Made.{Made}
use Rattle.prop_meaning.specs.declared.known.Known.{Known}
use Rattle.prop_meaning.specs.declared.steps.Single as singles
use Rattle.prop_meaning.specs.declared.steps.Single.TheVariants.{Abs, Not}
use Rattle.prop_meaning.specs.declared.steps.Pair as pairs
use Rattle.prop_meaning.specs.declared.steps.Pair.TheVariants.{Sum, Difference, Product, Max, Min, Less, Same, And, Or}
use Rattle.prop_meaning.specs.declared.steps.Step.TheVariants as steps
use Rattle.prop_meaning.specs.inner.Drafts.{known_at, Has, AreTaken, AreAlike, TakesTwo, kind_between, kind_before}
use Rattle.prop_meaning.specs.inner.Drafts.{number_kind, truth_kind, IsNamed, IsGood, IsSound}
use Rattle.prop_meaning.specs.inner.Spans.{Tells}
use Rattle.prop_meaning.specs.inner.Steps.{of_one, of_two, chosen}
use Rattle.prop_meaning.proofs.Formulas.{on_number}
use Rattle.prop_meaning.proofs.Growing.{is_point, stands_before}

-- ---- names

named_number : (lexicon : Lexicon) (p : Point) → IsPointOf SpanKind 0 p → IsNamed lexicon number_kind p
named_number lexicon p h = on_number 0 (λ p. IsNamed lexicon number_kind p) (λ x. tt) p h

named_truth : (lexicon : Lexicon) → IsLexicon lexicon → (p : Point) → IsPointOf (Set 0) 2 p →
    IsNamed lexicon truth_kind p
named_truth lexicon law (Element i) h = let P : ℕ → Type 0 = λ n. i < n in subst P (sym law.truths) h
named_truth lexicon law (Number z) h = tt
named_truth lexicon law (Symbol n) h = tt

named_between : (lexicon : Lexicon) → IsLexicon lexicon → (op : pairs.Pair) (p : Point)
    → IsPointOf (kind_between op).kind (kind_between op).size p → IsNamed lexicon (kind_between op) p
named_between lexicon law Less p h = named_truth lexicon law p h
named_between lexicon law Same p h = named_truth lexicon law p h
named_between lexicon law And p h = named_truth lexicon law p h
named_between lexicon law Or p h = named_truth lexicon law p h
named_between lexicon law Sum p h = named_number lexicon p h
named_between lexicon law Difference p h = named_number lexicon p h
named_between lexicon law Product p h = named_number lexicon p h
named_between lexicon law Max p h = named_number lexicon p h
named_between lexicon law Min p h = named_number lexicon p h

named_before : (lexicon : Lexicon) → IsLexicon lexicon → (op : singles.Single) (p : Point)
    → IsPointOf (kind_before op).kind (kind_before op).size p → IsNamed lexicon (kind_before op) p
named_before lexicon law Abs p h = named_number lexicon p h
named_before lexicon law Not p h = named_truth lexicon law p h

-- ---- kinds

pub kind_known : (o : Option Known) (k : Known) (kinded : Kinded) → o ≡ Some k
    → option_map (λ k. k.kinded) o ≡ Some kinded → k.kinded ≡ kinded
kind_known o k kinded e h = same_in (sym (ap (option_map (λ k. k.kinded)) e) ∙ h)
  where
    same_in : Some k.kinded ≡ Some kinded → k.kinded ≡ kinded
    same_in e = cc

pub not_unknown : (o : Option Known) (kinded : Kinded) → o ≡ None → option_map (λ k. k.kinded) o ≡ Some kinded → ⊥
not_unknown o kinded e h = absurd (clash (sym (ap (option_map (λ k. k.kinded)) e) ∙ h))
  where
    clash : None ≡ Some kinded → ⊥
    clash e = cc

pub takes_known : (lexicon : Lexicon) (made : List Made) (op : pairs.Pair) (x y : ℕ) (k : Known)
    → known_at lexicon made x ≡ Some k → AreTaken lexicon made op x y → TakesTwo op k.kinded
takes_known lexicon made op x y k e t =
    let P : Kinded → Type 0 = λ n. TakesTwo op n in
    subst P (sym (kind_known (known_at lexicon made x) k t.0 e t.2)) t.1

pub alike_known : (lexicon : Lexicon) (made : List Made) (x y : ℕ) (k l : Known) → known_at lexicon made x ≡ Some k
    → known_at lexicon made y ≡ Some l → AreAlike lexicon made x y → l.kinded ≡ k.kinded
alike_known lexicon made x y k l e f t =
    kind_known (known_at lexicon made y) l t.0 f t.2 ∙ sym (kind_known (known_at lexicon made x) k t.0 e t.1)

-- ---- what is made

pub good_two : (lexicon : Lexicon) (made : List Made) (op : pairs.Pair) (x y : ℕ)
    (left right k : Known) → IsSound lexicon made
    → AreTaken lexicon made op x y → known_at lexicon made x ≡ Some left → known_at lexicon made y ≡ Some right
    → k.kinded ≡ kind_between op → Tells (of_two op) left right k
    → IsGood lexicon made (lexicon.count + length made) (record { step = steps.Two op x y; known = k })
good_two lexicon made op x y left right k sound t e f kind tells = record {
  behind = (stands_before lexicon made x t.0 t.2, stands_before lexicon made y t.0 t.3);
  suits = (t.0, t.1, t.2, t.3, kind);
  within = λ a r.
      let p = is_point lexicon made x left a sound r e in
      let q = is_point lexicon made y right a sound r f in
      let w = tells (a x) (a y) p.within q.within in
      let P : Kinded → Type 0 = λ n. IsPointOf n.kind n.size (of_two op (a x) (a y)) → IsNamed
      lexicon n (of_two op (a x) (a y)) in
      record { within = w; named = subst P (sym kind) (named_between lexicon r.words op _) w.0 };
}

pub good_one : (lexicon : Lexicon) (made : List Made) (op : singles.Single) (x : ℕ)
    (under k : Known) → IsSound lexicon made
    → Has lexicon made x (kind_before op) → known_at lexicon made x ≡ Some under → k.kinded ≡ kind_before op
    → ((p : Point) → IsWithin under p → IsWithin k (of_one op p))
    → IsGood lexicon made (lexicon.count + length made) (record { step = steps.One op x; known = k })
good_one lexicon made op x under k sound h e kind tells = record {
  behind = stands_before lexicon made x (kind_before op) h;
  suits = (h, kind);
  within = λ a r.
      let p = is_point lexicon made x under a sound r e in
      let w = tells (a x) p.within in
      let P : Kinded → Type 0 = λ n. IsPointOf n.kind n.size (of_one op (a x)) → IsNamed lexicon n (of_one op (a x)) in
      record { within = w; named = subst P (sym kind) (named_before lexicon r.words op _) w.0 };
}

has_known : (o : Option Known) (k : Known) (kinded : Kinded) → o ≡ Some k → k.kinded ≡ kinded
    → option_map (λ k. k.kinded) o ≡ Some kinded
has_known o k kinded e f = ap (option_map (λ k. k.kinded)) e ∙ ap Some f

named_chosen : (lexicon : Lexicon) (kinded : Kinded) (t p q : Point) → IsNamed lexicon kinded p →
    IsNamed lexicon kinded q
    → IsNamed lexicon kinded (chosen t p q)
named_chosen lexicon kinded (Element t) p q h g = by (t == 0)
  where
    by : (b : Bool) → IsNamed lexicon kinded (cond b p q)
    by true = h
    by false = g
named_chosen lexicon kinded (Number z) p q h g = g
named_chosen lexicon kinded (Symbol n) p q h g = g

pub good_choice : (lexicon : Lexicon) (made : List Made) (t x y : ℕ) (left right k : Known) → IsSound lexicon made
    → Has lexicon made t truth_kind → AreAlike lexicon made x y → known_at lexicon made x ≡ Some left
    → known_at lexicon made y ≡ Some right → k.kinded ≡ left.kinded → ((s : Point) → Tells (chosen s) left right k)
    → IsGood lexicon made (lexicon.count + length made) (record { step = steps.Choice t x y; known = k })
good_choice lexicon made t x y left right k sound ht both e f kind tells =
    let same : right.kinded ≡ left.kinded = alike_known lexicon made x y left right e f both in
    let hx = has_known (known_at lexicon made x) left k.kinded e (sym kind) in
    let hy = has_known (known_at lexicon made y) right k.kinded f (same ∙ sym kind) in
    record {
      behind = (
        stands_before lexicon made t truth_kind ht,
        stands_before lexicon made x k.kinded hx,
        stands_before lexicon made y k.kinded hy,
      );
      suits = (ht, hx, hy);
      within = λ a r.
          let p = is_point lexicon made x left a sound r e in
          let q = is_point lexicon made y right a sound r f in
          let P : Kinded → Type 0 = λ n. IsNamed lexicon n (a x) in
          let Q : Kinded → Type 0 = λ n. IsNamed lexicon n (a y) in
          record {
            within = tells (a t) (a x) (a y) p.within q.within;
            named = named_chosen lexicon k.kinded (a t) (a x) (a y) (subst P (sym kind) p.named)
                (subst Q (same ∙ sym kind) q.named);
          };
    }

pub only_kind : (lexicon : Lexicon) (made : List Made) (x : ℕ) (k : Known) (kinded : Kinded)
    → known_at lexicon made x ≡ Some k → Has lexicon made x kinded → k.kinded ≡ kinded
only_kind lexicon made x k kinded e h = kind_known (known_at lexicon made x) k kinded e h
