-- What operators are made of is what they are worth.
use Rattle.std.proofs.Common.{◌≡◌, ◌∙◌, ℕ, zero, suc, ℤ, Bool, true, false, cond, not, ◌&&◌, ◌||◌, ◌==◌, ◌<◌}
use Rattle.std.proofs.Common.{Some, refl, ap, sym, subst, arith, int_le, int_lt}
use Rattle.std.specs.Prelude.{bytes_eq}
use Rattle.std.proofs.lemmas.Slice.Eq.{bytes_eq-Decides}
use Rattle.std.proofs.lemmas.Bool.Decides.{same_from_decides, Decides-like, Decides-eqb}
use Rattle.std.proofs.lemmas.Int.{ints}
use Rattle.prop_lattice.specs.Points.{Point, Number, Element, Symbol, IsPointOf}
use Rattle.prop_lattice.specs.declared.info.Kind.{Kind}
use Rattle.prop_lattice.specs.declared.info.Kind.TheVariants.{Span as SpanKind, Set, Symbol as SymbolKind}
use Rattle.prop_procedures.specs.declared.shape.Kinded.{Kinded}
use Rattle.prop_terms.specs.declared.operators.Infix.{Infix}
use Rattle.prop_terms.specs.declared.operators.Infix.TheVariants as between
use Rattle.std.specs.Option.{option_map}
use Rattle.std.proofs.Common.{Option, None}
use Rattle.prop_terms.specs.Meaning.{Value, Whole, holds, truth, is_same, is_equal, combined, computed, quotient}
use Rattle.prop_meaning.specs.Words.{Lexicon, IsLexicon, value_as}
use Rattle.prop_meaning.specs.inner.Drafts.{IsProper, number_kind, truth_kind}
use Rattle.prop_meaning.specs.inner.Steps.{truth_point, same_point, number_or}
use Rattle.prop_meaning.specs.inner.Formulas.{Takes, kind_of, formula}

-- ---- truths

-- the truth of a test is that of the same test
pub told : (lexicon : Lexicon) → IsLexicon lexicon → (b c : Bool) → b ≡ c
    → truth b ≡ Some (value_as lexicon truth_kind (truth_point c))
told lexicon law true true e = rw law.yes refl
told lexicon law false false e = rw law.no refl
told lexicon law true false e = absurd (cc)
told lexicon law false true e = absurd (cc)

-- a truth's point is yes where the truth is
pub holds_told : (lexicon : Lexicon) → IsLexicon lexicon → (b : Bool)
    → holds (Some (value_as lexicon truth_kind (truth_point b))) ≡ b
holds_told lexicon law true = rw law.yes refl
holds_told lexicon law false = rw law.no refl

both : (P : Bool → Bool → Type 0) → P true true → P true false → P false true → P false false → (b c : Bool) → P b c
both P tt' tf ft ff true true = tt'
both P tt' tf ft ff true false = tf
both P tt' tf ft ff false true = ft
both P tt' tf ft ff false false = ff

-- two points of a kind that fit are numbers, or truths
pub on_numbers : (size : ℕ) (P : Point → Point → Type 0) → ((x y : ℤ) → P (Number x) (Number y)) → (p q : Point)
    → IsPointOf SpanKind size p → IsPointOf SpanKind size q → P p q
on_numbers size P f (Number x) (Number y) h g = f x y
on_numbers size P f (Number x) (Element j) h g = absurd g
on_numbers size P f (Number x) (Symbol n) h g = absurd g
on_numbers size P f (Element i) q h g = absurd h
on_numbers size P f (Symbol m) q h g = absurd h

pub on_number : (size : ℕ) (P : Point → Type 0) → ((x : ℤ) → P (Number x)) → (p : Point) → IsPointOf
    SpanKind size p → P p
on_number size P f (Number x) h = f x
on_number size P f (Element i) h = absurd h
on_number size P f (Symbol m) h = absurd h

pub on_truth : (P : Point → Type 0) → ((b : Bool) → P (truth_point b)) → (p : Point) → IsPointOf (Set 0) 2 p → P p
on_truth P f (Element zero) h = f true
on_truth P f (Element (suc zero)) h = f false
on_truth P f (Element (suc (suc i))) h = absurd (over i h)
  where
    over : (i : ℕ) → suc (suc i) < 2 → ⊥
    over i h = omega arith
on_truth P f (Number x) h = absurd h
on_truth P f (Symbol m) h = absurd h

pub on_truths : (P : Point → Point → Type 0) → ((b c : Bool) → P (truth_point b) (truth_point c)) → (p q : Point)
    → IsPointOf (Set 0) 2 p → IsPointOf (Set 0) 2 q → P p q
on_truths P f p q h g =
    on_truth (λ r. P r q) (λ b. on_truth (λ r. P (truth_point b) r) (λ c. f b c) q g) p h

-- ---- what is the same

pub elements_same : (lexicon : Lexicon) → IsLexicon lexicon → (domain i j : ℕ) → i < lexicon.size domain
    → j < lexicon.size domain
    → bytes_eq (lexicon.element_word domain i) (lexicon.element_word domain j) ≡ (i == j)
elements_same lexicon law domain i j h g =
    let P : Type 0 = i ≡ j in
    same_from_decides {P = P} _ _
    (Decides-like _ (law.elements_differ domain i j h g) (ap (lexicon.element_word domain))
    (bytes_eq-Decides _ _)) (Decides-eqb i j)

symbols_same : (lexicon : Lexicon) → IsLexicon lexicon → (m n : ℕ)
    → bytes_eq (lexicon.symbol_word m) (lexicon.symbol_word n) ≡ (m == n)
symbols_same lexicon law m n =
    let P : Type 0 = m ≡ n in
    same_from_decides {P = P} _ _
    (Decides-like _ (law.symbols_differ m n) (ap lexicon.symbol_word) (bytes_eq-Decides _ _))
    (Decides-eqb m n)

by_kind : (lexicon : Lexicon) → IsLexicon lexicon → (kind : Kind) (size : ℕ) (p q : Point)
    → IsProper lexicon (record { kind = kind; size = size }) p → IsProper lexicon
    (record { kind = kind; size = size }) q
    → is_same (value_as lexicon (record { kind = kind; size = size }) p)
    (value_as lexicon (record { kind = kind; size = size }) q) ≡ same_point p q
by_kind lexicon law SpanKind size p q h g = on_numbers size
    (λ p q. is_same (value_as lexicon (record { kind = SpanKind; size = size }) p)
    (value_as lexicon (record { kind = SpanKind; size = size }) q) ≡ same_point p q)
    (λ x y. refl) p q h.of_kind g.of_kind
by_kind lexicon law (Set domain) size (Element i) (Element j) h g =
    elements_same lexicon law domain i j h.named g.named
by_kind lexicon law (Set domain) size (Element i) (Number y) h g = absurd g.of_kind
by_kind lexicon law (Set domain) size (Element i) (Symbol n) h g = absurd g.of_kind
by_kind lexicon law (Set domain) size (Number x) q h g = absurd h.of_kind
by_kind lexicon law (Set domain) size (Symbol m) q h g = absurd h.of_kind
by_kind lexicon law SymbolKind size (Symbol m) (Symbol n) h g = symbols_same lexicon law m n
by_kind lexicon law SymbolKind size (Symbol m) (Number y) h g = absurd g.of_kind
by_kind lexicon law SymbolKind size (Symbol m) (Element j) h g = absurd g.of_kind
by_kind lexicon law SymbolKind size (Number x) q h g = absurd h.of_kind
by_kind lexicon law SymbolKind size (Element i) q h g = absurd h.of_kind

-- values are the same where points of one kind are
pub values_same : (lexicon : Lexicon) → IsLexicon lexicon → (kinded : Kinded) (p q : Point) → IsProper lexicon kinded p
    → IsProper lexicon kinded q → is_same (value_as lexicon kinded p) (value_as lexicon kinded q) ≡ same_point p q
values_same lexicon law kinded p q h g = by_kind lexicon law kinded.kind kinded.size p q h g

-- ---- operators

abbrev Means : Lexicon → Infix → Kinded → Point → Point → Type 0
Means lexicon op kinded p q = combined op (Some (value_as lexicon kinded p)) (Some (value_as lexicon kinded q))
    ≡ Some (value_as lexicon (kind_of op) (formula op p q))

truths_mean : (lexicon : Lexicon) → IsLexicon lexicon → (op : Infix) (f : Bool → Bool → Bool)
    → ((v w : Value) → combined op (Some v) (Some w) ≡ truth (f (holds (Some v)) (holds (Some w))))
    → ((b c : Bool) → Some (value_as lexicon (kind_of op) (formula op (truth_point b) (truth_point c)))
    ≡ Some (value_as lexicon truth_kind (truth_point (f b c)))) → (kinded : Kinded) → kinded ≡
    truth_kind → (p q : Point)
    → IsProper lexicon kinded p → IsProper lexicon kinded q → Means lexicon op kinded p q
truths_mean lexicon law op f e g kinded k p q h i =
    let P : Kinded → Type 0 = λ n. IsProper lexicon n p → IsProper lexicon n q → Means lexicon op n p q in
    subst P (sym k) (λ h i. on_truths (λ p q. Means lexicon op truth_kind p q)
    (λ b c. e _ _ ∙ told lexicon law _ (f b c)
    (ap (λ x. f x (holds (Some (value_as lexicon truth_kind (truth_point c))))) (holds_told lexicon law b)
    ∙ ap (f b) (holds_told lexicon law c)) ∙ sym (g b c)) p q h.of_kind i.of_kind) h i

numbers_mean : (lexicon : Lexicon) (op : Infix)
    → ((x y : ℤ) → Means lexicon op number_kind (Number x) (Number y)) → (kinded : Kinded) → kinded ≡ number_kind
    → (p q : Point) → IsProper lexicon kinded p → IsProper lexicon kinded q → Means lexicon op kinded p q
numbers_mean lexicon op f kinded k p q h i =
    let P : Kinded → Type 0 = λ n. IsProper lexicon n p → IsProper lexicon n q → Means lexicon op n p q in
    subst P (sym k) (λ h i. on_numbers 0 (λ p q. Means lexicon op number_kind p q) f p q h.of_kind i.of_kind) h i

-- where what a division makes is a number, this is its value
divisions_mean : (lexicon : Lexicon) (op : Infix) (f : ℤ → ℤ → Option ℤ)
    → ((x y : ℤ) (k : Kinded) → combined op (Some (value_as lexicon k (Number x)))
    (Some (value_as lexicon k (Number y)))
    ≡ option_map Whole (f x y))
    → ((x y : ℤ) → formula op (Number x) (Number y) ≡ number_or (f x y)) → kind_of op ≡ number_kind
    → (kinded : Kinded) → kinded ≡ number_kind → (p q : Point) → IsProper lexicon kinded p → IsProper lexicon kinded q
    → IsProper lexicon (kind_of op) (formula op p q) → Means lexicon op kinded p q
divisions_mean lexicon op f e g n kinded k p q h i j =
    let P : Kinded → Type 0 = λ n. IsProper lexicon n p → IsProper lexicon n q → Means lexicon op n p q in
    let R : Kinded → Type 0 = λ n. IsPointOf n.kind n.size (formula op p q) in
    subst P (sym k) (λ h i. on_numbers 0
    (λ p q. IsPointOf SpanKind 0 (formula op p q) → Means lexicon op number_kind p q)
    (λ x y j. e x y number_kind ∙ (is_whole (f x y) (formula op (Number x) (Number y)) (g x y) j)) p q
    h.of_kind i.of_kind (subst R n j.of_kind)) h i
  where
    is_whole : (o : Option ℤ) (s : Point) → s ≡ number_or o → IsPointOf SpanKind 0 s
        → option_map Whole o ≡ Some (value_as lexicon (kind_of op) s)
    is_whole None s e j = absurd (let Q : Point → Type 0 = λ s. IsPointOf SpanKind 0 s in subst Q e j)
    is_whole (Some z) s e j = ap (λ s. Some (value_as lexicon (kind_of op) s)) (sym e)

pub untold : (b : Bool) → not (cond b 0 1 == 0) ≡ not b
untold true = refl
untold false = refl

pub le_not_lt : (x y : ℤ) → int_le y x ≡ not (int_lt x y)
le_not_lt x y = grind (arith, ints)

pub formula_means : (lexicon : Lexicon) → IsLexicon lexicon → (op : Infix) (kinded : Kinded) (p q : Point)
    → Takes op kinded → IsProper lexicon kinded p → IsProper lexicon kinded q
    → IsProper lexicon (kind_of op) (formula op p q) → Means lexicon op kinded p q
formula_means lexicon law between.Plus kinded p q t h i j =
    numbers_mean lexicon between.Plus (λ x y. refl) kinded t p q h i
formula_means lexicon law between.Minus kinded p q t h i j =
    numbers_mean lexicon between.Minus (λ x y. refl) kinded t p q h i
formula_means lexicon law between.Times kinded p q t h i j =
    numbers_mean lexicon between.Times (λ x y. refl) kinded t p q h i
formula_means lexicon law between.Over kinded p q t h i j = divisions_mean lexicon between.Over (λ x y. quotient x y)
    (λ x y k. refl) (λ x y. refl) refl kinded t p q h i j
formula_means lexicon law between.Remainder kinded p q t h i j = divisions_mean lexicon between.Remainder
    (λ x y. computed between.Remainder x y) (λ x y k. refl) (λ x y. refl) refl kinded t p q h i j
formula_means lexicon law between.Less kinded p q t h i j = numbers_mean lexicon between.Less
    (λ x y. told lexicon law (int_lt x y) (int_lt x y) refl) kinded t p q h i
formula_means lexicon law between.Greater kinded p q t h i j = numbers_mean lexicon between.Greater
    (λ x y. told lexicon law (int_lt y x) (int_lt y x) refl) kinded t p q h i
formula_means lexicon law between.AtLeast kinded p q t h i j = numbers_mean lexicon between.AtLeast
    (λ x y. told lexicon law (int_le y x) _ (le_not_lt x y ∙ sym (untold (int_lt x y)))) kinded t p q h i
formula_means lexicon law between.AtMost kinded p q t h i j = numbers_mean lexicon between.AtMost
    (λ x y. told lexicon law (int_le x y) _ (le_not_lt y x ∙ sym (untold (int_lt y x)))) kinded t p q h i
formula_means lexicon law between.Equal kinded p q t h i j =
    told lexicon law _ (same_point p q) (values_same lexicon law kinded p q h i)
formula_means lexicon law between.Unequal kinded p q t h i j =
    told lexicon law _ _ (ap not (values_same lexicon law kinded p q h i) ∙ sym (untold (same_point p q)))
formula_means lexicon law between.And kinded p q t h i j = truths_mean lexicon law between.And (λ b c. b && c)
    (λ v w. refl) (both _ refl refl refl refl) kinded t p q h i
formula_means lexicon law between.Or kinded p q t h i j = truths_mean lexicon law between.Or (λ b c. b || c)
    (λ v w. refl) (both _ refl refl refl refl) kinded t p q h i
formula_means lexicon law between.Xor kinded p q t h i j = truths_mean lexicon law between.Xor
    (λ b c. not (is_equal b c)) (λ v w. refl) (both _ refl refl refl refl) kinded t p q h i
formula_means lexicon law between.Iff kinded p q t h i j = truths_mean lexicon law between.Iff is_equal
    (λ v w. refl) (both _ refl refl refl refl) kinded t p q h i
formula_means lexicon law between.Implies kinded p q t h i j = truths_mean lexicon law between.Implies
    (λ b c. not b || c) (λ v w. refl) (both _ refl refl refl refl) kinded t p q h i
formula_means lexicon law op kinded p q t h i j = absurd t
