-- Fresh cells stay as more are made.
use Rattle.std.proofs.Common.{◌≡◌, ◌⊎◌, ◌∙◌, ℕ, zero, suc, ◌+◌, ◌-◌, ◌<◌, ◌≤◌, List, [], ◌∷◌, ◌++◌}
use Rattle.std.proofs.Common.{length, Bool, true, false}
use Rattle.std.proofs.Common.{Option, Some, None, IsSomeAnd, cond, nat_lt, slice_get, inl, inr}
use Rattle.std.proofs.Common.{refl, ap, sym, subst, arith}
use Rattle.std.specs.Prelude.{Result, Ok, Err, OnOk, IfOk}
use Rattle.std.specs.Option.{option_map}
use Rattle.std.proofs.lemmas.Option.{slice_get_within}
use Rattle.std.proofs.lemmas.Bool.{ltb-true, ltb-false}
use Rattle.prop_lattice.specs.Points.{Point, Number, Element, Symbol, IsPointOf}
use Rattle.prop_lattice.specs.declared.info.Kind.{Kind}
use Rattle.prop_lattice.specs.declared.info.Kind.TheVariants.{Span as SpanKind, Set, Symbol as SymbolKind}
use Rattle.prop_procedures.specs.declared.shape.Kinded.{Kinded}
use Rattle.prop_meaning.specs.Words.{Lexicon, IsLexicon, IsWithin}
use Rattle.prop_meaning.specs.inner.Drafts.{known_at, Has, Suits, Runs, Grows, IsGood, IsSound, Grown, Makes, Shows}
use Rattle.prop_meaning.specs.inner.Drafts.{IsNamed, IsProper, IsPoint}
use Rattle.prop_meaning.specs.inner.Steps.{made_by}
use Rattle.prop_meaning.specs.declared.draft.Made.{Made}
use Rattle.prop_meaning.specs.declared.known.Known.{Known}
use Rattle.prop_meaning.specs.declared.steps.Step.{Step}
use Rattle.prop_meaning.specs.declared.steps.Step.TheVariants as steps
use Rattle.prop_terms.specs.Terms.{Term}

-- ---- results

pub both_ok : {X E : Type 0} (r : Result X E) (P : Type 0) (Q R : X → Type 0) → OnOk r P → IfOk r Q
    → ((x : X) → P → Q x → R x) → IfOk r R
both_ok (Ok x) P Q R p q f = f x p q
both_ok (Err e) P Q R p q f = tt

pub on_ok : {X E : Type 0} (r : Result X E) (P Q : Type 0) → OnOk r P → (P → Q) → OnOk r Q
on_ok (Ok x) P Q p f = f p
on_ok (Err e) P Q p f = tt

-- ---- lists

pub at_front : {X : Type 0} (xs ys : List X) (k : ℕ) (x : X) → slice_get xs k ≡ Some x → slice_get (xs ++ ys) k ≡ Some x
at_front [] ys k x h = absurd (cc)
at_front (z ∷ zs) ys zero x h = h
at_front (z ∷ zs) ys (suc k) x h = at_front zs ys k x h

pub at_last : {X : Type 0} (xs : List X) (y : X) → slice_get (xs ++ y ∷ []) (length xs) ≡ Some y
at_last [] y = refl
at_last (z ∷ zs) y = at_last zs y

-- what stands in a list with one more element
pub at_push : {X : Type 0} (xs : List X) (y : X) (k : ℕ) (x : X) → slice_get (xs ++ y ∷ []) k ≡ Some x
    → (slice_get xs k ≡ Some x) ⊎ ((k ≡ length xs) × (y ≡ x))
at_push [] y zero x e = inr (refl, cc)
at_push [] y (suc k) x e = absurd (cc)
at_push (z ∷ xs) y zero x e = inl e
at_push (z ∷ xs) y (suc k) x e =
    elim (at_push xs y k x e) [ inl a ↦ inl a | inr b ↦ inr (ap suc b.0, b.1) ]

-- ---- what is known of cells

kept_kind : (b : Bool) (given : Known) (old new : Option Made) (kinded : Kinded)
    → ((m : Made) → old ≡ Some m → new ≡ Some m)
    → option_map (λ k. k.kinded) (cond b (Some given) (option_map (λ m. m.known) old)) ≡ Some kinded
    → option_map (λ k. k.kinded) (cond b (Some given) (option_map (λ m. m.known) new)) ≡ Some kinded
kept_kind true given old new kinded g h = h
kept_kind false given (Some m) new kinded g h = rw (g m refl) h
kept_kind false given None new kinded g h = absurd (cc)

pub has_grows : (lexicon : Lexicon) (olds news : List Made) (place : ℕ) (kinded : Kinded) → Grows olds news
    → Has lexicon olds place kinded → Has lexicon news place kinded
has_grows lexicon olds news place kinded g h =
    kept_kind (nat_lt place lexicon.count) (lexicon.known place) (slice_get olds (place - lexicon.count))
    (slice_get news (place - lexicon.count)) kinded (g (place - lexicon.count)) h

pub suits_grows : (lexicon : Lexicon) (olds news : List Made) (kinded : Kinded) (s : Step) → Grows olds news
    → Suits lexicon olds kinded s → Suits lexicon news kinded s
suits_grows lexicon olds news kinded (steps.Number z) g h = h
suits_grows lexicon olds news kinded (steps.Element i) g h = h
suits_grows lexicon olds news kinded (steps.One op x) g h = (has_grows lexicon olds news x _ g h.0, h.1)
suits_grows lexicon olds news kinded (steps.Two op x y) g h =
    (h.0, h.1, has_grows lexicon olds news x _ g h.2, has_grows lexicon olds news y _ g h.3, h.4)
suits_grows lexicon olds news kinded (steps.Choice t x y) g h = (
  has_grows lexicon olds news t _ g h.0,
  has_grows lexicon olds news x _ g h.1,
  has_grows lexicon
      olds news y _ g h.2,
)
suits_grows lexicon olds news kinded (steps.Quotient x y) g h =
    (has_grows lexicon olds news x _ g h.0, has_grows lexicon olds news y _ g h.1, h.2)
suits_grows lexicon olds news kinded (steps.Left x p y) g h = (
  has_grows lexicon olds news x _ g h.0,
  has_grows lexicon olds news p _ g h.1,
  has_grows lexicon olds news y _ g h.2,
  h.3,
)
suits_grows lexicon olds news kinded s g h = tt

-- ---- growing

pub grows_trans : (a b c : List Made) → Grows a b → Grows b c → Grows a c
grows_trans a b c g h k m e = h k m (g k m e)

pub runs_back : (lexicon : Lexicon) (olds news : List Made) (a : ℕ → Point) → Grows olds news → Runs lexicon news a
    → Runs lexicon olds a
runs_back lexicon olds news a g r = record {
  words = r.words;
  given = r.given;
  fresh = λ k m e. r.fresh k m (g k m e);
}

pub grown_here : (lexicon : Lexicon) (made : List Made) → IsSound lexicon made → Grown lexicon made made
grown_here lexicon made s = record { sound = s; grows = λ k m e. e }

pub grown_trans : (lexicon : Lexicon) (a b c : List Made) → Grown lexicon a b → Grown lexicon b c → Grown lexicon a c
grown_trans lexicon a b c g h = record { sound = h.sound; grows = grows_trans a b c g.grows h.grows }

pub makes_grows : (lexicon : Lexicon) (olds news : List Made) (kinded : Kinded) (f : (ℕ → Point) → Point) (place : ℕ)
    → Grown lexicon olds news → Makes lexicon olds kinded f place → Makes lexicon news kinded f place
makes_grows lexicon olds news kinded f place g h = record {
  has = has_grows lexicon olds news place kinded g.grows h.has;
  is = λ a r. h.is a (runs_back lexicon olds news a g.grows r);
}

pub shows_grows : (lexicon : Lexicon) (olds news : List Made) (kinded : Kinded) (t : Term) (place : ℕ)
    → Grown lexicon olds news → Shows lexicon olds kinded t place → Shows lexicon news kinded t place
shows_grows lexicon olds news kinded t place g h = record {
  has = has_grows lexicon olds news place kinded g.grows h.has;
  worth_is = λ a r. h.worth_is a (runs_back lexicon olds news a g.grows r);
}

good_grows : (lexicon : Lexicon) (olds news : List Made) (place : ℕ) (m : Made) → Grows olds news
    → IsGood lexicon olds place m → IsGood lexicon news place m
good_grows lexicon olds news place m g h = record {
  behind = h.behind;
  suits = suits_grows lexicon olds news m.known.kinded m.step g h.suits;
  within = λ a r. h.within a (runs_back lexicon olds news a g r);
}

pub grown_push : (lexicon : Lexicon) (made : List Made) (new : Made) → IsSound lexicon made
    → IsGood lexicon made (lexicon.count + length made) new → Grown lexicon made (made ++ new ∷ [])
grown_push lexicon made new s good = record {
  sound = λ k m e. elim (at_push made new k m e) [
    | inl old ↦ good_grows lexicon made (made ++ new ∷ []) (lexicon.count + k) m grows (s k m old)
    | inr now ↦ last k m now.0 now.1
  ];
  grows = grows;
}
  where
    grows : Grows made (made ++ new ∷ [])
    grows k m e = at_front made (new ∷ []) k m e

    last : (k : ℕ) (m : Made) → k ≡ length made → new ≡ m → IsGood lexicon (made ++ new ∷ []) (lexicon.count + k) m
    last k m e f =
        let P : ℕ → Type 0 = λ n. IsGood lexicon (made ++ new ∷ []) (lexicon.count + n) m in
        let Q : Made → Type 0 = λ n. IsGood lexicon (made ++ new ∷ []) (lexicon.count + length made) n in
        subst P (sym e) (subst Q f
        (good_grows lexicon made (made ++ new ∷ []) (lexicon.count + length made) new grows
        good))

-- ---- points of cells

same_in : {X : Type 0} {x y : X} → Some x ≡ Some y → x ≡ y
same_in e = cc

named_by : (lexicon : Lexicon) (kind : Kind) (size : ℕ) (p : Point)
    → ((domain : ℕ) → kind ≡ Set domain → size ≡ lexicon.size domain)
    → IsPointOf kind size p → IsNamed lexicon (record { kind = kind; size = size }) p
named_by lexicon (Set domain) size (Element i) sizes h =
    let P : ℕ → Type 0 = λ n. i < n in
    subst P (sizes domain refl) h
named_by lexicon SpanKind size (Number z) sizes h = tt
named_by lexicon SymbolKind size (Symbol n) sizes h = tt
named_by lexicon (Set domain) size (Number z) sizes h = tt
named_by lexicon (Set domain) size (Symbol n) sizes h = tt
named_by lexicon SpanKind size (Symbol n) sizes h = tt
named_by lexicon SymbolKind size (Number z) sizes h = tt
named_by lexicon SpanKind size (Element i) sizes h = absurd h
named_by lexicon SymbolKind size (Element i) sizes h = absurd h

-- a given cell's point has a name
given_point : (lexicon : Lexicon) (i : ℕ) (a : ℕ → Point) → IsLexicon lexicon → i < lexicon.count
    → IsWithin (lexicon.known i) (a i) → IsPoint lexicon (lexicon.known i) (a i)
given_point lexicon i a law l h = record {
  within = h;
  named = named_by lexicon (lexicon.known i).kinded.kind (lexicon.known i).kinded.size (a i)
      (λ domain e. law.sizes i domain l e) h.0;
}

point_known : (lexicon : Lexicon) (made : List Made) (place : ℕ) (k : Known) (a : ℕ → Point) → IsSound lexicon made
    → Runs lexicon made a → (b : Bool) → nat_lt place lexicon.count ≡ b → (o : Option Made)
    → slice_get made (place - lexicon.count) ≡ o
    → cond b (Some (lexicon.known place)) (option_map (λ m. m.known) o) ≡ Some k → IsPoint lexicon k (a place)
point_known lexicon made place k a s r true e o f h =
    let P : Known → Type 0 = λ q. IsPoint lexicon q (a place) in
    let l : place < lexicon.count = ltb-true place lexicon.count e in
    subst P (same_in h) (given_point lexicon place a r.words l (r.given place l))
point_known lexicon made place k a s r false e (Some m) f h =
    let P : Known → Type 0 = λ q. IsPoint lexicon q (a place) in
    let Q : Point → Type 0 = λ q. IsPoint lexicon m.known q in
    let R : ℕ → Type 0 = λ n. IsPoint lexicon m.known (a n) in
    let there : lexicon.count + (place - lexicon.count) ≡ place =
    back lexicon.count place (ltb-false place lexicon.count e) in
    subst P (same_in h) (subst R there (subst Q (sym (r.fresh (place - lexicon.count) m f))
    ((s (place - lexicon.count) m f).within a r)))
  where
    back : (c p : ℕ) → c ≤ p → c + (p - c) ≡ p
    back c p l = omega arith
point_known lexicon made place k a s r false e None f h = absurd (cc)

-- a cell's point is what is known of it
pub is_point : (lexicon : Lexicon) (made : List Made) (place : ℕ) (k : Known) (a : ℕ → Point) → IsSound lexicon made
    → Runs lexicon made a → known_at lexicon made place ≡ Some k → IsPoint lexicon k (a place)
is_point lexicon made place k a s r h =
    point_known lexicon made place k a s r (nat_lt place lexicon.count) refl _ refl h

has_known : (o : Option Known) (kinded : Kinded) → option_map (λ k. k.kinded) o ≡ Some kinded
    → (k : Known) × (o ≡ Some k) × (k.kinded ≡ kinded)
has_known (Some k) kinded h = (k, refl, same_in h)
has_known None kinded h = absurd (cc)

proper : (lexicon : Lexicon) (k : Known) (p : Point) → IsPoint lexicon k p → IsProper lexicon k.kinded p
proper lexicon k p h = record { of_kind = h.within.0; named = h.named }

-- and is of its kind
pub is_proper : (lexicon : Lexicon) (made : List Made) (place : ℕ) (kinded : Kinded) (a : ℕ → Point)
    → IsSound lexicon made → Runs lexicon made a → Has lexicon made place kinded → IsProper lexicon kinded (a place)
is_proper lexicon made place kinded a s r h =
    let known = has_known (known_at lexicon made place) kinded h in
    let P : Kinded → Type 0 = λ q. IsProper lexicon q (a place) in
    subst P known.2 (proper lexicon known.0 (a place) (is_point lexicon made place known.0 a s r known.1))

before : (b : Bool) (c p n : ℕ) (given : Known) (o : Option Made) (k : Known) → nat_lt p c ≡ b
    → ((m : Made) → o ≡ Some m → p - c < n)
    → cond b (Some given) (option_map (λ m. m.known) o) ≡ Some k → p < c + n
before true c p n given o k e f h = omega (arith, ltb-true p c e)
before false c p n given (Some m) k e f h = omega (arith, ltb-false p c e, f m refl)
before false c p n given None k e f h = absurd (cc)

-- a cell stands before those that are yet to be made
pub stands_before : (lexicon : Lexicon) (made : List Made) (place : ℕ) (kinded : Kinded) → Has lexicon made place kinded
    → place < lexicon.count + length made
stands_before lexicon made place kinded h =
    let known = has_known (known_at lexicon made place) kinded h in
    before (nat_lt place lexicon.count) lexicon.count place (length made) (lexicon.known place)
    (slice_get made (place - lexicon.count)) known.0 refl
    (λ m e. slice_get_within made (place - lexicon.count) m e) known.1

-- ---- a cell that is found or made

has_at : (b : Bool) (c p n k : ℕ) (given : Known) (made : List Made) (m : Made) → nat_lt p c ≡ b → p ≡ c + k → n ≡ p - c
    → slice_get made k ≡ Some m
    → option_map (λ k. k.kinded)
    (cond b (Some given) (option_map (λ m. m.known) (slice_get made n))) ≡ Some m.known.kinded
has_at true c p n k given made m e f g h = absurd (omega (arith, ltb-true p c e))
has_at false c p n k given made m e f g h =
    let P : ℕ → Type 0 = λ i. option_map (λ k. k.kinded)
    (option_map (λ m. m.known) (slice_get made i)) ≡ Some m.known.kinded in
    let same : k ≡ n = omega arith in
    subst P same (ap (λ o. option_map (λ k. k.kinded) (option_map (λ m. m.known) o)) h)

pub makes_at : (lexicon : Lexicon) (made : List Made) (m : Made) (k : ℕ) → slice_get made k ≡ Some m
    → Makes lexicon made m.known.kinded (made_by m.step) (lexicon.count + k)
makes_at lexicon made m k e = record {
  has = has_at (nat_lt (lexicon.count + k) lexicon.count) lexicon.count (lexicon.count + k)
      ((lexicon.count + k) - lexicon.count) k
      (lexicon.known (lexicon.count + k)) made m refl refl refl e;
  is = λ a r. r.fresh k m e;
}

found_by : (lexicon : Lexicon) (made : List Made) (new : Made) (k : ℕ) (o : Option Made) → slice_get made k ≡ o
    → IsSomeAnd o (λ m. (m.step ≡ new.step) × (m.known.kinded ≡ new.known.kinded))
    → Makes lexicon made new.known.kinded (made_by new.step) (lexicon.count + k)
found_by lexicon made new k (Some m) e h =
    let P : Kinded → Type 0 = λ n. Makes lexicon made n (made_by new.step) (lexicon.count + k) in
    let Q : Step → Type 0 = λ s. Makes lexicon made m.known.kinded (made_by s) (lexicon.count + k) in
    subst P h.1 (subst Q h.0 (makes_at lexicon made m k e))
found_by lexicon made new k None e h = absurd h

pub found : (lexicon : Lexicon) (made : List Made) (new : Made) (k place : ℕ) → place ≡ lexicon.count + k
    → IsSomeAnd (slice_get made k) (λ m. (m.step ≡ new.step) × (m.known.kinded ≡ new.known.kinded))
    → Makes lexicon made new.known.kinded (made_by new.step) place
found lexicon made new k place e h =
    let P : ℕ → Type 0 = λ i. Makes lexicon made new.known.kinded (made_by new.step) i in
    subst P (sym e) (found_by lexicon made new k (slice_get made k) refl h)

pub pushed : (lexicon : Lexicon) (made : List Made) (new : Made) (place : ℕ) → place ≡ lexicon.count + length made
    → Makes lexicon (made ++ new ∷ []) new.known.kinded (made_by new.step) place
pushed lexicon made new place e =
    let P : ℕ → Type 0 = λ i. Makes lexicon (made ++ new ∷ []) new.known.kinded (made_by new.step) i in
    subst P (sym e) (makes_at lexicon (made ++ new ∷ []) new (length made) (at_last made new))

-- what is made of what is made
pub then_makes : (lexicon : Lexicon) (first second : List Made) (k l : Kinded) (f : (ℕ → Point) → Point)
    (h : Point → (ℕ → Point) → Point) (z place : ℕ) → Makes lexicon first k f z → Grown lexicon first second
    → Makes lexicon second l (λ a. h (a z) a) place → Makes lexicon second l (λ a. h (f a) a) place
then_makes lexicon first second k l f h z place m g n = record {
  has = n.has;
  is = λ a r. n.is a r ∙ ap (λ p. h p a) (m.is a (runs_back lexicon first second a g.grows r));
}
