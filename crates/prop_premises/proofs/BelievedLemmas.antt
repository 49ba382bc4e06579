-- Which premises are believed, name after name.
use Rattle.std.proofs.Common.{◌≡◌, ℕ, zero, suc, ◌+◌, ◌<◌, ◌≤◌, Bool, true, false, ◌||◌, ◌&&◌, ◌==◌, List, [], ◌∷◌}
use Rattle.std.proofs.Common.{◌++◌, length, take, refl, sym, ap, subst, ◌∙◌, arith, slice_get, Some, map, String}
use Rattle.std.proofs.Common.{string_bytes, append-nil, length-append}
use Rattle.std.proofs.lemmas.Bool.Decides.{nat_tests}
use Rattle.prop_premises.specs.declared.named.Named.{Named}
use Rattle.prop_premises.specs.declared.named.Kind.{Kind}
use Rattle.prop_premises.specs.declared.named.Kind.TheVariants as kind
use Rattle.prop_premises.specs.Origins.{Origin, User, believed_in}
use Rattle.prop_premises.specs.inner.Named.{width, is_believed_kind, origins_of_kind, origins_of, AreNumberedFrom}
use Rattle.prop_premises.proofs.TableLemmas.{origins_of-append, numbered-second, length-cons}
use Rattle.prop_premises.proofs.ChangeLemmas.{believed_in-with_choice}

and_false : (b : Bool) → (b && false) ≡ false
and_false true = refl
and_false false = refl

and_true : (b : Bool) → (b && true) ≡ b
and_true true = refl
and_true false = refl

or_false : (b : Bool) → (b || false) ≡ b
or_false true = refl
or_false false = refl

with_user : (os : List Origin) (name : List ℕ) (b : Bool) (p : ℕ)
    → believed_in (os ++ User name b ∷ []) p ≡ (believed_in os p || (b && (length os == p)))
with_user [] name b zero = sym (and_true b)
with_user [] name b (suc p) = let apart : (0 == suc p) ≡ false =
    grind (arith, nat_tests) in sym (ap (λ c. b && c) apart ∙ and_false b)
with_user (o ∷ os) name b zero =
    let apart : (length (o ∷ os) == 0) ≡ false = grind (arith, nat_tests) in
    sym (ap (λ c. believed_in (o ∷ os) 0 || c) (ap (λ c. b && c) apart ∙ and_false b)
    ∙ or_false (believed_in (o ∷ os) 0))
with_user (o ∷ os) name b (suc p) =
    let next : (length (o ∷ os) == suc p) ≡ (length os == p) = grind (arith, nat_tests) in
    with_user os name b p ∙ ap (λ c. believed_in os p || (b && c)) (sym next)

with_kind : (os : List Origin) (name : List ℕ) (k : Kind) (p : ℕ)
    → believed_in (os ++ origins_of_kind name k) p ≡ (believed_in os p ||
    (is_believed_kind k && (length os == p)))
with_kind os name (kind.User b) p = with_user os name b p
with_kind os name (kind.Choice sides) p = believed_in-with_choice os name sides p ∙ sym (or_false (believed_in os p))

believed_width : (k : Kind) → is_believed_kind k ≡ true → 1 ≤ width k
believed_width (kind.User b) h = omega arith
believed_width (kind.Choice sides) h = cc

-- The table, cut at the name at a place.
record Cut {A : Type 0} (es : List (String A × Named)) (k : ℕ) (named : Named) : Type 0 where
  front : List (String A × Named)
  entry : String A × Named
  rest : List (String A × Named)
  whole : es ≡ front ++ entry ∷ rest
  is : entry.1 ≡ named
  before : take k es ≡ front
  upto : take (suc k) es ≡ front ++ entry ∷ []

same_some : {X : Type 0} (x y : X) → Some x ≡ Some y → x ≡ y
same_some x y e = cc

module _ {A : Type 0} where
  cut_at : (es : List (String A × Named)) (k : ℕ) (named : Named) → slice_get (map (λ e. e.1) es) k ≡ Some named
      → Cut es k named
  cut_at [] k named h = cc
  cut_at (e ∷ es) zero named h = record {
    front = [];
    entry = e;
    rest = es;
    whole = refl;
    is = same_some e.1 named h;
    before = refl;
    upto = refl;
  }
  cut_at (e ∷ es) (suc k) named h =
      let c = cut_at es k named h in
      record {
        front = e ∷ c.front;
        entry = c.entry;
        rest = c.rest;
        whole = ap (λ l. e ∷ l) c.whole;
        is = c.is;
        before = ap (λ l. e ∷ l) c.before;
        upto = ap (λ l. e ∷ l) c.upto;
      }

  first_of : (es : List (String A × Named)) (k : ℕ) (named : Named) (c : Cut es k named) → AreNumberedFrom 0 es
      → named.first ≡ length (origins_of c.front)
  first_of es k named c h =
      sym (ap (λ n. n.first) c.is) ∙ (numbered-second 0 c.front (c.entry ∷ c.rest) (length (origins_of c.front))
      (omega arith) (subst
      (AreNumberedFrom 0) c.whole h)).0

  -- the number of a believed premise is one of the table's
  pub first_within : (es : List (String A × Named)) (k : ℕ) (named : Named) → AreNumberedFrom 0 es
      → slice_get (map (λ e. e.1) es) k ≡ Some named →
      is_believed_kind named.kind ≡ true → named.first < length (origins_of es)
  first_within es k named h at b =
      let c = cut_at es k named at in
      let some = believed_width c.entry.1.kind (ap (λ n. is_believed_kind n.kind) c.is ∙ b) in
      let count = ap (λ l. length (origins_of l)) c.whole ∙ ap length (origins_of-append c.front (c.entry ∷ c.rest))
      ∙ length-append (origins_of c.front) (origins_of (c.entry ∷ c.rest)) in
      omega (arith, first_of es k named c h, some, count, length-cons c.entry c.rest)

  -- what is believed with one name more
  pub believed_in-next : (es : List (String A × Named)) (k m : ℕ) (named : Named) (p : ℕ) → m ≡ k + 1
      → AreNumberedFrom 0 es →
      slice_get (map (λ e. e.1) es) k ≡ Some named →
      believed_in (origins_of (take m es))
      p ≡ (believed_in (origins_of (take k es)) p || (is_believed_kind named.kind && (named.first == p)))
  believed_in-next es k m named p next h at =
      let c = cut_at es k named at in
      let after : m ≡ suc k = omega (arith, next) in
      let name = string_bytes c.entry.0 in
      ap (λ j. believed_in (origins_of (take j es)) p) after
      ∙ ap (λ l. believed_in (origins_of l) p) c.upto
      ∙ ap (λ os. believed_in os p) (origins_of-append c.front (c.entry ∷ [])
      ∙ ap (λ l. origins_of c.front ++ l) (append-nil (origins_of_kind name c.entry.1.kind)))
      ∙ with_kind (origins_of c.front) name c.entry.1.kind p
      ∙ ap (λ n. believed_in (origins_of c.front) p || (is_believed_kind n.kind && (length (origins_of c.front) == p)))
      c.is
      ∙ ap (λ n. believed_in (origins_of c.front) p || (is_believed_kind named.kind && (n == p)))
      (sym (first_of es k named c h))
      ∙ ap (λ l. believed_in (origins_of l) p || (is_believed_kind named.kind && (named.first == p))) (sym c.before)

-- one bit more where the name is believed, and else none
pub told_of : (w was b here : Bool) → b ≡ true → ((w || was) || here) ≡ (w || (was || (b && here)))
told_of true was b here e = refl
told_of false was true here e = refl
told_of false was false here e = cc

pub not_told : (w was b here : Bool) → b ≡ false → (w || was) ≡ (w || (was || (b && here)))
not_told true was b here e = refl
not_told false was true here e = cc
not_told false was false here e = sym (or_false was)
