-- The numbers of a table of names: the sides of a choice have numbers in a row, and the user's premises the others.
use Rattle.std.proofs.Common.{◌≡◌, ℕ, zero, suc, ◌+◌, ◌-◌, ◌<◌, ◌≤◌, Bool, true, false, ◌||◌, List, [], ◌∷◌, ◌++◌}
use Rattle.std.proofs.Common.{length, refl, sym, ap, subst, ◌∙◌, inl, inr, arith, String, string_bytes, length-append}
use Rattle.std.specs.List.{AllByRecursion}
use Rattle.std.specs.Option.{option_map_or}
use Rattle.std.proofs.lemmas.Bool.{cases_lt}
use Rattle.std.proofs.lemmas.Bool.Decides.{nat_tests}
use Rattle.prop_premises.specs.declared.choice.Choice.{Choice}
use Rattle.prop_premises.specs.declared.named.Named.{Named}
use Rattle.prop_premises.specs.declared.named.Kind.{Kind}
use Rattle.prop_premises.specs.declared.named.Kind.TheVariants as kind
use Rattle.prop_premises.specs.ChoiceLists.{is_hypothetical, AreInOrder, AreOfSides}
use Rattle.prop_premises.specs.inner.ChoiceLists.{is_side_of}
use Rattle.prop_premises.specs.Origins.{Origin, User, choices_from, choices_of, is_user, is_user_at}
use Rattle.prop_premises.specs.inner.Origins.{sides_below}
use Rattle.prop_premises.specs.Origins.{IsNumbered}
use Rattle.prop_premises.specs.inner.Named.{width, origins_of_kind, origins_of, IsKind, AreNumberedFrom}
use Rattle.prop_premises.proofs.ChoiceLemmas.{choices_from-append, choices_from-sides, length-sides, slice_get-sides}
use Rattle.prop_premises.proofs.ChoiceLemmas.{slice_get-front, slice_get-skip}
use Rattle.prop_premises.proofs.OriginLemmas.{is_user_at-at}

-- choices of which the first has no number below n
abbrev Later : ℕ → List Choice → Type 0
Later n cs = AllByRecursion (λ c. n ≤ c.first) cs

later_more : (n m : ℕ) (cs : List Choice) → n ≤ m → Later m cs → Later n cs
later_more n m [] l h = tt
later_more n m (c ∷ cs) l h = (omega (arith, l, h.0), later_more n m cs l h.1)

or_false : (b c : Bool) → b ≡ false → c ≡ false → (b || c) ≡ false
or_false true c h k = cc
or_false false c h k = k

none_below : (n p : ℕ) (cs : List Choice) → p < n → Later n cs → is_hypothetical cs p ≡ false
none_below n p [] l h = refl
none_below n p (c ∷ cs) l h =
    let low : n ≤ c.first = h.0 in
    let apart : is_side_of c p ≡ false = grind (arith, nat_tests) in
    or_false (is_side_of c p) (is_hypothetical cs p) apart (none_below n p cs l h.1)

-- What is told of choices, where the premises have the numbers from n on.
record Row (n : ℕ) (os : List Origin) (cs : List Choice) : Type 0 where
  later : Later n cs
  in_order : AreInOrder cs
  of_sides : AreOfSides cs
  below : (p : ℕ) → is_hypothetical cs p ≡ true → p < n + length os
  user : (q : ℕ) → is_user_at os q ≡ true → is_hypothetical cs (n + q) ≡ false

row_user : (n m : ℕ) (name : List ℕ) (believed : Bool) (os : List Origin) (cs : List Choice) → m ≡ n + 1 → Row m os cs
    → Row n (User name believed ∷ os) cs
row_user n m name believed os cs e r = record {
  later = later_more n m cs (omega (arith, e)) r.later;
  in_order = r.in_order;
  of_sides = r.of_sides;
  below = λ p h. omega (arith, e, r.below p h);
  user = user;
}
  where
    user : (q : ℕ) → is_user_at (User name believed ∷ os) q ≡ true → is_hypothetical cs (n + q) ≡ false
    user zero h = none_below m (n + 0) cs (omega (arith, e)) r.later
    user (suc q) h = let same : n + suc q ≡ m + q = omega (arith, e) in rw same (r.user q h)

side_or : (b c : Bool) → (b || c) ≡ true → b ≡ false → c ≡ true
side_or true c h e = cc
side_or false c h e = h

row_choice : (n m : ℕ) (name : List ℕ) (sides : ℕ) (os : List Origin) (cs : List Choice) → m ≡ n + sides → 2 ≤ sides
    → sides ≤ 8 → Row m os cs →
    Row n (sides_below name sides sides ++ os) (record { first = n; sides = sides } ∷ cs)
row_choice n m name sides os cs e low high r = record {
  later = (omega arith, later_more n m cs (omega (arith, e)) r.later);
  in_order = (later_than cs r.later, r.in_order);
  of_sides = ((low, high), r.of_sides);
  below = below;
  user = user;
}
  where
    own : Choice
    own = record { first = n; sides = sides }

    len : length (sides_below name sides sides ++ os) ≡ sides + length os
    len = length-append (sides_below name sides sides) os ∙ ap (λ k. k + length os) (length-sides name sides sides)

    later_than : (cs : List Choice) → Later m cs → AllByRecursion (λ later. n + sides ≤ later.first) cs
    later_than [] h = tt
    later_than (c ∷ cs) h = (omega (arith, e, h.0), later_than cs h.1)

    below : (p : ℕ) → is_hypothetical (own ∷ cs) p ≡ true → p < n + length (sides_below name sides sides ++ os)
    below p h = elim (cases_lt p m) [
      | inl low ↦ omega (arith, low, e, len)
      | inr high ↦ (
          let apart : is_side_of own p ≡ false = grind (arith, nat_tests) in
          omega (arith, e, len, r.below p (side_or (is_side_of own p) (is_hypothetical cs p) h apart)))
    ]

    not_user : (q : ℕ) → q < sides → is_user_at (sides_below name sides sides ++ os) q ≡ false
    not_user q l =
        is_user_at-at (sides_below name sides sides ++ os) q
        ∙ ap (λ o. option_map_or is_user o false)
        (slice_get-front (sides_below name sides sides) os q (omega (arith, l, length-sides name sides sides))
        ∙ slice_get-sides name sides sides q l)

    user_after : (q i : ℕ) → q ≡ sides + i → is_user_at (sides_below name sides sides ++ os) q ≡ is_user_at os i
    user_after q i h =
        is_user_at-at (sides_below name sides sides ++ os) q
        ∙ ap (λ o. option_map_or is_user o false)
        (slice_get-skip (sides_below name sides sides) os i q (omega (arith, h, length-sides name sides sides)))
        ∙ sym (is_user_at-at os i)

    user : (q : ℕ) → is_user_at (sides_below name sides sides ++ os) q ≡ true
        → is_hypothetical (own ∷ cs) (n + q) ≡ false
    user q h = elim (cases_lt q sides) [
      | inl l ↦ cc (not_user q l, h)
      | inr g ↦ (
          let split : q ≡ sides + (q - sides) = omega (arith, g) in
          let apart : is_side_of own (n + q) ≡ false = grind (arith, nat_tests) in
          let same : n + q ≡ m + (q - sides) = omega (arith, g, e) in
          or_false (is_side_of own (n + q)) (is_hypothetical cs (n + q)) apart
          (ap (λ k. is_hypothetical cs k) same ∙ r.user (q - sides) (sym (user_after q (q - sides) split) ∙ h)))
    ]

-- the choices that follow a choice
after_choice : (n : ℕ) (name : List ℕ) (sides : ℕ) (os : List Origin) → 2 ≤ sides
    → choices_from n (sides_below name sides sides ++ os) ≡ record { first = n; sides = sides } ∷ choices_from
    (n + sides) os
after_choice n name zero os l = absurd (omega (arith, l))
after_choice n name (suc k) os l =
    choices_from-append n (sides_below name (suc k) (suc k)) os (n + suc k)
    (omega (arith, length-sides name (suc k) (suc k)))
    ∙ ap (λ cs. cs ++ choices_from (n + suc k) os) (choices_from-sides n name (suc k) k)

row : {A : Type 0} (n : ℕ) (es : List (String A × Named)) → AreNumberedFrom n es
    → Row n (origins_of es) (choices_from n (origins_of es))
row n [] h = record { later = tt; in_order = tt; of_sides = tt; below = λ p e. cc; user = λ q e. cc }
row n (e ∷ es) h = by e.1.kind h.1 (row (n + width e.1.kind) es h.2)
  where
    same : n + 1 ≡ suc n
    same = omega arith

    next : Row (n + 1) (origins_of es) (choices_from (n + 1) (origins_of es))
        → Row (n + 1) (origins_of es) (choices_from (suc n) (origins_of es))
    next r = subst (λ m. Row (n + 1) (origins_of es) (choices_from m (origins_of es))) same r

    by : (k : Kind) → IsKind k → Row (n + width k) (origins_of es) (choices_from (n + width k) (origins_of es))
        → Row n (origins_of_kind (string_bytes e.0) k ++ origins_of es)
        (choices_from n (origins_of_kind (string_bytes e.0) k ++ origins_of es))
    by (kind.User believed) f r = row_user n (n + 1) (string_bytes e.0) believed (origins_of es)
        (choices_from (suc n) (origins_of es)) refl (next r)
    by (kind.Choice sides) f r = rw (after_choice n (string_bytes e.0) sides (origins_of es) f.0)
        (row_choice n (n + sides) (string_bytes e.0) sides (origins_of es) (choices_from (n + sides) (origins_of es))
        refl f.0 f.1 r)

-- the sides of a choice have numbers in a row, and the user's premises the others
pub numbered : {A : Type 0} (es : List (String A × Named)) → AreNumberedFrom 0 es → IsNumbered (origins_of es)
numbered es h =
    let r = row 0 es h in
    record {
      in_order = r.in_order;
      of_sides = r.of_sides;
      below = λ p e. omega (arith, r.below p e);
      users = λ p u. ap (λ k. is_hypothetical (choices_of (origins_of es)) k) (omega arith) ∙ r.user p u;
    }
