-- What a look-up of a name in the table tells of premises and choices.
use Rattle.std.proofs.Common.{◌≡◌, ℕ, zero, suc, ◌+◌, ◌≤◌, Bool, true, false, cond, ◌||◌, List, [], ◌∷◌, ◌++◌, length}
use Rattle.std.proofs.Common.{refl, sym, ap, ◌∙◌, arith, Option, Some, None, String, string_bytes, bytes_eq, is_some}
use Rattle.std.specs.List.{AllByRecursion, IsDistinct, list_any, position_from}
use Rattle.std.specs.Map.{keys_of, lookup}
use Rattle.std.specs.String.{string_eq}
use Rattle.std.proofs.lemmas.Slice.Eq.{bytes_eq-Decides}
use Rattle.std.proofs.lemmas.Iterator.Adapters.{position_from-zero}
use Rattle.std.proofs.lemmas.List.Folds.{list_any-append}
use Rattle.prop_premises.specs.declared.named.Named.{Named}
use Rattle.prop_premises.specs.declared.named.Kind.{Kind}
use Rattle.prop_premises.specs.declared.named.Kind.TheVariants as kind
use Rattle.prop_premises.specs.Origins.{Origin, Side, premise_number}
use Rattle.prop_premises.specs.inner.Origins.{sides_below, is_user_called, is_side_called}
use Rattle.prop_premises.specs.Origins.{is_choice}
use Rattle.prop_premises.specs.inner.Named.{width, origins_of_kind, origins_of, IsKind, AreNumberedFrom, number_of}
use Rattle.prop_premises.specs.inner.Named.{is_choices, user_number, is_choice_kind}
use Rattle.prop_premises.proofs.ChoiceLemmas.{length-sides, sides_more}

skip_one : (b : Bool) (n : ℕ) (rest : Bool) (here there : Option ℕ) → (b || rest) ≡ false
    → (rest ≡ false → here ≡ there) → cond b (Some n) here ≡ there
skip_one true n rest here there h k = cc
skip_one false n rest here there h k = k h

position_from-skip : (t : Origin → Bool) (n : ℕ) (xs ys : List Origin) (m : ℕ) → m ≡ n + length xs
    → list_any t xs ≡ false → position_from t n (xs ++ ys) ≡ position_from t m ys
position_from-skip t n [] ys m e h = ap (λ k. position_from t k ys) (omega (arith, e))
position_from-skip t n (x ∷ xs) ys m e h =
    skip_one (t x) n (list_any t xs) (position_from t (n + 1) (xs ++ ys)) (position_from t m ys) h
    (λ k. position_from-skip t (n + 1) xs ys m (omega (arith, e)) k)

pub found_none : (t : Origin → Bool) (n : ℕ) (os : List Origin) → list_any t os ≡ false → position_from t n os ≡ None
found_none t n [] h = refl
found_none t n (o ∷ os) h = skip_one (t o) n (list_any t os) (position_from t (n + 1) os) None h
    (found_none t (n + 1) os)

pub no_user : (name other : List ℕ) (sides k : ℕ) → list_any (is_user_called name) (sides_below other sides k) ≡ false
no_user name other sides zero = refl
no_user name other sides (suc k) =
    ap (list_any (is_user_called name)) (sides_more other sides k)
    ∙ list_any-append (is_user_called name) (sides_below other sides k) (Side other (suc k) sides ∷ [])
    ∙ ap (λ b. b || false) (no_user name other sides k)

pub all_called : (name other : List ℕ) (sides k : ℕ) → 1 ≤ k
    → list_any (is_side_called name) (sides_below other sides k) ≡ bytes_eq name other
all_called name other sides zero l = absurd (omega (arith, l))
all_called name other sides (suc zero) l = by (bytes_eq name other)
  where
    by : (b : Bool) → (b || false) ≡ b
    by true = refl
    by false = refl
all_called name other sides (suc (suc k)) l =
    ap (list_any (is_side_called name)) (sides_more other sides (suc k))
    ∙ list_any-append (is_side_called name) (sides_below other sides (suc k)) (Side other (suc (suc k)) sides ∷ [])
    ∙ ap (λ b. b || (bytes_eq name other || false)) (all_called name other sides (suc k) (omega arith))
    ∙ by (bytes_eq name other)
  where
    by : (b : Bool) → (b || (b || false)) ≡ b
    by true = refl
    by false = refl

abbrev Missing : {A : Type 0} → List ℕ → List (String A × Named) → Type 0
Missing name es = AllByRecursion (λ k. bytes_eq name (string_bytes k) ≡ false) (keys_of es)

abbrev pub names_it : {A : Type 0} → List ℕ → String A → Bool
names_it name k = bytes_eq name (string_bytes k)

user_kind : (name other : List ℕ) (k : Kind) → bytes_eq name other ≡ false
    → list_any (is_user_called name) (origins_of_kind other k) ≡ false
user_kind name other (kind.User believed) h = ap (λ b. b || false) h
user_kind name other (kind.Choice sides) h = no_user name other sides sides

side_kind : (name other : List ℕ) (k : Kind) → IsKind k → bytes_eq name other ≡ false
    → list_any (is_side_called name) (origins_of_kind other k) ≡ false
side_kind name other (kind.User believed) k h = refl
side_kind name other (kind.Choice sides) k h = all_called name other sides sides (omega (arith, k.0)) ∙ h

same_name : (name other : List ℕ) → bytes_eq name other ≡ true → name ≡ other
same_name name other h = (bytes_eq-Decides name other).0 h

length_of : (other : List ℕ) (n : ℕ) (k : Kind) → n + width k ≡ n + length (origins_of_kind other k)
length_of other n (kind.User believed) = refl
length_of other n (kind.Choice sides) = omega (arith, length-sides other sides sides)

choose_here : {X Y : Type 0} (f : Option X → Y) (b : Bool) (x : X) (other : Option X) (y : Y)
    → (b ≡ true → y ≡ f (Some x)) → (b ≡ false → y ≡ f other) → y ≡ f (cond b (Some x) other)
choose_here f true x other y h k = h refl
choose_here f false x other y h k = k refl

no_premise : {A : Type 0} (name : List ℕ) (es : List (String A × Named)) → Missing name es
    → list_any (is_user_called name) (origins_of es) ≡ false
no_premise name [] h = refl
no_premise name (e ∷ es) h =
    list_any-append (is_user_called name) (origins_of_kind (string_bytes e.0) e.1.kind) (origins_of es)
    ∙ ap (λ b. b || list_any (is_user_called name) (origins_of es)) (user_kind name (string_bytes e.0) e.1.kind h.0)
    ∙ no_premise name es h.1

no_choice : {A : Type 0} (name : List ℕ) (n : ℕ) (es : List (String A × Named)) → AreNumberedFrom n es → Missing name es
    → list_any (is_side_called name) (origins_of es) ≡ false
no_choice name n [] k h = refl
no_choice name n (e ∷ es) k h =
    list_any-append (is_side_called name) (origins_of_kind (string_bytes e.0) e.1.kind) (origins_of es)
    ∙ ap (λ b. b || list_any (is_side_called name) (origins_of es)) (side_kind name (string_bytes e.0) e.1.kind k.1 h.0)
    ∙ no_choice name (n + width e.1.kind) es k.2 h.1

missing_from : {A : Type 0} (name : List ℕ) (other : String A) (es : List (String A × Named))
    → name ≡ string_bytes other → AllByRecursion (λ k. string_eq other k ≡ false) (keys_of es) → Missing name es
missing_from name other [] e h = tt
missing_from name other (x ∷ es) e h =
    (ap (λ l. bytes_eq l (string_bytes x.0)) e ∙ h.0, missing_from name other es e h.1)

-- ---- where the first name is the one that is looked for

number_here : (name other : List ℕ) (n : ℕ) (k : Kind) (os : List Origin) → bytes_eq name other ≡ true
    → list_any (is_user_called name) os ≡ false →
    position_from (is_user_called name) n (origins_of_kind other k ++ os) ≡ user_number n k
number_here name other n (kind.User believed) os same missing =
    ap (λ b. cond b (Some n) (position_from (is_user_called name) (n + 1) os)) same
number_here name other n (kind.Choice sides) os same missing =
    position_from-skip (is_user_called name) n (sides_below other sides sides) os
    (n + length (sides_below other sides sides)) refl (no_user name other sides sides)
    ∙ found_none (is_user_called name) (n + length (sides_below other sides sides)) os missing

or_none : (b c : Bool) → b ≡ true → (b || c) ≡ true
or_none true c h = refl
or_none false c h = cc

choice_here : (name other : List ℕ) (k : Kind) (os : List Origin) → IsKind k → bytes_eq name other ≡ true
    → list_any (is_side_called name) os ≡ false →
    list_any (is_side_called name) (origins_of_kind other k ++ os) ≡ is_choice_kind k
choice_here name other (kind.User believed) os f same missing = missing
choice_here name other (kind.Choice sides) os f same missing =
    list_any-append (is_side_called name) (sides_below other sides sides) os
    ∙ or_none (list_any (is_side_called name) (sides_below other sides sides)) (list_any (is_side_called name) os)
    (all_called name other sides sides (omega (arith, f.0)) ∙ same)

-- ---- all names

number_from : {A : Type 0} (name : List ℕ) (n : ℕ) (es : List (String A × Named)) → AreNumberedFrom n es
    → IsDistinct string_eq (keys_of es) →
    position_from (is_user_called name) n (origins_of es) ≡ number_of (lookup (names_it name) es)
unfolding IsDistinct
number_from name n [] k d = refl
number_from name n (e ∷ es) k d =
    let nm = string_bytes e.0 in
    choose_here number_of (names_it name e.0) e.1 (lookup (names_it name) es)
    (position_from (is_user_called name) n (origins_of (e ∷ es)))
    (λ h. number_here name nm n e.1.kind (origins_of es) h
    (no_premise name es (missing_from name e.0 es (same_name name nm h) d.0))
    ∙ ap (λ m. user_number m e.1.kind) (sym k.0))
    (λ h. position_from-skip (is_user_called name) n (origins_of_kind nm e.1.kind) (origins_of es) (n + width e.1.kind)
    (length_of nm n e.1.kind) (user_kind name nm e.1.kind h) ∙ number_from name (n + width e.1.kind) es k.2 d.1)

choice_from : {A : Type 0} (name : List ℕ) (n : ℕ) (es : List (String A × Named)) → AreNumberedFrom n es
    → IsDistinct string_eq (keys_of es) →
    list_any (is_side_called name) (origins_of es) ≡ is_choices (lookup (names_it name) es)
unfolding IsDistinct
choice_from name n [] k d = refl
choice_from name n (e ∷ es) k d =
    let nm = string_bytes e.0 in
    choose_here is_choices (names_it name e.0) e.1 (lookup (names_it name) es)
    (list_any (is_side_called name) (origins_of (e ∷ es)))
    (λ h. choice_here name nm e.1.kind (origins_of es) k.1 h
    (no_choice name (n + width e.1.kind) es k.2 (missing_from name e.0 es (same_name name nm h) d.0)))
    (λ h. list_any-append (is_side_called name) (origins_of_kind nm e.1.kind) (origins_of es)
    ∙ ap (λ b. b || list_any (is_side_called name) (origins_of es)) (side_kind name nm e.1.kind k.1 h)
    ∙ choice_from name (n + width e.1.kind) es k.2 d.1)

-- a look-up tells the number of the premise with the name
pub premise_number-lookup : {A : Type 0} (name : List ℕ) (es : List (String A × Named)) → AreNumberedFrom 0 es
    → IsDistinct string_eq (keys_of es) → premise_number (origins_of es) name ≡ number_of (lookup (names_it name) es)
premise_number-lookup name es k d = position_from-zero (is_user_called name) (origins_of es) ∙ number_from name 0 es k d

-- and whether a choice has the name
pub is_choice-lookup : {A : Type 0} (name : List ℕ) (es : List (String A × Named)) → AreNumberedFrom 0 es
    → IsDistinct string_eq (keys_of es) → is_choice (origins_of es) name ≡ is_choices (lookup (names_it name) es)
is_choice-lookup name es k d = choice_from name 0 es k d

-- a name that is not in the table stands for nothing
pub number_of-none : (o : Option Named) → false ≡ is_some o → None ≡ number_of o
number_of-none None h = refl
number_of-none (Some named) h = cc

pub is_choices-none : (o : Option Named) → false ≡ is_some o → false ≡ is_choices o
is_choices-none None h = refl
is_choices-none (Some named) h = cc

-- what stands for neither a premise nor a choice is not in the table
pub stands_for_nothing : (o : Option Named) → number_of o ≡ None → is_choices o ≡ false → o ≡ None
stands_for_nothing None h k = refl
stands_for_nothing (Some named) h k = by named.kind refl
  where
    by : (kd : Kind) → named.kind ≡ kd → Some named ≡ None
    by (kind.User believed) e = let f : Some named.first ≡ None = sym (ap (user_number named.first) e) ∙ h in cc
    by (kind.Choice sides) e = let f : true ≡ false = sym (ap is_choice_kind e) ∙ k in cc
