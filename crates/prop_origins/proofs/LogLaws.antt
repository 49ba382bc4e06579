-- What is kept beside the parts of a log.
use Rattle.std.proofs.Common.{◌≡◌, ◌∙◌, ◌+◌, ◌<◌, ◌==◌, ◌||◌, ◌++◌, ℕ, zero, suc, Bool, true, false, List, [], ◌∷◌}
use Rattle.std.proofs.Common.{refl, sym, ap, subst, arith, if◌then◌else◌, inl, inr, All, length, take, get_or}
use Rattle.std.proofs.Common.{slice_set}
use Rattle.std.proofs.Common.{slice_index_or, Result, Ok, Err, OnErr, get_or-set_same, get_or-set_other}
use Rattle.std.specs.List.{list_any}
use Rattle.std.proofs.lemmas.Bool.Decides.{eqb_tells}
use Rattle.std.proofs.lemmas.List.{length-set, take_more}
use Rattle.std.proofs.lemmas.List.Elements.{All-cons}
use Rattle.std.proofs.lemmas.List.Folds.{list_any-append}
use Rattle.prop_lattice.specs.declared.info.Info.{Info}
use Rattle.prop_lattice.specs.declared.info.Info.TheVariants.{Nothing}
use Rattle.prop_lattice.specs.Order.{merge_of}
use Rattle.prop_numbers.specs.Sets.{set_of, union, IsSame}
use Rattle.prop_origins.specs.Parts.{Part, made, rests_on}
use Rattle.prop_origins.specs.inner.Logs.{IsLogged, IsPartWithin, UnitesAt}

pub same_test : (n : ℕ) → (n == n) ≡ true
same_test n = elim (eqb_tells n n) [ inl e ↦ e.0 | inr e ↦ absurd (e.1 refl) ]

pub on_err : {T E X : Type 0} (r : Result T E) → X → OnErr r X
on_err (Ok a) x = tt
on_err (Err e) x = x

-- the value past the end, at the end
pub get_or-push_default : {X : Type 0} (xs : List X) (d : X) (i : ℕ) → get_or (xs ++ d ∷ []) i d ≡ get_or xs i d
get_or-push_default [] d zero = refl
get_or-push_default [] d (suc i) = refl
get_or-push_default (x ∷ xs) d zero = refl
get_or-push_default (x ∷ xs) d (suc i) = get_or-push_default xs d i

-- one more set of no premises
pub none_more : (sets new : List (List ℕ)) (x : List ℕ) → ((k : ℕ) → slice_index_or sets k [] ≡ []) → x ≡ []
    → new ≡ sets ++ x ∷ [] → (k : ℕ) → slice_index_or new k [] ≡ []
none_more sets new x h none is k =
    ap (λ (s : List (List ℕ)). slice_index_or s k []) is
    ∙ ap (λ (y : List ℕ). slice_index_or (sets ++ y ∷ []) k []) none ∙ get_or-push_default sets [] k ∙ h k

-- one of the sets, with more numbers
pub unites_at : (old : List (List ℕ)) (at : ℕ) (here now more : List ℕ) → at < length old
    → here ≡ slice_index_or old at [] → ((p : ℕ) → set_of now p ≡ (set_of here p || set_of more p))
    → UnitesAt old (slice_set old at now) at more
unites_at old at here now more l is unites = record {
  here = λ p. ap (λ (s : List ℕ). set_of s p) (get_or-set_same old at now [] l) ∙ unites p
      ∙ ap (λ (s : List ℕ). set_of s p || set_of more p) is;
  others = λ k ne. get_or-set_other old at k now [] ne;
}

-- one of the sets, written back as it was
pub same_at : (old : List (List ℕ)) (at : ℕ) (here now : List ℕ) → at < length old → here ≡ slice_index_or old at []
    → now ≡ here → (k : ℕ) → slice_index_or (slice_set old at now) k [] ≡ slice_index_or old k []
same_at old at here now l is back k = elim (eqb_tells k at) [
  | inl own ↦ subst (λ (i : ℕ). slice_index_or (slice_set old at now) i [] ≡ slice_index_or old i []) (sym own.1)
      (get_or-set_same old at now [] l ∙ back ∙ is)
  | inr other ↦ get_or-set_other old at k now [] other.1
]

-- no parts
pub logged_none : (known : List Info) (resting : List (List ℕ)) → length resting ≡ length known
    → ((k : ℕ) → slice_index_or known k Nothing ≡ Nothing) → ((k : ℕ) → slice_index_or resting k [] ≡ [])
    → IsLogged known resting []
logged_none known resting count unknown none = record {
  count = count;
  says = unknown;
  rests = λ c q. ap (λ (s : List ℕ). set_of s q) (none c);
  within = λ k d l. absurd (omega (arith, l));
}

-- sets that are the same at each place
pub logged_same : (known : List Info) (old new : List (List ℕ)) (parts : List Part) → length new ≡ length old
    → ((k : ℕ) → slice_index_or new k [] ≡ slice_index_or old k []) → IsLogged known old parts
    → IsLogged known new parts
logged_same known old new parts count same h = record {
  count = count ∙ h.count;
  says = h.says;
  rests = λ c q. ap (λ (s : List ℕ). set_of s q) (same c) ∙ h.rests c q;
  within = h.within;
}

-- one more part
pub logged_more : (known : List Info) (old new : List (List ℕ)) (parts : List Part) (p : Part) (v : Info)
    → length new ≡ length old → UnitesAt old new p.cell p.support → v ≡ merge_of (made parts p.cell) p.value
    → IsPartWithin (length known) p → IsLogged known old parts → IsLogged (slice_set known p.cell v) new (p ∷ parts)
logged_more known old new parts p v count unites is within h = record {
  count = count ∙ h.count ∙ sym (length-set known p.cell v);
  says = λ c. elim (eqb_tells p.cell c) [
    | inl own ↦ subst (λ (k : ℕ). slice_index_or (slice_set known p.cell v) k Nothing ≡ made (p ∷ parts) k) own.1
        (get_or-set_same known p.cell v Nothing within.cell ∙ is
        ∙ sym (ap (λ (b : Bool). if b then merge_of (made parts p.cell) p.value else made parts p.cell)
        (same_test p.cell)))
    | inr other ↦ get_or-set_other known p.cell c v Nothing (λ e. other.1 (sym e)) ∙ h.says c
        ∙ sym (ap (λ (b : Bool). if b then merge_of (made parts c) p.value else made parts c) other.0)
  ];
  rests = λ c q. elim (eqb_tells p.cell c) [
    | inl own ↦ subst (λ (k : ℕ). set_of (slice_index_or new k []) q ≡ rests_on (p ∷ parts) k q) own.1
        (unites.here q ∙ ap (λ (b : Bool). b || set_of p.support q) (h.rests p.cell q)
        ∙ sym (ap (λ (b : Bool). if b then rests_on parts p.cell q || set_of p.support q else rests_on parts p.cell q)
        (same_test p.cell)))
    | inr other ↦ ap (λ (s : List ℕ). set_of s q) (unites.others c (λ e. other.1 (sym e))) ∙ h.rests c q
        ∙ sym (ap (λ (b : Bool). if b then rests_on parts c q || set_of p.support q else rests_on parts c q) other.0)
  ];
  within = subst (λ (n : ℕ). All (IsPartWithin n) (p ∷ parts)) (sym (length-set known p.cell v))
      (All-cons (IsPartWithin (length known)) p parts within h.within);
}

-- ---- the premises of several cells

or_none : (b : Bool) → (b || false) ≡ b
or_none true = refl
or_none false = refl

pub support_more : (parts : List Part) (cells : List ℕ) (i : ℕ) (support here new : List ℕ) → i < length cells →
    IsSame (set_of support) (λ q. list_any (λ cell. rests_on parts cell q) (take i cells)) →
    IsSame (set_of here) (rests_on parts (get_or cells i 0))
    → IsSame (set_of new) (union (set_of support) (set_of here))
    → IsSame (set_of new) (λ q. list_any (λ cell. rests_on parts cell q) (take (i + 1) cells))
support_more parts cells i support here new l so_far is unites q =
    let f : ℕ → Bool = λ cell. rests_on parts cell q in
    unites q ∙ ap (λ (b : Bool). b || set_of here q) (so_far q)
    ∙ ap (λ (b : Bool). list_any f (take i cells) || b) (is q ∙ sym (or_none (f (get_or cells i 0))))
    ∙ sym (list_any-append f (take i cells) (get_or cells i 0 ∷ []))
    ∙ sym (ap (λ (xs : List ℕ). list_any f xs) (take_more cells i 0 l))

-- ---- marks

or_true : (b : Bool) → (b || true) ≡ true
or_true true = refl
or_true false = refl

or_assoc : (a b c : Bool) → ((a || b) || c) ≡ (a || (b || c))
or_assoc true b c = refl
or_assoc false b c = refl

-- one more cell is marked
pub marks_more : (start marks : List Bool) (cells : List ℕ) (i : ℕ) → i < length cells → get_or cells i 0 < length marks
    → ((k : ℕ) → slice_index_or marks k false
    ≡ (slice_index_or start k false || list_any (λ cell. cell == k) (take i cells))) → (k : ℕ) →
    slice_index_or (slice_set marks (get_or cells i 0) true) k false
    ≡ (slice_index_or start k false || list_any (λ cell. cell == k) (take (i + 1) cells))
marks_more start marks cells i l within so_far k =
    let f : ℕ → Bool = λ cell. cell == k in
    let c = get_or cells i 0 in
    let before = slice_index_or start k false in
    let all : (before || list_any f (take (i + 1) cells)) ≡ ((before || list_any f (take i cells)) || f c) =
    ap (λ (xs : List ℕ). before || list_any f xs) (take_more cells i 0 l)
    ∙ ap (λ (b : Bool). before || b) (list_any-append f (take i cells) (c ∷ [])
    ∙ ap (λ (b : Bool). list_any f (take i cells) || b) (or_none (f c)))
    ∙ sym (or_assoc before (list_any f (take i cells)) (f c)) in
    elim (eqb_tells c k) [
      | inl own ↦ subst (λ (n : ℕ). slice_index_or (slice_set marks c true) n false ≡ true) own.1
          (get_or-set_same marks c true false within)
          ∙ sym (all ∙ ap (λ (b : Bool). (before || list_any f (take i cells)) || b) own.0
          ∙ or_true (before || list_any f (take i cells)))
      | inr other ↦ get_or-set_other marks c k true false (λ e. other.1 (sym e)) ∙ so_far k
          ∙ sym (all ∙ ap (λ (b : Bool). (before || list_any f (take i cells)) || b) other.0
          ∙ or_none (before || list_any f (take i cells)))
    ]
