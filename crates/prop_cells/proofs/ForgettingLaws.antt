-- What stays where the statements under a premise go.
use Rattle.std.proofs.Common.{◌≡◌, ◌∙◌, ◌==◌, ℕ, Bool, true, false, not, ◌&&◌, IsTrue, All, Contains, List, [], ◌∷◌}
use Rattle.std.proofs.Common.{Option, Some, None, map, filter, get_or, slice_index_or, refl, sym, ap, ◌⊎◌, inl, inr}
use Rattle.std.proofs.Common.{suc, arith}
use Rattle.std.proofs.lemmas.Bool.Decides.{eqb_tells}
use Rattle.std.proofs.lemmas.List.{length-map}
use Rattle.std.proofs.lemmas.List.Elements.{All-contains, All-cons, All-filter, All-get_or, All-weaker, filter_passes}
use Rattle.std.proofs.lemmas.List.Elements.{All-contains_itself}
use Rattle.prop_lattice.specs.declared.info.Info.{Info}
use Rattle.prop_lattice.specs.declared.info.Info.TheVariants.{Nothing}
use Rattle.prop_lattice.specs.Order.{merge_of}
use Rattle.prop_lattice.specs.laws.OrderLaws.{info_laws}
use Rattle.prop_lattice.specs.Rank.{IsOf}
use Rattle.prop_numbers.specs.Sets.{set_of, without, IsPart}
use Rattle.prop_tms.proofs.BeliefUses.{belief_of-without, belief_of-more}
use Rattle.prop_procedures.specs.Stored.{Stored}
use Rattle.prop_procedures.specs.Fitting.{kind_at}
use Rattle.prop_procedures.specs.declared.shape.Kinded.{Kinded}
use Rattle.prop_contents.specs.Contents.{Entry, beliefs, content_of}
use Rattle.prop_contents.specs.Changes.{not_on}
use Rattle.prop_contents.proofs.DroppingLaws.{content_forgotten}
use Rattle.prop_cells.specs.declared.instance.Statement.{Statement}
use Rattle.prop_cells.specs.Problems.{Problem, Assignment, IsSolution, Entails}
use Rattle.prop_cells.specs.inner.Problems.{Premises, Satisfies, Meets}
use Rattle.prop_cells.specs.Problems.{is_member}
use Rattle.prop_cells.specs.inner.Problems.{IsContradictory}
use Rattle.prop_cells.specs.Reach.{Reaches}
use Rattle.prop_cells.specs.inner.Reach.{IsRelatedAt}
use Rattle.prop_cells.specs.Reach.Reaches.{stated, passed}
use Rattle.prop_cells.specs.Data.{Data, IsStated, IsWellMade, IsFounded, IsKept, problem_of}
use Rattle.prop_cells.specs.inner.Data.{IsStored}
use Rattle.prop_cells.specs.Forgetting.{Forgets, forgotten, not_under}
use Rattle.prop_cells.specs.inner.Forgetting.{is_under}

-- ---- a problem

-- a premise that isn't in the set bears on no solution over it
solution_forgets : (old new : Problem) (p : ℕ) (s : Premises) (a : Assignment) → Forgets old new p → s p ≡ false
    → IsSolution new s a → IsSolution old s a
solution_forgets old new p s a less out sol = record {
  kinds = λ cell k e. sol.kinds cell k (less.cells cell k e);
  statements = λ k d l. at (get_or old.statements k d) (less.statements k d l);
  instances = λ k d l. All-contains (Meets a) new.constraints (get_or old.constraints k d) sol.instances
      (less.constraints k d l);
}
  where
    not_in : (q : Option ℕ) → q ≡ Some p → IsTrue (is_member s q) → ⊥
    not_in q e h = apart (belongs_same q e h) out
      where
        apart : {b : Bool} → b ≡ true → b ≡ false → ⊥
        apart f g = cc

        belongs_same : (q : Option ℕ) → q ≡ Some p → IsTrue (is_member s q) → s p ≡ true
        belongs_same q f h = rw f at h

    at : (x : Statement) → (x.premise ≡ Some p) ⊎ Contains new.statements x → Satisfies s a x
    at x (inl e) h = absurd (not_in x.premise e h)
    at x (inr c) h = All-contains (Satisfies s a) new.statements x sol.statements c h

pub entails_forgets : (old new : Problem) (p : ℕ) (s : Premises) (cell : ℕ) (v : Info) → Forgets old new p → s p ≡ false
    → Entails old s cell v → Entails new s cell v
entails_forgets old new p s cell v less out e =
    record { below = λ a sol. e.below a (solution_forgets old new p s a less out sol) }

pub contradictory_forgets : (old new : Problem) (p : ℕ) (s : Premises) → Forgets old new p → s p ≡ false
    → IsContradictory old s → IsContradictory new s
contradictory_forgets old new p s less out none some =
    none (record {
      solution = some.solution;
      solves = solution_forgets old new p s some.solution less out some.solves;
      free = some.free;
    })

-- other premises still reach what they reached
pub reaches_forgets : (old new : Problem) (p q : ℕ) (cell : ℕ) → Forgets old new p → (q ≡ p → ⊥) → Reaches old q cell
    → Reaches new q cell
reaches_forgets old new p q _ less other (stated x is_in e) =
    stated x (kept (All-contains (λ y. (y.premise ≡ Some p) ⊎ Contains new.statements y) old.statements x
    less.statements is_in)) e
  where
    same : Some q ≡ Some p → q ≡ p
    same f = cc

    meet : x.premise ≡ Some p → Some q ≡ Some p
    meet f = sym e ∙ f

    kept : (x.premise ≡ Some p) ⊎ Contains new.statements x → Contains new.statements x
    kept (inl f) = absurd (other (same (meet f)))
    kept (inr c) = c
reaches_forgets old new p q _ less other (passed c input is_in reads r) =
    passed c input (All-contains (Contains new.constraints) old.constraints c less.constraints is_in) reads
    (reaches_forgets old new p q input less other r)

-- a set that lacks p is still related where it was
pub related_forgets : (old new : Problem) (p cell : ℕ) (s : Premises) → Forgets old new p → s p ≡ false
    → IsRelatedAt old cell s → IsRelatedAt new cell s
related_forgets old new p cell s less out r q h = reaches_forgets old new p q cell less (λ e. other (ap s e)) (r q h)
  where
    other : s q ≡ s p → ⊥
    other e = cc (e, h, out)

-- ---- the data

contains_here : {X : Type 0} (x : X) (xs : List X) → Contains (x ∷ xs) x
contains_here x xs = (0, omega arith, refl)

contains_there : {X : Type 0} (x y : X) (xs : List X) → Contains xs y → Contains (x ∷ xs) y
contains_there x y xs h = (suc h.0, omega (arith, h.1), h.2)

-- each statement stands under p, or is left
left_or_under : (p : ℕ) (statements : List Statement)
    → All (λ x. (x.premise ≡ Some p) ⊎ Contains (not_under p statements) x) statements
left_or_under p [] = λ k d l. absurd (omega (arith, l))
left_or_under p (x ∷ xs) = by (left_or_under p xs) (is_under p x.premise) refl
  where
    under : (q : Option ℕ) → is_under p q ≡ true → q ≡ Some p
    under None e = cc
    under (Some q) e = elim (eqb_tells q p) [ inl at ↦ ap Some at.1 | inr off ↦ cc (off.0, e) ]

    by : All (λ y. (y.premise ≡ Some p) ⊎ Contains (not_under p xs) y) xs → (b : Bool) → is_under p x.premise ≡ b
        → All (λ y. (y.premise ≡ Some p) ⊎ Contains (not_under p (x ∷ xs)) y) (x ∷ xs)
    by rest true e = All-cons (λ y. (y.premise ≡ Some p) ⊎ Contains (not_under p (x ∷ xs)) y) x xs
        (inl (under x.premise e)) (rw e rest)
    by rest false e =
        All-cons (λ y. (y.premise ≡ Some p) ⊎ Contains (not_under p (x ∷ xs)) y) x xs
        (inr (rw e (contains_here x (not_under p xs))))
        (rw e (All-weaker (λ y. (y.premise ≡ Some p) ⊎ Contains (not_under p xs) y)
        (λ y. (y.premise ≡ Some p) ⊎ Contains (x ∷ not_under p xs) y)
        (λ y h. elim h [ inl at ↦ inl at | inr c ↦ inr (contains_there x y (not_under p xs) c) ]) xs rest))

pub forgets_data : (library : List Stored) (p : ℕ) (d : Data)
    → Forgets (problem_of library d) (problem_of library (forgotten p d)) p
forgets_data library p d = record {
  cells = λ cell k e. e;
  statements = left_or_under p d.statements;
  constraints = All-contains_itself _;
}

-- who doesn't believe p believes what they did
pub beliefs_forgotten : (p : ℕ) (s : Premises) (contents : List (List Entry)) (cell : ℕ) → s p ≡ false
    → beliefs s (map (λ entries. not_on p entries) contents) cell ≡ beliefs s contents cell
beliefs_forgotten p s contents cell lacks =
    rw (content_forgotten p contents cell) (belief_of-without Nothing merge_of p s lacks (content_of contents cell))

-- ---- what the data keeps

-- what is left passed the test, and keeps what it kept
left_keeps : {X : Type 0} (t : X → Bool) (P Q : X → Type 0) → ((x : X) → P x → t x ≡ true → Q x) → (xs : List X)
    → All P xs → All Q (filter t xs)
left_keeps t P Q h xs all k d l =
    h (get_or (filter t xs) k d) (All-get_or P (filter t xs) k d l (All-filter t P xs all))
    (All-get_or (λ x. t x ≡ true) (filter t xs) k d l (filter_passes t xs))

not_true : (b : Bool) → not b ≡ true → b ≡ false
not_true true h = cc
not_true false h = refl

module _ (p : ℕ) where
  lacks : (s : Premises) → without s p p ≡ false
  lacks s = elim (eqb_tells p p) [ inl e ↦ rw e.0 (by (s p)) | inr e ↦ absurd (e.1 refl) ]
    where
      by : (b : Bool) → (b && false) ≡ false
      by true = refl
      by false = refl

  part : (s : Premises) → IsPart (without s p) s
  part s q h = by (s q) (not (p == q)) h
    where
      by : (b c : Bool) → (b && c) ≡ true → b ≡ true
      by true c h = refl
      by false c h = cc

  still_member : (s : Premises) (q : Option ℕ) → is_under p q ≡ false → IsTrue (is_member s q)
      → IsTrue (is_member (without s p) q)
  still_member s None off h = h
  still_member s (Some q) off h = elim (eqb_tells p q) [ inl e ↦ absurd (other (sym e.1)) | inr e ↦ rw (h, e.0) refl ]
    where
      other : q ≡ p → ⊥
      other e = elim (eqb_tells q p) [ inl f ↦ cc (f.0, off) | inr f ↦ f.1 e ]

  still_stated : (kinds : List Kinded) (contents : List (List Entry)) (x : Statement) → IsStated kinds contents x
      → not (is_under p x.premise) ≡ true → IsStated kinds (map (λ entries. not_on p entries) contents) x
  still_stated kinds contents x h t = record {
    within = h.within;
    of_kind = h.of_kind;
    below = λ s member.
        info_laws.transitive x.info (beliefs (without s p) contents x.cell)
        (beliefs s (map (λ entries. not_on p entries) contents) x.cell)
        (h.below (without s p) (still_member s x.premise (not_true (is_under p x.premise) t) member))
        (rw (← beliefs_forgotten p (without s p) contents x.cell (lacks s))
        (belief_of-more info_laws (content_of (map (λ entries. not_on p entries) contents) x.cell) (without s p) s
        (part s)));
  }

  still_founded : (library : List Stored) (d : Data) (cell : ℕ) (e : Entry) → IsFounded (problem_of library d) cell e
      → not (set_of e.support p) ≡ true → IsFounded (problem_of library (forgotten p d)) cell e
  still_founded library d cell e h t =
      let out = not_true (set_of e.support p) t in
      record {
        entailed = entails_forgets _ _ p (set_of e.support) cell e.value (forgets_data library p d) out h.entailed;
        related = related_forgets _ _ p cell (set_of e.support) (forgets_data library p d) out h.related;
      }

  pub made_forgotten : (d : Data) → IsWellMade d → IsWellMade (forgotten p d)
  made_forgotten d h = record {
    contents_length = length-map d.contents (λ entries. not_on p entries) ∙ h.contents_length;
    within = h.within;
    of_kinds = λ cell. rw (content_forgotten p d.contents cell)
        (All-filter (λ e. not (set_of e.support p))
        (λ e. IsOf (kind_at d.kinds cell).kind (kind_at d.kinds cell).size e.value) (content_of d.contents cell)
        (h.of_kinds cell));
    stated = left_keeps (λ x. not (is_under p x.premise)) (IsStated d.kinds d.contents)
        (IsStated d.kinds (map (λ entries. not_on p entries) d.contents))
        (still_stated d.kinds d.contents) d.statements h.stated;
  }

  pub kept_forgotten : (library : List Stored) (d : Data) → IsKept library d → IsKept library (forgotten p d)
  kept_forgotten library d h = record {
    made = made_forgotten d h.made;
    fits = h.fits;
    founded = λ cell. rw (content_forgotten p d.contents cell)
        (left_keeps (λ e. not (set_of e.support p)) (IsFounded (problem_of library d) cell)
        (IsFounded (problem_of library (forgotten p d)) cell) (still_founded library d cell)
        (content_of d.contents cell) (h.founded cell));
  }

  pub stored_forgotten : (d : Data) (reading writing told : List (List ℕ)) → IsStored d reading writing told
      → IsStored (forgotten p d) reading writing told
  stored_forgotten d reading writing told h = record {
    made = made_forgotten d h.made;
    readers = h.readers;
    writers = h.writers;
    told = record {
      count = h.told.count;
      each = All-filter (λ x. not (is_under p x.premise))
          (λ x. (q : ℕ) → x.premise ≡ Some q → IsTrue (set_of (slice_index_or told x.cell []) q)) d.statements
          h.told.each;
    };
  }
