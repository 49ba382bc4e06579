-- How a nogood stays known.
use Rattle.std.specs.Prelude.{◌≡◌, ℕ, List, [], Option, Bool, true, false, Result, Ok, Err, OnErr}
use Rattle.std.specs.Prelude.{◌<◌, IfSome, Some, length, slice_get}
use Rattle.std.specs.Bool.{OnFalse, OnTrue}
use Rattle.std.proofs.Common.{ap, arith, inl, inr, refl, subst, sym}
use Rattle.std.proofs.lemmas.Option.{get_or_from_slice_get, slice_get_cases, slice_get_within}
use Rattle.prop_numbers.specs.Sets.{IsPart, IsSame, set_of, union}
use Rattle.prop_premises.specs.declared.choice.Choice.{Choice}
use Rattle.prop_procedures.specs.Stored.{Stored}
use Rattle.prop_cells.specs.Data.{Data}
use Rattle.prop_cells.specs.Points.{Attached}
use Rattle.prop_plans.specs.Held.{attached_of}
use Rattle.prop_facts.specs.declared.fact.Literal.{Literal}
use Rattle.prop_refuting.specs.Nogoods.{IsNeverMet, Narrows, Nogood, Replaces, Resolves}
use Rattle.prop_refuting.proofs.MeetLemmas.{part_same}
use Rattle.prop_deriving.proofs.PremiseLemmas.{both_within}
use Rattle.prop_learned.specs.Stores.{IsKeptAt, IsKeptIn}
use Rattle.prop_deriving.specs.Known.{AlwaysFollows, AlwaysStays, Follows, IsKnown, Stays}
use Rattle.prop_deriving.specs.laws.Keeping.{known_narrowed, known_never, known_resolved}

-- what stands at a number within a list
pub some_at : {X : Type 0} (xs : List X) (i : ℕ) → i < length xs → (x : X) × (slice_get xs i ≡ Some x)
some_at {X} xs i h = elim (slice_get_cases xs i).1 [
  | inl a ↦ (a.0, a.2)
  | inr b ↦ absurd (omega arith)
]

-- the literal at a number within a nogood that is the same
pub literal_at : (old same : Nogood) (at : ℕ) → same ≡ old → at < length old.literals
    → (x : Literal) × (slice_get same.literals at ≡ Some x)
literal_at old same at e h = let P : Nogood → Type 0 = λ g. at < length g.literals in
    some_at same.literals at (subst P (sym e) h)

module _ (library : List Stored) (n : Attached) (choices : List Choice) (root : List ℕ)
    (slots : List (Option Nogood)) where
  -- a nogood that is the same stays known
  pub stays_same : (old new : Nogood) → new ≡ old → Stays library n choices root slots old new
  stays_same old new e = record {
    known = λ s excuses part slots_known k.
        let P : Nogood → Type 0 = IsKnown library n choices s excuses in subst P (sym e) k;
  }

  -- from step to step
  pub stays_along : (old mid new : Nogood) → Stays library n choices root slots old mid
      → Stays library n choices root slots mid new → Stays library n choices root slots old new
  stays_along old mid new a b = record {
    known = λ s excuses part slots_known k.
        b.known s excuses part slots_known (a.known s excuses part slots_known k);
  }

  -- under the same premises
  pub stays_narrowed : (old new : Nogood) → Narrows library n choices old new → new.premises ≡ old.premises
      → Stays library n choices root slots old new
  stays_narrowed old new h e = record {
    known = λ s excuses part slots_known k. known_narrowed library n choices s excuses old new h
        (λ p q. k.within p (part_same old.premises new.premises (sym e) p q)) k;
  }

  -- under premises of the root besides
  pub stays_under : (old new : Nogood) (came : List ℕ) → Narrows library n choices old new
      → IsPart (set_of came) (set_of root)
      → IsSame (set_of new.premises) (union (set_of old.premises) (set_of came))
      → Stays library n choices root slots old new
  stays_under old new came h within e = record {
    known = λ s excuses part slots_known k. known_narrowed library n choices s excuses old new h
        (both_within s new.premises old.premises came e k.within (λ p q. part p (within p q))) k;
  }

  -- with a nogood that is kept
  pub stays_resolved : (old other new : Nogood) → IsKeptIn slots other → Resolves library n choices old other new
      → IsSame (set_of new.premises) (union (set_of old.premises) (set_of other.premises))
      → Stays library n choices root slots old new
  stays_resolved old other new there h e = record {
    known = λ s excuses part slots_known k. let l = slots_known other there in
        known_resolved library n choices s excuses old other new h
        (both_within s new.premises old.premises other.premises e k.within l.within) k l;
  }

  -- a step that leaves all as it is where it isn't taken
  pub stays_by : {E : Type 0} (r : Result Bool E) (old new : Nogood) → OnErr r (new ≡ old)
      → (r ≡ Ok false → new ≡ old) → (r ≡ Ok true → Stays library n choices root slots old new)
      → Stays library n choices root slots old new
  stays_by (Ok true) old new err still step = step refl
  stays_by (Ok false) old new err still step = stays_same old new (still refl)
  stays_by (Err e) old new err still step = stays_same old new err

  -- the same of a step that answers whether it was taken
  pub stays_where : (b : Bool) (at : ℕ) (more : List Literal) (old new : Nogood) → OnFalse b (new ≡ old)
      → OnTrue b (Replaces old at more new) → Narrows library n choices old new
      → Stays library n choices root slots old new
  stays_where true at more old new still step h = stays_narrowed old new h step.premises
  stays_where false at more old new still step h = stays_same old new still

  -- a step with a nogood that is kept by a number
  pub stays_by_kept : {E : Type 0} (r : Result Bool E) (number : ℕ) (old other new : Nogood)
      → IsKeptAt slots number other → OnErr r (new ≡ old) → (r ≡ Ok false → new ≡ old)
      → (r ≡ Ok true → IsSame (set_of new.premises) (union (set_of old.premises) (set_of other.premises)))
      → Resolves library n choices old other new → Stays library n choices root slots old new
  stays_by_kept r number old other new there err still same h = stays_by r old new err still
      (λ t. stays_resolved old other new (
        number,
        slice_get_within slots number (Some other) there,
        get_or_from_slice_get slots number (Some other) (Some other) there,
      ) h (same t))

  -- of what is the same
  pub stays_from : (old same new : Nogood) → same ≡ old → Stays library n choices root slots same new
      → Stays library n choices root slots old new
  stays_from old same new e h = let P : Nogood → Type 0 = λ g. Stays library n choices root slots g new in subst P e h

  -- what is never met follows
  pub follows_never : (g : Nogood) → g.premises ≡ [] → IsNeverMet library n choices g
      → Follows library n choices root slots g
  follows_never g none never = record {
    known = λ s excuses part slots_known. known_never library n choices s excuses g none never;
  }

  -- two facts that no value has together
  pub follows_clashing : (o : Option Nogood) (g h : Nogood) (literals : List Literal) → o ≡ Some g → h ≡ g
      → IfSome o (λ k. k ≡ record { literals = literals; premises = [] })
      → IfSome o (λ k. (l : List Stored) (m : Attached) (cs : List Choice) → IsNeverMet l m cs k)
      → Follows library n choices root slots h
  follows_clashing o g h literals e same facts never =
      let P : Nogood → Type 0 = Follows library n choices root slots in
      let F : Option Nogood → Type 0 = λ p. IfSome p (λ k. k ≡ record { literals = literals; premises = [] }) in
      let N : Option Nogood → Type 0 =
      λ p. IfSome p (λ k. (l : List Stored) (m : Attached) (cs : List Choice) → IsNeverMet l m cs k) in
      subst P (sym same) (follows_never g (ap (λ k. k.premises) (subst F e facts)) (subst N e never library n choices))

  -- what follows does after more steps
  pub follows_along : (old new : Nogood) → Follows library n choices root slots old
      → Stays library n choices root slots old new → Follows library n choices root slots new
  follows_along old new a b = record {
    known = λ s excuses part slots_known.
        b.known s excuses part slots_known (a.known s excuses part slots_known);
  }

module _ (library : List Stored) (n : Attached) (choices : List Choice) (root : List ℕ)
    (slots : List (Option Nogood)) where
  -- a step with a nogood that follows
  pub stays_by_followed : {E : Type 0} (r : Result Bool E) (old other new : Nogood)
      → Follows library n choices root slots other → OnErr r (new ≡ old) → (r ≡ Ok false → new ≡ old)
      → (r ≡ Ok true → IsSame (set_of new.premises) (union (set_of old.premises) (set_of other.premises)))
      → Resolves library n choices old other new → Stays library n choices root slots old new
  stays_by_followed r old other new f err still same h =
      stays_by library n choices root slots r old new err still (λ t. record {
        known = λ s excuses part slots_known k. let l = f.known s excuses part slots_known in
            known_resolved library n choices s excuses old other new h
            (both_within s new.premises old.premises other.premises (same t) k.within l.within) k l;
      })

-- over the same cells
pub stays_over : (library : List Stored) (d e : Data) (choices : List Choice) (root : List ℕ)
    (slots : List (Option Nogood)) (old new : Nogood) → d ≡ e
    → Stays library (attached_of d) choices root slots old new
    → Stays library (attached_of e) choices root slots old new
stays_over library d e choices root slots old new same h =
    let P : Data → Type 0 = λ k. Stays library (attached_of k) choices root slots old new in subst P same h

pub always_same : (old new : Nogood) → new ≡ old → AlwaysStays old new
always_same old new e = λ library n choices root slots. stays_same library n choices root slots old new e

pub always_along : (old mid new : Nogood) → AlwaysStays old mid → AlwaysStays mid new → AlwaysStays old new
always_along old mid new a b = λ library n choices root slots.
    stays_along library n choices root slots old mid new (a library n choices root slots)
    (b library n choices root slots)

-- what follows of the value in a `Some`
pub follows_some : (o : Option Nogood) (g : Nogood) → o ≡ Some g → IfSome o AlwaysFollows → AlwaysFollows g
follows_some o g e h = let P : Option Nogood → Type 0 = λ p. IfSome p AlwaysFollows in subst P e h
