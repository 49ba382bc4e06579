-- Which premises are known, and what changes where one is new, believed or no longer believed.
use Rattle.std.proofs.Common.{◌≡◌, ◌∙◌, ℕ, ◌<◌, ◌||◌, Bool, true, false, IsTrue, List, [], ◌∷◌, ◌++◌, Some, All}
use Rattle.std.proofs.Common.{Contains, length, take, get_or, ◌≤◌, ◌==◌, refl, sym, ap, arith}
use Rattle.std.proofs.lemmas.Bool.{eq-eqb}
use Rattle.std.proofs.lemmas.List.Folds.{list_any_at}
use Rattle.std.proofs.lemmas.List.Elements.{All-contains, All-weaker, All-push}
use Rattle.prop_lattice.specs.declared.info.Info.TheVariants.{Nothing}
use Rattle.prop_lattice.specs.Order.{merge_of}
use Rattle.prop_numbers.specs.Sets.{Members, set_of, is_within, IsSame}
use Rattle.prop_tms.specs.Beliefs.{merge_of_all, believed_of}
use Rattle.prop_tms.proofs.KeptLemmas.{contains_here, contains_there}
use Rattle.prop_procedures.specs.Stored.{Stored}
use Rattle.prop_contents.specs.Contents.{Entry, beliefs, content_of}
use Rattle.prop_cells.specs.declared.instance.Statement.{Statement}
use Rattle.prop_cells.specs.Problems.{Problem}
use Rattle.prop_cells.specs.inner.Problems.{Premises}
use Rattle.prop_cells.specs.Reach.{Reaches}
use Rattle.prop_cells.specs.inner.Reach.{IsRelatedAt}
use Rattle.prop_cells.specs.Reach.Reaches.{stated, passed}
use Rattle.prop_cells.specs.Data.{Data, IsKept, IsFounded, problem_of}
use Rattle.prop_scheduler.specs.Turns.{IsUnderWay}
use Rattle.prop_scheduler.specs.Watching.{IsWatched}
use Rattle.prop_scheduler.proofs.UnderWay.{under_way_believed}
use Rattle.prop_workbench.specs.Sessions.{AreKnown}

-- ---- what bears on a cell is known

reach_stated : (problem : Problem) (p cell : ℕ) → Reaches problem p cell
    → (x : Statement) × Contains problem.statements x × (x.premise ≡ Some p)
reach_stated problem p _ (stated x is_in e) = (x, is_in, e)
reach_stated problem p _ (passed c input is_in reads r) = reach_stated problem p input r

pub related_known : (problem : Problem) (n cell : ℕ) (s : Premises) → AreKnown n problem.statements
    → IsRelatedAt problem cell s → (p : ℕ) → IsTrue (s p) → p < n
related_known problem n cell s known related p h =
    let x = reach_stated problem p cell (related p h) in
    All-contains (λ y. (q : ℕ) → y.premise ≡ Some q → q < n) problem.statements x.0 known x.1 p x.2

pub set_has : (ps : List ℕ) (k d : ℕ) → k < length ps → set_of ps (get_or ps k d) ≡ true
set_has ps k d l = list_any_at (λ q. q == get_or ps k d) ps k d l (eq-eqb (get_or ps k d) (get_or ps k d) refl)

pub support_known : (problem : Problem) (n cell : ℕ) (support : List ℕ) → AreKnown n problem.statements
    → IsRelatedAt problem cell (set_of support) → All (λ p. p < n) support
support_known problem n cell support known related =
    λ k d l. related_known problem n cell (set_of support) known related (get_or support k d) (set_has support k d l)

pub known_more : (n m : ℕ) (statements : List Statement) (x : Statement) → n ≤ m → AreKnown n statements
    → ((p : ℕ) → x.premise ≡ Some p → p < m) → AreKnown m (statements ++ x ∷ [])
known_more n m statements x l known h =
    All-push (λ y. (p : ℕ) → y.premise ≡ Some p → p < m) statements x
    (All-weaker (λ y. (p : ℕ) → y.premise ≡ Some p → p < n) (λ y. (p : ℕ) → y.premise ≡ Some p → p < m)
    (λ y k p e. let b = k p e in omega (arith, b, l)) statements known) h

-- ---- worldviews with the same premises

pub same_set : (s t : Members) → IsSame s t → s ≡ t
same_set s t h = λ i p. h p i

-- ---- worldviews that agree on the known premises

or_second : (a b : Bool) → b ≡ true → (a || b) ≡ true
or_second true b e = refl
or_second false b e = e

agree_within : (s t : Premises) (ps : List ℕ) → ((p : ℕ) → set_of ps p ≡ true → t p ≡ s p)
    → is_within t ps ≡ is_within s ps
agree_within s t [] h = refl
agree_within s t (p ∷ ps) h = rw (
  h p (rw (eq-eqb p p refl) refl),
  agree_within s t ps (λ q e. h q (or_second (p == q) (set_of ps q) e)),
) refl

agree_believed : (s t : Premises) (es : List Entry)
    → ((e : Entry) → Contains es e → is_within t e.support ≡ is_within s e.support)
    → believed_of t es ≡ believed_of s es
agree_believed s t [] h = refl
agree_believed s t (e ∷ es) h = rw (
  h e (contains_here e es),
  agree_believed s t es (λ x c. h x (contains_there e x es c)),
) refl

-- entries that rest on known premises say the same to who agrees on these
pub agree_beliefs : (library : List Stored) (d : Data) (n : ℕ) (s t : Premises) → IsKept library d
    → AreKnown n d.statements → ((p : ℕ) → p < n → t p ≡ s p) → beliefs t d.contents ≡ beliefs s d.contents
agree_beliefs library d n s t kept known agree = λ i cell. merge_of_all Nothing merge_of (at cell i)
  where
    at : (cell : ℕ) → believed_of t (content_of d.contents cell) ≡ believed_of s (content_of d.contents cell)
    at cell = agree_believed s t (content_of d.contents cell) (λ e c. agree_within s t e.support (λ p h.
        agree p (related_known (problem_of library d) n cell (set_of e.support) known
        (All-contains (IsFounded (problem_of library d) cell) (content_of d.contents cell) e (kept.founded cell)
        c).related p h)))

-- worldviews that agree on the known premises let a network be under way alike
pub under_way_agree : (library : List Stored) (d : Data) (n : ℕ) (line : List ℕ) (s t : Premises)
    → AreKnown n d.statements → ((p : ℕ) → p < n → t p ≡ s p) → IsUnderWay library s d line
    → IsUnderWay library t d line
under_way_agree library d n line s t known agree u =
    under_way_believed library s t d line (agree_beliefs library d n s t u.kept known agree) u

pub watched_agree : (library : List Stored) (d : Data) (n : ℕ) (watched : List ℕ) (s t : Premises) → IsKept library d
    → AreKnown n d.statements → ((p : ℕ) → p < n → t p ≡ s p) → IsWatched s d watched → IsWatched t d watched
watched_agree library d n watched s t kept known agree w = record {
  below = w.below;
  holds = λ cell clash. w.holds cell (sym (λ i. agree_beliefs library d n s t kept known agree i cell) ∙ clash);
}

-- ---- a new name, and without it

pub take_front : {X : Type 0} (xs ys : List X) → take (length xs) (xs ++ ys) ≡ xs
take_front [] ys = refl
take_front (x ∷ xs) ys = ap (λ zs. x ∷ zs) (take_front xs ys)
