-- What a call tells of its output that is also an input.
use Rattle.std.proofs.Common.{◌≡◌, ◌≢◌, ℕ, ◌+◌, ◌<◌, zero, suc, ℤ, List, [], ◌∷◌, length, map, take, drop}
use Rattle.std.proofs.Common.{refl, ap, sym, subst, All, Some, slice_get, add-one}
use Rattle.std.specs.List.{AllZip}
use Rattle.std.proofs.lemmas.List.Elements.{All-cons, All-head, All-nil, All-tail}
use Rattle.std.proofs.lemmas.Option.{none-some, same_Some}
use Rattle.prop_lattice.specs.Points.{Point, Number, Element, Symbol, Holds, IsPointOf}
use Rattle.prop_lattice.specs.Rank.{IsOf}
use Rattle.prop_lattice.specs.declared.info.Info.{Info}
use Rattle.prop_lattice.specs.declared.info.Info.TheVariants.{Contradiction}
use Rattle.prop_lattice.specs.declared.info.Kind.{Kind}
use Rattle.prop_lattice.specs.declared.info.Kind.TheVariants as kinds
use Rattle.prop_numbers.specs.Sets.{Members, set_of}
use Rattle.prop_premises.specs.ChoiceLists.{worldview}
use Rattle.prop_premises.specs.declared.choice.Choice.{Choice}
use Rattle.prop_procedures.specs.Fitting.{kind_at}
use Rattle.prop_procedures.specs.Stored.{Stored}
use Rattle.prop_procedures.specs.declared.shape.Kinded.{Kinded}
use Rattle.prop_cells.specs.Instances.{Instance, IsWithin}
use Rattle.prop_cells.specs.Points.{ArePoints, Attached}
use Rattle.prop_facts.specs.Facts.{IsOfKind, IsSo}
use Rattle.prop_facts.specs.declared.fact.Fact.TheVariants.{Is, Other}
use Rattle.prop_facts.specs.declared.fact.Literal.{Literal}
use Rattle.prop_refuting.specs.Calls.{Answers, AreArguments, Excepts, literals_but, literals_of}
use Rattle.prop_plans.specs.Held.{AreHeld}
use Rattle.prop_refuting.specs.Places.{IsSoAt, point_at}
use Rattle.prop_refuting.proofs.MeetLemmas.{Says, all_first, all_second}
use Rattle.prop_refuting.proofs.PlaceLemmas.{at_cell, cell_in_range}
use Rattle.prop_refuting.proofs.StepLemmas.{cells_hold}

cells_around : (points : ℕ → Point) (args : List Info) (cells : List ℕ) (k l : ℕ) (a : Info) (c : ℕ) → l ≡ suc k
    → slice_get args k ≡ Some a → slice_get cells k ≡ Some c → Holds a (points c)
    → AllZip Holds (take k args) (map points (take k cells)) → AllZip Holds (drop l args) (map points (drop l cells))
    → AllZip Holds args (map points cells)
cells_around points [] cells k l a c s e f here before behind = absurd (none-some a e)
cells_around points (b ∷ args) [] k l a c s e f here before behind = absurd (none-some c f)
cells_around points (b ∷ args) (d ∷ cells) zero l a c s e f here before behind =
    let P : Info → Type 0 = λ i. Holds i (points d) in
    let Q : ℕ → Type 0 = λ i. Holds a (points i) in
    let R : ℕ → Type 0 = λ m. AllZip Holds (drop m (b ∷ args)) (map points (drop m (d ∷ cells))) in
    (subst P (sym (same_Some b a e)) (subst Q (sym (same_Some d c f)) here), subst R s behind)
cells_around points (b ∷ args) (d ∷ cells) (suc k) l a c s e f here before behind =
    let R : ℕ → Type 0 = λ m. AllZip Holds (drop m (b ∷ args)) (map points (drop m (d ∷ cells))) in
    (before.0, cells_around points args cells k (suc k) a c refl e f here before.1 (subst R s behind))

pub same_count : (kinds : List Kinded) (cells : List ℕ) (args : List Info) → AreArguments kinds cells args
    → length cells ≡ length args
same_count kinds [] [] h = refl
same_count kinds [] (a ∷ args) h = absurd h
same_count kinds (c ∷ cells) [] h = absurd h
same_count kinds (c ∷ cells) (a ∷ args) h = ap suc (same_count kinds cells args h.1)

is_number : (kind : Kind) (size : ℕ) (p : Point) (m : ℤ) → IsOfKind kind (Other m) → IsPointOf kind size p
    → (p ≡ Number m → ⊥) → IsSo (Other m) p
is_number kinds.Span size (Number v) m o h f = λ q. f (ap Number q)
is_number kinds.Span size (Element i) m o h f = absurd h
is_number kinds.Span size (Symbol i) m o h f = absurd h
is_number (kinds.Set domain) size p m o h f = absurd o
is_number kinds.Symbol size p m o h f = absurd o

holds_number : (info : Info) (p : Point) (m : ℤ) → Holds info p → IsSo (Is m) p → Holds info (Number m)
holds_number info (Number v) m h e = let P : ℤ → Type 0 = λ w. Holds info (Number w) in subst P e h
holds_number info (Element i) m h e = absurd e
holds_number info (Symbol i) m h e = absurd e

pub excepts_of : (library : List Stored) (n : Attached) (x : Instance) (args : List Info) (place : ℕ) (m : ℤ)
    (a value : Info) → Answers library n x args value → place < length args → slice_get args place ≡ Some a
    → slice_get x.inputs place ≡ Some x.output → x.output < length n.kinds
    → IsOfKind (kind_at n.kinds x.output).kind (Other m)
    → (((p : Point) → Holds a p → IsSo (Is m) p → ⊥) → ⊥)
    → ((p : Point) → Holds value p → IsSo (Is m) p → ⊥) → Excepts library n x args place (Other m)
excepts_of library n x args place m a value ans l e f within span left bars = record {
  within = l;
  same = same_count n.kinds x.inputs args ans.arguments;
  arguments = ans.arguments;
  told = told;
}
  where
    told : (s : Members) (points : ℕ → Point) → ArePoints (AreHeld library) n s points
        → AllZip Holds (take place args) (map points (take place x.inputs))
        → AllZip Holds (drop (place + 1) args) (map points (drop (place + 1) x.inputs))
        → IsSo (Other m) (points x.output)
    told s points p before behind = is_number (kind_at n.kinds x.output).kind (kind_at n.kinds x.output).size
        (points x.output) m span (cell_in_range n points p x.output within)
        (λ q. left (λ r h k.
        let P : Point → Type 0 = λ z. Holds a z in
        let here = subst P (sym q) (holds_number a r m h k) in
        let held = cells_around points args x.inputs place (place + 1) a x.output (add-one place) e f here before
        behind in
        let Q : Point → Type 0 = λ z. Holds value z in
        bars (Number m) (subst Q q (ans.holds s points p held)) refl))

all_take : {X : Type 0} (P : X → Type 0) (xs : List X) (k : ℕ) → All P xs → All P (take k xs)
all_take P [] zero h = h
all_take P [] (suc k) h = h
all_take P (x ∷ xs) zero h = All-nil P
all_take P (x ∷ xs) (suc k) h =
    All-cons P x (take k xs) (All-head P x xs h) (all_take P xs k (All-tail P x xs h))

all_drop : {X : Type 0} (P : X → Type 0) (xs : List X) (k : ℕ) → All P xs → All P (drop k xs)
all_drop P [] zero h = h
all_drop P [] (suc k) h = h
all_drop P (x ∷ xs) zero h = h
all_drop P (x ∷ xs) (suc k) h = all_drop P xs k (All-tail P x xs h)

zip_take : {A B : Type 0} (R : A → B → Type 0) (xs : List A) (ys : List B) (k : ℕ) → AllZip R xs ys
    → AllZip R (take k xs) (take k ys)
zip_take R [] [] zero h = tt
zip_take R [] [] (suc k) h = tt
zip_take R [] (y ∷ ys) k h = absurd h
zip_take R (x ∷ xs) [] k h = absurd h
zip_take R (x ∷ xs) (y ∷ ys) zero h = tt
zip_take R (x ∷ xs) (y ∷ ys) (suc k) h = (h.0, zip_take R xs ys k h.1)

zip_drop : {A B : Type 0} (R : A → B → Type 0) (xs : List A) (ys : List B) (k : ℕ) → AllZip R xs ys
    → AllZip R (drop k xs) (drop k ys)
zip_drop R [] [] zero h = tt
zip_drop R [] [] (suc k) h = tt
zip_drop R [] (y ∷ ys) k h = absurd h
zip_drop R (x ∷ xs) [] k h = absurd h
zip_drop R (x ∷ xs) (y ∷ ys) zero h = h
zip_drop R (x ∷ xs) (y ∷ ys) (suc k) h = zip_drop R xs ys k h.1

pub excepts_say : (library : List Stored) (n : Attached) (choices : List Choice) (x : Instance) (args : List Info)
    (place : ℕ) (literal : Literal) (premises : List ℕ) → IsWithin (length n.kinds) x → literal.place ≡ x.output
    → Excepts library n x args place literal.fact
    → Says library n choices premises (literals_but place x.inputs args) literal
excepts_say library n choices x args place literal premises w e t list points c p so =
    let first = literals_of (take place x.inputs) (take place args) in
    let second = literals_of (drop (place + 1) x.inputs) (drop (place + 1) args) in
    let IsArgument : ℕ → Info → Type 0 = λ cell a.
    IsOf (kind_at n.kinds cell).kind (kind_at n.kinds cell).size a × (a ≢ Contradiction) in
    let before = cells_hold n points list p (take place x.inputs) (take place args)
    (all_take (λ k. k < length n.kinds) x.inputs place w.inputs) (zip_take IsArgument x.inputs args place t.arguments)
    (all_first (IsSoAt n points list) first second so) in
    let behind = cells_hold n points list p (drop (place + 1) x.inputs) (drop (place + 1) args)
    (all_drop (λ k. k < length n.kinds) x.inputs (place + 1) w.inputs)
    (zip_drop IsArgument x.inputs args (place + 1) t.arguments) (all_second (IsSoAt n points list) first second so) in
    let P : ℕ → Type 0 = λ k. IsSo literal.fact (point_at n points list k) in
    let Q : Point → Type 0 = λ q. IsSo literal.fact q in
    subst P (sym e) (subst Q (sym (at_cell n points list x.output w.output))
    (t.told (worldview (set_of premises) choices list) points p before behind))
