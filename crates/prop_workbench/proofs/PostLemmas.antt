-- What is posted: what is made, stated and refused is what the machine says.
use Rattle.std.proofs.Common.{◌≡◌, ◌∙◌, ℕ, ◌<◌, ◌≤◌, ◌+◌, Bool, true, false, List, [], ◌∷◌, ◌++◌, Option}
use Rattle.std.proofs.Common.{Some, None, All, map, length, get_or, take, Result, Ok, Err, ◌⊎◌, inl, inr, refl, sym, ap}
use Rattle.std.proofs.Common.{arith, is_none, OnOk, OnErr, IfErr}
use Rattle.std.specs.Prelude.{⊤, ◌&&◌, nat_le}
use Rattle.std.proofs.lemmas.Bool.{leb-false, lt-leb}
use Rattle.std.proofs.lemmas.List.{append_assoc, length-append, length-map, length-take-le, map-append, take_more}
use Rattle.std.proofs.Math.Seq.{take-length}
use Rattle.prop_refusals.specs.Refusals.{first_of, most, when}
use Rattle.prop_refusals.specs.declared.refusal.Limit.TheVariants.{Cells, Premises, Statements}
use Rattle.prop_refusals.specs.declared.refusal.Refusal.{Refusal}
use Rattle.prop_refusals.specs.declared.refusal.Refusal.TheVariants.{IsAChoice, LimitReached, Memory}
use Rattle.prop_premises.specs.Origins.{premise_number}
use Rattle.prop_procedures.specs.declared.flat.Flat.{Flat}
use Rattle.prop_procedures.specs.declared.shape.Kinded.{Kinded}
use Rattle.prop_procedures.specs.Flats.{cell_placed}
use Rattle.prop_procedures.specs.Stored.{Stored}
use Rattle.prop_cells.specs.declared.instance.Statement.{Statement}
use Rattle.prop_scheduler.specs.Making.{room_refusal}
use Rattle.prop_workbench.specs.declared.posting.Posting.{Posting}
use Rattle.prop_workbench.specs.declared.posting.Stated.{Stated}
use Rattle.prop_workbench.specs.Machine.{State}
use Rattle.prop_workbench.specs.Posting.{IsPosted, MayBeAt, is_choice_given, is_new_given, posted, posting_refusal}
use Rattle.prop_workbench.specs.Posting.{statement_at, with_fixed, with_placed, with_told}
use Rattle.prop_workbench.specs.inner.Effects.{stated}
use Rattle.prop_workbench.specs.inner.Posting.{FitsAt, posting_limit}
use Rattle.prop_workbench.specs.inner.Refusing.{is_choice_told, statement_limit}
use Rattle.prop_workbench.proofs.AttachLemmas.{there_placed}

-- ---- what is made

-- one more of what is stated under no premise
pub fixed_next : (s t u : State) (cells : List ℕ) (next : ℕ) (fixed : List Stated) (i cell : ℕ) (x : Stated)
    → i < length fixed → x ≡ get_or fixed i x → t ≡ with_fixed s cells next (take i fixed) →
    cell ≡ cell_placed cells next x.place → u ≡ stated t None cell t.words x.info
    → u ≡ with_fixed s cells next (take (i + 1) fixed)
fixed_next s t u cells next fixed i cell x below is before at now =
    now ∙ (λ j. stated (before j) None (at j) (before j).words x.info) ∙ (λ j. record s { statements = same j })
  where
    f : Stated → Statement
    f = statement_at None cells next

    more : map f (take (i + 1) fixed) ≡ map f (take i fixed) ++ f x ∷ []
    more = ap (map f) (take_more fixed i x below) ∙ map-append f (take i fixed) (get_or fixed i x ∷ [])
        ∙ ap (λ y. map f (take i fixed) ++ f y ∷ []) (sym is)

    same : s.statements ++ map f (take i fixed) ++ f x ∷ [] ≡ s.statements ++ map f (take (i + 1) fixed)
    same = append_assoc s.statements (map f (take i fixed)) (f x ∷ []) ∙ ap (λ l. s.statements ++ l) (sym more)

-- how many statements there are then
fixed_count : (s : State) (cells : List ℕ) (next : ℕ) (fixed : List Stated)
    → length (with_fixed s cells next fixed).statements ≡ length s.statements + length fixed
fixed_count s cells next fixed = length-append s.statements (map (statement_at None cells next) fixed)
    ∙ ap (λ n. length s.statements + n) (length-map fixed (statement_at None cells next))

-- all of it
pub posted_is : (library : List Stored) (s t u v : State) (cells : List ℕ) (next cell : ℕ) (p : Posting)
    (premise : Option (List ℕ)) → t ≡ with_placed library s cells p.flat → next ≡ length s.kinds
    → u ≡ with_fixed t cells next p.fixed.items → cell ≡ cell_placed cells next p.told.place →
    v ≡ stated u premise cell u.words p.told.info → v ≡ posted library s cells p premise
posted_is library s t u v cells next cell p premise t_is next_is u_is cell_is v_is =
    v_is ∙ (λ i. stated (u_is i) premise (cell_is i) (u_is i).words p.told.info)
    ∙ (λ i. with_told (with_fixed (t_is i) cells (next_is i) p.fixed.items) cells (next_is i) p.told premise)

-- where memory was refused, the first is left
pub left_is : (library : List Stored) (s t u : State) (cells : List ℕ) (next : ℕ) (flat : Flat) (fixed : List Stated)
    → t ≡ with_placed library s cells flat → next ≡ length s.kinds → u ≡ with_fixed t cells next fixed
    → u ≡ with_fixed (with_placed library s cells flat) cells (length s.kinds) fixed
left_is library s t u cells next flat fixed t_is next_is u_is =
    u_is ∙ (λ i. with_fixed (t_is i) cells (next_is i) fixed)

-- ---- why it is refused

rows : (a b r : Option Refusal) → first_of (None ∷ a ∷ b ∷ r ∷ []) ≡ first_of (first_of (a ∷ b ∷ []) ∷ r ∷ [])
rows (Some x) b r = refl
rows None (Some y) r = refl
rows None None r = refl

-- the refusal, where no choice has the name
refusal_rows : (s : State) (p : Posting) (premise : Option (List ℕ)) → is_choice_given s.premises premise ≡ false
    → posting_refusal s p premise ≡ first_of (posting_limit s premise (length p.fixed.items)
    ∷ room_refusal (length s.kinds + length p.flat.fresh.items) (length s.instances + length p.flat.instances.items)
    ∷ [])
refusal_rows s p premise free =
    ap (λ b. first_of (when IsAChoice b ∷ new ∷ many ∷ room ∷ [])) free ∙ rows new many room
  where
    new : Option Refusal
    new = when (LimitReached Premises) (is_new_given s.premises premise && nat_le (most Premises) (length s.premises))

    many : Option Refusal
    many = when (LimitReached Statements) (nat_le (most Statements) (length s.statements + length p.fixed.items))

    room : Option Refusal
    room = room_refusal (length s.kinds + length p.flat.fresh.items) (length s.instances
        + length p.flat.instances.items)

only_second : (r : Option Refusal) → first_of (None ∷ r ∷ []) ≡ r
only_second None = refl
only_second (Some x) = refl

-- a choice has the name
pub choice_refused : (s : State) (p : Posting) (premise : Option (List ℕ)) → is_choice_given s.premises premise ≡ true
    → posting_refusal s p premise ≡ Some IsAChoice
choice_refused s p premise taken = rw taken refl

-- there is no room for the premise or the statements
pub limit_refused : (s : State) (p : Posting) (premise : Option (List ℕ)) (e : Refusal)
    → is_choice_given s.premises premise ≡ false → posting_limit s premise (length p.fixed.items) ≡ Some e
    → posting_refusal s p premise ≡ Some e
limit_refused s p premise e free limit = refusal_rows s p premise free ∙ ap (λ r. first_of (r
    ∷ room_refusal (length s.kinds + length p.flat.fresh.items) (length s.instances + length p.flat.instances.items)
    ∷ [])) limit

-- whichever of the two it is
pub unposted : (s : State) (p : Posting) (premise : Option (List ℕ)) (e : Refusal)
    → ((e ≡ IsAChoice) × (is_choice_given s.premises premise ≡ true)) ⊎ ((is_choice_given s.premises premise ≡ false)
    × (posting_limit s premise (length p.fixed.items) ≡ Some e)) → posting_refusal s p premise ≡ Some e
unposted s p premise e (inl (is, taken)) = choice_refused s p premise taken ∙ sym (ap Some is)
unposted s p premise e (inr (free, limit)) = limit_refused s p premise e free limit

-- there is room for those, and what there is for the cells and the instances
pub room_refused : (s : State) (p : Posting) (premise : Option (List ℕ)) → is_choice_given s.premises premise ≡ false
    → posting_limit s premise (length p.fixed.items) ≡ None → posting_refusal s p premise ≡ room_refusal
    (length s.kinds + length p.flat.fresh.items) (length s.instances + length p.flat.instances.items)
room_refused s p premise free limit = refusal_rows s p premise free ∙ ap (λ r. first_of (r
    ∷ room_refusal (length s.kinds + length p.flat.fresh.items) (length s.instances + length p.flat.instances.items)
    ∷ [])) limit
    ∙ only_second (room_refusal (length s.kinds + length p.flat.fresh.items) (length s.instances
    + length p.flat.instances.items))

-- whether a choice has the name
pub choice_given : (s : State) (premise : Option (List ℕ))
    → is_choice_told s premise ≡ is_choice_given s.premises premise
choice_given s None = refl
choice_given s (Some name) = refl

-- ---- what is room for one statement more

both_none : (a b : Option Refusal) → first_of (a ∷ b ∷ []) ≡ None → (a ≡ None) × (b ≡ None)
both_none (Some x) b e = cc
both_none None (Some y) e = cc
both_none None None e = (refl, refl)

holds_not : (refusal : Refusal) (b : Bool) → when refusal b ≡ None → b ≡ false
holds_not refusal true e = cc
holds_not refusal false e = refl

-- there is room to tell what is told behind what is fixed
pub limit_then : (s : State) (cells : List ℕ) (next : ℕ) (fixed : List Stated) (premise : Option (List ℕ))
    → posting_limit s premise (length fixed) ≡ None → statement_limit (with_fixed s cells next fixed) premise ≡ None
limit_then s cells next fixed None limit =
    ap (λ n. when (LimitReached Statements) (nat_le (most Statements) n)) (fixed_count s cells next fixed)
    ∙ (both_none (when (LimitReached Premises) false)
    (when (LimitReached Statements) (nat_le (most Statements) (length s.statements + length fixed))) limit).1
limit_then s cells next fixed (Some name) limit =
    ap (λ n. first_of (when (LimitReached Premises) (is_none (premise_number s.premises name) && nat_le (most Premises)
    (length s.premises))
    ∷ when (LimitReached Statements) (nat_le (most Statements) n) ∷ [])) (fixed_count s cells next fixed)
    ∙ limit

-- there is room for what is fixed
pub room_for_fixed : (s : State) (premise : Option (List ℕ)) (count : ℕ) → posting_limit s premise count ≡ None
    → length s.statements + count ≤ most Statements
room_for_fixed s premise count limit =
    let rooms = both_none (when (LimitReached Premises) (is_new_given s.premises premise && nat_le (most Premises)
    (length s.premises)))
    (when (LimitReached Statements) (nat_le (most Statements) (length s.statements + count))) limit in
    let l = leb-false (most Statements) (length s.statements + count) (holds_not (LimitReached Statements) _ rooms.1) in
    omega (arith, l)

-- and for the next of it
pub room_for_next : (s t : State) (cells : List ℕ) (next : ℕ) (fixed : List Stated) (i : ℕ) → i < length fixed
    → length s.statements + length fixed ≤ most Statements → t ≡ with_fixed s cells next (take i fixed)
    → statement_limit t None ≡ None
room_for_next s t cells next fixed i below room is =
    let n : length t.statements ≡ length s.statements + i =
    ap (λ (x : State). length x.statements) is ∙ fixed_count s cells next (take i fixed)
    ∙ ap (λ k. length s.statements + k) (length-take-le i fixed (omega (arith, below))) in
    ap (when (LimitReached Statements)) (lt-leb (most Statements) (length t.statements) (omega (arith, n, below, room)))

-- ---- what is stated at a place

pub fits_at : (kinds fresh all : List Kinded) (cells : List ℕ) (next : ℕ) (x : Stated)
    → All (λ c. c < length kinds) cells → length kinds + length fresh ≤ most Cells → all ≡ kinds ++ fresh
    → next ≡ length kinds → MayBeAt kinds fresh cells x → FitsAt all cells next x
fits_at kinds fresh all cells next x below few all_is next_is may = rw (all_is, next_is) (record {
  small = (let l = may.place in omega (arith, l, few));
  there = there_placed kinds fresh cells x.place below may.place;
  may = may.may;
})

-- ---- what stays

pub posted_limit : (library : List Stored) (s t : State) (cells : List ℕ) (p : Posting) (premise : Option (List ℕ))
    (r : Result ⊤ Refusal) → IsPosted library s cells p premise r t → t.limit ≡ s.limit
posted_limit library s t cells p premise (Ok done) is = ap (λ (x : State). x.limit) is.1
posted_limit library s t cells p premise (Err e) (inl is) = ap (λ (x : State). x.limit) is.1
posted_limit library s t cells p premise (Err e) (inr (memory, inl same)) = ap (λ (x : State). x.limit) same
posted_limit library s t cells p premise (Err e) (inr (memory, inr (n, is))) = ap (λ (x : State). x.limit) is

-- ---- how it ends

-- there was no room for the cells and the instances, or no memory
pub unplaced : (library : List Stored) (s t : State) (cells : List ℕ) (p : Posting) (premise : Option (List ℕ))
    (e : Refusal) → is_choice_given s.premises premise ≡ false → posting_limit s premise (length p.fixed.items) ≡ None
    → (room_refusal (length s.kinds + length p.flat.fresh.items) (length s.instances + length p.flat.instances.items)
    ≡ Some e) ⊎ (e ≡ Memory) → t ≡ s → IsPosted library s cells p premise (Err e) t
unplaced library s t cells p premise e free limit (inl room) same = inl
    (room_refused s p premise free limit ∙ room, same)
unplaced library s t cells p premise e free limit (inr memory) same = inr (memory, inl same)

-- there was no memory for what is stated under no premise
pub unfixed : (library : List Stored) (s t u : State) (cells : List ℕ) (next : ℕ) (p : Posting)
    (premise : Option (List ℕ)) (e : Refusal) → t ≡ with_placed library s cells p.flat → next ≡ length s.kinds →
    (e ≡ Memory) × (n : ℕ) × (u ≡ with_fixed t cells next (take n p.fixed.items))
    → IsPosted library s cells p premise (Err e) u
unfixed library s t u cells next p premise e t_is next_is (memory, n, is) =
    inr (memory, inr (n, left_is library s t u cells next p.flat (take n p.fixed.items) t_is next_is is))

-- what is told was told, or there was no memory for it
pub told_or_left : (library : List Stored) (s t u v : State) (cells : List ℕ) (next cell : ℕ) (p : Posting)
    (premise : Option (List ℕ)) (r : Result ⊤ Refusal) → is_choice_given s.premises premise ≡ false
    → posting_limit s premise (length p.fixed.items) ≡ None
    → room_refusal (length s.kinds + length p.flat.fresh.items) (length s.instances + length p.flat.instances.items)
    ≡ None → t ≡ with_placed library s cells p.flat → next ≡ length s.kinds → u ≡ with_fixed t cells next p.fixed.items
    → cell ≡ cell_placed cells next p.told.place → OnOk r (v ≡ stated u premise cell u.words p.told.info) →
    IfErr r (λ e. e ≡ Memory) → OnErr r (v ≡ u) → IsPosted library s cells p premise r v
told_or_left library s t u v cells next cell p premise (Ok done) free limit room t_is next_is u_is
    cell_is ok err same = (
      room_refused s p premise free limit ∙ room,
      posted_is library s t u v cells next cell p premise t_is next_is u_is cell_is ok,
    )
told_or_left library s t u v cells next cell p premise (Err e) free limit room t_is next_is u_is cell_is ok err same =
    let left = left_is library s t v cells next p.flat p.fixed.items t_is next_is (same ∙ u_is) in
    inr (
      err,
      inr (
        length p.fixed.items,
        left ∙ ap (with_fixed (with_placed library s cells p.flat) cells (length s.kinds))
            (sym (take-length p.fixed.items)),
      ),
    )
