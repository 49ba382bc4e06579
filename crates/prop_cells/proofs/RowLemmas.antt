-- Rows of instance numbers.
use Rattle.std.proofs.Common.{◌≡◌, ◌≢◌, ◌∙◌, ℕ, zero, suc, ◌+◌, ◌-◌, ◌<◌, ◌≤◌, min, ◌==◌, ◌||◌, Bool, true, false, cond}
use Rattle.std.proofs.Common.{List, [], ◌∷◌, ◌++◌, Some, All, length, take, get_or, slice_get, Vec, vec_capacity, refl}
use Rattle.std.proofs.Common.{sym, ap, arith, add-zero, ◌⊎◌, inl, inr, get_or-set_same, get_or-set_other}
use Rattle.std.specs.List.{list_any}
use Rattle.std.proofs.Math.ListN.{set}
use Rattle.std.proofs.lemmas.Bool.{cases_lt, or_parts, eq-eqb, ne_eqb, eqb-false}
use Rattle.std.proofs.lemmas.Bool.Decides.{eqb_tells}
use Rattle.std.proofs.lemmas.List.{length-append, length-take, get_or-take, get_or_past, take_at, length-set}
use Rattle.std.proofs.lemmas.List.{length-map, map-set, set-get_or, get_or-map, append-nil, map-append}
use Rattle.std.proofs.lemmas.List.Elements.{All-head, All-tail, All-more, All-weaker}
use Rattle.std.proofs.lemmas.List.Folds.{list_any_more}
use Rattle.prop_contents.proofs.Lists.{get_or-push_default}
use Rattle.prop_cells.specs.Instances.{Instance, numbers_from}
use Rattle.prop_cells.specs.inner.Data.{AreRows}
use Rattle.prop_cells.specs.inner.Rooms.{row_items, HasRoom, ChangesAt, Noted, TakenBack}

pub or_none : (b : Bool) → (b || false) ≡ b
or_none true = refl
or_none false = refl

-- one more cell, which no instance has
pub rows_cell : (n : ℕ) (row_of : ℕ → List ℕ) (rows : List (List ℕ)) → AreRows n row_of rows
    → AreRows (n + 1) row_of (rows ++ [] ∷ [])
rows_cell n row_of rows h = record {
  count = (let c = h.count in omega (arith, c, length-append rows ([] ∷ [])));
  each = λ cell. get_or-push_default rows [] cell ∙ h.each cell;
}

cond_append : (b : Bool) (n : ℕ) (all more less : List ℕ) → all ≡ more ++ less
    → cond b (n ∷ all) all ≡ cond b (n ∷ more) more ++ less
cond_append true n all more less e = ap (λ l. n ∷ l) e
cond_append false n all more less e = e

-- one more instance: its number stands last where it passes
pub numbers_push : (passes : Instance → Bool) (n : ℕ) (xs : List Instance) (x : Instance)
    → numbers_from passes n (xs ++ x ∷ []) ≡ numbers_from passes n xs ++ cond (passes x) ((n + length xs) ∷ []) []
numbers_push passes n [] x = rw add-zero refl
numbers_push passes n (y ∷ ys) x =
    let e : (n + 1) + length ys ≡ n + length (y ∷ ys) = omega arith in
    let ih = numbers_push passes (n + 1) ys x in
    cond_append (passes y) n (numbers_from passes (n + 1) (ys ++ x ∷ [])) (numbers_from passes (n + 1) ys) _
    (ih ∙ ap (λ m. numbers_from passes (n + 1) ys ++ cond (passes x) (m ∷ []) []) e)

cond_push : (b : Bool) (n : ℕ) (row : List ℕ) → cond b (row ++ n ∷ []) row ≡ row ++ cond b (n ∷ []) []
cond_push true n row = refl
cond_push false n row = sym (append-nil row)

cond_pop : (b : Bool) (n : ℕ) (row : List ℕ)
    → cond b (take (length (row ++ cond b (n ∷ []) []) - 1) (row ++ cond b (n ∷ []) []))
    (row ++ cond b (n ∷ []) []) ≡ row
cond_pop true n row = take_at row (n ∷ []) (length (row ++ n ∷ []) - 1) (omega (arith, length-append row (n ∷ [])))
cond_pop false n row = append-nil row

-- rows that change in the cells' places as what they should be does
rows_changed : (n : ℕ) (change : List ℕ → List ℕ) (row_of row_of_now : ℕ → List ℕ) (old new : List (List ℕ))
    (cells : List ℕ) → AreRows n row_of old → ChangesAt change old new cells →
    ((cell : ℕ) → cond (list_any (λ c. c == cell) cells) (change (row_of cell)) (row_of cell) ≡ row_of_now cell)
    → AreRows n row_of_now new
rows_changed n change row_of row_of_now old new cells h changes same = record {
  count = changes.count ∙ h.count;
  each = λ cell. changes.each cell ∙ ap (λ row. cond (list_any (λ c. c == cell) cells) (change row) row) (h.each cell)
      ∙ same cell;
}

-- the rows of the cells, where the number of one more instance was noted in the rows of its cells
pub rows_noted : (n number : ℕ) (passes : ℕ → Instance → Bool) (instances : List Instance) (x : Instance)
    (cells : List ℕ) (old new : List (List ℕ)) →
    AreRows n (λ cell. numbers_from (passes cell) 0 instances) old → Noted old new cells number
    → number ≡ length instances → ((cell : ℕ) → passes cell x ≡ list_any (λ c. c == cell) cells) →
    AreRows n (λ cell. numbers_from (passes cell) 0 (instances ++ x ∷ [])) new
rows_noted n number passes instances x cells old new h noted e same =
    rows_changed n (λ row. row ++ number ∷ []) (λ cell. numbers_from (passes cell) 0 instances)
    (λ cell. numbers_from (passes cell) 0 (instances ++ x ∷ [])) old new cells h noted (λ cell.
    let last : number ≡ 0 + length instances = omega (arith, e) in
    let row = numbers_from (passes cell) 0 instances in
    ap (λ b. cond b (row ++ number ∷ []) row) (sym (same cell)) ∙ cond_push (passes cell x) number row
    ∙ ap (λ m. row ++ cond (passes cell x) (m ∷ []) []) last ∙ sym (numbers_push (passes cell) 0 instances x))

-- and where that of the last instance was taken out of them
pub rows_taken_back : (n : ℕ) (passes : ℕ → Instance → Bool) (instances : List Instance) (x : Instance) (cells : List ℕ)
    (old new : List (List ℕ)) →
    AreRows n (λ cell. numbers_from (passes cell) 0 (instances ++ x ∷ [])) old → TakenBack old new cells
    → ((cell : ℕ) → passes cell x ≡ list_any (λ c. c == cell) cells) →
    AreRows n (λ cell. numbers_from (passes cell) 0 instances) new
rows_taken_back n passes instances x cells old new h was_taken_back same =
    rows_changed n (λ row. take (length row - 1) row) (λ cell. numbers_from (passes cell) 0 (instances ++ x ∷ []))
    (λ cell. numbers_from (passes cell) 0 instances) old new cells h was_taken_back (λ cell.
    let row = numbers_from (passes cell) 0 instances in
    let change : Bool → List ℕ → List ℕ = λ b r. cond b (take (length r - 1) r) r in
    ap (λ b. change b (numbers_from (passes cell) 0 (instances ++ x ∷ []))) (sym (same cell))
    ∙ ap (change (passes cell x)) (numbers_push (passes cell) 0 instances x)
    ∙ cond_pop (passes cell x) (0 + length instances) row)

-- where no instance passes there is no number
pub numbers_none : (passes : Instance → Bool) (n : ℕ) (xs : List Instance) → All (λ x. passes x ≡ false) xs
    → numbers_from passes n xs ≡ []
numbers_none passes n [] h = refl
numbers_none passes n (x ∷ xs) h = rw (All-head (λ y. passes y ≡ false) x xs h)
    (numbers_none passes (n + 1) xs (All-tail (λ y. passes y ≡ false) x xs h))

-- the rows of the first cells, where no other cell has a number
pub rows_taken : (n count : ℕ) (row_of : ℕ → List ℕ) (rows : List (List ℕ)) → AreRows n row_of rows
    → ((cell : ℕ) → count ≤ cell → row_of cell ≡ []) → AreRows (min count n) row_of (take count rows)
rows_taken n count row_of rows h none = record {
  count = length-take count rows ∙ ap (min count) h.count;
  each = λ cell.
      elim (cases_lt cell count) as (λ _. get_or (take count rows) cell [] ≡ row_of cell) [
        | inl l ↦ get_or-take count rows cell [] l ∙ h.each cell
        | inr past ↦ get_or_past (take count rows) cell [] (omega (arith, length-take count rows, past))
            ∙ sym (none cell past)
      ];
}

-- ---- writes to a row

pub rows_push : {Z : Type 0} (rows news : List (Vec ℕ Z)) (row : Vec ℕ Z) → news ≡ rows ++ row ∷ [] → row.items ≡ []
    → row_items news ≡ row_items rows ++ [] ∷ []
rows_push rows news row e none = ap row_items e ∙ map-append (λ r. r.items) rows (row ∷ [])
    ∙ ap (λ items. row_items rows ++ items ∷ []) none

-- an element of a list after a write is what was written, or was there
pub set_read : {X : Type 0} (xs : List X) (c k : ℕ) (new x : X) → c < length xs → slice_get (set xs c new) k ≡ Some x
    → ((k ≡ c) × (x ≡ new)) ⊎ ((k ≢ c) × (slice_get xs k ≡ Some x))
set_read [] c k new x l e = absurd (omega (arith, l))
set_read (y ∷ ys) zero zero new x l e = inl (refl, cc)
set_read (y ∷ ys) zero (suc k) new x l e = inr (λ h. omega (arith, h), e)
set_read (y ∷ ys) (suc c) zero new x l e = inr (λ h. omega (arith, h), e)
set_read (y ∷ ys) (suc c) (suc k) new x l e =
    elim (set_read ys c k new x (omega (arith, l)) e)
    [ inl h ↦ inl (ap suc h.0, h.1) | inr h ↦ inr (λ f. h.0 (omega (arith, f)), h.1) ]

pub as_many : {Z : Type 0} (rows olds : List (Vec ℕ Z)) → length (row_items rows) ≡ length (row_items olds)
    → length rows ≡ length olds
as_many rows olds e = sym (length-map rows (λ row. row.items)) ∙ e ∙ length-map olds (λ row. row.items)

items_at : {Z : Type 0} (rows : List (Vec ℕ Z)) (c : ℕ) (old : Vec ℕ Z) → c < length rows → old ≡ get_or rows c old
    → old.items ≡ get_or (row_items rows) c []
items_at rows c old l at = ap (λ row. row.items) at ∙ sym (get_or-map (λ row. row.items) rows c old [] l)

pub kept_row : {Z : Type 0} (rows : List (Vec ℕ Z)) (c : ℕ) (old new : Vec ℕ Z) → c < length rows
    → old ≡ get_or rows c old → new.items ≡ old.items → row_items (set rows c new) ≡ row_items rows
kept_row rows c old new l at same =
    map-set (λ row. row.items) rows c new ∙ ap (λ items. set (row_items rows) c items) (same ∙ items_at rows c old l at)
    ∙ set-get_or (row_items rows) c []

room_set : {Z : Type 0} (rows : List (Vec ℕ Z)) (c k : ℕ) (new : Vec ℕ Z) → c < length rows
    → (k ≡ c → length new.items < vec_capacity new) → HasRoom rows k → HasRoom (set rows c new) k
room_set rows c k new l here h row at =
    elim (set_read rows c k new row l at) [ inl same ↦ rw same.1 (here same.0) | inr other ↦ h row other.1 ]

room_here : {Z : Type 0} (rows : List (Vec ℕ Z)) (c : ℕ) (new : Vec ℕ Z) → c < length rows
    → length new.items < vec_capacity new → HasRoom (set rows c new) c
room_here rows c new l here row at =
    elim (set_read rows c c new row l at) [ inl same ↦ rw same.1 here | inr other ↦ absurd (other.0 refl) ]

pub rooms_more : {Z : Type 0} (rows : List (Vec ℕ Z)) (cells : List ℕ) (i : ℕ) (new : Vec ℕ Z) → i < length cells
    → get_or cells i 0 < length rows → length new.items < vec_capacity new →
    All (HasRoom rows) (take i cells) → All (HasRoom (set rows (get_or cells i 0) new)) (take (i + 1) cells)
rooms_more rows cells i new l in_rows room h =
    All-more (HasRoom (set rows (get_or cells i 0) new)) cells i 0 l
    (All-weaker (HasRoom rows) (HasRoom (set rows (get_or cells i 0) new))
    (λ k has. room_set rows (get_or cells i 0) k new in_rows (λ e. room) has) (take i cells) h)
    (room_here rows (get_or cells i 0) new in_rows room)

-- ---- a change of the cells' rows, one after the other

module _ (cells : List ℕ) (i cell : ℕ) (l : i < length cells) where
  -- a cell that stands before place i + 1 stands before place i or at it
  among_more : list_any (λ c. c == cell)
      (take (i + 1) cells) ≡ (list_any (λ c. c == cell) (take i cells) || (get_or cells i 0 == cell))
  among_more = list_any_more (λ c. c == cell) cells i 0 l

  pub among_again : list_any (λ c. c == get_or cells i 0) (take i cells) ≡ true
      → list_any (λ c. c == cell) (take (i + 1) cells) ≡ list_any (λ c. c == cell) (take i cells)
  among_again there =
      elim (eqb_tells (get_or cells i 0) cell) as (λ _.
      list_any (λ c. c == cell) (take (i + 1) cells) ≡ list_any (λ c. c == cell) (take i cells)) [
        | inl same ↦ (let known : list_any (λ c. c == cell) (take i cells) ≡ true = rw same.1 at there in among_more
            ∙ ap (λ b. b || (get_or cells i 0 == cell)) known ∙ sym known)
        | inr other ↦ among_more ∙ ap (λ b. list_any (λ c. c == cell) (take i cells) || b) other.0
            ∙ or_none (list_any (λ c. c == cell) (take i cells))
      ]

module _ (change : List ℕ → List ℕ) (old now : List (List ℕ)) (cells : List ℕ) (i : ℕ) (l : i < length cells)
    (h : ChangesAt change old now (take i cells)) where
  pub changed_again : list_any (λ c. c == get_or cells i 0) (take i cells) ≡ true
      → ChangesAt change old now (take (i + 1) cells)
  changed_again there = record {
    count = h.count;
    each = λ cell. h.each cell ∙ ap (λ b. cond b (change (get_or old cell [])) (get_or old cell []))
        (sym (among_again cells i cell l there));
  }

  -- the row of the cell at place i
  changed_here : (items : List ℕ) → get_or cells i 0 < length now
      → list_any (λ c. c == get_or cells i 0) (take i cells) ≡ false → items ≡ change (get_or now (get_or cells i 0) [])
      →
      get_or (set now (get_or cells i 0) items) (get_or cells i 0) [] ≡
      cond (list_any (λ c. c == get_or cells i 0) (take (i + 1) cells)) (change (get_or old (get_or cells i 0) []))
      (get_or old (get_or cells i 0) [])
  changed_here items in_rows absent is =
      let cell = get_or cells i 0 in
      let was : get_or now cell [] ≡ get_or old cell [] = h.each cell
      ∙ ap (λ b. cond b (change (get_or old cell [])) (get_or old cell [])) absent in
      let yes : list_any (λ c. c == cell) (take (i + 1) cells) ≡ true = among_more cells i cell l
      ∙ ap (λ b. b || (cell == cell)) absent ∙ eq-eqb cell cell refl in
      get_or-set_same now cell items [] in_rows ∙ is ∙ ap change was
      ∙ ap (λ b. cond b (change (get_or old cell [])) (get_or old cell [])) (sym yes)

  changed_other : (items : List ℕ) (cell : ℕ) → cell ≢ get_or cells i 0 →
      get_or (set now (get_or cells i 0) items) cell [] ≡ cond (list_any (λ c. c == cell) (take (i + 1) cells))
      (change (get_or old cell [])) (get_or old cell [])
  changed_other items cell ne =
      let no : (get_or cells i 0 == cell) ≡ false = ne_eqb (get_or cells i 0) cell (λ e. ne (sym e)) in
      let same : list_any (λ c. c == cell) (take (i + 1) cells) ≡ list_any (λ c. c == cell) (take i cells) =
      among_more cells i cell l ∙ ap (λ b. list_any (λ c. c == cell) (take i cells) || b) no
      ∙ or_none (list_any (λ c. c == cell) (take i cells)) in
      get_or-set_other now (get_or cells i 0) cell items [] ne ∙ h.each cell
      ∙ ap (λ b. cond b (change (get_or old cell [])) (get_or old cell [])) (sym same)

  changed_more : (items : List ℕ) → get_or cells i 0 < length now
      → list_any (λ c. c == get_or cells i 0) (take i cells) ≡ false → items ≡ change (get_or now (get_or cells i 0) [])
      →
      ChangesAt change old (set now (get_or cells i 0) items) (take (i + 1) cells)
  changed_more items in_rows absent is = record {
    count = length-set now (get_or cells i 0) items ∙ h.count;
    each = λ cell.
        elim (eqb_tells cell (get_or cells i 0)) as (λ _.
        get_or (set now (get_or cells i 0) items) cell [] ≡ cond (list_any (λ c. c == cell) (take (i + 1) cells))
        (change (get_or old cell [])) (get_or old cell [])) [
          | inl same ↦ rw same.1 (changed_here items in_rows absent is)
          | inr other ↦ changed_other items cell other.1
        ];
  }

pub changed_row : {Z : Type 0} (change : List ℕ → List ℕ) (old : List (List ℕ)) (rows : List (Vec ℕ Z)) (cells : List ℕ)
    (i : ℕ) (row new : Vec ℕ Z) → i < length cells → get_or cells i 0 < length rows →
    list_any (λ c. c == get_or cells i 0) (take i cells) ≡ false → row ≡ get_or rows (get_or cells i 0) row
    → new.items ≡ change row.items → ChangesAt change old (row_items rows) (take i cells) →
    ChangesAt change old (row_items (set rows (get_or cells i 0) new)) (take (i + 1) cells)
changed_row change old rows cells i row new l in_rows absent at is h =
    let n : length (row_items rows) ≡ length rows = length-map rows (λ r. r.items) in
    let items : new.items ≡ change (get_or (row_items rows) (get_or cells i 0) []) = is
    ∙ ap change (items_at rows (get_or cells i 0) row in_rows at) in
    rw (map-set (λ r. r.items) rows (get_or cells i 0) new)
    (changed_more change old (row_items rows) cells i l h new.items (omega (arith, n, in_rows)) absent items)

-- a cell that is not among those so far still has its room
pub room_left : {Z : Type 0} (rows : List (Vec ℕ Z)) (cells : List ℕ) (i cell : ℕ) (new : Vec ℕ Z) → i < length cells
    → get_or cells i 0 < length rows →
    list_any (λ c. c == cell) (take (i + 1) cells) ≡ false
    → (list_any (λ c. c == cell) (take i cells) ≡ false → HasRoom rows cell)
    → HasRoom (set rows (get_or cells i 0) new) cell
room_left rows cells i cell new l in_rows absent h =
    let parts = or_parts (list_any (λ c. c == cell) (take i cells)) (get_or cells i 0 == cell)
    (sym (among_more cells i cell l) ∙ absent) in
    room_set rows (get_or cells i 0) cell new in_rows (λ e. absurd (eqb-false (get_or cells i 0) cell parts.1 (sym e)))
    (h parts.0)
