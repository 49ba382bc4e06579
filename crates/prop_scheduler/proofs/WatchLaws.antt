-- Which cells have to be looked at, as cells, statements and worldviews change.
use Rattle.std.proofs.Common.{◌≡◌, ◌≢◌, ◌∙◌, ◌<◌, ◌≤◌, ◌⊎◌, ℕ, ◌+◌, Bool, List, [], ◌∷◌, ◌++◌, All}
use Rattle.std.proofs.Common.{Contains, map, length, sym, ap, arith, inl, inr}
use Rattle.std.specs.Prelude.{⊤, Result, Ok, Err, OnOk, OnErr}
use Rattle.prop_refusals.specs.declared.refusal.Refusal.{Refusal}
use Rattle.std.proofs.lemmas.Bool.Decides.{eqb_tells}
use Rattle.std.proofs.lemmas.Bool.{cases_lt}
use Rattle.std.proofs.lemmas.List.{get_or_past, length-append}
use Rattle.std.proofs.lemmas.List.Elements.{All-contains, All-weaker}
use Rattle.prop_lattice.specs.declared.info.Info.{Info}
use Rattle.prop_lattice.specs.declared.info.Info.TheVariants.{Nothing, Contradiction}
use Rattle.prop_lattice.specs.Order.{merge_of}
use Rattle.prop_tms.specs.Beliefs.{belief_of}
use Rattle.prop_procedures.specs.declared.shape.Kinded.{Kinded}
use Rattle.prop_contents.specs.Contents.{Entry, beliefs}
use Rattle.prop_contents.proofs.Lists.{All-from_contains}
use Rattle.prop_cells.specs.inner.Problems.{Premises}
use Rattle.prop_cells.specs.Data.{Data, Merges, IsFree}
use Rattle.prop_cells.proofs.Making.{beliefs-push}
use Rattle.prop_scheduler.specs.Agendas.{Alerted, FirstAlerted}
use Rattle.prop_scheduler.specs.Watching.{IsWatched}
use Rattle.prop_scheduler.proofs.Line.{alerted_kept, alerted_here, alerted_all}
use Rattle.prop_scheduler.proofs.UnderWay.{beliefs_fresh}

-- nothing is believed where there is no cell
pub beyond : (s : Premises) (d : Data) (cell : ℕ) → length d.contents ≡ length d.kinds → length d.kinds ≤ cell
    → beliefs s d.contents cell ≡ Nothing
beyond s d cell same l = ap (belief_of Nothing merge_of s) (get_or_past d.contents cell [] (omega (arith, same, l)))

clash_within : (s : Premises) (d : Data) (cell : ℕ) → length d.contents ≡ length d.kinds
    → beliefs s d.contents cell ≡ Contradiction → cell < length d.kinds
clash_within s d cell same clash = elim (cases_lt cell (length d.kinds)) as (λ _. cell < length d.kinds) [
  | inl l ↦ l
  | inr l ↦ absurd (let e : Nothing ≡ Contradiction = sym (beyond s d cell same l) ∙ clash in cc)
]

-- where the first cells are watched, all of them, whatever is believed
pub watched_all : (s : Premises) (d : Data) (old new : List ℕ) (n : ℕ) → length d.contents ≡ length d.kinds
    → n ≡ length d.kinds → All (λ cell. cell < length d.kinds) old → FirstAlerted old new n → IsWatched s d new
watched_all s d old new n same count below first = record {
  below = All-from_contains (λ j. j < length d.kinds) new
      (λ j k. elim (first.only j k) as (λ _. j < length d.kinds)
      [ inl was ↦ All-contains (λ i. i < length d.kinds) old j below was | inr l ↦ omega (arith, l, count) ]);
  holds = λ cell clash. first.alerted cell (let l = clash_within s d cell same clash in omega (arith, l, count));
}

-- beliefs that stay ask for no more
pub watched_same : (s : Premises) (d new : Data) (watched : List ℕ) → length d.kinds ≤ length new.kinds
    → ((cell : ℕ) → beliefs s new.contents cell ≡ beliefs s d.contents cell) → IsWatched s d watched
    → IsWatched s new watched
watched_same s d new watched more same w = record {
  below = All-weaker (λ j. j < length d.kinds) (λ j. j < length new.kinds) (λ j l. omega (arith, l, more)) watched
      w.below;
  holds = λ cell clash. w.holds cell (sym (same cell) ∙ clash);
}

pub same_but : (s : Premises) (d new : Data) (cell : ℕ) → beliefs s new.contents cell ≡ beliefs s d.contents cell
    → ((k : ℕ) → k ≢ cell → beliefs s new.contents k ≡ beliefs s d.contents k) → (k : ℕ)
    → beliefs s new.contents k ≡ beliefs s d.contents k
same_but s d new cell here others k =
    elim (eqb_tells k cell) as (λ _. beliefs s new.contents k ≡ beliefs s d.contents k) [
      | inl e ↦ rw e.1 here
      | inr e ↦ others k e.1
    ]

-- the one cell of which something else is believed is watched
pub watched_at : (s : Premises) (d new : Data) (old watched : List ℕ) (cell : ℕ) → length new.kinds ≡ length d.kinds
    → cell < length d.kinds → ((k : ℕ) → k ≢ cell → beliefs s new.contents k ≡ beliefs s d.contents k)
    → Alerted old watched cell →
    IsWatched s d old → IsWatched s new watched
watched_at s d new old watched cell kinds within others a w = record {
  below = rw kinds (alerted_all (λ j. j < length d.kinds) old watched cell a within w.below);
  holds = λ k clash. elim (eqb_tells k cell) as (λ _. Contains watched k) [
    | inl e ↦ rw e.1 (alerted_here old watched cell a)
    | inr e ↦ alerted_kept old watched cell k a (w.holds k (sym (others k e.1) ∙ clash))
  ];
}

-- the one cell of which something else is believed holds no contradiction
pub watched_clear : (s : Premises) (d new : Data) (watched : List ℕ) (cell : ℕ) → length new.kinds ≡ length d.kinds
    → ((k : ℕ) → k ≢ cell → beliefs s new.contents k ≡ beliefs s d.contents k)
    → beliefs s new.contents cell ≢ Contradiction →
    IsWatched s d watched → IsWatched s new watched
watched_clear s d new watched cell kinds others clear w = record {
  below = rw kinds w.below;
  holds = λ k clash. elim (eqb_tells k cell) as (λ _. Contains watched k) [
    | inl e ↦ absurd (clear (rw e.1 at clash))
    | inr e ↦ w.holds k (sym (others k e.1) ∙ clash)
  ];
}

-- where nothing clashed, only the output of the called instance can
pub watched_turn : (s : Premises) (d new : Data) (old watched : List ℕ) (cell : ℕ) (v : Info) (grown : Bool)
    → length new.kinds ≡ length d.kinds → cell < length d.kinds → IsFree s d
    → Merges (beliefs s d.contents) (beliefs s new.contents) cell v grown →
    (beliefs s new.contents cell ≡ Contradiction → Contains watched cell)
    → ((k : ℕ) → Contains watched k → Contains old k ⊎ (k ≡ cell)) → IsWatched s d old → IsWatched s new watched
watched_turn s d new old watched cell v grown kinds within free merges here only w = record {
  below = All-from_contains (λ j. j < length new.kinds) watched (λ j k. elim (only j k) as (λ _. j < length new.kinds) [
    | inl was ↦ rw kinds (All-contains (λ i. i < length d.kinds) old j w.below was)
    | inr e ↦ rw (kinds, e) within
  ]);
  holds = λ k clash. elim (eqb_tells k cell) as (λ _. Contains watched k) [
    | inl e ↦ rw e.1 (here (rw e.1 at clash))
    | inr e ↦ absurd (free k (sym (merges.at.others k e.1) ∙ clash))
  ];
}

pub watched_free : (s : Premises) (d new : Data) (watched : List ℕ) → length new.kinds ≡ length d.kinds → IsFree s new
    → IsWatched s d watched → IsWatched s new watched
watched_free s d new watched kinds free w =
    record { below = rw kinds w.below; holds = λ k clash. absurd (free k clash) }

-- ---- another worldview

-- Of the first n cells each is believed as before or watched.
pub record AreLooked (s t : Premises) (d : Data) (n : ℕ) (old new : List ℕ) : Type 0 where
  pub below : All (λ cell. cell < length d.kinds) new
  pub kept : (cell : ℕ) → Contains old cell → Contains new cell
  pub each : (cell : ℕ) → cell < n → (beliefs s d.contents cell ≡ beliefs t d.contents cell) ⊎ Contains new cell

pub looked_none : (s t : Premises) (d : Data) (old : List ℕ) → All (λ cell. cell < length d.kinds) old
    → AreLooked s t d 0 old old
looked_none s t d old below = record { below = below; kept = λ cell k. k; each = λ cell l. absurd (omega (arith, l)) }

-- further cells are believed as before
pub looked_on : (s t : Premises) (d : Data) (n m : ℕ) (old new : List ℕ) → AreLooked s t d n old new
    → ((cell : ℕ) → n ≤ cell → cell < m → beliefs s d.contents cell ≡ beliefs t d.contents cell)
    → AreLooked s t d m old new
looked_on s t d n m old new h same = record {
  below = h.below;
  kept = h.kept;
  each = λ cell l. elim (cases_lt cell n) as (λ _. (beliefs s d.contents cell ≡ beliefs t d.contents cell)
      ⊎ Contains new cell) [
        | inl below ↦ h.each cell below
        | inr past ↦ inl (same cell past l)
      ];
}

pub looked_more : (s t : Premises) (d : Data) (n : ℕ) (old new after : List ℕ) → AreLooked s t d n old new
    → n < length d.kinds → Alerted new after n → AreLooked s t d (n + 1) old after
looked_more s t d n old new after h within a = record {
  below = alerted_all (λ j. j < length d.kinds) new after n a within h.below;
  kept = λ cell k. alerted_kept new after n cell a (h.kept cell k);
  each = λ cell l. elim (eqb_tells cell n) as (λ _. (beliefs s d.contents cell ≡ beliefs t d.contents cell)
      ⊎ Contains after cell) [
        | inl e ↦ inr (rw e.1 (alerted_here new after n a))
        | inr e ↦ elim (h.each cell (let ne = e.1 in omega (arith, l, ne))) as (λ _.
            (beliefs s d.contents cell ≡ beliefs t d.contents cell) ⊎ Contains after cell)
            [ inl same ↦ inl same | inr k ↦ inr (alerted_kept new after n cell a k) ]
      ];
}

pub watched_shifted : (s t : Premises) (d : Data) (old new : List ℕ) → length d.contents ≡ length d.kinds
    → AreLooked s t d (length d.kinds) old new → IsWatched s d old → IsWatched t d new
watched_shifted s t d old new same h w = record {
  below = h.below;
  holds = λ cell clash. elim (h.each cell (clash_within t d cell same clash)) as (λ _. Contains new cell) [
    | inl e ↦ h.kept cell (w.holds cell (e ∙ clash))
    | inr k ↦ k
  ];
}

-- ---- more cells

pub watched_cell : (s : Premises) (d new : Data) (watched : List ℕ) (k : Kinded)
    → new ≡ record d { kinds = d.kinds ++ k ∷ []; contents = d.contents ++ [] ∷ [] } → length d.kinds ≤ length new.kinds
    → IsWatched s d watched → IsWatched s new watched
watched_cell s d new watched k e more w =
    watched_same s d new watched more (λ cell. ap (λ (n : Data). beliefs s n.contents cell) e
    ∙ (λ i. beliefs-push s d.contents i cell)) w

pub watched_fresh : (s : Premises) (d new : Data) (watched : List ℕ) (fresh : List Kinded)
    → new.contents ≡ d.contents ++ map (λ k. []) fresh → length d.kinds ≤ length new.kinds → IsWatched s d watched
    → IsWatched s new watched
watched_fresh s d new watched fresh e more w =
    watched_same s d new watched more (λ cell. ap (λ (c : List (List Entry)). beliefs s c cell) e
    ∙ (λ i. beliefs_fresh s d.contents fresh i cell)) w

-- the same where a cell is made or refused
pub watched_one_cell : (s : Premises) (d new : Data) (watched : List ℕ) (k : Kinded) (r : Result ⊤ Refusal)
    → OnOk r (new ≡ record d { kinds = d.kinds ++ k ∷ []; contents = d.contents ++ [] ∷ [] }) → OnErr r (new ≡ d)
    → IsWatched s d watched → IsWatched s new watched
watched_one_cell s d new watched k (Ok t) e f w =
    watched_cell s d new watched k e (let n = ap (λ (x : Data). length x.kinds) e in let m = length-append d.kinds
    (k ∷ []) in omega (arith, n, m)) w
watched_one_cell s d new watched k (Err refusal) e f w = rw f w
