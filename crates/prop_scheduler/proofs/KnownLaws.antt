-- What is known of beliefs, as the places, what the cells hold and the worldview change.
use Rattle.std.proofs.Common.{◌≡◌, ◌≢◌, ◌∙◌, ◌≤◌, ◌-◌, ◌++◌, ℕ, Bool, true, false, ◌&&◌, List, [], ◌∷◌, length, map}
use Rattle.std.proofs.Common.{Option, Some, None, refl, sym, ap, arith, inl, inr, get_or-set_other, get_or-set_same}
use Rattle.std.specs.Prelude.{⊤, Result, Ok, Err, OnOk, OnErr}
use Rattle.std.proofs.Math.ListN.{set, replicate, length-set}
use Rattle.std.proofs.lemmas.Bool.{cases_lt}
use Rattle.std.proofs.lemmas.Bool.Decides.{eqb_tells}
use Rattle.std.proofs.lemmas.List.{length-replicate, get_or_append_left, get_or-append_right, get_or-replicate}
use Rattle.std.proofs.lemmas.List.{get_or_past}
use Rattle.prop_lattice.specs.declared.info.Info.{Info}
use Rattle.prop_lattice.specs.declared.info.Info.TheVariants.{Nothing}
use Rattle.prop_lattice.specs.Order.{merge_of}
use Rattle.prop_numbers.specs.Sets.{set_of, is_within, is_alike, IsSame}
use Rattle.prop_numbers.proofs.WithinLemmas.{within_has}
use Rattle.prop_tms.specs.Beliefs.{belief_of}
use Rattle.prop_refusals.specs.declared.refusal.Refusal.{Refusal}
use Rattle.prop_procedures.specs.declared.shape.Kinded.{Kinded}
use Rattle.prop_contents.specs.Contents.{Entry, beliefs}
use Rattle.prop_contents.specs.Knowing.{known_at, AreBeliefs, ArePassed}
use Rattle.prop_cells.specs.inner.Problems.{Premises}
use Rattle.prop_cells.specs.Data.{Data}
use Rattle.prop_scheduler.proofs.UnderWay.{beliefs_fresh}

-- ---- one worldview

-- where nothing is known, that is so
pub none_known : (s : Premises) (contents : List (List Entry)) (known : List (Option Info))
    → ((cell : ℕ) → known_at known cell ≡ None) → AreBeliefs s contents known
none_known s contents known none cell info at = absurd (let e : None ≡ Some info = sym (none cell) ∙ at in cc)

pub new_known : (s : Premises) (contents : List (List Entry)) → AreBeliefs s contents []
new_known s contents = none_known s contents [] (λ cell. get_or_past [] cell None (omega arith))

unknown : (n cell : ℕ) → known_at (replicate n None) cell ≡ None
unknown n cell = elim (cases_lt cell n) as (λ _. known_at (replicate n None) cell ≡ None) [
  | inl l ↦ get_or-replicate n cell None None l
  | inr l ↦ get_or_past (replicate n None) cell None (let m = length-replicate {A = Option Info} n None in
      omega (arith, m, l))
]

pub cleared_known : (s : Premises) (contents : List (List Entry)) (n : ℕ) → AreBeliefs s contents (replicate n None)
cleared_known s contents n = none_known s contents (replicate n None) (unknown n)

forgotten_there : (known : List (Option Info)) (cell : ℕ) → known_at (set known cell None) cell ≡ None
forgotten_there known cell = elim (cases_lt cell (length known)) as (λ _. known_at (set known cell None) cell ≡ None) [
  | inl l ↦ get_or-set_same known cell None None l
  | inr l ↦ get_or_past (set known cell None) cell None (let m = length-set known cell None in omega (arith, m, l))
]

-- where one cell alone is believed to hold something else, and is forgotten
pub forgotten_known : (s : Premises) (old new : List (List Entry)) (known : List (Option Info)) (cell : ℕ)
    → ((k : ℕ) → k ≢ cell → beliefs s new k ≡ beliefs s old k) → AreBeliefs s old known
    → AreBeliefs s new (set known cell None)
forgotten_known s old new known cell others h k info at = elim (eqb_tells k cell) as (λ _. beliefs s new k ≡ info) [
  | inl e ↦ absurd (let c : None ≡ Some info = sym (forgotten_there known cell) ∙ (rw e.1 at at) in cc)
  | inr e ↦ others k e.1 ∙ h k info (sym (get_or-set_other known cell k None None e.1) ∙ at)
]

-- where the same is believed of each cell
pub kept_known : (s : Premises) (old new : List (List Entry)) (known : List (Option Info))
    → ((k : ℕ) → beliefs s new k ≡ beliefs s old k) → AreBeliefs s old known → AreBeliefs s new known
kept_known s old new known same h cell info at = same cell ∙ h cell info at

-- where the same is known of each cell
pub as_known : (s : Premises) (contents : List (List Entry)) (known new : List (Option Info))
    → ((cell : ℕ) → known_at new cell ≡ known_at known cell) → AreBeliefs s contents known → AreBeliefs s contents new
as_known s contents known new same h cell info at = h cell info (sym (same cell) ∙ at)

-- more places tell nothing more
pub roomy : (known : List (Option Info)) (n cell : ℕ) → known_at (known ++ replicate n None) cell ≡ known_at known cell
roomy known n cell = elim (cases_lt cell (length known)) as
    (λ _. known_at (known ++ replicate n None) cell ≡ known_at known cell) [
      | inl l ↦ get_or_append_left known (replicate n None) None cell l
      | inr l ↦ get_or-append_right known (replicate n None) (length known) cell None refl l
          ∙ unknown n (cell - length known)
          ∙ sym (get_or_past known cell None l)
    ]

-- fresh cells are believed to hold nothing, as before
pub fresh_known : (s : Premises) (contents : List (List Entry)) (fresh : List Kinded) (known : List (Option Info))
    → AreBeliefs s contents known → AreBeliefs s (contents ++ map (λ k. []) fresh) known
fresh_known s contents fresh known h cell info at = (λ i. beliefs_fresh s contents fresh i cell) ∙ h cell info at

-- the same where a cell is made or refused
pub one_cell_known : (s : Premises) (d new : Data) (known : List (Option Info)) (k : Kinded) (r : Result ⊤ Refusal)
    → OnOk r (new ≡ record d { kinds = d.kinds ++ k ∷ []; contents = d.contents ++ [] ∷ [] }) → OnErr r (new ≡ d)
    → AreBeliefs s d.contents known → AreBeliefs s new.contents known
one_cell_known s d new known k (Ok t) e f h = rw e (fresh_known s d.contents (k ∷ []) known h)
one_cell_known s d new known k (Err refusal) e f h = rw f h

-- ---- another worldview

same_bools : (a b : Bool) → (a ≡ true → b ≡ true) → (b ≡ true → a ≡ true) → a ≡ b
same_bools true b f g = sym (f refl)
same_bools false true f g = g refl
same_bools false false f g = refl

and_both : (a b : Bool) → (a && b) ≡ true → (a ≡ true) × (b ≡ true)
and_both true b h = (refl, h)
and_both false b h = cc

pub alike_same : (ps qs : List ℕ) → is_alike ps qs ≡ true → IsSame (set_of ps) (set_of qs)
alike_same ps qs h p =
    let both = and_both (is_within (set_of qs) ps) (is_within (set_of ps) qs) h in
    same_bools (set_of ps p) (set_of qs p) (λ has. within_has (set_of qs) ps p both.0 has)
    (λ has. within_has (set_of ps) qs p both.1 has)

pub same_known : (s t : Premises) (contents : List (List Entry)) (known : List (Option Info)) → IsSame s t
    → AreBeliefs s contents known → AreBeliefs t contents known
same_known s t contents known same h cell info at =
    (λ i. beliefs (λ p. sym (same p) i) contents cell) ∙ h cell info at

pub none_passed : (s t : Premises) (contents : List (List Entry)) (known : List (Option Info))
    → AreBeliefs s contents known → ArePassed 0 s t contents known
none_passed s t contents known h = record {
  passed = λ cell info l at. absurd (omega (arith, l));
  ahead = λ cell info l at. h cell info at;
}

-- past the last cell both believe nothing
pub all_passed : (s t : Premises) (contents : List (List Entry)) (known : List (Option Info)) (n : ℕ)
    → length contents ≤ n → ArePassed n s t contents known → AreBeliefs t contents known
all_passed s t contents known n past h cell info at =
    elim (cases_lt cell n) as (λ _. beliefs t contents cell ≡ info) [
      | inl l ↦ h.passed cell info l at
      | inr l ↦ nothing t cell l ∙ sym (nothing s cell l) ∙ h.ahead cell info l at
    ]
  where
    nothing : (w : Premises) (k : ℕ) → n ≤ k → beliefs w contents k ≡ Nothing
    nothing w k l = ap (belief_of Nothing merge_of w) (get_or_past contents k [] (omega (arith, past, l)))
