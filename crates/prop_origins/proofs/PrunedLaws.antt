-- What pruning leaves.
use Rattle.std.proofs.Common.{◌≡◌, ◌∙◌, ◌≤◌, ◌==◌, ◌||◌, ◌++◌, arith, ℕ, Bool, true, false, List, [], ◌∷◌, refl, sym}
use Rattle.std.proofs.Common.{ap, if◌then◌else◌, inl, inr, append_assoc, slice_index_or}
use Rattle.std.proofs.lemmas.Bool.Decides.{eqb_tells}
use Rattle.prop_lattice.specs.declared.info.Info.{Info}
use Rattle.prop_lattice.specs.Order.{merge_of}
use Rattle.prop_numbers.specs.Sets.{set_of}
use Rattle.prop_origins.specs.Parts.{Part, made, rests_on, calls_in, reads, AreWanted}
use Rattle.prop_origins.specs.Pruned.{pruned, marked_in}

pub or_first : (a b : Bool) → a ≡ true → (a || b) ≡ true
or_first true b e = refl
or_first false b e = cc

pub or_second : (a b : Bool) → b ≡ true → (a || b) ≡ true
or_second true b e = refl
or_second false b e = e

-- the cells that are wanted behind a part that is kept
abbrev pub wanted_behind : (ℕ → Bool) → Part → ℕ → Bool
wanted_behind wanted p cell = wanted cell || reads p cell

-- a part at a cell that isn't wanted is at another than one that is
elsewhere : (wanted : ℕ → Bool) (a b : ℕ) → wanted a ≡ false → wanted b ≡ true → (a == b) ≡ false
elsewhere wanted a b without within =
    elim (eqb_tells a b) as (λ _. (a == b) ≡ false) [
      | inl e ↦ (let same : wanted a ≡ wanted b = ap wanted e.1 in cc)
      | inr e ↦ e.0
    ]

made_by : (wanted : ℕ → Bool) (p : Part) (ps : List Part) (c : ℕ) → wanted c ≡ true → (b : Bool) → wanted p.cell ≡ b
    → made (pruned (wanted_behind wanted p) ps) c ≡ made ps c → made (pruned wanted ps) c ≡ made ps c →
    made (if b then p ∷ pruned (wanted_behind wanted p) ps else pruned wanted ps) c ≡ made (p ∷ ps) c
made_by wanted p ps c w true e kept left = ap (λ (v : Info). if p.cell == c then merge_of v p.value else v) kept
made_by wanted p ps c w false e kept left =
    left ∙ ap (λ (b : Bool). if b then merge_of (made ps c) p.value else made ps c)
    (sym (elsewhere wanted p.cell c e w))

-- of the calls no more are left
pub pruned_calls : (wanted : ℕ → Bool) (ps : List Part) → calls_in (pruned wanted ps) ≤ calls_in ps
pruned_calls wanted [] = omega arith
pruned_calls wanted (p ∷ ps) =
    by (wanted p.cell) (pruned_calls (wanted_behind wanted p) ps) (pruned_calls wanted ps)
  where
    by : (b : Bool) → calls_in (pruned (wanted_behind wanted p) ps) ≤ calls_in ps
        → calls_in (pruned wanted ps) ≤ calls_in ps
        → calls_in (if b then p ∷ pruned (wanted_behind wanted p) ps else pruned wanted ps) ≤ calls_in (p ∷ ps)
    by true kept left = omega (arith, kept)
    by false kept left = omega (arith, left)

-- of a cell that is wanted the parts that are left say what all said
pub pruned_made : (wanted : ℕ → Bool) (ps : List Part) (c : ℕ) → wanted c ≡ true
    → made (pruned wanted ps) c ≡ made ps c
pruned_made wanted [] c w = refl
pruned_made wanted (p ∷ ps) c w =
    made_by wanted p ps c w (wanted p.cell) refl
    (pruned_made (wanted_behind wanted p) ps c (or_first (wanted c) (reads p c) w)) (pruned_made wanted ps c w)

rests_by : (wanted : ℕ → Bool) (p : Part) (ps : List Part) (c q : ℕ) → wanted c ≡ true → (b : Bool)
    → wanted p.cell ≡ b → rests_on (pruned (wanted_behind wanted p) ps) c q ≡ rests_on ps c q
    → rests_on (pruned wanted ps) c q ≡ rests_on ps c q →
    rests_on (if b then p ∷ pruned (wanted_behind wanted p) ps else pruned wanted ps) c q ≡ rests_on (p ∷ ps) c q
rests_by wanted p ps c q w true e kept left = ap (λ (v : Bool). if p.cell == c then v || set_of p.support q else v) kept
rests_by wanted p ps c q w false e kept left =
    left ∙ ap (λ (b : Bool). if b then rests_on ps c q || set_of p.support q else rests_on ps c q)
    (sym (elsewhere wanted p.cell c e w))

-- and rest on what all rested on
pub pruned_rests : (wanted : ℕ → Bool) (ps : List Part) (c q : ℕ) → wanted c ≡ true
    → rests_on (pruned wanted ps) c q ≡ rests_on ps c q
pruned_rests wanted [] c q w = refl
pruned_rests wanted (p ∷ ps) c q w =
    rests_by wanted p ps c q w (wanted p.cell) refl
    (pruned_rests (wanted_behind wanted p) ps c q (or_first (wanted c) (reads p c) w)) (pruned_rests wanted ps c q w)

wanted_by : (wanted : ℕ → Bool) (p : Part) (ps : List Part) (b : Bool) → wanted p.cell ≡ b
    → AreWanted (wanted_behind wanted p) (pruned (wanted_behind wanted p) ps) → AreWanted wanted (pruned wanted ps)
    → AreWanted wanted (if b then p ∷ pruned (wanted_behind wanted p) ps else pruned wanted ps)
wanted_by wanted p ps true e kept left = (e, kept)
wanted_by wanted p ps false e kept left = left

-- each of them is wanted
pub pruned_wanted : (wanted : ℕ → Bool) (ps : List Part) → AreWanted wanted (pruned wanted ps)
pruned_wanted wanted [] = tt
pruned_wanted wanted (p ∷ ps) =
    wanted_by wanted p ps (wanted p.cell) refl (pruned_wanted (wanted_behind wanted p) ps) (pruned_wanted wanted ps)

-- what is wanted at every cell alike leaves the same parts
pub pruned_same : (w v : ℕ → Bool) (ps : List Part) → ((c : ℕ) → w c ≡ v c) → pruned w ps ≡ pruned v ps
pruned_same w v ps e = λ i. pruned (λ c. e c i) ps

-- one part more was looked at, which is kept
pub pruned_kept : (wanted : ℕ → Bool) (p : Part) (ps : List Part) → wanted p.cell ≡ true
    → pruned wanted (p ∷ ps) ≡ p ∷ pruned (wanted_behind wanted p) ps
pruned_kept wanted p ps e =
    ap (λ (b : Bool). if b then p ∷ pruned (wanted_behind wanted p) ps else pruned wanted ps) e

-- or which isn't
pub pruned_left : (wanted : ℕ → Bool) (p : Part) (ps : List Part) → wanted p.cell ≡ false
    → pruned wanted (p ∷ ps) ≡ pruned wanted ps
pruned_left wanted p ps e =
    ap (λ (b : Bool). if b then p ∷ pruned (wanted_behind wanted p) ps else pruned wanted ps) e

-- one part was looked at, which goes
pub looked_left : (marks : List Bool) (kept : List Part) (p : Part) (behind : List Part)
    → slice_index_or marks p.cell false ≡ false
    → kept ++ pruned (marked_in marks) (p ∷ behind) ≡ kept ++ pruned (marked_in marks) behind
looked_left marks kept p behind off = ap (λ (xs : List Part). kept ++ xs) (pruned_left (marked_in marks) p behind off)

-- or which is kept, and what it reads is marked
pub looked_kept : (marks new : List Bool) (kept after : List Part) (p : Part) (behind : List Part)
    → slice_index_or marks p.cell false ≡ true
    → ((k : ℕ) → slice_index_or new k false ≡ (slice_index_or marks k false || reads p k)) → after ≡ kept ++ p ∷ [] →
    kept ++ pruned (marked_in marks) (p ∷ behind) ≡ after ++ pruned (marked_in new) behind
looked_kept marks new kept after p behind on same is =
    ap (λ (xs : List Part). kept ++ xs) (pruned_kept (marked_in marks) p behind on
    ∙ ap (λ (xs : List Part). p ∷ xs)
    (pruned_same (wanted_behind (marked_in marks) p) (marked_in new) behind (λ k. sym (same k))))
    ∙ sym (append_assoc kept (p ∷ []) (pruned (marked_in new) behind))
    ∙ ap (λ (xs : List Part). xs ++ pruned (marked_in new) behind) (sym is)
