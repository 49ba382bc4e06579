-- The move that follows where a noted nogood refutes a list.
use Rattle.std.proofs.Common.{◌≡◌, ◌∙◌, ◌<◌, ℕ, List, Contains, true, false, IsTrue, refl, sym, subst, inl, inr}
use Rattle.std.proofs.lemmas.List.Elements.{All-contains}
use Rattle.prop_numbers.specs.Sets.{set_of, is_within}
use Rattle.prop_numbers.proofs.WithinLemmas.{within_has, within_from}
use Rattle.prop_cells.specs.Problems.{Problem}
use Rattle.prop_nogoods.specs.Stores.{has_part}
use Rattle.prop_nogoods.proofs.StoreLaws.{has_part-from}
use Rattle.prop_amb.specs.Refuted.{IsNogood}
use Rattle.prop_amb.specs.Search.{Stand, IsStand, IsSearch, choices_in}
use Rattle.prop_amb.specs.Resolving.{IfAgainst, MayAdvance, premises_of}
use Rattle.prop_amb.specs.declared.resolving.Resolved.{Resolved}
use Rattle.prop_amb.specs.declared.resolving.Resolved.TheVariants.{Against, RuledOut}
use Rattle.prop_amb.specs.Culprits.{AreCulprits, IsBlamed, MayLeave}
use Rattle.prop_amb.specs.inner.Settling.{IsMet}
use Rattle.prop_amb.specs.inner.Refuting.{IsHere, IsNext, IsFound, MayStep, IfStep, IfRuledOut}
use Rattle.prop_amb.specs.Going.{MayPass, MaySkip}
use Rattle.prop_amb.proofs.DecidingLaws.{may_move}
use Rattle.prop_amb.proofs.SearchLaws.{both}

-- a nogood that blocks a worldview is here
pub blocking_here : (s : Stand) (copy n : List ℕ) → copy ≡ n → Contains s.listed n
    → IsTrue (is_within (set_of s.worldview) n) → IsHere s copy
blocking_here s copy n same noted within = rw same (record {
  noted = noted;
  believed = λ p t. within_has (set_of s.worldview) n p within t;
})

-- which of the two kinds it is, the worldview tells
pub here_of : (s : Stand) (n : List ℕ) → IsFound s n → is_within (set_of s.worldview) n ≡ true → IsHere s n
here_of s n found within = record {
  noted = elim found [ inl h ↦ h.noted | inr x ↦ x.may.noted ];
  believed = λ p t. within_has (set_of s.worldview) n p within t;
}

pub next_of : (s : Stand) (n : List ℕ) → IsFound s n → is_within (set_of s.worldview) n ≡ false → IsNext s n
next_of s n (inl h) lacks = absurd (both (within_from (set_of s.worldview) n h.believed) lacks)
next_of s n (inr x) lacks = x

-- what ends an attempt
pub met_found : (problem : Problem) (s : Stand) (n : List ℕ) → IsMet problem s n → IsFound s n
met_found problem s n met = inl (record { noted = met.noted; believed = met.believed })

-- a choice that may go on has a side left
pub pass_may : (s : Stand) → MayPass s → (j : ℕ) × MayAdvance s j
pass_may s (inl (j, may)) = (j, may.leaves.may)
pass_may s (inr (n, skip)) = (s.level, skip.may)

pub why_pass : (s : Stand) (j : ℕ) (reason : List ℕ) → MayStep s j reason → MayPass s
why_pass s j reason (inl (below, (may, culprits))) = inl (j, may)
why_pass s j reason (inr (at, free, skip)) = inr (reason, skip)

pub step_may : (s : Stand) (j : ℕ) (reason : List ℕ) → MayStep s j reason → MayAdvance s j
step_may s j reason (inl (below, (may, culprits))) = may.leaves.may
step_may s j reason (inr (at, free, skip)) = subst (λ k. MayAdvance s k) (sym at) skip.may

-- where nothing is found, no choice may go on
pub none_passes : (s : Stand) → IsStand s → has_part s.listed (set_of s.worldview) ≡ false
    → ((n : List ℕ) → MaySkip s n → ⊥) → MayPass s → ⊥
none_passes s stand unblocked none (inl (j, may)) =
    both (has_part-from s.listed (set_of s.worldview) may.nogood may.noted
    (λ p t. stand.believes p ∙ may.believed p t)) unblocked
none_passes s stand unblocked none (inr (n, skip)) = none n skip

-- ---- a nogood that is believed

pub step_here : (s : Stand) (n : List ℕ) (r : Resolved) → IsStand s → IsHere s n → IfAgainst r (MayLeave s n)
    → IfAgainst r (λ place. place < s.level) → AreCulprits s n (set_of (premises_of r)) → IfStep (MayStep s) r
step_here s n (Against j reason) stand here leaves below culprits =
    inl (below, (may_move s n j stand here.noted here.believed leaves, culprits))
step_here s n (RuledOut premises) stand here leaves below culprits = tt

pub blamed_here : (s : Stand) (n : List ℕ) (r : Resolved) → IsStand s → IsHere s n
    → AreCulprits s n (set_of (premises_of r)) → IfRuledOut (λ m. IsBlamed s (set_of m)) r
blamed_here s n (Against j reason) stand here culprits = tt
blamed_here s n (RuledOut premises) stand here culprits = record {
  nogood = n;
  noted = here.noted;
  believed = λ p t. sym (stand.believes p) ∙ here.believed p t;
  culprits = culprits;
}

pub nogood_here : (problem : Problem) (s : Stand) (n : List ℕ) → IsSearch problem s → IsHere s n
    → IsNogood problem (choices_in s) (set_of n) × IsTrue (has_part s.listed (set_of n))
nogood_here problem s n h here = (
  All-contains (λ line. IsNogood problem (choices_in s) (set_of line)) s.listed n h.nogoods here.noted,
  has_part-from s.listed (set_of n) n here.noted (λ p t. t),
)

-- ---- one that would be with the side of one choice more

pub step_next : (s : Stand) (n : List ℕ) → IsNext s n → MayStep s s.level n
step_next s n next = inr (refl, next.unblocked, next.may)
