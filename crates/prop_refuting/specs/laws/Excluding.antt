-- Steps from nogoods to a new one: if whatever met the old ones is excused, whatever meets the new
-- one is.
use Rattle.std.specs.Prelude.{◌≡◌, ℕ, List, [], All}
use Rattle.std.proofs.Common.{inl, inr, subst, sym}
use Rattle.std.proofs.lemmas.List.Elements.{All-nil}
use Rattle.prop_lattice.specs.Points.{Point}
use Rattle.prop_numbers.specs.Sets.{set_of}
use Rattle.prop_premises.specs.ChoiceLists.{IsChoiceList, worldview}
use Rattle.prop_premises.specs.declared.choice.Choice.{Choice}
use Rattle.prop_procedures.specs.Stored.{Stored}
use Rattle.prop_cells.specs.Points.{Attached, ArePoints}
use Rattle.prop_facts.specs.declared.fact.Literal.{Literal}
use Rattle.prop_refuting.specs.Nogoods.{Excludes, IsNeverMet, Narrows, Nogood, Resolves}
use Rattle.prop_plans.specs.Held.{AreHeld}
use Rattle.prop_refuting.specs.Places.{IsSoAt}

module _ (library : List Stored) (n : Attached) (choices : List Choice) where
  -- a step from one nogood
  pub excludes_narrowed : (Excuse : (ℕ → Point) → List ℕ → Type 0) (old new : Nogood)
      → Narrows library n choices old new → Excludes library n choices Excuse old
      → Excludes library n choices Excuse new
  excludes_narrowed Excuse old new h e =
      record { out = λ list points c m. e.out list points c (h list points c m) }

  -- a step from two
  pub excludes_resolved : (Excuse : (ℕ → Point) → List ℕ → Type 0) (old other new : Nogood)
      → Resolves library n choices old other new → Excludes library n choices Excuse old
      → Excludes library n choices Excuse other → Excludes library n choices Excuse new
  excludes_resolved Excuse old other new h e f = record {
    out = λ list points c m. elim (h list points c m)
        [ inl a ↦ e.out list points c a | inr b ↦ f.out list points c b ];
  }

  -- what is excused is excused by any wider excuse
  pub excludes_more : (Excuse Wider : (ℕ → Point) → List ℕ → Type 0) (g : Nogood)
      → ((points : ℕ → Point) (list : List ℕ) → Excuse points list → Wider points list)
      → Excludes library n choices Excuse g → Excludes library n choices Wider g
  excludes_more Excuse Wider g grows e =
      record { out = λ list points c m. grows points list (e.out list points c m) }

  -- what is never met is excluded under any excuse
  pub excludes_never : (Excuse : (ℕ → Point) → List ℕ → Type 0) (g : Nogood)
      → IsNeverMet library n choices g → Excludes library n choices Excuse g
  excludes_never Excuse g never =
      record { out = λ list points c m. absurd (never list points c m) }

  -- no points satisfy what the premises of an excluded nogood without facts say, with any side of
  -- each choice, unless they are excused
  pub excused_alone : (Excuse : (ℕ → Point) → List ℕ → Type 0) (g : Nogood) → g.literals ≡ []
      → Excludes library n choices Excuse g → (list : List ℕ) → IsChoiceList choices list
      → (points : ℕ → Point)
      → ArePoints (AreHeld library) n (worldview (set_of g.premises) choices list) points
      → Excuse points list
  excused_alone Excuse g none e list c points p =
      let Q : List Literal → Type 0 = All (IsSoAt n points list) in
      e.out list points c
      (record { satisfied = p; so = subst Q (sym none) (All-nil (IsSoAt n points list)) })
