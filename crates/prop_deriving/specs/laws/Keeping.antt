-- Which steps from known nogoods lead to known ones.
use Rattle.std.specs.Prelude.{◌≡◌, ℕ, List, [], All, Contains}
use Rattle.std.proofs.Common.{subst, sym}
use Rattle.std.proofs.lemmas.Bool.{false≢true}
use Rattle.prop_lattice.specs.Points.{Point}
use Rattle.prop_numbers.specs.Sets.{IsPart, Members, set_of}
use Rattle.prop_premises.specs.ChoiceLists.{IsChoiceList, worldview}
use Rattle.prop_premises.specs.declared.choice.Choice.{Choice}
use Rattle.prop_procedures.specs.Stored.{Stored}
use Rattle.prop_cells.specs.Points.{Attached, ArePoints}
use Rattle.prop_plans.specs.Held.{AreHeld}
use Rattle.prop_facts.specs.declared.fact.Literal.{Literal}
use Rattle.prop_refuting.specs.Nogoods.{Excludes, IsNeverMet, Narrows, Nogood, Resolves}
use Rattle.prop_refuting.specs.Places.{IsSoAt}
use Rattle.prop_refuting.specs.laws.Excluding.{excludes_narrowed, excludes_resolved, excludes_more}
use Rattle.prop_refuting.specs.laws.Excluding.{excludes_never, excused_alone}
use Rattle.prop_refuting.proofs.MeetLemmas.{satisfy_less, world_grows}
use Rattle.prop_deriving.specs.Known.{IsExcused, IsKnown}

-- a nogood without premises rests on any set
pub no_premises : (s : Members) (premises : List ℕ) → premises ≡ [] → IsPart (set_of premises) s
no_premises s premises none = let P : List ℕ → Type 0 = λ ps. IsPart (set_of ps) s in
    let empty : IsPart (set_of []) s = λ p h. absurd (false≢true h) in subst P (sym none) empty

module _ (library : List Stored) (n : Attached) (choices : List Choice) (s : Members)
    (excuses : List (List Literal)) where
  -- a step from one nogood, whose premises may change within the set
  pub known_narrowed : (old new : Nogood) → Narrows library n choices old new
      → IsPart (set_of new.premises) s → IsKnown library n choices s excuses old
      → IsKnown library n choices s excuses new
  known_narrowed old new h part k = record {
    within = part;
    excluded =
        excludes_narrowed library n choices (IsExcused n excuses) old new h k.excluded;
  }

  -- a step from two nogoods
  pub known_resolved : (old other new : Nogood) → Resolves library n choices old other new
      → IsPart (set_of new.premises) s → IsKnown library n choices s excuses old
      → IsKnown library n choices s excuses other → IsKnown library n choices s excuses new
  known_resolved old other new h part k l = record {
    within = part;
    excluded = excludes_resolved library n choices (IsExcused n excuses) old other new h k.excluded
        l.excluded;
  }

  -- a nogood that is met only by what has all of some facts, where these are an excuse
  pub known_excused : (g : Nogood) (facts : List Literal) → g.premises ≡ []
      → Contains excuses facts
      → Excludes library n choices (λ points list. All (IsSoAt n points list) facts) g
      → IsKnown library n choices s excuses g
  known_excused g facts none there e = record {
    within = no_premises s g.premises none;
    excluded = excludes_more library n choices (λ points list. All (IsSoAt n points list) facts)
        (IsExcused n excuses) g (λ points list so. (facts, there, so)) e;
  }

  -- a nogood that is never met
  pub known_never : (g : Nogood) → g.premises ≡ [] → IsNeverMet library n choices g
      → IsKnown library n choices s excuses g
  known_never g none never = record {
    within = no_premises s g.premises none;
    excluded = excludes_never library n choices (IsExcused n excuses) g never;
  }

  -- what is known stays known where more is excused
  pub known_more : (more : List (List Literal)) (g : Nogood)
      → ((facts : List Literal) → Contains excuses facts → Contains more facts)
      → IsKnown library n choices s excuses g → IsKnown library n choices s more g
  known_more more g grows k = record {
    within = k.within;
    excluded = excludes_more library n choices (IsExcused n excuses) (IsExcused n more) g
        (λ points list e. (e.0, grows e.0 e.1, e.2)) k.excluded;
  }

  -- What a known nogood without facts says: no points satisfy what the set says, with any side of
  -- each choice, unless they are excused.
  pub known_refutes : (g : Nogood) → g.literals ≡ [] → IsKnown library n choices s excuses g
      → (list : List ℕ) → IsChoiceList choices list → (points : ℕ → Point)
      → ArePoints (AreHeld library) n (worldview s choices list) points
      → IsExcused n excuses points list
  known_refutes g none k list c points p =
      excused_alone library n choices (IsExcused n excuses) g none k.excluded list c points
      (satisfy_less {related = AreHeld library} n (worldview (set_of g.premises) choices list)
      (worldview s choices list) points (world_grows (set_of g.premises) s choices list k.within) p)
