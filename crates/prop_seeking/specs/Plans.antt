-- Plans, which are points that fit, and what is replied to a question for some.
use Rattle.std.specs.Prelude.{◌≡◌, ◌⊎◌, ◌<◌, ◌≤◌, ◌≤ℤ◌, ℕ, List, ◌++◌, Option, IfSome}
use Rattle.std.specs.Prelude.{All, Contains, codes, length, map, slice_index, unwrap_or}
use Rattle.std.specs.List.{AllZip}
use Rattle.prop_lattice.specs.Points.{Point, Number, Holds}
use Rattle.prop_lattice.specs.declared.info.Info.{Info}
use Rattle.prop_lattice.specs.declared.info.Info.TheVariants.{Span}
use Rattle.prop_numbers.specs.Sets.{IsPart, set_of}
use Rattle.prop_premises.specs.ChoiceLists.{IsChoiceList, worldview}
use Rattle.prop_premises.specs.Origins.{believed_in}
use Rattle.prop_procedures.specs.Stored.{Stored}
use Rattle.prop_points.specs.Singles.{IsSingle}
use Rattle.prop_texts.specs.Texts.{support_text}
use Rattle.prop_workbench.specs.Machine.{State, choices_in, worldview_at}
use Rattle.prop_workbench.specs.Points.{Satisfy}
use Rattle.prop_seeking.specs.Asking.{Aim, Least, Greatest, Differing, Question}
use Rattle.prop_seeking.specs.Texts.{Plan, many_text, one_text}

-- The plan fits. It takes one side of each choice, each of its values leaves a single point, and
-- these points satisfy what is believed with its sides.
abbrev pub Fits : List Stored → State → Plan → Type 0
Fits library s p = IsChoiceList (choices_in s) p.sides × ((points : ℕ → Point)
    × ((cell : ℕ) → cell < length s.kinds → IsSingle (p.values cell) (points cell))
    × Satisfy library s (worldview_at s p.sides) points)

-- These believed premises refute all points but excused ones: whichever choice list is taken, only
-- excused points satisfy what they and its sides say.
abbrev pub Refutes : List Stored → State → ((ℕ → Point) → Type 0) → List ℕ → Type 0
Refutes library s Excused by = IsPart (set_of by) (believed_in s.premises)
    × ((list : List ℕ) (points : ℕ → Point) → IsChoiceList (choices_in s) list
    → Satisfy library s (worldview (set_of by) (choices_in s) list) points → Excused points)

-- the text says that no plan fits, and which premises refute all; or that this is open
abbrev pub SaysNone : List Stored → State → List ℕ → Type 0
SaysNone library s text = (text ≡ codes "unsettled") ⊎ ((by : List ℕ)
    × Refutes library s (λ points. ⊥) by × (text ≡ codes "none:" ++ support_text s.premises by))

-- the number is no better than that of the value: it is no less where the least is asked for, and
-- no greater where the greatest is
abbrev pub IsNoBetter : Aim → Info → Point → Type 0
IsNoBetter Least (Span s) (Number v) = s.lo ≤ℤ v
IsNoBetter Greatest (Span s) (Number v) = v ≤ℤ s.hi
IsNoBetter aim a p = ⊥

-- The text tells a plan that fits. Where it names premises, these refute all points that are
-- better: that have a better number than the plan, or than a bound (`end`) where one is told. Where
-- it names none, that is open.
abbrev pub SaysOne : List Stored → State → Aim → ℕ → List ℕ → Type 0
SaysOne library s aim cell text = (p : Plan) × (end : Option Info) × (by : Option (List ℕ))
    × Fits library s p × IfSome by (Refutes library s (λ points. IsNoBetter aim
    (unwrap_or end (p.values cell)) (points cell))) × (text ≡ one_text s aim cell p end by)

-- at the named cells, the points lie in the values of one of these rows
abbrev pub AreTold : List ℕ → List (List Info) → (ℕ → Point) → Type 0
AreTold named rows points =
    (row : List Info) × Contains rows row × AllZip (λ cell a. Holds a (points cell)) named row

-- The text tells plans that fit, no more than were asked for. The rows of their values at the named
-- cells join those that were told before. Where it names premises, these refute all points but
-- those of the rows. Where it names none, that is open.
abbrev pub SaysMany : List Stored → State → List ℕ → ℕ → (before after : List (List Info))
    → List ℕ → Type 0
SaysMany library s named most before after text =
    (ps : List Plan) × (by : Option (List ℕ)) × All (Fits library s) ps × (length ps ≤ most)
    × (after ≡ before ++ map (λ p. map p.values named) ps)
    × IfSome by (Refutes library s (AreTold named after)) × (text ≡ many_text s named ps by)

-- what the text replies to the question is so, where rows were told before (`before`), and these
-- are all that have been told then (`after`)
abbrev pub Says : List Stored → State → Question → ℕ → (before after : List (List Info)) → List ℕ
    → Type 0
Says library s q most before after text =
    ((after ≡ before) × SaysNone library s text) ⊎ elim q.aim [
      | Differing ↦ SaysMany library s q.named most before after text
      | _ ↦ (after ≡ before) × SaysOne library s q.aim (slice_index q.named 0) text
    ]
