-- A seeker as the machine sees it, and what it keeps.
use Rattle.std.specs.Prelude.{◌≡◌, ◌⊎◌, ◌≤◌, ◌<◌, ℕ, List, [], ◌++◌, Option, Some, None}
use Rattle.std.specs.Prelude.{IfSome, true}
use Rattle.std.specs.Prelude.{All, Result, Ok, Err, length, map, slice_index, ⊤}
use Rattle.std.specs.List.{AllZip}
use Rattle.std.specs.Option.{option_map}
use Rattle.prop_lattice.specs.Ends.{span_from}
use Rattle.prop_lattice.specs.Points.{Point}
use Rattle.prop_lattice.specs.declared.info.Info.{Info}
use Rattle.prop_lattice.specs.declared.info.Info.TheVariants as infos
use Rattle.prop_numbers.specs.Sets.{IsPart, set_of}
use Rattle.prop_premises.specs.ChoiceLists.{IsChoiceList, worldview}
use Rattle.prop_premises.specs.Origins.{Origin, believed_in, choices_of}
use Rattle.prop_procedures.specs.declared.shape.Kinded.{Kinded}
use Rattle.prop_procedures.specs.declared.shape.Param.{Param}
use Rattle.prop_procedures.specs.Stored.{Stored}
use Rattle.prop_cells.specs.Data.{Data}
use Rattle.prop_cells.specs.Points.{ArePoints}
use Rattle.prop_facts.specs.declared.fact.Fact.{Fact}
use Rattle.prop_facts.specs.declared.fact.Fact.TheVariants.{Is, Among, Same}
use Rattle.prop_facts.specs.declared.fact.Literal.{Literal}
use Rattle.prop_plans.specs.Held.{AreHeld, attached_of}
use Rattle.prop_plans.specs.Plans.{value_in}
use Rattle.prop_deriving.specs.Known.{IsExcused}
use Rattle.prop_refusals.specs.declared.refusal.Refusal.{Refusal}
use Rattle.prop_refusals.specs.declared.refusal.Refusal.TheVariants.{Memory}
use Rattle.prop_workbench.specs.Machine.{State, new_state}
use Rattle.prop_workbench.specs.Sessions.{library_of, IsMeant, IsSound}
use Rattle.prop_workbench.specs.declared.session.Session.{Session}
use Rattle.prop_telling.specs.inner.Telling.{told_of}
use Rattle.prop_lessons.specs.Lessons.{AreTaught}
use Rattle.prop_solve.specs.Leaving.{IsOf}
use Rattle.prop_solve.specs.Questions.{AreExcusing, excused_then, is_optimum, value_fact}
use Rattle.prop_solve.specs.Searches.{Search, IsSearch}
use Rattle.prop_solve.specs.declared.solver.Plan.{Plan as PlanOf}
use Rattle.prop_solve.specs.declared.question.Goal.{Goal}
use Rattle.prop_solve.specs.declared.question.Goal.TheVariants as goals
use Rattle.prop_seeking.specs.Asking.{Aim, Question, Any, Least, Greatest, Differing}
use Rattle.prop_seeking.specs.Texts.{Plan}
use Rattle.prop_seeking.specs.Plans.{Fits, Says}
use Rattle.prop_seeking.specs.Seeking.{Sought}
use Rattle.prop_seeking.specs.declared.question.Aim.{Aim as AimOf}
use Rattle.prop_seeking.specs.declared.question.Aim.TheVariants as aims
use Rattle.prop_seeking.specs.declared.question.Asked.{Asked as AskedOf}
use Rattle.prop_seeking.specs.declared.inquiry.End.{End}
use Rattle.prop_seeking.specs.declared.inquiry.End.TheVariants.{Refuted, Open}
use Rattle.prop_seeking.specs.declared.inquiry.Inquiry.{Inquiry as InquiryOf}
use Rattle.prop_seeking.specs.declared.seeker.Seeker.{Seeker}

-- what a search for plans goes over: a library of procedures, cells with statements and instances,
-- and premises
pub record Ground : Type 0 where
  pub library : List Stored
  pub cells : Data
  pub premises : List Origin

abbrev pub ground_at : List Stored → Data → List Origin → Ground
ground_at library d premises = record { library = library; cells = d; premises = premises }

-- a state that has these cells and premises, and in which nothing has a name
abbrev pub state_at : Ground → State
state_at g = record (new_state 0) {
  kinds = g.cells.kinds;
  premises = g.premises;
  statements = g.cells.statements;
  instances = g.cells.instances;
}

-- the plan that the program's own form of it stands for
abbrev pub plan_of : PlanOf → Plan
plan_of p = record { values = value_in p.values.items; sides = p.sides.items }

-- ---- what is asked

-- what a search with this goal looks for
abbrev pub aim_of : Goal → Aim
aim_of goals.Any = Any
aim_of (goals.Least cell) = Least
aim_of (goals.Greatest cell) = Greatest
aim_of goals.Differing = Differing

-- what the program's own form of an aim stands for
abbrev pub aim_said : AimOf → Aim
aim_said aims.Any = Any
aim_said aims.Least = Least
aim_said aims.Greatest = Greatest
aim_said aims.Differing = Differing

-- if a least or a greatest number is looked for, it is that of the first of these cells
abbrev pub IsFirst : Goal → List ℕ → Type 0
IsFirst (goals.Least cell) named = slice_index named 0 ≡ cell
IsFirst (goals.Greatest cell) named = slice_index named 0 ≡ cell
IsFirst goal named = ⊤

-- the question that a goal and named cells stand for
abbrev pub question_of : Goal → List ℕ → Question
question_of goal named = record { aim = aim_of goal; named = named }

-- what the program's own form of what was asked stands for: the question, and how many plans at
-- most
abbrev pub asked_of : AskedOf → Question × ℕ
asked_of a = (question_of a.goal a.named.items, a.most)

-- where a least or a greatest number was asked for, it is that of the first cell named; all cells
-- named are there
pub record IsApt (kinds : List Kinded) (a : AskedOf) : Type 0 where
  pub first : IsFirst a.goal a.named.items
  pub within : All (λ cell. cell < length kinds) a.named.items

-- the program found what it should, or memory was refused
abbrev pub Gives : {A B : Type 0} → (A → B) → Result A Refusal → Result B Refusal → Type 0
Gives see (Ok a) is = is ≡ Ok (see a)
Gives see (Err refusal) is = (refusal ≡ Memory) ⊎ (is ≡ Err refusal)

-- ---- what is excused

-- the information that a fact gives of a value, and none where it doesn't tell the value
abbrev pub info_of : Fact → Info
info_of (Is n) = span_from n n
info_of (Among elements) = infos.Set elements
info_of (Same symbol) = infos.Sym symbol
info_of fact = infos.Nothing

-- the row of values that these facts tell
abbrev pub row_of : List Literal → List Info
row_of facts = map (λ (x : Literal). info_of x.fact) facts

-- the rows that were told where plans that differ are asked for; for other goals there are none
abbrev pub rows_in : Goal → List (List Literal) → List (List Info)
rows_in goals.Differing excuses = map row_of excuses
rows_in goal excuses = []

-- one fact for each of these cells, in order, and each tells a value
abbrev pub AreOf : List ℕ → List Literal → Type 0
AreOf named facts = AllZip (λ cell (x : Literal). (x.place ≡ cell)
    × ((info : Info) × (value_fact info ≡ Some x.fact))) named facts

-- These believed premises refute all points but excused ones: whichever choice list is taken,
-- points that satisfy what they and its sides say have all facts of one of these lists.
pub record IsAllBut (g : Ground) (excuses : List (List Literal)) (by : List ℕ) : Type 0 where
  pub believed : IsPart (set_of by) (believed_in g.premises)
  pub only : (list : List ℕ) (points : ℕ → Point) → IsChoiceList (choices_of g.premises) list
      → ArePoints (AreHeld g.library) (attached_of g.cells)
      (worldview (set_of by) (choices_of g.premises) list) points
      → IsExcused (attached_of g.cells) excuses points list

-- ---- a question under way

abbrev pub inquiry_of : InquiryOf → Question × List (List Info)
inquiry_of i =
    (question_of i.solver.goal i.solver.named, rows_in i.solver.goal i.solver.excuses)

-- The last plan that was found fits, and the search excuses what follows from it. Where none was
-- found, it excuses nothing.
abbrev pub IsLast : Ground → Search → Option PlanOf → Type 0
IsLast g s (Some p) = Fits g.library (state_at g) (plan_of p)
    × ((facts : List Literal) × AreExcusing s.goal s.named p.values.items facts
    × (s.excuses ≡ excused_then s.goal [] facts))
IsLast g s None = s.excuses ≡ []

-- What holds of a question under way. Its search is over what is there, and its cells are there.
-- Where plans that differ are asked for, what is excused tells values of the named cells; for
-- another goal the last plan fits. The network and the choices that it keeps for later (`past`) are
-- those that are there.
pub record IsInquiry (g : Ground) (i : InquiryOf) : Type 0 where
  pub search : IsSearch g.library g.cells g.premises i.solver
  pub first : IsFirst i.solver.goal i.solver.named
  pub within : All (λ cell. cell < length g.cells.kinds) i.solver.named
  pub last : (i.solver.goal ≡ goals.Differing → ⊥) → IsLast g i.solver i.last
  pub rows : i.solver.goal ≡ goals.Differing → All (AreOf i.solver.named) i.solver.excuses
  pub past : IsOf g.cells g.premises i.past

-- one plan is looked for: the first, or one that is better than the last
abbrev pub IsOpen : InquiryOf → Type 0
IsOpen i = (i.solver.goal ≡ goals.Differing → ⊥)
    × ((is_optimum i.solver.goal ≡ true) ⊎ (i.last ≡ None))

-- the question under way is one of these
abbrev pub IsOpenIn : Option InquiryOf → Type 0
IsOpenIn inquiry = (i : InquiryOf) × (inquiry ≡ Some i) × IsOpen i

-- the rows that were told before a question: none where it begins, and those of the same question
-- where it goes on
abbrev pub AreBefore : Option (Question × List (List Info)) → Question → List (List Info) → Type 0
AreBefore old q rows = (rows ≡ []) ⊎ (old ≡ Some (q, rows))

-- how a search for more plans ended: these premises refute all but excused points, or that is open
abbrev pub IsEnd : Ground → List (List Literal) → End → Type 0
IsEnd g excuses (Refuted by) = IsAllBut g excuses by
IsEnd g excuses Open = ⊤

-- both have the same goal and name the same cells
pub record IsSameQuestion (old new : InquiryOf) : Type 0 where
  pub goal : new.solver.goal ≡ old.solver.goal
  pub named : new.solver.named ≡ old.solver.named

-- Plans were found, no more than so many. Each fits, and their rows join those that were excused
-- before.
pub record AreFound (g : Ground) (named : List ℕ) (most : ℕ) (before after : List (List Literal))
    (ps : List Plan) : Type 0 where
  pub fit : All (Fits g.library (state_at g)) ps
  pub few : length ps ≤ most
  pub grown : map row_of after ≡ map row_of before ++ map (λ (p : Plan). map p.values named) ps
  pub rows : All (AreOf named) after

-- the text is a reply to the search's question that is so, from what was excused before to what is
-- then
abbrev pub Answers : List Stored → State → Search → ℕ → (before after : List (List Literal))
    → List ℕ → Type 0
Answers library s search most before after text = Says library s
    (question_of search.goal search.named) most (rows_in search.goal before)
    (rows_in search.goal after) text

-- The text replies what is so to what was asked, from the rows told before to those told then, and
-- the question may be gone on with.
pub record Replied (library : List Stored) (s : State) (old : Option (Question × List (List Info)))
    (asked : Question × ℕ) (new : Option (Question × List (List Info))) (text : List ℕ) : Type 0
  where
    pub before : List (List Info)
    pub after : List (List Info)
    pub begins : AreBefore old asked.0 before
    pub says : Says library s asked.0 asked.1 before after text
    pub goes_on : new ≡ Some (asked.0, after)

-- where a seeker stands
abbrev pub sought_of : {R O : Type 0} {X : Type 0} {F : X → Type 0} {g : _} → Seeker R O X F g
    → Sought O
sought_of s = record { told = told_of s.teller; inquiry = option_map inquiry_of s.inquiry }

-- what of a session a search for plans goes over
abbrev pub ground_in : {R O : Type 0} {X : Type 0} {F : X → Type 0} {g : _}
    → (R → Param → List Info → Info) → Session R O X F g → Ground
ground_in value s =
    ground_at (library_of value s) s.live.network.cells s.search.premises

-- what holds of a seeker between lines
pub record IsReady {R O : Type 0} {X : Type 0} {F : X → Type 0} {g : _}
    (value : R → Param → List Info → Info) (s : Seeker R O X F g) : Type 0 where
  pub means : IsMeant value s.teller.session
  pub sound : IsSound value s.teller.session
  pub inquiry : IfSome s.inquiry (IsInquiry (ground_in value s.teller.session))
  pub earlier : IfSome s.earlier (AreTaught (library_of value s.teller.session))
