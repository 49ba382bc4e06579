-- Two sessions that are given the same lines agree.
use Rattle.std.proofs.Common.{◌≡◌, ◌≢◌, ◌∙◌, ◌⊎◌, ℕ, zero, suc, List, [], ◌∷◌, codes, Option, Some, None, Result, Ok}
use Rattle.std.proofs.Common.{Err, IsTrue, inl, inr, refl, sym, ap, subst}
use Rattle.std.proofs.lemmas.List.Elements.{All-head, All-tail}
use Rattle.prop_lattice.specs.declared.info.Info.{Info}
use Rattle.prop_refusals.specs.declared.refusal.Refusal.{Refusal}
use Rattle.prop_refusals.specs.declared.refusal.Refusal.TheVariants.{Memory}
use Rattle.prop_numbers.specs.Sets.{set_of}
use Rattle.prop_premises.specs.Origins.{Origin, User, Side, is_user_at, believed_in}
use Rattle.prop_procedures.specs.Stored.{Stored}
use Rattle.prop_cells.specs.Problems.{Assignment}
use Rattle.prop_cells.proofs.ProblemLaws.{least_unique}
use Rattle.prop_vocabulary.specs.Cells.{cell_named}
use Rattle.prop_language.specs.Commands as commands
use Rattle.prop_language.specs.Commands.{Command}
use Rattle.prop_language.proofs.ReadingLaws.{one_reading}
use Rattle.prop_texts.specs.Texts.{equation, because}
use Rattle.prop_engine.specs.Answers.{Answer, Done, Text, Refused}
use Rattle.prop_engine.specs.Transcripts.{Run}
use Rattle.prop_workbench.specs.Machine.{State, problem_in, choices_in, worldview_at}
use Rattle.prop_workbench.specs.inner.Machine.{naming, text_at, users_in}
use Rattle.prop_workbench.specs.Refusing.{refusal_of}
use Rattle.prop_workbench.specs.Effects.{effect}
use Rattle.prop_workbench.specs.Running.{named_by, Settled, MayEnd, Replies, IsRest, IsValueReply, IsExplainedReply}
use Rattle.prop_workbench.specs.Steps.{Runs, AtOnce, Follows, Step}
use Rattle.prop_workbench.specs.Steps.{CarriesUnless}
use Rattle.prop_workbench.specs.inner.Steps.{Lists}
use Rattle.prop_workbench.specs.Engine.{workbench}
use Rattle.prop_workbench.specs.Agreeing.{AreAlike, HaveMemory, RunsMeet, AnswersMeet, IsCoreMark, SayOneValue}
use Rattle.prop_workbench.specs.Agreeing.{SettledTextsMeet, SettledIsFree}
use Rattle.prop_workbench.proofs.NamingLaws.{refusal_alike, effect_alike}
use Rattle.prop_amb.proofs.RefutedLaws.{first_unique, believed_refutes}

-- ---- one line

-- two states are alike, and two answers are one or both texts
abbrev Meet : State → State → Answer → Answer → Type 0
Meet first second answer other = AreAlike first second
    × ((other ≡ answer) ⊎ ((text also : List ℕ) × (answer ≡ Text text) × (other ≡ Text also)))

same_alike : (s t first second : State) → AreAlike s t → first ≡ s → second ≡ t → AreAlike first second
same_alike s t first second e f g = ap (λ u. naming u []) g ∙ e ∙ sym (ap (λ u. naming u []) f)

changes_meet : (library : List Stored) (s t first second : State) (command : Command) (answer other : Answer)
    (steps others : ℕ) → AreAlike s t → AtOnce Done (effect library s command) answer first steps
    → AtOnce Done (effect library t command) other second others → Meet first second answer other
changes_meet library s t first second command answer other steps others e r q = (
  same_alike (effect library s command) (effect library t command) first second (effect_alike library s t command e)
      r.new_is q.new_is,
  inl (q.answer_is ∙ sym r.answer_is),
)

runs_meet : (library : List Stored) (s t first second : State) (command : Command) (answer other : Answer)
    (steps others : ℕ) → AreAlike s t → Runs library s command answer first steps
    → Runs library t command other second others → Meet first second answer other
runs_meet library s t first second command answer other steps others e r q = (
  same_alike (naming s (named_by r.outcome s.named)) (naming t (named_by q.outcome t.named)) first second e r.new_is
      q.new_is,
  inr (r.text, q.text, r.answer_is, q.answer_is),
)

lists_meet : (library : List Stored) (s t first second : State) (answer other : Answer) (steps others : ℕ)
    → AreAlike s t → Lists library s answer first steps → Lists library t other second others
    → Meet first second answer other
lists_meet library s t first second answer other steps others e r q =
    (same_alike s t first second e r.2.new_is q.2.new_is, inr (_, _, r.2.answer_is, q.2.answer_is))

carried_meet : (o : Option Refusal) (library : List Stored) (s t first second : State) (command : Command)
    (answer other : Answer) (steps others : ℕ) → AreAlike s t → CarriesUnless o library s command answer first steps
    → CarriesUnless o library t command other second others → Meet first second answer other
carried_meet (Some refusal) library s t first second command answer other steps others e r q =
    (same_alike s t first second e r.new_is q.new_is, inl (q.answer_is ∙ sym r.answer_is))
carried_meet None library s t first second (commands.Command.Domain name elements) answer other steps others e r q =
    changes_meet library s t first second (commands.Command.Domain name elements) answer other steps others e r q
carried_meet None library s t first second (commands.Command.Relation name from to pairs) answer other steps others e r
    q = changes_meet library s t first second (commands.Command.Relation name from to pairs) answer other steps others e
    r q
carried_meet None library s t first second (commands.Command.Cell name kind) answer other steps others e r q =
    changes_meet library s t first second (commands.Command.Cell name kind) answer other steps others e r q
carried_meet None library s t first second (commands.Command.Define name params body) answer other steps others e r q =
    changes_meet library s t first second (commands.Command.Define name params body) answer other steps others e r q
carried_meet None library s t first second (commands.Command.Attach name cells by) answer other steps others e r q =
    changes_meet library s t first second (commands.Command.Attach name cells by) answer other steps others e r q
carried_meet None library s t first second (commands.Command.Fix cell value) answer other steps others e r q =
    changes_meet library s t first second (commands.Command.Fix cell value) answer other steps others e r q
carried_meet None library s t first second (commands.Command.Tell premise cell value) answer other steps others e r q =
    changes_meet library s t first second (commands.Command.Tell premise cell value) answer other steps others e r q
carried_meet None library s t first second (commands.Command.Choose name cell values) answer other steps others e r q =
    changes_meet library s t first second (commands.Command.Choose name cell values) answer other steps others e r q
carried_meet None library s t first second (commands.Command.Kick premise) answer other steps others e r q =
    changes_meet library s t first second (commands.Command.Kick premise) answer other steps others e r q
carried_meet None library s t first second (commands.Command.Bring premise) answer other steps others e r q =
    changes_meet library s t first second (commands.Command.Bring premise) answer other steps others e r q
carried_meet None library s t first second (commands.Command.Forget premise) answer other steps others e r q =
    changes_meet library s t first second (commands.Command.Forget premise) answer other steps others e r q
carried_meet None library s t first second (commands.Command.Limit n) answer other steps others e r q =
    changes_meet library s t first second (commands.Command.Limit n) answer other steps others e r q
carried_meet None library s t first second commands.Command.Settle answer other steps others e r q =
    runs_meet library s t first second commands.Command.Settle answer other steps others e r q
carried_meet None library s t first second (commands.Command.Ask x) answer other steps others e r q =
    runs_meet library s t first second (commands.Command.Ask x) answer other steps others e r q
carried_meet None library s t first second (commands.Command.Why x) answer other steps others e r q =
    runs_meet library s t first second (commands.Command.Why x) answer other steps others e r q
carried_meet None library s t first second (commands.Command.Core x) answer other steps others e r q =
    runs_meet library s t first second (commands.Command.Core x) answer other steps others e r q
carried_meet None library s t first second commands.Command.Worldview answer other steps others e r q =
    runs_meet library s t first second commands.Command.Worldview answer other steps others e r q
carried_meet None library s t first second commands.Command.Nogoods answer other steps others e r q =
    lists_meet library s t first second answer other steps others e r q

follows_meet : (library : List Stored) (s t first second : State) (read : Result (Option Command) Refusal)
    (answer other : Answer) (steps others : ℕ) → AreAlike s t → Follows library s read answer first steps
    → Follows library t read other second others →
    answer ≢ Refused Memory → other ≢ Refused Memory → Meet first second answer other
follows_meet library s t first second (Ok None) answer other steps others e r q n m =
    (same_alike s t first second e r.new_is q.new_is, inl (q.answer_is ∙ sym r.answer_is))
follows_meet library s t first second (Err refusal) answer other steps others e (inl r) (inl q) n m =
    (same_alike s t first second e r.new_is q.new_is, inl (q.answer_is ∙ sym r.answer_is))
follows_meet library s t first second (Err refusal) answer other steps others e (inl r) (inr q) n m =
    absurd (m q.answer_is)
follows_meet library s t first second (Err refusal) answer other steps others e (inr r) q n m = absurd (n r.answer_is)
follows_meet library s t first second (Ok (Some command)) answer other steps others e (inl r) (inl q) n m =
    carried_meet (refusal_of library s command) library s t first second command answer other steps others e r
    (rw (refusal_alike library s t command e) at q)
follows_meet library s t first second (Ok (Some command)) answer other steps others e (inl r) (inr q) n m =
    absurd (m q.answer_is)
follows_meet library s t first second (Ok (Some command)) answer other steps others e (inr r) q n m =
    absurd (n r.answer_is)

steps_meet : (library : List Stored) (s t first second : State) (line : List ℕ) (answer other : Answer)
    (steps others : ℕ) → AreAlike s t → Step library s line answer first steps → Step library t line other second others
    → answer ≢ Refused Memory → other ≢ Refused Memory → Meet first second answer other
steps_meet library s t first second line answer other steps others e (read, is_read, r) (also, is_also, q) n m =
    follows_meet library s t first second read answer other steps others e r
    (subst (λ (o : Result (Option Command) Refusal). Follows library t o other second others)
    (one_reading line read also is_read is_also) q) n m

pub answers_meet : (library : List Stored) → AnswersMeet library
answers_meet library old first second line answer other steps others r q n m =
    (steps_meet library old old first second line answer other steps others refl r q n m).1

-- ---- runs

-- the answer is not that memory was refused
abbrev IsNoWant : Answer → Type 0
IsNoWant answer = answer ≢ Refused Memory

runs_meet_from : (library : List Stored) (s t first second : State) (lines : List (List ℕ))
    (answers others : List Answer) → AreAlike s t →
    Run (workbench library) s lines answers first → Run (workbench library) t lines others second → HaveMemory answers
    → HaveMemory others → AreAlike first second
runs_meet_from library s t first second [] [] [] e r q n m = same_alike s t first second e r q
runs_meet_from library s t first second [] [] (b ∷ ks) e r q n m = absurd q
runs_meet_from library s t first second [] (a ∷ ls) ks e r q n m = absurd r
runs_meet_from library s t first second (line ∷ lines) [] ks e r q n m = absurd r
runs_meet_from library s t first second (line ∷ lines) (a ∷ ls) [] e r q n m = absurd q
runs_meet_from library s t first second (line ∷ lines) (a ∷ ls) (b ∷ ks) e (mid, step, rest) (mid', step', rest') n m =
    runs_meet_from library mid mid' first second lines ls ks
    (steps_meet library s t mid mid' line a b step.0 step'.0 e step.1 step'.1
    (All-head IsNoWant a ls n) (All-head IsNoWant b ks m)).0
    rest rest' (All-tail IsNoWant a ls n) (All-tail IsNoWant b ks m)

pub runs_meet_all : (library : List Stored) → RunsMeet (workbench library)
runs_meet_all library old first second lines answers others r q n m =
    runs_meet_from library old old first second lines answers others refl r q n m

-- ---- what settles

same_cell : (s : State) (name : List ℕ) (c d : ℕ) → cell_named s.names name ≡ Some c → cell_named s.names name ≡ Some d
    → d ≡ c
same_cell s name c d e f = let g : Some d ≡ Some c = sym f ∙ e in cc

-- what two settled replies say of a cell of one name
same_value : (library : List Stored) (s : State) (list : List ℕ) (c d : ℕ) (v w : Info) (a b : Assignment) → d ≡ c
    → v ≡ a c → w ≡ b d → IsRest library s list a → IsRest library s list b → w ≡ v
same_value library s list c d v w a b e f g r q = g ∙ ap b e
    ∙ sym (least_unique (problem_in library s) (worldview_at s list) a b r.0 q.0 c) ∙ sym f

same_text : (s : State) (name behind : List ℕ) (c d : ℕ) (v w : Info) → d ≡ c → w ≡ v
    → equation name (text_at s d w) behind ≡ equation name (text_at s c v) behind
same_text s name behind c d v w e f = λ i. equation name (text_at s (e i) (f i)) behind

values_meet : (library : List Stored) (s : State) (list name text also : List ℕ)
    → IsValueReply library s (Settled list) name [] text → IsValueReply library s (Settled list) name [] also
    → also ≡ text
values_meet library s list name text also r q =
    let e = same_cell s name r.cell q.cell r.cell_is q.cell_is in
    let f = same_value library s list r.cell q.cell r.v q.v r.value.0 q.value.0 e r.value.2 q.value.2 r.value.1
    q.value.1 in
    q.text_is ∙ same_text s name [] r.cell q.cell r.v q.v e f ∙ sym r.text_is

whys_meet : (library : List Stored) (s : State) (list name mark also_mark text also : List ℕ)
    → IsExplainedReply library s (Settled list) name mark text
    → IsExplainedReply library s (Settled list) name also_mark also → SayOneValue s name mark also_mark text also
whys_meet library s list name mark also_mark text also r q =
    let a = r.says in
    let b = q.says in
    let e = same_cell s name a.cell b.cell a.cell_is b.cell_is in
    let f = same_value library s list a.cell b.cell a.v b.v a.value.0 b.value.0 e a.value.2 b.value.2 a.value.1
    b.value.1 in
    record {
      cell = a.cell;
      cell_is = a.cell_is;
      v = a.v;
      premises = r.premises;
      others = q.premises;
      text_is = a.text_is;
      also_is = b.text_is ∙ same_text s name (because s.premises also_mark q.premises) a.cell b.cell a.v b.v e f;
    }

-- a settled core explains, whether it is reduced or not
core_explained : (library : List Stored) (s : State) (list name text : List ℕ) (steps : ℕ)
    → Replies library s (commands.Command.Core name) (Settled list) steps text
    → (mark : List ℕ) × IsCoreMark mark × IsExplainedReply library s (Settled list) name mark text
core_explained library s list name text steps (inl r) = ([], inl refl, r.0)
core_explained library s list name text steps (inr r) = (codes " not reduced", inr refl, r.0)

-- two settled ends of one state stand on one list
one_list : (library : List Stored) (s : State) (l m : List ℕ) → MayEnd library s (Settled l)
    → MayEnd library s (Settled m) → m ≡ l
one_list library s l m r q = sym (first_unique (problem_in library s) (users_in s) (choices_in s) l m r.0 q.0)

-- what may be replied where the run settled on a list
texts_meet : (library : List Stored) (s : State) (command : Command) (list text also : List ℕ) (steps others : ℕ)
    → Replies library s command (Settled list) steps text → Replies library s command (Settled list) others also →
    (also ≡ text)
    ⊎ ((name : List ℕ) × (command ≡ commands.Command.Why name) × SayOneValue s name [] [] text also)
    ⊎ ((name mark also_mark : List ℕ) × (command ≡ commands.Command.Core name) × IsCoreMark mark × IsCoreMark also_mark
    × SayOneValue s name mark also_mark text also)
texts_meet library s commands.Command.Settle list text also steps others r q = inl (q ∙ sym r)
texts_meet library s commands.Command.Worldview list text also steps others r q = inl (q ∙ sym r)
texts_meet library s (commands.Command.Ask x) list text also steps others r q =
    inl (values_meet library s list x text also r q)
texts_meet library s (commands.Command.Why x) list text also steps others r q =
    inr (inl (x, refl, whys_meet library s list x [] [] text also r q))
texts_meet library s (commands.Command.Core x) list text also steps others r q =
    let c = core_explained library s list x text steps r in
    let d = core_explained library s list x also others q in
    inr (inr (x, c.0, d.0, refl, c.1, d.1, whys_meet library s list x c.0 d.0 text also c.2 d.2))
texts_meet library s commands.Command.Nogoods list text also steps others r q = absurd r
texts_meet library s (commands.Command.Domain name elements) list text also steps others r q = absurd r
texts_meet library s (commands.Command.Relation name from to pairs) list text also steps others r q = absurd r
texts_meet library s (commands.Command.Cell name kind) list text also steps others r q = absurd r
texts_meet library s (commands.Command.Define name params body) list text also steps others r q = absurd r
texts_meet library s (commands.Command.Attach name cells by) list text also steps others r q = absurd r
texts_meet library s (commands.Command.Fix cell value) list text also steps others r q = absurd r
texts_meet library s (commands.Command.Tell premise cell value) list text also steps others r q = absurd r
texts_meet library s (commands.Command.Choose name cell values) list text also steps others r q = absurd r
texts_meet library s (commands.Command.Kick premise) list text also steps others r q = absurd r
texts_meet library s (commands.Command.Bring premise) list text also steps others r q = absurd r
texts_meet library s (commands.Command.Forget premise) list text also steps others r q = absurd r
texts_meet library s (commands.Command.Limit n) list text also steps others r q = absurd r

pub settled_texts_meet : (library : List Stored) → SettledTextsMeet library
settled_texts_meet library s command text also (l, steps, ends, r) (m, others, end, q) =
    texts_meet library s command l text also steps others r (rw (one_list library s l m ends end) at q)

-- a believed premise is the user's
pub believed_is_user : (os : List Origin) (p : ℕ) → IsTrue (believed_in os p) → IsTrue (is_user_at os p)
believed_is_user [] p h = h
believed_is_user (User name b ∷ os) zero h = refl
believed_is_user (Side name side sides ∷ os) zero h = h
believed_is_user (o ∷ os) (suc p) h = believed_is_user os p h

pub settled_is_free : (library : List Stored) → SettledIsFree library
settled_is_free library s list premises numbered settles contradicts =
    believed_refutes (problem_in library s) (choices_in s) (users_in s) (set_of premises)
    (λ p h. numbered.users p (believed_is_user s.premises p (contradicts.0 p h))) contradicts.0
    contradicts.1 list settles.0.is_list settles.0.consistent
