-- Steps of the machine from what its parts were tested for.
use Rattle.std.proofs.Common.{◌≡◌, ◌∙◌, ◌≤◌, arith, ℕ, length, ◌++◌, ap, List, [], ◌∷◌, Option, Some, None, Result, Ok}
use Rattle.std.proofs.Common.{Err, ◌⊎◌, inl, inr, unwrap_or, refl, sym, subst}
use Rattle.prop_refusals.specs.declared.refusal.Refusal.{Refusal}
use Rattle.prop_refusals.specs.declared.refusal.Refusal.TheVariants.{Memory, NameTaken, NoSuchDomain, LimitReached}
use Rattle.prop_refusals.specs.declared.refusal.Limit.TheVariants.{Cells}
use Rattle.prop_premises.specs.Origins.{Origin}
use Rattle.prop_procedures.specs.declared.shape.Kinded.{Kinded}
use Rattle.prop_cells.specs.Data.{Data}
use Rattle.prop_cells.specs.Refusing.{cell_refusal}
use Rattle.prop_compound.specs.Definitions.{Definitions}
use Rattle.prop_compound.specs.Kinds.{kind_named}
use Rattle.prop_compound.specs.Numbered.{compounds_of}
use Rattle.prop_vocabulary.specs.Vocabulary.{Vocabulary}
use Rattle.prop_workbench.specs.Sessions.{state_from}
use Rattle.prop_procedures.specs.Stored.{Stored, span_kind}
use Rattle.prop_language.specs.Commands as commands
use Rattle.prop_language.specs.Commands.{KindWord, Command}
use Rattle.std.specs.Prelude.{⊤, OnOk, OnErr, IfErr, nat_le, is_some, is_none}
use Rattle.prop_refusals.specs.Refusals.{first_of, most, when}
use Rattle.prop_engine.specs.Answers.{Answer, Silent, Done, Text, Refused, answer_done}
use Rattle.prop_texts.specs.Texts.{nogoods_text}
use Rattle.prop_workbench.specs.Machine.{State}
use Rattle.prop_workbench.specs.Refusing.{refusal_of, passed}
use Rattle.prop_workbench.specs.Effects.{effect}
use Rattle.prop_workbench.proofs.LimitLemmas.{more_cells, one_grows}
use Rattle.std.proofs.lemmas.List.{length-append}
use Rattle.prop_workbench.specs.Steps.{Carries, Runs, Follows}
use Rattle.prop_workbench.specs.Steps.{CarriesUnless}
use Rattle.prop_workbench.specs.inner.Steps.{Obeys}
use Rattle.prop_vocabulary.specs.Cells.{CellNames, cell_named, with_cell_name}

pub first_of-one : (r : Option Refusal) → first_of (r ∷ []) ≡ r
first_of-one None = refl
first_of-one (Some refusal) = refl

-- what is not refused is carried out
pub obeys : (library : List Stored) (old new : State) (command : Command) (answer : Answer) (steps : ℕ)
    → refusal_of library old command ≡ None → Carries library old command answer new steps
    → Obeys library old command answer new steps
obeys library old new command answer steps e c =
    inl (subst (λ (r : Option Refusal). CarriesUnless r library old command answer new steps) (sym e) c)

-- what is refused changes nothing
pub refuses : (library : List Stored) (old new : State) (command : Command) (refusal : Refusal)
    → refusal_of library old command ≡ Some refusal → new ≡ old → Obeys library old command (Refused refusal) new 0
refuses library old new command refusal e same =
    inl (subst (λ (r : Option Refusal). CarriesUnless r library old command (Refused refusal) new 0) (sym e)
    (record { answer_is = refl; new_is = same; no_steps = refl }))

-- want of memory changes nothing
pub lacks : (library : List Stored) (old new : State) (command : Command) (steps : ℕ) → new ≡ old
    → Obeys library old command (Refused Memory) new steps
lacks library old new command steps same = inr (record { answer_is = refl; same = same })

pub refuses_or_lacks : (library : List Stored) (old new : State) (command : Command) (refusal : Refusal)
    → (refusal_of library old command ≡ Some refusal) ⊎ (refusal ≡ Memory) → new ≡ old
    → Obeys library old command (Refused refusal) new 0
refuses_or_lacks library old new command refusal (inl e) same = refuses library old new command refusal e same
refuses_or_lacks library old new command refusal (inr m) same =
    subst (λ (r : Refusal). Obeys library old command (Refused r) new 0) (sym m) (lacks library old new command 0 same)

-- what is carried out without a word, or refused
pub obeys_done : (library : List Stored) (old new : State) (command : Command) (r : Result ⊤ Refusal)
    → OnOk r (refusal_of library old command ≡ None) → OnOk r (Carries library old command Done new 0) →
    IfErr r (λ e. (refusal_of library old command ≡ Some e) ⊎ (e ≡ Memory)) → OnErr r (new ≡ old)
    → Obeys library old command (answer_done r) new 0
obeys_done library old new command (Ok t) fits carries why same = obeys library old new command Done 0 fits carries
obeys_done library old new command (Err refusal) fits carries why same =
    refuses_or_lacks library old new command refusal why same

-- why something is not done, said in other words
pub reason_is : (r : Result ⊤ Refusal) (why other : Option Refusal) → why ≡ other
    → IfErr r (λ e. (other ≡ Some e) ⊎ (e ≡ Memory)) → IfErr r (λ e. (why ≡ Some e) ⊎ (e ≡ Memory))
reason_is (Ok t) why other same h = tt
reason_is (Err e) why other same (inl h) = inl (same ∙ h)
reason_is (Err e) why other same (inr m) = inr m

-- a cell of a new name is refused for the limit alone
pub cell_rows : (library : List Stored) (s : State) (name : List ℕ) (kind : KindWord) (made : Kinded)
    → cell_named s.names name ≡ None → kind_named s.words kind ≡ Some made →
    refusal_of library s (commands.Command.Cell name kind) ≡ when (LimitReached Cells)
    (nat_le (most Cells) (length s.kinds))
cell_rows library s name kind made none there =
    (λ i. first_of (when NameTaken (is_some (none i)) ∷ when NoSuchDomain (is_none (there i)) ∷ passed s
    (effect library s (commands.Command.Cell name kind))))
    ∙ more_cells s (with_cell_name s.names name (length s.kinds)) cells
    ∙ one_grows Cells (length s.kinds) (length cells) (length-append s.kinds _)
  where
    cells : List Kinded
    cells = s.kinds ++ unwrap_or (kind_named s.words kind) span_kind ∷ []

-- or memory was wanting
pub cell_stopped : (library : List Stored) (s : State) (name : List ℕ) (kind : KindWord) (made : Kinded) (e : Refusal)
    → cell_named s.names name ≡ None → kind_named s.words kind ≡ Some made →
    (when (LimitReached Cells) (nat_le (most Cells) (length s.kinds)) ≡ Some e) ⊎ (e ≡ Memory)
    → (refusal_of library s (commands.Command.Cell name kind) ≡ Some e) ⊎ (e ≡ Memory)
cell_stopped library s name kind made e none there (inl h) =
    inl (cell_rows library s name kind made none there ∙ h)
cell_stopped library s name kind made e none there (inr m) = inr m

-- a name that a cell has, and a kind whose domain there is not
pub cell_taken : (library : List Stored) (s : State) (name : List ℕ) (kind : KindWord) (cell : ℕ)
    → cell_named s.names name ≡ Some cell → refusal_of library s (commands.Command.Cell name kind) ≡ Some NameTaken
cell_taken library s name kind cell found = rw found refl

pub cell_nowhere : (library : List Stored) (s : State) (name : List ℕ) (kind : KindWord)
    → cell_named s.names name ≡ None → kind_named s.words kind ≡ None
    → refusal_of library s (commands.Command.Cell name kind) ≡ Some NoSuchDomain
cell_nowhere library s name kind none missing = rw (none, missing) refl

-- a cell of a new name is made
pub cell_made : (library : List Stored) (names names' : CellNames) (words : Vocabulary) (definitions : Definitions)
    (premises : List Origin) (d new : Data) (limit : ℕ) (name : List ℕ) (kind : KindWord) (made : Kinded) (number : ℕ) →
    cell_named names name ≡ None → kind_named words kind ≡ Some made → cell_refusal d ≡ None
    → names' ≡ with_cell_name names name number → number ≡ length d.kinds →
    new ≡ record d { kinds = d.kinds ++ made ∷ []; contents = d.contents ++ [] ∷ [] } →
    Obeys library (state_from names words definitions premises d limit) (commands.Command.Cell name kind) Done
    (state_from names' words definitions premises new limit) 0
cell_made library names names' words definitions premises d new limit name kind made number none there fits named
    counted e =
    obeys library (state_from names words definitions premises d limit)
    (state_from names' words definitions premises new limit) (commands.Command.Cell name kind) Done 0
    (cell_rows library (state_from names words definitions premises d limit) name kind made none there ∙ fits)
    (record {
      answer_is = refl;
      new_is = λ i. record {
        names = (named ∙ ap (with_cell_name names name) counted) i;
        words = words;
        definitions = compounds_of words.relations definitions;
        kinds = (ap (λ (x : Data). x.kinds) e ∙ ap (λ o. d.kinds ++ unwrap_or o span_kind ∷ []) (sym there)) i;
        premises = premises;
        statements = ap (λ (x : Data). x.statements) e i;
        instances = ap (λ (x : Data). x.instances) e i;
        limit = limit;
        named = [];
      };
      no_steps = refl;
    })

-- ---- want of memory

same_if_memory : (o : Option Refusal) (library : List Stored) (old new : State) (command : Command) (answer : Answer)
    (steps : ℕ) → answer ≡ Refused Memory → CarriesUnless o library old command answer new steps → new ≡ old
same_if_memory (Some refusal) library old new command answer steps e r = r.new_is
same_if_memory None library old new (commands.Command.Domain name elements) answer steps e r =
    let f : Refused Memory ≡ Done = sym e ∙ r.answer_is in cc
same_if_memory None library old new (commands.Command.Relation name from to pairs) answer steps e r =
    let f : Refused Memory ≡ Done = sym e ∙ r.answer_is in cc
same_if_memory None library old new (commands.Command.Cell name kind) answer steps e r = let f : Refused Memory ≡ Done =
    sym e ∙ r.answer_is in cc
same_if_memory None library old new (commands.Command.Define name params body) answer steps e r =
    let f : Refused Memory ≡ Done = sym e ∙ r.answer_is in cc
same_if_memory None library old new (commands.Command.Attach name cells by) answer steps e r =
    let f : Refused Memory ≡ Done = sym e ∙ r.answer_is in cc
same_if_memory None library old new (commands.Command.Fix cell value) answer steps e r = let f : Refused Memory ≡ Done =
    sym e ∙ r.answer_is in cc
same_if_memory None library old new (commands.Command.Tell premise cell value) answer steps e r =
    let f : Refused Memory ≡ Done = sym e ∙ r.answer_is in cc
same_if_memory None library old new (commands.Command.Choose name cell values) answer steps e r =
    let f : Refused Memory ≡ Done = sym e ∙ r.answer_is in cc
same_if_memory None library old new commands.Command.Nogoods answer steps e r =
    let f : Refused Memory ≡ Text (nogoods_text old.premises r.0) = sym e ∙ r.2.answer_is in cc
same_if_memory None library old new (commands.Command.Kick premise) answer steps e r = let f : Refused Memory ≡ Done =
    sym e ∙ r.answer_is in cc
same_if_memory None library old new (commands.Command.Bring premise) answer steps e r = let f : Refused Memory ≡ Done =
    sym e ∙ r.answer_is in cc
same_if_memory None library old new (commands.Command.Forget premise) answer steps e r = let f : Refused Memory ≡ Done =
    sym e ∙ r.answer_is in cc
same_if_memory None library old new (commands.Command.Limit n) answer steps e r = let f : Refused Memory ≡ Done = sym e
    ∙ r.answer_is in cc
same_if_memory None library old new (commands.Command.Why cell) answer steps e r =
    let f : Refused Memory ≡ Text r.text = sym e ∙ r.answer_is in cc
same_if_memory None library old new (commands.Command.Core cell) answer steps e r =
    let f : Refused Memory ≡ Text r.text = sym e ∙ r.answer_is in cc
same_if_memory None library old new commands.Command.Worldview answer steps e r = let f : Refused Memory ≡ Text r.text =
    sym e ∙ r.answer_is in cc
same_if_memory None library old new commands.Command.Settle answer steps e r = let f : Refused Memory ≡ Text r.text =
    sym e ∙ r.answer_is in cc
same_if_memory None library old new (commands.Command.Ask cell) answer steps e r =
    let f : Refused Memory ≡ Text r.text = sym e ∙ r.answer_is in cc

-- where memory was refused, any number of steps may have been taken
pub still_lacks : (library : List Stored) (old new : State) (read : Result (Option Command) Refusal) (answer : Answer)
    (steps others : ℕ) → answer ≡ Refused Memory → Follows library old read answer new steps
    → Follows library old read answer new others
still_lacks library old new (Ok None) answer steps others e f = let g : Refused Memory ≡ Silent = sym e ∙ f.answer_is
    in cc
still_lacks library old new (Err refusal) answer steps others e (inl r) =
    inr (record { answer_is = e; same = r.new_is })
still_lacks library old new (Err refusal) answer steps others e (inr l) = inr l
still_lacks library old new (Ok (Some command)) answer steps others e (inl c) =
    inr (record {
      answer_is = e;
      same = same_if_memory (refusal_of library old command) library old new command answer
          steps e c;
    })
still_lacks library old new (Ok (Some command)) answer steps others e (inr l) = inr l

-- and nothing changed
pub lacking_same : (library : List Stored) (old new : State) (read : Result (Option Command) Refusal) (answer : Answer)
    (steps : ℕ) → answer ≡ Refused Memory → Follows library old read answer new steps → new ≡ old
lacking_same library old new (Ok None) answer steps e f = f.new_is
lacking_same library old new (Err refusal) answer steps e (inl r) = r.new_is
lacking_same library old new (Err refusal) answer steps e (inr l) = l.same
lacking_same library old new (Ok (Some command)) answer steps e (inl c) =
    same_if_memory (refusal_of library old command) library old new command answer steps e c
lacking_same library old new (Ok (Some command)) answer steps e (inr l) = l.same

-- ---- steps

none_within : (steps limit : ℕ) → steps ≡ 0 → steps ≤ limit
none_within steps limit e = omega (arith, e)

run_within : (library : List Stored) (old new : State) (command : Command) (answer : Answer) (steps : ℕ)
    → Runs library old command answer new steps → steps ≤ new.limit
run_within library old new command answer steps r = rw r.new_is r.within

carried_within : (o : Option Refusal) (library : List Stored) (old new : State) (command : Command) (answer : Answer)
    (steps : ℕ) → CarriesUnless o library old command answer new steps → steps ≤ new.limit
carried_within (Some refusal) library old new command answer steps r = none_within steps new.limit r.no_steps
carried_within None library old new (commands.Command.Domain name elements) answer steps r =
    none_within steps new.limit r.no_steps
carried_within None library old new (commands.Command.Relation name from to pairs) answer steps r =
    none_within steps new.limit r.no_steps
carried_within None library old new (commands.Command.Cell name kind) answer steps r =
    none_within steps new.limit r.no_steps
carried_within None library old new (commands.Command.Define name params body) answer steps r =
    none_within steps new.limit r.no_steps
carried_within None library old new (commands.Command.Attach name cells by) answer steps r =
    none_within steps new.limit r.no_steps
carried_within None library old new (commands.Command.Fix cell value) answer steps r =
    none_within steps new.limit r.no_steps
carried_within None library old new (commands.Command.Tell premise cell value) answer steps r =
    none_within steps new.limit r.no_steps
carried_within None library old new (commands.Command.Choose name cell values) answer steps r =
    none_within steps new.limit r.no_steps
carried_within None library old new commands.Command.Nogoods answer steps r = none_within steps new.limit r.2.no_steps
carried_within None library old new (commands.Command.Kick premise) answer steps r =
    none_within steps new.limit r.no_steps
carried_within None library old new (commands.Command.Bring premise) answer steps r =
    none_within steps new.limit r.no_steps
carried_within None library old new (commands.Command.Forget premise) answer steps r =
    none_within steps new.limit r.no_steps
carried_within None library old new (commands.Command.Limit n) answer steps r = none_within steps new.limit r.no_steps
carried_within None library old new commands.Command.Settle answer steps r =
    run_within library old new commands.Command.Settle answer steps r
carried_within None library old new (commands.Command.Ask cell) answer steps r =
    run_within library old new (commands.Command.Ask cell) answer steps r
carried_within None library old new (commands.Command.Why cell) answer steps r =
    run_within library old new (commands.Command.Why cell) answer steps r
carried_within None library old new (commands.Command.Core cell) answer steps r =
    run_within library old new (commands.Command.Core cell) answer steps r
carried_within None library old new commands.Command.Worldview answer steps r =
    run_within library old new commands.Command.Worldview answer steps r

-- a step takes no more steps than the limit behind it, but where memory was refused
pub steps_within : (library : List Stored) (old new : State) (read : Result (Option Command) Refusal) (answer : Answer)
    (steps : ℕ) → (answer ≡ Refused Memory → ⊥) → Follows library old read answer new steps → steps ≤ new.limit
steps_within library old new (Ok None) answer steps n f = none_within steps new.limit f.no_steps
steps_within library old new (Err refusal) answer steps n (inl r) = none_within steps new.limit r.no_steps
steps_within library old new (Err refusal) answer steps n (inr l) = absurd (n l.answer_is)
steps_within library old new (Ok (Some command)) answer steps n (inl c) =
    carried_within (refusal_of library old command) library old new command answer steps c
steps_within library old new (Ok (Some command)) answer steps n (inr l) = absurd (n l.answer_is)
