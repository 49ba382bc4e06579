-- What a command that isn't refused does to the state.
use Rattle.std.specs.Prelude.{ℕ, List, [], ◌∷◌, ◌++◌, Option, Some, None, true, false, drop, fold}
use Rattle.std.specs.Prelude.{map, length, slice_get, slice_index_or, take, unwrap_or, cond, zip}
use Rattle.std.specs.Prelude.{Result, Ok, Err, ◌-◌}
use Rattle.std.specs.Result.{result_unwrap_or}
use Rattle.std.specs.Option.{option_and_then}
use Rattle.std.specs.List.{flat_map, range_with_len}
use Rattle.prop_lattice.specs.declared.info.Info.{Info}
use Rattle.prop_lattice.specs.declared.info.Info.TheVariants.{Nothing, Sym}
use Rattle.prop_lattice.specs.declared.info.Kind.{Kind}
use Rattle.prop_lattice.specs.declared.info.Kind.TheVariants.{Span, Set, Symbol}
use Rattle.prop_refusals.specs.declared.refusal.Refusal.{Refusal}
use Rattle.prop_refusals.specs.declared.refusal.Refusal.TheVariants.{NotAName, WrongKind}
use Rattle.prop_premises.specs.Origins.{Origin, premise_number, with_name, with_choice}
use Rattle.prop_premises.specs.Origins.{with_belief_at}
use Rattle.prop_procedures.specs.Flats.{cell_placed}
use Rattle.prop_procedures.specs.Stored.{Stored, span_kind}
use Rattle.prop_language.specs.Commands.{By, Bare, Braces, Value, Command}
use Rattle.prop_language.specs.Names.{is_name}
use Rattle.prop_compound.specs.Compounds.{compound_of, given_by, use_added}
use Rattle.prop_compound.specs.Kinds.{kind_named}
use Rattle.prop_compound.specs.Expansion.{Placed, Walk, start}
use Rattle.prop_vocabulary.specs.Values.{halves, span_value, set_value}
use Rattle.prop_procedures.specs.declared.shape.Param.{Param}
use Rattle.prop_procedures.specs.declared.shape.Param.TheVariants.{Plain}
use Rattle.prop_procedures.specs.Fitting.{kind_at}
use Rattle.prop_procedures.specs.Rules.{fitting_param}
use Rattle.prop_cells.specs.Instances.{Instance}
use Rattle.prop_cells.specs.declared.instance.Statement.{Statement}
use Rattle.prop_cells.specs.Forgetting.{not_under}
use Rattle.prop_nogoods.specs.Stores.{lacking}
use Rattle.prop_vocabulary.specs.Vocabulary.{Vocabulary, elements_of, symbol_number, with_symbol}
use Rattle.prop_vocabulary.specs.Vocabulary.{with_domain, with_relation}
use Rattle.prop_workbench.specs.Machine.{State}
use Rattle.prop_vocabulary.specs.Cells.{cell_named, cells_named, with_cell_name}

-- ---- stating

-- what the value says at a cell of the kind, or why it is refused there; a symbol is told by its
-- number, the next one where its name is new
abbrev pub said : Vocabulary → Kind → Value → Result Info Refusal
said words Span (Bare word) = span_value (halves word)
said words (Set d) (Bare word) = set_value (elements_of words d) (word ∷ [])
said words (Set d) (Braces names) = set_value (elements_of words d) names
said words Symbol (Bare word) =
    cond (is_name word) (Ok (Sym (symbol_number words word))) (Err NotAName)
said words kind (Braces names) = Err WrongKind

-- the symbols that the value names at a cell of the kind
abbrev pub symbols_in : Kind → Value → List (List ℕ)
symbols_in Symbol (Bare word) = word ∷ []
symbols_in kind value = []

-- the number of the premise with the name, or the next number where the name is new
abbrev pub number_given : List Origin → List ℕ → ℕ
number_given premises name = unwrap_or (premise_number premises name) (length premises)

-- The state with these premises and one statement for each value, of the cell with the name. Each
-- value is stated under the premise at its place in the list `under`, or under none. The symbols
-- that the values name join the vocabulary.
abbrev pub with_said : State → List Origin → List (Option ℕ) → List ℕ → List Value → State
with_said s premises under name values =
    let cell = unwrap_or (cell_named s.names name) 0 in
    let kind = (kind_at s.kinds cell).kind in
    let words = fold with_symbol s.words (flat_map (symbols_in kind) values) in
    let says = λ (value : Value). result_unwrap_or (said words kind value) Nothing in
    let told : List Statement = map (λ x. record { premise = x.0; cell = cell; info = says x.1 })
    (zip under values) in
    record s { words = words; premises = premises; statements = s.statements ++ told }

-- ---- attaching

-- The instance for what an expansion placed. It writes the cell at its last place and reads those
-- at the places before. The given cells have the first places, and the fresh ones, numbered from
-- `next` on, those behind.
abbrev pub instance_placed : List Stored → List ℕ → ℕ → Placed (Option Param) → Instance
instance_placed library cells next x =
    let at = map (cell_placed cells next) x.cells in
    let n = length at - 1 in
    let p = unwrap_or (option_and_then (λ p. fitting_param p.need x.given)
    (slice_get library x.procedure)) Plain in
    let inputs = take n at in
    record { procedure = x.procedure; param = p; inputs = inputs; output = slice_index_or at n 0 }

-- what a use of the name on these cells expands to: the places of the given cells count from 0, and
-- those of the fresh cells follow
abbrev pub used : List Stored → State → List ℕ → List ℕ → By → Walk
used library s name cells by =
    use_added library s.definitions name (range_with_len 0 (length cells)) (given_by s.words by)
    (start (map (kind_at s.kinds) cells) false)

-- ---- commands

-- The state after the command, where it isn't refused. A command that runs the network or lists
-- nogoods changes nothing here.
abbrev pub effect : List Stored → State → Command → State
effect library s (Command.Domain name elements) =
    record s { words = with_domain s.words name elements }
effect library s (Command.Relation name from to pairs) =
    record s { words = with_relation s.words name from to pairs }
effect library s (Command.Cell name kind) =
    let made = unwrap_or (kind_named s.words kind) span_kind in
    record s { names = with_cell_name s.names name (length s.kinds); kinds = s.kinds ++ made ∷ [] }
effect library s (Command.Define name params steps) =
    let made = compound_of library s.words s.definitions name params steps in
    record s { definitions = s.definitions ++ made ∷ [] }
effect library s (Command.Attach name cells by) =
    let on = cells_named s.names cells in
    let e = used library s name on by in
    let made = map (instance_placed library on (length s.kinds)) e.placed in
    record s { kinds = s.kinds ++ drop (length on) e.kinds; instances = s.instances ++ made }
effect library s (Command.Fix cell value) = with_said s s.premises (None ∷ []) cell (value ∷ [])
effect library s (Command.Tell premise cell value) =
    with_said s (with_name s.premises premise) (Some (number_given s.premises premise) ∷ []) cell
    (value ∷ [])
effect library s (Command.Choose name cell values) =
    with_said s (with_choice s.premises name (length values))
    (map Some (range_with_len (length s.premises) (length values))) cell values
effect library s (Command.Kick premise) =
    record s { premises = with_belief_at s.premises (number_given s.premises premise) false }
effect library s (Command.Bring premise) =
    record s { premises = with_belief_at s.premises (number_given s.premises premise) true }
effect library s (Command.Forget premise) =
    let p = number_given s.premises premise in
    record s { statements = not_under p s.statements; named = lacking s.named p }
effect library s (Command.Limit steps) = record s { limit = unwrap_or steps 0 }
effect library s command = s
