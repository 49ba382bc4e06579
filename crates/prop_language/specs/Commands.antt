-- The commands, as they stand on a line: words, and numbers where a number of the range was read.
use Rattle.std.specs.Prelude.{ℕ, ℤ, List, Option}

-- a word, or words in braces
pub data Value : Type 0 where
  Bare : List ℕ → Value
  Braces : List (List ℕ) → Value

-- a word for a kind: of numbers, of truths, of symbols, or a domain's name
pub data KindWord : Type 0 where
  Spans Truths Symbols : KindWord
  Named : List ℕ → KindWord

-- what follows `by`
pub data By : Type 0 where
  Nothing : By
  Number : Option ℤ → By
  Relation : List ℕ → By

-- what a step's use is given: what stands behind its `by`, as in a command, or what the definition
-- itself is given
pub data Passed : Type 0 where
  Said : By → Passed
  Own : Passed

-- a step of a definition: a local cell of a kind, a local cell like an earlier one, or a use
pub data Step : Type 0 where
  Local : (name : List ℕ) → (kind : KindWord) → Step
  Like : (name like : List ℕ) → Step
  Use : (name : List ℕ) → (cells : List (List ℕ)) → (passed : Passed) → Step

pub data Command : Type 0 where
  Domain : (name : List ℕ) → (elements : List (List ℕ)) → Command
  Relation : (name from to : List ℕ) → (pairs : List (List ℕ × List ℕ)) → Command
  Cell : (name : List ℕ) → (kind : KindWord) → Command
  Define : (name : List ℕ) → (params : List (List ℕ)) → (steps : List Step) → Command
  Attach : (name : List ℕ) → (cells : List (List ℕ)) → (by : By) → Command
  Fix : (cell : List ℕ) → (value : Value) → Command
  Tell : (premise : List ℕ) → (cell : List ℕ) → (value : Value) → Command
  Choose : (name cell : List ℕ) → (values : List Value) → Command
  Kick Bring Forget : (premise : List ℕ) → Command
  Limit : (steps : Option ℕ) → Command
  Ask Why Core : (cell : List ℕ) → Command
  Settle Worldview Nogoods : Command
