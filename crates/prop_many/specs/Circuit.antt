-- Nodes that make up one circuit. They are numbered from 1, each has a successor, and these lead
-- from any node through all others back to it.
use Rattle.std.specs.Prelude.{◌≡◌, ◌≢◌, ℕ, zero, suc, ◌-◌, ℤ, pos, ◌+ℤ◌, ◌-ℤ◌, ◌≤ℤ◌, int_lt}
use Rattle.std.specs.Prelude.{Bool, true, not, ◌&&◌, ◌||◌, if◌then◌else◌, List, [], ◌∷◌}
use Rattle.std.specs.Prelude.{Option, Some, None, length}
use Rattle.std.specs.Int.{int_max, int_min}
use Rattle.std.specs.Ordering.{int_eq}
use Rattle.prop_lattice.specs.Points.{Point, Number}
use Rattle.prop_lattice.specs.declared.info.Info.{Info}
use Rattle.prop_lattice.specs.declared.info.Info.TheVariants.{Nothing, Contradiction}
use Rattle.prop_wide.specs.Ends.{low_of, high_of, known}

-- the number is known
abbrev pub is_one : Info → Bool
is_one a = int_eq (low_of a) (high_of a)

-- the entry of a node, where the first entry is that of the node `first`; none where there is no
-- such node
abbrev pub entry_at : {X : Type 0} → ℤ → List X → ℤ → Option X
entry_at first [] node = None
entry_at first (entry ∷ entries) node =
    if int_eq node first then Some entry else entry_at (first +ℤ pos 1) entries node

-- to go on by this entry goes wrong: there is no entry, or it is known and `wrong` holds of it
abbrev pub goes_on : (ℤ → Bool) → Option Info → Bool
goes_on wrong None = true
goes_on wrong (Some next) = is_one next && wrong (low_of next)

-- From this node the successors that are known lead to `home` in fewer than so many steps, or in
-- just so many to another node, or to a number that is no node.
abbrev pub goes_wrong : List Info → ℤ → ℤ → ℕ → Bool
goes_wrong successors home node zero = not (int_eq node home)
goes_wrong successors home node (suc steps) =
    int_eq node home || goes_on (λ next. goes_wrong successors home next steps)
    (entry_at (pos 1) successors node)

-- of so many nodes, from this one on, the first from which the successors don't go wrong; the one
-- behind these where there is none
abbrev pub raised : List Info → ℤ → ℤ → ℕ → ℕ → ℤ
raised successors home node steps zero = node
raised successors home node steps (suc many) =
    if goes_wrong successors home node steps
    then raised successors home (node +ℤ pos 1) steps many else node

-- of so many nodes, from this one back, the last from which the successors don't go wrong; the one
-- before these where there is none
abbrev pub lowered : List Info → ℤ → ℤ → ℕ → ℕ → ℤ
lowered successors home node steps zero = node
lowered successors home node steps (suc many) =
    if goes_wrong successors home node steps
    then lowered successors home (node -ℤ pos 1) steps many else node

-- the first node to which `home` may go on, by what is known of its successor, and from which the
-- successors don't go wrong
abbrev pub earliest : List Info → ℤ → Info → ℤ
earliest successors home own = raised successors home (int_max (low_of own) (pos 1))
    (length successors - 1) (length successors)

-- the last such node
abbrev pub latest : List Info → ℤ → Info → ℤ
latest successors home own = lowered successors home
    (int_min (high_of own) (pos (length successors))) (length successors - 1) (length successors)

-- what is known of the successor of the node `home`; a contradiction where there is no such node
abbrev pub around : List Info → ℤ → Info → Info
around successors home own =
    if int_lt home (pos 1) || int_lt (pos (length successors)) home then Contradiction
    else known (earliest successors home own) (latest successors home own)

-- the successor of a node: the arguments are what is known of it, the node's number, and the
-- successors of all nodes
abbrev pub circuit_of : List Info → Info
circuit_of (own ∷ node ∷ successors) =
    if is_one node then around successors (low_of node) own else Nothing
circuit_of args = Nothing

-- the entry is a number of which P is true
abbrev pub LeadsOn : (ℤ → Type 0) → Option Point → Type 0
LeadsOn P (Some (Number next)) = P next
LeadsOn P entry = ⊥

-- from this node the successors lead to `home` in so many steps, and no sooner
abbrev pub LeadsHome : List Point → ℤ → ℤ → ℕ → Type 0
LeadsHome successors home node zero = node ≡ home
LeadsHome successors home node (suc steps) =
    (node ≢ home) × LeadsOn (λ next. LeadsHome successors home next steps)
    (entry_at (pos 1) successors node)

-- The output is the first input, the successor of a node. The other inputs are the node's number
-- and the successors of all nodes. These lead from the node's successor to the node in one step
-- less than there are nodes, and no sooner: so they lead through all nodes.
abbrev pub RelatesCircuit : List Point → Point → Type 0
RelatesCircuit (Number own ∷ Number node ∷ successors) point =
    (point ≡ Number own) × (pos 1 ≤ℤ node) × (node ≤ℤ pos (length successors))
    × LeadsHome successors node own (length successors - 1)
RelatesCircuit points point = ⊥
