-- The potential of a problem, which bounds how many more calls a run can take: each call lowers it
-- by one at least.
use Rattle.std.specs.Prelude.{ℕ, ◌+◌, List, length, sum_by, flat_map, Option, Some, None, slice_get}
use Rattle.prop_lattice.specs.declared.info.Info.{Info}
use Rattle.prop_lattice.specs.Rank.{largest_rank, rank_of}
use Rattle.prop_procedures.specs.declared.shape.Kinded.{Kinded}
use Rattle.prop_cells.specs.Problems.{Problem, Assignment}

-- the rank of the information in a cell of this kind: how often it can still grow
abbrev pub rank_in : Option Kinded → Info → ℕ
rank_in None v = 0
rank_in (Some k) v = rank_of k.kind k.size v

-- the cells at the input places of the instances, one for each place
abbrev pub input_places : Problem → List ℕ
input_places problem = flat_map (λ c. c.inputs) problem.constraints

-- how many instances wait, and the ranks of what is believed at all input places, added up
abbrev pub potential : Problem → Assignment → List ℕ → ℕ
potential problem believed waiting =
    length waiting + sum_by (λ cell. rank_in (slice_get problem.cells cell) (believed cell))
    (input_places problem)

-- No potential of the problem is larger. It is that where every instance waits and nothing is known
-- at any input place: each place can then wake its instance as often as what is known there can
-- grow.
abbrev pub most_steps : Problem → ℕ
most_steps problem = length problem.constraints + sum_by
    (λ cell. elim (slice_get problem.cells cell) [ None ↦ 0 | Some k ↦ largest_rank k.kind k.size ])
    (flat_map (λ c. c.inputs) problem.constraints)
