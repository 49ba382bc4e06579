use Rattle.std.proofs.Common.{◌≤◌, length}
use Rattle.prop_demands.proofs.known.domains_of.Given as goal

abbrev pub invariant-loop-cell : goal.invariant-loop-cell
invariant-loop-cell l = l.domains ≤ length l.words.domains
