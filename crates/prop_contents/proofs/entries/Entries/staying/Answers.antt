use Rattle.std.proofs.Common.{◌≡◌, ◌+◌, ◌/◌, ℕ, List, [], slice_index_or, subst, arith}
use Rattle.prop_numbers.specs.Sets.{set_of}
use Rattle.prop_contents.specs.Contents.{Entry, beliefs}
use Rattle.prop_contents.proofs.BearingLemmas.{Agree, stays}
use Rattle.prop_contents.proofs.KnowingLaws.{passed_on}
use Rattle.prop_contents.proofs.entries.Entries.staying.Goals as goal

pub returns-then-agree_at-clause-same : goal.returns-then-agree_at-clause-same
returns-then-agree_at-clause-same c = λ k low high.
    let w = set_of c.args.shift.now.before.now in
    let z = set_of c.args.shift.now.after.now in
    let n = c.self.inside in
    let here = c.if-cell-eq0.true in
    let at : k / 4_096 ≡ c.args.cell / 4_096 = omega (arith, low, high, here) in
    let agree : Agree w z (slice_index_or n.regions.items (c.args.cell / 4_096) []) =
    subst (λ (sets : List (List ℕ)). Agree w z (slice_index_or sets (c.args.cell / 4_096) [])) c.deref.ensures.value
    (c.agree_at.ensures c.if-agree_at.true) in
    subst (λ (e : List (List Entry)). beliefs w e k ≡ beliefs z e k) c.self.view_is
    (stays 4_096 w z n.cells.items n.regions.items k (c.args.cell / 4_096) c.self.invariant.1 at agree)

pub returns-then-agree_at-2-clause-same : goal.returns-then-agree_at-2-clause-same
returns-then-agree_at-2-clause-same c = λ k low high.
    let w = set_of c.args.shift.now.before.now in
    let z = set_of c.args.shift.now.after.now in
    let n = c.self.inside in
    let here = c.if-cell-eq0-2.true in
    let at : k / 64 ≡ c.args.cell / 64 = omega (arith, low, high, here) in
    let agree : Agree w z (slice_index_or n.blocks.items (c.args.cell / 64) []) =
    subst (λ (sets : List (List ℕ)). Agree w z (slice_index_or sets (c.args.cell / 64) []))
    c.deref-then-cell-eq0-2.ensures.value (c.agree_at-then-cell-eq0-2.ensures c.if-agree_at-2.true) in
    subst (λ (e : List (List Entry)). beliefs w e k ≡ beliefs z e k) c.self.view_is
    (stays 64 w z n.cells.items n.blocks.items k (c.args.cell / 64) c.self.invariant.0 at agree)

pub returns-then-agree_at-clause-known : goal.returns-then-agree_at-clause-known
returns-then-agree_at-clause-known c =
    passed_on (set_of c.args.shift.now.before.now) (set_of c.args.shift.now.after.now) c.args.self.now
    c.args.known.now c.args.cell (c.args.cell + 4_096) (omega arith) (returns-then-agree_at-clause-same c) c.requires.known

pub returns-then-agree_at-2-clause-known : goal.returns-then-agree_at-2-clause-known
returns-then-agree_at-2-clause-known c =
    passed_on (set_of c.args.shift.now.before.now) (set_of c.args.shift.now.after.now) c.args.self.now
    c.args.known.now c.args.cell (c.args.cell + 64) (omega arith) (returns-then-agree_at-2-clause-same c) c.requires.known
