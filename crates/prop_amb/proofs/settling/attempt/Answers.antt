use Rattle.std.proofs.Common.{◌∙◌, Ok, ap, refl, inr}
use Rattle.prop_numbers.specs.Sets.{set_of}
use Rattle.prop_procedures.specs.Kept.{stored_of}
use Rattle.prop_cells.specs.Data.{problem_of}
use Rattle.prop_amb.specs.Going.Goes.{none}
use Rattle.prop_amb.proofs.GoingLaws.{ran, ran_noting, ran_may}
use Rattle.prop_amb.proofs.MetLaws.{clash_nogood, clash_is_new, met_noted}
use Rattle.prop_amb.specs.Search.{Stand, choices_in}
use Rattle.prop_amb.specs.Refuted.{IsNogood}
use Rattle.prop_amb.specs.inner.Refuting.{IsFound}
use Rattle.prop_amb.proofs.AheadLaws.{none_found}
use Rattle.prop_amb.proofs.RefutingLaws.{met_found}
use Rattle.prop_amb.proofs.RunLaws.{same_problem, falls_in, bounded_in, conflict_in}
use Rattle.prop_amb.proofs.settling.attempt.Goals as goal

pub returns-in-Some-clause-gone : goal.returns-in-Some-clause-gone
returns-in-Some-clause-gone g c = rw c.found.ensures.same none

pub returns-in-Some-clause-refuted : goal.returns-in-Some-clause-refuted
returns-in-Some-clause-refuted g c =
    let found : IsFound c.args.search.now c.in-Some.nogood = rw c.in-Some.is at c.in_ok-nogood.ensures.found in
    rw c.found.ensures.same found

pub returns-in-Some-clause-at_rest : goal.returns-in-Some-clause-at_rest
returns-in-Some-clause-at_rest g c = λ idle full free unblocked.
    let found : IsFound c.args.search.now c.in-Some.nogood = rw c.in-Some.is at c.in_ok-nogood.ensures.found in
    absurd (none_found c.args.search.now full unblocked c.in-Some.nogood found)

pub returns-in-Quiet-clause-gone : goal.returns-in-Quiet-clause-gone
returns-in-Quiet-clause-gone g c =
    rw c.found.ensures.same (ran c.args.search.now c.worldview.result.now c.in_ok-nogood.ensures.stand
    (c.worldview.ensures.same ∙ ap (λ (x : Stand). x.worldview) c.found.ensures.same)
    (c.in_ok-nogood.ensures.unblocked (ap Ok c.in_default.is)) g.O.Order.picks (stored_of g.R.Rule.value_of
    c.args.live.now.network.library) _ _ _ _ _ _ _ c.in_ok-end.ensures.turns)

pub returns-in-Quiet-clause-falls : goal.returns-in-Quiet-clause-falls
returns-in-Quiet-clause-falls g c =
    falls_in _ _ _ _ _ _ _ (same_problem (stored_of g.R.Rule.value_of) c.args.live.now.network.library
    c.run.new.live.network.library
    c.args.live.now.network.cells c.run.new.live.network.cells c.in_ok-end.ensures.ran.library
    c.in_ok-end.ensures.ran.rest) (rw (c.worldview.ensures.same, c.found.ensures.same) at c.in_ok-end.ensures.falls)

pub returns-in-Quiet-clause-most : goal.returns-in-Quiet-clause-most
returns-in-Quiet-clause-most g c = inr (rw (c.worldview.ensures.same, c.found.ensures.same) at c.in_ok-end.ensures.most)

pub returns-in-Spent-clause-gone : goal.returns-in-Spent-clause-gone
returns-in-Spent-clause-gone g c =
    rw c.found.ensures.same (ran c.args.search.now c.worldview.result.now c.in_ok-nogood.ensures.stand
    (c.worldview.ensures.same ∙ ap (λ (x : Stand). x.worldview) c.found.ensures.same)
    (c.in_ok-nogood.ensures.unblocked (ap Ok c.in_default.is)) g.O.Order.picks (stored_of g.R.Rule.value_of
    c.args.live.now.network.library) _ _ _ _ _ _ _ c.in_ok-end.ensures.turns)

pub returns-in-Spent-clause-falls : goal.returns-in-Spent-clause-falls
returns-in-Spent-clause-falls g c =
    falls_in _ _ _ _ _ _ _ (same_problem (stored_of g.R.Rule.value_of) c.args.live.now.network.library
    c.run.new.live.network.library
    c.args.live.now.network.cells c.run.new.live.network.cells c.in_ok-end.ensures.ran.library
    c.in_ok-end.ensures.ran.rest) (rw (c.worldview.ensures.same, c.found.ensures.same) at c.in_ok-end.ensures.falls)

pub returns-in-Spent-clause-most : goal.returns-in-Spent-clause-most
returns-in-Spent-clause-most g c = inr (rw (c.worldview.ensures.same, c.found.ensures.same) at c.in_ok-end.ensures.most)

pub returns-in-Quiet-clause-few : goal.returns-in-Quiet-clause-few
returns-in-Quiet-clause-few g c =
    bounded_in _ _ _ (same_problem (stored_of g.R.Rule.value_of) c.args.live.now.network.library
    c.run.new.live.network.library
    c.args.live.now.network.cells c.run.new.live.network.cells c.in_ok-end.ensures.ran.library
    c.in_ok-end.ensures.ran.rest)
    c.in_ok-end.ensures.bounded

pub returns-in-Spent-clause-left : goal.returns-in-Spent-clause-left
returns-in-Spent-clause-left g c = λ spent.
    rw c.found.ensures.same (ran_may c.args.search.now c.worldview.result.now c.in_ok-nogood.ensures.stand
    (c.worldview.ensures.same ∙ ap (λ (x : Stand). x.worldview) c.found.ensures.same)
    (c.in_ok-nogood.ensures.unblocked (ap Ok c.in_default.is)) _ _ _ (c.in_ok-end.ensures.left c.in-Spent.is)
    (c.in_ok-end.ensures.free c.in-Spent.is))

pub returns-in_ok-note-in-Clash-clause-gone : goal.returns-in_ok-note-in-Clash-clause-gone
returns-in_ok-note-in-Clash-clause-gone g c =
    let clash = rw c.in-Clash.is at c.in_ok-end.ensures.clash in
    ran_noting c.args.search.now c.worldview.result.now c.in_ok-nogood.ensures.stand
    (c.worldview.ensures.same ∙ ap (λ (x : Stand). x.worldview) c.found.ensures.same)
    (c.in_ok-nogood.ensures.unblocked (ap Ok c.in_default.is)) g.O.Order.picks (stored_of g.R.Rule.value_of
    c.args.live.now.network.library) _ _ _ _ _ _ _ _ _ _ c.in_ok-end.ensures.turns clash c.in_ok-copy-in-Clash.ensures
    (rw c.found.ensures.same at c.in_ok-note-in-Clash.ensures.adds)
    (rw c.found.ensures.same at c.in_ok-note-in-Clash.ensures.only)

pub note-requires : goal.note-requires
note-requires g c =
    let same = same_problem (stored_of g.R.Rule.value_of) c.args.live.now.network.library c.run.new.live.network.library
    c.args.live.now.network.cells c.run.new.live.network.cells c.in_ok-end.ensures.ran.library
    c.in_ok-end.ensures.ran.rest in
    let h = rw c.in-Clash.is at c.in_ok-end.ensures.conflict in
    rw c.found.ensures.same (clash_is_new (problem_of (stored_of g.R.Rule.value_of
    c.args.live.now.network.library) c.args.live.now.network.cells)
    c.args.search.now c.in_ok-copy-in-Clash.field-0 c.in-Clash.support
    (conflict_in _ _ _ _ _ _ same
    (ap set_of (c.worldview.ensures.same ∙ ap (λ (x : Stand). x.worldview) c.found.ensures.same)) refl h)
    c.in_ok-copy-in-Clash.ensures
    (c.in_ok-nogood.ensures.unblocked (ap Ok c.in_default.is)))

pub returns-in_ok-note-in-Clash-clause-search : goal.returns-in_ok-note-in-Clash-clause-search
returns-in_ok-note-in-Clash-clause-search g c =
    let problem = (problem_of (stored_of g.R.Rule.value_of c.args.live.now.network.library)
    c.args.live.now.network.cells) in
    let same = same_problem (stored_of g.R.Rule.value_of) c.args.live.now.network.library c.run.new.live.network.library
    c.args.live.now.network.cells c.run.new.live.network.cells c.in_ok-end.ensures.ran.library
    c.in_ok-end.ensures.ran.rest in
    let h = rw c.in-Clash.is at c.in_ok-end.ensures.conflict in
    let nogood : IsNogood problem (choices_in c.args.search.now) (set_of c.in-Clash.support) =
    clash_nogood problem c.args.search.now c.in-Clash.support c.in_ok-nogood.ensures.stand
    (conflict_in _ _ _ _ _ _ same
    (ap set_of (c.worldview.ensures.same ∙ ap (λ (x : Stand). x.worldview) c.found.ensures.same)) refl h) in
    c.note.ensures.search problem (rw (c.found.ensures.same, c.in_ok-copy-in-Clash.ensures) nogood)
    (rw c.found.ensures.same c.requires.search)

pub returns-in_ok-note-in-Clash-clause-falls : goal.returns-in_ok-note-in-Clash-clause-falls
returns-in_ok-note-in-Clash-clause-falls g c =
    falls_in _ _ _ _ _ _ _ (same_problem (stored_of g.R.Rule.value_of) c.args.live.now.network.library
    c.run.new.live.network.library
    c.args.live.now.network.cells c.run.new.live.network.cells c.in_ok-end.ensures.ran.library
    c.in_ok-end.ensures.ran.rest) (rw (c.worldview.ensures.same, c.found.ensures.same) at c.in_ok-end.ensures.falls)

pub returns-in_ok-note-in-Clash-clause-most : goal.returns-in_ok-note-in-Clash-clause-most
returns-in_ok-note-in-Clash-clause-most g c =
    inr (rw (c.worldview.ensures.same, c.found.ensures.same) at c.in_ok-end.ensures.most)

pub returns-in_ok-note-in-Clash-clause-few : goal.returns-in_ok-note-in-Clash-clause-few
returns-in_ok-note-in-Clash-clause-few g c =
    bounded_in _ _ _ (same_problem (stored_of g.R.Rule.value_of) c.args.live.now.network.library
    c.run.new.live.network.library
    c.args.live.now.network.cells c.run.new.live.network.cells c.in_ok-end.ensures.ran.library
    c.in_ok-end.ensures.ran.rest)
    c.in_ok-end.ensures.bounded

pub returns-in_ok-note-in-Clash-clause-refuted : goal.returns-in_ok-note-in-Clash-clause-refuted
returns-in_ok-note-in-Clash-clause-refuted g c =
    let same = same_problem (stored_of g.R.Rule.value_of) c.args.live.now.network.library c.run.new.live.network.library
    c.args.live.now.network.cells c.run.new.live.network.cells c.in_ok-end.ensures.ran.library
    c.in_ok-end.ensures.ran.rest in
    let h = rw c.in-Clash.is at c.in_ok-end.ensures.conflict in
    met_found _ _ _
    (met_noted (problem_of (stored_of g.R.Rule.value_of c.args.live.now.network.library) c.args.live.now.network.cells)
    c.args.search.now c.note.new.self.listed c.in_ok-copy-in-Clash.field-0 c.in-Clash.support c.note.new.self
    c.in_ok-nogood.ensures.stand
    (conflict_in _ _ _ _ _ _ same
    (ap set_of (c.worldview.ensures.same ∙ ap (λ (x : Stand). x.worldview) c.found.ensures.same)) refl h)
    c.in_ok-copy-in-Clash.ensures
    (rw c.found.ensures.same at c.in_ok-note-in-Clash.ensures.adds)
    (rw c.found.ensures.same at c.in_ok-note-in-Clash.ensures.only) (c.in_ok-nogood.ensures.unblocked (ap Ok
    c.in_default.is)))
