use Rattle.std.proofs.Common.{◌≡◌, ◌∙◌, Ok, ap, sym, subst}
use Rattle.prop_numbers.specs.Sets.{Members, set_of}
use Rattle.prop_procedures.specs.Kept.{stored_of}
use Rattle.prop_cells.specs.Data.{IsFree}
use Rattle.prop_scheduler.specs.Turns.{CallsNext}
use Rattle.prop_amb.specs.Search.{Stand, believed_with}
use Rattle.prop_amb.specs.Going.{work}
use Rattle.prop_amb.proofs.MetLaws.{believes_worldview}
use Rattle.prop_amb.proofs.SteppingLaws.{may_call}
use Rattle.prop_amb.proofs.stepping.take_step.Goals as goal

pub call_next-requires-clause-waits : goal.call_next-requires-clause-waits
call_next-requires-clause-waits g c =
    (may_call (work c.args.search.now c.args.live.now.network.cells c.args.live.now.agenda.line c.args.order.now)
    (c.in_ok-nogood.ensures.none (ap Ok c.in-None.is)) c.requires.may).waits

pub call_next-requires-clause-free : goal.call_next-requires-clause-free
call_next-requires-clause-free g c =
    let s = c.args.search.now in
    let d = c.args.live.now.network.cells in
    let as_was : c.worldview.result.now ≡ s.worldview =
    c.worldview.ensures.same ∙ ap (λ (x : Stand). x.worldview) c.found.ensures.same in
    let believed : set_of c.worldview.result.now ≡ believed_with s =
    ap set_of as_was ∙ believes_worldview s c.found.ensures.stand in
    subst (λ (u : Members). IsFree u d) (sym believed)
    (may_call (work s d c.args.live.now.agenda.line c.args.order.now)
    (c.in_ok-nogood.ensures.none (ap Ok c.in-None.is)) c.requires.may).free

pub returns-in_ok-call_next-in-None-clause-told : goal.returns-in_ok-call_next-in-None-clause-told
returns-in_ok-call_next-in-None-clause-told g c =
    let s = c.args.search.now in
    let d = c.args.live.now.network.cells in
    let as_was : c.worldview.result.now ≡ s.worldview =
    c.worldview.ensures.same ∙ ap (λ (x : Stand). x.worldview) c.found.ensures.same in
    let believed : set_of c.worldview.result.now ≡ believed_with s =
    ap set_of as_was ∙ believes_worldview s c.found.ensures.stand in (
      may_call (work s d c.args.live.now.agenda.line c.args.order.now)
          (c.in_ok-nogood.ensures.none (ap Ok c.in-None.is)) c.requires.may,
      c.found.ensures.same,
      subst (λ (u : Members). CallsNext g.O.Order.picks
          (stored_of g.R.Rule.value_of c.args.live.now.network.library) u c.in_ok-call_next-in-None.field-0 d
          c.args.live.now.agenda.line c.args.order.now c.call_next.new.live.network.cells
          c.call_next.new.live.agenda.line c.call_next.new.order) believed
          c.in_ok-call_next-in-None.ensures.called,
    )
