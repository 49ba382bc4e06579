use Rattle.std.proofs.Common.{◌≡◌, ◌∙◌, ◌+◌, ◌-◌, ◌⊎◌, Option, Some, None, Result, Ok, Err, refl, sym, ap}
use Rattle.std.proofs.Common.{inl, inr, arith}
use Rattle.prop_procedures.specs.Kept.{stored_of}
use Rattle.prop_cells.specs.Data.{problem_of}
use Rattle.prop_amb.specs.Search.{IsSearch}
use Rattle.prop_amb.specs.Going.{MayPass}
use Rattle.prop_amb.specs.declared.outcome.Outcome.{Outcome}
use Rattle.prop_amb.specs.declared.outcome.Outcome.TheVariants.{Settled, Unsettled}
use Rattle.prop_scheduler.specs.declared.outcome.Ended.{Ended}
use Rattle.prop_scheduler.specs.declared.outcome.Run.TheVariants.{Quiet, Spent}
use Rattle.prop_amb.specs.inner.Trying.{Attempted}
use Rattle.prop_amb.proofs.Blocked.{kept_block}
use Rattle.prop_amb.proofs.RefutingLaws.{pass_may}
use Rattle.prop_amb.proofs.OnWay.{OnTry}
use Rattle.prop_amb.proofs.SearchLaws.{kept_refute}
use Rattle.prop_amb.proofs.SettlingLaws.{rest_on, premises_in, search_in, search_from, attempted_in}
use Rattle.prop_amb.proofs.SettlingLaws.{contradiction_in, blamed_in, at_start, after_try, after_move, ended}
use Rattle.prop_amb.proofs.SettlingLaws.{first_consistent, all_moves, spent_earned, held_earned}
use Rattle.prop_amb.proofs.settling.settle.Goals as goal

abbrev end_of : {E : Type 0} → Option Outcome → Result (Ended (Option Outcome)) E → Option Outcome
end_of o (Ok x) = x.end
end_of o (Err e) = o

abbrev settled_now : Ended (Option Outcome)
settled_now = record { end = Some Settled; steps = 0 }

same_end : {E : Type 0} {r : Result (Ended (Option Outcome)) E} {o : Ended (Option Outcome)} → r ≡ Ok settled_now
    → r ≡ Ok o → Some Settled ≡ o.end
same_end {o = o} e f = ap (end_of o.end) (sym e ∙ f)

settled_at : {E : Type 0} {r : Result (Ended (Option Outcome)) E} {o : Ended (Option Outcome)} {outcome : Outcome}
    → r ≡ Ok settled_now → r ≡ Ok o → o.end ≡ Some outcome → outcome ≡ Settled
settled_at e f h = let same = same_end e f in cc

no_end : {E : Type 0} {r : Result (Ended (Option Outcome)) E} {o : Ended (Option Outcome)} → r ≡ Ok settled_now
    → r ≡ Ok o → o.end ≡ None → ⊥
no_end e f h = let same = same_end e f in cc

pub loop-tried-init : goal.loop-tried-init
loop-tried-init g c = record {
  same = refl;
  alive = c.requires.alive;
  within = omega arith;
  way = at_start g.O.Order.picks (stored_of g.R.Rule.value_of c.args.live.now.network.library) c.args.search.now
      c.args.live.now.network.cells c.args.live.now.agenda.line c.args.order.now c.requires.search
      c.requires.alive.under_way;
}

pub try_list-requires-clause-means : goal.try_list-requires-clause-means
try_list-requires-clause-means g c = rw c.loop-tried.invariant.same c.requires.means

pub try_list-requires-clause-alive : goal.try_list-requires-clause-alive
try_list-requires-clause-alive g c = c.loop-tried.invariant.alive

pub try_list-requires-clause-search : goal.try_list-requires-clause-search
try_list-requires-clause-search g c =
    search_from (stored_of g.R.Rule.value_of) c.args.live.now.network.library c.loop-tried.live.network.library
    c.args.live.now.network.cells c.loop-tried.live.network.cells c.loop-tried.search c.loop-tried.invariant.same
    c.loop-tried.invariant.way.rest c.loop-tried.invariant.way.search

pub returns-in_err-tried-clause-ran : goal.returns-in_err-tried-clause-ran
returns-in_err-tried-clause-ran g c = record {
  library = c.try_list.ensures.ran.library ∙ c.loop-tried.invariant.same;
  rest = rest_on c.args.live.now.network.cells c.loop-tried.live.network.cells c.try_list.new.live.network.cells
      c.loop-tried.invariant.way.rest c.try_list.ensures.ran.rest;
}

pub returns-in_err-tried-clause-alive : goal.returns-in_err-tried-clause-alive
returns-in_err-tried-clause-alive g c = c.try_list.ensures.alive

pub returns-in_err-tried-clause-learns : goal.returns-in_err-tried-clause-learns
returns-in_err-tried-clause-learns g c =
    let problem = problem_of (stored_of g.R.Rule.value_of c.args.live.now.network.library) c.args.live.now.network.cells
    in
    let learned : IsSearch problem c.try_list.new.search = search_in (stored_of g.R.Rule.value_of)
    c.args.live.now.network.library c.loop-tried.live.network.library c.args.live.now.network.cells
    c.loop-tried.live.network.cells c.try_list.new.search c.loop-tried.invariant.same
    c.loop-tried.invariant.way.rest c.try_list.ensures.search in
    record {
      premises = premises_in c.loop-tried.search c.try_list.new.search c.try_list.ensures.only
          ∙ c.loop-tried.invariant.way.premises;
      listed = λ m t. c.try_list.ensures.listed m (c.loop-tried.invariant.way.listed m t);
      search = learned;
      stand = c.try_list.ensures.stand;
      passed = kept_block problem c.try_list.new.search c.try_list.ensures.stand learned.reasons;
      earlier = kept_refute problem c.try_list.new.search c.try_list.ensures.stand learned.reasons;
    }

pub decide-requires-clause-alive : goal.decide-requires-clause-alive
decide-requires-clause-alive g c = c.try_list.ensures.alive

pub decide-requires-clause-stand : goal.decide-requires-clause-stand
decide-requires-clause-stand g c = c.try_list.ensures.stand

pub decide-requires-clause-search : goal.decide-requires-clause-search
decide-requires-clause-search g c =
    search_from (stored_of g.R.Rule.value_of) c.loop-tried.live.network.library c.try_list.new.live.network.library
    c.loop-tried.live.network.cells c.try_list.new.live.network.cells c.try_list.new.search
    c.try_list.ensures.ran.library c.try_list.ensures.ran.rest c.try_list.ensures.search

pub decide-requires-clause-refuted : goal.decide-requires-clause-refuted
decide-requires-clause-refuted g c = c.in_ok-tried.ensures.refuted

pub returns-in_err-end-clause-ran : goal.returns-in_err-end-clause-ran
returns-in_err-end-clause-ran g c = record {
  library = ap (λ n. n.library) c.decide.ensures.network ∙ c.try_list.ensures.ran.library
      ∙ c.loop-tried.invariant.same;
  rest = rw (ap (λ n. n.cells) c.decide.ensures.network)
      (rest_on c.args.live.now.network.cells c.loop-tried.live.network.cells c.try_list.new.live.network.cells
      c.loop-tried.invariant.way.rest c.try_list.ensures.ran.rest);
}

pub returns-in_err-end-clause-alive : goal.returns-in_err-end-clause-alive
returns-in_err-end-clause-alive g c = c.decide.ensures.alive

pub returns-in_err-end-clause-learns : goal.returns-in_err-end-clause-learns
returns-in_err-end-clause-learns g c =
    let problem = problem_of (stored_of g.R.Rule.value_of c.args.live.now.network.library) c.args.live.now.network.cells
    in
    let both = c.try_list.ensures.ran.library ∙ c.loop-tried.invariant.same in
    let rest : c.try_list.new.live.network.cells
    ≡ record c.args.live.now.network.cells { contents = c.try_list.new.live.network.cells.contents } =
    rest_on c.args.live.now.network.cells c.loop-tried.live.network.cells c.try_list.new.live.network.cells
    c.loop-tried.invariant.way.rest c.try_list.ensures.ran.rest in
    let learned : IsSearch problem c.decide.new.search = search_in (stored_of g.R.Rule.value_of)
    c.args.live.now.network.library c.try_list.new.live.network.library c.args.live.now.network.cells
    c.try_list.new.live.network.cells c.decide.new.search both rest c.decide.ensures.search in
    record {
      premises = c.decide.ensures.premises
          ∙ premises_in c.loop-tried.search c.try_list.new.search c.try_list.ensures.only
          ∙ c.loop-tried.invariant.way.premises;
      listed = λ m t. rw c.decide.ensures.listed (c.try_list.ensures.listed m (c.loop-tried.invariant.way.listed m t));
      search = learned;
      stand = c.decide.ensures.stand;
      passed = kept_block problem c.decide.new.search c.decide.ensures.stand learned.reasons;
      earlier = kept_refute problem c.decide.new.search c.decide.ensures.stand learned.reasons;
    }

pub returns-in-Some : goal.returns-in-Some
returns-in-Some g c =
    let some : c.in_ok-end.field-0.end ≡ Some c.in-Some.end = c.in-Some.is in
    let same = c.loop-tried.invariant.same in
    let way = c.loop-tried.invariant.way in
    let a : Attempted g.O.Order.picks (stored_of g.R.Rule.value_of c.loop-tried.live.network.library)
    c.loop-tried.search
    c.loop-tried.live.network.cells c.loop-tried.live.agenda.line c.loop-tried.order
    (c.args.budget - c.loop-tried.steps) c.in_ok-tried.field-0.end c.in_ok-tried.field-0.steps c.try_list.new.search
    c.try_list.new.live.network.cells c.try_list.new.live.agenda.line c.try_list.new.order =
    c.in_ok-tried.ensures.tried in
    let x : OnTry g.O.Order.picks (stored_of g.R.Rule.value_of c.args.live.now.network.library) c.args.search.now
    c.args.live.now.network.cells c.args.live.now.agenda.line c.args.order.now c.try_list.new.search
    c.try_list.new.live.network.cells c.try_list.new.live.agenda.line c.try_list.new.order
    (c.loop-tried.steps + c.in_ok-tried.field-0.steps) c.args.budget c.in_ok-tried.field-0.end =
    after_try g.O.Order.picks (stored_of g.R.Rule.value_of c.args.live.now.network.library) c.args.search.now
    c.args.live.now.network.cells c.args.live.now.agenda.line c.args.order.now c.loop-tried.search
    c.loop-tried.live.network.cells
    c.loop-tried.live.agenda.line c.loop-tried.order c.loop-tried.steps c.args.budget c.in_ok-tried.field-0.end
    c.in_ok-tried.field-0.steps c.try_list.new.search c.try_list.new.live.network.cells c.try_list.new.live.agenda.line
    c.try_list.new.order way c.loop-tried.invariant.within
    (attempted_in (stored_of g.R.Rule.value_of) c.args.live.now.network.library c.loop-tried.live.network.library
    g.O.Order.picks
    c.loop-tried.search c.loop-tried.live.network.cells c.loop-tried.live.agenda.line c.loop-tried.order
    (c.args.budget - c.loop-tried.steps) c.in_ok-tried.field-0.end c.in_ok-tried.field-0.steps c.try_list.new.search
    c.try_list.new.live.network.cells c.try_list.new.live.agenda.line c.try_list.new.order same a) in
    let both : c.try_list.new.live.network.library ≡ c.args.live.now.network.library = c.try_list.ensures.ran.library
    ∙ same in
    let as_was : c.decide.new.search ≡ c.try_list.new.search = rw some at c.in_ok-end.ensures.same in
    let line_as_was : c.decide.new.live.agenda.line ≡ c.try_list.new.live.agenda.line =
    rw some at c.in_ok-end.ensures.same_line in
    let t : OnTry g.O.Order.picks (stored_of g.R.Rule.value_of c.args.live.now.network.library) c.args.search.now
    c.args.live.now.network.cells c.args.live.now.agenda.line c.args.order.now c.decide.new.search
    c.decide.new.live.network.cells c.decide.new.live.agenda.line c.try_list.new.order
    (c.loop-tried.steps + c.in_ok-tried.field-0.steps) c.args.budget c.in_ok-tried.field-0.end =
    rw (ap (λ n. n.cells) c.decide.ensures.network) (ended g.O.Order.picks (stored_of g.R.Rule.value_of
    c.args.live.now.network.library) c.args.search.now
    c.args.live.now.network.cells c.args.live.now.agenda.line c.args.order.now c.try_list.new.search
    c.try_list.new.live.network.cells c.try_list.new.live.agenda.line c.try_list.new.order
    (c.loop-tried.steps + c.in_ok-tried.field-0.steps) c.args.budget c.in_ok-tried.field-0.end c.decide.new.search
    c.decide.new.live.agenda.line x as_was line_as_was) in
    let library = stored_of g.R.Rule.value_of c.args.live.now.network.library in
    let quiet : c.in-Some.end ≡ Settled
    → c.in_ok-tried.field-0.end ≡ Quiet = λ e. c.in_ok-end.ensures.settled (some ∙ ap Some e) in
    let unsettled : c.in-Some.end ≡ Unsettled
    → (c.in_ok-tried.field-0.end ≡ Spent) ⊎ ((c.args.budget - (c.loop-tried.steps + c.in_ok-tried.field-0.steps) ≡ 0)
    × MayPass c.decide.new.search) =
    λ e. rw as_was (c.in_ok-end.ensures.unsettled (some ∙ ap Some e)) in
    record {
      ran = record { library = ap (λ n. n.library) c.decide.ensures.network ∙ both; rest = t.rest };
      alive = c.decide.ensures.alive;
      learns = record {
        premises = t.premises;
        listed = t.listed;
        search = t.search;
        stand = t.stand;
        passed = kept_block (problem_of (stored_of g.R.Rule.value_of c.args.live.now.network.library)
            c.args.live.now.network.cells)
            c.decide.new.search t.stand t.search.reasons;
        earlier = kept_refute (problem_of (stored_of g.R.Rule.value_of c.args.live.now.network.library)
            c.args.live.now.network.cells) c.decide.new.search t.stand t.search.reasons;
      };
      settled = λ e. record {
        first = first_consistent g.O.Order.picks (stored_of g.R.Rule.value_of c.args.live.now.network.library)
            c.args.search.now c.args.live.now.network.cells c.args.live.now.agenda.line c.args.order.now
            c.decide.new.search
            c.decide.new.live.network.cells c.decide.new.live.agenda.line c.try_list.new.order
            (c.loop-tried.steps + c.in_ok-tried.field-0.steps) c.args.budget c.in_ok-tried.field-0.end t (quiet e);
        full = t.full (quiet e);
        settled = t.quiet (quiet e);
        rests = t.rests (quiet e);
      };
      contradiction = contradiction_in (stored_of g.R.Rule.value_of) c.args.live.now.network.library
          c.try_list.new.live.network.library c.args.live.now.network.cells c.try_list.new.live.network.cells
          c.try_list.new.search
          c.decide.new.search c.in-Some.end both x.rest as_was
          (rw some at c.in_ok-end.ensures.contradiction);
      named = blamed_in c.try_list.new.search c.decide.new.search c.in-Some.end as_was
          (rw some at c.in_ok-end.ensures.named);
      unsettled = λ e. record {
        spent = elim (unsettled e) [ inl q ↦ t.spent q | inr h ↦ omega (arith, h.0, t.within) ];
        earned = elim (unsettled e) [
          | inl q ↦ spent_earned g.O.Order.picks (stored_of g.R.Rule.value_of c.args.live.now.network.library)
              c.args.search.now c.args.live.now.network.cells c.args.live.now.agenda.line c.args.order.now
              c.decide.new.search
              c.decide.new.live.network.cells c.decide.new.live.agenda.line c.try_list.new.order
              (c.loop-tried.steps + c.in_ok-tried.field-0.steps) c.args.budget c.in_ok-tried.field-0.end t q
          | inr h ↦ held_earned g.O.Order.picks (stored_of g.R.Rule.value_of c.args.live.now.network.library)
              c.args.search.now
              c.args.live.now.network.cells c.args.live.now.agenda.line c.args.order.now c.decide.new.search
              c.decide.new.live.network.cells c.decide.new.live.agenda.line c.try_list.new.order
              (c.loop-tried.steps + c.in_ok-tried.field-0.steps) c.args.budget c.in_ok-tried.field-0.end t (omega
              (arith, h.0)) (pass_may c.decide.new.search h.1).0
              (pass_may c.decide.new.search h.1).1
        ];
        left = elim (unsettled e) [ inl q ↦ inl (t.leaves q) | inr h ↦ inr h.1 ];
      };
      steps = t.within;
      moves = all_moves g.O.Order.picks (stored_of g.R.Rule.value_of c.args.live.now.network.library) c.args.search.now
          c.args.live.now.network.cells c.args.live.now.agenda.line c.args.order.now c.decide.new.search
          c.decide.new.live.network.cells c.decide.new.live.agenda.line c.try_list.new.order
          (c.loop-tried.steps + c.in_ok-tried.field-0.steps) c.args.budget c.in_ok-tried.field-0.end t;
      falls = t.falls;
      at_rest = λ resting.
          (let r : (c.in_ok-tried.field-0.end ≡ Quiet)
          × (c.loop-tried.steps + c.in_ok-tried.field-0.steps ≡ 0) =
          t.at_rest resting
          in (settled_at (c.decide.ensures.quiet r.0) c.in_ok-end.was some, r.1));
      gone = t.gone;
    }

pub loop-tried-smaller : goal.loop-tried-smaller
loop-tried-smaller g c =
    let none = c.in-None.is in
    omega (arith, c.in_ok-end.ensures.some none, c.in_ok-end.ensures.few)

pub loop-tried-preserved : goal.loop-tried-preserved
loop-tried-preserved g c =
    let none : c.in_ok-end.field-0.end ≡ None = c.in-None.is in
    let same = c.loop-tried.invariant.same in
    let way = c.loop-tried.invariant.way in
    let a : Attempted g.O.Order.picks (stored_of g.R.Rule.value_of c.loop-tried.live.network.library)
    c.loop-tried.search
    c.loop-tried.live.network.cells c.loop-tried.live.agenda.line c.loop-tried.order
    (c.args.budget - c.loop-tried.steps) c.in_ok-tried.field-0.end c.in_ok-tried.field-0.steps c.try_list.new.search
    c.try_list.new.live.network.cells c.try_list.new.live.agenda.line c.try_list.new.order =
    c.in_ok-tried.ensures.tried in
    let x : OnTry g.O.Order.picks (stored_of g.R.Rule.value_of c.args.live.now.network.library) c.args.search.now
    c.args.live.now.network.cells c.args.live.now.agenda.line c.args.order.now c.try_list.new.search
    c.try_list.new.live.network.cells c.try_list.new.live.agenda.line c.try_list.new.order
    (c.loop-tried.steps + c.in_ok-tried.field-0.steps) c.args.budget c.in_ok-tried.field-0.end =
    after_try g.O.Order.picks (stored_of g.R.Rule.value_of c.args.live.now.network.library) c.args.search.now
    c.args.live.now.network.cells c.args.live.now.agenda.line c.args.order.now c.loop-tried.search
    c.loop-tried.live.network.cells
    c.loop-tried.live.agenda.line c.loop-tried.order c.loop-tried.steps c.args.budget c.in_ok-tried.field-0.end
    c.in_ok-tried.field-0.steps c.try_list.new.search c.try_list.new.live.network.cells c.try_list.new.live.agenda.line
    c.try_list.new.order way c.loop-tried.invariant.within
    (attempted_in (stored_of g.R.Rule.value_of) c.args.live.now.network.library c.loop-tried.live.network.library
    g.O.Order.picks
    c.loop-tried.search c.loop-tried.live.network.cells c.loop-tried.live.agenda.line c.loop-tried.order
    (c.args.budget - c.loop-tried.steps) c.in_ok-tried.field-0.end c.in_ok-tried.field-0.steps c.try_list.new.search
    c.try_list.new.live.network.cells c.try_list.new.live.agenda.line c.try_list.new.order same a) in
    let both : c.try_list.new.live.network.library ≡ c.args.live.now.network.library = c.try_list.ensures.ran.library
    ∙ same in
    let some = c.in_ok-end.ensures.some none in
    record {
      same = ap (λ n. n.library) c.decide.ensures.network ∙ both;
      alive = c.decide.ensures.alive;
      within = omega (arith, some, c.in_ok-end.ensures.few, x.within);
      way = rw (ap (λ n. n.cells) c.decide.ensures.network) (after_move g.O.Order.picks (stored_of g.R.Rule.value_of
          c.args.live.now.network.library) c.args.search.now
          c.args.live.now.network.cells c.args.live.now.agenda.line c.args.order.now c.try_list.new.search
          c.try_list.new.live.network.cells c.try_list.new.live.agenda.line c.try_list.new.order
          (c.loop-tried.steps + c.in_ok-tried.field-0.steps) c.args.budget c.in_ok-tried.field-0.end c.decide.new.search
          c.decide.new.live.agenda.line c.in_ok-end.field-0.steps x
          (λ q. no_end (c.decide.ensures.quiet q) c.in_ok-end.was none)
          c.decide.ensures.premises c.decide.ensures.listed (rw both at c.decide.ensures.search)
          (rw (c.decide.ensures.network, both) at c.decide.ensures.alive.under_way) some (c.in_ok-end.ensures.moves
          none)
          (c.in_ok-end.ensures.shifted none));
    }
